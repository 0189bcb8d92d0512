use Rattle.std.proofs.Common.{◌≡◌, ap, ◌∙◌, arith, None, not, get_or}
use Rattle.hk_chain.specs.Kept.{at_place}
use Rattle.hk_fix.proofs.Orders.{none-of}
use Rattle.hk_fix.proofs.Steps.{start-walking, walk-on, set-none}
use Rattle.hk_fix.proofs.cycles.walk.Goals as goal

pub loop-walks-init : goal.loop-walks-init
loop-walks-init c = record { way = start-walking c.args.leads.now c.args.walks.now c.args.start; in_range = c.requires.in_range }

pub loop-walks-smaller : goal.loop-walks-smaller
loop-walks-smaller c =
    let none : at_place c.loop-walks.walks c.loop-walks.current ≡ None = none-of (get_or c.loop-walks.walks c.loop-walks.current None) (c.is_none.ensures ∙ ap not c.loop-walks-test.true) in
    omega (arith, c.loop-walks.auto.walks, c.requires.count, c.loop-walks.invariant.in_range, set-none c.loop-walks.walks c.loop-walks.current c.args.start (omega (arith, c.loop-walks.auto.walks, c.requires.count, c.loop-walks.invariant.in_range)) none)

pub loop-walks-preserved : goal.loop-walks-preserved
loop-walks-preserved c =
    let none : at_place c.loop-walks.walks c.loop-walks.current ≡ None = none-of (get_or c.loop-walks.walks c.loop-walks.current None) (c.is_none.ensures ∙ ap not c.loop-walks-test.true) in
    record {
      way = rw (← c.in-Some.is) (walk-on c.args.leads.now c.args.walks.now c.args.start c.loop-walks.current c.loop-walks.walks c.loop-walks.invariant.way c.requires.count c.loop-walks.invariant.in_range none);
      in_range = c.requires.range c.loop-walks.current c.in-Some.next c.in-Some.is;
    }

pub returns-in-None : goal.returns-in-None
returns-in-None c =
    let none : at_place c.loop-walks.walks c.loop-walks.current ≡ None = none-of (get_or c.loop-walks.walks c.loop-walks.current None) (c.is_none.ensures ∙ ap not c.loop-walks-test.true) in
    let end : at_place c.args.leads.now c.loop-walks.current ≡ None = c.in-None.is in
    record {
      hit = None;
      way = rw (← end) (walk-on c.args.leads.now c.args.walks.now c.args.start c.loop-walks.current c.loop-walks.walks c.loop-walks.invariant.way c.requires.count c.loop-walks.invariant.in_range none);
      own = λ w e. cc;
      other = λ e w f. cc;
    }
