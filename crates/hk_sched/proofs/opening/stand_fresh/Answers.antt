use Rattle.std.proofs.Common.{map, refl, sym, ap, ◌∙◌, ◌≡◌, ◌<◌, ◌-◌, length, arith, Some}
use Rattle.std.proofs.lemmas.List.{length-map}
use Rattle.hk_sched.specs.declared.stacks.Stack.TheVariants.{Fresh}
use Rattle.hk_sched.specs.Stacks.{StacksView}
use Rattle.hk_sched.specs.Places.{standing}
use Rattle.hk_sched.specs.Rosters.{first_stack}
use Rattle.hk_sched.proofs.Firsts.{stood-none, stood-more, stood-same, stood-all}
use Rattle.hk_sched.proofs.Rosters.{place-at}
use Rattle.hk_sched.proofs.opening.stand_fresh.Goals as goal

pub loop-left-init : goal.loop-left-init
loop-left-init g c = record { pairs = refl; stood = rw c.requires.empty (stood-none (map standing c.args.places.now) (length c.args.places.now) (sym (length-map c.args.places.now standing))) }

pub loop-left-preserved-then-is_unbegun : goal.loop-left-preserved-then-is_unbegun
loop-left-preserved-then-is_unbegun g c =
    let lt : c.loop-left.left - 1 < length c.args.places.now = omega (arith, c.loop-left.invariant.stood.within, c.loop-left-test.true, length-map c.args.places.now standing) in
    let at = place-at c.args.places.now (c.loop-left.left - 1) (c.loop-left.left - 1) c.index-places-left.result c.index-places-left.is refl lt in
    record {
      pairs = ap (λ (s : StacksView). s.pairs) c.push.ensures ∙ c.loop-left.invariant.pairs;
      stood = rw c.push.ensures (stood-more (map standing c.args.places.now) c.loop-left.left c.loop-left.stacks.stack_of c.loop-left.invariant.stood c.loop-left-test.true (Some Fresh) (sym (ap first_stack at ∙ c.if-is_unbegun.ensures)));
    }

pub loop-left-preserved : goal.loop-left-preserved
loop-left-preserved g c =
    let lt : c.loop-left.left - 1 < length c.args.places.now = omega (arith, c.loop-left.invariant.stood.within, c.loop-left-test.true, length-map c.args.places.now standing) in
    let at = place-at c.args.places.now (c.loop-left.left - 1) (c.loop-left.left - 1) c.index-places-left.result c.index-places-left.is refl lt in
    record {
      pairs = c.loop-left.invariant.pairs;
      stood = stood-same (map standing c.args.places.now) c.loop-left.left c.loop-left.stacks.stack_of c.loop-left.invariant.stood c.loop-left-test.true (ap first_stack at ∙ c.if-is_unbegun.ensures);
    }

pub returns : goal.returns
returns g c =
    let zero : c.loop-left.left ≡ 0 = omega (arith, c.loop-left-test.false) in
    let all = stood-all (map standing c.args.places.now) c.loop-left.stacks.stack_of (rw zero at c.loop-left.invariant.stood) in
    λ j. record { pairs = c.loop-left.invariant.pairs j; stack_of = all j }
