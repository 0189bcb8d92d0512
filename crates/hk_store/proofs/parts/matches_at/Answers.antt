use Rattle.std.proofs.Common.{◌+◌, ◌-◌, List, subst, arith, Bor, Vec, Global}
use Rattle.hk_base.specs.Bytes.{Bytes}
use Rattle.std.proofs.lemmas.Result.{err_from_is_err_and}
use Rattle.hk_store.specs.Entry.{MatchView}
use Rattle.hk_store.specs.Reading.{each}
use Rattle.hk_store.specs.StoreReading.{a_match}
use Rattle.hk_store.proofs.Readings.{each-more, err-each}
use Rattle.hk_store.proofs.parts.matches_at.Goals as goal

pub returns-in_err-found : goal.returns-in_err-found
returns-in_err-found c =
    let p = err_from_is_err_and c.from_residual.result c.from_residual.ensures.1 in
    rw (p.1, p.2) (err-each (λ earlier. a_match) c.args.count c.loop-done._done c.loop-done.matches.items c.loop-done.rest.now c.args.bytes.now (λ (q : MatchView × Bor Bytes). (q.0, q.1.now)) (λ (q : Vec MatchView Global × Bor Bytes). (q.0.items, q.1.now)) _ c.loop-done-test.true c.loop-done.invariant.gives c.in_err-found.ensures)

pub loop-done-preserved : goal.loop-done-preserved
loop-done-preserved c =
    record {
      few = omega (arith, c.loop-done-test.true);
      gives = λ o g. c.loop-done.invariant.gives o (each-more (λ earlier. a_match) c.args.count c.loop-done._done c.loop-done.matches.items c.loop-done.rest.now c.in_ok-found.found c.in_ok-found.next.now c.loop-done-test.true c.in_ok-found.ensures o
          (subst (λ (l : List MatchView). each (c.args.count - (c.loop-done._done + 1)) (λ earlier. a_match) l c.in_ok-found.next.now o) c.in_ok-push.ensures.items g));
    }
