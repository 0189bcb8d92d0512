use Rattle.std.proofs.Common.{arith, ◌≡◌, ◌∙◌, length, map, ap, ◌∷◌, true}
use Rattle.hk_chain.specs.Kept.{at_place}
use Rattle.hk_fix.specs.Outcomes.{outcome_view}
use Rattle.hk_sched.specs.Standings.{ending_at, is_settled}
use Rattle.hk_sched.specs.Places.{standing}
use Rattle.hk_sched.proofs.Listing.{maps-more, length-more, all-rest}
use Rattle.hk_sched.proofs.closing.outcomes.Goals as goal

pub push_reserved-requires : goal.push_reserved-requires
push_reserved-requires g c =
    let here : length c.loop-place.place-iterator.rest.items ≡ length (c.in-Some.place ∷ c.next.new.self.rest.items) = ap length c.in-Some.ensures.steps.0 in
    omega (arith, c.loop-place.invariant.left, c.loop-place.invariant.room, c.requires.room, c.loop-place.outcomes.ok.0, here)

pub loop-place-preserved : goal.loop-place-preserved
loop-place-preserved g c =
    let here : length c.loop-place.place-iterator.rest.items ≡ length (c.in-Some.place ∷ c.next.new.self.rest.items) = ap length c.in-Some.ensures.steps.0 in
    record {
      done =
          ap (map outcome_view) c.push_reserved.ensures.items
          ∙ maps-more outcome_view (ending_at g.M.Compiler.meaning (at_place c.args.known.now)) standing c.loop-place.outcomes.items c.loop-place.yielded c.outcome.result c.in-Some.place c.loop-place.invariant.done c.outcome.ensures;
      left = omega (arith, c.loop-place.invariant.left, here, ap length c.push_reserved.ensures.items, length-more c.loop-place.outcomes.items c.outcome.result);
      settled = all-rest (λ p. is_settled (standing p) ≡ true) c.in-Some.place c.next.new.self.rest.items c.loop-place.place-iterator.rest.items c.in-Some.ensures.steps.0 c.loop-place.invariant.settled;
      room = c.push_reserved.ensures.capacity ∙ c.loop-place.invariant.room;
    }
