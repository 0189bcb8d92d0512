use Rattle.std.proofs.Common.{◌∙◌, ap, arith, length}
use Rattle.std.proofs.lemmas.List.{length-map}
use Rattle.hk_chain.specs.Layout.{Shape, pairs}
use Rattle.hk_sched.specs.Standings.{RosterView, first_standing}
use Rattle.hk_sched.specs.Board.{events_left}
use Rattle.hk_sched.proofs.Events.{first-events}
use Rattle.hk_sched.proofs.board.Board.open.Goals as goal

pub invariant_of-result : goal.invariant_of-result
invariant_of-result g c =
    let events = first-events g.row.M.Denot c.args.kept in
    let some = ap (λ (r : RosterView g.row.M.Denot). events_left r.known r.places) c.in_ok-open.ensures in (
      record {
        layout = rw c.get.ensures at c.items-items.ensures.valid;
        pairs_known = ap (λ (r : RosterView g.row.M.Denot). length r.known) c.in_ok-open.ensures ∙ c.requires.page_count;
        items_placed = ap (λ (r : RosterView g.row.M.Denot). length r.places) c.in_ok-open.ensures ∙ length-map c.args.kept.facts (first_standing {X = g.row.M.Denot}) ∙ c.requires.facts_count;
        events =
            omega (
              arith,
              events,
              some,
              ap length c.in_ok-with_capacity-2.ensures.items,
              c.in_ok-with_capacity-2.ensures.exact,
              c.items-items.ensures.value,
              c.pairs-pairs.ensures.value,
              ap pairs c.get-2.ensures,
              ap (λ (l : Shape). l.items) c.get.ensures,
              c.requires.page_count,
              c.requires.facts_count,
            );
        endings = omega (arith, c.in_ok-with_capacity.ensures.exact, c.items-items.ensures.value, ap (λ (l : Shape). l.items) c.get.ensures);
      },
      c.in_ok-with_capacity.ensures.items,
    )
