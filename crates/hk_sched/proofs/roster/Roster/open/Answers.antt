use Rattle.std.proofs.Common.{map, length, ap, ◌≡◌, ◌∙◌, arith}
use Rattle.std.proofs.lemmas.List.{length-map}
use Rattle.hk_sched.specs.Stacks.{StacksView}
use Rattle.hk_sched.specs.Places.{standing}
use Rattle.hk_sched.specs.Rosters.{first_stack}
use Rattle.hk_sched.proofs.Firsts.{first-fits}
use Rattle.hk_sched.proofs.roster.Roster.open.Goals as goal

pub invariant_of-result : goal.invariant_of-result
invariant_of-result g c =
    let pairs : c.in_ok-stacks.stacks.pairs ≡ length c.kept.inside.pages.items = ap (λ (s : StacksView). s.pairs) c.in_ok-stacks.ensures ∙ omega (arith, c.len-pairs.ensures, c.kept.inside.pages.ok.0) in
    first-fits g.M.Compiler.meaning c.kept.inside.pages.items c.kept.inside.facts.items (map standing c.in_ok-places.places.items) c.in_ok-cursors.cursors.items c.stand_fresh.new.stacks c.in_ok-places.ensures
    (omega (arith, c.in_ok-cursors.ensures.len, c.in_ok-cursors.cursors.ok.0, c.len.ensures, c.in_ok-places.places.ok.0, length-map c.in_ok-places.places.items standing))
    (c.stand_fresh.ensures ∙ (λ j. record { pairs = pairs j; stack_of = map first_stack (map standing (c.deref.ensures.value j)) }))
