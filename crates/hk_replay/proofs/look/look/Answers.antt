use Rattle.std.proofs.Common.{◌≡◌, sym, ap, ◌∙◌, subst, arith, rules, [], List, ℕ, map, false, true}
use Rattle.hk_fix.specs.Pages.{lacking}
use Rattle.hk_replay.specs.Finding.{told_page, Stands}
use Rattle.hk_replay.specs.declared.record.Step.{Step}
use Rattle.hk_replay.specs.declared.record.Step.TheVariants.{Asked}
use Rattle.hk_replay.specs.Replays.{same_pages}
use Rattle.hk_eval.specs.Told.{told_pages, AllTold}
use Rattle.hk_replay.proofs.Passing.{stands, all-told, group-passes, group-breaks, group-quiet, group-kept, no-members, told-all}
use Rattle.hk_replay.proofs.look.look.Goals as goal

pub returns-then-not-is_same-clause-found : goal.returns-then-not-is_same-clause-found
returns-then-not-is_same-clause-found c =
    let k = told_pages c.args.told.now in
    let ps : List ℕ = c.in-Asked.pairs.items in
    let none : lacking k ps ≡ [] = ap (lacking k) (sym c.as_slice.ensures.value) ∙ (sym c.in_ok-lacks-in-Asked.ensures ∙ no-members c.in_ok-lacks-in-Asked.lacks.items (search rules)) in
    let other : same_pages (map (told_page k) ps) c.in-Asked.digests.items ≡ false = ap (λ l. same_pages (map (told_page k) l) c.in-Asked.digests.items) (sym c.as_slice-in-Asked.ensures.value) ∙ (ap (λ l. same_pages (map (told_page k) c.as_slice-in-Asked.result.now) l) (sym c.as_slice-in-Asked-2.ensures.value) ∙ search rules) in
    let here : Stands c.args.steps.now c.loop-at.at (Asked c.in-Asked.pairs c.in-Asked.digests) = subst (λ (s : Step). Stands c.args.steps.now c.loop-at.at s) c.in-Asked.is (stands c.args.steps.now c.loop-at.at c.index-steps-at.result (omega arith) c.index-steps-at.is) in
    (omega arith, group-breaks k c.args.steps.now c.loop-at.at c.in-Asked.pairs c.in-Asked.digests here c.loop-at.invariant.1 (map (told_page k) ps) (all-told k ps none) other, group-quiet c.args.steps.now c.loop-at.at c.in-Asked.pairs c.in-Asked.digests here)

pub loop-at-preserved : goal.loop-at-preserved
loop-at-preserved c =
    let k = told_pages c.args.told.now in
    let ps : List ℕ = c.in-Asked.pairs.items in
    let none : lacking k ps ≡ [] = ap (lacking k) (sym c.as_slice.ensures.value) ∙ (sym c.in_ok-lacks-in-Asked.ensures ∙ no-members c.in_ok-lacks-in-Asked.lacks.items (search rules)) in
    let equal : same_pages (map (told_page k) ps) c.in-Asked.digests.items ≡ true = ap (λ l. same_pages (map (told_page k) l) c.in-Asked.digests.items) (sym c.as_slice-in-Asked.ensures.value) ∙ (ap (λ l. same_pages (map (told_page k) c.as_slice-in-Asked.result.now) l) (sym c.as_slice-in-Asked-2.ensures.value) ∙ search rules) in
    let here : Stands c.args.steps.now c.loop-at.at (Asked c.in-Asked.pairs c.in-Asked.digests) = subst (λ (s : Step). Stands c.args.steps.now c.loop-at.at s) c.in-Asked.is (stands c.args.steps.now c.loop-at.at c.index-steps-at.result (omega arith) c.index-steps-at.is) in (
      omega arith,
      group-passes k c.args.steps.now c.loop-at.at c.in-Asked.pairs c.in-Asked.digests here c.loop-at.invariant.1 (record { pages = map (told_page k) ps; known = all-told k ps none; same = equal }),
      group-quiet c.args.steps.now c.loop-at.at c.in-Asked.pairs c.in-Asked.digests here ∙ c.loop-at.invariant.2,
      group-kept c.args.steps.now c.loop-at.at c.in-Asked.pairs c.in-Asked.digests here ∙ c.loop-at.invariant.3,
    )

pub are_same-requires : goal.are_same-requires
are_same-requires c =
    let k = told_pages c.args.told.now in
    let ps : List ℕ = c.in-Asked.pairs.items in
    let none : lacking k ps ≡ [] = ap (lacking k) (sym c.as_slice.ensures.value) ∙ (sym c.in_ok-lacks-in-Asked.ensures ∙ no-members c.in_ok-lacks-in-Asked.lacks.items (search rules)) in
    subst (AllTold k) (sym c.as_slice-in-Asked.ensures.value) (told-all k ps none)
