use Rattle.std.proofs.Common.{◌≡◌, sym, ap, subst, ◌∙◌, arith, ℕ, ◌+◌, ◌<◌, ◌≤◌, ◌∷◌, ◌++◌, [], append-nil, eqb-true, length, map, take, take_all, get_or, nat_eq, List, Option, Some, None, option_copied, option_map}
use Rattle.std.specs.Prelude.{filter_map}
use Rattle.std.specs.List.{cons_option}
use Rattle.std.proofs.lemmas.Bool.{OnTrue_at, OnTrue_from}
use Rattle.std.proofs.lemmas.List.{take_more}
use Rattle.hk_chain.specs.Facts.{FactsView}
use Rattle.hk_chain.specs.Kept.{at_place}
use Rattle.hk_chain.specs.declared.page.Page.{Page}
use Rattle.hk_eval.specs.PlanTable.{table_of}
use Rattle.hk_fix.specs.Fix.{Ending}
use Rattle.hk_fix.specs.Outcomes.{outcome_view}
use Rattle.hk_fix.specs.Report.{ending_at, upto}
use Rattle.hk_fix.specs.Results.{ResultsView}
use Rattle.hk_store.specs.Entry.{EntryView}
use Rattle.hk_store.specs.Traits.{sha_digests}
use Rattle.hk_reuse.specs.Image.{entry_by, entry_with}
use Rattle.hk_replay.specs.PlanItems.{items_of}
use Rattle.hk_replay.specs.Storing.{AreStorable, facts_by}
use Rattle.hk_replay.proofs.LeftEntries.{leaves-turn}
use Rattle.hk_replay.proofs.Matching.{table-items}
use Rattle.hk_replay.proofs.leaving.leaves.Goals as goal
use Rattle.hk_replay.proofs.leaving.leaves.Goals.{in-Some+else-at-len+in_ok-is_own+else-not-is_own, in_default}

pub is_left-requires-clause-facts : goal.is_left-requires-clause-facts
is_left-requires-clause-facts c =
    let plan = c.args.plan.now in
    let results : ResultsView = c.args.results.now in
    let n = c.loop-number.number in
    let pages : c.deref-in-Some.result.now ≡ results.pages = c.deref-in-Some.ensures.value ∙ ap (λ (r : ResultsView). r.pages) c.results.view_is in
    let outcomes : map outcome_view c.deref.result.now ≡ results.outcomes = ap (map outcome_view) c.deref.ensures.value ∙ ap (λ (r : ResultsView). r.outcomes) c.results.view_is in
    let done : facts_by (ending_at results.outcomes n) ≡ Some c.in-Some.facts.now = sym (c.done_facts.ensures ∙ ap (λ (l : List Ending). facts_by (ending_at l n)) outcomes) ∙ ap option_copied c.in-Some.is in
    subst (λ (l : List (Option Page)). AreStorable plan (at_place l) c.in-Some.facts.now) (sym pages) (c.requires.results n c.in-Some.facts.now (omega (arith, c.loop-number-test.true, c.count-count.ensures.items)) done)

pub loop-number-preserved : goal.loop-number-preserved
loop-number-preserved c =
    let plan = c.args.plan.now in
    let results : ResultsView = c.args.results.now in
    let kept : List EntryView = c.args.kept.now in
    let n = c.loop-number.number in
    let at = c.loop-number.at in
    let ends : ℕ → Ending = ending_at results.outcomes in
    let k = at_place results.pages in
    let outcomes : map outcome_view c.deref.result.now ≡ results.outcomes = ap (map outcome_view) c.deref.ensures.value ∙ ap (λ (r : ResultsView). r.outcomes) c.results.view_is in
    let done : option_copied c.done_facts.result ≡ facts_by (ends n) = c.done_facts.ensures ∙ ap (λ (l : List Ending). facts_by (ending_at l n)) outcomes in
    let turn = leaves-turn sha_digests (items_of plan) ends k n (option_copied c.done_facts.result) done in
    let before : List EntryView = filter_map (λ i. entry_by sha_digests (items_of plan) ends k i (ends i)) (upto n) in
    let more : (o : Option FactsView) → option_copied c.done_facts.result ≡ o → filter_map (λ i. entry_by sha_digests (items_of plan) ends k i (ends i)) (upto (n + 1)) ≡ before ++ cons_option (option_map (entry_with sha_digests (items_of plan) ends k n) o) [] = λ o e. turn ∙ ap (λ (f : Option FactsView). before ++ cons_option (option_map (entry_with sha_digests (items_of plan) ends k n) f) []) e in
    elim c.match-done_facts.branch as (λ x. (filter_map (λ i. entry_by sha_digests (items_of plan) ends k i (ends i)) (upto (n + 1)) ≡ take c.match-done_facts.at kept) × (c.match-done_facts.at ≤ length kept)) [
      | in-Some+else-at-len+in_ok-is_own+else-not-is_own w ↦
          let pages : w.deref-in-Some.result.now ≡ results.pages = w.deref-in-Some.ensures.value ∙ ap (λ (r : ResultsView). r.pages) c.results.view_is in
          let found : EntryView = w.index.result.now in
          let own : entry_with sha_digests (items_of plan) ends k n w.in-Some.facts.now ≡ found = sym (ap (λ (l : List (Option Page)). entry_with sha_digests (items_of plan) ends (at_place l) n w.in-Some.facts.now) pages) ∙ OnTrue_at w.if-not-is_own.false w.in_ok-is_own.ensures in
          let lt : at < length kept = omega (arith, w.if-at-len.false, w.len.ensures, ap (λ (l : List EntryView). length l) c.kept.view_is) in
          let here : found ≡ get_or kept at found = w.index.ensures ∙ ap (λ (l : List EntryView). get_or l at found) c.kept.view_is in
          let next : take (at + 1) kept ≡ take at kept ++ found ∷ [] = take_more kept at found lt ∙ ap (λ e. take at kept ++ e ∷ []) (sym here) in (
            more (Some w.in-Some.facts.now) (ap option_copied w.in-Some.is) ∙ ((λ j. c.loop-number.invariant.0 j ++ own j ∷ []) ∙ (sym next ∙ ap (λ m. take m kept) (sym w.at-is))),
            omega (arith, w.at-is, lt),
          )
      | in_default w ↦ (
        (more None (ap option_copied w.in_default.is) ∙ append-nil before) ∙ (c.loop-number.invariant.0 ∙ ap (λ m. take m kept) (sym w.at-is)),
        omega (arith, w.at-is, c.loop-number.invariant.1),
      )
    ]

pub returns : goal.returns
returns c =
    let plan = c.args.plan.now in
    let results : ResultsView = c.args.results.now in
    let kept : List EntryView = c.args.kept.now in
    let ends : ℕ → Ending = ending_at results.outcomes in
    let count : c.loop-number.number ≡ (table_of plan).layout.items = omega (arith, c.loop-number-test.false, c.loop-number.auto.number-end, c.count-count.ensures.items, table-items plan) in
    OnTrue_from (nat_eq c.loop-number.at c.len-2.result) _ (λ e.
    let all : length kept ≤ c.loop-number.at = omega (arith, eqb-true c.loop-number.at c.len-2.result e, c.len-2.ensures, ap (λ (l : List EntryView). length l) c.kept.view_is) in
    sym (ap (λ m. filter_map (λ i. entry_by sha_digests (items_of plan) ends (at_place results.pages) i (ends i)) (upto m)) count)
    ∙ (c.loop-number.invariant.0 ∙ take_all c.loop-number.at kept all))
