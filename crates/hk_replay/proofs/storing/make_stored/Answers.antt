use Rattle.std.proofs.Common.{◌≡◌, sym, ap, subst, ◌∙◌, arith, ℕ, ◌+◌, ◌∷◌, ◌++◌, [], append-nil, map, List, Option, Some, None, option_copied, option_map}
use Rattle.std.specs.Prelude.{filter_map}
use Rattle.std.specs.List.{cons_option}
use Rattle.hk_chain.specs.Facts.{FactsView}
use Rattle.hk_chain.specs.Kept.{at_place}
use Rattle.hk_chain.specs.declared.page.Page.{Page}
use Rattle.hk_eval.specs.PlanTable.{table_of}
use Rattle.hk_fix.specs.Fix.{Ending}
use Rattle.hk_fix.specs.Outcomes.{outcome_view}
use Rattle.hk_fix.specs.Report.{ending_at, upto}
use Rattle.hk_fix.specs.Results.{ResultsView}
use Rattle.hk_store.specs.Entry.{EntryView}
use Rattle.hk_store.specs.Traits.{sha_digests}
use Rattle.hk_reuse.specs.Image.{entry_by, entry_with}
use Rattle.hk_replay.specs.PlanItems.{items_of}
use Rattle.hk_replay.specs.Storing.{AreStorable, facts_by}
use Rattle.hk_replay.proofs.LeftEntries.{leaves-turn}
use Rattle.hk_replay.proofs.Matching.{table-items}
use Rattle.hk_replay.proofs.storing.make_stored.Goals as goal
use Rattle.hk_replay.proofs.storing.make_stored.Goals.{in-Some+in_ok-entry+in_ok-push, in_default}

pub entry_of-requires-clause-facts : goal.entry_of-requires-clause-facts
entry_of-requires-clause-facts c =
    let plan = c.args.plan.now in
    let results : ResultsView = c.args.results.now in
    let n = c.loop-number.number in
    let pages : c.deref-in-Some.result.now ≡ results.pages = c.deref-in-Some.ensures.value ∙ ap (λ (r : ResultsView). r.pages) c.results.view_is in
    let outcomes : map outcome_view c.deref.result.now ≡ results.outcomes = ap (map outcome_view) c.deref.ensures.value ∙ ap (λ (r : ResultsView). r.outcomes) c.results.view_is in
    let done : facts_by (ending_at results.outcomes n) ≡ Some c.in-Some.facts.now = sym (c.done_facts.ensures ∙ ap (λ (l : List Ending). facts_by (ending_at l n)) outcomes) ∙ ap option_copied c.in-Some.is in
    subst (λ (l : List (Option Page)). AreStorable plan (at_place l) c.in-Some.facts.now) (sym pages) (c.requires.results n c.in-Some.facts.now (omega (arith, c.loop-number-test.true, c.count-count.ensures.items)) done)

pub loop-number-preserved : goal.loop-number-preserved
loop-number-preserved c =
    let plan = c.args.plan.now in
    let results : ResultsView = c.args.results.now in
    let n = c.loop-number.number in
    let ends : ℕ → Ending = ending_at results.outcomes in
    let k = at_place results.pages in
    let outcomes : map outcome_view c.deref.result.now ≡ results.outcomes = ap (map outcome_view) c.deref.ensures.value ∙ ap (λ (r : ResultsView). r.outcomes) c.results.view_is in
    let done : option_copied c.done_facts.result ≡ facts_by (ends n) = c.done_facts.ensures ∙ ap (λ (l : List Ending). facts_by (ending_at l n)) outcomes in
    let turn = leaves-turn sha_digests (items_of plan) ends k n (option_copied c.done_facts.result) done in
    let before : List EntryView = filter_map (λ i. entry_by sha_digests (items_of plan) ends k i (ends i)) (upto n) in
    let more : (o : Option FactsView) → option_copied c.done_facts.result ≡ o → filter_map (λ i. entry_by sha_digests (items_of plan) ends k i (ends i)) (upto (n + 1)) ≡ before ++ cons_option (option_map (entry_with sha_digests (items_of plan) ends k n) o) [] = λ o e. turn ∙ ap (λ (f : Option FactsView). before ++ cons_option (option_map (entry_with sha_digests (items_of plan) ends k n) f) []) e in
    elim c.match-done_facts.branch as (λ x. c.match-done_facts.entries.items ≡ filter_map (λ i. entry_by sha_digests (items_of plan) ends k i (ends i)) (upto (n + 1))) [
      | in-Some+in_ok-entry+in_ok-push w ↦
          let pages : w.deref-in-Some.result.now ≡ results.pages = w.deref-in-Some.ensures.value ∙ ap (λ (r : ResultsView). r.pages) c.results.view_is in
          let entry : w.in_ok-entry.entry ≡ entry_with sha_digests (items_of plan) ends k n w.in-Some.facts.now = w.in_ok-entry.ensures ∙ ap (λ (l : List (Option Page)). entry_with sha_digests (items_of plan) ends (at_place l) n w.in-Some.facts.now) pages in
          ap (λ v. v.items) w.entries-is ∙ (w.in_ok-push.ensures.items ∙ ((λ j. c.loop-number.invariant j ++ entry j ∷ []) ∙ sym (more (Some w.in-Some.facts.now) (ap option_copied w.in-Some.is))))
      | in_default w ↦
          ap (λ v. v.items) w.entries-is ∙ (c.loop-number.invariant ∙ sym (more None (ap option_copied w.in_default.is) ∙ append-nil before))
    ]

pub returns : goal.returns
returns c =
    let plan = c.args.plan.now in
    let results : ResultsView = c.args.results.now in
    let ends : ℕ → Ending = ending_at results.outcomes in
    let count : c.loop-number.number ≡ (table_of plan).layout.items = omega (arith, c.loop-number-test.false, c.loop-number.auto.number-end, c.count-count.ensures.items, table-items plan) in
    c.loop-number.invariant ∙ ap (λ m. filter_map (λ i. entry_by sha_digests (items_of plan) ends (at_place results.pages) i (ends i)) (upto m)) count
