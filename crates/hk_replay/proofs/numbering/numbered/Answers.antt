use Rattle.std.proofs.Common.{◌≡◌, ap, subst, ◌∙◌, arith, ◌-◌, length, take, map}
use Rattle.std.specs.Prelude.{bytes_eq}
use Rattle.std.specs.List.{position_from}
use Rattle.std.specs.Option.{unwrap_or}
use Rattle.hk_eval.specs.PlanTable.{table_of}
use Rattle.hk_rules.specs.Plan.{id_at}
use Rattle.hk_store.specs.Entry.{EntryView, MatchView}
use Rattle.hk_store.specs.Marks.{mark_view}
use Rattle.hk_reuse.specs.Entries.{front, last_page}
use Rattle.hk_replay.specs.Numbered.{RecordView, step_view, record_view, numbered_step, numbered_entry}
use Rattle.hk_replay.specs.PlanItems.{items_of}
use Rattle.hk_replay.proofs.Matching.{front-map, numbers-same}
use Rattle.hk_replay.proofs.numbering.numbered.Goals as goal

pub returns : goal.returns
returns c =
    let plan = c.args.plan.now in
    let item = c.args.item in
    let entry = c.entry.inside in
    let own = numbered_step (table_of plan) (id_at plan item) in
    let count : c.saturating_sub-count.result ≡ length entry.marks.items - 1 = omega (arith, c.saturating_sub-count.ensures, c.len.ensures) in
    let steps : map step_view c.in_ok-steps.steps.items ≡ map own (front (map mark_view entry.marks.items)) = c.in_ok-steps.ensures ∙ ap (map own) ((λ i. map mark_view (take (count i) (c.deref.ensures.value i))) ∙ front-map mark_view entry.marks.items) in
    let patterns = c.in_ok-patterns.ensures ∙ (ap (λ l. map (λ (m : MatchView). unwrap_or (position_from (λ own. bytes_eq own m.text) 0 c.args.known.now.texts) 0) l) c.deref-2.ensures.value ∙ numbers-same plan c.args.known.now.texts entry.patterns.items c.requires.known.texts) in
    let page : c.in_ok-page.page ≡ last_page (map mark_view entry.marks.items) = c.in_ok-page.ensures ∙ ap (λ l. last_page (map mark_view l)) c.deref-3.ensures.value in
    subst (λ (e : EntryView). record_view (record { steps = c.in_ok-steps.steps; patterns = c.in_ok-patterns.patterns; last = c.last_pair-last.result; page = c.in_ok-page.page }) ≡ numbered_entry (items_of plan) item e) c.entry.view_is
    (λ i. (let r : RecordView = record { steps = steps i; patterns = patterns i; last = c.last_pair-last.ensures i; page = page i } in r))
