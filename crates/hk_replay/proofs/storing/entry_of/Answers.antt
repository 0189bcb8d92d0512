use Rattle.std.proofs.Common.{◌≡◌, ap, ◌∙◌, arith, map}
use Rattle.hk_chain.specs.Facts.{FactsView}
use Rattle.hk_chain.specs.Kept.{at_place}
use Rattle.hk_chain.specs.Marks as traces
use Rattle.hk_eval.specs.PlanTable.{table_of}
use Rattle.hk_rules.specs.Plan.{id_at}
use Rattle.hk_rules.specs.Recipe.{recipe_of}
use Rattle.hk_store.specs.Entry.{EntryView}
use Rattle.hk_store.specs.Marks as marks
use Rattle.hk_store.specs.RecipeText.{recipe_text}
use Rattle.hk_store.specs.Traits.{sha_digests}
use Rattle.hk_reuse.specs.Image as image
use Rattle.hk_reuse.specs.Image.{match_view}
use Rattle.hk_replay.proofs.Matching.{id-same}
use Rattle.hk_replay.proofs.storing.entry_of.Goals as goal

pub print_of-print-requires : goal.print_of-print-requires
print_of-print-requires c = omega (arith, c.requires.item, c.requires.known.printed)

pub returns : goal.returns
returns c =
    let plan = c.args.plan.now in
    let item = c.args.item in
    let facts = c.args.facts.now in
    let k = at_place c.args.pages.now in
    let table = table_of plan in
    let id : c.in_ok-id.id ≡ id_at plan item = c.in_ok-id.ensures ∙ (c.id.ensures ∙ id-same plan item) in
    let print : c.print_of-print.result ≡ sha_digests.text (recipe_text (recipe_of plan item)) = c.print_of-print.ensures ∙ c.requires.known.prints item c.requires.item in
    let patterns : c.in_ok-patterns.patterns.items ≡ map (match_view table) facts.patterns = c.in_ok-patterns.ensures ∙ ap (map (match_view table)) (c.deref.ensures.value ∙ ap (λ (f : FactsView). f.patterns) c.facts.view_is) in
    let trace : map marks.mark_view c.in_ok-marks.marks.items ≡ map (image.mark_view sha_digests table k) facts.trace = c.in_ok-marks.ensures ∙ ap (map (image.mark_view sha_digests table k)) (ap (map traces.mark_view) c.deref-2.ensures.value ∙ ap (λ (f : FactsView). f.trace) c.facts.view_is) in
    λ i. (let e : EntryView = record { id = id i; print = print i; patterns = patterns i; marks = trace i } in e)
