use Rattle.std.proofs.Common.{◌≡◌, ap, subst, ◌∙◌, ◌&&◌, arith, map}
use Rattle.std.specs.Prelude.{bytes_eq}
use Rattle.std.specs.List.{list_all}
use Rattle.std.specs.Cmp.Lexicographic.{pointwise}
use Rattle.hk_eval.specs.PlanTable.{table_of}
use Rattle.hk_rules.specs.Pairs.{page_names}
use Rattle.hk_rules.specs.Plan.{chain_at}
use Rattle.hk_rules.specs.Recipe.{recipe_of}
use Rattle.hk_store.specs.Entry.{EntryView}
use Rattle.hk_store.specs.Marks.{mark_view}
use Rattle.hk_store.specs.RecipeText.{recipe_text}
use Rattle.hk_store.specs.Traits.{sha_digests}
use Rattle.hk_reuse.specs.Entries.{saved_names}
use Rattle.hk_reuse.specs.Fits.{pattern_fits, mark_fits, fits}
use Rattle.hk_replay.specs.PlanItems.{items_of}
use Rattle.hk_replay.proofs.Matching.{chain-same}
use Rattle.hk_replay.proofs.fitting.fits.Goals as goal

pub has_print-own-requires : goal.has_print-own-requires
has_print-own-requires c = omega (arith, c.requires.item, c.requires.known.printed)

pub returns : goal.returns
returns c =
    let plan = c.args.plan.now in
    let item = c.args.item in
    let entry = c.entry.inside in
    let own : c.has_print-own.result ≡ bytes_eq entry.print (sha_digests.text (recipe_text (recipe_of plan item))) = c.has_print-own.ensures ∙ ap (bytes_eq entry.print) (c.requires.known.prints item c.requires.item) in
    let names : c.in_ok-names.names ≡ pointwise bytes_eq (saved_names (map mark_view entry.marks.items)) (page_names (chain_at plan item)) = c.in_ok-names.ensures ∙ (λ i. pointwise bytes_eq (saved_names (map mark_view (c.deref.ensures.value i))) (page_names ((c.chain.ensures ∙ chain-same plan item) i))) in
    let patterns : c.patterns_fit-patterns.result ≡ list_all (pattern_fits (items_of plan)) entry.patterns.items = c.patterns_fit-patterns.ensures ∙ ap (list_all (pattern_fits (items_of plan))) c.deref-2.ensures.value in
    let marks : c.marks_fit-marks.result ≡ list_all (mark_fits sha_digests (table_of plan)) (map mark_view entry.marks.items) = c.marks_fit-marks.ensures ∙ ap (λ l. list_all (mark_fits sha_digests (table_of plan)) (map mark_view l)) c.deref-3.ensures.value in
    subst (λ (e : EntryView). c.all_hold.result ≡ fits sha_digests (items_of plan) item e) c.entry.view_is (c.all_hold.ensures ∙ (λ i. own i && names i && patterns i && marks i))
