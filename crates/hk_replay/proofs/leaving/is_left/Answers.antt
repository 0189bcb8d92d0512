use Rattle.std.proofs.Common.{◌≡◌, sym, ap, ◌∙◌, map, rules, true}
use Rattle.std.specs.Bool.{OnTrue}
use Rattle.std.specs.Ordering.{eq_by_cmp}
use Rattle.std.proofs.lemmas.Bool.{OnTrue_at, OnTrue_from}
use Rattle.hk_base.specs.Identifier.{ident_cmp}
use Rattle.hk_base.specs.IdentTies.{idents-same}
use Rattle.hk_base.specs.Ties.{bytes-same}
use Rattle.hk_chain.specs.Facts.{FactsView}
use Rattle.hk_chain.specs.Kept.{at_place}
use Rattle.hk_chain.specs.Marks as traces
use Rattle.hk_eval.specs.PlanTable.{table_of}
use Rattle.hk_rules.specs.Plan.{id_at}
use Rattle.hk_rules.specs.Recipe.{recipe_of}
use Rattle.hk_store.specs.Entry.{EntryView}
use Rattle.hk_store.specs.Marks as marks
use Rattle.hk_store.specs.RecipeText.{recipe_text}
use Rattle.hk_store.specs.Traits.{sha_digests}
use Rattle.hk_reuse.specs.Image as image
use Rattle.hk_reuse.specs.Image.{match_view}
use Rattle.hk_replay.proofs.Matching.{id-same, if-ok}
use Rattle.hk_replay.proofs.leaving.is_left.Goals as goal

pub returns : goal.returns
returns c =
    let plan = c.args.plan.now in
    let item = c.args.item in
    let facts = c.args.facts.now in
    let entry = c.entry.inside in
    let table = table_of plan in
    let told = map (image.mark_view sha_digests table (at_place c.args.pages.now)) in
    let alike : eq_by_cmp ident_cmp c.id.result.now entry.id ≡ true = search rules in
    let printed : c.has_print.result ≡ true = search rules in
    let matched : c.have_matches.result ≡ true = search rules in
    let id : id_at plan item ≡ entry.id = sym (c.id.ensures ∙ id-same plan item) ∙ idents-same _ _ alike in
    let print : sha_digests.text (recipe_text (recipe_of plan item)) ≡ entry.print = sym (bytes-same _ _ (sym c.has_print.ensures ∙ printed) ∙ c.requires.known.prints item c.requires.item) in
    let used : facts.patterns ≡ c.deref.result.now = sym (c.deref.ensures.value ∙ ap (λ (f : FactsView). f.patterns) c.facts.view_is) in
    let patterns : map (match_view table) facts.patterns ≡ entry.patterns.items = ap (map (match_view table)) used ∙ (OnTrue_at matched c.have_matches.ensures ∙ c.deref-2.ensures.value) in
    let traced : facts.trace ≡ map traces.mark_view c.deref-3.result.now = sym (ap (map traces.mark_view) c.deref-3.ensures.value ∙ ap (λ (f : FactsView). f.trace) c.facts.view_is) in
    if-ok c.have_marks.result
    (λ b. OnTrue b (told (map traces.mark_view c.deref-3.result.now) ≡ map marks.mark_view c.deref-4.result.now)) _
    (λ b h.
    OnTrue_from b _ (λ e.
    let trace : told facts.trace ≡ map marks.mark_view entry.marks.items = ap told traced ∙ (OnTrue_at e h ∙ ap (map marks.mark_view) c.deref-4.ensures.value) in
    (λ i. (let v : EntryView = record { id = id i; print = print i; patterns = patterns i; marks = trace i } in v)) ∙ c.entry.view_is))
    c.have_marks.ensures
