-- Rules with a page more, by their parts.
use Rattle.std.proofs.Common.{◌≡◌, ◌∙◌, ℕ, List, [], ◌∷◌, ◌++◌, length, Ok, sym, ap}
use Rattle.std.specs.BTreeSet.{insert_key}
use Rattle.hk_base.specs.Bytes.{Bytes}
use Rattle.hk_base.specs.Identifier.{Ident, ident_cmp}
use Rattle.hk_chain.specs.Context.{ContextView}
use Rattle.hk_pattern.specs.declared.pattern.Pattern.{Pattern, Ids}
use Rattle.hk_rules.specs.Plan.{Lookups}
use Rattle.hk_rules_file.specs.Numbering.{numbered}
use Rattle.hk_rules_file.specs.TableForm.{and_then}
use Rattle.hk_rules_file.specs.declared.rules.Rule.{Rule}
use Rattle.hk_tags.specs.Expanding.{GrownView, page_ident, grown_by, with_one}
use Rattle.hk_tags.specs.Growing.{MakingView, GrowingView, page_context, page_rule, ids_of, with_pattern, with_page}
use Rattle.hk_tags.specs.Pages.{PageView}

pub page-made : (base : Lookups) (growing old : GrowingView) (making : MakingView) (page : PageView) (id : Ident) (ids : List Ident) (number : ℕ) (next : List Pattern) (context : ContextView) (n : ℕ) (rule : Rule) (rules : List Rule) (contexts : List ContextView)
    → old ≡ growing → ids ≡ ids_of base page.members → (number, next) ≡ numbered old.patterns (Ids ids) → context ≡ page_context old.contexts making page number → n ≡ length old.contexts → rule ≡ page_rule making n id
    → contexts ≡ old.contexts ++ context ∷ [] → rules ≡ old.rules ++ rule ∷ [] → record { rules = rules; contexts = contexts; patterns = next } ≡ with_page base growing making page id
page-made base growing old making page id ids number next context n rule rules contexts same listed numbers contexted counted ruled more_contexts more_rules =
    let all_rules : rules ≡ old.rules ++ page_rule making (length old.contexts) id ∷ [] = more_rules ∙ ap (λ r. old.rules ++ r ∷ []) (ruled ∙ ap (λ k. page_rule making k id) counted) in
    let all_contexts : contexts ≡ old.contexts ++ page_context old.contexts making page number ∷ [] = more_contexts ∙ ap (λ c. old.contexts ++ c ∷ []) contexted in
    let made : record { rules = rules; contexts = contexts; patterns = next } ≡ with_pattern old making page id (number, next) = λ k. record { rules = all_rules k; contexts = all_contexts k; patterns = next } in
    made ∙ (ap (with_pattern old making page id) numbers ∙ (ap (λ is. with_pattern old making page id (numbered old.patterns (Ids is))) listed ∙ ap (λ g. with_page base g making page id) same))

pub one-made : (base : Lookups) (grown old : GrownView) (making : MakingView) (page : PageView) (path : Bytes) (id : Ident) (keys : List Ident) (growing : GrowingView)
    → old ≡ grown → path ≡ page.path → page_ident base old.made path ≡ Ok id → keys ≡ insert_key ident_cmp old.made id → growing ≡ with_page base old.growing making page id
    → with_one base making grown page ≡ Ok (record { growing = growing; made = keys })
one-made base grown old making page path id keys growing same at found inserted grew =
    let here : page_ident base grown.made page.path ≡ Ok id = sym (ap (page_ident base old.made) at ∙ ap (λ g. page_ident base g.made page.path) same) ∙ found in
    let made : record { growing = growing; made = keys } ≡ grown_by base old making page id = λ k. record { growing = grew k; made = inserted k } in
    ap (λ r. and_then r (λ i. Ok (grown_by base grown making page i))) here ∙ ap Ok (sym (made ∙ ap (λ g. grown_by base g making page id) same))
