-- Wrong definitions break the laws.
use Rattle.std.proofs.Common.{◌≡◌, ℕ, ◌≤◌, ◌+◌, List, [], ◌∷◌, ◌++◌, codes, length, refl, sym, ap, subst, ◌∙◌, arith, inl, inr, Some}
use Rattle.hk_base.specs.Bytes.{Bytes}
use Rattle.hk_html.specs.Part.{mark, valued}
use Rattle.hk_html.specs.Piece.{Piece, tag, pieces}
use Rattle.hk_template.specs.declared.fault.TemplateFault.TheVariants.{Unclosed}
use Rattle.hk_template.proofs.Grammar.{tree_or_fault}
use Rattle.hk_template.specs.Cut.{word_of, tag_of, token_at, cut}
use Rattle.hk_template.specs.Fault.{first_fault}
use Rattle.hk_template.specs.Token.{Token, token_text}
use Rattle.hk_laws.specs.Letters.{SameLetter, SameLetters}
use Rattle.hk_laws.specs.Cuttings.{IsCutting, HasRawText}
use Rattle.hk_laws.specs.Links.{HasLinks}
use Rattle.hk_laws.specs.Templates.{IsForm, form_if, form_for}
use Rattle.hk_laws.specs.WrongDefinitions.{NoTags, NoComments, NoRawText, SrcIsNoLink, CaseMatters, PlacesZero, NoFaults}
use Rattle.hk_laws.proofs.CutLemmas.{cuts_each}

pub nothing_is_a_tag : NoTags
nothing_is_a_tag scan e laws =
    let cut = subst (λ (all : List Piece). IsCutting (codes "<a>") all) e (laws (codes "<a>")) in
    cut.fits.0.no_tag (97 ∷ (62 ∷ [])) refl refl

pub no_comments : NoComments
no_comments scan e laws =
    let cut = subst (λ (all : List Piece). IsCutting (codes "<!--") all) e (laws (codes "<!--")) in
    cut.fits.0.no_comment (record { rest = []; spelled = refl })

script_is : SameLetters (codes "script") (codes "script")
script_is = (inl refl, (inl refl, (inl refl, (inl refl, (inl refl, (inl refl, tt))))))

pub no_raw_text : NoRawText
no_raw_text scan e laws =
    let cut = subst (λ (all : List Piece). IsCutting (codes "<script>x") all) e (laws (codes "<script>x")) in
    let is = cut.fits.0 in
    let name : codes "script" ≡ is.name = let s = is.spelled in cc in
    let some = is.raw_text.some (subst HasRawText name (inl script_is)) in
    elim some.found [
      | inl end ↦ let s = end.spelled in let no_ : ⊥ = cc in no_
      | inr none ↦ let no_ : ⊥ = cc in no_
    ]

no_link : (src : Bytes) → SameLetters src (codes "src") → (links : List Bytes) → links ≡ [] → HasLinks (tag (codes "<a") (mark 32 ∷ (valued src (codes "=") (codes "x") [] ∷ [])) [] ∷ []) links → ⊥
no_link src same links e has =
    let url = has.3.url (inr same) in
    let none : (codes "x" ∷ url.0) ++ has.1 ≡ links = sym (has.2 ∙ ap (λ (own : List Bytes). own ++ has.1) url.1) in
    let no_ : ⊥ = cc in no_

src_is : SameLetters (codes "src") (codes "src")
src_is = (inl refl, (inl refl, (inl refl, tt)))

pub src_is_no_link : SrcIsNoLink
src_is_no_link links e laws = no_link (codes "src") src_is (links (codes "<a src=x>")) e (laws (codes "<a src=x>") (pieces (codes "<a src=x>")) (cuts_each (codes "<a src=x>")))

capital : (x y : ℕ) → 65 ≤ x → x ≤ 90 → y ≡ x + 32 → SameLetter x y
capital x y from to e = inr (inl (record { from_a = from; to_z = to; small_one = e }))

src_is_any : SameLetters (codes "SRC") (codes "src")
src_is_any = (capital 83 115 (omega arith) (omega arith) refl, (capital 82 114 (omega arith) (omega arith) refl, (capital 67 99 (omega arith) (omega arith) refl, tt)))

pub case_matters : CaseMatters
case_matters links e laws = no_link (codes "SRC") src_is_any (links (codes "<a SRC=x>")) e (laws (codes "<a SRC=x>") (pieces (codes "<a SRC=x>")) (cuts_each (codes "<a SRC=x>")))

form_first : (t : Token) (end : Bytes) → IsForm t end → (more : Bytes) × (token_text t ≡ 36 ∷ more)
form_first t end (form_if left k right) = (_, refl)
form_first t end (form_for left k right) = (_, refl)

no_bytes : (front : Bytes) → 0 ≡ length front → front ≡ []
no_bytes [] e = refl
no_bytes (x ∷ xs) e = absurd (omega arith)

pub places_zero : PlacesZero
places_zero find e laws =
    let is = laws (codes "a$if(x)$") (Unclosed 0) e in
    let none = no_bytes is.front is.after.place_is in
    let rest : codes "a$if(x)$" ≡ is.rest = is.after.joined ∙ ap (λ (f : Bytes). f ++ is.rest) none in
    let first = form_first is.token is.end is.form in
    let at : codes "a$if(x)$" ≡ 36 ∷ (first.0 ++ is.there.more) = rest ∙ is.there.spelled ∙ ap (λ (t : Bytes). t ++ is.there.more) first.1 in
    let no_ : ⊥ = cc in no_

open_if : first_fault (codes "$if(x)$") ≡ Some (Unclosed 0)
unfolding first_fault cut token_at tag_of word_of
open_if = refl

pub no_faults : NoFaults
no_faults find none laws =
    let is = laws (codes "$if(x)$") none in
    (tree_or_fault (codes "$if(x)$")).1 (Unclosed 0) open_if is.0 is.1
