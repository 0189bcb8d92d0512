-- Places of texts in a list that grows at its end.
use Rattle.std.proofs.Common.{◌≡◌, ℕ, suc, Bool, true, false, cond, List, [], ◌∷◌, ◌++◌, length, Option, Some, None, refl, ap, sym, ◌∙◌}
use Rattle.std.specs.Prelude.{bytes_eq, option_map}
use Rattle.std.specs.Option.{option_or}
use Rattle.std.specs.Ordering.{nat_cmp, is_eq}
use Rattle.std.specs.Cmp.Lexicographic.{slice_cmp}
use Rattle.std.proofs.lemmas.Map.Text.{is_eq-slice_cmp}
use Rattle.hk_base.specs.Bytes.{Bytes}
use Rattle.hk_base.specs.Ties.{bytes-same}
use Rattle.hk_pattern.specs.declared.pattern.Pattern.{Pattern}
use Rattle.hk_forms.specs.PatternText.{text_of}
use Rattle.hk_rules_file.specs.Numbering.{place_of, texts_of}

more : (a : Option ℕ) (b : Bool) (n : ℕ) → option_map suc (option_or a (cond b (Some n) None)) ≡ option_or (option_map suc a) (cond b (Some (suc n)) None)
more (Some x) b n = refl
more None true n = refl
more None false n = refl

-- the place in a list with one more text
place_of-last : (xs : List Bytes) (x text : Bytes) → place_of text (xs ++ x ∷ []) ≡ option_or (place_of text xs) (cond (bytes_eq x text) (Some (length xs)) None)
place_of-last [] x text = refl
place_of-last (y ∷ ys) x text =
    elim (bytes_eq y text) as (λ b. cond b (Some 0) (option_map suc (place_of text (ys ++ x ∷ []))) ≡ option_or (cond b (Some 0) (option_map suc (place_of text ys))) (cond (bytes_eq x text) (Some (suc (length ys))) None)) [
      | true ↦ refl
      | false ↦ ap (option_map suc) (place_of-last ys x text) ∙ more (place_of text ys) (bytes_eq x text) (length ys)
    ]

or-none : (a : Option ℕ) → option_or a None ≡ a
or-none (Some x) = refl
or-none None = refl

new_last : (xs : List Bytes) (x text : Bytes) (b : Bool) → bytes_eq x text ≡ b → place_of x xs ≡ None → cond b (Some (length xs)) (place_of text xs) ≡ option_or (place_of text xs) (cond b (Some (length xs)) None)
new_last xs x text true same absent = ap (λ o. option_or o (Some (length xs))) (sym absent ∙ ap (λ t. place_of t xs) (bytes-same x text same))
new_last xs x text false same absent = sym (or-none (place_of text xs))

-- a map that holds the places holds them still when a new text got the number of those before it
pub places-turn : (xs : List Bytes) (x text : Bytes) (n : ℕ) (old new : Option ℕ) → n ≡ length xs → place_of x xs ≡ None → old ≡ place_of text xs → new ≡ cond (is_eq (slice_cmp nat_cmp x text)) (Some n) old → new ≡ place_of text (xs ++ x ∷ [])
places-turn xs x text n old new count absent held update =
    update
    ∙ (λ i. cond (is_eq-slice_cmp x text i) (Some (count i)) (held i))
    ∙ new_last xs x text (bytes_eq x text) refl absent
    ∙ sym (place_of-last xs x text)

pub texts_of-last : (ps : List Pattern) (p : Pattern) → texts_of (ps ++ p ∷ []) ≡ texts_of ps ++ text_of p ∷ []
texts_of-last [] p = refl
texts_of-last (q ∷ ps) p = ap (λ ts. text_of q ∷ ts) (texts_of-last ps p)

pub texts_of-length : (ps : List Pattern) → length ps ≡ length (texts_of ps)
texts_of-length [] = refl
texts_of-length (p ∷ ps) = ap suc (texts_of-length ps)
