-- Patterns whose texts differ are numbered in their order.
use Rattle.std.proofs.Common.{◌≡◌, ◌∙◌, ℕ, zero, suc, ◌+◌, ◌<◌, false, cond, List, [], ◌∷◌, ◌++◌, length, get_or, take, Some, None, refl, sym, ap, arith}
use Rattle.std.specs.Prelude.{bytes_eq}
use Rattle.std.specs.List.{AllByRecursion, IsDistinct}
use Rattle.std.specs.Option.{option_map}
use Rattle.std.proofs.lemmas.List.{take_more}
use Rattle.hk_base.specs.Bytes.{Bytes}
use Rattle.hk_forms.specs.PatternText.{text_of}
use Rattle.hk_pattern.specs.declared.pattern.Pattern.{Pattern}
use Rattle.hk_rules_file.specs.Numbering.{place_of, texts_of, numbered, numbered_by}

differs-at : (text : Bytes) (ps : List Pattern) (i : ℕ) (d : Pattern) → i < length ps → AllByRecursion (λ y. bytes_eq text y ≡ false) (texts_of ps) → bytes_eq text (text_of (get_or ps i d)) ≡ false
differs-at text [] i d lt h = absurd (omega arith)
differs-at text (p ∷ ps) zero d lt h = h.0
differs-at text (p ∷ ps) (suc i) d lt h = differs-at text ps i d (omega arith) h.1

-- none of those before has this one's text
place-none : (ps : List Pattern) (i : ℕ) (d : Pattern) → IsDistinct bytes_eq (texts_of ps) → i < length ps → place_of (text_of (get_or ps i d)) (texts_of (take i ps)) ≡ None
unfolding IsDistinct
place-none [] i d h lt = absurd (omega arith)
place-none (p ∷ ps) zero d h lt = refl
place-none (p ∷ ps) (suc i) d h lt =
    ap (λ b. cond b (Some 0) (option_map suc (place_of (text_of (get_or ps i d)) (texts_of (take i ps))))) (differs-at (text_of p) ps i d (omega arith) h.0)
    ∙ ap (option_map suc) (place-none ps i d h.1 (omega arith))

pub pool-turn : (ps old new : List Pattern) (i : ℕ) (p : Pattern) → IsDistinct bytes_eq (texts_of ps) → i < length ps → p ≡ get_or ps i p → old ≡ take i ps → new ≡ (numbered old p).1 → new ≡ take (i + 1) ps
pool-turn ps old new i p apart lt at so_far more =
    more
    ∙ (ap (λ o. (numbered o p).1) so_far
    ∙ (ap (λ o. (numbered_by o (take i ps) p).1) (ap (λ q. place_of (text_of q) (texts_of (take i ps))) at ∙ place-none ps i p apart lt)
    ∙ (ap (λ q. take i ps ++ q ∷ []) at ∙ sym (take_more ps i p lt))))
