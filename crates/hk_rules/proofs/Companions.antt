-- The files with their companions, one file after another.
use Rattle.std.proofs.Common.{◌≡◌, true, cond, not, List, [], ◌∷◌, ◌++◌, Option, Some, None, sym, ap, ◌∙◌}
use Rattle.std.specs.Prelude.{bytes_eq}
use Rattle.std.specs.Ordering.{nat_cmp, is_eq}
use Rattle.std.specs.Cmp.Lexicographic.{slice_cmp}
use Rattle.std.proofs.lemmas.List.{append-nil}
use Rattle.std.proofs.lemmas.List.Elements.{filter-append}
use Rattle.std.proofs.lemmas.Grind.{fold-append}
use Rattle.std.proofs.lemmas.Map.Text.{is_eq-slice_cmp}
use Rattle.hk_base.specs.Bytes.{Bytes}
use Rattle.hk_rules.specs.Resource.{is_companion}
use Rattle.hk_rules.specs.Sources.{others, companions, text_at, text_if, sources_by, sources}

-- a companion is no source
pub others-turn : (files : List (Bytes × Bytes)) (k v : Bytes) → is_companion k ≡ true → others files ≡ others (files ++ (k, v) ∷ [])
others-turn files k v is =
    sym (filter-append (λ file. not (is_companion file.0)) files ((k, v) ∷ [])
    ∙ ap (λ b. others files ++ cond (not b) ((k, v) ∷ []) []) is
    ∙ append-nil (others files))

-- it is found at its path from then on
pub text-turn : (files : List (Bytes × Bytes)) (k v w path : Bytes) (old new : Option Bytes) → is_companion k ≡ true → w ≡ v → new ≡ cond (is_eq (slice_cmp nat_cmp k path)) (Some w) old → old ≡ text_at (companions files) path → new ≡ text_at (companions (files ++ (k, v) ∷ [])) path
text-turn files k v w path old new is same update so_far =
    update
    ∙ ap (λ b. cond b (Some w) old) (is_eq-slice_cmp k path)
    ∙ ap (λ x. cond (bytes_eq k path) (Some x) old) same
    ∙ ap (λ o. cond (bytes_eq k path) (Some v) o) so_far
    ∙ sym (ap (λ fs. text_at fs path) (filter-append (λ file. is_companion file.0) files ((k, v) ∷ []))
    ∙ ap (λ b. text_at (companions files ++ cond b ((k, v) ∷ []) []) path) is
    ∙ fold-append (text_if path) None (companions files) ((k, v) ∷ []))

pub sources-whole : (rest : List (Bytes × Bytes)) (companion : Bytes → Option Bytes) (files : List (Bytes × Bytes)) → rest ≡ others files → ((path : Bytes) → companion path ≡ text_at (companions files) path) → sources_by companion rest ≡ sources files
unfolding sources
sources-whole rest companion files r c = λ i. sources_by (λ path. c path i) (r i)
