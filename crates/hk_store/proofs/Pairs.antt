-- Keys with their values, written one after another.
use Rattle.std.proofs.Common.{◌≡◌, sym, ap, ◌∙◌, arith, ℕ, zero, suc, ◌+◌, ◌≤◌, List, [], ◌∷◌, ◌++◌, append_assoc, append-nil, length, length-append, drop, Some, None}
use Rattle.std.specs.List.{flat_map, slice_get}
use Rattle.std.proofs.lemmas.List.{drop_more, at_drop_all}
use Rattle.std.proofs.lemmas.Option.{slice_get_within, get_or_from_slice_get}
use Rattle.hk_base.specs.Bytes.{Bytes}
use Rattle.hk_forms.specs.PatternText.{str}
use Rattle.hk_store.specs.Told.{both}
use Rattle.hk_store.proofs.Telling.{str-full}

abbrev Pair : Type 0
Pair = Bytes × Bytes

pub pair-drop : (meta : List Pair) (i : ℕ) (e : Pair) → slice_get meta i ≡ Some e → drop i meta ≡ e ∷ drop (i + 1) meta
pair-drop meta i e h = drop_more meta i e (slice_get_within meta i e h) ∙ ap (λ x. x ∷ drop (i + 1) meta) (get_or_from_slice_get meta i e e h)

pub past-end : (meta : List Pair) (i : ℕ) → slice_get meta i ≡ None → length meta ≤ i
past-end [] i h = omega arith
past-end (e ∷ meta) zero h = cc
past-end (e ∷ meta) (suc i) h = omega (arith, past-end meta i h)

module _ (meta : List Pair) (i : ℕ) (k v out mid new all : Bytes) (there : slice_get meta i ≡ Some (k, v)) (one : mid ≡ out ++ str k) (two : new ≡ mid ++ str v) where
  pub pair-told : out ++ flat_map (both str str) (drop i meta) ≡ all → new ++ flat_map (both str str) (drop (i + 1) meta) ≡ all
  pair-told so_far =
      let rest = flat_map (both str str) (drop (i + 1) meta) in
      ap (λ n. n ++ rest) (two ∙ ap (λ m. m ++ str v) one)
      ∙ append_assoc (out ++ str k) (str v) rest
      ∙ append_assoc out (str k) (str v ++ rest)
      ∙ ap (λ t. out ++ t) (sym (append_assoc (str k) (str v) rest) ∙ ap (flat_map (both str str)) (sym (pair-drop meta i (k, v) there)))
      ∙ so_far

  pub pair-room : i ≤ length out → i + 1 ≤ length new
  pair-room room = omega (arith, room, ap length one, ap length two, length-append out (str k), length-append mid (str v), str-full k)

pub pairs-end : (meta : List Pair) (i : ℕ) (out all : Bytes) → length meta ≤ i → out ++ flat_map (both str str) (drop i meta) ≡ all → out ≡ all
pairs-end meta i out all past so_far = sym (append-nil out) ∙ ap (λ t. out ++ t) (sym (at_drop_all (flat_map (both str str)) meta i past)) ∙ so_far
