-- Names of saved pages: what a set has of them, and how one is read.
use Rattle.std.proofs.Common.{◌≡◌, refl, sym, ap, ◌∙◌, subst, Bool, true, false, not, cond, List, [], ◌∷◌, ◌++◌, length}
use Rattle.std.specs.Prelude.{bytes_eq, Ok, Err}
use Rattle.std.specs.BTreeMap.{is_at}
use Rattle.std.specs.BTreeSet.{BTreeSet, contains}
use Rattle.std.specs.Cmp.Lexicographic.{slice_cmp}
use Rattle.std.specs.List.{list_any}
use Rattle.std.specs.Ordering.{nat_cmp}
use Rattle.std.proofs.lemmas.List.Folds.{list_any-append}
use Rattle.hk_base.specs.Bytes.{Bytes}
use Rattle.hk_base.specs.Ties.{same_test}
use Rattle.hk_forms.specs.PatternText.{str}
use Rattle.hk_store.specs.Entry.{MarkView}
use Rattle.hk_store.specs.Found.{HasNames}
use Rattle.hk_store.specs.Reading.{field}
use Rattle.hk_store.specs.Stored.{saved_names}
use Rattle.hk_store.specs.StoreReading.{is_save_name, FitsName}
use Rattle.hk_store.specs.Told.{Short}
use Rattle.hk_store.proofs.Keys.{or-last, not-of, not-so}
use Rattle.hk_store.proofs.Numerals.{false-true}
use Rattle.hk_store.proofs.Telling.{str-told}

-- a set with one more
pub has-name : (old new : BTreeSet Bytes) (text : Bytes) (names : List Bytes) → ((q : Bytes) → contains (slice_cmp nat_cmp) new q ≡ cond (is_at (slice_cmp nat_cmp text) q) true (contains (slice_cmp nat_cmp) old q)) → HasNames old names → HasNames new (names ++ text ∷ [])
has-name old new text names updates has name =
    updates name
    ∙ ((λ i. cond (same_test text name i) true (has name i))
    ∙ (or-last (bytes_eq name text) (list_any (bytes_eq name) names)
    ∙ sym (list_any-append (bytes_eq name) names (text ∷ []))))

pub name-seen : (set : BTreeSet Bytes) (names : List Bytes) (name : Bytes) (added : Bool) → HasNames set names → added ≡ not (contains (slice_cmp nat_cmp) set name) → added ≡ false → list_any (bytes_eq name) names ≡ true
name-seen set names name added has told e = sym (has name) ∙ not-of added (contains (slice_cmp nat_cmp) set name) told e

pub name-new : (set : BTreeSet Bytes) (names : List Bytes) (name : Bytes) (added : Bool) → HasNames set names → added ≡ not (contains (slice_cmp nat_cmp) set name) → added ≡ true → list_any (bytes_eq name) names ≡ false
name-new set names name added has told e = sym (has name) ∙ not-so added (contains (slice_cmp nat_cmp) set name) told e

module _ (last : Bool) (before : List MarkView) (bytes rest : Bytes) (name : Bytes) (is : bytes ≡ str name ++ rest) (short : Short bytes) where
  other-name : (n r : Bytes) → bytes ≡ str n ++ r → name ≡ n
  other-name n r e = (str-told name n tt tt rest r (subst Short is short) (sym is ∙ e)).0

  pub unfit-name : is_save_name last name ≡ false → field str (FitsName last before) bytes (Err (length bytes))
  unfit-name bad = (refl, λ n r h e. false-true (is_save_name last name) bad (ap (is_save_name last) (other-name n r e) ∙ h.0))

  pub used-name : list_any (bytes_eq name) (saved_names before) ≡ true → field str (FitsName last before) bytes (Err (length bytes))
  used-name seen = (refl, λ n r h e. false-true (list_any (bytes_eq n) (saved_names before)) h.1 (ap (λ m. list_any (bytes_eq m) (saved_names before)) (sym (other-name n r e)) ∙ seen))
