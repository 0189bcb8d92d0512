-- Paths that ascend, and entries in the order of their paths.
use Rattle.std.proofs.Common.{◌≡◌, Bool, true, false, cond, List, [], ◌∷◌, ◌++◌, map, refl, sym, ap, ◌∙◌, filter}
use Rattle.std.specs.Prelude.{T}
use Rattle.std.specs.Ordering.{nat_cmp, is_lt}
use Rattle.std.specs.Cmp.Lexicographic.{slice_cmp}
use Rattle.std.specs.List.{AllByRecursion}
use Rattle.std.specs.List.Sorted.{IsStrictlySortedBy}
use Rattle.std.specs.declared.cmp.Ordering.{Ordering}
use Rattle.std.specs.declared.cmp.Ordering.TheVariants.{Less}
use Rattle.std.specs.FinMap.{entries, entries_sorted}
use Rattle.std.specs.FinMap.Entries.{is_sorted, below_all}
use Rattle.hk_base.specs.Bytes.{Bytes, Files, ascends, paths_of}
use Rattle.hk_base.proofs.Both.{both, both-left, both-right, left-part, right-part, both-true, true-of, holds-of}

abbrev R : Bytes → Bytes → Ordering
R = slice_cmp nat_cmp

abbrev twice : Bytes → Bytes × Bytes
twice k = (k, k)

-- one path fewer still ascends
pub below-drop : (x : Bytes) (xs : List Bytes) (k : Bytes) (ys : List Bytes) → below_all R x (map twice (xs ++ k ∷ ys)) ≡ true → below_all R x (map twice (xs ++ ys)) ≡ true
below-drop x [] k ys h = right-part _ _ h
below-drop x (y ∷ xs) k ys h = both-true _ _ (left-part _ _ h) (below-drop x xs k ys (right-part _ _ h))

pub ascends-drop : (xs : List Bytes) (k : Bytes) (ys : List Bytes) → ascends (xs ++ k ∷ ys) ≡ true → ascends (xs ++ ys) ≡ true
ascends-drop [] k ys h = right-part _ _ h
ascends-drop (x ∷ xs) k ys h = both-true _ _ (below-drop x xs k ys (left-part _ _ h)) (ascends-drop xs k ys (right-part _ _ h))

-- a path moves from those to come to the entries that are done, or is left out
pub paths-push : (es : List (Bytes × Bytes)) (k v : Bytes) (ys : List Bytes) → paths_of (es ++ (k, v) ∷ []) ++ ys ≡ paths_of es ++ k ∷ ys
paths-push [] k v ys = refl
paths-push (e ∷ es) k v ys = ap (λ t. e.0 ∷ t) (paths-push es k v ys)

pub ascending-one : (done done' : List (Bytes × Bytes)) (left rest : List Bytes) (path key value : Bytes) → left ≡ path ∷ rest → done' ≡ done ++ (key, value) ∷ [] → key ≡ path → ascends (paths_of done ++ left) ≡ true → ascends (paths_of done' ++ rest) ≡ true
ascending-one done done' left rest path key value step pushed same h = ap (λ d. ascends (paths_of d ++ rest)) pushed ∙ ap ascends (paths-push done key value rest) ∙ ap (λ k. ascends (paths_of done ++ k ∷ rest)) same ∙ ap (λ l. ascends (paths_of done ++ l)) (sym step) ∙ h

pub ascending-none : (done : List (Bytes × Bytes)) (left rest : List Bytes) (path : Bytes) → left ≡ path ∷ rest → ascends (paths_of done ++ left) ≡ true → ascends (paths_of done ++ rest) ≡ true
ascending-none done left rest path step h = ascends-drop (paths_of done) path rest (ap (λ l. ascends (paths_of done ++ l)) (sym step) ∙ h)

-- the keys of a set ascend
pub below-of : (x : Bytes) (ks : List Bytes) → AllByRecursion (λ y. R x y ≡ Less) ks → below_all R x (map twice ks) ≡ true
below-of x [] h = refl
below-of x (k ∷ ks) h = both-true _ _ (ap is_lt h.0) (below-of x ks h.1)

pub ascends-sorted : (ks : List Bytes) → IsStrictlySortedBy R ks → ascends ks ≡ true
unfolding IsStrictlySortedBy
ascends-sorted [] h = refl
ascends-sorted (k ∷ ks) h = both-true _ _ (below-of k ks h.0) (ascends-sorted ks h.1)

-- entries whose paths ascend are in order
below-paths : (x : Bytes) (es : List (Bytes × Bytes)) → below_all R x (map twice (paths_of es)) ≡ true → T (below_all R x es)
below-paths x [] h = tt
below-paths x (e ∷ es) h = both _ _ (holds-of _ (left-part _ _ h)) (below-paths x es (right-part _ _ h))

pub sorted-paths : (es : List (Bytes × Bytes)) → ascends (paths_of es) ≡ true → T (is_sorted R es)
sorted-paths [] h = tt
sorted-paths (e ∷ es) h = both _ _ (below-paths e.0 es (left-part _ _ h)) (sorted-paths es (right-part _ _ h))

-- and the other way round
paths-below : (x : Bytes) (es : List (Bytes × Bytes)) → T (below_all R x es) → below_all R x (map twice (paths_of es)) ≡ true
paths-below x [] h = refl
paths-below x (e ∷ es) h = both-true _ _ (true-of _ (both-left _ _ h)) (paths-below x es (both-right _ _ h))

pub paths-sorted : (es : List (Bytes × Bytes)) → T (is_sorted R es) → ascends (paths_of es) ≡ true
paths-sorted [] h = refl
paths-sorted (e ∷ es) h = both-true _ _ (paths-below e.0 es (both-left _ _ h)) (paths-sorted es (both-right _ _ h))

pub ascends-entries : (m : Files) → ascends (paths_of (entries m)) ≡ true
ascends-entries m = paths-sorted (entries m) (entries_sorted m)

-- some of the entries
below-filter : (x : Bytes) (p : Bytes × Bytes → Bool) (es : List (Bytes × Bytes)) → below_all R x (map twice (paths_of es)) ≡ true → below_all R x (map twice (paths_of (filter p es))) ≡ true
below-filter x p [] h = refl
below-filter x p (e ∷ es) h = elim (p e) as (λ b. below_all R x (map twice (paths_of (cond b (e ∷ filter p es) (filter p es)))) ≡ true) [ true ↦ both-true _ _ (left-part _ _ h) (below-filter x p es (right-part _ _ h)) | false ↦ below-filter x p es (right-part _ _ h) ]

pub ascends-filter : (p : Bytes × Bytes → Bool) (es : List (Bytes × Bytes)) → ascends (paths_of es) ≡ true → ascends (paths_of (filter p es)) ≡ true
ascends-filter p [] h = refl
ascends-filter p (e ∷ es) h = elim (p e) as (λ b. ascends (paths_of (cond b (e ∷ filter p es) (filter p es))) ≡ true) [ true ↦ both-true _ _ (below-filter e.0 p es (left-part _ _ h)) (ascends-filter p es (right-part _ _ h)) | false ↦ ascends-filter p es (right-part _ _ h) ]
