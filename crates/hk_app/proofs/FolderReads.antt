-- The reading of a folder, as entries of its map.
use Rattle.std.proofs.Common.{◌≡◌, ℕ, ◌≤◌, Bool, true, false, cond, List, [], ◌∷◌, ◌++◌, map, Option, Some, None, refl, sym, ap, subst, ◌∙◌, IfSome, IsPermutation, append_assoc, IsTrue, filter}
use Rattle.std.specs.Prelude.{◌||◌, ◌&&◌, T, is_some}
use Rattle.std.specs.Ordering.{nat_cmp, is_lt, eq_by_cmp}
use Rattle.std.specs.Cmp.Lexicographic.{slice_cmp, nat_list_cmp_total}
use Rattle.std.specs.List.{list_any, AllByRecursion}
use Rattle.std.specs.List.Sorted.{IsStrictlySortedBy}
use Rattle.std.specs.BTreeSet.{BTreeSet, IsFromIterResult}
use Rattle.std.proofs.lemmas.List.Sorted.{list_any-IsPermutation}
use Rattle.std.proofs.Common.{Result, IfOk, Vec, Global}
use Rattle.hk_outside.specs.declared.tree.TreeFault.{TreeFault}
use Rattle.std.proofs.lemmas.Result.{IfOk-weaker}
use Rattle.std.specs.declared.cmp.Ordering.{Ordering}
use Rattle.std.specs.declared.cmp.Ordering.TheVariants.{Less, Equal}
use Rattle.std.specs.FinMap.{get, keys, entries, entries_sorted, get-entries, contains_key-keys}
use Rattle.std.specs.FinMap.Entries.{find, is_sorted, below_all, same_entries, is_sorted-where_key, find-where_key}
use Rattle.hk_base.specs.Bytes.{Bytes, Files, ascends, paths_of}
use Rattle.hk_base.specs.Ties.{only_equal_tie, ties-same, ties-self}
use Rattle.hk_base.proofs.Both.{both, either-right}
use Rattle.hk_app.specs.PathReading.{read_at, entry_front}

abbrev R : Bytes → Bytes → Ordering
R = slice_cmp nat_cmp

-- the files so far and those of the rest are those of all
pub record IsReadSoFar (old now : Option Files) (before count : ℕ) (done : List (Bytes × Bytes)) (rest all : List Bytes) : Type 0 where
  pub each : IfSome old (λ m. done ++ read_at m rest ≡ read_at m all)
  pub ascending : IsTrue (ascends (paths_of done ++ rest))
  pub same : now ≡ old
  pub later : before ≤ count

-- one more path is read
pub one_read : (old now : Option Files) (done done' : List (Bytes × Bytes)) (left rest all : List Bytes) (path bytes key value : Bytes)
    → IfSome old (λ m. done ++ read_at m left ≡ read_at m all) → now ≡ old → left ≡ path ∷ rest → IfSome now (λ m. Some bytes ≡ get m path)
    → done' ≡ done ++ (key, value) ∷ [] → key ≡ path → value ≡ bytes
    → IfSome old (λ m. done' ++ read_at m rest ≡ read_at m all)
one_read None now done done' left rest all path bytes key value h same step found pushed k v = tt
one_read (Some m) now done done' left rest all path bytes key value h same step found pushed k v =
    let here = subst (λ o. IfSome o (λ m. Some bytes ≡ get m path)) same found in
    (λ i. (pushed ∙ (λ j. done ++ (k j, v j) ∷ [])) i ++ read_at m rest) ∙ append_assoc done ((path, bytes) ∷ []) (read_at m rest) ∙ ap (λ o. done ++ entry_front path o (read_at m rest)) here ∙ ap (λ l. done ++ read_at m l) (sym step) ∙ h

-- a path that is absent is left out
pub none_read : (old now : Option Files) (done : List (Bytes × Bytes)) (left rest all : List Bytes) (path : Bytes)
    → IfSome old (λ m. done ++ read_at m left ≡ read_at m all) → now ≡ old → left ≡ path ∷ rest → IfSome now (λ m. None ≡ get m path)
    → IfSome old (λ m. done ++ read_at m rest ≡ read_at m all)
none_read None now done left rest all path h same step found = tt
none_read (Some m) now done left rest all path h same step found =
    let here = subst (λ o. IfSome o (λ m. None ≡ get m path)) same found in
    ap (λ o. done ++ entry_front path o (read_at m rest)) here ∙ ap (λ l. done ++ read_at m l) (sym step) ∙ h

pub reads-init : (old : Option Files) (done : List (Bytes × Bytes)) (rest all : List Bytes) → done ≡ [] → rest ≡ all → IfSome old (λ m. done ++ read_at m rest ≡ read_at m all)
reads-init None done rest all d e = tt
reads-init (Some m) done rest all d e = (λ i. d i ++ read_at m (e i))

-- ---- all paths that are to be read

below-read_at : (m : Files) (x : Bytes) (ks : List Bytes) → AllByRecursion (λ y. R x y ≡ Less) ks → T (below_all R x (read_at m ks))
below-read_at m x [] h = tt
below-read_at m x (k ∷ ks) h = elim (get m k) as (λ o. T (below_all R x (entry_front k o (read_at m ks)))) [ None ↦ below-read_at m x ks h.1 | Some b ↦ both _ _ (subst (λ r. T (is_lt r)) (sym h.0) tt) (below-read_at m x ks h.1) ]

sorted-read_at : (m : Files) (ks : List Bytes) → IsStrictlySortedBy R ks → T (is_sorted R (read_at m ks))
unfolding IsStrictlySortedBy
sorted-read_at m [] h = tt
sorted-read_at m (k ∷ ks) h = elim (get m k) as (λ o. T (is_sorted R (entry_front k o (read_at m ks)))) [ None ↦ sorted-read_at m ks h.1 | Some b ↦ both _ _ (below-read_at m k ks h.0) (sorted-read_at m ks h.1) ]

front-at : (q k : Bytes) (o : Option Bytes) (rest : List (Bytes × Bytes)) (any : Bool) (here : Option Bytes)
    → (eq_by_cmp R q k ≡ true → here ≡ o) → find R q rest ≡ cond any here None → find R q (entry_front k o rest) ≡ cond (eq_by_cmp R q k || any) here None
front-at q k None rest any here same so = elim (eq_by_cmp R q k) as (λ b. (b ≡ true → here ≡ None) → find R q rest ≡ cond (b || any) here None) [ true ↦ λ f. so ∙ gone any (f refl) ∙ sym (f refl) | false ↦ λ f. so ] same
  where
    gone : (any : Bool) → here ≡ None → cond any here None ≡ None
    gone true e = e
    gone false e = refl
front-at q k (Some b) rest any here same so = elim (eq_by_cmp R q k) as (λ t. (t ≡ true → here ≡ Some b) → cond t (Some b) (find R q rest) ≡ cond (t || any) here None) [ true ↦ λ f. sym (f refl) | false ↦ λ f. so ] same

find-read_at : (m : Files) (q : Bytes) (ks : List Bytes) → find R q (read_at m ks) ≡ cond (list_any (eq_by_cmp R q) ks) (get m q) None
find-read_at m q [] = refl
find-read_at m q (k ∷ ks) = front-at q k (get m k) (read_at m ks) (list_any (eq_by_cmp R q) ks) (get m q) (λ e. ap (get m) (ties-same q k e)) (find-read_at m q ks)

pub same_key : (p : Bytes → Bool) (q x : Bytes) → R q x ≡ Equal → p x ≡ p q
same_key p q x e = ap p (sym (only_equal_tie q x e))

any-filter : (p : Bytes → Bool) (q : Bytes) (xs : List Bytes) → list_any (eq_by_cmp R q) (filter p xs) ≡ (p q && list_any (eq_by_cmp R q) xs)
any-filter p q [] = none (p q)
  where
    none : (b : Bool) → false ≡ (b && false)
    none true = refl
    none false = refl
any-filter p q (x ∷ xs) = elim (p x) as (λ b. p x ≡ b → list_any (eq_by_cmp R q) (cond b (x ∷ filter p xs) (filter p xs)) ≡ (p q && (eq_by_cmp R q x || list_any (eq_by_cmp R q) xs))) [
  | true ↦ λ e. ap (λ b. eq_by_cmp R q x || b) (any-filter p q xs) ∙ kept (eq_by_cmp R q x) (p q) (list_any (eq_by_cmp R q) xs) (λ t. ap p (ties-same q x t) ∙ e)
  | false ↦ λ e. any-filter p q xs ∙ dropped (eq_by_cmp R q x) (p q) (list_any (eq_by_cmp R q) xs) (λ t. ap p (ties-same q x t) ∙ e)
] refl
  where
    kept : (t here all : Bool) → (t ≡ true → here ≡ true) → (t || (here && all)) ≡ (here && (t || all))
    kept true here all h = ap (λ b. b && true) (sym (h refl))
    kept false here all h = refl

    dropped : (t here all : Bool) → (t ≡ true → here ≡ false) → (here && all) ≡ (here && (t || all))
    dropped true here all h = ap (λ b. b && all) (h refl) ∙ ap (λ b. b && true) (sym (h refl))
    dropped false here all h = refl

only : (b : Bool) (o : Option Bytes) → cond (b && is_some o) o None ≡ cond b o None
only true None = refl
only true (Some v) = refl
only false o = refl

read_at-entries : (p : Bytes → Bool) (m : Files) (ks : List Bytes) → IsStrictlySortedBy R ks → ((q : Bytes) → list_any (eq_by_cmp R q) ks ≡ (p q && list_any (eq_by_cmp R q) (keys m))) → read_at m ks ≡ filter (λ (e : Bytes × Bytes). p e.0) (entries m)
read_at-entries p m ks sorted same = same_entries R nat_list_cmp_total only_equal_tie _ _ (sorted-read_at m ks sorted) (is_sorted-where_key R p (entries m) (entries_sorted m)) (λ q.
    find-read_at m q ks ∙ ap (λ b. cond b (get m q) None) (same q ∙ ap (λ b. p q && b) (sym (contains_key-keys m q))) ∙ only (p q) (get m q)
    ∙ ap (λ o. cond (p q) o None) (get-entries m q) ∙ sym (find-where_key R p q (same_key p q) (entries m)))

-- what was listed, put in order and read is what is to be read of the folder
pub whole_folder : (p : Bytes → Bool) (old now : Option Files) (paths : List Bytes) (s : BTreeSet Bytes) (r : Result (Vec (Bytes × Bytes) Global) TreeFault)
    → IfSome old (λ m. IsPermutation (keys m) paths) → IsFromIterResult R (filter p paths) s → now ≡ old → IfSome now (λ m. IfOk r (λ v. v.items ≡ read_at m s.keys))
    → IfSome old (λ m. IfOk r (λ v. v.items ≡ filter (λ (e : Bytes × Bytes). p e.0) (entries m)))
whole_folder p None now paths s r listed made same read = tt
whole_folder p (Some m) now paths s r listed made same read =
    let here = subst (λ o. IfSome o (λ m. IfOk r (λ v. v.items ≡ read_at m s.keys))) same read in
    IfOk-weaker r _ _ (λ v e. e ∙ read_at-entries p m s.keys made.1 (λ q. made.0 q ∙ any-filter p q paths ∙ ap (λ b. p q && b) (sym (list_any-IsPermutation (eq_by_cmp R q) _ _ listed)))) here
