-- The changes of a folder leave exactly its pages.
use Rattle.std.proofs.Common.{◌≡◌, ℕ, Bool, true, false, cond, not, List, [], ◌∷◌, ◌++◌, map, Option, Some, None, Ok, refl, sym, ap, subst, ◌∙◌, IfSome, length, filter}
use Rattle.std.specs.Prelude.{◌||◌, ◌&&◌, T, is_some, bytes_eq}
use Rattle.std.specs.Ordering.{nat_cmp, eq_by_cmp}
use Rattle.std.specs.Cmp.Lexicographic.{slice_cmp, nat_list_cmp_total}
use Rattle.std.specs.List.{list_any}
use Rattle.std.specs.declared.cmp.Ordering.{Ordering}
use Rattle.std.specs.FinMap.{get, remove, keys, same_map, get-insert, get-remove, get-from_entries, from_entries, contains_key-keys}
use Rattle.std.specs.FinMap.Entries.{find}
use Rattle.std.specs.BTreeSet.{BTreeSet, IsFromIterResult}
use Rattle.std.specs.List.Sorted.{IsPermutation}
use Rattle.std.proofs.lemmas.List.Sorted.{list_any-IsPermutation}
use Rattle.hk_base.specs.Bytes.{Bytes, Files, ascends, paths_of}
use Rattle.hk_base.specs.Ties.{only_equal_tie, ties-same, bytes-same, bytes-self, same_test}
use Rattle.hk_base.proofs.Both.{right-part, both-left}
use Rattle.hk_base.proofs.Entries.{find-below}
use Rattle.hk_base.proofs.Ascending.{sorted-paths, ascends-sorted, ascends-entries}
use Rattle.hk_writer.specs.Writing.{removal, writing, after, is_page, holds, removals, writings, changes, Makes}
use Rattle.hk_writer.specs.Written.{IsWritten}
use Rattle.hk_writer.proofs.Making.{after-append, making-init, making-end, IsMaking}
use Rattle.hk_writer.proofs.FolderWrites.{writings-front}
use Rattle.hk_writer.proofs.SamePaths.{same-paths}

abbrev R : Bytes → Bytes → Ordering
R = slice_cmp nat_cmp

held : (found : Option Bytes) (b : Bytes) → holds found b ≡ true → found ≡ Some b
held None b e = absurd (subst T (sym e) tt)
held (Some a) b e = ap Some (bytes-same a b e)

abbrev or_else : Option Bytes → Option Bytes → Option Bytes
or_else None o = o
or_else (Some b) o = Some b

-- a page that is written where it is absent or differs stands after that
get-one : (e : Bytes × Bytes) (m : Files) (q : Bytes) → get (after (writings (e ∷ []) m) m) q ≡ cond (eq_by_cmp R q e.0) (Some e.1) (get m q)
get-one e m q = by (holds (get m e.0) e.1) refl
  where
    there : holds (get m e.0) e.1 ≡ true → get m q ≡ cond (eq_by_cmp R q e.0) (Some e.1) (get m q)
    there t = elim (eq_by_cmp R q e.0) as (λ b. eq_by_cmp R q e.0 ≡ b → get m q ≡ cond b (Some e.1) (get m q)) [ true ↦ λ u. ap (get m) (ties-same q e.0 u) ∙ held (get m e.0) e.1 t | false ↦ λ u. refl ] refl

    by : (t : Bool) → holds (get m e.0) e.1 ≡ t → get (after (writings (e ∷ []) m) m) q ≡ cond (eq_by_cmp R q e.0) (Some e.1) (get m q)
    by true t = rw (t) (there t)
    by false t = rw (t) (get-insert nat_list_cmp_total m e.0 e.1 q)

get-writings : (es : List (Bytes × Bytes)) (m : Files) (q : Bytes) → ascends (paths_of es) ≡ true → get (after (writings es m) m) q ≡ or_else (find R q es) (get m q)
get-writings [] m q h = refl
get-writings (e ∷ es) m q h =
    let n : Files = after (writings (e ∷ []) m) m in
    ap (λ l. get (after l m) q) (writings-front (e ∷ es) es e m refl h) ∙ ap (λ x. get x q) (after-append (writings (e ∷ []) m) (writings es n) m)
    ∙ get-writings es n q (right-part _ _ h) ∙ ap (or_else (find R q es)) (get-one e m q)
    ∙ elim (eq_by_cmp R q e.0) as (λ b. eq_by_cmp R q e.0 ≡ b → or_else (find R q es) (cond b (Some e.1) (get m q)) ≡ or_else (cond b (Some e.1) (find R q es)) (get m q)) [
      | true ↦ λ t. ap (λ o. or_else o (Some e.1)) (find-below q e.0 es (sym (ties-same q e.0 t)) (both-left _ _ (sorted-paths (e ∷ es) h)))
      | false ↦ λ t. refl
    ] refl

after-one : (pages : List (Bytes × Bytes)) (k : Bytes) (ks : List Bytes) (m : Files) → after (removals pages (k ∷ ks)) m ≡ after (removals pages ks) (cond (is_page pages k) m (remove m k))
after-one pages k ks m = by (is_page pages k)
  where
    by : (b : Bool) → after (map removal (cond (not b) (k ∷ filter (λ p. not (is_page pages p)) ks) (filter (λ p. not (is_page pages p)) ks))) m ≡ after (removals pages ks) (cond b m (remove m k))
    by true = refl
    by false = refl

pub get-removals : (pages : List (Bytes × Bytes)) (paths : List Bytes) (m : Files) (q : Bytes) → get (after (removals pages paths) m) q ≡ cond (list_any (eq_by_cmp R q) paths && not (is_page pages q)) None (get m q)
get-removals pages [] m q = refl
get-removals pages (k ∷ ks) m q =
    ap (λ x. get x q) (after-one pages k ks m) ∙ get-removals pages ks (cond (is_page pages k) m (remove m k)) q
    ∙ elim (eq_by_cmp R q k) as (λ t. eq_by_cmp R q k ≡ t → cond (list_any (eq_by_cmp R q) ks && not (is_page pages q)) None (get (cond (is_page pages k) m (remove m k)) q) ≡ cond ((t || list_any (eq_by_cmp R q) ks) && not (is_page pages q)) None (get m q)) [
      | true ↦ λ t. at t
      | false ↦ λ t. ap (cond (list_any (eq_by_cmp R q) ks && not (is_page pages q)) None) (other t)
    ] refl
  where
    gone : (b : Bool) (o : Option Bytes) → o ≡ None → cond b None o ≡ o
    gone true o e = sym e
    gone false o e = refl

    kept : (b : Bool) (o : Option Bytes) → cond (b && false) None o ≡ o
    kept true o = refl
    kept false o = refl

    removed-here : eq_by_cmp R q k ≡ true → get (remove m k) q ≡ None
    removed-here t = get-remove nat_list_cmp_total m k q ∙ ap (λ b. cond b None (get m q)) t

    by : (any page page' : Bool) → page ≡ page' → eq_by_cmp R q k ≡ true → cond (any && not page') None (get (cond page m (remove m k)) q) ≡ cond (not page') None (get m q)
    by any true true e t = kept any (get m q)
    by any true false e t = absurd (subst T e tt)
    by any false true e t = absurd (subst T (sym e) tt)
    by any false false e t = gone (any && true) (get (remove m k) q) (removed-here t) ∙ removed-here t

    at : eq_by_cmp R q k ≡ true → cond (list_any (eq_by_cmp R q) ks && not (is_page pages q)) None (get (cond (is_page pages k) m (remove m k)) q) ≡ cond (not (is_page pages q)) None (get m q)
    at t = by (list_any (eq_by_cmp R q) ks) (is_page pages k) (is_page pages q) (ap (is_page pages) (sym (ties-same q k t))) t

    other : eq_by_cmp R q k ≡ false → get (cond (is_page pages k) m (remove m k)) q ≡ get m q
    other t = elim (is_page pages k) as (λ b. get (cond b m (remove m k)) q ≡ get m q) [ true ↦ refl | false ↦ get-remove nat_list_cmp_total m k q ∙ ap (λ b. cond b None (get m q)) t ]

found-page : (q : Bytes) (es : List (Bytes × Bytes)) → is_some (find R q es) ≡ is_page es q
found-page q [] = refl
found-page q (e ∷ es) = ap (λ b. is_some (cond b (Some e.1) (find R q es))) (same_test q e.0) ∙ elim (bytes_eq e.0 q) as (λ b. is_some (cond b (Some e.1) (find R q es)) ≡ (b || is_page es q)) [ true ↦ refl | false ↦ found-page q es ]

none_either : (b : Bool) → ◌≡◌ {A = Option Bytes} (cond b None None) None
none_either true = refl
none_either false = refl

settled : (found here : Option Bytes) (any : Bool) → any ≡ is_some here → or_else found (cond (any && not (is_some found)) None here) ≡ found
settled (Some b) here any e = refl
settled None None any e = none_either (any && true)
settled None (Some b) any e = ap (λ a. cond (a && true) None (Some b)) e

-- a removal of what is no page leaves what is to be written
unmoved : (pages es : List (Bytes × Bytes)) (paths : List Bytes) (m : Files) → ((q : Bytes) → is_page es q ≡ true → is_page pages q ≡ true) → writings es (after (removals pages paths) m) ≡ writings es m
unmoved pages es paths m within = ap (map (λ (e : Bytes × Bytes). writing e.0 e.1)) (by es within)
  where
    kept : (b : Bool) (o : Option Bytes) → cond (b && false) None o ≡ o
    kept true o = refl
    kept false o = refl

    either : (a b : Bool) → b ≡ true → (a || b) ≡ true
    either true b e = refl
    either false b e = e

    self : (x : Bytes) (b : Bool) → (bytes_eq x x || b) ≡ true
    self x b = ap (λ t. t || b) (bytes-self x)

    by : (es : List (Bytes × Bytes)) → ((q : Bytes) → is_page es q ≡ true → is_page pages q ≡ true) → filter (λ e. not (holds (get (after (removals pages paths) m) e.0) e.1)) es ≡ filter (λ e. not (holds (get m e.0) e.1)) es
    by [] within = refl
    by (x ∷ xs) within =
        let page : is_page pages x.0 ≡ true = within x.0 (self x.0 (is_page xs x.0)) in
        let here = get-removals pages paths m x.0 ∙ ap (λ b. cond (list_any (eq_by_cmp R x.0) paths && not b) None (get m x.0)) page ∙ kept (list_any (eq_by_cmp R x.0) paths) (get m x.0) in
        let rest = by xs (λ q e. within q (either (bytes_eq x.0 q) (is_page xs q) e)) in
        (λ i. cond (not (holds (here i) x.1)) (x ∷ rest i) (rest i))

pub changes-front : (pages : List (Bytes × Bytes)) (paths : List Bytes) (m : Files) → paths ≡ keys m → changes pages m ≡ removals pages paths ++ writings pages (after (removals pages paths) m)
changes-front pages paths m all = ap (λ ks. removals pages ks ++ writings pages m) (sym all) ∙ ap (λ l. removals pages paths ++ l) (sym (unmoved pages pages paths m (λ q e. e)))

pub exactly : (pages : List (Bytes × Bytes)) (m : Files) → ascends (paths_of pages) ≡ true → after (changes pages m) m ≡ from_entries pages
exactly pages m sorted =
    ap (λ l. after l m) (changes-front pages (keys m) m refl) ∙ after-append (removals pages (keys m)) (writings pages n) m ∙ same_map nat_list_cmp_total only_equal_tie _ _ (λ q.
    get-writings pages n q sorted ∙ ap (or_else (find R q pages)) (get-removals pages (keys m) m q ∙ ap (λ b. cond (list_any (eq_by_cmp R q) (keys m) && not b) None (get m q)) (sym (found-page q pages)))
    ∙ settled (find R q pages) (get m q) (list_any (eq_by_cmp R q) (keys m)) (sym (contains_key-keys m q)) ∙ sym (get-from_entries nat_list_cmp_total pages q))
  where
    n : Files
    n = after (removals pages (keys m)) m

-- ---- a site that is listed, cleared and written

all-keys : (m : Files) (paths : List Bytes) (s : BTreeSet Bytes) → IsPermutation (keys m) paths → IsFromIterResult R paths s → s.keys ≡ keys m
all-keys m paths s perm made = same-paths s.keys (keys m) (ascends-sorted s.keys made.1) (ascends-entries m) (λ q. made.0 q ∙ sym (list_any-IsPermutation (eq_by_cmp R q) _ _ perm))

pub whole-list : (old now : Option Files) (pages : List (Bytes × Bytes)) (paths : List Bytes) (s : BTreeSet Bytes)
    → IfSome old (λ m. IsPermutation (keys m) paths) → IsFromIterResult R paths s → now ≡ old
    → (n : Files) → now ≡ Some n → changes pages n ≡ removals pages s.keys ++ writings pages (after (removals pages s.keys) n)
whole-list old now pages paths s perm made same n told =
    changes-front pages s.keys n (all-keys n paths s (subst (λ o. IfSome o (λ m. IsPermutation (keys m) paths)) (sym same ∙ told) perm) made)

pub whole-making : (old now : Option Files) (pages : List (Bytes × Bytes)) → now ≡ old → IsMaking (changes pages) (changes pages) old now
whole-making old now pages same = subst (λ o. IsMaking (changes pages) (changes pages) old o) (sym same) (making-init (changes pages) old)

pub whole-counted : (old listed cleared : Option Files) (pages : List (Bytes × Bytes)) (paths : List Bytes) (s : BTreeSet Bytes) (removed written : ℕ)
    → IfSome old (λ m. IsPermutation (keys m) paths) → IsFromIterResult R paths s → listed ≡ old
    → IfSome listed (λ m. cleared ≡ Some (after (removals pages s.keys) m)) → removed ≡ length (removals pages s.keys) → IfSome cleared (λ m. written ≡ length (writings pages m))
    → IfSome old (λ m. (written ≡ length (writings pages m)) × (removed ≡ length (removals pages (keys m))))
whole-counted None listed cleared pages paths s removed written perm made same out r w = tt
whole-counted (Some m) listed cleared pages paths s removed written perm made same out r w =
    let here = subst (λ o. IfSome o (λ m. cleared ≡ Some (after (removals pages s.keys) m))) same out in
    let there = subst (λ o. IfSome o (λ m. written ≡ length (writings pages m))) here w in
    (there ∙ ap length (unmoved pages pages s.keys m (λ q e. e)), r ∙ ap (λ ks. length (removals pages ks)) (all-keys m paths s perm made))

pub whole-written : (old new : Option Files) (pages : List (Bytes × Bytes)) (written removed : ℕ) → ascends (paths_of pages) ≡ true → IsMaking (λ n. []) (changes pages) old new
    → IfSome old (λ m. (written ≡ length (writings pages m)) × (removed ≡ length (removals pages (keys m))))
    → IfSome old (λ m. IsWritten pages m new (record { written = written; removed = removed }))
whole-written None new pages written removed sorted making counted = tt
whole-written (Some m) new pages written removed sorted making counted =
    let made : Makes {T = Unit {0}} (changes pages) (Some m) new (Ok tt) = making-end (λ n. []) (changes pages) (Some m) new tt (λ n. refl) making in
    record { exactly = made.done ∙ ap Some (exactly pages m sorted); written = counted.0; removed = counted.1 }
