-- A link that was made relative leads to where it led.
use Rattle.std.proofs.Common.{◌≡◌, ℕ, zero, suc, ◌+◌, ◌-◌, ◌<◌, Bool, true, false, cond, ◌||◌, ◌==◌, not, T, List, [], ◌∷◌, ◌++◌, map, filter, codes, replicate, length, arith, refl, sym, ap, subst, ◌∙◌}
use Rattle.std.specs.List.{list_all, join_with_byte, fold}
use Rattle.std.proofs.lemmas.List.{length-take-le}
use Rattle.std.proofs.lemmas.List.Splits.{length-slice_split}
use Rattle.std.proofs.lemmas.List.Sums.{take_while-cons}
use Rattle.std.proofs.lemmas.Bool.{eqb-true}
use Rattle.hk_base.specs.Bytes.{Bytes}
use Rattle.hk_base.specs.Identifier.{parts}
use Rattle.hk_base.proofs.Both.{left-part, right-part}
use Rattle.hk_html.specs.Part.{is_rooted}
use Rattle.hk_html.specs.Relative.{links_of, with_roots}
use Rattle.hk_html.specs.Root.{root_at, root_of, level_of}
use Rattle.hk_html.proofs.RootedLemmas.{IsRoot-root_at}
use Rattle.hk_html.proofs.PiecesAgainLemmas.{links_of-with_roots}
use Rattle.hk_links.specs.Value.{is_internal, is_other, before, path_of}
use Rattle.hk_links.specs.Path.{but_last, last_of, folder, step, with_index, reached, resolved_path, resolved}
use Rattle.hk_links.specs.Laws.{relative, paths}

-- ---- the path of a value behind a root

before-front : (mark : ℕ) (xs ys : Bytes) → list_all (is_other mark) xs ≡ true → before mark (xs ++ ys) ≡ xs ++ before mark ys
before-front mark [] ys h = refl
before-front mark (x ∷ xs) ys h =
    take_while-cons (is_other mark) x (xs ++ ys) ∙ ap (λ b. cond b (x ∷ before mark (xs ++ ys)) []) (left-part _ _ h) ∙ ap (λ l. x ∷ l) (before-front mark xs ys (right-part _ _ h))

-- a root has no other bytes than `.` and `/`
root-all : (p : ℕ → Bool) (level : ℕ) → p 46 ≡ true → p 47 ≡ true → list_all p (root_at level) ≡ true
root-all p zero dot slash = rw (dot)
root-all p (suc zero) dot slash = rw (dot)
root-all p (suc (suc level)) dot slash = rw (dot, slash) (root-all p (suc level) dot slash)

path-front : (level : ℕ) (value : Bytes) → path_of (root_at level ++ value) ≡ root_at level ++ path_of value
path-front level value =
    ap (before 63) (before-front 35 (root_at level) value (root-all (is_other 35) level refl refl)) ∙ before-front 63 (root_at level) (before 35 value) (root-all (is_other 63) level refl refl)

-- the path of a value that begins with `/` does
path-slash : (rest : Bytes) → path_of (47 ∷ rest) ≡ 47 ∷ before 63 (before 35 rest)
path-slash rest = ap (before 63) (take_while-cons (is_other 35) 47 rest) ∙ take_while-cons (is_other 63) 47 (before 35 rest)

-- ---- the parts of a root

cut-root : (level : ℕ) (path : Bytes) → parts (root_at (suc level) ++ 47 ∷ path) ≡ replicate (suc level) (codes "..") ++ parts path
cut-root zero path = refl
cut-root (suc level) path = ap (λ all. codes ".." ∷ all) (cut-root level path)

no-parts : (all : List Bytes) → length all ≡ 0 → all ≡ []
no-parts [] e = refl
no-parts (x ∷ xs) e = absurd (omega arith)

climbed : (level : ℕ) (from rest : List Bytes) → length from ≡ level → fold step from (replicate level (codes "..") ++ rest) ≡ fold step [] rest
climbed zero from rest e = ap (λ l. fold step l rest) (no-parts from e)
climbed (suc level) from rest e = climbed level (but_last from) rest (length-take-le (length from - 1) from (omega arith) ∙ omega arith)

last-behind : (xs ys : List Bytes) → 0 < length ys → last_of (xs ++ ys) ≡ last_of ys
last-behind [] ys h = refl
last-behind (x ∷ []) [] h = absurd (omega arith)
last-behind (x ∷ []) (y ∷ ys) h = refl
last-behind (x ∷ z ∷ zs) ys h = last-behind (z ∷ zs) ys h

some-parts : (path : Bytes) → 0 < length (parts path)
some-parts path = omega (arith, length-slice_split (λ b. b == 47) path)

reached-behind : (front from : List Bytes) (long path : Bytes) → parts long ≡ front ++ parts path → fold step from (front ++ parts path) ≡ fold step [] (parts path) → reached from long ≡ reached [] path
reached-behind front from long path cut climbs =
    ap (λ all. with_index (last_of all) (fold step from all)) cut ∙ ap (λ last. with_index last (fold step from (front ++ parts path))) (last-behind front (parts path) (some-parts path)) ∙ ap (with_index (last_of (parts path))) climbs

reached-root : (level : ℕ) (from : List Bytes) (path : Bytes) → length from ≡ level → reached from (root_at level ++ 47 ∷ path) ≡ reached [] path
reached-root zero from path e =
    reached-behind (codes "." ∷ []) from (codes "." ++ 47 ∷ path) path refl (ap (λ l. fold step l (codes "." ∷ parts path)) (no-parts from e))
reached-root (suc level) from path e =
    reached-behind (replicate (suc level) (codes "..")) from (root_at (suc level) ++ 47 ∷ path) path (cut-root level path) (climbed (suc level) from (parts path) e)

length-folder : (target : Bytes) → length (folder target) ≡ level_of target
length-folder target =
    let count = length-slice_split (λ b. b == 47) target in
    length-take-le (length (parts target) - 1) (parts target) (omega arith) ∙ omega (arith, count)

-- ---- a root URL

-- a root begins with `.`
resolved-root : (level : ℕ) (target path : Bytes) → resolved_path target (root_at level ++ path) ≡ join_with_byte 47 (reached (folder target) (root_at level ++ path))
resolved-root zero target path = refl
resolved-root (suc zero) target path = refl
resolved-root (suc (suc level)) target path = refl

internal-root : (level : ℕ) (value : Bytes) → is_internal (root_at level ++ value) ≡ true
internal-root zero value = refl
internal-root (suc zero) value = refl
internal-root (suc (suc level)) value = refl

-- what is true of each value that begins with one `/`
rooted : (P : Bytes → Type 0) → ((rest : Bytes) → is_rooted (47 ∷ rest) ≡ true → P (47 ∷ rest)) → (value : Bytes) → is_rooted value ≡ true → P value
rooted P each [] h = absurd (subst T (sym h) tt)
rooted P each (x ∷ xs) h =
    let same : 47 ≡ x = eqb-true 47 x (left-part _ _ (left-part _ _ h)) in
    subst (λ x. is_rooted (x ∷ xs) ≡ true → P (x ∷ xs)) same (each xs) h

no-slashes : (b : Bool) → not b ≡ true → not (b || false) ≡ true
no-slashes true h = h
no-slashes false h = refl

internal-slash : (value : Bytes) → is_rooted value ≡ true → is_internal value ≡ true
internal-slash value h = rooted (λ value. is_internal value ≡ true) (λ rest one. no-slashes _ one) value h

resolved-slash : (target value : Bytes) → is_rooted value ≡ true → resolved target (root_of target ++ value) ≡ resolved target value
resolved-slash target value h =
    rooted (λ value. resolved target (root_of target ++ value) ≡ resolved target value) (λ rest one.
    ap (resolved_path target) (path-front (level_of target) (47 ∷ rest) ∙ ap (λ path. root_at (level_of target) ++ path) (path-slash rest))
    ∙ resolved-root (level_of target) target (47 ∷ before 63 (before 35 rest))
    ∙ ap (join_with_byte 47) (reached-root (level_of target) (folder target) (before 63 (before 35 rest)) (length-folder target))
    ∙ sym (ap (resolved_path target) (path-slash rest))) value h

-- ---- every value

pub same-internal : (target value : Bytes) → is_internal (relative target value) ≡ is_internal value
same-internal target value =
    elim (is_rooted value) as (λ b. is_rooted value ≡ b → is_internal (cond b (root_of target ++ value) value) ≡ is_internal value) [
      | true ↦ λ h. internal-root (level_of target) value ∙ sym (internal-slash value h)
      | false ↦ λ h. refl
    ] refl

pub same-path : (target value : Bytes) → resolved target (relative target value) ≡ resolved target value
same-path target value =
    elim (is_rooted value) as (λ b. is_rooted value ≡ b → resolved target (cond b (root_of target ++ value) value) ≡ resolved target value) [
      | true ↦ λ h. resolved-slash target value h
      | false ↦ λ h. refl
    ] refl

-- values that pass alike and are seen alike
same-mapped : (p : Bytes → Bool) (f g : Bytes → Bytes) → ((x : Bytes) → p (g x) ≡ p x) → ((x : Bytes) → f (g x) ≡ f x) → (xs : List Bytes) → map f (filter p (map g xs)) ≡ map f (filter p xs)
same-mapped p f g passes sees [] = refl
same-mapped p f g passes sees (x ∷ xs) =
    rw (passes x) (elim (p x) as (λ b. map f (cond b (g x ∷ filter p (map g xs)) (filter p (map g xs))) ≡ map f (cond b (x ∷ filter p xs) (filter p xs))) [
      | true ↦ ap (λ y. y ∷ map f (filter p (map g xs))) (sees x) ∙ ap (λ l. f x ∷ l) (same-mapped p f g passes sees xs)
      | false ↦ same-mapped p f g passes sees xs
    ])

pub same-pages : (target body : Bytes) → paths target (with_roots (root_of target) body) ≡ paths target body
same-pages target body =
    ap (λ values. map (resolved target) (filter is_internal values)) (links_of-with_roots (root_of target) (IsRoot-root_at (level_of target)) body) ∙ same-mapped is_internal (resolved target) (relative target) (same-internal target) (same-path target) (links_of body)
