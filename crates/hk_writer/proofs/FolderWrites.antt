-- The two loops that write a folder.
use Rattle.std.proofs.Common.{◌≡◌, ℕ, ◌+◌, ◌≤◌, Bool, true, false, cond, not, List, [], ◌∷◌, ◌++◌, map, Option, Some, None, refl, sym, ap, subst, ◌∙◌, IfSome, arith, length, filter, length-append}
use Rattle.std.specs.Prelude.{T}
use Rattle.std.specs.Ordering.{nat_cmp, is_eq, is_lt, eq_by_cmp, ordering_reverse}
use Rattle.std.specs.Cmp.Lexicographic.{slice_cmp, nat_list_cmp_total}
use Rattle.std.specs.declared.cmp.Ordering.{Ordering}
use Rattle.std.specs.declared.cmp.Ordering.TheVariants.{Less, Equal, Greater}
use Rattle.std.specs.FinMap.{get, insert, get-insert}
use Rattle.std.specs.FinMap.Entries.{below_all}
use Rattle.hk_base.specs.Bytes.{Bytes, Files, ascends, paths_of}
use Rattle.hk_base.proofs.Both.{left-part, right-part}
use Rattle.hk_writer.specs.Writing.{Change, removal, writing, after, is_page, holds, removals, writings}
use Rattle.hk_writer.proofs.Making.{IsMaking}

abbrev R : Bytes → Bytes → Ordering
R = slice_cmp nat_cmp

pub record IsRemovedSoFar (old now : Option Files) (before faults : ℕ) (pages : List (Bytes × Bytes)) (count passed : ℕ) (rest all : List Bytes) : Type 0 where
  pub making : IsMaking (λ m. removals pages rest) (λ m. removals pages all) old now
  pub small : count ≤ passed
  pub counted : count + length (removals pages rest) ≡ length (removals pages all)
  pub later : before ≤ faults

pub removals-front : (pages : List (Bytes × Bytes)) (path : Bytes) (left rest : List Bytes) → left ≡ path ∷ rest → removals pages left ≡ removals pages (path ∷ []) ++ removals pages rest
removals-front pages path left rest step = ap (removals pages) step ∙ by (is_page pages path)
  where
    by : (b : Bool) → map removal (cond (not b) (path ∷ filter (λ p. not (is_page pages p)) rest) (filter (λ p. not (is_page pages p)) rest)) ≡ map removal (cond (not b) (path ∷ []) []) ++ removals pages rest
    by true = refl
    by false = refl

one-removal : (pages : List (Bytes × Bytes)) (path : Bytes) (removed : Bool) → removed ≡ not (is_page pages path) → length (removals pages (path ∷ [])) ≡ cond removed 1 0
one-removal pages path removed e = by (is_page pages path) removed e
  where
    by : (b removed : Bool) → removed ≡ not b → length (map removal (cond (not b) (path ∷ []) [])) ≡ cond removed 1 0
    by true removed e = ap (λ r. cond r 1 0) (sym e)
    by false removed e = ap (λ r. cond r 1 0) (sym e)

pub tally : (did : Bool) (n n' more all here : ℕ) (xs ys zs : List Change) → length xs ≡ here → here ≡ cond did 1 0 → n' ≡ cond did (n + 1) n → ys ≡ xs ++ zs → n + length ys ≡ all → n' + length zs ≡ all
tally true n n' more all here xs ys zs l e f step h = let k = simp length-append at (ap length step) in omega arith
tally false n n' more all here xs ys zs l e f step h = let k = simp length-append at (ap length step) in omega arith

pub counted-removal : (pages : List (Bytes × Bytes)) (path : Bytes) (left rest : List Bytes) (removed : Bool) (n n' all : ℕ) → left ≡ path ∷ rest → removed ≡ not (is_page pages path) → n' ≡ cond removed (n + 1) n → n + length (removals pages left) ≡ all → n' + length (removals pages rest) ≡ all
counted-removal pages path left rest removed n n' all step e f h =
    tally removed n n' 0 all (cond removed 1 0) (removals pages (path ∷ [])) (removals pages left) (removals pages rest) (one-removal pages path removed e) refl f (removals-front pages path left rest step) h

pub tally-small : (did : Bool) (n n' i j : ℕ) → n' ≡ cond did (n + 1) n → j ≡ i + 1 → n ≤ i → n' ≤ j
tally-small true n n' i j e k h = omega arith
tally-small false n n' i j e k h = omega arith

-- ---- the pages

above-differs : (o : Ordering) → is_lt o ≡ true → is_eq o ≡ false
above-differs Less e = refl
above-differs Equal e = absurd (subst T (sym e) tt)
above-differs Greater e = absurd (subst T (sym e) tt)

differs : (x p : Bytes) → is_lt (R p x) ≡ true → eq_by_cmp R x p ≡ false
differs x p h = ap is_eq (nat_list_cmp_total.antisymm x p) ∙ turned (R p x) h
  where
    turned : (o : Ordering) → is_lt o ≡ true → is_eq (ordering_reverse o) ≡ false
    turned Less e = refl
    turned Equal e = absurd (subst T (sym e) tt)
    turned Greater e = absurd (subst T (sym e) tt)

-- to put a page changes nothing of what is to be written above it
unmoved : (p b : Bytes) (n : Files) (rest : List (Bytes × Bytes)) → below_all R p (map (λ (k : Bytes). (k, k)) (paths_of rest)) ≡ true → filter (λ e. not (holds (get (insert n p b) e.0) e.1)) rest ≡ filter (λ e. not (holds (get n e.0) e.1)) rest
unmoved p b n [] h = refl
unmoved p b n (x ∷ xs) h =
    let here = get-insert nat_list_cmp_total n p b x.0 ∙ ap (λ t. cond t (Some b) (get n x.0)) (differs x.0 p (left-part _ _ h)) in
    (λ i. cond (not (holds (here i) x.1)) (x ∷ unmoved p b n xs (right-part _ _ h) i) (unmoved p b n xs (right-part _ _ h) i))

pub writings-front : (left rest : List (Bytes × Bytes)) (e : Bytes × Bytes) (n : Files) → left ≡ e ∷ rest → ascends (paths_of left) ≡ true
    → writings left n ≡ writings (e ∷ []) n ++ writings rest (after (writings (e ∷ []) n) n)
writings-front left rest e n step h = ap (λ l. writings l n) step ∙ by (holds (get n e.0) e.1) refl
  where
    sorted : below_all R e.0 (map (λ (k : Bytes). (k, k)) (paths_of rest)) ≡ true
    sorted = left-part _ _ (ap (λ l. ascends (paths_of l)) (sym step) ∙ h)

    by : (t : Bool) → holds (get n e.0) e.1 ≡ t → writings (e ∷ rest) n ≡ writings (e ∷ []) n ++ writings rest (after (writings (e ∷ []) n) n)
    by true t = rw (t) refl
    by false t = rw (t) (ap (λ l. writing e.0 e.1 ∷ map (λ (e : Bytes × Bytes). writing e.0 e.1) l) (sym (unmoved e.0 e.1 n rest sorted)))

pub record IsWrittenSoFar (old now : Option Files) (before faults : ℕ) (count passed : ℕ) (rest all : List (Bytes × Bytes)) : Type 0 where
  pub making : IsMaking (writings rest) (writings all) old now
  pub ascending : ascends (paths_of rest) ≡ true
  pub small : count ≤ passed
  pub counted : IfSome old (λ m. IfSome now (λ n. count + length (writings rest n) ≡ length (writings all m)))
  pub later : before ≤ faults

pub ascends-tail : (left rest : List (Bytes × Bytes)) (e : Bytes × Bytes) → left ≡ e ∷ rest → ascends (paths_of left) ≡ true → ascends (paths_of rest) ≡ true
ascends-tail left rest e step h = right-part _ _ (ap (λ l. ascends (paths_of l)) (sym step) ∙ h)

one-writing : (e : Bytes × Bytes) (n : Files) (did : Bool) → did ≡ not (holds (get n e.0) e.1) → length (writings (e ∷ []) n) ≡ cond did 1 0
one-writing e n did is = by (holds (get n e.0) e.1) did is
  where
    by : (t did : Bool) → did ≡ not t → length (map (λ (e : Bytes × Bytes). writing e.0 e.1) (cond (not t) (e ∷ []) [])) ≡ cond did 1 0
    by true did is = ap (λ r. cond r 1 0) (sym is)
    by false did is = ap (λ r. cond r 1 0) (sym is)

pub counted-writing : (old now new : Option Files) (left rest all : List (Bytes × Bytes)) (e : Bytes × Bytes) (did : Bool) (n n' : ℕ)
    → left ≡ e ∷ rest → ascends (paths_of left) ≡ true
    → IfSome now (λ m. new ≡ Some (after (writings (e ∷ []) m) m)) → IfSome now (λ m. did ≡ not (holds (get m e.0) e.1)) → n' ≡ cond did (n + 1) n
    → IsMaking (writings left) (writings all) old now
    → IfSome old (λ m. IfSome now (λ x. n + length (writings left x) ≡ length (writings all m))) → IfSome old (λ m. IfSome new (λ x. n' + length (writings rest x) ≡ length (writings all m)))
counted-writing None now new left rest all e did n n' step sorted done is f making h = tt
counted-writing (Some m) now None left rest all e did n n' step sorted done is f making h = tt
counted-writing (Some m) None (Some x) left rest all e did n n' step sorted done is f making h = absurd (cc (making.at.told))
counted-writing (Some m) (Some y) (Some x) left rest all e did n n' step sorted done is f making h =
    let there : x ≡ after (writings (e ∷ []) y) y = (cc) in
    tally did n n' 0 (length (writings all m)) (cond did 1 0) (writings (e ∷ []) y) (writings left y) (writings rest x) (one-writing e y did is) refl f
    (writings-front left rest e y step sorted ∙ ap (λ z. writings (e ∷ []) y ++ writings rest z) (sym there)) h
