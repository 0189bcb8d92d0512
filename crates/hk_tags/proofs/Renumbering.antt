-- Contexts in the order of their names: their numbers, and what holds of them still.
use Rattle.std.proofs.Common.{◌≡◌, refl, sym, ap, ◌∙◌, subst, arith, ℕ, zero, suc, ◌<◌, ◌≤◌, Bool, true, false, cond, List, [], ◌∷◌, length, map, get_or, filter}
use Rattle.std.proofs.lemmas.Cmp.{nat_list_cmp_total}
use Rattle.std.proofs.lemmas.Map.Text.{is_eq-slice_cmp}
use Rattle.std.proofs.lemmas.List.MinMax.{ranks_by}
use Rattle.std.proofs.lemmas.List.Sorted.{sorted_far}
use Rattle.std.proofs.lemmas.List.Sums.{length-filter, count_by-le-length}
use Rattle.std.specs.Prelude.{bytes_eq, unwrap_or}
use Rattle.std.specs.Cmp.{IsStrictWeakOrder}
use Rattle.std.specs.Cmp.Lexicographic.{slice_cmp}
use Rattle.std.specs.List.{AllByRecursion, IsDistinct, slice_get}
use Rattle.std.specs.List.Sorted.{IsPartitionedBy, IsPartitionPoint, IsSortedBy, IsStrictlySortedBy}
use Rattle.std.specs.Ordering.{nat_cmp, is_eq, is_lt, ordering_reverse}
use Rattle.std.specs.declared.cmp.Ordering.{Ordering}
use Rattle.std.specs.declared.cmp.Ordering.TheVariants.{Less, Equal, Greater}
use Rattle.hk_base.specs.Bytes.{Bytes}
use Rattle.hk_chain.specs.Context.{ContextView}
use Rattle.hk_rules.specs.Plan.{no_context}
use Rattle.hk_rules_file.specs.Linked.{context_names}
use Rattle.hk_rules_file.proofs.LinkedNumbers.{all-weaken}
use Rattle.hk_rules_file.specs.declared.rules.Rule.{Rule}
use Rattle.hk_tags.specs.Growing.{GrowingView}
use Rattle.hk_tags.specs.NameOrder.{comes_before, is_named_before, is_before, by_name, number_of, numbers_of, new_number, rule_by, context_by, renumbered, in_name_order}
use Rattle.hk_chain.specs.Sorting.{put_by}
use Rattle.hk_chain.proofs.Sorting.{not-before}

abbrev R : Bytes → Bytes → Ordering
R = slice_cmp nat_cmp

pub name-ranks : IsStrictWeakOrder is_named_before
name-ranks = ranks_by nat_list_cmp_total (λ (c : ContextView). c.name)

text-ranks : IsStrictWeakOrder comes_before
text-ranks = ranks_by nat_list_cmp_total (λ (x : Bytes). x)

-- ---- the number of a name

-- those before a name stand in front
parted-by : (a b : Bool) → (a ≡ false → b ≡ false) → b ≡ true → a ≡ true
parted-by true b h e = refl
parted-by false b h e = let f = h refl in absurd (not-both b e f)
  where
    not-both : (b : Bool) → b ≡ true → b ≡ false → ⊥
    not-both true e f = cc
    not-both false e f = cc

pub parted : (cs : List ContextView) (name : Bytes) → IsSortedBy is_named_before cs → IsPartitionedBy (is_before name) cs
parted cs name up i j d le lt =
    parted-by (is_before name (get_or cs i d)) (is_before name (get_or cs j d))
    (λ out. text-ranks.chain (get_or cs j d).name (get_or cs i d).name name (sorted_far is_named_before name-ranks cs up i j d le lt) out)

none-pass : {X : Type 0} (p : X → Bool) (xs : List X) → ((k : ℕ) (d : X) → k < length xs → p (get_or xs k d) ≡ false) → 0 ≡ length (filter p xs)
none-pass p [] h = refl
none-pass p (x ∷ xs) h =
    none-pass p xs (λ k d lt. h (suc k) d (omega (arith, lt)))
    ∙ ap (λ b. length (cond b (x ∷ filter p xs) (filter p xs))) (sym (h 0 x (omega arith)))

-- where the test holds of those in front of a place alone, so many pass
front-pass : {X : Type 0} (p : X → Bool) (xs : List X) (i : ℕ) → i ≤ length xs → ((k : ℕ) (d : X) → k < i → p (get_or xs k d) ≡ true) → ((k : ℕ) (d : X) → i ≤ k → k < length xs → p (get_or xs k d) ≡ false) → i ≡ length (filter p xs)
front-pass p xs zero le front back = none-pass p xs (λ k d lt. back k d (omega arith) lt)
front-pass p [] (suc i) le front back = absurd (omega (arith, le))
front-pass p (x ∷ xs) (suc i) le front back =
    ap suc (front-pass p xs i (omega (arith, le)) (λ k d lt. front (suc k) d (omega (arith, lt))) (λ k d low lt. back (suc k) d (omega (arith, low)) (omega (arith, lt))))
    ∙ ap (λ b. length (cond b (x ∷ filter p xs) (filter p xs))) (sym (front 0 x (omega arith)))

pub number-found : (cs : List ContextView) (name : Bytes) (i : ℕ) → i ≤ length cs → IsPartitionPoint (λ c. is_before name c ≡ true) (λ c. is_before name c ≡ false) cs i → i ≡ number_of cs name
number-found cs name i le h = front-pass (is_before name) cs i le (λ k d lt. h.0 k d (omega arith) lt) h.1

-- the order of contexts doesn't change how many come before a name
count-swap : {X : Type 0} (x y : X) (a b : Bool) (l : List X) → length (cond b (y ∷ cond a (x ∷ l) l) (cond a (x ∷ l) l)) ≡ length (cond a (x ∷ cond b (y ∷ l) l) (cond b (y ∷ l) l))
count-swap x y true true l = refl
count-swap x y true false l = refl
count-swap x y false true l = refl
count-swap x y false false l = refl

count-cons : {X : Type 0} (x : X) (b : Bool) (l m : List X) → length l ≡ length m → length (cond b (x ∷ l) l) ≡ length (cond b (x ∷ m) m)
count-cons x true l m e = ap suc e
count-cons x false l m e = e

count-put : {X : Type 0} (p : X → Bool) (before : X → X → Bool) (x : X) (ys : List X) → length (filter p (put_by before x ys)) ≡ length (filter p (x ∷ ys))
count-put p before x [] = refl
count-put p before x (y ∷ ys) = elim (before y x) as (λ b. length (filter p (cond b (y ∷ put_by before x ys) (x ∷ y ∷ ys))) ≡ length (filter p (x ∷ y ∷ ys))) [
  | true ↦ count-cons y (p y) (filter p (put_by before x ys)) (filter p (x ∷ ys)) (count-put p before x ys) ∙ count-swap x y (p x) (p y) (filter p ys)
  | false ↦ refl
]

pub number-kept : (name : Bytes) (cs : List ContextView) → number_of (by_name cs) name ≡ number_of cs name
number-kept name [] = refl
number-kept name (c ∷ cs) =
    count-put (is_before name) is_named_before c (by_name cs)
    ∙ count-cons c (is_before name c) (filter (is_before name) (by_name cs)) (filter (is_before name) cs) (number-kept name cs)

pub numbers-kept : (cs : List ContextView) (names : List Bytes) → map (number_of (by_name cs)) names ≡ map (number_of cs) names
numbers-kept cs [] = refl
numbers-kept cs (n ∷ ns) = λ i. number-kept n cs i ∷ numbers-kept cs ns i

-- ---- a new number is one of the contexts

few-pass : {X : Type 0} (p : X → Bool) (xs : List X) → length (filter p xs) ≤ length xs
few-pass p xs = subst (λ n. n ≤ length xs) (sym (length-filter p xs)) (count_by-le-length p xs)

one-out : {X : Type 0} (p : X → Bool) (xs : List X) (i : ℕ) (d : X) → i < length xs → p (get_or xs i d) ≡ false → length (filter p xs) < length xs
one-out p [] i d lt h = absurd (omega arith)
one-out p (x ∷ xs) zero d lt h = subst (λ b. length (cond b (x ∷ filter p xs) (filter p xs)) < suc (length xs)) (sym h) (let f = few-pass p xs in omega (arith, f))
one-out p (x ∷ xs) (suc i) d lt h = let r = one-out p xs i d (omega (arith, lt)) h in elim (p x) as (λ b. length (cond b (x ∷ filter p xs) (filter p xs)) < suc (length xs)) [
  | true ↦ omega (arith, r)
  | false ↦ omega (arith, r)
]

below-at : (f : Bytes → ℕ) (n other : ℕ) (cs : List ContextView) (i : ℕ) (d : ContextView) → i < length cs → f (get_or cs i d).name < n → unwrap_or (slice_get (map f (context_names cs)) i) other < n
below-at f n other [] i d lt h = absurd (omega arith)
below-at f n other (c ∷ cs) zero d lt h = h
below-at f n other (c ∷ cs) (suc i) d lt h = below-at f n other cs i d (omega (arith, lt)) h

abbrev pub KeepsBelow : ℕ → List ℕ → Type 0
KeepsBelow count numbers = (k : ℕ) → k < count → new_number numbers k < count

pub new-below : (cs : List ContextView) → KeepsBelow (length cs) (numbers_of cs)
new-below cs k lt =
    below-at (number_of cs) (length cs) k cs k no_context lt
    (one-out (is_before (get_or cs k no_context).name) cs k no_context lt (not-before is_named_before name-ranks (get_or cs k no_context)))

-- ---- the names in order

all-put : (P : ContextView → Type 0) (before : ContextView → ContextView → Bool) (c : ContextView) (cs : List ContextView) → P c → AllByRecursion P cs → AllByRecursion P (put_by before c cs)
all-put P before c [] p a = (p, tt)
all-put P before c (d ∷ ds) p a = elim (before d c) as (λ b. AllByRecursion P (cond b (d ∷ put_by before c ds) (c ∷ d ∷ ds))) [
  | true ↦ (a.0, all-put P before c ds p a.1)
  | false ↦ (p, a)
]

pub all-by_name : (P : ContextView → Type 0) (cs : List ContextView) → AllByRecursion P cs → AllByRecursion P (by_name cs)
all-by_name P [] a = tt
all-by_name P (c ∷ cs) a = all-put P is_named_before c (by_name cs) a.0 (all-by_name P cs a.1)

all-names : (P : Bytes → Type 0) (cs : List ContextView) → AllByRecursion (λ (c : ContextView). P c.name) cs → AllByRecursion P (context_names cs)
all-names P [] a = tt
all-names P (c ∷ cs) a = (a.0, all-names P cs a.1)

all-named : (P : Bytes → Type 0) (cs : List ContextView) → AllByRecursion P (context_names cs) → AllByRecursion (λ (c : ContextView). P c.name) cs
all-named P [] a = tt
all-named P (c ∷ cs) a = (a.0, all-named P cs a.1)

clash : {A : Type 0} → true ≡ false → A
clash e = cc

less-of : (o : Ordering) → is_lt o ≡ true → o ≡ Less
less-of Less e = refl
less-of Equal e = clash (sym e)
less-of Greater e = clash (sym e)

flipped : (a b : Bytes) → bytes_eq a b ≡ false → is_lt (R b a) ≡ false → (o : Ordering) → R a b ≡ o → R a b ≡ Less
flipped a b apart late Less e = e
flipped a b apart late Equal e = clash (ap is_eq (sym e) ∙ (is_eq-slice_cmp a b ∙ apart))
flipped a b apart late Greater e = clash (sym (ap is_lt (nat_list_cmp_total.antisymm b a ∙ ap ordering_reverse e)) ∙ late)

put-ascends : (c : ContextView) (cs : List ContextView) → AllByRecursion (λ (d : ContextView). bytes_eq c.name d.name ≡ false) cs → IsStrictlySortedBy R (context_names cs) → IsStrictlySortedBy R (context_names (put_by is_named_before c cs))
unfolding IsStrictlySortedBy
put-ascends c [] apart up = (tt, tt)
put-ascends c (d ∷ ds) apart up = elim (is_named_before d c) as (λ b. is_named_before d c ≡ b → IsStrictlySortedBy R (context_names (cond b (d ∷ put_by is_named_before c ds) (c ∷ d ∷ ds)))) [
  | true ↦ λ h. (
    all-names (λ y. R d.name y ≡ Less) (put_by is_named_before c ds) (all-put (λ (e : ContextView). R d.name e.name ≡ Less) is_named_before c ds (less-of (R d.name c.name) h) (all-named (λ y. R d.name y ≡ Less) ds up.0)),
    put-ascends c ds apart.1 up.1,
  )
  | false ↦ λ h. let less = flipped c.name d.name apart.0 h (R c.name d.name) refl in (
    (less, all-weaken (λ y. R d.name y ≡ Less) (λ y. R c.name y ≡ Less) (λ y e. nat_list_cmp_total.trans c.name d.name y less e) (context_names ds) up.0),
    up,
  )
] refl

names-ascend : (cs : List ContextView) → IsDistinct bytes_eq (context_names cs) → IsStrictlySortedBy R (context_names (by_name cs))
unfolding IsDistinct IsStrictlySortedBy
names-ascend [] h = tt
names-ascend (c ∷ cs) h =
    put-ascends c (by_name cs) (all-by_name (λ (d : ContextView). bytes_eq c.name d.name ≡ false) cs (all-named (λ y. bytes_eq c.name y ≡ false) cs h.0)) (names-ascend cs h.1)

names-same : (numbers : List ℕ) (cs : List ContextView) → context_names (map (context_by numbers) cs) ≡ context_names cs
names-same numbers [] = refl
names-same numbers (c ∷ cs) = ap (λ ns. c.name ∷ ns) (names-same numbers cs)

-- contexts whose names differ ascend by them in the end
pub order-ascends : (numbers : List ℕ) (cs : List ContextView) → IsDistinct bytes_eq (context_names cs) → IsStrictlySortedBy R (context_names (map (context_by numbers) (by_name cs)))
order-ascends numbers cs apart = subst (IsStrictlySortedBy R) (sym (names-same numbers (by_name cs))) (names-ascend cs apart)

-- and names that ascend differ
pub ascending-differ : (names : List Bytes) → IsStrictlySortedBy R names → IsDistinct bytes_eq names
unfolding IsDistinct IsStrictlySortedBy
ascending-differ [] h = tt
ascending-differ (x ∷ xs) h = (all-weaken (λ y. R x y ≡ Less) (λ y. bytes_eq x y ≡ false) (λ y e. sym (is_eq-slice_cmp x y) ∙ ap is_eq e) xs h.0, ascending-differ xs h.1)

-- rules in the order of their contexts' names, by their parts
pub ordered-parts : (growing old : GrowingView) (names : List Bytes) (sorted contexts : List ContextView) (numbers : List ℕ) (rules : List Rule)
    → old ≡ growing → names ≡ context_names old.contexts → sorted ≡ by_name old.contexts → numbers ≡ map (number_of sorted) names → contexts ≡ map (context_by numbers) sorted → rules ≡ map (rule_by numbers) old.rules
    → record { rules = rules; contexts = contexts; patterns = old.patterns } ≡ in_name_order growing
unfolding in_name_order
ordered-parts growing old names sorted contexts numbers rules same named order counted placed ruled =
    let known : numbers ≡ numbers_of old.contexts = counted ∙ ((λ i. map (number_of (order i)) (named i)) ∙ numbers-kept old.contexts (context_names old.contexts)) in
    let all_contexts : contexts ≡ map (context_by (numbers_of old.contexts)) (by_name old.contexts) = placed ∙ (λ i. map (context_by (known i)) (order i)) in
    let all_rules : rules ≡ map (rule_by (numbers_of old.contexts)) old.rules = ruled ∙ ap (λ ns. map (rule_by ns) old.rules) known in
    let whole : record { rules = rules; contexts = contexts; patterns = old.patterns } ≡ renumbered (numbers_of old.contexts) old = λ i. record { rules = all_rules i; contexts = all_contexts i; patterns = old.patterns } in
    whole ∙ ap (λ g. renumbered (numbers_of g.contexts) g) same
