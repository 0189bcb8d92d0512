-- The numbers below another that pass a test, one after another.
use Rattle.std.proofs.Common.{◌≡◌, refl, sym, ap, ◌∙◌, arith, ℕ, suc, ◌+◌, ◌-◌, ◌<◌, ◌≤◌, Bool, true, false, cond, List, [], ◌∷◌, ◌++◌, append_assoc, append-nil, filter}
use Rattle.std.specs.List.{AllByRecursion, range_with_len}
use Rattle.hk_chain.proofs.Spans.{range-all}

range-from : (a n : ℕ) → a < n → range_with_len a (n - a) ≡ a ∷ range_with_len (a + 1) (n - (a + 1))
range-from a n lt = let e : n - a ≡ suc (n - (a + 1)) = omega (arith, lt) in ap (range_with_len a) e

range-none : (a n : ℕ) → n ≤ a → range_with_len a (n - a) ≡ []
range-none a n le = let e : n - a ≡ 0 = omega (arith, le) in ap (range_with_len a) e

range-all-of : (n : ℕ) → range_with_len 0 (n - 0) ≡ range_with_len 0 n
range-all-of n = let e : n - 0 ≡ n = omega arith in ap (range_with_len 0) e

passing : (f : ℕ → Bool) (a : ℕ) (rest : List ℕ) (b : Bool) → f a ≡ b → filter f (a ∷ rest) ≡ cond b (a ∷ []) [] ++ filter f rest
passing f a rest true e = ap (λ b. cond b (a ∷ filter f rest) (filter f rest)) e
passing f a rest false e = ap (λ b. cond b (a ∷ filter f rest) (filter f rest)) e

pub filter-init : (f : ℕ → Bool) (n : ℕ) (old : List ℕ) → old ≡ [] → old ++ filter f (range_with_len 0 (n - 0)) ≡ filter f (range_with_len 0 n)
filter-init f n old none = ap (λ l. l ++ filter f (range_with_len 0 (n - 0))) none ∙ ap (filter f) (range-all-of n)

-- one more number that may pass
pub filter-step : (f : ℕ → Bool) (n a : ℕ) (old new total : List ℕ) → a < n → new ≡ old ++ cond (f a) (a ∷ []) [] → old ++ filter f (range_with_len a (n - a)) ≡ total → new ++ filter f (range_with_len (a + 1) (n - (a + 1))) ≡ total
filter-step f n a old new total lt more was =
    ap (λ l. l ++ filter f (range_with_len (a + 1) (n - (a + 1)))) more
    ∙ (append_assoc old (cond (f a) (a ∷ []) []) (filter f (range_with_len (a + 1) (n - (a + 1))))
    ∙ (ap (λ l. old ++ l) (sym (passing f a (range_with_len (a + 1) (n - (a + 1))) (f a) refl) ∙ ap (filter f) (sym (range-from a n lt))) ∙ was))

pub filter-over : (f : ℕ → Bool) (n a : ℕ) (old total : List ℕ) → n ≤ a → old ++ filter f (range_with_len a (n - a)) ≡ total → old ≡ total
filter-over f n a old total le was = sym (append-nil old) ∙ (ap (λ l. old ++ filter f l) (sym (range-none a n le)) ∙ was)

-- what holds of each element holds of those that pass
pub all-filter : {X : Type 0} (f : X → Bool) (P : X → Type 0) (xs : List X) → AllByRecursion P xs → AllByRecursion P (filter f xs)
all-filter f P [] h = tt
all-filter f P (x ∷ xs) h = elim (f x) as (λ b. AllByRecursion P (cond b (x ∷ filter f xs) (filter f xs))) [
  | true ↦ (h.0, all-filter f P xs h.1)
  | false ↦ all-filter f P xs h.1
]

pub filter-all : (f : ℕ → Bool) (P : ℕ → Type 0) (n : ℕ) → ((q : ℕ) → q < n → P q) → AllByRecursion P (filter f (range_with_len 0 n))
filter-all f P n h = all-filter f P (range_with_len 0 n) (range-all P 0 n (λ q low high. h q (omega (arith, high))))
