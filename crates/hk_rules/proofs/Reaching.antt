-- The contexts that a chain reaches: none is left out that they name.
use Rattle.std.proofs.Common.{◌≡◌, ℕ, zero, suc, ◌<◌, ◌≤◌, Bool, true, false, cond, ◌||◌, ◌⊎◌, inl, inr, List, [], ◌∷◌, ◌++◌, length, filter, nat_eq, nat_lt, refl, sym, ap, subst, ◌∙◌, arith, eqb-true, eq-eqb, ltb-true, ltb-false}
use Rattle.std.specs.List.{AllByRecursion, flat_map, range_with_len}
use Rattle.std.proofs.lemmas.List.FromFn.{length-range_with_len}
use Rattle.hk_chain.specs.declared.chain.Step.{Step}
use Rattle.hk_chain.proofs.Spans.{range-all, range-has}
use Rattle.hk_rules.specs.Plan.{Lookups}
use Rattle.hk_rules.specs.Recipe.{step_contexts, list_contexts, is_among, is_listed, reached_by, reached}
use Rattle.hk_rules.proofs.ItemNumbers.{filter-all, filter-has}

-- ---- tests and lists

pub or-left : (a b : Bool) → a ≡ true → (a || b) ≡ true
or-left true b e = refl
or-left false b e = absurd (differ e)
  where
    differ : false ≡ true → ⊥
    differ w = cc

pub or-right : (a b : Bool) → b ≡ true → (a || b) ≡ true
or-right true b e = refl
or-right false b e = e

pub or-cases : (a b : Bool) → (a || b) ≡ true → (a ≡ true) ⊎ (b ≡ true)
or-cases true b e = inl refl
or-cases false b e = inr e

pub among-all : (P : ℕ → Type 0) (xs : List ℕ) (n : ℕ) → AllByRecursion P xs → is_among xs n ≡ true → P n
among-all P [] n h e = cc
among-all P (x ∷ xs) n h e = at (or-cases (nat_eq n x) (is_among xs n) e) (λ w. among-all P xs n h.1 w)
  where
    at : (nat_eq n x ≡ true) ⊎ (is_among xs n ≡ true) → (is_among xs n ≡ true → P n) → P n
    at (inl w) rec = subst P (sym (eqb-true n x w)) h.0
    at (inr w) rec = rec w

pub all-among : (P : ℕ → Type 0) (xs : List ℕ) → ((n : ℕ) → is_among xs n ≡ true → P n) → AllByRecursion P xs
all-among P [] h = tt
all-among P (x ∷ xs) h = (h x (or-left (nat_eq x x) (is_among xs x) (eq-eqb x x refl)), all-among P xs (λ n e. h n (or-right (nat_eq n x) (is_among xs n) e)))

pub among-front : (xs ys : List ℕ) (n : ℕ) → is_among xs n ≡ true → is_among (xs ++ ys) n ≡ true
among-front [] ys n e = cc
among-front (x ∷ xs) ys n e = at (or-cases (nat_eq n x) (is_among xs n) e) (λ w. among-front xs ys n w)
  where
    at : (nat_eq n x ≡ true) ⊎ (is_among xs n ≡ true) → (is_among xs n ≡ true → is_among (xs ++ ys) n ≡ true) → (nat_eq n x || is_among (xs ++ ys) n) ≡ true
    at (inl w) rec = or-left (nat_eq n x) (is_among (xs ++ ys) n) w
    at (inr w) rec = or-right (nat_eq n x) (is_among (xs ++ ys) n) (rec w)

pub among-back : (xs ys : List ℕ) (n : ℕ) → is_among ys n ≡ true → is_among (xs ++ ys) n ≡ true
among-back [] ys n e = e
among-back (x ∷ xs) ys n e = or-right (nat_eq n x) (is_among (xs ++ ys) n) (among-back xs ys n e)

-- what one of them names, they name
pub among-flat : (f : ℕ → List ℕ) (xs : List ℕ) (c d : ℕ) → is_among xs c ≡ true → is_among (f c) d ≡ true → is_among (flat_map f xs) d ≡ true
among-flat f [] c d e h = cc
among-flat f (x ∷ xs) c d e h = at (or-cases (nat_eq c x) (is_among xs c) e) (λ w. among-flat f xs c d w h)
  where
    at : (nat_eq c x ≡ true) ⊎ (is_among xs c ≡ true) → (is_among xs c ≡ true → is_among (flat_map f xs) d ≡ true) → is_among (f x ++ flat_map f xs) d ≡ true
    at (inl w) rec = among-front (f x) (flat_map f xs) d (subst (λ (n : ℕ). is_among (f n) d ≡ true) (eqb-true c x w) h)
    at (inr w) rec = among-back (f x) (flat_map f xs) d (rec w)

-- ---- a test that lets more pass

module _ (t u : ℕ → Bool) where
  abbrev Wider : List ℕ → Type 0
  Wider = AllByRecursion (λ x. t x ≡ true → u x ≡ true)

  longer-at : (x : ℕ) (xs ys : List ℕ) (a b : Bool) → (a ≡ true → b ≡ true) → length xs ≤ length ys → length (cond a (x ∷ xs) xs) ≤ length (cond b (x ∷ ys) ys)
  longer-at x xs ys true true h le = omega (arith, le)
  longer-at x xs ys true false h le = let w : false ≡ true = h refl in cc
  longer-at x xs ys false true h le = omega (arith, le)
  longer-at x xs ys false false h le = le

  filter-longer : (xs : List ℕ) → Wider xs → length (filter t xs) ≤ length (filter u xs)
  filter-longer [] h = omega arith
  filter-longer (x ∷ xs) h = longer-at x (filter t xs) (filter u xs) (t x) (u x) h.0 (filter-longer xs h.1)

  same-at : (x : ℕ) (xs ys : List ℕ) (a b : Bool) → (a ≡ true → b ≡ true) → length xs ≤ length ys → (length xs ≡ length ys → xs ≡ ys) → length (cond a (x ∷ xs) xs) ≡ length (cond b (x ∷ ys) ys) → cond a (x ∷ xs) xs ≡ cond b (x ∷ ys) ys
  same-at x xs ys true true h le rec e = let w : length xs ≡ length ys = omega (arith, e) in ap (λ l. x ∷ l) (rec w)
  same-at x xs ys true false h le rec e = let w : false ≡ true = h refl in cc
  same-at x xs ys false true h le rec e = absurd (omega (arith, e, le))
  same-at x xs ys false false h le rec e = rec e

  filter-same : (xs : List ℕ) → Wider xs → length (filter t xs) ≡ length (filter u xs) → filter t xs ≡ filter u xs
  filter-same [] h e = refl
  filter-same (x ∷ xs) h e = same-at x (filter t xs) (filter u xs) (t x) (u x) h.0 (filter-longer xs h.1) (λ w. filter-same xs h.1 w) e

few-at : (x : ℕ) (xs ys : List ℕ) (a : Bool) → length xs ≤ length ys → length (cond a (x ∷ xs) xs) ≤ length (x ∷ ys)
few-at x xs ys true le = omega (arith, le)
few-at x xs ys false le = omega (arith, le)

filter-few : (t : ℕ → Bool) (xs : List ℕ) → length (filter t xs) ≤ length xs
filter-few t [] = omega arith
filter-few t (x ∷ xs) = few-at x (filter t xs) xs (t x) (filter-few t xs)

-- ---- the contexts after so many times

module _ (plan : Lookups) (contexts : ℕ) (chain : List Step) where
  abbrev after_times : ℕ → List ℕ
  after_times = reached_by plan contexts chain

  abbrev test_at : ℕ → ℕ → Bool
  test_at zero = is_among (flat_map step_contexts chain)
  test_at (suc times) = is_listed plan (after_times times)

  tested : (times : ℕ) → after_times times ≡ filter (test_at times) (range_with_len 0 contexts)
  tested zero = refl
  tested (suc times) = refl

  kept : (times c : ℕ) → c < contexts → test_at times c ≡ true → is_among (after_times times) c ≡ true
  kept times c lt e =
      subst (λ cs. is_among cs c ≡ true) (sym (tested times)) (filter-has (test_at times) c (range_with_len 0 contexts) e (range-has c 0 contexts (omega arith) (omega (arith, lt))))

  wider : (times : ℕ) → AllByRecursion (λ c. test_at times c ≡ true → test_at (suc times) c ≡ true) (range_with_len 0 contexts)
  wider times =
      range-all (λ c. test_at times c ≡ true → test_at (suc times) c ≡ true) 0 contexts
      (λ c low high e. or-left (is_among (after_times times) c) (is_among (flat_map (list_contexts plan) (after_times times)) c) (kept times c (omega (arith, high)) e))

  grows : (times : ℕ) → length (after_times times) ≤ length (after_times (suc times))
  grows times =
      subst (λ cs. length cs ≤ length (after_times (suc times))) (sym (tested times))
      (filter-longer (test_at times) (test_at (suc times)) (range_with_len 0 contexts) (wider times))

  rests : (times : ℕ) → length (after_times times) ≡ length (after_times (suc times)) → after_times times ≡ after_times (suc times)
  rests times e =
      tested times ∙ filter-same (test_at times) (test_at (suc times)) (range_with_len 0 contexts) (wider times) (ap length (sym (tested times)) ∙ e)

  -- it rests, or has as many contexts as were times
  step : (times low : ℕ) → low ≤ length (after_times times) → (after_times times ≡ after_times (suc times)) ⊎ (low < length (after_times (suc times)))
  step times low le = at (nat_lt (length (after_times times)) (length (after_times (suc times)))) refl
    where
      at : (b : Bool) → nat_lt (length (after_times times)) (length (after_times (suc times))) ≡ b → (after_times times ≡ after_times (suc times)) ⊎ (low < length (after_times (suc times)))
      at true e = inr (omega (arith, ltb-true (length (after_times times)) (length (after_times (suc times))) e, le))
      at false e = inl (rests times (omega (arith, ltb-false (length (after_times times)) (length (after_times (suc times))) e, grows times)))

  rests-or : (times : ℕ) → (after_times times ≡ after_times (suc times)) ⊎ (times < length (after_times (suc times)))
  rests-or zero = step zero 0 (omega arith)
  rests-or (suc times) = at (rests-or times)
    where
      at : (after_times times ≡ after_times (suc times)) ⊎ (times < length (after_times (suc times))) → (after_times (suc times) ≡ after_times (suc (suc times))) ⊎ (suc times < length (after_times (suc (suc times))))
      at (inl e) = inl (ap (λ cs. filter (is_listed plan cs) (range_with_len 0 contexts)) e)
      at (inr lt) = step (suc times) (suc times) (omega (arith, lt))

  -- none is added after as many times as there are contexts
  pub reached-rests : after_times contexts ≡ after_times (suc contexts)
  reached-rests = at (rests-or contexts)
    where
      at : (after_times contexts ≡ after_times (suc contexts)) ⊎ (contexts < length (after_times (suc contexts))) → after_times contexts ≡ after_times (suc contexts)
      at (inl e) = e
      at (inr lt) = absurd (omega (arith, lt, filter-few (test_at (suc contexts)) (range_with_len 0 contexts), length-range_with_len 0 contexts))

  -- a context that a list names is reached
  pub reached-lists : (c d : ℕ) → d < contexts → is_among (reached plan contexts chain) c ≡ true → is_among (list_contexts plan c) d ≡ true → is_among (reached plan contexts chain) d ≡ true
  reached-lists c d lt i h =
      let here = reached plan contexts chain in
      subst (λ cs. is_among cs d ≡ true) (sym reached-rests)
      (kept (suc contexts) d lt (or-right (is_among here d) (is_among (flat_map (list_contexts plan) here) d) (among-flat (list_contexts plan) here c d i h)))

  stays : (times c : ℕ) → c < contexts → is_among (after_times times) c ≡ true → is_among (after_times (suc times)) c ≡ true
  stays times c lt i = kept (suc times) c lt (or-left (is_among (after_times times) c) (is_among (flat_map (list_contexts plan) (after_times times)) c) i)

  stays-all : (times c : ℕ) → c < contexts → is_among (after_times 0) c ≡ true → is_among (after_times times) c ≡ true
  stays-all zero c lt i = i
  stays-all (suc times) c lt i = stays times c lt (stays-all times c lt i)

  -- and one that a step names
  pub reached-steps : (c : ℕ) → c < contexts → is_among (flat_map step_contexts chain) c ≡ true → is_among (reached plan contexts chain) c ≡ true
  reached-steps c lt i = stays-all contexts c lt (kept zero c lt i)

  -- all are contexts
  pub reached-within : AllByRecursion (λ c. c < contexts) (reached plan contexts chain)
  reached-within =
      subst (AllByRecursion (λ c. c < contexts)) (sym (tested contexts))
      (filter-all (λ c. c < contexts) (test_at contexts) (range_with_len 0 contexts) (range-all (λ c. c < contexts) 0 contexts (λ q low high. omega (arith, high))))
