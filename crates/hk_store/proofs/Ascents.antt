-- Numbers put among ascending ones are the contexts that a chain reaches.
use Rattle.std.proofs.Common.{◌≡◌, ℕ, zero, suc, ◌+◌, ◌-◌, ◌<◌, ◌≤◌, ◌==◌, Bool, true, false, cond, ◌||◌, List, [], ◌∷◌, ◌++◌, length, drop, filter, get_or, nat_eq, nat_lt, refl, sym, ap, subst, ◌∙◌, arith, eqb-true, eq-eqb, ne_eqb, ltb-true, ltb-false, lt-ltb, le-ltb}
use Rattle.std.specs.List.{AllByRecursion, flat_map, range_with_len}
use Rattle.std.proofs.lemmas.List.{drop_more}
use Rattle.std.proofs.lemmas.List.FromFn.{length-range_with_len}
use Rattle.hk_chain.specs.declared.chain.Step.{Step}
use Rattle.hk_chain.specs.declared.chain.Step.TheVariants as steps
use Rattle.hk_chain.specs.declared.context.Field.{Field}
use Rattle.hk_chain.specs.declared.context.Field.TheVariants as fields
use Rattle.hk_chain.proofs.Spans.{range-all, range-has}
use Rattle.hk_rules_file.specs.Linked.{IsLinkedField, IsStepWithin}
use Rattle.hk_rules.specs.LinkedPlan.{IsLinkedPlan}
use Rattle.hk_rules.specs.Plan.{Lookups, lookups, no_context}
use Rattle.hk_rules.specs.PlanView.{PlanView}
use Rattle.hk_rules.specs.Recipe.{step_contexts, field_contexts, list_contexts, is_among, is_listed, reached_by, reached}
use Rattle.hk_rules.proofs.ItemNumbers.{filter-all, filter-has}
use Rattle.hk_rules.proofs.PairNumbers.{all-at, linked-chain}
use Rattle.hk_rules.proofs.Reaching.{or-left, among-all, reached-rests}
use Rattle.hk_store.specs.Reached.{put, puts}

abbrev Test : Type 0
Test = ℕ → Bool

abbrev or_one : ℕ → Test → Test
or_one c t x = nat_eq x c || t x

abbrev or_some : List ℕ → Test → Test
or_some cs t x = is_among cs x || t x

filter-ext : (t u : Test) (xs : List ℕ) → AllByRecursion (λ x. t x ≡ u x) xs → filter t xs ≡ filter u xs
filter-ext t u [] h = refl
filter-ext t u (x ∷ xs) h = (λ k. cond (h.0 k) (x ∷ filter-ext t u xs h.1 k) (filter-ext t u xs h.1 k))

-- ---- one more

put-low : (c : ℕ) (xs : List ℕ) → AllByRecursion (λ x. c < x) xs → put c xs ≡ c ∷ xs
put-low c [] h = refl
put-low c (x ∷ xs) h =
    ap (λ b. cond b (x ∷ put c xs) (cond (x == c) (x ∷ xs) (c ∷ x ∷ xs))) (le-ltb x c (omega (arith, h.0)))
    ∙ ap (λ b. cond b (x ∷ xs) (c ∷ x ∷ xs)) (ne_eqb x c (λ e. absurd (omega (arith, h.0, e))))

range-above : (c s k : ℕ) → c < s → AllByRecursion (λ x. c < x) (range_with_len s k)
range-above c s k lt = range-all (λ x. c < x) s k (λ x low high. omega (arith, lt, low))

past : (t : Test) (c s k : ℕ) → c < s → filter (or_one c t) (range_with_len s k) ≡ filter t (range_with_len s k)
past t c s k lt = filter-ext (or_one c t) t (range_with_len s k) (range-all (λ x. or_one c t x ≡ t x) s k (λ x low high. ap (λ b. b || t x) (ne_eqb x c (λ e. absurd (omega (arith, lt, low, e))))))

less-by : (s c : ℕ) → s ≤ c → nat_eq s c ≡ false → (b : Bool) → nat_lt s c ≡ b → s < c
less-by s c low e true l = ltb-true s c l
less-by s c low e false l =
    let same : s ≡ c = omega (arith, low, ltb-false s c l) in
    let w : false ≡ true = sym e ∙ eq-eqb s c same in
    cc

less : (s c : ℕ) → s ≤ c → nat_eq s c ≡ false → s < c
less s c low e = less-by s c low e (nat_lt s c) refl

pub put-filter : (t : Test) (c s k : ℕ) → s ≤ c → c < s + k → put c (filter t (range_with_len s k)) ≡ filter (or_one c t) (range_with_len s k)
put-filter t c s zero low high = absurd (omega (arith, low, high))
put-filter t c s (suc k) low high = at (nat_eq s c) refl (t s) refl (λ below. put-filter t c (s + 1) k (omega (arith, below)) (omega (arith, high)))
  where
    at : (same : Bool) → nat_eq s c ≡ same → (b : Bool) → t s ≡ b → (s < c → put c (filter t (range_with_len (s + 1) k)) ≡ filter (or_one c t) (range_with_len (s + 1) k)) → put c (cond (t s) (s ∷ filter t (range_with_len (s + 1) k)) (filter t (range_with_len (s + 1) k))) ≡ cond (nat_eq s c || t s) (s ∷ filter (or_one c t) (range_with_len (s + 1) k)) (filter (or_one c t) (range_with_len (s + 1) k))
    at true e true p rec =
        let is : s ≡ c = eqb-true s c e in
        ap (λ b. put c (cond b (s ∷ filter t (range_with_len (s + 1) k)) (filter t (range_with_len (s + 1) k)))) p
        ∙ ap (λ b. cond b (s ∷ put c (filter t (range_with_len (s + 1) k))) (cond (s == c) (s ∷ filter t (range_with_len (s + 1) k)) (c ∷ s ∷ filter t (range_with_len (s + 1) k)))) (le-ltb s c (omega (arith, is)))
        ∙ ap (λ b. cond b (s ∷ filter t (range_with_len (s + 1) k)) (c ∷ s ∷ filter t (range_with_len (s + 1) k))) e
        ∙ ap (λ l. s ∷ l) (sym (past t c (s + 1) k (omega (arith, is))))
        ∙ sym (ap (λ b. cond (b || t s) (s ∷ filter (or_one c t) (range_with_len (s + 1) k)) (filter (or_one c t) (range_with_len (s + 1) k))) e)
    at true e false p rec =
        let is : s ≡ c = eqb-true s c e in
        ap (λ b. put c (cond b (s ∷ filter t (range_with_len (s + 1) k)) (filter t (range_with_len (s + 1) k)))) p
        ∙ put-low c (filter t (range_with_len (s + 1) k)) (filter-all (λ x. c < x) t (range_with_len (s + 1) k) (range-above c (s + 1) k (omega (arith, is))))
        ∙ ap (λ x. x ∷ filter t (range_with_len (s + 1) k)) (sym is)
        ∙ ap (λ l. s ∷ l) (sym (past t c (s + 1) k (omega (arith, is))))
        ∙ sym (ap (λ b. cond (b || t s) (s ∷ filter (or_one c t) (range_with_len (s + 1) k)) (filter (or_one c t) (range_with_len (s + 1) k))) e)
    at false e true p rec =
        let below : s < c = less s c low e in
        ap (λ b. put c (cond b (s ∷ filter t (range_with_len (s + 1) k)) (filter t (range_with_len (s + 1) k)))) p
        ∙ ap (λ b. cond b (s ∷ put c (filter t (range_with_len (s + 1) k))) (cond (s == c) (s ∷ filter t (range_with_len (s + 1) k)) (c ∷ s ∷ filter t (range_with_len (s + 1) k)))) (lt-ltb s c below)
        ∙ ap (λ l. s ∷ l) (rec below)
        ∙ sym (ap (λ b. cond (b || t s) (s ∷ filter (or_one c t) (range_with_len (s + 1) k)) (filter (or_one c t) (range_with_len (s + 1) k))) e ∙ ap (λ b. cond b (s ∷ filter (or_one c t) (range_with_len (s + 1) k)) (filter (or_one c t) (range_with_len (s + 1) k))) p)
    at false e false p rec =
        let below : s < c = less s c low e in
        ap (λ b. put c (cond b (s ∷ filter t (range_with_len (s + 1) k)) (filter t (range_with_len (s + 1) k)))) p
        ∙ rec below
        ∙ sym (ap (λ b. cond (b || t s) (s ∷ filter (or_one c t) (range_with_len (s + 1) k)) (filter (or_one c t) (range_with_len (s + 1) k))) e ∙ ap (λ b. cond b (s ∷ filter (or_one c t) (range_with_len (s + 1) k)) (filter (or_one c t) (range_with_len (s + 1) k))) p)

-- ---- more of them

or-swap : (a b c : Bool) → (a || (b || c)) ≡ ((b || a) || c)
or-swap true true c = refl
or-swap true false c = refl
or-swap false true c = refl
or-swap false false c = refl

pub puts-filter : (n : ℕ) (t : Test) (cs : List ℕ) → AllByRecursion (λ c. c < n) cs → puts (filter t (range_with_len 0 n)) cs ≡ filter (or_some cs t) (range_with_len 0 n)
puts-filter n t [] h = refl
puts-filter n t (c ∷ cs) h =
    let below = h.0 in
    ap (λ ms. puts ms cs) (put-filter t c 0 n (omega arith) (omega arith))
    ∙ puts-filter n (or_one c t) cs h.1
    ∙ filter-ext (or_some cs (or_one c t)) (or_some (c ∷ cs) t) (range_with_len 0 n) (range-all (λ x. or_some cs (or_one c t) x ≡ or_some (c ∷ cs) t x) 0 n (λ x low high. or-swap (is_among cs x) (nat_eq x c) (t x)))

filter-none : (xs : List ℕ) → filter (λ x. false) xs ≡ []
filter-none [] = refl
filter-none (x ∷ xs) = filter-none xs

or-nothing : (b : Bool) → (b || false) ≡ b
or-nothing true = refl
or-nothing false = refl

pub puts-first : (n : ℕ) (cs : List ℕ) → AllByRecursion (λ c. c < n) cs → puts [] cs ≡ filter (is_among cs) (range_with_len 0 n)
puts-first n cs h =
    ap (λ ms. puts ms cs) (sym (filter-none (range_with_len 0 n)))
    ∙ puts-filter n (λ x. false) cs h
    ∙ filter-ext (or_some cs (λ x. false)) (is_among cs) (range_with_len 0 n) (range-all (λ x. or_some cs (λ y. false) x ≡ is_among cs x) 0 n (λ x low high. or-nothing (is_among cs x)))

same-bool : (a b : Bool) → (a ≡ true → b ≡ true) → (b ≡ true → a ≡ true) → a ≡ b
same-bool true b f g = sym (f refl)
same-bool false true f g = g refl
same-bool false false f g = refl

passes : (t : Test) (xs : List ℕ) → AllByRecursion (λ x. t x ≡ true) (filter t xs)
passes t [] = tt
passes t (x ∷ xs) = elim (t x) as (λ b. t x ≡ b → AllByRecursion (λ x. t x ≡ true) (cond b (x ∷ filter t xs) (filter t xs))) [
  | true ↦ λ e. (e, passes t xs)
  | false ↦ λ e. passes t xs
] refl

among-filter : (n : ℕ) (t : Test) (x : ℕ) → x < n → is_among (filter t (range_with_len 0 n)) x ≡ t x
among-filter n t x lt = same-bool (is_among (filter t (range_with_len 0 n)) x) (t x)
    (λ e. among-all (λ y. t y ≡ true) (filter t (range_with_len 0 n)) x (passes t (range_with_len 0 n)) e)
    (λ e. filter-has t x (range_with_len 0 n) e (range-has x 0 n (omega arith) (omega (arith, lt))))

or-turn : (a b : Bool) → (a || b) ≡ (b || a)
or-turn true true = refl
or-turn true false = refl
or-turn false true = refl
or-turn false false = refl

abbrev again : ℕ → ℕ → ℕ
again zero times = times
again (suc k) times = suc (again k times)

again-is : (k times : ℕ) → again k times ≡ k + times
again-is zero times = omega arith
again-is (suc k) times = omega (arith, again-is k times)

-- ---- the rounds

module _ (plan : Lookups) (n : ℕ) (chain : List Step) where
  abbrev after_times : ℕ → List ℕ
  after_times = reached_by plan n chain

  abbrev test_at : ℕ → Test
  test_at zero = is_among (flat_map step_contexts chain)
  test_at (suc times) = is_listed plan (after_times times)

  tested : (times : ℕ) → after_times times ≡ filter (test_at times) (range_with_len 0 n)
  tested zero = refl
  tested (suc times) = refl

  pub all-below : (times : ℕ) → AllByRecursion (λ c. c < n) (after_times times)
  all-below times = subst (AllByRecursion (λ c. c < n)) (sym (tested times)) (filter-all (λ c. c < n) (test_at times) (range_with_len 0 n) (range-all (λ c. c < n) 0 n (λ c low high. omega (arith, high))))

  listed-as : (times x : ℕ) → x < n → (is_among (flat_map (list_contexts plan) (after_times times)) x || test_at times x) ≡ is_listed plan (after_times times) x
  listed-as times x lt =
      or-turn (is_among (flat_map (list_contexts plan) (after_times times)) x) (test_at times x)
      ∙ ap (λ b. b || is_among (flat_map (list_contexts plan) (after_times times)) x) (sym (ap (λ cs. is_among cs x) (tested times) ∙ among-filter n (test_at times) x lt))

  pub next-round : (times : ℕ) → AllByRecursion (λ c. c < n) (flat_map (list_contexts plan) (after_times times)) → puts (after_times times) (flat_map (list_contexts plan) (after_times times)) ≡ after_times (suc times)
  next-round times h =
      let more = flat_map (list_contexts plan) (after_times times) in
      ap (λ ms. puts ms more) (tested times)
      ∙ puts-filter n (test_at times) more h
      ∙ filter-ext (or_some more (test_at times)) (is_listed plan (after_times times)) (range_with_len 0 n) (range-all (λ x. or_some more (test_at times) x ≡ is_listed plan (after_times times) x) 0 n (λ x low high. listed-as times x (omega (arith, high))))

  -- a round gives no fewer, and as many only where it gives the same
  abbrev Wider : Test → Test → List ℕ → Type 0
  Wider t u = AllByRecursion (λ x. t x ≡ true → u x ≡ true)

  longer-at : (x : ℕ) (xs ys : List ℕ) (a b : Bool) → (a ≡ true → b ≡ true) → length xs ≤ length ys → length (cond a (x ∷ xs) xs) ≤ length (cond b (x ∷ ys) ys)
  longer-at x xs ys true true h le = omega (arith, le)
  longer-at x xs ys true false h le = let w : false ≡ true = h refl in cc
  longer-at x xs ys false true h le = omega (arith, le)
  longer-at x xs ys false false h le = le

  filter-longer : (t u : Test) (xs : List ℕ) → Wider t u xs → length (filter t xs) ≤ length (filter u xs)
  filter-longer t u [] h = omega arith
  filter-longer t u (x ∷ xs) h = longer-at x (filter t xs) (filter u xs) (t x) (u x) h.0 (filter-longer t u xs h.1)

  same-at : (x : ℕ) (xs ys : List ℕ) (a b : Bool) → (a ≡ true → b ≡ true) → length xs ≤ length ys → (length xs ≡ length ys → xs ≡ ys) → length (cond a (x ∷ xs) xs) ≡ length (cond b (x ∷ ys) ys) → cond a (x ∷ xs) xs ≡ cond b (x ∷ ys) ys
  same-at x xs ys true true h le rec e = let w : length xs ≡ length ys = omega (arith, e) in ap (λ l. x ∷ l) (rec w)
  same-at x xs ys true false h le rec e = let w : false ≡ true = h refl in cc
  same-at x xs ys false true h le rec e = absurd (omega (arith, e, le))
  same-at x xs ys false false h le rec e = rec e

  filter-same : (t u : Test) (xs : List ℕ) → Wider t u xs → length (filter t xs) ≡ length (filter u xs) → filter t xs ≡ filter u xs
  filter-same t u [] h e = refl
  filter-same t u (x ∷ xs) h e = same-at x (filter t xs) (filter u xs) (t x) (u x) h.0 (filter-longer t u xs h.1) (λ w. filter-same t u xs h.1 w) e

  wider : (times : ℕ) → Wider (test_at times) (test_at (suc times)) (range_with_len 0 n)
  wider times = range-all (λ c. test_at times c ≡ true → test_at (suc times) c ≡ true) 0 n
      (λ c low high e. or-left (is_among (after_times times) c) (is_among (flat_map (list_contexts plan) (after_times times)) c) (ap (λ cs. is_among cs c) (tested times) ∙ (among-filter n (test_at times) c (omega (arith, high)) ∙ e)))

  pub grows : (times : ℕ) → length (after_times times) ≤ length (after_times (suc times))
  grows times = subst (λ cs. length cs ≤ length (after_times (suc times))) (sym (tested times)) (filter-longer (test_at times) (test_at (suc times)) (range_with_len 0 n) (wider times))

  rests : (times : ℕ) → length (after_times times) ≡ length (after_times (suc times)) → after_times times ≡ after_times (suc times)
  rests times e = tested times ∙ filter-same (test_at times) (test_at (suc times)) (range_with_len 0 n) (wider times) (ap length (sym (tested times)) ∙ e)

  few-at : (x : ℕ) (xs ys : List ℕ) (a : Bool) → length xs ≤ length ys → length (cond a (x ∷ xs) xs) ≤ length (x ∷ ys)
  few-at x xs ys true le = omega (arith, le)
  few-at x xs ys false le = omega (arith, le)

  filter-few : (t : Test) (xs : List ℕ) → length (filter t xs) ≤ length xs
  filter-few t [] = omega arith
  filter-few t (x ∷ xs) = few-at x (filter t xs) xs (t x) (filter-few t xs)

  pub few : (times : ℕ) → length (after_times times) ≤ n
  few times = omega (arith, ap length (tested times), filter-few (test_at times) (range_with_len 0 n), length-range_with_len 0 n)

  stay : (k times : ℕ) → after_times times ≡ after_times (suc times) → after_times (again k times) ≡ after_times times
  stay zero times e = refl
  stay (suc k) times e = ap (λ cs. filter (is_listed plan cs) (range_with_len 0 n)) (stay k times e) ∙ sym e

  -- where a round adds none, all are reached
  pub all-reached : (times : ℕ) → length (after_times times) ≡ length (after_times (suc times)) → after_times times ≡ reached plan n chain
  all-reached times e =
      let sums : again n times ≡ again times n = omega (arith, again-is n times, again-is times n) in
      sym (stay n times (rests times e)) ∙ ap after_times sums ∙ stay times n (reached-rests plan n chain)

-- ---- the numbers that a linked plan names

pub steps-below : (n patterns : ℕ) (steps : List Step) → AllByRecursion (IsStepWithin n patterns) steps → AllByRecursion (λ c. c < n) (flat_map step_contexts steps)
steps-below n patterns [] h = tt
steps-below n patterns (steps.Apply id c ∷ more) h = (h.0, steps-below n patterns more h.1)
steps-below n patterns (steps.SelfApply c ∷ more) h = (h.0, steps-below n patterns more h.1)
steps-below n patterns (steps.Body ∷ more) h = steps-below n patterns more h.1
steps-below n patterns (steps.Str ∷ more) h = steps-below n patterns more h.1
steps-below n patterns (steps.Copy ∷ more) h = steps-below n patterns more h.1
steps-below n patterns (steps.TemplateBody ∷ more) h = steps-below n patterns more h.1
steps-below n patterns (steps.Make text ∷ more) h = steps-below n patterns more h.1
steps-below n patterns (steps.Load id name ∷ more) h = steps-below n patterns more h.1
steps-below n patterns (steps.Concat p ∷ more) h = steps-below n patterns more h.1
steps-below n patterns (steps.Save name ∷ more) h = steps-below n patterns more h.1
steps-below n patterns (steps.Relativize ∷ more) h = steps-below n patterns more h.1

fields-below : (n patterns : ℕ) (more : List Field) → AllByRecursion (IsLinkedField n patterns) more → AllByRecursion (λ c. c < n) (flat_map field_contexts more)
fields-below n patterns [] h = tt
fields-below n patterns (fields.List key of snapshot order limit c ∷ more) h = (h.0.1, fields-below n patterns more h.1)
fields-below n patterns (fields.Body ∷ more) h = fields-below n patterns more h.1
fields-below n patterns (fields.Metadata ∷ more) h = fields-below n patterns more h.1
fields-below n patterns (fields.Url ∷ more) h = fields-below n patterns more h.1
fields-below n patterns (fields.Path ∷ more) h = fields-below n patterns more h.1
fields-below n patterns (fields.Title ∷ more) h = fields-below n patterns more h.1
fields-below n patterns (fields.Const key text ∷ more) h = fields-below n patterns more h.1
fields-below n patterns (fields.Date key pattern ∷ more) h = fields-below n patterns more h.1
fields-below n patterns (fields.Bool key set ∷ more) h = fields-below n patterns more h.1
fields-below n patterns (fields.Teaser key name ∷ more) h = fields-below n patterns more h.1

all-append : (P : ℕ → Type 0) (xs ys : List ℕ) → AllByRecursion P xs → AllByRecursion P ys → AllByRecursion P (xs ++ ys)
all-append P [] ys h g = g
all-append P (x ∷ xs) ys h g = (h.0, all-append P xs ys h.1 g)

pub lists-below : (plan : PlanView) → IsLinkedPlan plan → (numbers : List ℕ) → AllByRecursion (λ c. c < length plan.contexts) numbers → AllByRecursion (λ c. c < length plan.contexts) (flat_map (list_contexts (lookups plan)) numbers)
unfolding lookups
lists-below plan linked [] h = tt
lists-below plan linked (c ∷ numbers) h =
    all-append (λ d. d < length plan.contexts) (list_contexts (lookups plan) c) (flat_map (list_contexts (lookups plan)) numbers)
    (fields-below (length plan.contexts) (length plan.patterns) ((lookups plan).context c).fields (all-at (λ context. AllByRecursion (IsLinkedField (length plan.contexts) (length plan.patterns)) context.fields) plan.contexts c no_context linked.named.within h.0))
    (lists-below plan linked numbers h.1)

pub linked-fields : (plan : PlanView) → IsLinkedPlan plan → (c : ℕ) → c < length plan.contexts → AllByRecursion (IsLinkedField (length plan.contexts) (length plan.patterns)) ((lookups plan).context c).fields
unfolding lookups
linked-fields plan linked c lt = all-at (λ context. AllByRecursion (IsLinkedField (length plan.contexts) (length plan.patterns)) context.fields) plan.contexts c no_context linked.named.within lt

pub linked-steps : (plan : PlanView) → IsLinkedPlan plan → (i : ℕ) → i < length plan.items → AllByRecursion (IsStepWithin (length plan.contexts) (length plan.patterns)) ((lookups plan).chain i)
unfolding lookups
linked-steps plan linked i lt = (linked-chain plan i linked lt).within

pub puts-append : (ms xs ys : List ℕ) → puts ms (xs ++ ys) ≡ puts (puts ms xs) ys
puts-append ms [] ys = refl
puts-append ms (x ∷ xs) ys = puts-append (put x ms) xs ys

-- one more round
pub round : (plan : PlanView) → IsLinkedPlan plan → (chain : List Step) (times : ℕ) (numbers base listed more : List ℕ) → numbers ≡ reached_by (lookups plan) (length plan.contexts) chain times → base ≡ numbers → listed ≡ numbers → more ≡ puts base (flat_map (list_contexts (lookups plan)) listed) → more ≡ reached_by (lookups plan) (length plan.contexts) chain (suc times)
round plan linked chain times numbers base listed more is from by made =
    let n = length plan.contexts in
    made
    ∙ (λ k. puts (from k) (flat_map (list_contexts (lookups plan)) (by k)))
    ∙ (λ k. puts (is k) (flat_map (list_contexts (lookups plan)) (is k)))
    ∙ next-round (lookups plan) n chain times (lists-below plan linked (reached_by (lookups plan) n chain times) (all-below (lookups plan) n chain times))

pub fewer : (n a b : ℕ) → a ≤ b → b ≤ n → (b ≡ a → ⊥) → n - b < n - a
fewer n a b le most differ = at (nat_lt a b) refl
  where
    at : (t : Bool) → nat_lt a b ≡ t → n - b < n - a
    at true e = omega (arith, ltb-true a b e, most)
    at false e = absurd (differ (omega (arith, ltb-false a b e, le)))

-- one more context's lists
pub listed-turn : (plan : Lookups) (named : List ℕ) (i : ℕ) (numbers new all : List ℕ) → i < length named → new ≡ puts numbers (list_contexts plan (get_or named i 0)) → puts numbers (flat_map (list_contexts plan) (drop i named)) ≡ all → puts new (flat_map (list_contexts plan) (drop (i + 1) named)) ≡ all
listed-turn plan named i numbers new all lt put_all so_far =
    ap (λ ms. puts ms (flat_map (list_contexts plan) (drop (i + 1) named))) put_all
    ∙ sym (puts-append numbers (list_contexts plan (get_or named i 0)) (flat_map (list_contexts plan) (drop (i + 1) named)))
    ∙ ap (λ cs. puts numbers (flat_map (list_contexts plan) cs)) (sym (drop_more named i 0 lt))
    ∙ so_far
