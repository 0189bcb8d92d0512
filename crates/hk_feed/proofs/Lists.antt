-- Lists that are made or tested one item after another.
use Rattle.std.proofs.Common.{◌≡◌, refl, sym, ap, ◌∙◌, arith, ℕ, zero, suc, ◌+◌, ◌-◌, ◌<◌, ◌≤◌, Bool, true, false, cond, List, [], ◌∷◌, ◌++◌, append_assoc, append-nil, drop, drop-cons, drop_of_length-le, length, get_or, filter, Option, Some, None}
use Rattle.std.specs.Prelude.{◌||◌, option_map}
use Rattle.std.specs.List.{filter_map, cons_option, find, list_any, range_with_len}
use Rattle.std.specs.Option.{option_to_list}

pub rest-from : {X : Type 0} (xs : List X) (i : ℕ) (x : X) → i < length xs → x ≡ get_or xs i x → drop i xs ≡ x ∷ drop (i + 1) xs
rest-from xs i x lt at = let e : i + 1 ≡ suc i = omega arith in rw e (drop-cons xs i x lt ∙ ap (λ y. y ∷ drop (suc i) xs) (sym at))

consed : {Y : Type 0} (o : Option Y) (ys : List Y) → cons_option o ys ≡ option_to_list o ++ ys
consed None ys = refl
consed (Some y) ys = refl

-- one more item that may give something
pub given-turn : {X Y : Type 0} (h : X → Option Y) (xs : List X) (i : ℕ) (x : X) (old new total : List Y) → i < length xs → x ≡ get_or xs i x → new ≡ old ++ option_to_list (h x) → old ++ filter_map h (drop i xs) ≡ total → new ++ filter_map h (drop (i + 1) xs) ≡ total
given-turn h xs i x old new total lt at more was =
    ap (λ l. l ++ filter_map h (drop (i + 1) xs)) more
    ∙ (append_assoc old (option_to_list (h x)) (filter_map h (drop (i + 1) xs))
    ∙ (ap (λ l. old ++ l) (sym (consed (h x) (filter_map h (drop (i + 1) xs))) ∙ ap (filter_map h) (sym (rest-from xs i x lt at))) ∙ was))

pub given-end : {X Y : Type 0} (h : X → Option Y) (xs : List X) (i : ℕ) (old total : List Y) → length xs ≤ i → old ++ filter_map h (drop i xs) ≡ total → old ≡ total
given-end h xs i old total over was = sym (append-nil old) ∙ (ap (λ l. old ++ filter_map h l) (sym (drop_of_length-le xs over)) ∙ was)

-- ---- the first that passes a test

pub found-turn : {X Y : Type 0} (f : X → Y) (p : X → Bool) (xs : List X) (i : ℕ) (x : X) (total : Option Y) → i < length xs → x ≡ get_or xs i x → p x ≡ false → option_map f (find p (drop i xs)) ≡ total → option_map f (find p (drop (i + 1) xs)) ≡ total
found-turn f p xs i x total lt at fails was =
    sym (ap (λ b. option_map f (cond b (Some x) (find p (drop (i + 1) xs)))) fails) ∙ (ap (λ l. option_map f (find p l)) (sym (rest-from xs i x lt at)) ∙ was)

pub found-here : {X Y : Type 0} (f : X → Y) (p : X → Bool) (xs : List X) (i : ℕ) (x : X) (total : Option Y) → i < length xs → x ≡ get_or xs i x → p x ≡ true → option_map f (find p (drop i xs)) ≡ total → Some (f x) ≡ total
found-here f p xs i x total lt at passes was =
    sym (ap (λ b. option_map f (cond b (Some x) (find p (drop (i + 1) xs)))) passes) ∙ (ap (λ l. option_map f (find p l)) (sym (rest-from xs i x lt at)) ∙ was)

pub found-end : {X Y : Type 0} (f : X → Y) (p : X → Bool) (xs : List X) (i : ℕ) (total : Option Y) → length xs ≤ i → option_map f (find p (drop i xs)) ≡ total → None ≡ total
found-end f p xs i total over was = ap (λ l. option_map f (find p l)) (sym (drop_of_length-le xs over)) ∙ was

-- ---- the numbers below another

range-from : (a n : ℕ) → a < n → range_with_len a (n - a) ≡ a ∷ range_with_len (a + 1) (n - (a + 1))
range-from a n lt = let e : n - a ≡ suc (n - (a + 1)) = omega (arith, lt) in ap (range_with_len a) e

range-none : (a n : ℕ) → n ≤ a → range_with_len a (n - a) ≡ []
range-none a n le = let e : n - a ≡ 0 = omega (arith, le) in ap (range_with_len a) e

range-all-of : (n : ℕ) → range_with_len 0 (n - 0) ≡ range_with_len 0 n
range-all-of n = let e : n - 0 ≡ n = omega arith in ap (range_with_len 0) e

passing : (f : ℕ → Bool) (a : ℕ) (rest : List ℕ) (b : Bool) → f a ≡ b → filter f (a ∷ rest) ≡ cond b (a ∷ []) [] ++ filter f rest
passing f a rest true e = ap (λ b. cond b (a ∷ filter f rest) (filter f rest)) e
passing f a rest false e = ap (λ b. cond b (a ∷ filter f rest) (filter f rest)) e

pub filter-init : (f : ℕ → Bool) (n : ℕ) (old : List ℕ) → old ≡ [] → old ++ filter f (range_with_len 0 (n - 0)) ≡ filter f (range_with_len 0 n)
filter-init f n old none = ap (λ l. l ++ filter f (range_with_len 0 (n - 0))) none ∙ ap (filter f) (range-all-of n)

-- one more number that may pass
pub filter-step : (f : ℕ → Bool) (n a : ℕ) (old new total : List ℕ) → a < n → new ≡ old ++ cond (f a) (a ∷ []) [] → old ++ filter f (range_with_len a (n - a)) ≡ total → new ++ filter f (range_with_len (a + 1) (n - (a + 1))) ≡ total
filter-step f n a old new total lt more was =
    ap (λ l. l ++ filter f (range_with_len (a + 1) (n - (a + 1)))) more
    ∙ (append_assoc old (cond (f a) (a ∷ []) []) (filter f (range_with_len (a + 1) (n - (a + 1))))
    ∙ (ap (λ l. old ++ l) (sym (passing f a (range_with_len (a + 1) (n - (a + 1))) (f a) refl) ∙ ap (filter f) (sym (range-from a n lt))) ∙ was))

pub filter-over : (f : ℕ → Bool) (n a : ℕ) (old total : List ℕ) → n ≤ a → old ++ filter f (range_with_len a (n - a)) ≡ total → old ≡ total
filter-over f n a old total le was = sym (append-nil old) ∙ (ap (λ l. old ++ filter f l) (sym (range-none a n le)) ∙ was)

pub any-init : (f : ℕ → Bool) (n : ℕ) → list_any f (range_with_len 0 (n - 0)) ≡ list_any f (range_with_len 0 n)
any-init f n = ap (list_any f) (range-all-of n)

pub any-step : (f : ℕ → Bool) (n a : ℕ) (total : Bool) → a < n → f a ≡ false → list_any f (range_with_len a (n - a)) ≡ total → list_any f (range_with_len (a + 1) (n - (a + 1))) ≡ total
any-step f n a total lt fails was = sym (ap (λ b. b || list_any f (range_with_len (a + 1) (n - (a + 1)))) fails) ∙ (ap (list_any f) (sym (range-from a n lt)) ∙ was)

pub any-found : (f : ℕ → Bool) (n a : ℕ) (total : Bool) → a < n → f a ≡ true → list_any f (range_with_len a (n - a)) ≡ total → true ≡ total
any-found f n a total lt passes was = sym (ap (λ b. b || list_any f (range_with_len (a + 1) (n - (a + 1)))) passes) ∙ (ap (list_any f) (sym (range-from a n lt)) ∙ was)

pub any-over : (f : ℕ → Bool) (n a : ℕ) (total : Bool) → n ≤ a → list_any f (range_with_len a (n - a)) ≡ total → false ≡ total
any-over f n a total le was = ap (list_any f) (sym (range-none a n le)) ∙ was
