-- A list's steps, one after another, up to the first fault.
use Rattle.std.proofs.Common.{◌≡◌, ℕ, suc, subst, ◌+◌, ◌<◌, List, [], ◌∷◌, ◌++◌, length, take, drop, get_or, Result, Ok, Err, refl, sym, ap, ◌∙◌, drop-cons, take-append-drop}
use Rattle.std.proofs.lemmas.List.{take_more}
use Rattle.hk_base.specs.Answers.{Answers}
use Rattle.hk_base.specs.declared.refusal.Refusal.{Refusal}
use Rattle.hk_base.specs.declared.refusal.Refusal.TheVariants.{Fault, NoMemory}
use Rattle.hk_rules.specs.Outcomes.{AnswersList, each, with_first}

abbrev join : {T F : Type 0} → Result (List T) F → Result (List T) F → Result (List T) F
join (Ok xs) (Ok ys) = Ok (xs ++ ys)
join (Ok xs) (Err fault) = Err fault
join (Err fault) rest = Err fault

join-none : {T F : Type 0} (r : Result (List T) F) → r ≡ join (Ok []) r
join-none (Ok ys) = refl
join-none (Err fault) = refl

first-join : {T F : Type 0} (one : Result T F) (r s : Result (List T) F) → with_first one (join r s) ≡ join (with_first one r) s
first-join (Err fault) r s = refl
first-join (Ok x) (Err fault) s = refl
first-join (Ok x) (Ok xs) (Ok ys) = refl
first-join (Ok x) (Ok xs) (Err fault) = refl

each-append : {S T F : Type 0} (f : S → Result T F) (xs zs : List S) → each f (xs ++ zs) ≡ join (each f xs) (each f zs)
each-append f [] zs = join-none (each f zs)
each-append f (x ∷ xs) zs = ap (with_first (f x)) (each-append f xs zs) ∙ first-join (f x) (each f xs) (each f zs)

-- one more step
pub each_turn : {S T F : Type 0} (f : S → Result T F) (xs : List S) (ys : List T) (i : ℕ) (d : S) (y : T) → i < length xs → each f (take i xs) ≡ Ok ys → f (get_or xs i d) ≡ Ok y → each f (take (i + 1) xs) ≡ Ok (ys ++ y ∷ [])
each_turn f xs ys i d y h so_far is =
    ap (each f) (take_more xs i d h)
    ∙ each-append f (take i xs) (get_or xs i d ∷ [])
    ∙ ap (λ r. join r (with_first (f (get_or xs i d)) (Ok []))) so_far
    ∙ ap (λ r. join (Ok ys) (with_first r (Ok []))) is

stopped : {S T F : Type 0} (f : S → Result T F) (xs : List S) (ys : List T) (i : ℕ) (d : S) (fault : F) → i < length xs → each f (take i xs) ≡ Ok ys → f (get_or xs i d) ≡ Err fault → each f xs ≡ Err fault
stopped f xs ys i d fault h so_far is =
    ap (each f) (sym (take-append-drop i xs))
    ∙ each-append f (take i xs) (drop i xs)
    ∙ ap (λ r. join r (each f (drop i xs))) so_far
    ∙ ap (λ rest. join (Ok ys) (each f rest)) (drop-cons xs i d h)
    ∙ ap (λ r. join (Ok ys) (with_first r (each f (drop (suc i) xs)))) is

-- a step that refuses ends it
pub each_stop : {S T F : Type 0} (f : S → Result T F) (xs : List S) (ys : List T) (i : ℕ) (x d : S) (e : Refusal F) → i < length xs → x ≡ get_or xs i d → each f (take i xs) ≡ Ok ys → Answers (f x) (Err e) → AnswersList {T = T} (each f xs) (Err e)
each_stop f xs ys i x d (Fault fault) h at so_far is = stopped f xs ys i d fault h so_far (ap f (sym at) ∙ is)
each_stop f xs ys i x d NoMemory h at so_far is = tt

abbrev LongAs : {T F : Type 0} → ℕ → Result (List T) F → Type 0
LongAs n (Ok ys) = length ys ≡ n
LongAs n (Err fault) = Unit {0}

long-first : {T F : Type 0} (one : Result T F) (r : Result (List T) F) (n : ℕ) → LongAs n r → LongAs (suc n) (with_first one r)
long-first (Err fault) r n h = tt
long-first (Ok x) (Err fault) n h = tt
long-first (Ok x) (Ok xs) n h = ap suc h

each-long : {S T F : Type 0} (f : S → Result T F) (xs : List S) → LongAs (length xs) (each f xs)
each-long f [] = refl
each-long f (x ∷ xs) = long-first (f x) (each f xs) (length xs) (each-long f xs)

-- there are as many answers as steps
pub each_length : {S T F : Type 0} (f : S → Result T F) (xs : List S) (ys : List T) → each f xs ≡ Ok ys → length ys ≡ length xs
each_length f xs ys e = subst (LongAs (length xs)) e (each-long f xs)
