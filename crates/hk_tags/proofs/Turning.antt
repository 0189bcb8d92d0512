-- Steps one after another, each of which may refuse.
use Rattle.std.proofs.Common.{◌≡◌, ◌∙◌, ℕ, suc, ◌+◌, ◌<◌, ◌≤◌, List, [], ◌∷◌, length, get_or, drop, drop-cons, drop_of_length-le, Result, Ok, Err, refl, sym, ap, subst, arith}
use Rattle.std.specs.List.{AllByRecursion}
use Rattle.hk_base.specs.Answers.{Answers}
use Rattle.hk_base.specs.declared.refusal.Refusal.{Refusal}
use Rattle.hk_base.specs.declared.refusal.Refusal.TheVariants.{Fault, NoMemory}
use Rattle.hk_rules_file.specs.TableForm.{and_then}
use Rattle.hk_tags.specs.Turns.{in_turn}

pub went-on : {X Y F : Type 0} (r : Result X F) (next : X → Result Y F) (y : Y) → and_then r next ≡ Ok y → (x : X) × ((r ≡ Ok x) × (next x ≡ Ok y))
went-on (Ok x) next y e = (x, (refl, e))
went-on (Err f) next y e = cc

pub same-ok : {X F : Type 0} (r : Result X F) (x y : X) → r ≡ Ok x → r ≡ Ok y → x ≡ y
same-ok r x y d e = cc

-- a fault of what comes first is that of both
pub stops : {X Y F : Type 0} (r : Result X F) (next : X → Result Y F) (e : Refusal F) → Answers r (Err e) → Answers (and_then r next) (Err e)
stops r next (Fault f) h = ap (λ r. and_then r next) h
stops r next NoMemory h = tt

pub goes-on : {X Y F : Type 0} (r : Result X F) (next : X → Result Y F) (x : X) (a : Result Y (Refusal F)) → r ≡ Ok x → Answers (next x) a → Answers (and_then r next) a
goes-on r next x a e h = subst (λ s. Answers (and_then s next) a) (sym e) h

module _ {S X F : Type 0} (step : S → X → Result S F) where
  -- one more element
  pub turn-step : (all : Result S F) (x : X) (left rest : List X) (s t : S) → all ≡ in_turn step left s → left ≡ x ∷ rest → step s x ≡ Ok t → all ≡ in_turn step rest t
  turn-step all x left rest s t was is one = was ∙ (ap (λ l. in_turn step l s) is ∙ ap (λ r. and_then r (in_turn step rest)) one)

  pub turn-stop : (all : Result S F) (x : X) (left rest : List X) (s : S) (e : Refusal F) → all ≡ in_turn step left s → left ≡ x ∷ rest → Answers (step s x) (Err e) → Answers all (Err e)
  turn-stop all x left rest s e was is one = subst (λ r. Answers r (Err e)) (sym (was ∙ ap (λ l. in_turn step l s) is)) (stops (step s x) (in_turn step rest) e one)

  pub turn-end : (all : Result S F) (left : List X) (s : S) → all ≡ in_turn step left s → left ≡ [] → all ≡ Ok s
  turn-end all left s was is = was ∙ ap (λ l. in_turn step l s) is

  -- what each step keeps holds in the end
  pub turns-keep : (P : S → Type 0) (Q : X → Type 0) → ((s : S) (x : X) (t : S) → P s → Q x → step s x ≡ Ok t → P t) → (xs : List X) (s t : S) → P s → AllByRecursion Q xs → in_turn step xs s ≡ Ok t → P t
  turns-keep P Q keep [] s t p q e = subst P (same-ok (in_turn step [] s) s t refl e) p
  turns-keep P Q keep (x ∷ xs) s t p q e =
      let m = went-on (step s x) (in_turn step xs) t e in
      turns-keep P Q keep xs m.0 t (keep s x m.0 p q.0 m.1.0) q.1 m.1.1

pub left-at : {X : Type 0} (xs : List X) (i : ℕ) (x : X) → i < length xs → x ≡ get_or xs i x → drop i xs ≡ x ∷ drop (i + 1) xs
left-at xs i x lt at = let e : i + 1 ≡ suc i = omega arith in rw e (drop-cons xs i x lt ∙ ap (λ y. y ∷ drop (suc i) xs) (sym at))

pub left-none : {X : Type 0} (xs : List X) (i : ℕ) → length xs ≤ i → drop i xs ≡ []
left-none xs i le = drop_of_length-le xs {i = i} le
