-- Reading gives one thing, and not both a thing and a place where a field doesn't stand.
use Rattle.std.proofs.Common.{◌≡◌, refl, sym, ap, ◌∙◌, subst, arith, ℕ, zero, suc, ◌+◌, ◌-◌, ◌<◌, ◌≤◌, inl, inr, List, [], ◌∷◌, ◌++◌, length, length-append}
use Rattle.std.specs.Prelude.{Ok, Err}
use Rattle.hk_base.specs.Bytes.{Bytes}
use Rattle.hk_store.specs.Found.{Gives}
use Rattle.hk_store.specs.declared.halt.Halt.{Halt}
use Rattle.hk_store.specs.declared.halt.Halt.TheVariants.{Memory, Broken}
use Rattle.hk_store.specs.Reading.{Outcome, field, after, given, each, ends}
use Rattle.hk_store.specs.Told.{Told, Short}
use Rattle.hk_store.proofs.Telling.{back-short}

pub record Sure {A : Type 0} (form : Bytes → Outcome A → Type 0) : Type 0 where
  pub same : (bytes : Bytes) → Short bytes → (x y : A × Bytes) → form bytes (Ok x) → form bytes (Ok y) → x ≡ y
  pub apart : (bytes : Bytes) → Short bytes → (x : A × Bytes) (left : ℕ) → form bytes (Ok x) → form bytes (Err left) → ⊥
  pub shorter : (bytes : Bytes) → Short bytes → (x : A × Bytes) → form bytes (Ok x) → Short x.1
  pub place : (bytes : Bytes) → Short bytes → (m n : ℕ) → form bytes (Err m) → form bytes (Err n) → m ≡ n
  pub shrinks : (bytes : Bytes) (x : A × Bytes) → form bytes (Ok x) → length x.1 ≤ length bytes
  pub within : (bytes : Bytes) (left : ℕ) → form bytes (Err left) → left ≤ length bytes

pub field-sure : {A : Type 0} (text : A → Bytes) (Fits : A → Type 0) → ((x : A) → Told Fits text x) → Sure (field text Fits)
field-sure {A = A} text Fits told =
    record {
      same = λ bytes short x y h g.
          let z = told x.0 y.0 h.0 g.0 x.1 y.1 (subst Short h.1 short) (sym h.1 ∙ g.1) in
          (λ k. (z.0 k, z.1 k));
      apart = λ bytes short x left h g. g.1 x.0 x.1 h.0 h.1;
      shorter = λ bytes short x h. back-short (text x.0) x.1 (subst Short h.1 short);
      place = λ bytes short m n h g. h.0 ∙ sym g.0;
      shrinks = λ bytes x h. omega (arith, ap length h.1, length-append (text x.0) x.1);
      within = λ bytes left h. omega (arith, h.0);
    }

module _ {A B : Type 0} (first : Bytes → Outcome A → Type 0) (next : A → Bytes → Outcome B → Type 0) (f : Sure first) (g : (x : A) → Sure (next x)) where
  after-same : (bytes : Bytes) → Short bytes → (x y : B × Bytes) → after first next bytes (Ok x) → after first next bytes (Ok y) → x ≡ y
  after-same bytes short x y h k =
      let one : (h.0, h.1) ≡ (k.0, k.1) = f.same bytes short (h.0, h.1) (k.0, k.1) h.2 k.2 in
      let moved : next k.0 k.1 (Ok x) = subst (λ (z : A × Bytes). next z.0 z.1 (Ok x)) one h.3 in
      (g k.0).same k.1 (f.shorter bytes short (k.0, k.1) k.2) x y moved k.3

  after-apart : (bytes : Bytes) → Short bytes → (x : B × Bytes) (left : ℕ) → after first next bytes (Ok x) → after first next bytes (Err left) → ⊥
  after-apart bytes short x left h (inl e) = f.apart bytes short (h.0, h.1) left h.2 e
  after-apart bytes short x left h (inr k) =
      let one : (h.0, h.1) ≡ (k.0, k.1) = f.same bytes short (h.0, h.1) (k.0, k.1) h.2 k.2 in
      let moved : next k.0 k.1 (Ok x) = subst (λ (z : A × Bytes). next z.0 z.1 (Ok x)) one h.3 in
      (g k.0).apart k.1 (f.shorter bytes short (k.0, k.1) k.2) x left moved k.3

  after-shorter : (bytes : Bytes) → Short bytes → (x : B × Bytes) → after first next bytes (Ok x) → Short x.1
  after-shorter bytes short x h = (g h.0).shorter h.1 (f.shorter bytes short (h.0, h.1) h.2) x h.3

  after-place : (bytes : Bytes) → Short bytes → (m n : ℕ) → after first next bytes (Err m) → after first next bytes (Err n) → m ≡ n
  after-place bytes short m n (inl h) (inl k) = f.place bytes short m n h k
  after-place bytes short m n (inl h) (inr k) = absurd (f.apart bytes short (k.0, k.1) m k.2 h)
  after-place bytes short m n (inr h) (inl k) = absurd (f.apart bytes short (h.0, h.1) n h.2 k)
  after-place bytes short m n (inr h) (inr k) =
      let one : (h.0, h.1) ≡ (k.0, k.1) = f.same bytes short (h.0, h.1) (k.0, k.1) h.2 k.2 in
      let moved : next k.0 k.1 (Err m) = subst (λ (z : A × Bytes). next z.0 z.1 (Err m)) one h.3 in
      (g k.0).place k.1 (f.shorter bytes short (k.0, k.1) k.2) m n moved k.3

  after-shrinks : (bytes : Bytes) (x : B × Bytes) → after first next bytes (Ok x) → length x.1 ≤ length bytes
  after-shrinks bytes x h = omega (arith, f.shrinks bytes (h.0, h.1) h.2, (g h.0).shrinks h.1 x h.3)

  after-within : (bytes : Bytes) (left : ℕ) → after first next bytes (Err left) → left ≤ length bytes
  after-within bytes left (inl h) = f.within bytes left h
  after-within bytes left (inr h) = omega (arith, f.shrinks bytes (h.0, h.1) h.2, (g h.0).within h.1 left h.3)

  pub after-sure : Sure (after first next)
  after-sure = record { same = after-same; apart = after-apart; shorter = after-shorter; place = after-place; shrinks = after-shrinks; within = after-within }

pub given-sure : {A : Type 0} (x : A) → Sure (given x)
given-sure {A = A} x =
    record {
      same = λ bytes short y z h g. (λ k. ((sym h.0 ∙ g.0) k, (sym h.1 ∙ g.1) k));
      apart = λ bytes short y left h g. g;
      shorter = λ bytes short y h. subst Short h.1 short;
      place = λ bytes short m n h g. absurd h;
      shrinks = λ bytes y h. omega (arith, ap length h.1);
      within = λ bytes left h. absurd h;
    }

pub ends-sure : Sure ends
ends-sure =
    record {
      same = λ bytes short y z h g. (λ k. (tt, (sym h.0 ∙ g.0) k));
      apart = λ bytes short y left h g. absurd (omega (arith, g.1, ap length h.1));
      shorter = λ bytes short y h. subst Short h.0 short;
      place = λ bytes short m n h g. h.0 ∙ sym g.0;
      shrinks = λ bytes y h. omega (arith, ap length h.0);
      within = λ bytes left h. omega (arith, h.0);
    }

pub each-sure : {A : Type 0} (part : List A → Bytes → Outcome A → Type 0) → ((before : List A) → Sure (part before)) → (n : ℕ) (before : List A) → Sure (each n part before)
each-sure part f zero before = given-sure before
each-sure part f (suc n) before = after-sure (part before) (λ x. each n part (before ++ x ∷ [])) (f before) (λ x. each-sure part f n (before ++ x ∷ []))

-- ---- so many parts, one after another

rest-is : (count done : ℕ) → done < count → count - done ≡ suc (count - (done + 1))
rest-is count done lt = omega (arith, lt)

module _ {A : Type 0} (part : List A → Bytes → Outcome A → Type 0) (count done : ℕ) (before : List A) (bytes : Bytes) where
  next-each : (x : A) (rest : Bytes) → part before bytes (Ok (x, rest)) → (n : ℕ) (o : Outcome (List A)) → each n part (before ++ x ∷ []) rest o → each (suc n) part before bytes o
  next-each x rest h n (Ok z) g = (x, rest, h, g)
  next-each x rest h n (Err left) g = inr (x, rest, h, g)

  -- one more part
  pub each-more : (x : A) (rest : Bytes) → done < count → part before bytes (Ok (x, rest)) → (o : Outcome (List A)) → each (count - (done + 1)) part (before ++ x ∷ []) rest o → each (count - done) part before bytes o
  each-more x rest lt h o g = subst (λ n. each n part before bytes o) (sym (rest-is count done lt)) (next-each x rest h (count - (done + 1)) o g)

  -- a part that doesn't stand there
  pub each-stops : (left : ℕ) → done < count → part before bytes (Err left) → each (count - done) part before bytes (Err left)
  each-stops left lt h = subst (λ n. each n part before bytes (Err left)) (sym (rest-is count done lt)) (inl h)

  -- all parts
  pub each-ends : count ≤ done → each (count - done) part before bytes (Ok (before, bytes))
  each-ends le = let none : count - done ≡ 0 = omega (arith, le) in subst (λ n. each n part before bytes (Ok (before, bytes))) (sym none) (refl, refl)

-- the exit of a part that isn't read
pub err-each : {A X Y : Type 0} (part : List A → Bytes → Outcome A → Type 0) (count done : ℕ) (before : List A) (rest bytes : Bytes) (v : X → A × Bytes) (u : Y → List A × Bytes) (halt : Halt) → done < count → ((o : Outcome (List A)) → each (count - done) part before rest o → each count part [] bytes o) → Gives (part before) rest v (Err halt) → Gives (each count part []) bytes u (Err halt)
err-each part count done before rest bytes v u Memory lt gives h = tt
err-each part count done before rest bytes v u (Broken left) lt gives h = gives (Err left) (each-stops part count done before rest left lt h)
