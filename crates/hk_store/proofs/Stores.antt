-- Parts that are read one after another, against the list of what they give.
use Rattle.std.proofs.Common.{◌≡◌, refl, sym, ap, ◌∙◌, subst, ℕ, zero, suc, List, [], ◌∷◌, ◌++◌, append_assoc, append-nil, length}
use Rattle.std.specs.Prelude.{Ok}
use Rattle.std.specs.List.{AllByRecursion, flat_map}
use Rattle.hk_base.specs.Bytes.{Bytes}
use Rattle.hk_forms.specs.PatternText.{num}
use Rattle.hk_store.specs.Reading.{Outcome, after, each}
use Rattle.hk_store.specs.Told.{Short, many}
use Rattle.hk_store.proofs.Telling.{back-short, regroup}

-- ---- texts one after the other

pub join : (a t bytes r s : Bytes) → bytes ≡ a ++ r → r ≡ t ++ s → bytes ≡ (a ++ t) ++ s
join a t bytes r s e f = e ∙ (ap (λ v. a ++ v) f ∙ sym (append_assoc a t s))

pub many-join : {A : Type 0} (text : A → Bytes) (xs : List A) (n : ℕ) (bytes r s : Bytes) → length xs ≡ n → bytes ≡ num n ++ r → r ≡ flat_map text xs ++ s → bytes ≡ many text xs ++ s
many-join text xs n bytes r s c e f = join (num (length xs)) (flat_map text xs) bytes r s (e ∙ ap (λ m. num m ++ r) (sym c)) f

-- ---- what is read is a list with these texts

module _ {A : Type 0} (part : List A → Bytes → Outcome A → Type 0) (text : A → Bytes) (H : A → Type 0) (Q : List A → Type 0) where
  record Parts (n : ℕ) (before : List A) (bytes : Bytes) (z : List A × Bytes) : Type 0 where
    more : List A
    all : z.0 ≡ before ++ more
    count : length more ≡ n
    members : AllByRecursion H more
    whole : Q z.0
    written : bytes ≡ flat_map text more ++ z.1

  abbrev pub Steps : Type 0
  Steps = (before : List A) (bytes : Bytes) (z : A × Bytes) → Q before → part before bytes (Ok z) → (H z.0 × Q (before ++ z.0 ∷ [])) × (bytes ≡ text z.0 ++ z.1)

  parts-of : Steps → (n : ℕ) (before : List A) (bytes : Bytes) (z : List A × Bytes) → Q before → each n part before bytes (Ok z) → Parts n before bytes z
  parts-of to zero before bytes z q h =
      record { more = []; all = sym h.0 ∙ sym (append-nil before); count = refl; members = tt; whole = subst Q h.0 q; written = h.1 }
  parts-of to (suc n) before bytes z q h =
      let x = h.0 in
      let one = to before bytes (x, h.1) q h.2 in
      let later = parts-of to n (before ++ x ∷ []) h.1 z one.0.1 h.3 in
      record {
        more = x ∷ later.more;
        all = later.all ∙ append_assoc before (x ∷ []) later.more;
        count = ap suc later.count;
        members = (one.0.0, later.members);
        whole = later.whole;
        written = join (text x) (flat_map text later.more) bytes h.1 z.1 one.1 later.written;
      }

  pub record Listed (n : ℕ) (bytes : Bytes) (z : List A × Bytes) : Type 0 where
    pub count : length z.0 ≡ n
    pub members : AllByRecursion H z.0
    pub whole : Q z.0
    pub written : bytes ≡ flat_map text z.0 ++ z.1

  pub listed : Steps → (n : ℕ) (bytes : Bytes) (z : List A × Bytes) → Q [] → each n part [] bytes (Ok z) → Listed n bytes z
  listed to n bytes z q h =
      let p = parts-of to n [] bytes z q h in
      record {
        count = ap length p.all ∙ p.count;
        members = subst (AllByRecursion H) (sym p.all) p.members;
        whole = p.whole;
        written = p.written ∙ ap (λ l. flat_map text l ++ z.1) (sym p.all);
      }

  -- ---- a list with these texts is read

  abbrev pub Members : Type 0
  Members = (before : List A) (x : A) (later : List A) (rest : Bytes) → Short (text x ++ rest) → H x → Q (before ++ x ∷ later) → part before (text x ++ rest) (Ok (x, rest))

  each-from : Members → (more before : List A) (rest : Bytes) → Short (flat_map text more ++ rest) → AllByRecursion H more → Q (before ++ more) → each (length more) part before (flat_map text more ++ rest) (Ok (before ++ more, rest))
  each-from from [] before rest short h q = (sym (append-nil before), refl)
  each-from from (x ∷ xs) before rest short h q =
      let tail : Bytes = flat_map text xs ++ rest in
      let grouped : (before ++ x ∷ []) ++ xs ≡ before ++ (x ∷ xs) = append_assoc before (x ∷ []) xs in
      let all : Short (text x ++ tail) = regroup (text x) (flat_map text xs) rest short in
      let later = each-from from xs (before ++ x ∷ []) rest (back-short (text x) tail all) h.1 (subst Q (sym grouped) q) in
      subst (λ bytes. after (part before) (λ y. each (length xs) part (before ++ y ∷ [])) bytes (Ok (before ++ (x ∷ xs), rest))) (sym (append_assoc (text x) (flat_map text xs) rest))
      (x, tail, from before x xs tail all h.0 q, subst (λ l. each (length xs) part (before ++ x ∷ []) tail (Ok (l, rest))) grouped later)

  pub list-read : Members → (xs : List A) (rest : Bytes) → Short (flat_map text xs ++ rest) → AllByRecursion H xs → Q xs → each (length xs) part [] (flat_map text xs ++ rest) (Ok (xs, rest))
  list-read from xs rest short h q = each-from from xs [] rest short h q
