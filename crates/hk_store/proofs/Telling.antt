-- Which texts tell what they were written of.
use Rattle.std.proofs.Common.{◌≡◌, refl, sym, ap, ◌∙◌, subst, arith, ℕ, zero, suc, ◌+◌, ◌<◌, ◌≤◌, ◌/◌, ◌%◌, ◌==◌, Bool, true, false, cond, not, if◌then◌else◌, nat_lt, List, [], ◌∷◌, ◌++◌, append_assoc, length, length-append, get_or, Option, Some, None}
use Rattle.std.specs.Prelude.{◌&&◌, ◌||◌, bytes_eq}
use Rattle.std.specs.Fmt.{decimal, digits, digits_onto, digit_glyph}
use Rattle.std.proofs.lemmas.Fmt.{decimal_injective}
use Rattle.std.specs.List.{AllByRecursion, flat_map, list_any}
use Rattle.hk_base.specs.Bytes.{Bytes}
use Rattle.hk_base.specs.Identifier.{Ident}
use Rattle.hk_base.specs.Ties.{bytes-self}
use Rattle.hk_forms.specs.PatternText.{num, str, opt, ident_text}
use Rattle.hk_store.specs.Told.{Told, Small, Short, Any, many, both, Both, kinds, Kind}

-- ---- parts of a short text

pub front-short : (a r : Bytes) → Short (a ++ r) → Short a
front-short a r h = omega (arith, h, length-append a r)

pub back-short : (a r : Bytes) → Short (a ++ r) → Short r
back-short a r h = omega (arith, h, length-append a r)

pub regroup : (a b r : Bytes) → Short ((a ++ b) ++ r) → Short (a ++ (b ++ r))
regroup a b r h = subst Short (append_assoc a b r) h

-- ---- numbers

-- a line without line feeds, and its line feed
abbrev pub Plain : Bytes → Type 0
Plain line = AllByRecursion (λ c. 10 < c) line

line-told : (a b : Bytes) → Plain a → Plain b → (r s : Bytes) → (a ++ 10 ∷ []) ++ r ≡ (b ++ 10 ∷ []) ++ s → (a ≡ b) × (r ≡ s)
line-told [] [] h g r s e = (refl, cc)
line-told [] (y ∷ b) h g r s e = let w : 10 ≡ y = cc in absurd (omega (arith, g.0))
line-told (x ∷ a) [] h g r s e = let w : x ≡ 10 = cc in absurd (omega (arith, h.0))
line-told (x ∷ a) (y ∷ b) h g r s e =
    let w : x ≡ y = cc in
    let t : (a ++ 10 ∷ []) ++ r ≡ (b ++ 10 ∷ []) ++ s = cc in
    let z : (a ≡ b) × (r ≡ s) = line-told a b h.1 g.1 r s t in
    (rw (w, z.0) refl, z.1)

glyph-plain : (upper : Bool) (d : ℕ) → 10 < digit_glyph upper d
glyph-plain upper d =
    elim (nat_lt d 10) as (λ b. 10 < cond b (48 + d) (cond upper (55 + d) (87 + d))) [
      | true ↦ omega arith
      | false ↦ elim upper as (λ u. 10 < cond u (55 + d) (87 + d)) [
        | true ↦ omega arith
        | false ↦ omega arith
      ]
    ]

digits-plain : (k n : ℕ) (acc : Bytes) → Plain acc → Plain (digits_onto k 10 false n acc)
digits-plain zero n acc h = h
digits-plain (suc k) n acc h =
    elim (n / 10 == 0) as (λ b. Plain (if b then digit_glyph false (n % 10) ∷ acc else digits_onto k 10 false (n / 10) (digit_glyph false (n % 10) ∷ acc))) [
      | true ↦ (glyph-plain false (n % 10), h)
      | false ↦ digits-plain k (n / 10) (digit_glyph false (n % 10) ∷ acc) (glyph-plain false (n % 10), h)
    ]

pub decimal-plain : (n : ℕ) → Plain (decimal n)
unfolding digits
decimal-plain n = digits-plain 64 n [] tt

pub num-same : (n m : ℕ) → Small n → Small m → (r s : Bytes) → num n ++ r ≡ num m ++ s → (n ≡ m) × (r ≡ s)
num-same n m h g r s e =
    let w : (decimal n ≡ decimal m) × (r ≡ s) = line-told (decimal n) (decimal m) (decimal-plain n) (decimal-plain m) r s e in
    (decimal_injective n m h g w.0, w.1)

pub num-told : (n : ℕ) → Told Small num n
num-told n m h g r s short e = num-same n m h g r s e

pub num-full : (n : ℕ) → 0 < length (num n)
num-full n = omega (arith, length-append (decimal n) (10 ∷ []))

-- ---- texts with their lengths

-- bytes of one length
pub same-length : (a b : Bytes) → length a ≡ length b → (r s : Bytes) → a ++ r ≡ b ++ s → (a ≡ b) × (r ≡ s)
same-length [] [] l r s e = (refl, e)
same-length [] (y ∷ b) l r s e = absurd (omega (arith, l))
same-length (x ∷ a) [] l r s e = absurd (omega (arith, l))
same-length (x ∷ a) (y ∷ b) l r s e =
    let w : x ≡ y = cc in
    let t : a ++ r ≡ b ++ s = cc in
    let z : (a ≡ b) × (r ≡ s) = same-length a b (omega (arith, l)) r s t in
    (rw (w, z.0) refl, z.1)

pub length-str : (a : Bytes) → length a ≤ length (str a)
length-str a = omega (arith, length-append (num (length a)) (a ++ 10 ∷ []), length-append a (10 ∷ []))

-- a text in a short one is short
pub str-short : (a r : Bytes) → Short (str a ++ r) → Short a
str-short a r h = omega (arith, h, length-append (str a) r, length-str a)

pub str-told : (a : Bytes) → Told Any str a
str-told a b h g r s short e =
    let f : num (length a) ++ ((a ++ 10 ∷ []) ++ r) ≡ num (length b) ++ ((b ++ 10 ∷ []) ++ s) = sym (append_assoc (num (length a)) (a ++ 10 ∷ []) r) ∙ (e ∙ append_assoc (num (length b)) (b ++ 10 ∷ []) s) in
    let n : (length a ≡ length b) × ((a ++ 10 ∷ []) ++ r ≡ (b ++ 10 ∷ []) ++ s) = num-same (length a) (length b) (str-short a r short) (str-short b s (subst Short e short)) ((a ++ 10 ∷ []) ++ r) ((b ++ 10 ∷ []) ++ s) f in
    let t : a ++ (10 ∷ r) ≡ b ++ (10 ∷ s) = sym (append_assoc a (10 ∷ []) r) ∙ (n.1 ∙ append_assoc b (10 ∷ []) s) in
    let z : (a ≡ b) × (10 ∷ r ≡ 10 ∷ s) = same-length a b n.0 (10 ∷ r) (10 ∷ s) t in
    (z.0, let q : 10 ∷ r ≡ 10 ∷ s = z.1 in cc)

pub str-full : (a : Bytes) → 0 < length (str a)
str-full a = omega (arith, length-append (num (length a)) (a ++ 10 ∷ []), num-full (length a))

pub first-of : (a b : ℕ) (r s : Bytes) → a ∷ r ≡ b ∷ s → a ≡ b
first-of a b r s e = cc

pub opt-told : (o : Option Bytes) → Told Any opt o
opt-told None None h k r s short e = (refl, cc)
opt-told None (Some y) h k r s short e = let w : 45 ≡ 43 = first-of 45 43 (10 ∷ r) (10 ∷ str y ++ s) e in absurd (omega (arith, w))
opt-told (Some x) None h k r s short e = let w : 43 ≡ 45 = first-of 43 45 (10 ∷ str x ++ r) (10 ∷ s) e in absurd (omega (arith, w))
opt-told (Some x) (Some y) h k r s short e =
    let t : str x ++ r ≡ str y ++ s = cc in
    let u : (x ≡ y) × (r ≡ s) = str-told x y tt tt r s (back-short (43 ∷ 10 ∷ []) (str x ++ r) short) t in
    (ap Some u.0, u.1)

-- ---- one thing and another

module _ {A B : Type 0} (D : A → Type 0) (E : B → Type 0) (p : A → Bytes) (q : B → Bytes) where
  pub both-told : (a : A) (b : B) → Told D p a → Told E q b → Told (Both D E) (both p q) (a, b)
  both-told a b f g z h k r s short e =
      let t : p a ++ (q b ++ r) ≡ p z.0 ++ (q z.1 ++ s) = sym (append_assoc (p a) (q b) r) ∙ (e ∙ append_assoc (p z.0) (q z.1) s) in
      let whole : Short (p a ++ (q b ++ r)) = regroup (p a) (q b) r short in
      let u : (a ≡ z.0) × (q b ++ r ≡ q z.1 ++ s) = f z.0 h.0 k.0 (q b ++ r) (q z.1 ++ s) whole t in
      let v : (b ≡ z.1) × (r ≡ s) = g z.1 h.1 k.1 r s (back-short (p a) (q b ++ r) whole) u.1 in
      (ap (λ x. (x, b)) u.0 ∙ ap (λ y. (z.0, y)) v.0, v.1)

-- ---- lists

module _ {A : Type 0} (D : A → Type 0) (p : A → Bytes) where
  members-told : (xs : List A) → AllByRecursion (Told D p) xs → (ys : List A) → length xs ≡ length ys → AllByRecursion D xs → AllByRecursion D ys → (r s : Bytes) → Short (flat_map p xs ++ r) → flat_map p xs ++ r ≡ flat_map p ys ++ s → (xs ≡ ys) × (r ≡ s)
  members-told [] f [] l h k r s short e = (refl, e)
  members-told [] f (y ∷ ys) l h k r s short e = absurd (omega (arith, l))
  members-told (x ∷ xs) f [] l h k r s short e = absurd (omega (arith, l))
  members-told (x ∷ xs) f (y ∷ ys) l h k r s short e =
      let t : p x ++ (flat_map p xs ++ r) ≡ p y ++ (flat_map p ys ++ s) = sym (append_assoc (p x) (flat_map p xs) r) ∙ (e ∙ append_assoc (p y) (flat_map p ys) s) in
      let whole : Short (p x ++ (flat_map p xs ++ r)) = regroup (p x) (flat_map p xs) r short in
      let u : (x ≡ y) × (flat_map p xs ++ r ≡ flat_map p ys ++ s) = f.0 y h.0 k.0 (flat_map p xs ++ r) (flat_map p ys ++ s) whole t in
      let v : (xs ≡ ys) × (r ≡ s) = members-told xs f.1 ys (omega (arith, l)) h.1 k.1 r s (back-short (p x) (flat_map p xs ++ r) whole) u.1 in
      (rw (u.0, v.0) refl, v.1)

  -- a list has no more members than its texts have bytes
  module _ (full : (x : A) → 0 < length (p x)) where
    count-le : (xs : List A) → length xs ≤ length (flat_map p xs)
    count-le [] = omega arith
    count-le (x ∷ xs) = omega (arith, full x, length-append (p x) (flat_map p xs), count-le xs)

    pub many-short : (xs : List A) (r : Bytes) → Short (many p xs ++ r) → Small (length xs)
    many-short xs r short = omega (arith, short, length-append (many p xs) r, length-append (num (length xs)) (flat_map p xs), count-le xs)

    pub many-told : (xs : List A) → AllByRecursion (Told D p) xs → Told (AllByRecursion D) (many p) xs
    many-told xs f ys h k r s short e =
        let t : num (length xs) ++ (flat_map p xs ++ r) ≡ num (length ys) ++ (flat_map p ys ++ s) = sym (append_assoc (num (length xs)) (flat_map p xs) r) ∙ (e ∙ append_assoc (num (length ys)) (flat_map p ys) s) in
        let n : (length xs ≡ length ys) × (flat_map p xs ++ r ≡ flat_map p ys ++ s) = num-same (length xs) (length ys) (many-short xs r short) (many-short ys s (subst Short e short)) (flat_map p xs ++ r) (flat_map p ys ++ s) t in
        members-told xs f ys n.0 h k r s (back-short (num (length xs)) (flat_map p xs ++ r) (regroup (num (length xs)) (flat_map p xs) r short)) n.1

    pub all-told : ((x : A) → Told D p x) → (xs : List A) → Told (AllByRecursion D) (many p) xs
    all-told f xs = many-told xs (each xs)
      where
        each : (ys : List A) → AllByRecursion (Told D p) ys
        each [] = tt
        each (y ∷ ys) = (f y, each ys)

-- ---- words

abbrev pub is_word : Bytes → List Bytes → Bool
is_word w ws = list_any (bytes_eq w) ws

-- no word stands twice
abbrev pub all_apart : List Bytes → Bool
all_apart [] = true
all_apart (w ∷ ws) = not (is_word w ws) && all_apart ws

word-at : (ws : List Bytes) (t : ℕ) → t < length ws → is_word (get_or ws t []) ws ≡ true
word-at [] t lt = absurd (omega arith)
word-at (w ∷ ws) zero lt = ap (λ b. b || is_word w ws) (bytes-self w)
word-at (w ∷ ws) (suc t) lt = later (bytes_eq (get_or ws t []) w) (is_word (get_or ws t []) ws) (word-at ws t (omega (arith, lt)))
  where
    later : (a b : Bool) → b ≡ true → (a || b) ≡ true
    later true b e = refl
    later false b e = e

both-left : (a b : Bool) → (not a && b) ≡ true → a ≡ true → ⊥
both-left true b e w = cc
both-left false b e w = cc

both-right : (a b : Bool) → (not a && b) ≡ true → b ≡ true
both-right true b e = cc
both-right false b e = e

pub words-apart : (ws : List Bytes) → all_apart ws ≡ true → (t u : ℕ) → t < length ws → u < length ws → get_or ws t [] ≡ get_or ws u [] → t ≡ u
words-apart [] h t u lt less e = absurd (omega arith)
words-apart (w ∷ ws) h zero zero lt less e = refl
words-apart (w ∷ ws) h zero (suc u) lt less e =
    absurd (both-left (is_word w ws) (all_apart ws) h (ap (λ v. is_word v ws) e ∙ word-at ws u (omega (arith, less))))
words-apart (w ∷ ws) h (suc t) zero lt less e =
    absurd (both-left (is_word w ws) (all_apart ws) h (ap (λ v. is_word v ws) (sym e) ∙ word-at ws t (omega (arith, lt))))
words-apart (w ∷ ws) h (suc t) (suc u) lt less e =
    ap suc (words-apart ws (both-right (is_word w ws) (all_apart ws) h) t u (omega (arith, lt)) (omega (arith, less)) e)

-- by kinds: one equation for each kind, and none for two
module _ {P : ℕ → Type 0} (words : List Bytes) (apart : all_apart words ≡ true) (D : (t : ℕ) → P t → Type 0) (parts : (t : ℕ) → P t → Bytes) where
  abbrev of_kind : (t : ℕ) → P t → ((t : ℕ) × P t)
  of_kind t b = (t, b)

  abbrev word : ℕ → Bytes
  word t = get_or words t []

  pub kinds-told : (t : ℕ) (b : P t) → Told (D t) (parts t) b → Told (Kind words D) (kinds words parts) (t, b)
  kinds-told t b f z h k r s short e =
      let w : str (word t) ++ (parts t b ++ r) ≡ str (word z.0) ++ (parts z.0 z.1 ++ s) = sym (append_assoc (str (word t)) (parts t b) r) ∙ (e ∙ append_assoc (str (word z.0)) (parts z.0 z.1) s) in
      let whole : Short (str (word t) ++ (parts t b ++ r)) = regroup (str (word t)) (parts t b) r short in
      let u : (word t ≡ word z.0) × (parts t b ++ r ≡ parts z.0 z.1 ++ s) = str-told (word t) (word z.0) tt tt (parts t b ++ r) (parts z.0 z.1 ++ s) whole w in
      let c : t ≡ z.0 = words-apart words apart t z.0 h.0 k.0 u.0 in
      let rest : Short (parts t b ++ r) = back-short (str (word t)) (parts t b ++ r) whole in
      subst (λ v. (c : P v) → D v c → parts t b ++ r ≡ parts v c ++ s → (of_kind t b ≡ of_kind v c) × (r ≡ s)) c
      (λ y g v. let q : (b ≡ y) × (r ≡ s) = f y h.1 g r s rest v in (ap (of_kind t) q.0, q.1))
      z.1 k.1 u.1

-- ---- through a view

-- a thing is told where its view is
module _ {A V : Type 0} (view : A → V) (make : V → A) (back : (x : A) → make (view x) ≡ x) (D : V → Type 0) (p : V → Bytes) where
  pub view-told : (x : A) → Told D p (view x) → Told (λ x. D (view x)) (λ x. p (view x)) x
  view-told x f y h k r s short e =
      let u : (view x ≡ view y) × (r ≡ s) = f (view y) h k r s short e in
      (sym (back x) ∙ (ap make u.0 ∙ back y), u.1)

-- the same text under another name, and of fewer things
pub told-as : {A : Type 0} (D E : A → Type 0) (p q : A → Bytes) → ((x : A) → p x ≡ q x) → ((x : A) → E x → D x) → (x : A) → Told D p x → Told E q x
told-as D E p q same within x f y h k r s short e =
    f y (within x h) (within y k) r s (subst (λ t. Short (t ++ r)) (sym (same x)) short)
    (ap (λ t. t ++ r) (same x) ∙ (e ∙ ap (λ t. t ++ s) (sym (same y))))

-- nothing, which stands for itself
pub unit-told : (u : Unit {0}) → Told Any (λ (v : Unit {0}). []) u
unit-told u v h k r s short e = (refl, e)

-- ---- identifiers

abbrev id_parts : Ident → Bytes × Option Bytes
id_parts id = (id.path, id.version)

abbrev id_of : Bytes × Option Bytes → Ident
id_of z = record { path = z.0; version = z.1 }

pub ident-told : (id : Ident) → Told Any ident_text id
ident-told id = told-as (λ i. Both Any Any (id_parts i)) Any (λ i. both str opt (id_parts i)) ident_text (λ i. refl) (λ i h. (tt, tt)) id
    (view-told id_parts id_of (λ i. refl) (Both Any Any) (both str opt) id (both-told Any Any str opt id.path id.version (str-told id.path) (opt-told id.version)))

pub ident-full : (id : Ident) → 0 < length (ident_text id)
ident-full id = omega (arith, length-append (str id.path) (opt id.version), str-full id.path)
