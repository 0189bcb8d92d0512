-- A compiler of the small family that is answered, and what it used.
use Rattle.std.proofs.Common.{◌≡◌, refl, sym, ap, ◌∙◌, subst, arith, ℕ, ◌+◌, ◌-◌, ◌≤◌, Bool, true, false, cond, ◌||◌, ◌&&◌, inl, inr, not, List, [], ◌∷◌, ◌++◌, length, length-append, take, map, Option, Some, None, is_some, nat_eq, eq-eqb, eqb-true, Contains, filter}
use Rattle.hk_chain.specs.declared.page.Page.{Page}
use Rattle.hk_fix.specs.Run.{Save, saves_of}
use Rattle.hk_fix.specs.Facts.{is_in}
use Rattle.hk_fix.specs.Meaning.{told_page}
use Rattle.hk_fix.specs.Calls.{Lists}
use Rattle.hk_families.specs.Sample.{empty_page, own_pair, first_need, second_need, sample_run, told_of, left_of, SampleView, sample_told, sample_meaning, Fits}
use Rattle.hk_families.specs.SampleLaws.{saves-are, left-first, left-second, tell-second, needs-apart}
use Rattle.hk_fix.proofs.Orders.{clash, decide, or_cases, or_right}
use Rattle.hk_fix.proofs.Trails.{or_left, in-append}
use Rattle.hk_fix.proofs.Steps.{contains-in, in-contains}

-- the pairs that were given before the last poll
given-are : (v : SampleView) → Fits v → map (λ s. s.pair) (take ((sample_meaning v).given - cond (sample_meaning v).just_saved 1 0) (saves_of (sample_run v.item (sample_told v)).log)) ≡ cond v.is_asked (own_pair v.item ∷ []) []
given-are v fits =
    ap (λ (l : List Save). map (λ s. s.pair) (take ((sample_meaning v).given - cond (sample_meaning v).just_saved 1 0) l)) (saves-are v.item (sample_told v))
    ∙ by v.is_asked v.is_saved fits.order
  where
    by : (asked saved : Bool) → (asked ≡ true → saved ≡ true) → map (λ s. s.pair) (take (cond saved 1 0 - cond (saved && not asked) 1 0) (let s : Save = record { pair = own_pair v.item; page = empty_page } in s ∷ [])) ≡ cond asked (own_pair v.item ∷ []) []
    by true true o = refl
    by true false o = let w : false ≡ true = o refl in cc
    by false true o = refl
    by false false o = refl

in-given : (asked : Bool) (own p : ℕ) → is_in (cond asked (own ∷ []) []) p ≡ (asked && nat_eq p own)
in-given true own p = or_nothing (nat_eq p own)
  where
    or_nothing : (b : Bool) → (b || false) ≡ b
    or_nothing true = refl
    or_nothing false = refl
in-given false own p = refl

pub used-are : (v : SampleView) → Fits v → Lists (λ (c : ℕ). sample_run) (sample_meaning v) v.seen
used-are v fits p =
    let same = given-are v fits in (
      λ c. elim (or_cases (is_some (sample_told v p)) (v.is_asked && nat_eq p (own_pair v.item)) (sym (fits.uses p) ∙ contains-in v.seen p c)) [
        | inl t ↦ inl t
        | inr t ↦ inr (subst (λ (l : List ℕ). Contains l p) (sym same) (in-contains (cond v.is_asked (own_pair v.item ∷ []) []) p (in-given v.is_asked (own_pair v.item) p ∙ t)))
      ],
      λ d. in-contains v.seen p (fits.uses p ∙ elim d [
        | inl t ↦ or_left (is_some (sample_told v p)) (v.is_asked && nat_eq p (own_pair v.item)) t
        | inr t ↦ or_right (is_some (sample_told v p)) (v.is_asked && nat_eq p (own_pair v.item)) (sym (in-given v.is_asked (own_pair v.item) p) ∙ contains-in (cond v.is_asked (own_pair v.item ∷ []) []) p (subst (λ (l : List ℕ). Contains l p) same t))
      ]),
    )

-- an open pair was asked for, and its page is still to come

asked-for : (asked : Bool) (l : List ℕ) (p : ℕ) → Contains (cond asked l []) p → (asked ≡ true) × (is_in l p ≡ true)
asked-for true l p c = (refl, contains-in l p c)
asked-for false l p c = let t : is_in [] p ≡ true = contains-in [] p c in cc

open-first : (a b : ℕ) (one two : Option Page) → nat_eq a b ≡ false → is_in (left_of a b one two) a ≡ true → one ≡ None
open-first a b None two ne i = refl
open-first a b (Some x) None ne i = let w : (nat_eq a b || false) ≡ true = i in let z : (false || false) ≡ true = rw ne at w in cc
open-first a b (Some x) (Some y) ne i = cc

open-second : (a b : ℕ) (one two : Option Page) → nat_eq b a ≡ false → is_in (left_of a b one two) b ≡ true → two ≡ None
open-second a b one None ne i = refl
open-second a b None (Some y) ne i = let w : (nat_eq b a || false) ≡ true = i in let z : (false || false) ≡ true = rw ne at w in cc
open-second a b (Some x) (Some y) ne i = cc

other-way : (a b : ℕ) → nat_eq a b ≡ false → nat_eq b a ≡ false
other-way a b t = grind (arith, t)

same-way : (a b : ℕ) → nat_eq a b ≡ true → nat_eq b a ≡ true
same-way a b t = eq-eqb b a (sym (eqb-true a b t))

module _ (v : SampleView) (fits : Fits v) (x : Page) where
  abbrev pub a : ℕ
  a = first_need v.item

  abbrev pub b : ℕ
  b = second_need v.item

  new-use : (told told' : Option Page) (asked : Bool) (own q p : ℕ) → (nat_eq p q ≡ true → is_some told' ≡ true) → (nat_eq p q ≡ false → told' ≡ told) → ((is_some told || (asked && nat_eq q own)) || (nat_eq q p || false)) ≡ (is_some told' || (asked && nat_eq q own))
  new-use told told' asked own q p yes_ no_ =
      elim (decide (nat_eq p q)) [
        | inl t ↦ or_right (is_some told || (asked && nat_eq q own)) (nat_eq q p || false) (or_left (nat_eq q p) false (same-way p q t)) ∙ sym (or_left (is_some told') (asked && nat_eq q own) (yes_ t))
        | inr f ↦ rw (other-way p q f, no_ f) (or_nothing (is_some told || (asked && nat_eq q own)))
      ]
    where
      or_nothing : (c : Bool) → (c || false) ≡ c
      or_nothing true = refl
      or_nothing false = refl

  one-more : (l : List ℕ) (p : ℕ) → length (l ++ p ∷ []) ≡ length l + 1
  one-more l p = length-append l (p ∷ [])

  pub first-told : Contains (sample_meaning v).awaits a → Fits (record v { one = Some x; seen = v.seen ++ a ∷ [] }) × (length v.seen ≤ 2)
  first-told c =
      let w = asked-for v.is_asked (left_of a b v.one v.two) a c in
      let none : v.one ≡ None = open-first a b v.one v.two (needs-apart v.item) w.1 in
      let count : length v.seen ≡ 1 + 0 + cond (is_some v.two) 1 0 = rw (w.0, none) at fits.count in (
        record {
          in_range = fits.in_range;
          early = λ e. clash v.is_asked e w.0;
          order = fits.order;
          count = omega (arith, one-more v.seen a, count, ap {B = ℕ} (λ t. cond t 1 0) w.0);
          uses = λ q. in-append v.seen (a ∷ []) q ∙ (ap (λ t. t || (nat_eq q a || false)) (fits.uses q) ∙ new-use (sample_told v q) (told_of a b (Some x) v.two q) v.is_asked (own_pair v.item) q a (λ t. rw t refl) (λ f. rw f refl));
        },
        omega (arith, count, one (is_some v.two)),
      )
    where
      one : (t : Bool) → cond t 1 0 ≤ 1
      one true = omega arith
      one false = omega arith

  pub second-told : Contains (sample_meaning v).awaits b → Fits (record v { two = Some x; seen = v.seen ++ b ∷ [] }) × (length v.seen ≤ 2)
  second-told c =
      let w = asked-for v.is_asked (left_of a b v.one v.two) b c in
      let none : v.two ≡ None = open-second a b v.one v.two (other-way a b (needs-apart v.item)) w.1 in
      let count : length v.seen ≡ 1 + cond (is_some v.one) 1 0 + 0 = rw (w.0, none) at fits.count in (
        record {
          in_range = fits.in_range;
          early = λ e. clash v.is_asked e w.0;
          order = fits.order;
          count = omega (arith, one-more v.seen b, count, ap {B = ℕ} (λ t. cond t 1 0) w.0);
          uses = λ q. in-append v.seen (b ∷ []) q ∙ (ap (λ t. t || (nat_eq q b || false)) (fits.uses q) ∙ new-use (sample_told v q) (told_of a b v.one (Some x) q) v.is_asked (own_pair v.item) q b (told-b q) (λ f. rw f refl));
        },
        omega (arith, count, one (is_some v.one)),
      )
    where
      one : (t : Bool) → cond t 1 0 ≤ 1
      one true = omega arith
      one false = omega arith

      told-b : (q : ℕ) → nat_eq b q ≡ true → is_some (told_of a b v.one (Some x) q) ≡ true
      told-b q t = let f : nat_eq a q ≡ false = ap (nat_eq a) (sym (eqb-true b q t)) ∙ needs-apart v.item in rw (f, t) refl

  pub meaning-second : (s : List ℕ) → Contains (sample_meaning v).awaits b → sample_meaning (record v { two = Some x; seen = s }) ≡ told_page (sample_meaning v) b x
  meaning-second s c =
      let w = asked-for v.is_asked (left_of a b v.one v.two) b c in
      rw (w.0, tell-second a b v.one v.two x (needs-apart v.item), left-second a b v.one v.two x (needs-apart v.item)) refl

pub waits-first : (first second pair : ℕ) (one two : Option Page) (x : Page) (waits new : List ℕ) → new ≡ filter (λ q. not (nat_eq pair q)) waits → waits ≡ left_of first second one two → pair ≡ first → nat_eq first second ≡ false → new ≡ left_of first second (Some x) two
waits-first first second pair one two x waits new e w p ne =
    e ∙ (ap (filter (λ q. not (nat_eq pair q))) w ∙ (ap (λ r. filter (λ q. not (nat_eq r q)) (left_of first second one two)) p ∙ left-first first second one two x ne))

pub waits-second : (first second pair : ℕ) (one two : Option Page) (x : Page) (waits new : List ℕ) → new ≡ filter (λ q. not (nat_eq pair q)) waits → waits ≡ left_of first second one two → pair ≡ second → nat_eq first second ≡ false → new ≡ left_of first second one (Some x)
waits-second first second pair one two x waits new e w p ne =
    e ∙ (ap (filter (λ q. not (nat_eq pair q))) w ∙ (ap (λ r. filter (λ q. not (nat_eq r q)) (left_of first second one two)) p ∙ left-second first second one two x ne))

one-of : (a b : ℕ) (one two : Option Page) (p : ℕ) → nat_eq p a ≡ false → is_in (left_of a b one two) p ≡ true → p ≡ b
one-of a b None None p ne i =
    elim (or_cases (nat_eq p a) (nat_eq p b || false) i) [
      | inl t ↦ clash (nat_eq p a) ne t
      | inr t ↦ elim (or_cases (nat_eq p b) false t) [ inl s ↦ eqb-true p b s | inr s ↦ cc ]
    ]
one-of a b None (Some y) p ne i = elim (or_cases (nat_eq p a) false i) [ inl t ↦ clash (nat_eq p a) ne t | inr t ↦ cc ]
one-of a b (Some x) None p ne i = elim (or_cases (nat_eq p b) false i) [ inl s ↦ eqb-true p b s | inr s ↦ cc ]
one-of a b (Some x) (Some y) p ne i = cc

-- an open pair that isn't the first is the second
pub the-second : (v : SampleView) (p : ℕ) → Contains (sample_meaning v).awaits p → nat_eq p (first_need v.item) ≡ false → p ≡ second_need v.item
the-second v p c ne = one-of (first_need v.item) (second_need v.item) v.one v.two p ne (asked-for v.is_asked (left_of (first_need v.item) (second_need v.item) v.one v.two) p c).1
