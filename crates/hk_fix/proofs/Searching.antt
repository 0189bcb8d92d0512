-- One more walk: what it leaves marked stands where it stands.
use Rattle.std.proofs.Common.{◌≡◌, ◌≢◌, refl, sym, ap, ◌∙◌, subst, arith, ℕ, ◌+◌, ◌<◌, ◌≤◌, Bool, true, false, cond, ◌||◌, ◌⊎◌, inl, inr, List, [], ◌∷◌, ◌++◌, length, reverse, Option, Some, None, is_some, is_none, nat_eq, nat_lt, eqb-true, eq-eqb, ltb-true, ltb-false, length-append, All}
use Rattle.std.specs.List.{AllByRecursion, IsDistinct}
use Rattle.std.proofs.lemmas.List.{reverse-append, length-reverse}
use Rattle.std.proofs.lemmas.List.Elements.{All-from_recursion}
use Rattle.hk_chain.specs.Kept.{at_place}
use Rattle.hk_fix.specs.declared.cycles.Place.{Place}
use Rattle.hk_fix.specs.declared.cycles.Place.TheVariants.{Off}
use Rattle.hk_fix.specs.Facts.{is_in}
use Rattle.hk_fix.specs.Report.{trail, on_cycle, is_least, members}
use Rattle.hk_fix.specs.Walks.{IsWalk, unreached, Walking, Walked, Marked, Searched, place_at, place_by, place_on_cycle}
use Rattle.hk_fix.proofs.Orders.{clash, decide, or_cases, or_right}
use Rattle.hk_fix.proofs.Trails.{or_left, in-append, in-left, in-right, in-here, split-at, Path, walk-path, walk-step, walk-off, Closed, round-closed, trail-has, greater-member, least-member, round-members}

pub all-holds : (P : ℕ → Type 0) (xs : List ℕ) (m : ℕ) → AllByRecursion P xs → is_in xs m ≡ true → P m
all-holds P [] m h e = cc
all-holds P (x ∷ xs) m h e =
    elim (or_cases (nat_eq m x) (is_in xs m) e) [
      | inl t ↦ subst P (sym (eqb-true m x t)) h.0
      | inr t ↦ all-holds P xs m h.1 t
    ]

all-back : (P : ℕ → Type 0) (xs ys : List ℕ) → AllByRecursion P (xs ++ ys) → AllByRecursion P ys
all-back P [] ys h = h
all-back P (x ∷ xs) ys h = all-back P xs ys h.1

neither : (a b : Bool) → a ≡ false → b ≡ false → (a || b) ≡ false
neither true b p q = p
neither false b p q = q

first-out : (a b : Bool) → (a || b) ≡ false → a ≡ false
first-out true b e = e
first-out false b e = refl

second-out : (a b : Bool) → (a || b) ≡ false → b ≡ false
second-out true b e = cc
second-out false b e = e

other-way : (a b : ℕ) → nat_eq a b ≡ false → nat_eq b a ≡ false
other-way a b t = grind (arith, t)

or_flip : (a b : Bool) → (b || (a || false)) ≡ (a || b)
or_flip true true = refl
or_flip true false = refl
or_flip false true = refl
or_flip false false = refl

pub in-reverse : (xs : List ℕ) (m : ℕ) → is_in (reverse xs) m ≡ is_in xs m
in-reverse [] m = refl
in-reverse (x ∷ xs) m =
    ap (λ (l : List ℕ). is_in l m) (reverse-append (x ∷ []) xs)
    ∙ (in-append (reverse xs) (x ∷ []) m ∙ (ap (λ t. t || (nat_eq m x || false)) (in-reverse xs m) ∙ or_flip (nat_eq m x) (is_in xs m)))

apart-one : (w : ℕ) (a : List ℕ) → AllByRecursion (λ y. nat_eq w y ≡ false) a → AllByRecursion (λ r. is_in (w ∷ []) r ≡ false) a
apart-one w [] h = tt
apart-one w (y ∷ a) h = (neither (nat_eq y w) false (other-way w y h.0) refl, apart-one w a h.1)

apart-more : (w x : ℕ) (b a : List ℕ) → AllByRecursion (λ y. nat_eq x y ≡ false) a → AllByRecursion (λ r. is_in (w ∷ b) r ≡ false) a → AllByRecursion (λ r. is_in (w ∷ x ∷ b) r ≡ false) a
apart-more w x b [] h k = tt
apart-more w x b (y ∷ a) h k =
    (neither (nat_eq y w) (nat_eq y x || is_in b y) (first-out (nat_eq y w) (is_in b y) k.0) (neither (nat_eq y x) (is_in b y) (other-way x y h.0) (second-out (nat_eq y w) (is_in b y) k.0)), apart-more w x b a h.1 k.1)

distinct-split : (b : List ℕ) (w : ℕ) (a : List ℕ) → IsDistinct nat_eq (b ++ w ∷ a) → (is_in b w ≡ false) × AllByRecursion (λ r. is_in (w ∷ b) r ≡ false) a × IsDistinct nat_eq a
unfolding IsDistinct
distinct-split [] w a d = (refl, apart-one w a d.0, d.1)
distinct-split (x ∷ b) w a d =
    let r = distinct-split b w a d.1 in
    let h : AllByRecursion (λ y. nat_eq x y ≡ false) (w ∷ a) = all-back (λ y. nat_eq x y ≡ false) b (w ∷ a) d.0 in
    (neither (nat_eq w x) (is_in b w) (other-way x w h.0) r.0, apart-more w x b a h.1 r.1, r.2)

unreached-le : (xs : List (Option ℕ)) → unreached xs ≤ length xs
unreached-le [] = omega arith
unreached-le (o ∷ os) = omega (arith, unreached-le os, one (is_none o))
  where
    one : (b : Bool) → cond b 1 0 ≤ 1
    one true = omega arith
    one false = omega arith

module _ (leads : List (Option ℕ)) where
  walk-rest : (b : List ℕ) (w : ℕ) (a : List ℕ) (start : ℕ) (hit : Option ℕ) → IsWalk leads (b ++ w ∷ a) start hit → IsWalk leads a start (Some w)
  walk-rest [] w a start hit k = k.1
  walk-rest (x ∷ b) w a start hit k = walk-rest b w a start (Some x) k.1

  walk-start : (rs : List ℕ) (start : ℕ) (hit : Option ℕ) → IsWalk leads rs start hit → (is_in rs start ≡ true) ⊎ (hit ≡ Some start)
  walk-start [] start hit k = inr k
  walk-start (r ∷ rs) start hit k =
      inl (elim (walk-start rs start (Some r) k.1) [
        | inl t ↦ or_right (nat_eq start r) (is_in rs start) t
        | inr e ↦ let s : r ≡ start = cc in or_left (nat_eq start r) (is_in rs start) (eq-eqb start r (sym s))
      ])

module _ (leads old new : List (Option ℕ)) (places : List Place) (start : ℕ) (hit : Option ℕ) (so_far : Searched leads old places start) (way : Walking leads old start hit new) where
  in-marked : (q : ℕ) → is_in way.path q ≡ true → at_place new q ≡ Some start
  in-marked q i = way.marked q ∙ rw i refl

  out-marked : (q : ℕ) → is_in way.path q ≡ false → at_place new q ≡ at_place old q
  out-marked q i = way.marked q ∙ rw i refl

  was-new : (q : ℕ) → at_place old q ≢ Some start
  was-new q e = let lt : start < start = so_far.numbers q start e in absurd (omega arith)

  still-there : (q : ℕ) → is_some (at_place old q) ≡ true → is_some (at_place new q) ≡ true
  still-there q s =
      elim (decide (is_in way.path q)) [
        | inl i ↦ ap is_some (in-marked q i)
        | inr i ↦ ap is_some (out-marked q i) ∙ s
      ]

  fresh-at : (q : ℕ) → is_in way.path q ≡ true → (q < length leads) × (at_place old q ≡ None)
  fresh-at q i = all-holds (λ r. (r < length leads) × (at_place old r ≡ None)) way.path q way.fresh i

  path-short : length way.path ≤ length leads
  path-short = omega (arith, way.few, unreached-le old, so_far.walk_count)

  module _ (around : List ℕ) (after : List Place) (inside : (q : ℕ) → is_in around q ≡ true → is_in way.path q ≡ true) (count : length after ≡ length places)
      (each : (q : ℕ) → q < length leads → place_at after q ≡ cond (is_in around q) (place_on_cycle leads q) (place_at places q))
      (off : (q : ℕ) → is_in way.path q ≡ true → is_in around q ≡ false → on_cycle leads q ≡ false)
      (hits : (w : ℕ) → hit ≡ Some w → is_some (at_place new w) ≡ true) where
    aside : (q : ℕ) → is_in way.path q ≡ false → is_in around q ≡ false
    aside q o = elim (decide (is_in around q)) [ inl i ↦ clash (is_in way.path q) o (inside q i) | inr f ↦ f ]

    stays : (q : ℕ) → q < length leads → is_in around q ≡ false → place_at after q ≡ place_at places q
    stays q lt o = each q lt ∙ rw o refl

    right : (q : ℕ) → q < length leads → is_some (at_place new q) ≡ true → place_at after q ≡ place_on_cycle leads q
    right q lt s =
        elim (decide (is_in around q)) [
          | inl i ↦ each q lt ∙ rw i refl
          | inr o ↦ stays q lt o ∙ elim (decide (is_in way.path q)) [
            | inl i ↦ so_far.blank q lt (fresh-at q i).1 ∙ sym (ap (λ b. place_by b (is_least leads q)) (off q i o))
            | inr i ↦ so_far.right q lt (sym (ap is_some (out-marked q i)) ∙ s)
          ]
        ]

    blank : (q : ℕ) → q < length leads → at_place new q ≡ None → place_at after q ≡ Off
    blank q lt none =
        elim (decide (is_in way.path q)) [
          | inl i ↦ let e : Some start ≡ None = sym (in-marked q i) ∙ none in cc
          | inr i ↦ stays q lt (aside q i) ∙ so_far.blank q lt (sym (out-marked q i) ∙ none)
        ]

    closed : (q w : ℕ) → is_some (at_place new q) ≡ true → at_place leads q ≡ Some w → is_some (at_place new w) ≡ true
    closed q w s e =
        elim (decide (is_in way.path q)) [
          | inl i ↦ elim (walk-step leads way.path start hit way.walk q w i e) [
            | inl j ↦ ap is_some (in-marked w j)
            | inr h ↦ hits w h
          ]
          | inr i ↦ still-there w (so_far.closed q w (sym (ap is_some (out-marked q i)) ∙ s) e)
        ]

    numbers : (q v : ℕ) → at_place new q ≡ Some v → v < start + 1
    numbers q v e =
        elim (decide (is_in way.path q)) [
          | inl i ↦ let f : Some start ≡ Some v = sym (in-marked q i) ∙ e in let g : start ≡ v = cc in omega (arith, g)
          | inr i ↦ omega (arith, so_far.numbers q v (sym (out-marked q i) ∙ e))
        ]

    begun : (q : ℕ) → q < start + 1 → is_some (at_place new q) ≡ true
    begun q lt =
        elim (decide (nat_lt q start)) [
          | inl t ↦ still-there q (so_far.begun q (ltb-true q start t))
          | inr f ↦
              let e : q ≡ start = omega (arith, ltb-false q start f) in
              rw e (elim (walk-start leads way.path start hit way.walk) [
                | inl i ↦ ap is_some (in-marked start i)
                | inr h ↦ hits start h
              ])
        ]

    pub searched : Searched leads new after (start + 1)
    searched =
        record {
          walk_count = way.count ∙ so_far.walk_count;
          place_count = count ∙ so_far.place_count;
          closed = closed;
          numbers = numbers;
          begun = begun;
          right = right;
          blank = blank;
        }

-- a walk that ends on nothing new
module _ (leads old new : List (Option ℕ)) (places : List Place) (start : ℕ) (so_far : Searched leads old places start) where
  pub search-lost : Walked leads old start None new → Searched leads new places (start + 1)
  search-lost walked =
      searched leads old new places start walked.hit so_far walked.way [] places (λ q i. cc) refl (λ q lt. refl) off (λ w e. (walked.other refl w e).0)
    where
      earlier : (w : ℕ) → walked.hit ≡ Some w → is_some (at_place old w) ≡ true
      earlier w e =
          elim (decide (is_in walked.way.path w)) [
            | inl i ↦ absurd ((walked.other refl w e).1 (in-marked leads old new places start walked.hit so_far walked.way w i))
            | inr i ↦ sym (ap is_some (out-marked leads old new places start walked.hit so_far walked.way w i)) ∙ (walked.other refl w e).0
          ]

      none-some : (xs : List ℕ) → AllByRecursion (λ r. (r < length leads) × (at_place old r ≡ None)) xs → AllByRecursion (λ r. is_some (at_place old r) ≡ false) xs
      none-some [] h = tt
      none-some (x ∷ xs) h = (ap is_some h.0.1, none-some xs h.1)

      off : (q : ℕ) → is_in walked.way.path q ≡ true → is_in [] q ≡ false → on_cycle leads q ≡ false
      off q i o =
          all-holds (λ r. is_in (trail leads (length leads) r) r ≡ false) walked.way.path q
          (walk-off leads (length leads) (λ r. is_some (at_place old r)) (λ r w s e. so_far.closed r w s e) walked.way.path start walked.hit walked.way.walk earlier walked.way.distinct (none-some walked.way.path walked.way.fresh)) i

  -- a walk that comes back to an item of its own
  module _ (w : ℕ) (walked : Walked leads old start (Some w) new) where
    found : (walked.hit ≡ Some w) × (at_place new w ≡ Some start)
    found = walked.own w refl

    on-path : is_in walked.way.path w ≡ true
    on-path =
        elim (decide (is_in walked.way.path w)) [
          | inl i ↦ i
          | inr i ↦ absurd (was-new leads old new places start walked.hit so_far walked.way w (sym (out-marked leads old new places start walked.hit so_far walked.way w i) ∙ found.1))
        ]

    pub found-in : w < length leads
    found-in = (fresh-at leads old new places start walked.hit so_far walked.way w on-path).0

    module _ (b a : List ℕ) (split : walked.way.path ≡ b ++ w ∷ a) where
      loop : IsWalk leads (b ++ w ∷ a) start (Some w)
      loop = subst (λ (o : Option ℕ). IsWalk leads (b ++ w ∷ a) start o) found.0 (subst (λ (l : List ℕ). IsWalk leads l start walked.hit) split walked.way.walk)

      round : Path leads w (reverse b ++ w ∷ []) w
      round = walk-path leads b w a start w loop

      short : length (reverse b) < length leads
      short = omega (arith, length-reverse b, length-append b (w ∷ a), ap length split, path-short leads old new places start walked.hit so_far walked.way)

      parts : (is_in b w ≡ false) × AllByRecursion (λ r. is_in (w ∷ b) r ≡ false) a × IsDistinct nat_eq a
      parts = distinct-split b w a (subst (IsDistinct nat_eq) split walked.way.distinct)

      members-are : members leads w ≡ w ∷ reverse b
      members-are = ap (λ (l : List ℕ). w ∷ l) (round-members leads (length leads) w (reverse b) round short (in-reverse b w ∙ parts.0))

      on : on_cycle leads w ≡ true
      on = trail-has leads w (reverse b) round (length leads) short w w (in-here (reverse b) w) (in-here (reverse b) w)

      same-round : (q : ℕ) → is_in (w ∷ reverse b) q ≡ is_in (w ∷ b) q
      same-round q = ap (λ t. nat_eq q w || t) (in-reverse b q)

      inside : (q : ℕ) → is_in (w ∷ reverse b) q ≡ true → is_in walked.way.path q ≡ true
      inside q i =
          ap (λ (l : List ℕ). is_in l q) split ∙ elim (or_cases (nat_eq q w) (is_in b q) (sym (same-round q) ∙ i)) [
            | inl t ↦ in-right b (w ∷ a) q (or_left (nat_eq q w) (is_in a q) t)
            | inr t ↦ in-left b (w ∷ a) q t
          ]

      placed : (q least : ℕ) → is_in (w ∷ reverse b) q ≡ true → is_in (w ∷ reverse b) least ≡ true → AllByRecursion (λ r. least ≤ r) (w ∷ reverse b) → place_by true (nat_eq q least) ≡ place_on_cycle leads q
      placed q least i member below =
          let on-q : on_cycle leads q ≡ true = trail-has leads w (reverse b) round (length leads) short q q i i in
          elim (decide (nat_eq q least)) [
            | inl t ↦
                let e : q ≡ least = eqb-true q least t in
                let l : is_least leads q ≡ true = rw e (least-member leads w (reverse b) round (length leads) short least member below) in
                rw (t, on-q, l) refl
            | inr f ↦
                let le : least ≤ q = all-holds (λ r. least ≤ r) (w ∷ reverse b) q below i in
                let ne : q ≢ least = λ e. clash (nat_eq q least) f (eq-eqb q least e) in
                let l : is_least leads q ≡ false = greater-member leads w (reverse b) round (length leads) short q least i member (omega arith) in
                rw (f, on-q, l) refl
          ]

      in-rest : (q : ℕ) → is_in walked.way.path q ≡ true → is_in (w ∷ reverse b) q ≡ false → is_in a q ≡ true
      in-rest q i o =
          let o' : is_in (w ∷ b) q ≡ false = sym (same-round q) ∙ o in
          elim (or_cases (is_in b q) (nat_eq q w || is_in a q) (sym (in-append b (w ∷ a) q) ∙ (sym (ap (λ (l : List ℕ). is_in l q) split) ∙ i))) [
            | inl t ↦ clash (is_in b q) (second-out (nat_eq q w) (is_in b q) o') t
            | inr t ↦ elim (or_cases (nat_eq q w) (is_in a q) t) [
              | inl s ↦ clash (nat_eq q w) (first-out (nat_eq q w) (is_in b q) o') s
              | inr s ↦ s
            ]
          ]

      abbrev bounds : ℕ → Bool
      bounds r = is_some (at_place old r) || is_in (w ∷ reverse b) r

      bounded : Closed leads bounds
      bounded q x s e =
          elim (or_cases (is_some (at_place old q)) (is_in (w ∷ reverse b) q) s) [
            | inl t ↦ or_left (is_some (at_place old x)) (is_in (w ∷ reverse b) x) (so_far.closed q x t e)
            | inr t ↦ or_right (is_some (at_place old x)) (is_in (w ∷ reverse b) x) (round-closed leads w (reverse b) round q x t e)
          ]

      out-of-bounds : (rs : List ℕ) → AllByRecursion (λ r. (r < length leads) × (at_place old r ≡ None)) rs → AllByRecursion (λ r. is_in (w ∷ b) r ≡ false) rs → AllByRecursion (λ r. bounds r ≡ false) rs
      out-of-bounds [] h k = tt
      out-of-bounds (r ∷ rs) h k = (neither (is_some (at_place old r)) (is_in (w ∷ reverse b) r) (ap is_some h.0.1) (same-round r ∙ k.0), out-of-bounds rs h.1 k.1)

      rest-fresh : AllByRecursion (λ r. (r < length leads) × (at_place old r ≡ None)) a
      rest-fresh =
          (all-back (λ r. (r < length leads) × (at_place old r ≡ None)) b (w ∷ a) (subst (AllByRecursion (λ r. (r < length leads) × (at_place old r ≡ None))) split walked.way.fresh)).1

      off : (q : ℕ) → is_in walked.way.path q ≡ true → is_in (w ∷ reverse b) q ≡ false → on_cycle leads q ≡ false
      off q i o =
          all-holds (λ r. is_in (trail leads (length leads) r) r ≡ false) a q
          (walk-off leads (length leads) bounds bounded a start (Some w) (walk-rest leads b w a start (Some w) loop)
          (λ x e. let s : w ≡ x = cc in or_right (is_some (at_place old x)) (is_in (w ∷ reverse b) x) (or_left (nat_eq x w) (is_in (reverse b) x) (eq-eqb x w (sym s))))
          parts.2 (out-of-bounds a rest-fresh parts.1)) (in-rest q i o)

      hits : (x : ℕ) → walked.hit ≡ Some x → is_some (at_place new x) ≡ true
      hits x e = let f : Some w ≡ Some x = sym found.0 ∙ e in let s : w ≡ x = cc in subst (λ (y : ℕ). is_some (at_place new y) ≡ true) s (ap is_some found.1)

      marked-search : (after : List Place) → Marked (w ∷ reverse b) places after → Searched leads new after (start + 1)
      marked-search after m =
          searched leads old new places start walked.hit so_far walked.way (w ∷ reverse b) after inside m.count each off hits
        where
          each : (q : ℕ) → q < length leads → place_at after q ≡ cond (is_in (w ∷ reverse b) q) (place_on_cycle leads q) (place_at places q)
          each q lt =
              m.each q (omega (arith, so_far.place_count)) ∙ elim (decide (is_in (w ∷ reverse b) q)) [
                | inl i ↦ rw i (placed q m.least i m.member m.below)
                | inr o ↦ rw o refl
              ]

      members-in : AllByRecursion (λ q. q < length places) (w ∷ reverse b)
      members-in = each-in (w ∷ reverse b) inside
        where
          each-in : (xs : List ℕ) → ((q : ℕ) → is_in xs q ≡ true → is_in walked.way.path q ≡ true) → AllByRecursion (λ q. q < length places) xs
          each-in [] h = tt
          each-in (x ∷ xs) h =
              (omega (arith, so_far.place_count, (fresh-at leads old new places start walked.hit so_far walked.way x (h x (in-here xs x))).0), each-in xs (λ q i. h q (or_right (nat_eq q x) (is_in xs q) i)))

    pub found-on : on_cycle leads w ≡ true
    found-on = let s = split-at walked.way.path w on-path in on s.0 s.1 s.2

    pub found-members : All (λ q. q < length places) (members leads w)
    found-members =
        let s = split-at walked.way.path w on-path in
        All-from_recursion (λ q. q < length places) (members leads w) (subst (AllByRecursion (λ q. q < length places)) (sym (members-are s.0 s.1 s.2)) (members-in s.0 s.1 s.2))

    pub search-found : (after : List Place) → Marked (members leads w) places after → Searched leads new after (start + 1)
    search-found after m =
        let s = split-at walked.way.path w on-path in
        marked-search s.0 s.1 s.2 after (subst (λ (l : List ℕ). Marked l places after) (members-are s.0 s.1 s.2) m)
