-- What a replay has used, and an answer that comes in.
use Rattle.std.proofs.Common.{◌≡◌, refl, sym, ap, ◌∙◌, subst, arith, ℕ, suc, ◌+◌, ◌-◌, ◌<◌, ◌≤◌, Bool, true, false, cond, ◌||◌, ◌&&◌, not, inl, inr, List, [], ◌∷◌, ◌++◌, append_assoc, append-nil, length, length-append, map, take, drop, filter, Option, Some, None, is_some, Result, Ok, Err, OnErr, nat_eq, eqb-true, option_to_list, Contains, Vec}
use Rattle.std.proofs.Math.Path.{fun_ext}
use Rattle.std.proofs.lemmas.List.{take-append-drop, take-append-le}
use Rattle.std.specs.List.{AllByRecursion, IsDistinct}
use Rattle.std.specs.Vec.{vec_capacity}
use Rattle.std.specs.declared.alloc.Global.{Global}
use Rattle.hk_chain.specs.declared.page.Page.{Page}
use Rattle.hk_chain.specs.declared.numbers.PairNo.{PairNo}
use Rattle.hk_chain.specs.Layout.{Shape}
use Rattle.hk_fix.specs.declared.polled.Polled.{Polled}
use Rattle.hk_fix.specs.declared.polled.Polled.TheVariants as polled
use Rattle.hk_fix.specs.Calls.{Goes, Lists}
use Rattle.hk_fix.specs.Facts.{is_in}
use Rattle.hk_fix.specs.Fix.{or_else}
use Rattle.hk_fix.specs.Meaning.{Meaning}
use Rattle.hk_fix.specs.Pages.{Pages, Extends, Begins, tell}
use Rattle.hk_fix.specs.Run.{Save, saves_of, IsRun}
use Rattle.hk_fix.specs.Task.{Run}
use Rattle.hk_fix.specs.TaskLaws.{all_pages-more}
use Rattle.hk_fix.proofs.Orders.{or_cases, or_right, saves_of-append}
use Rattle.hk_fix.proofs.Trails.{in-append, or_left}
use Rattle.hk_fix.proofs.Steps.{contains-in, in-contains}
use Rattle.hk_reuse.specs.Over.{drop_saved}
use Rattle.hk_replay.specs.declared.record.Step.{Step}
use Rattle.hk_replay.specs.declared.record.Step.TheVariants.{Asked, Saved}
use Rattle.hk_replay.specs.declared.record.Record.{Record}
use Rattle.hk_replay.specs.declared.record.Records.{Records}
use Rattle.hk_replay.specs.declared.way.Way.{Way}
use Rattle.hk_reuse.proofs.Lists.{all-at}
use Rattle.hk_replay.specs.Going.{both, drop_saves, all_saves}
use Rattle.hk_replay.specs.Keeping.{over_run, view_of, meaning_of, Phase, IsFresh, way_meaning, known_of, front_of, open_of, gave, given_before, HasUsed, Keeps, HasRoom, Stays, UsesSame}
use Rattle.hk_eval.specs.Told.{ToldView, told_pages, is_listed}
use Rattle.hk_replay.specs.Replays.{over, over_by, record_at, steps_of, passed, kept_by, from, Passes, Breaks}
use Rattle.hk_replay.proofs.Phases.{passes-from, over-broken, saves-dropped, self}
use Rattle.hk_replay.proofs.Polling.{drops-append}

pub err-map : {A E P Q : Type 0} (r : Result A E) → (P → Q) → OnErr r P → OnErr r Q
err-map (Ok x) f h = h
err-map (Err e) f h = f h

pub on-err : {A E P : Type 0} (r : Result A E) → P → OnErr r P
on-err (Ok x) h = tt
on-err (Err e) h = h

-- a poll leaves what a compiler is of
pub goes-same : {C : Type 0} (shape : C → Shape) (run : C → ℕ → Pages → Run Page) (m n : Meaning C) (p : Polled) → Goes shape run m p n → (n.common ≡ m.common) × (n.item ≡ m.item)
goes-same shape run m n (polled.Saved p x) h = (ap (λ r. r.common) h.1, ap (λ r. r.item) h.1)
goes-same shape run m n polled.Ask h = (ap (λ r. r.common) h.2, ap (λ r. r.item) h.2)
goes-same shape run m n (polled.Done x f) h = (ap (λ r. r.common) h.3, ap (λ r. r.item) h.3)
goes-same shape run m n (polled.Failed f) h = (ap (λ r. r.common) h.2, ap (λ r. r.item) h.2)

pub err-both : {A E P Q R : Type 0} (r : Result A E) → (P → Q → R) → OnErr r P → OnErr r Q → OnErr r R
err-both (Ok x) f h g = h
err-both (Err e) f h g = f h g

pub stays-then : {M C : Type 0} (meaning : M → Meaning C) (records : Records) (w settled mid new : Way M) → settled.inner ≡ w.inner → settled.given ≡ w.given → settled.is_ended ≡ w.is_ended → ((q : ℕ) → known_of meaning settled q ≡ known_of meaning w q) → settled.told ≡ w.told → way_meaning meaning records mid ≡ way_meaning meaning records settled → mid.inner ≡ settled.inner → mid.is_ended ≡ settled.is_ended → Stays meaning mid new → Stays meaning w new
stays-then meaning records w settled mid new i g e k t same inner ended s =
    record {
      common = s.common ∙ ap (λ x. (meaning x).common) (inner ∙ i);
      item = s.item ∙ ap (λ x. (meaning x).item) (inner ∙ i);
      told = λ q. s.told q ∙ (ap (λ n. n.told q) same ∙ k q);
      awaits = s.awaits;
      given = s.given ∙ (ap (λ n. n.given) same ∙ g);
      ended = s.ended ∙ (ended ∙ e);
    }

abbrev pair_of : Save → ℕ
pair_of s = s.pair

first-pairs : (saves rest : List Save) (past last : List ℕ) → map pair_of saves ≡ past ++ last → map pair_of (take (length past) (saves ++ rest)) ≡ past
first-pairs saves rest [] last e = refl
first-pairs [] rest (p ∷ past) last e = cc
first-pairs (s ∷ saves) rest (p ∷ past) last e =
    let head : s.pair ≡ p = cc in
    let tail : map pair_of saves ≡ past ++ last = cc in
    rw head (ap (λ l. p ∷ l) (first-pairs saves rest past last tail))

length-map-pairs : (saves : List Save) → length (map pair_of saves) ≡ length saves
length-map-pairs [] = refl
length-map-pairs (s ∷ saves) = ap suc (length-map-pairs saves)

less-one : (last : Option ℕ) (n : ℕ) → (n + length (option_to_list last)) - cond (is_some last) 1 0 ≡ n
less-one None n = omega arith
less-one (Some p) n = omega arith

-- more pages are known
pub passes-more : (k m : Pages) → Extends k m → (l : List Step) → Passes k l → Passes m l
passes-more k m ext [] h = tt
passes-more k m ext (Asked ps ds ∷ l) h = (record { pages = h.0.pages; known = all_pages-more k m ext ps.items h.0.pages h.0.known; same = h.0.same }, passes-more k m ext l h.1)
passes-more k m ext (Saved p x ∷ l) h = passes-more k m ext l h

pub breaks-more : (k m : Pages) → Extends k m → (l : List Step) → Breaks k l → Breaks m l
breaks-more k m ext [] h = h
breaks-more k m ext (Saved p x ∷ l) h = breaks-more k m ext l h
breaks-more k m ext (Asked ps ds ∷ []) h = (h.0, all_pages-more k m ext ps.items h.0 h.1, h.2)
breaks-more k m ext (Asked ps ds ∷ s ∷ l) h = (record { pages = h.0.pages; known = all_pages-more k m ext ps.items h.0.pages h.0.known; same = h.0.same }, breaks-more k m ext (s ∷ l) h.1)

pub phase-more : (k m : Pages) → Extends k m → (o : Option Record) (at : ℕ) (b : Bool) → Phase k o at b → Phase m o at b
phase-more k m ext None at false h = h
phase-more k m ext None at true h = h
phase-more k m ext (Some r) at false h = passes-more k m ext (take at r.steps.items) h
phase-more k m ext (Some r) at true h = breaks-more k m ext (take at r.steps.items) h

-- the given saves are the first ones of the run
module _ {M C : Type 0} (meaning : M → Meaning C) (run : C → ℕ → Pages → Run Page) (records : Records) (w : Way M) (keeps : Keeps meaning run records w) where
  abbrev m : Meaning C
  m = meaning w.inner

  abbrev k : Pages
  k = known_of meaning w

  abbrev G : Run Page
  G = over_by (run (meaning w.inner).common (meaning w.inner).item) (record_at records (meaning w.inner).item) (known_of meaning w)

  gave-first : (o : Option Record) → record_at records (meaning w.inner).item ≡ o → (b : Bool) → w.is_broken ≡ b → Phase (known_of meaning w) o w.at b → (rest : List Save) × (saves_of (over_by (run (meaning w.inner).common (meaning w.inner).item) o (known_of meaning w)).log ≡ (saves_of (passed (take w.at (steps_of o))) ++ drop_saves (is_in (kept_by [] (take w.at (steps_of o)))) (take (meaning w.inner).given (all_saves run (told_pages w.told) (meaning w.inner)))) ++ rest)
  gave-first o e true bb h =
      let front = take w.at (steps_of o) in
      let held = kept_by [] front in
      let S = all_saves run (told_pages w.told) m in
      let n = m.given in (
        drop_saves (is_in held) (drop n S),
        ap (λ (r : Run Page). saves_of r.log) (over-broken (run m.common m.item) o w.at k k (self k) h)
            ∙ (saves_of-append (passed front) (drop_saved held (run m.common m.item k).log)
            ∙ (ap (λ l. saves_of (passed front) ++ l) (saves-dropped held (run m.common m.item k).log ∙ (ap (drop_saves (is_in held)) (sym (take-append-drop n S)) ∙ drops-append (is_in held) (take n S) (drop n S)))
            ∙ sym (append_assoc (saves_of (passed front)) (drop_saves (is_in held) (take n S)) (drop_saves (is_in held) (drop n S))))),
      )
  gave-first None e false bb h = absurd h
  gave-first (Some r) e false bb h =
      let front = take w.at r.steps.items in
      let rest = from (run m.common m.item) r.page r.patterns.items (kept_by [] front) (drop w.at r.steps.items) k in (
        saves_of rest.log,
        ap (λ l. saves_of (from (run m.common m.item) r.page r.patterns.items [] l k).log) (sym (take-append-drop w.at r.steps.items))
            ∙ (ap (λ (q : Run Page). saves_of q.log) (passes-from (run m.common m.item) r.page r.patterns.items [] front (drop w.at r.steps.items) k k (self k) h)
            ∙ (saves_of-append (passed front) rest.log
            ∙ ap (λ l. l ++ saves_of rest.log) (sym (ap (λ n. saves_of (passed front) ++ drop_saves (is_in (kept_by [] front)) (take n (all_saves run (told_pages w.told) m))) (keeps.early bb).given ∙ append-nil (saves_of (passed front)))))),
      )

  first : (rest : List Save) × (saves_of G.log ≡ gave meaning run records w ++ rest)
  first = gave-first (record_at records m.item) refl w.is_broken refl keeps.phase

  past-is : map pair_of (take (w.given - cond (is_some w.last) 1 0) (saves_of G.log)) ≡ keeps.past
  past-is =
      let count : w.given ≡ length keeps.past + length (option_to_list w.last) = keeps.count ∙ (sym (length-map-pairs (gave meaning run records w)) ∙ (ap length keeps.pairs ∙ length-append keeps.past (option_to_list w.last))) in
      let few : w.given - cond (is_some w.last) 1 0 ≡ length keeps.past = ap (λ n. n - cond (is_some w.last) 1 0) count ∙ less-one w.last (length keeps.past) in
      ap (λ l. map pair_of (take (w.given - cond (is_some w.last) 1 0) l)) first.1 ∙ (ap (λ n. map pair_of (take n (gave meaning run records w ++ first.0))) few ∙ first-pairs (gave meaning run records w) first.0 keeps.past (option_to_list w.last) keeps.pairs)

pub keeps-used : {M C : Type 0} (meaning : M → Meaning C) (run : C → ℕ → Pages → Run Page) (records : Records) (w : Way M) → Keeps meaning run records w → HasUsed meaning run records w
keeps-used meaning run records w keeps q = keeps.used q ∙ ap (λ l. is_some (known_of meaning w q) || is_in l q) (sym (past-is meaning run records w keeps))

-- it stays so where memory was wanting
pub used-stays : {M C : Type 0} (meaning : M → Meaning C) (run : C → ℕ → Pages → Run Page) (records : Records) (w new : Way M) → Stays meaning w new → UsesSame meaning w new → HasUsed meaning run records w → HasUsed meaning run records new
used-stays meaning run records w new stays same has q =
    let known : known_of meaning new ≡ known_of meaning w = fun_ext stays.told in
    let before : given_before meaning run records new ≡ given_before meaning run records w = λ i. map (λ s. s.pair) (take (stays.given i - cond (is_some (same.last i)) 1 0) (saves_of (over records (run (stays.common i)) (stays.item i) (known i)).log)) in
    ap (λ l. is_in l q) same.used ∙ (has q ∙ sym (λ i. is_some (known i q) || is_in (before i) q))

pub used-same : {M C : Type 0} (meaning : M → Meaning C) (run : C → ℕ → Pages → Run Page) (records : Records) (w : Way M) (last : Option ℕ) (more : Vec PairNo Global) → last ≡ w.last → more.items ≡ w.used.items → HasUsed meaning run records w → HasUsed meaning run records (record { inner = w.inner; told = w.told; awaits = w.awaits; used = more; given = w.given; last = last; at = w.at; kept = w.kept; is_broken = w.is_broken; is_ended = w.is_ended })
used-same meaning run records w last more e put has q =
    ap (λ l. is_in l q) put ∙ (has q ∙ sym (λ i. is_some (known_of meaning w q) || is_in (map (λ s. s.pair) (take (w.given - cond (is_some (e i)) 1 0) (saves_of (over records (run (meaning w.inner).common) (meaning w.inner).item (known_of meaning w)).log))) q))

pub used-lists : {M C : Type 0} (meaning : M → Meaning C) (run : C → ℕ → Pages → Run Page) (records : Records) (w : Way M) (spent : Bool) → HasUsed meaning run records w → Lists (over_run run) (meaning_of meaning (view_of records w spent)) w.used.items
used-lists meaning run records w spent has p = (
  λ c. elim (or_cases (is_some (known_of meaning w p)) (is_in (given_before meaning run records w) p) (sym (has p) ∙ contains-in w.used.items p c)) [
    | inl t ↦ inl t
    | inr t ↦ inr (in-contains (given_before meaning run records w) p t)
  ],
  λ d. in-contains w.used.items p (has p ∙ elim d [
    | inl t ↦ or_left (is_some (known_of meaning w p)) (is_in (given_before meaning run records w) p) t
    | inr t ↦ or_right (is_some (known_of meaning w p)) (is_in (given_before meaning run records w) p) (contains-in (given_before meaning run records w) p t)
  ]),
)

-- a page is answered
abbrev others : ℕ → List ℕ → List ℕ
others pair ps = filter (λ q. not (nat_eq pair q)) ps

pub each-other : (pair : ℕ) (Q R : ℕ → Type 0) → ((q : ℕ) → nat_eq pair q ≡ false → Q q → R q) → (ps : List ℕ) → AllByRecursion Q ps → AllByRecursion R (filter (λ q. not (nat_eq pair q)) ps)
each-other pair Q R f [] h = tt
each-other pair Q R f (p ∷ ps) h =
    elim (nat_eq pair p) as (λ b. nat_eq pair p ≡ b → AllByRecursion R (cond (not b) (p ∷ others pair ps) (others pair ps))) [
      | true ↦ λ e. each-other pair Q R f ps h.1
      | false ↦ λ e. (f p e h.0, each-other pair Q R f ps h.1)
    ] refl

others-distinct : (pair : ℕ) (ps : List ℕ) → IsDistinct nat_eq ps → IsDistinct nat_eq (filter (λ q. not (nat_eq pair q)) ps)
unfolding IsDistinct
others-distinct pair [] d = tt
others-distinct pair (p ∷ ps) d =
    elim (nat_eq pair p) as (λ b. IsDistinct nat_eq (cond (not b) (p ∷ others pair ps) (others pair ps))) [
      | true ↦ others-distinct pair ps d.1
      | false ↦ (each-other pair (λ q. nat_eq p q ≡ false) (λ q. nat_eq p q ≡ false) (λ q e h. h) ps d.0, others-distinct pair ps d.1)
    ]

no-more : (pair : ℕ) (ps : List ℕ) → length (filter (λ q. not (nat_eq pair q)) ps) ≤ length ps
no-more pair [] = omega arith
no-more pair (p ∷ ps) = elim (nat_eq pair p) as (λ b. length (cond (not b) (p ∷ others pair ps) (others pair ps)) ≤ length (p ∷ ps)) [ true ↦ omega (arith, no-more pair ps) | false ↦ omega (arith, no-more pair ps) ]

one-less : (pair : ℕ) (ps : List ℕ) → is_in ps pair ≡ true → length (filter (λ q. not (nat_eq pair q)) ps) + 1 ≤ length ps
one-less pair [] e = cc
one-less pair (p ∷ ps) e =
    elim (nat_eq pair p) as (λ b. nat_eq pair p ≡ b → length (cond (not b) (p ∷ others pair ps) (others pair ps)) + 1 ≤ length (p ∷ ps)) [
      | true ↦ λ t. omega (arith, no-more pair ps)
      | false ↦ λ t. let i : is_in ps pair ≡ true = sym (ap (λ b. b || is_in ps pair) t) ∙ e in omega (arith, one-less pair ps i)
    ] refl

told-use : (x : Page) (a b : Bool) (o : Option Page) (c : Bool) → a ≡ b → ((is_some o || c) || (a || false)) ≡ (is_some (cond b (Some x) o) || c)
told-use x true true o c e = or-yes (is_some o || c)
  where
    or-yes : (b : Bool) → (b || true) ≡ true
    or-yes true = refl
    or-yes false = refl
told-use x false false o c e = or-no (is_some o || c)
  where
    or-no : (b : Bool) → (b || false) ≡ b
    or-no true = refl
    or-no false = refl
told-use x true false o c e = cc
told-use x false true o c e = cc

module _ {M C : Type 0} (meaning : M → Meaning C) (shape : C → Shape) (run : C → ℕ → Pages → Run Page) (records : Records) (w : Way M) (pair : ℕ) (page : Page) (inner2 : M) (told2 : ToldView) (awaits2 : List ℕ) (used2 : Vec PairNo Global)
    (common : (meaning inner2).common ≡ (meaning w.inner).common) (item : (meaning inner2).item ≡ (meaning w.inner).item) (given : (meaning inner2).given ≡ (meaning w.inner).given) (ended : (meaning inner2).has_ended ≡ (meaning w.inner).has_ended)
    (pages : (q : ℕ) → both (meaning inner2).told (told_pages told2) q ≡ tell (known_of meaning w) pair page q) (room : HasRoom meaning w) (open_ : Contains (open_of meaning w) pair) where
  abbrev answered_way : Way M
  answered_way = record { inner = inner2; told = told2; awaits = awaits2; used = used2; given = w.given; last = w.last; at = w.at; kept = w.kept; is_broken = w.is_broken; is_ended = w.is_ended }

  abbrev mm : Meaning C
  mm = meaning w.inner

  abbrev K2 : Pages
  K2 = both (meaning inner2).told (told_pages told2)

  untold : known_of meaning w pair ≡ None
  untold = all-at (λ p. known_of meaning w p ≡ None) (open_of meaning w) pair room.untold (contains-in (open_of meaning w) pair open_)

  extends : Extends (known_of meaning w) (both (meaning inner2).told (told_pages told2))
  extends q y e = pages q ∙ elim (nat_eq pair q) as (λ b. nat_eq pair q ≡ b → cond b (Some page) (known_of meaning w q) ≡ Some y) [
    | true ↦ λ t. let z : known_of meaning w q ≡ None = ap (known_of meaning w) (sym (eqb-true pair q t)) ∙ untold in let no : None ≡ Some y = sym z ∙ e in cc
    | false ↦ λ t. e
  ] refl

  module _ (law : IsRun (shape mm.common) (run mm.common)) (lt : mm.item < (shape mm.common).items) (keeps : Keeps meaning run records w) where
    abbrev S : List Save
    S = all_saves run (told_pages w.told) mm

    abbrev S2 : List Save
    S2 = saves_of (run mm.common mm.item K2).log

    grown : Begins S S2
    grown = let b = law.grows mm.item (known_of meaning w) K2 lt extends in (saves_of b.0, ap saves_of b.1 ∙ saves_of-append (run mm.common mm.item (known_of meaning w)).log b.0)

    s2-is : all_saves run (told_pages told2) (meaning inner2) ≡ S2
    s2-is = λ i. saves_of (run (common i) (item i) K2).log

    gave-same : gave meaning run records answered_way ≡ gave meaning run records w
    gave-same =
        (λ i. saves_of (passed (take w.at (steps_of (record_at records (item i))))) ++ drop_saves (is_in (kept_by [] (take w.at (steps_of (record_at records (item i)))))) (take (given i) (saves_of (run (common i) (item i) K2).log)))
        ∙ ap (λ l. saves_of (passed (front_of meaning records w)) ++ drop_saves (is_in (kept_by [] (front_of meaning records w))) l) (ap (take mm.given) grown.1 ∙ take-append-le mm.given S grown.0 keeps.few)

    pub answer-keeps : used2.items ≡ w.used.items ++ pair ∷ [] → (w.is_broken ≡ false → IsFresh (meaning inner2)) → (w.is_broken ≡ true → awaits2 ≡ []) → Keeps meaning run records answered_way
    answer-keeps put early own =
        record {
          phase = subst (λ j. Phase K2 (record_at records j) w.at w.is_broken) (sym item) (phase-more (known_of meaning w) K2 extends (record_at records mm.item) w.at w.is_broken keeps.phase);
          within = subst (λ j. w.at ≤ length (steps_of (record_at records j))) (sym item) keeps.within;
          early = early;
          own = own;
          kept = λ b. keeps.kept b ∙ ap (λ j. is_in (kept_by [] (take w.at (steps_of (record_at records j))))) (sym item);
          few = omega (arith, keeps.few, given, ap length s2-is, ap length grown.1, length-append S grown.0);
          going = λ e. ended ∙ keeps.going e;
          count = omega (arith, keeps.count, ap length gave-same);
          past = keeps.past;
          pairs = ap (map pair_of) gave-same ∙ keeps.pairs;
          bound = omega (arith, keeps.bound, ap length put, length-append w.used.items (pair ∷ []));
          used = λ q. ap (λ l. is_in l q) put ∙ (in-append w.used.items (pair ∷ []) q ∙ (ap (λ b. b || is_in (pair ∷ []) q) (keeps.used q) ∙ (told-use page (nat_eq q pair) (nat_eq pair q) (known_of meaning w q) (is_in keeps.past q) (flips pair q) ∙ ap (λ o. is_some o || is_in keeps.past q) (sym (pages q)))));
        }
      where
        flips : (a b : ℕ) → nat_eq b a ≡ nat_eq a b
        flips a b = grind arith

  pub answer-room : used2.items ≡ w.used.items ++ pair ∷ [] → vec_capacity w.used ≤ vec_capacity used2 → cond w.is_broken (meaning inner2).awaits awaits2 ≡ filter (λ q. not (nat_eq pair q)) (open_of meaning w) → (w.is_broken ≡ false → AllByRecursion (λ p. is_listed told2 p ≡ true) awaits2) → HasRoom meaning answered_way
  answer-room put more out listed =
      record {
        listed = listed;
        untold = subst (AllByRecursion (λ q. K2 q ≡ None)) (sym out) (each-other pair (λ q. known_of meaning w q ≡ None) (λ q. K2 q ≡ None) (λ q e h. pages q ∙ (ap (λ b. cond b (Some page) (known_of meaning w q)) e ∙ h)) (open_of meaning w) room.untold);
        distinct = subst (IsDistinct nat_eq) (sym out) (others-distinct pair (open_of meaning w) room.distinct);
        room = λ some.
            let less : length (others pair (open_of meaning w)) + 1 ≤ length (open_of meaning w) = one-less pair (open_of meaning w) (contains-in (open_of meaning w) pair open_) in
            let fits : length w.used.items + length (open_of meaning w) ≤ vec_capacity w.used = room.room (omega (arith, less)) in
            omega (arith, ap length out, ap length put, length-append w.used.items (pair ∷ []), less, fits, more);
      }

pub open-now : (b s : Bool) (x y : List ℕ) → s ≡ false → cond (b && not s) x y ≡ cond b x y
open-now true false x y e = refl
open-now false false x y e = refl
open-now true true x y e = cc
open-now false true x y e = cc

-- an open pair is one of a replay that isn't spent
pub not-spent : (b s : Bool) (x y : List ℕ) (p : ℕ) → Contains (cond (b && not s) x y) p → (s ≡ true → y ≡ []) → s ≡ false
not-spent b false x y p h e = refl
not-spent true true x y p h e = let no : Contains [] p = subst (λ (l : List ℕ). Contains l p) (e refl) h in let z : false ≡ true = contains-in [] p no in cc
not-spent false true x y p h e = let no : Contains [] p = subst (λ (l : List ℕ). Contains l p) (e refl) h in let z : false ≡ true = contains-in [] p no in cc

pub told-either : (o : Pages) (k k2 : Pages) (pair : ℕ) (page : Page) → ((q : ℕ) → o q ≡ None) → ((q : ℕ) → k2 q ≡ tell k pair page q) → (q : ℕ) → or_else (o q) (k2 q) ≡ tell (λ r. or_else (o r) (k r)) pair page q
told-either o k k2 pair page none is q = ap (λ x. or_else x (k2 q)) (none q) ∙ (is q ∙ ap (λ x. cond (nat_eq pair q) (Some page) (or_else x (k q))) (sym (none q)))

pub told-inner : (o k : Pages) (pair : ℕ) (page : Page) (q : ℕ) → or_else (tell o pair page q) (k q) ≡ tell (λ r. or_else (o r) (k r)) pair page q
told-inner o k pair page q = elim (nat_eq pair q) as (λ b. or_else (cond b (Some page) (o q)) (k q) ≡ cond b (Some page) (or_else (o q) (k q))) [ true ↦ refl | false ↦ refl ]
