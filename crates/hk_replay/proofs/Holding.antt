-- What a replay keeps, from one answer to the next.
use Rattle.std.proofs.Common.{◌≡◌, refl, sym, ap, ◌∙◌, subst, arith, ℕ, zero, suc, ◌+◌, ◌<◌, ◌≤◌, Bool, true, false, cond, ◌||◌, ◌&&◌, List, [], ◌∷◌, ◌++◌, append_assoc, append-nil, length, length-append, map, take, drop, Option, Some, None, is_some, nat_eq, option_to_list, Vec}
use Rattle.std.proofs.Math.Path.{fun_ext}
use Rattle.std.proofs.lemmas.List.{take-append-drop}
use Rattle.std.specs.List.{AllByRecursion, IsDistinct, slice_get}
use Rattle.std.specs.BTreeSet.{BTreeSet, contains}
use Rattle.std.specs.Ordering.{nat_cmp}
use Rattle.std.specs.Vec.{vec_capacity}
use Rattle.std.specs.declared.alloc.Global.{Global}
use Rattle.hk_chain.specs.declared.page.Page.{Page}
use Rattle.hk_chain.specs.declared.numbers.PairNo.{PairNo}
use Rattle.hk_chain.specs.declared.fault.Fault.{Fault}
use Rattle.hk_chain.specs.Facts.{FactsView}
use Rattle.hk_chain.specs.Layout.{Shape, final_of}
use Rattle.hk_fix.specs.declared.polled.Polled.TheVariants as polled
use Rattle.hk_fix.specs.Calls.{Goes}
use Rattle.hk_fix.specs.Pages.{Pages, lacking}
use Rattle.hk_fix.specs.Task.{used, saved, asked, note, done, fault, waits, Run, onward}
use Rattle.hk_fix.specs.Run.{Save, saves_of, asks_of, lacked}
use Rattle.hk_fix.specs.Facts.{is_in, facts_of, whole_log}
use Rattle.hk_fix.specs.Fix.{or_else}
use Rattle.hk_fix.specs.Meaning.{Meaning}
use Rattle.hk_fix.proofs.Orders.{clash, saves_of-append}
use Rattle.hk_fix.proofs.Trails.{in-append}
use Rattle.hk_reuse.specs.Over.{drop_saved}
use Rattle.hk_reuse.proofs.Over.{IsRunOf}
use Rattle.hk_replay.specs.declared.record.Step.{Step}
use Rattle.hk_replay.specs.declared.record.Step.TheVariants.{Asked, Saved}
use Rattle.hk_replay.specs.declared.record.Record.{Record}
use Rattle.hk_replay.specs.declared.record.Records.{Records}
use Rattle.hk_replay.specs.declared.look.Found.TheVariants as found
use Rattle.hk_replay.specs.declared.way.Way.{Way}
use Rattle.hk_replay.specs.Finding.{Stands, IsGroup, Finds}
use Rattle.hk_replay.specs.Going.{both, drop_saves, SameKnown, known_run, all_saves, Quiet, Gives}
use Rattle.hk_replay.specs.Keeping.{HeldView, over_shape, over_run, Phase, IsFresh, way_meaning, known_of, front_of, open_of, gave, Keeps, HasRoom}
use Rattle.hk_replay.specs.Merging.{through_facts, broken_facts}
use Rattle.hk_replay.specs.Replays.{over, over_by, record_at, steps_of, passed, kept_by, from, Passes, Breaks}
use Rattle.hk_eval.specs.Told.{ToldView, told_pages, is_listed}
use Rattle.hk_replay.specs.Turning.{Turns}
use Rattle.hk_reuse.proofs.Finishes.{saves-used}
use Rattle.hk_replay.proofs.Noting.{through-is, broken-is}
use Rattle.hk_replay.proofs.Passing.{passed-append, passes-append}
use Rattle.hk_replay.proofs.Phases.{from-saved, over-broken, over-at, over-through, from-lacks, saves-dropped, self}
use Rattle.hk_replay.proofs.Polling.{drops-append, lacks-none}

abbrev pair_of : Save → ℕ
pair_of s = s.pair

map-append : (a b : List Save) → map pair_of (a ++ b) ≡ map pair_of a ++ map pair_of b
map-append [] b = refl
map-append (s ∷ a) b = ap (λ l. s.pair ∷ l) (map-append a b)

take-whole-list : {A : Type 0} (l : List A) (i : ℕ) → length l ≤ i → take i l ≡ l
take-whole-list [] zero e = refl
take-whole-list [] (suc i) e = refl
take-whole-list (x ∷ l) zero e = absurd (omega (arith, e))
take-whole-list (x ∷ l) (suc i) e = ap (λ r. x ∷ r) (take-whole-list l i (omega (arith, e)))

here : (xs : List Save) (y : Save) (ys : List Save) → slice_get (xs ++ y ∷ ys) (length xs) ≡ Some y
here [] y ys = refl
here (x ∷ xs) y ys = here xs y ys

module _ {M C : Type 0} (meaning : M → Meaning C) (shape : C → Shape) (run : C → ℕ → Pages → Run Page) (records : Records) (w : Way M) (keeps : Keeps meaning run records w) where
  abbrev m : Meaning C
  m = meaning w.inner

  abbrev k : Pages
  k = known_of meaning w

  abbrev inner : Pages → Run Page
  inner = run m.common m.item

  -- the run of the replay under all that is known
  abbrev g : Run Page
  g = over_by (run (meaning w.inner).common (meaning w.inner).item) (record_at records (meaning w.inner).item) (known_of meaning w)

  one-more : (a : List Save) (s : Save) → a ≡ gave meaning run records w ++ s ∷ [] → w.last ≡ None → map pair_of a ≡ keeps.past ++ s.pair ∷ []
  one-more a s e none = ap (map pair_of) e ∙ (map-append (gave meaning run records w) (s ∷ []) ∙ ap (λ l. l ++ s.pair ∷ []) (keeps.pairs ∙ (ap (λ o. keeps.past ++ option_to_list o) none ∙ append-nil keeps.past)))

  -- before the break
  module _ (whole : w.is_broken ≡ false) (r : Record) (is : record_at records (meaning w.inner).item ≡ Some r) where
    abbrev steps : List Step
    steps = r.steps.items

    fresh : IsFresh (meaning w.inner)
    fresh = keeps.early whole

    told-is : known_of meaning w ≡ told_pages w.told
    told-is = fun_ext (λ q. ap (λ o. or_else o (told_pages w.told q)) (fresh.told q))

    steps-are : steps_of (record_at records (meaning w.inner).item) ≡ r.steps.items
    steps-are = ap steps_of is

    pub start-within : w.at ≤ length r.steps.items
    start-within = subst (λ l. w.at ≤ length l) steps-are keeps.within

    pub start-passes : Passes (told_pages w.told) (take w.at r.steps.items)
    start-passes = subst (λ q. Passes q (take w.at r.steps.items)) told-is (subst (λ o. Phase k o w.at false) is (subst (λ b. Phase k (record_at records (meaning w.inner).item) w.at b) whole keeps.phase))

    -- the saves given are those of the steps
    none-inner : (ss : List Save) → take (meaning w.inner).given ss ≡ []
    none-inner ss = ap (λ n. take n ss) fresh.given

    gave-is : gave meaning run records w ≡ saves_of (passed (take w.at r.steps.items))
    gave-is =
        ap (λ l. saves_of (passed (take w.at l)) ++ drop_saves (is_in (kept_by [] (take w.at l))) (take m.given (all_saves run (told_pages w.told) m))) steps-are
        ∙ (ap (λ l. saves_of (passed (take w.at r.steps.items)) ++ drop_saves (is_in (kept_by [] (take w.at r.steps.items))) l) (none-inner (all_saves run (told_pages w.told) m)) ∙ append-nil (saves_of (passed (take w.at r.steps.items))))

    -- another way with the same inner compiler and the steps up to another place
    gave-then : (told : ToldView) (awaits : List ℕ) (more : Vec PairNo Global) (given : ℕ) (last : Option ℕ) (at : ℕ) (kept : BTreeSet ℕ) (b e : Bool) → gave meaning run records (record { inner = w.inner; told = told; awaits = awaits; used = more; given = given; last = last; at = at; kept = kept; is_broken = b; is_ended = e }) ≡ saves_of (passed (take at r.steps.items))
    gave-then told awaits more given last at kept b e =
        ap (λ l. saves_of (passed (take at l)) ++ drop_saves (is_in (kept_by [] (take at l))) (take m.given (all_saves run (told_pages told) m))) steps-are
        ∙ (ap (λ l. saves_of (passed (take at r.steps.items)) ++ drop_saves (is_in (kept_by [] (take at r.steps.items))) l) (none-inner (all_saves run (told_pages told) m)) ∙ append-nil (saves_of (passed (take at r.steps.items))))

    g-is : (q : Run Page) → over_by (run (meaning w.inner).common (meaning w.inner).item) (Some r) (known_of meaning w) ≡ q → g ≡ q
    g-is q e = ap (λ o. over_by inner o k) is ∙ e

    few-zero : (n : ℕ) → (meaning w.inner).given ≤ n
    few-zero n = omega (arith, fresh.given)

    -- a step saves a page
    module _ (at p : ℕ) (x : Page) (finds : Finds (told_pages w.told) r.steps.items at (found.Saves p x)) (quiet : saves_of (passed (take at r.steps.items)) ≡ saves_of (passed (take w.at r.steps.items))) (none : w.last ≡ None) where
      abbrev s : Save
      s = record { pair = p; page = x }

      abbrev saved_way : Way M
      saved_way = record { inner = w.inner; told = w.told; awaits = w.awaits; used = w.used; given = w.given + 1; last = Some p; at = at + 1; kept = w.kept; is_broken = w.is_broken; is_ended = w.is_ended }

      passes : Passes k (take at r.steps.items)
      passes = subst (λ q. Passes q (take at r.steps.items)) (sym told-is) finds.0

      get-it : slice_get (saves_of g.log) w.given ≡ Some s
      get-it =
          ap (λ (q : Run Page). slice_get (saves_of q.log) w.given) (g-is _ (over-at inner r at (Saved p x) k finds.1 passes))
          ∙ (ap (λ l. slice_get l w.given) (saves_of-append (passed (take at steps)) (from inner r.page r.patterns.items (kept_by [] (take at steps)) (Saved p x ∷ drop (at + 1) steps) k).log)
          ∙ (ap (λ (q : Run Page). slice_get (saves_of (passed (take at steps)) ++ saves_of q.log) w.given) (from-saved inner r.page r.patterns.items (kept_by [] (take at steps)) p x (drop (at + 1) steps) k)
          ∙ (ap (slice_get (saves_of (passed (take at steps)) ++ s ∷ saves_of (from inner r.page r.patterns.items (p ∷ kept_by [] (take at steps)) (drop (at + 1) steps) k).log)) (keeps.count ∙ ap length (gave-is ∙ sym quiet))
          ∙ here (saves_of (passed (take at steps))) s (saves_of (from inner r.page r.patterns.items (p ∷ kept_by [] (take at steps)) (drop (at + 1) steps) k).log))))

      pub saved-turns : Turns meaning shape run records w (Some (polled.Saved p x)) saved_way
      saved-turns = (get-it, refl)

      gave-more : gave meaning run records saved_way ≡ gave meaning run records w ++ s ∷ []
      gave-more =
          gave-then w.told w.awaits w.used (w.given + 1) (Some p) (at + 1) w.kept w.is_broken w.is_ended
          ∙ (ap (λ l. saves_of (passed l)) finds.1.next
          ∙ (ap saves_of (passed-append (take at steps) (Saved p x ∷ []))
          ∙ (saves_of-append (passed (take at steps)) (note (saved p x) ∷ [])
          ∙ ap (λ l. l ++ s ∷ []) (quiet ∙ sym gave-is))))

      pub saved-keeps : Keeps meaning run records saved_way
      saved-keeps =
          record {
            phase = subst (λ b. Phase k (record_at records m.item) (at + 1) b) (sym whole) (subst (λ o. Phase k o (at + 1) false) (sym is) (subst (Passes k) (sym finds.1.next) (passes-append k (take at steps) (Saved p x ∷ []) passes tt)));
            within = subst (λ l. at + 1 ≤ length l) (sym steps-are) (omega (arith, finds.1.within));
            early = keeps.early;
            own = keeps.own;
            kept = λ b. clash w.is_broken whole b;
            few = keeps.few;
            going = keeps.going;
            count = omega (arith, keeps.count, ap length gave-more, length-append (gave meaning run records w) (s ∷ []));
            past = keeps.past;
            pairs = one-more (gave meaning run records saved_way) s gave-more none;
            bound = keeps.bound;
            used = keeps.used;
          }

    -- a group lacks pages
    module _ (law : IsRunOf (shape m.common) m.item (over records (run m.common) m.item)) (at : ℕ) (awaits : Vec PairNo Global) (finds : Finds (told_pages w.told) r.steps.items at (found.Asks awaits)) (quiet : saves_of (passed (take at r.steps.items)) ≡ saves_of (passed (take w.at r.steps.items))) (none : w.last ≡ None) where
      passes-asks : Passes k (take at r.steps.items)
      passes-asks = subst (λ q. Passes q (take at r.steps.items)) (sym told-is) finds.0

      waits-at : (step : Step) → Stands r.steps.items at step → IsGroup (told_pages w.told) awaits.items step → (g.end ≡ waits awaits.items) × (saves_of g.log ≡ saves_of (passed (take at r.steps.items)))
      waits-at (Saved p x) st h = absurd h
      waits-at (Asked ps ds) st h =
          let lack : awaits.items ≡ lacking k ps.items = h ∙ ap (λ q. lacking q ps.items) (sym told-is) in
          let lt : 0 < length (lacking k ps.items) = omega (arith, finds.2, ap length lack) in
          let all = g-is _ (over-at inner r at (Asked ps ds) k st passes-asks ∙ ap (onward (passed (take at steps))) (from-lacks inner r.page r.patterns.items (kept_by [] (take at steps)) ps ds tt (drop (at + 1) steps) k lt)) in (
            ap (λ (q : Run Page). q.end) all ∙ ap waits (sym lack),
            ap (λ (q : Run Page). saves_of q.log) all ∙ (saves_of-append (passed (take at steps)) (asked ps.items ∷ []) ∙ append-nil (saves_of (passed (take at steps)))),
          )

      waits-here : (g.end ≡ waits awaits.items) × (saves_of g.log ≡ saves_of (passed (take at r.steps.items)))
      waits-here = waits-at finds.1.0 finds.1.1 finds.1.2

      pub asks-untold : AllByRecursion (λ p. told_pages w.told p ≡ None) awaits.items
      asks-untold = subst (λ q. AllByRecursion (λ p. q p ≡ None) awaits.items) told-is (subst (AllByRecursion (λ p. k p ≡ None)) (law.waiting k ∙ ap lacked waits-here.0) (lacks-none k (asks_of g.log)))

      pub asks-distinct : IsDistinct nat_eq awaits.items
      asks-distinct = law.once k awaits.items waits-here.0

      module _ (told : ToldView) (more : Vec PairNo Global) (pages : (q : ℕ) → told_pages told q ≡ told_pages w.told q) (same : more.items ≡ w.used.items) where
        abbrev asking_way : Way M
        asking_way = record { inner = w.inner; told = told; awaits = awaits.items; used = more; given = w.given; last = w.last; at = at; kept = w.kept; is_broken = w.is_broken; is_ended = w.is_ended }

        known-same : known_of meaning asking_way ≡ known_of meaning w
        known-same = fun_ext (λ q. ap (or_else (m.told q)) (pages q))

        pub asks-turns : Turns meaning shape run records w (Some polled.Ask) asking_way
        asks-turns = (
          omega (arith, keeps.count, ap length (waits-here.1 ∙ (quiet ∙ sym gave-is))),
          waits-here.0 ∙ ap waits (sym (ap (λ b. cond (b && true) m.awaits awaits.items) whole)),
          λ i. record { common = record { inner = m.common; records = records }; item = m.item; told = known-same i; given = w.given; awaits = cond (w.is_broken && true) m.awaits awaits.items; has_ended = w.is_ended; just_saved = is_some (none i); is_spent = false },
        )

        gave-asking : gave meaning run records asking_way ≡ gave meaning run records w
        gave-asking = gave-then told awaits.items more w.given w.last at w.kept w.is_broken w.is_ended ∙ (quiet ∙ sym gave-is)

        pub asks-keeps : at ≤ length r.steps.items → Keeps meaning run records asking_way
        asks-keeps le =
            record {
              phase = subst (λ q. Phase q (record_at records m.item) at w.is_broken) (sym known-same) (subst (λ b. Phase k (record_at records m.item) at b) (sym whole) (subst (λ o. Phase k o at false) (sym is) passes-asks));
              within = subst (λ l. at ≤ length l) (sym steps-are) le;
              early = keeps.early;
              own = λ b. clash w.is_broken whole b;
              kept = λ b. clash w.is_broken whole b;
              few = few-zero (length (all_saves run (told_pages told) m));
              going = keeps.going;
              count = omega (arith, keeps.count, ap length gave-asking);
              past = keeps.past;
              pairs = ap (map pair_of) gave-asking ∙ keeps.pairs;
              bound = omega (arith, keeps.bound, ap length same);
              used = λ q. ap (λ l. is_in l q) same ∙ (keeps.used q ∙ ap (λ o. is_some o || is_in keeps.past q) (ap (λ f. f q) (sym known-same)));
            }

        open-is : open_of meaning asking_way ≡ awaits.items
        open-is = ap (λ b. cond b m.awaits awaits.items) whole

        pub asks-room : AllByRecursion (λ p. is_listed told p ≡ true) awaits.items → length w.used.items + length awaits.items ≤ vec_capacity more → HasRoom meaning asking_way
        asks-room listed room =
            record {
              listed = λ b. listed;
              untold = subst (λ l. AllByRecursion (λ p. known_of meaning asking_way p ≡ None) l) (sym open-is) (subst (λ q. AllByRecursion (λ p. q p ≡ None) awaits.items) (sym known-same) (subst (λ q. AllByRecursion (λ p. q p ≡ None) awaits.items) (sym told-is) asks-untold));
              distinct = subst (IsDistinct nat_eq) (sym open-is) (law.once k awaits.items waits-here.0);
              room = λ some. omega (arith, room, ap length same, ap length open-is);
            }

    -- through
    module _ (law : IsRunOf (shape m.common) m.item (over records (run m.common) m.item)) (last : r.last ≡ final_of (shape m.common) m.item) (at : ℕ) (finds : Finds (told_pages w.told) r.steps.items at found.Through) (quiet : saves_of (passed (take at r.steps.items)) ≡ saves_of (passed (take w.at r.steps.items))) (none : w.last ≡ None) where
      abbrev through_way : Way M
      through_way = record { inner = w.inner; told = w.told; awaits = w.awaits; used = w.used; given = w.given; last = w.last; at = at; kept = w.kept; is_broken = w.is_broken; is_ended = true }

      all-through : g ≡ (let q : Run Page = record { log = passed r.steps.items ++ map (λ n. note (used n)) r.patterns.items; end = done r.page } in q)
      all-through = g-is _ (over-through inner r k (subst (λ q. Passes q r.steps.items) (sym told-is) finds.0))

      take-end : take at r.steps.items ≡ r.steps.items
      take-end = take-whole-list r.steps.items at (omega (arith, finds.1))

      gave-through : gave meaning run records through_way ≡ gave meaning run records w
      gave-through = gave-then w.told w.awaits w.used w.given w.last at w.kept w.is_broken true ∙ (quiet ∙ sym gave-is)

      saves-through : saves_of g.log ≡ gave meaning run records w
      saves-through = ap (λ (q : Run Page). saves_of q.log) all-through ∙ (saves_of-append (passed steps) (map (λ n. note (used n)) r.patterns.items) ∙ (ap (λ l. saves_of (passed steps) ++ l) (saves-used r.patterns.items) ∙ (append-nil (saves_of (passed steps)) ∙ (ap (λ l. saves_of (passed l)) (sym take-end) ∙ (quiet ∙ sym gave-is)))))

      pub through-turns : (facts : FactsView) → facts ≡ through_facts r → Turns meaning shape run records w (Some (polled.Done r.page facts)) through_way
      through-turns facts e = (
        omega (arith, keeps.count, ap length saves-through),
        ap (λ (q : Run Page). q.end) all-through,
        e ∙ through-is (shape m.common) m.item (over records (run m.common) m.item) law k r last all-through,
        λ i. record { common = record { inner = m.common; records = records }; item = m.item; told = k; given = w.given; awaits = cond (w.is_broken && true) m.awaits w.awaits; has_ended = true; just_saved = is_some (none i); is_spent = false },
      )

      pub through-keeps : Keeps meaning run records through_way
      through-keeps =
          record {
            phase = subst (λ b. Phase k (record_at records m.item) at b) (sym whole) (subst (λ o. Phase k o at false) (sym is) (subst (Passes k) (sym take-end) (subst (λ q. Passes q r.steps.items) (sym told-is) finds.0)));
            within = subst (λ l. at ≤ length l) (sym steps-are) (omega (arith, finds.1));
            early = keeps.early;
            own = keeps.own;
            kept = λ b. clash w.is_broken whole b;
            few = keeps.few;
            going = λ e. cc;
            count = omega (arith, keeps.count, ap length gave-through);
            past = keeps.past;
            pairs = ap (map pair_of) gave-through ∙ keeps.pairs;
            bound = keeps.bound;
            used = keeps.used;
          }

    -- it breaks
    module _ (at : ℕ) (finds : Finds (told_pages w.told) r.steps.items at found.Breaks) (quiet : saves_of (passed (take at r.steps.items)) ≡ saves_of (passed (take w.at r.steps.items))) (kept2 : BTreeSet ℕ) (kept_is : contains nat_cmp kept2 ≡ is_in (kept_by [] (take (at + 1) r.steps.items))) where
      abbrev broken_way : Way M
      broken_way = record { inner = w.inner; told = w.told; awaits = w.awaits; used = w.used; given = w.given; last = w.last; at = at + 1; kept = kept2; is_broken = true; is_ended = w.is_ended }

      gave-broken : gave meaning run records broken_way ≡ gave meaning run records w
      gave-broken = gave-then w.told w.awaits w.used w.given w.last (at + 1) kept2 true w.is_ended ∙ (finds.2 ∙ (quiet ∙ sym gave-is))

      pub breaks-keeps : w.awaits ≡ [] → Keeps meaning run records broken_way
      breaks-keeps own =
          record {
            phase = subst (λ o. Phase k o (at + 1) true) (sym is) (subst (λ q. Breaks q (take (at + 1) r.steps.items)) (sym told-is) finds.1);
            within = subst (λ l. at + 1 ≤ length l) (sym steps-are) (omega (arith, finds.0));
            early = λ e. cc;
            own = λ e. own;
            kept = λ e. kept_is ∙ ap (λ l. is_in (kept_by [] (take (at + 1) l))) (sym steps-are);
            few = keeps.few;
            going = keeps.going;
            count = omega (arith, keeps.count, ap length gave-broken);
            past = keeps.past;
            pairs = ap (map pair_of) gave-broken ∙ keeps.pairs;
            bound = keeps.bound;
            used = keeps.used;
          }

      pub breaks-turns : w.awaits ≡ [] → Turns meaning shape run records w None broken_way
      breaks-turns own = (
        (let open_same : (meaning w.inner).awaits ≡ cond (w.is_broken && true) m.awaits w.awaits = fresh.closed ∙ sym (ap (λ b. cond (b && true) m.awaits w.awaits) whole ∙ own) in
            λ i. record { common = record { inner = m.common; records = records }; item = m.item; told = k; given = w.given; awaits = open_same i; has_ended = w.is_ended; just_saved = is_some w.last; is_spent = false }),
        refl,
        refl,
        refl,
        refl,
      )

-- nothing is open
pub no-room : {M C : Type 0} (meaning : M → Meaning C) (w : Way M) → open_of meaning w ≡ [] → (w.is_broken ≡ false → w.awaits ≡ []) → HasRoom meaning w
unfolding IsDistinct
no-room meaning w e own =
    record {
      listed = λ b. subst (AllByRecursion (λ p. is_listed w.told p ≡ true)) (sym (own b)) tt;
      untold = subst (AllByRecursion (λ p. known_of meaning w p ≡ None)) (sym e) tt;
      distinct = subst (IsDistinct nat_eq) (sym e) tt;
      room = λ some. let z : length (open_of meaning w) ≡ 0 = ap length e in absurd (omega arith);
    }

-- after the break
module _ {M C : Type 0} (meaning : M → Meaning C) (shape : C → Shape) (run : C → ℕ → Pages → Run Page) (records : Records) (w : Way M) (keeps : Keeps meaning run records w) (broken : w.is_broken ≡ true) (none : w.last ≡ None) (closed : (meaning w.inner).awaits ≡ []) (inner2 : M) (known : SameKnown (told_pages w.told) (meaning w.inner) (meaning inner2)) where
  abbrev m2 : Meaning C
  m2 = meaning w.inner

  abbrev n : Meaning C
  n = meaning inner2

  abbrev k2 : Pages
  k2 = known_of meaning w

  abbrev R : Run Page
  R = known_run run (told_pages w.told) (meaning w.inner)

  abbrev F : List Save
  F = saves_of (passed (front_of meaning records w))

  abbrev held : List ℕ
  held = kept_by [] (front_of meaning records w)

  abbrev G : Run Page
  G = over records (run m2.common) m2.item (known_of meaning w)

  g-broken : G ≡ (let r : Run Page = record { log = passed (front_of meaning records w) ++ drop_saved (kept_by [] (front_of meaning records w)) (known_run run (told_pages w.told) (meaning w.inner)).log; end = (known_run run (told_pages w.told) (meaning w.inner)).end } in r)
  g-broken = over-broken (run m2.common m2.item) (record_at records m2.item) w.at k2 k2 (self k2) (subst (λ b. Phase k2 (record_at records m2.item) w.at b) broken keeps.phase)

  saves-g : saves_of G.log ≡ F ++ drop_saves (is_in held) (saves_of R.log)
  saves-g = ap (λ (r : Run Page). saves_of r.log) g-broken ∙ (saves_of-append (passed (front_of meaning records w)) (drop_saved held R.log) ∙ ap (λ l. F ++ l) (saves-dropped held R.log))

  known-2 : both n.told (told_pages w.told) ≡ known_of meaning w
  known-2 = fun_ext known.known

  abbrev way2 : Vec PairNo Global → ℕ → Option ℕ → Bool → Way M
  way2 more given last e = record { inner = inner2; told = w.told; awaits = w.awaits; used = more; given = given; last = last; at = w.at; kept = w.kept; is_broken = w.is_broken; is_ended = e }

  gave-2 : (more : Vec PairNo Global) (given : ℕ) (last : Option ℕ) (e : Bool) → gave meaning run records (way2 more given last e) ≡ F ++ drop_saves (is_in held) (take n.given (saves_of R.log))
  gave-2 more given last e = λ i. saves_of (passed (take w.at (steps_of (record_at records (known.item i))))) ++ drop_saves (is_in (kept_by [] (take w.at (steps_of (record_at records (known.item i)))))) (take n.given (saves_of (run (known.common i) (known.item i) (known-2 i)).log))

  few-2 : n.given ≤ length (saves_of R.log) → n.given ≤ length (all_saves run (told_pages w.told) n)
  few-2 le = omega (arith, le, (let e : length (all_saves run (told_pages w.told) n) ≡ length (saves_of R.log) = λ i. length (saves_of (run (known.common i) (known.item i) (known-2 i)).log) in e))

  phase-2 : Phase (both n.told (told_pages w.told)) (record_at records n.item) w.at w.is_broken
  phase-2 = subst (λ q. Phase q (record_at records n.item) w.at w.is_broken) (sym known-2) (subst (λ j. Phase k2 (record_at records j) w.at w.is_broken) (sym known.item) keeps.phase)

  within-2 : w.at ≤ length (steps_of (record_at records n.item))
  within-2 = subst (λ j. w.at ≤ length (steps_of (record_at records j))) (sym known.item) keeps.within

  kept-2 : w.is_broken ≡ true → contains nat_cmp w.kept ≡ is_in (kept_by [] (take w.at (steps_of (record_at records n.item))))
  kept-2 b = keeps.kept b ∙ ap (λ j. is_in (kept_by [] (take w.at (steps_of (record_at records j))))) (sym known.item)

  used-2 : (more : Vec PairNo Global) → more.items ≡ w.used.items → (q : ℕ) → is_in more.items q ≡ (is_some (both n.told (told_pages w.told) q) || is_in keeps.past q)
  used-2 more same q = ap (λ l. is_in l q) same ∙ (keeps.used q ∙ ap (λ o. is_some o || is_in keeps.past q) (sym (known.known q)))

  open-2 : n.awaits ≡ [] → cond (w.is_broken && true) n.awaits w.awaits ≡ cond (w.is_broken && true) m2.awaits w.awaits
  open-2 e = ap (λ l. cond (w.is_broken && true) l w.awaits) (e ∙ sym closed)

  -- a page is saved
  module _ (s : Save) (gives : Gives run (told_pages w.told) (is_in (kept_by [] (front_of meaning records w))) (meaning w.inner) (meaning inner2) s) where
    abbrev D : List Save
    D = drop_saves (is_in held) (take m2.given (saves_of R.log))

    abbrev E : List Save
    E = drop_saves (is_in held) (drop n.given (saves_of R.log))

    saves-split : saves_of G.log ≡ (F ++ D) ++ s ∷ E
    saves-split =
        saves-g
        ∙ (ap (λ l. F ++ drop_saves (is_in held) l) (sym (take-append-drop n.given (saves_of R.log)))
        ∙ (ap (λ l. F ++ l) (drops-append (is_in held) (take n.given (saves_of R.log)) (drop n.given (saves_of R.log)) ∙ (ap (λ l. l ++ E) gives.dropped ∙ append_assoc D (s ∷ []) E))
        ∙ sym (append_assoc F D (s ∷ E))))

    get-2 : slice_get (saves_of G.log) w.given ≡ Some s
    get-2 = ap (λ l. slice_get l w.given) saves-split ∙ (ap (slice_get ((F ++ D) ++ s ∷ E)) keeps.count ∙ here (F ++ D) s E)

    gave-saved : gave meaning run records (way2 w.used (w.given + 1) (Some s.pair) w.is_ended) ≡ gave meaning run records w ++ s ∷ []
    gave-saved = gave-2 w.used (w.given + 1) (Some s.pair) w.is_ended ∙ (ap (λ l. F ++ l) gives.dropped ∙ sym (append_assoc F D (s ∷ [])))

    pub saved-goes-2 : (p : ℕ) (x : Page) → s ≡ (let t : Save = record { pair = p; page = x } in t) → Goes (over_shape shape) (over_run run) (way_meaning meaning records w) (polled.Saved p x) (way_meaning meaning records (way2 w.used (w.given + 1) (Some p) w.is_ended))
    saved-goes-2 p x e = (
      get-2 ∙ ap Some e,
      λ i. record { common = record { inner = known.common i; records = records }; item = known.item i; told = known-2 i; given = w.given + 1; awaits = open-2 gives.closed i; has_ended = w.is_ended; just_saved = true; is_spent = false },
    )

    pub saved-keeps-2 : w.is_ended ≡ false → Keeps meaning run records (way2 w.used (w.given + 1) (Some s.pair) w.is_ended)
    saved-keeps-2 going =
        record {
          phase = phase-2;
          within = within-2;
          early = λ b. clash w.is_broken b broken;
          own = keeps.own;
          kept = kept-2;
          few = few-2 gives.few;
          going = λ e. gives.going;
          count = omega (arith, keeps.count, ap length gave-saved, length-append (gave meaning run records w) (s ∷ []));
          past = keeps.past;
          pairs = one-more meaning shape run records w keeps (gave meaning run records (way2 w.used (w.given + 1) (Some s.pair) w.is_ended)) s gave-saved none;
          bound = keeps.bound;
          used = used-2 w.used refl;
        }

  -- all pages were given
  module _ (quiet : Quiet run (told_pages w.told) (is_in (kept_by [] (front_of meaning records w))) (meaning w.inner) (meaning inner2)) where
    all-taken : drop_saves (is_in held) (saves_of R.log) ≡ drop_saves (is_in held) (take m2.given (saves_of R.log))
    all-taken = ap (drop_saves (is_in held)) (sym (take-whole-list (saves_of R.log) n.given quiet.all)) ∙ quiet.dropped

    saves-all : saves_of G.log ≡ gave meaning run records w
    saves-all = saves-g ∙ ap (λ l. F ++ l) all-taken

    le-all : length (saves_of G.log) ≤ w.given
    le-all = omega (arith, keeps.count, ap length saves-all)

    gave-quiet : (more : Vec PairNo Global) (e : Bool) → gave meaning run records (way2 more w.given w.last e) ≡ gave meaning run records w
    gave-quiet more e = gave-2 more w.given w.last e ∙ ap (λ l. F ++ l) quiet.dropped

    quiet-keeps : (more : Vec PairNo Global) (e : Bool) → more.items ≡ w.used.items → (e ≡ false → n.has_ended ≡ false) → Keeps meaning run records (way2 more w.given w.last e)
    quiet-keeps more e same going =
        record {
          phase = phase-2;
          within = within-2;
          early = λ b. clash w.is_broken b broken;
          own = keeps.own;
          kept = kept-2;
          few = few-2 quiet.few;
          going = going;
          count = omega (arith, keeps.count, ap length (gave-quiet more e));
          past = keeps.past;
          pairs = ap (map pair_of) (gave-quiet more e) ∙ keeps.pairs;
          bound = omega (arith, keeps.bound, ap length same);
          used = used-2 more same;
        }

    pub asks-goes-2 : (more : Vec PairNo Global) → (known_run run (told_pages w.told) (meaning w.inner)).end ≡ waits n.awaits → Goes (over_shape shape) (over_run run) (way_meaning meaning records w) polled.Ask (way_meaning meaning records (way2 more w.given w.last w.is_ended))
    asks-goes-2 more ends = (
      le-all,
      ap (λ (r : Run Page). r.end) g-broken ∙ (ends ∙ ap waits (sym (ap (λ b. cond (b && true) n.awaits w.awaits) broken))),
      λ i. record { common = record { inner = known.common i; records = records }; item = known.item i; told = known-2 i; given = w.given; awaits = cond (w.is_broken && true) n.awaits w.awaits; has_ended = w.is_ended; just_saved = is_some (none i); is_spent = false },
    )

    pub asks-keeps-2 : (more : Vec PairNo Global) → more.items ≡ w.used.items → n.has_ended ≡ false → Keeps meaning run records (way2 more w.given w.last w.is_ended)
    asks-keeps-2 more same going = quiet-keeps more w.is_ended same (λ e. going)

    pub asks-room-2 : (law : IsRunOf (shape m2.common) m2.item (over records (run m2.common) m2.item)) (more : Vec PairNo Global) → (known_run run (told_pages w.told) (meaning w.inner)).end ≡ waits n.awaits → more.items ≡ w.used.items → length w.used.items + length n.awaits ≤ vec_capacity more → HasRoom meaning (way2 more w.given w.last w.is_ended)
    asks-room-2 law more ends same room =
        let ends2 : G.end ≡ waits n.awaits = ap (λ (r : Run Page). r.end) g-broken ∙ ends in
        let open_is : cond w.is_broken n.awaits w.awaits ≡ n.awaits = ap (λ b. cond b n.awaits w.awaits) broken in
        record {
          listed = λ b. clash w.is_broken b broken;
          untold = subst (λ l. AllByRecursion (λ p. both n.told (told_pages w.told) p ≡ None) l) (sym open_is) (subst (λ q. AllByRecursion (λ p. q p ≡ None) n.awaits) (sym known-2) (subst (AllByRecursion (λ p. k2 p ≡ None)) (law.waiting k2 ∙ ap lacked ends2) (lacks-none k2 (asks_of G.log))));
          distinct = subst (IsDistinct nat_eq) (sym open_is) (law.once k2 n.awaits ends2);
          room = λ some. omega (arith, room, ap length same, ap length open_is);
        }

    ended-meaning : n.awaits ≡ [] → way_meaning meaning records (way2 w.used w.given w.last true) ≡ (let q : Meaning (HeldView C) = record (way_meaning meaning records w) { has_ended = true; just_saved = false } in q)
    ended-meaning e = λ i. record { common = record { inner = known.common i; records = records }; item = known.item i; told = known-2 i; given = w.given; awaits = open-2 e i; has_ended = true; just_saved = is_some (none i); is_spent = false }

    pub done-goes-2 : (law : IsRunOf (shape m2.common) m2.item (over records (run m2.common) m2.item)) (inner_law : IsRunOf (shape m2.common) m2.item (run m2.common m2.item)) (x : Page) (f facts : FactsView) → (known_run run (told_pages w.told) (meaning w.inner)).end ≡ done x → f ≡ facts_of (whole_log (shape m2.common) m2.item (known_run run (told_pages w.told) (meaning w.inner))) → facts ≡ broken_facts (is_in (kept_by [] (front_of meaning records w))) (front_of meaning records w) f → n.awaits ≡ [] → Goes (over_shape shape) (over_run run) (way_meaning meaning records w) (polled.Done x facts) (way_meaning meaning records (way2 w.used w.given w.last true))
    done-goes-2 law inner_law x f facts ends f_is facts_is e = (
      le-all,
      ap (λ (r : Run Page). r.end) g-broken ∙ ends,
      facts_is ∙ broken-is (shape m2.common) m2.item (over records (run m2.common) m2.item) (run m2.common m2.item) law inner_law k2 (front_of meaning records w) g-broken x f ends f_is,
      ended-meaning e,
    )

    pub failed-goes-2 : (x : Fault) → (known_run run (told_pages w.told) (meaning w.inner)).end ≡ fault x → n.awaits ≡ [] → Goes (over_shape shape) (over_run run) (way_meaning meaning records w) (polled.Failed x) (way_meaning meaning records (way2 w.used w.given w.last true))
    failed-goes-2 x ends e = (le-all, ap (λ (r : Run Page). r.end) g-broken ∙ ends, ended-meaning e)

    pub ended-keeps-2 : Keeps meaning run records (way2 w.used w.given w.last true)
    ended-keeps-2 = quiet-keeps w.used true refl (λ e. cc)

-- what the last poll saved is used
module _ {M C : Type 0} (meaning : M → Meaning C) (shape : C → Shape) (run : C → ℕ → Pages → Run Page) (records : Records) (w : Way M) (keeps : Keeps meaning run records w) (last : Option ℕ) (more : Vec PairNo Global) (none : last ≡ None) (put : more.items ≡ w.used.items ++ option_to_list w.last) where
  abbrev settled_way : Way M
  settled_way = record { inner = w.inner; told = w.told; awaits = w.awaits; used = more; given = w.given; last = last; at = w.at; kept = w.kept; is_broken = w.is_broken; is_ended = w.is_ended }

  or-three : (a b c : Bool) → ((a || b) || c) ≡ (a || (b || c))
  or-three true b c = refl
  or-three false b c = refl

  pub settled-keeps : Keeps meaning run records settled_way
  settled-keeps =
      record {
        phase = keeps.phase;
        within = keeps.within;
        early = keeps.early;
        own = keeps.own;
        kept = keeps.kept;
        few = keeps.few;
        going = keeps.going;
        count = keeps.count;
        past = keeps.past ++ option_to_list w.last;
        pairs = keeps.pairs ∙ (sym (append-nil (keeps.past ++ option_to_list w.last)) ∙ ap (λ o. (keeps.past ++ option_to_list w.last) ++ option_to_list o) (sym none));
        bound = omega (arith, keeps.bound, ap length put, length-append w.used.items (option_to_list w.last), length-append keeps.past (option_to_list w.last));
        used = λ q. ap (λ l. is_in l q) put ∙ (in-append w.used.items (option_to_list w.last) q ∙ (ap (λ b. b || is_in (option_to_list w.last) q) (keeps.used q) ∙ (or-three (is_some (known_of meaning w q)) (is_in keeps.past q) (is_in (option_to_list w.last) q) ∙ ap (λ b. is_some (known_of meaning w q) || b) (sym (in-append keeps.past (option_to_list w.last) q)))));
      }
