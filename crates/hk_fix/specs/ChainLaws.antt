-- The runs of tasks that save their items' pairs keep the laws of a family.
use Rattle.std.proofs.Common.{◌≡◌, ◌≢◌, refl, ap, ◌∙◌, subst, arith, ℕ, ◌<◌, List, [], ◌∷◌, ◌++◌, map, Option, Some, None, Bool, true, false, cond, ◌||◌, is_some, nat_eq, eqb-true}
use Rattle.std.specs.List.{AllByRecursion, list_any}
use Rattle.std.proofs.lemmas.List.Elements.{All-from_recursion, recursion_from_All}
use Rattle.hk_chain.specs.declared.page.Page.{Page}
use Rattle.hk_chain.specs.Layout.{Shape, pairs, item_of, final_of}
use Rattle.hk_chain.specs.Snapshots.{Ascending}
use Rattle.hk_fix.specs.Pages.{Pages, Begins, lacking, all_pages}
use Rattle.hk_fix.specs.Task.{Task, gives, fails, asks, notes, used, saved, Mark, done, run, answered}
use Rattle.hk_fix.specs.Run.{Save, asks_of, saves_of, page_in, snapshot, AllAbove, Rising, IsRun}
use Rattle.hk_fix.specs.Chains.{NothingLeft, NextIs, Saves, AreChains}
use Rattle.hk_fix.specs.TaskLaws.{run_waits, run_some, run_once, run_still, run_same, run_grows, run_within}

-- the pairs of the saves of a log
abbrev pub saved_pairs : List Mark → List ℕ
saved_pairs log = map (λ s. s.pair) (saves_of log)

nothing-left : (ps : List ℕ) → NothingLeft ps → [] ≡ ps
nothing-left [] h = refl
nothing-left (p ∷ ps) h = absurd h

next-begins : (p : ℕ) (ps got : List ℕ) (P : List ℕ → Type 0) → ((qs : List ℕ) → P qs → Begins got qs) → NextIs p ps P → Begins (p ∷ got) ps
next-begins p [] got P f h = absurd h
next-begins p (q ∷ qs) got P f h = let b : Begins got qs = f qs h.1 in (b.0, rw h.0 (ap (λ l. q ∷ l) b.1))

next-same : (p : ℕ) (ps got : List ℕ) (P : List ℕ → Type 0) → ((qs : List ℕ) → P qs → got ≡ qs) → NextIs p ps P → p ∷ got ≡ ps
next-same p [] got P f h = absurd h
next-same p (q ∷ qs) got P f h = rw (h.0, f qs h.1) refl

module _ {A : Type 0} where
  saves-at : (ps qs : List ℕ) (f : List Page → Task A) (k : Pages) → ((xs : List Page) → Begins (saved_pairs (run (f xs) k).log) ps) → (o : Option (List Page)) → Begins (saved_pairs (answered qs (lacking k qs) (λ xs. run (f xs) k) o).log) ps
  saves-at ps qs f k rec None = (ps, refl)
  saves-at ps qs f k rec (Some xs) = rec xs

  -- the pairs that a run saves are the first of its task's
  pub run_saves : (t : Task A) (ps : List ℕ) → Saves ps t → (k : Pages) → Begins (saved_pairs (run t k).log) ps
  run_saves (gives x) ps h k = (ps, refl)
  run_saves (fails e) ps h k = (ps, refl)
  run_saves (asks qs f) ps h k = saves-at ps qs f k (λ xs. run_saves (f xs) ps (h xs) k) (all_pages k qs)
  run_saves (notes (used n) t) ps h k = run_saves t ps h k
  run_saves (notes (saved p x) t) ps h k = next-begins p ps (saved_pairs (run t k).log) (λ qs. Saves qs t) (λ qs w. run_saves t qs w k) h

  all-at : (ps qs : List ℕ) (f : List Page → Task A) (k : Pages) (x : A) → ((xs : List Page) → (run (f xs) k).end ≡ done x → saved_pairs (run (f xs) k).log ≡ ps) → (o : Option (List Page)) → (answered qs (lacking k qs) (λ xs. run (f xs) k) o).end ≡ done x → saved_pairs (answered qs (lacking k qs) (λ xs. run (f xs) k) o).log ≡ ps
  all-at ps qs f k x rec None e = cc
  all-at ps qs f k x rec (Some xs) e = rec xs e

  -- and a run that goes through saves all of them
  pub run_saves_all : (t : Task A) (ps : List ℕ) → Saves ps t → (k : Pages) (x : A) → (run t k).end ≡ done x → saved_pairs (run t k).log ≡ ps
  run_saves_all (gives y) ps h k x e = nothing-left ps h
  run_saves_all (fails f) ps h k x e = cc
  run_saves_all (asks qs f) ps h k x e = all-at ps qs f k x (λ xs w. run_saves_all (f xs) ps (h xs) k x w) (all_pages k qs) e
  run_saves_all (notes (used n) t) ps h k x e = run_saves_all t ps h k x e
  run_saves_all (notes (saved p y) t) ps h k x e = next-same p ps (saved_pairs (run t k).log) (λ qs. Saves qs t) (λ qs w. run_saves_all t qs w k x e) h

front-all : (P : ℕ → Type 0) (xs ys : List ℕ) → AllByRecursion P (xs ++ ys) → AllByRecursion P xs
front-all P [] ys h = tt
front-all P (x ∷ xs) ys h = (h.0, front-all P xs ys h.1)

front-rises : (xs ys : List ℕ) → Ascending (xs ++ ys) → Ascending xs
front-rises [] ys h = tt
front-rises (x ∷ xs) ys h = (front-all (λ q. x < q) xs ys h.0, front-rises xs ys h.1)

page-holds : (P : ℕ → Type 0) (ss : List Save) (p : ℕ) (x : Page) → AllByRecursion P (map (λ s. s.pair) ss) → page_in ss p ≡ Some x → P p
page-holds P [] p x h e = cc
page-holds P (s ∷ ss) p x h e =
    elim (nat_eq s.pair p) as (λ b. nat_eq s.pair p ≡ b → cond b (Some s.page) (page_in ss p) ≡ Some x → P p) [
      | true ↦ λ t w. subst P (eqb-true s.pair p t) h.0
      | false ↦ λ t w. page-holds P ss p x h.1 w
    ] refl e

above-from : (p : ℕ) (ss : List Save) → AllByRecursion (λ q. p < q) (map (λ s. s.pair) ss) → AllAbove p ss
above-from p [] h = tt
above-from p (s ∷ ss) h = (h.0, above-from p ss h.1)

rising-from : (ss : List Save) → Ascending (map (λ s. s.pair) ss) → Rising ss
rising-from [] h = tt
rising-from (s ∷ ss) h = (above-from s.pair ss h.0, rising-from ss h.1)

page-there : (ss : List Save) (p : ℕ) → list_any (nat_eq p) (map (λ s. s.pair) ss) ≡ true → is_some (page_in ss p) ≡ true
page-there [] p h = cc
page-there (s ∷ ss) p h =
    elim (nat_eq s.pair p) as (λ b. nat_eq s.pair p ≡ b → is_some (cond b (Some s.page) (page_in ss p)) ≡ true) [
      | true ↦ λ t. refl
      | false ↦ λ t. page-there ss p (rest (nat_eq p s.pair) (other s.pair p t) h)
    ] refl
  where
    other : (a b : ℕ) → nat_eq a b ≡ false → nat_eq b a ≡ false
    other a b t = grind (arith, t)

    rest : (b : Bool) → b ≡ false → (b || list_any (nat_eq p) (map (λ r. r.pair) ss)) ≡ true → list_any (nat_eq p) (map (λ r. r.pair) ss) ≡ true
    rest true t w = cc
    rest false t w = w

module _ (lay : Shape) (task : ℕ → Task Page) (snapshots : ℕ → List ℕ) (chains : AreChains lay task snapshots) where
  own : (i : ℕ) (k : Pages) (p : ℕ) (x : Page) → i < lay.items → snapshot (run (task i) k) p ≡ Some x → (p < pairs lay) × (item_of lay p ≡ i) × (p ≢ final_of lay i)
  own i k p x lt e =
      let b : Begins (saved_pairs (run (task i) k).log) (snapshots i) = run_saves (task i) (snapshots i) (chains.saves i lt) k in
      page-holds (λ q. (q < pairs lay) × (item_of lay q ≡ i) × (q ≢ final_of lay i)) (saves_of (run (task i) k).log) p x
      (front-all (λ q. (q < pairs lay) × (item_of lay q ≡ i) × (q ≢ final_of lay i)) (saved_pairs (run (task i) k).log) b.0
      (subst (AllByRecursion (λ q. (q < pairs lay) × (item_of lay q ≡ i) × (q ≢ final_of lay i))) b.1 (chains.in_order i lt).own)) e

  rising : (i : ℕ) (k : Pages) → i < lay.items → Rising (saves_of (run (task i) k).log)
  rising i k lt =
      let b : Begins (saved_pairs (run (task i) k).log) (snapshots i) = run_saves (task i) (snapshots i) (chains.saves i lt) k in
      rising-from (saves_of (run (task i) k).log) (front-rises (saved_pairs (run (task i) k).log) b.0 (subst Ascending b.1 (chains.in_order i lt).rising))

  all : (i : ℕ) (k : Pages) (p : ℕ) (x : Page) → i < lay.items → (run (task i) k).end ≡ done x → p < pairs lay → item_of lay p ≡ i → p ≢ final_of lay i → is_some (snapshot (run (task i) k) p) ≡ true
  all i k p x lt e below of ne =
      page-there (saves_of (run (task i) k).log) p
      (ap (list_any (nat_eq p)) (run_saves_all (task i) (snapshots i) (chains.saves i lt) k x e) ∙ (chains.in_order i lt).all p below of ne)

  pub chains-run : IsRun lay (λ i k. run (task i) k)
  chains-run =
      record {
        waiting = λ i k lt. run_waits (task i) k;
        some = λ i k l lt e. run_some (task i) k l e;
        once = λ i k l lt e. run_once (task i) (chains.distinct i lt) k l e;
        still = λ i k m l p lt e ext c none. run_still (task i) k m l p ext c none e;
        same = λ i k m lt agree. run_same (task i) k m (recursion_from_All (λ p. m p ≡ k p) (asks_of (run (task i) k).log) agree);
        grows = λ i k m lt ext. run_grows (task i) k m ext;
        own = own;
        rising = rising;
        all = all;
        within = λ i k lt. All-from_recursion (λ p. p < pairs lay) (asks_of (run (task i) k).log) (run_within (λ p. p < pairs lay) (task i) (chains.within i lt) k);
      }
