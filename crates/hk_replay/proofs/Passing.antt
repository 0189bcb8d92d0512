-- Steps that are passed, one more at a time.
use Rattle.std.proofs.Common.{◌≡◌, refl, sym, ap, ◌∙◌, subst, arith, ℕ, zero, suc, ◌+◌, ◌<◌, ◌≤◌, Bool, true, false, cond, ◌||◌, ◌&&◌, List, [], ◌∷◌, ◌++◌, append-nil, length, take, drop, drop_of_length-le, length-drop, get_or, map, Option, Some, None, is_none, is_some, nat_eq, bytes_eq}
use Rattle.std.proofs.Math.Path.{fun_ext}
use Rattle.std.proofs.lemmas.List.{take_more, drop_more}
use Rattle.std.specs.List.{AllByRecursion}
use Rattle.hk_base.specs.Bytes.{Bytes}
use Rattle.hk_chain.specs.declared.page.Page.{Page}
use Rattle.hk_fix.specs.Pages.{Pages, lacking, all_pages, with_page}
use Rattle.hk_fix.specs.Task.{Mark, asked, note, saved}
use Rattle.hk_fix.specs.Run.{saves_of}
use Rattle.hk_fix.specs.Facts.{is_in}
use Rattle.hk_fix.proofs.Orders.{saves_of-append}
use Rattle.hk_replay.specs.Finding.{told_page, Stands}
use Rattle.hk_replay.specs.declared.record.Step.{Step}
use Rattle.hk_replay.specs.declared.record.Step.TheVariants.{Asked, Saved}
use Rattle.hk_replay.specs.Replays.{digest, same_pages, passed, kept_by, pairs_saved, Agrees, Passes, Breaks}

pub passed-append : (a b : List Step) → passed (a ++ b) ≡ passed a ++ passed b
passed-append [] b = refl
passed-append (Asked ps ds ∷ a) b = ap (λ l. asked ps.items ∷ l) (passed-append a b)
passed-append (Saved p x ∷ a) b = ap (λ l. note (saved p x) ∷ l) (passed-append a b)

pub kept-append : (kept : List ℕ) (a b : List Step) → kept_by kept (a ++ b) ≡ kept_by (kept_by kept a) b
kept-append kept [] b = refl
kept-append kept (Asked ps ds ∷ a) b = kept-append kept a b
kept-append kept (Saved p x ∷ a) b = kept-append (p ∷ kept) a b

pub passes-append : (k : Pages) (a b : List Step) → Passes k a → Passes k b → Passes k (a ++ b)
passes-append k [] b h g = g
passes-append k (Asked ps ds ∷ a) b h g = (h.0, passes-append k a b h.1 g)
passes-append k (Saved p x ∷ a) b h g = passes-append k a b h g

move : (a b q : Bool) → (q || a || b) ≡ ((q || a) || b)
move a b true = refl
move a b false = refl

or-out : (a b c : Bool) → ((a || b) || c) ≡ (b || (a || c))
or-out true true c = refl
or-out true false c = refl
or-out false b c = refl

pub kept-is : (kept : List ℕ) (steps : List Step) (q : ℕ) → is_in (kept_by kept steps) q ≡ (is_in kept q || is_in (pairs_saved steps) q)
kept-is [] [] q = refl
kept-is (n ∷ kept) [] q = or-none (nat_eq q n || is_in kept q)
  where
    or-none : (b : Bool) → b ≡ (b || false)
    or-none true = refl
    or-none false = refl
kept-is kept (Asked ps ds ∷ steps) q = kept-is kept steps q
kept-is kept (Saved p x ∷ steps) q = kept-is (p ∷ kept) steps q ∙ or-out (nat_eq q p) (is_in kept q) (is_in (pairs_saved steps) q)

-- what a step adds to the pairs that are kept
abbrev pub KeepsOne : Step → (ℕ → Bool) → (ℕ → Bool) → Type 0
KeepsOne (Asked ps ds) kept later = later ≡ kept
KeepsOne (Saved p x) kept later = (q : ℕ) → later q ≡ (nat_eq q p || kept q)

-- the step at a place
pub stands : (steps : List Step) (at : ℕ) (step : Step) → at < length steps → step ≡ get_or steps at step → Stands steps at step
stands steps at step lt here = record { within = lt; next = take_more steps at step lt ∙ ap (λ s. take at steps ++ s ∷ []) (sym here) }

-- one more step whose pair is kept
pub keeps-turn : (steps : List Step) (i : ℕ) (step : Step) (kept later : ℕ → Bool) → i < length steps → step ≡ get_or steps i step → kept ≡ is_in (kept_by [] (take i steps)) → KeepsOne step kept later → later ≡ is_in (kept_by [] (take (i + 1) steps))
keeps-turn steps i step kept later lt here was one = fun_ext (λ q. at step one q ∙ sym (ap (λ l. is_in l q) (ap (kept_by []) (stands steps i step lt here).next ∙ kept-append [] (take i steps) (step ∷ []))))
  where
    at : (s : Step) → KeepsOne s kept later → (q : ℕ) → later q ≡ is_in (kept_by (kept_by [] (take i steps)) (s ∷ [])) q
    at (Asked ps ds) h q = ap (λ f. f q) (h ∙ was)
    at (Saved p x) h q = h q ∙ ap (λ f. nat_eq q p || f q) was

-- what is told of a group
pub all-told : (k : Pages) (ps : List ℕ) → lacking k ps ≡ [] → all_pages k ps ≡ Some (map (told_page k) ps)
all-told k [] e = refl
all-told k (p ∷ ps) e = at (k p) refl e (λ w. all-told k ps w)
  where
    at : (o : Option Page) → k p ≡ o → cond (is_none o) (p ∷ lacking k ps) (lacking k ps) ≡ [] → (lacking k ps ≡ [] → all_pages k ps ≡ Some (map (told_page k) ps)) → with_page (k p) (all_pages k ps) ≡ Some (told_page k p ∷ map (told_page k) ps)
    at None w h f = cc
    at (Some x) w h f = rw (w, f h) refl

-- one more digest
pub digest-turn : (k : Pages) (ps : List ℕ) (ds : List Bytes) (i p : ℕ) (d : Bytes) → i < length ps → i < length ds → p ≡ get_or ps i p → d ≡ get_or ds i d → same_pages (map (told_page k) (drop i ps)) (drop i ds) ≡ (bytes_eq (digest (told_page k p)) d && same_pages (map (told_page k) (drop (i + 1) ps)) (drop (i + 1) ds))
digest-turn k ps ds i p d lt less here there =
    ap (λ l. same_pages (map (told_page k) l) (drop i ds)) (drop_more ps i p lt ∙ ap (λ q. q ∷ drop (i + 1) ps) (sym here))
    ∙ ap (λ l. same_pages (told_page k p ∷ map (told_page k) (drop (i + 1) ps)) l) (drop_more ds i d less ∙ ap (λ q. q ∷ drop (i + 1) ds) (sym there))

-- a group that agrees is passed
module _ (k : Pages) (steps : List Step) (at : ℕ) (ps ds : _) (here : Stands steps at (Asked ps ds)) (passes : Passes k (take at steps)) where
  pub group-passes : Agrees k ps.items ds.items → Passes k (take (at + 1) steps)
  group-passes a = subst (Passes k) (sym here.next) (passes-append k (take at steps) (Asked ps ds ∷ []) passes (a, tt))

  breaks-append : (a : List Step) → Passes k a → (xs : List Page) → all_pages k ps.items ≡ Some xs → same_pages xs ds.items ≡ false → Breaks k (a ++ Asked ps ds ∷ [])
  breaks-append [] h xs e f = (xs, e, f)
  breaks-append (Saved p x ∷ a) h xs e f = breaks-append a h xs e f
  breaks-append (Asked qs es ∷ []) h xs e f = (h.0, (xs, e, f))
  breaks-append (Asked qs es ∷ s ∷ a) h xs e f = (h.0, breaks-append (s ∷ a) h.1 xs e f)

  pub group-breaks : (xs : List Page) → all_pages k ps.items ≡ Some xs → same_pages xs ds.items ≡ false → Breaks k (take (at + 1) steps)
  group-breaks xs e f = subst (Breaks k) (sym here.next) (breaks-append (take at steps) passes xs e f)

-- a group saves nothing
saves-append : (a b : List Mark) → saves_of (a ++ b) ≡ saves_of a ++ saves_of b
saves-append a b = saves_of-append a b

pub group-quiet : (steps : List Step) (at : ℕ) (ps ds : _) → Stands steps at (Asked ps ds) → saves_of (passed (take (at + 1) steps)) ≡ saves_of (passed (take at steps))
group-quiet steps at ps ds here = ap (λ l. saves_of (passed l)) here.next ∙ (ap saves_of (passed-append (take at steps) (Asked ps ds ∷ [])) ∙ (saves-append (passed (take at steps)) (asked ps.items ∷ []) ∙ append-nil (saves_of (passed (take at steps)))))

pub group-kept : (steps : List Step) (at : ℕ) (ps ds : _) → Stands steps at (Asked ps ds) → kept_by [] (take (at + 1) steps) ≡ kept_by [] (take at steps)
group-kept steps at ps ds here = ap (kept_by []) here.next ∙ kept-append [] (take at steps) (Asked ps ds ∷ [])

drop-none : {A : Type 0} (l : List A) (i : ℕ) → length l ≤ i → drop i l ≡ []
drop-none l i le = drop_of_length-le l le

-- more pages than digests, and as many as were read
pub too-many : (k : Pages) (ps : List ℕ) (ds : List Bytes) (i p : ℕ) → i < length ps → length ds ≤ i → same_pages (map (told_page k) (drop i ps)) (drop i ds) ≡ false
too-many k ps ds i p lt le =
    ap (λ l. same_pages (map (told_page k) l) (drop i ds)) (drop_more ps i p lt)
    ∙ ap (λ l. same_pages (told_page k (get_or ps i p) ∷ map (told_page k) (drop (i + 1) ps)) l) (drop-none ds i le)

nothing-left : (ds : List Bytes) → nat_eq (length ds) 0 ≡ same_pages [] ds
nothing-left [] = refl
nothing-left (d ∷ ds) = grind arith

pub all-read : (k : Pages) (ps : List ℕ) (ds : List Bytes) (i : ℕ) → length ps ≤ i → i ≤ length ps → i ≤ length ds → nat_eq (length ps) (length ds) ≡ same_pages (map (told_page k) (drop i ps)) (drop i ds)
all-read k ps ds i le ge less =
    let many : length (drop i ds) + i ≡ length ds = omega (arith, length-drop i ds) in
    even (length ps) (length ds) (length (drop i ds)) (omega (arith, many))
    ∙ (nothing-left (drop i ds) ∙ sym (ap (λ l. same_pages (map (told_page k) l) (drop i ds)) (drop-none ps i le)))
  where
    even : (a b n : ℕ) → b ≡ a + n → nat_eq a b ≡ nat_eq n 0
    even a b n e = grind (arith, e)

pub no-members : (l : List ℕ) → length l ≡ 0 → l ≡ []
no-members [] e = refl
no-members (x ∷ l) e = absurd (omega (arith, e))

pub not-none : (l : List ℕ) → nat_eq (length l) 0 ≡ false → 0 < length l
not-none [] e = cc
not-none (x ∷ l) e = omega arith

-- a group of which nothing is lacking is told
pub told-all : (k : Pages) (ps : List ℕ) → lacking k ps ≡ [] → AllByRecursion (λ p. is_some (k p) ≡ true) ps
told-all k [] e = tt
told-all k (p ∷ ps) e = at (k p) refl e (λ w. told-all k ps w)
  where
    at : (o : Option Page) → k p ≡ o → cond (is_none o) (p ∷ lacking k ps) (lacking k ps) ≡ [] → (lacking k ps ≡ [] → AllByRecursion (λ q. is_some (k q) ≡ true) ps) → (is_some (k p) ≡ true) × AllByRecursion (λ q. is_some (k q) ≡ true) ps
    at None w h f = cc
    at (Some x) w h f = (ap is_some w, f h)

pub told-at : (k : Pages) (ps : List ℕ) (i p : ℕ) → AllByRecursion (λ q. is_some (k q) ≡ true) ps → i < length ps → p ≡ get_or ps i p → is_some (k p) ≡ true
told-at k [] i p h lt e = absurd (omega (arith, lt))
told-at k (q ∷ ps) zero p h lt e = subst (λ r. is_some (k r) ≡ true) (sym e) h.0
told-at k (q ∷ ps) (suc i) p h lt e = told-at k ps i p h.1 (omega (arith, lt)) e
