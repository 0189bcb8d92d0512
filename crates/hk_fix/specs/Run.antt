-- What a compiler's run gives, read from its log, and the laws that it keeps.
use Rattle.std.specs.Prelude.{◌≡◌, ◌≢◌, ℕ, ◌<◌, Bool, true, false, cond, List, [], ◌∷◌, ◌++◌, length, Option, Some, None, is_some, nat_eq, Contains, All}
use Rattle.std.specs.List.{IsDistinct}
use Rattle.hk_chain.specs.declared.page.Page.{Page}
use Rattle.hk_chain.specs.Layout.{Shape, pairs, item_of, final_of}
use Rattle.hk_fix.specs.Pages.{Pages, Extends, Begins, lacking}
use Rattle.hk_fix.specs.Task.{used, saved, Mark, asked, note, End, done, fault, waits, Run}

pub record Save : Type 0 where
  pub pair : ℕ
  pub page : Page

-- the asked pairs of a log, in order
abbrev pub asks_of : List Mark → List ℕ
asks_of [] = []
asks_of (asked ps ∷ log) = ps ++ asks_of log
asks_of (note n ∷ log) = asks_of log

-- its saved pages
abbrev pub saves_of : List Mark → List Save
saves_of [] = []
saves_of (asked ps ∷ log) = saves_of log
saves_of (note (used n) ∷ log) = saves_of log
saves_of (note (saved p x) ∷ log) = record { pair = p; page = x } ∷ saves_of log

-- its used patterns
abbrev pub patterns_of : List Mark → List ℕ
patterns_of [] = []
patterns_of (asked ps ∷ log) = patterns_of log
patterns_of (note (used n) ∷ log) = n ∷ patterns_of log
patterns_of (note (saved p x) ∷ log) = patterns_of log

-- the page that these saves have for a pair
abbrev pub page_in : List Save → ℕ → Option Page
page_in [] p = None
page_in (s ∷ rest) p = cond (nat_eq s.pair p) (Some s.page) (page_in rest p)

-- the page that a run saves for a pair on its way
abbrev pub snapshot : Run Page → ℕ → Option Page
snapshot r p = page_in (saves_of r.log) p

abbrev pub finished_page : End Page → Option Page
finished_page (done x) = Some x
finished_page (fault e) = None
finished_page (waits ps) = None

-- the page that the run of an item has for a pair: the finished page for the item's last pair
abbrev pub page_of : Shape → ℕ → Run Page → ℕ → Option Page
page_of lay i r p = cond (nat_eq p (final_of lay i)) (finished_page r.end) (snapshot r p)

-- what a run waits for
abbrev pub lacked : {A : Type 0} → End A → List ℕ
lacked (done x) = []
lacked (fault e) = []
lacked (waits ps) = ps

abbrev pub is_wait : {A : Type 0} → End A → Bool
is_wait (done x) = false
is_wait (fault e) = false
is_wait (waits ps) = true

-- the saves are in the order of their pairs, without repeats
abbrev pub AllAbove : ℕ → List Save → Type 0
AllAbove p [] = Unit {0}
AllAbove p (s ∷ rest) = (p < s.pair) × AllAbove p rest

abbrev pub Rising : List Save → Type 0
Rising [] = Unit {0}
Rising (s ∷ rest) = AllAbove s.pair rest × Rising rest

-- the laws of a family's runs, under every map of known pages
pub record IsRun (lay : Shape) (run : ℕ → Pages → Run Page) : Type 0 where
  -- a run waits for exactly the asked pairs that aren't known, in the order of its log,
  pub waiting : (i : ℕ) (k : Pages) → i < lay.items → lacking k (asks_of (run i k).log) ≡ lacked (run i k).end
  -- for at least one, and for each once
  pub some : (i : ℕ) (k : Pages) (l : List ℕ) → i < lay.items → (run i k).end ≡ waits l → 0 < length l
  pub once : (i : ℕ) (k : Pages) (l : List ℕ) → i < lay.items → (run i k).end ≡ waits l → IsDistinct nat_eq l
  -- under more pages that still lack a pair of the wait, the log is the same
  pub still : (i : ℕ) (k m : Pages) (l : List ℕ) (p : ℕ) → i < lay.items → (run i k).end ≡ waits l → Extends k m → Contains l p → m p ≡ None → (run i m).log ≡ (run i k).log
  -- only the pages of the asked pairs matter, so that an end that is no wait stays under more pages
  pub same : (i : ℕ) (k m : Pages) → i < lay.items → All (λ p. m p ≡ k p) (asks_of (run i k).log) → run i m ≡ run i k
  -- more known pages extend the log
  pub grows : (i : ℕ) (k m : Pages) → i < lay.items → Extends k m → Begins (run i k).log (run i m).log
  -- the saves on the way are pairs of the item in order, without the last
  pub own : (i : ℕ) (k : Pages) (p : ℕ) (x : Page) → i < lay.items → snapshot (run i k) p ≡ Some x → (p < pairs lay) × (item_of lay p ≡ i) × (p ≢ final_of lay i)
  pub rising : (i : ℕ) (k : Pages) → i < lay.items → Rising (saves_of (run i k).log)
  -- a finished run has saved all of them
  pub all : (i : ℕ) (k : Pages) (p : ℕ) (x : Page) → i < lay.items → (run i k).end ≡ done x → p < pairs lay → item_of lay p ≡ i → p ≢ final_of lay i → is_some (snapshot (run i k) p) ≡ true
  -- the asked pairs are pairs of the layout
  pub within : (i : ℕ) (k : Pages) → i < lay.items → All (λ p. p < pairs lay) (asks_of (run i k).log)
