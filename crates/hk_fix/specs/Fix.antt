-- The least fixpoint by rounds, how each item ends there, and the histories of events that lead to it.
use Rattle.std.specs.Prelude.{◌≡◌, ℕ, zero, suc, ◌<◌, ◌≤◌, Bool, true, false, cond, ◌||◌, List, [], ◌∷◌, length, reverse, Option, Some, None, is_some, nat_eq, nat_lt, All}
use Rattle.hk_chain.specs.declared.page.Page.{Page}
use Rattle.hk_chain.specs.declared.fault.Fault.{Fault}
use Rattle.hk_chain.specs.Facts.{FactsView}
use Rattle.hk_chain.specs.Kept.{KeptView, at_place}
use Rattle.hk_chain.specs.Layout.{Shape, IsShape, pairs, item_of, final_of}
use Rattle.hk_fix.specs.declared.event.Event.{Event}
use Rattle.hk_fix.specs.declared.event.Event.TheVariants.{Begin, Saved, Done, Failed}
use Rattle.hk_fix.specs.Pages.{Pages}
use Rattle.hk_fix.specs.Task.{Mark, End, done, fault, waits, Run}
use Rattle.hk_fix.specs.Run.{snapshot, finished_page, page_of, IsRun}
use Rattle.hk_fix.specs.Facts.{facts_of, whole_log}

-- pages and facts that are known from the start
pub record Seeds : Type 0 where
  pub pages : Pages
  pub facts : ℕ → Option FactsView

abbrev pub seeded : Seeds → ℕ → Bool
seeded seeds i = is_some (seeds.facts i)

-- pages for all pairs of some items, and for no pair of any other
pub record IsSeeds (lay : Shape) (seeds : Seeds) : Type 0 where
  pub each : (p : ℕ) → p < pairs lay → is_some (seeds.pages p) ≡ seeded seeds (item_of lay p)
  pub none : (p : ℕ) → pairs lay ≤ p → seeds.pages p ≡ None

-- a layout, runs that keep the laws, and seeds
pub record IsSetting (lay : Shape) (run : ℕ → Pages → Run Page) (seeds : Seeds) : Type 0 where
  pub shape : IsShape lay
  pub laws : IsRun lay run
  pub sown : IsSeeds lay seeds

abbrev pub seeds_of : KeptView → Seeds
seeds_of kept = record { pages = at_place kept.pages; facts = at_place kept.facts }

-- how an item ends: with its facts, with a fault, or waiting for pairs
pub data Ending : Type 0 where
  finished : FactsView → Ending
  faulted : Fault → Ending
  waiting : List ℕ → Ending

abbrev pub is_finished : Ending → Bool
is_finished (finished facts) = true
is_finished (faulted e) = false
is_finished (waiting ps) = false

-- it is done or has failed
abbrev pub is_over : Ending → Bool
is_over (finished facts) = true
is_over (faulted e) = true
is_over (waiting ps) = false

abbrev pub ends_with : List Mark → End Page → Ending
ends_with log (done x) = finished (facts_of log)
ends_with log (fault e) = faulted e
ends_with log (waits ps) = waiting ps

-- as the run of the item does, or with the seed's facts
abbrev pub ending_of : Shape → ℕ → Run Page → Option FactsView → Ending
ending_of lay i r (Some facts) = finished facts
ending_of lay i r None = ends_with (whole_log lay i r) r.end

abbrev pub or_else : Option Page → Option Page → Option Page
or_else None o = o
or_else (Some x) o = Some x

-- these pages, and this one for a pair that is not known yet
abbrev pub with_new : Pages → ℕ → Option Page → Pages
with_new k p o q = or_else (k q) (cond (nat_eq p q) o None)

module _ (lay : Shape) (run : ℕ → Pages → Run Page) (seeds : Seeds) where
  -- the seeds, and all that the items without seeds save when these pages are known
  abbrev pub round : Pages → Pages
  round k p =
      cond (nat_lt p (pairs lay)) (cond (seeded seeds (item_of lay p)) (seeds.pages p) (page_of lay (item_of lay p) (run (item_of lay p) k) p)) None

  abbrev pub known : ℕ → Pages
  known zero = seeds.pages
  known (suc n) = round (known n)

  unfoldable pub fix : Pages
  fix = known (pairs lay)

  -- how an item ends in the fixpoint
  unfoldable pub status : ℕ → Ending
  status i = ending_of lay i (run i fix) (seeds.facts i)

  -- what is known after a history, the newest event first
  abbrev pub after : List Event → Pages
  after [] = seeds.pages
  after (Begin i ∷ h) = after h
  after (Saved p ∷ h) = with_new (after h) p (snapshot (run (item_of lay p) (after h)) p)
  after (Done i ∷ h) = with_new (after h) (final_of lay i) (finished_page (run i (after h)).end)
  after (Failed i ∷ h) = after h

abbrev pub same_event : Event → Event → Bool
same_event (Begin i) (Begin j) = nat_eq i j
same_event (Saved p) (Saved q) = nat_eq p q
same_event (Done i) (Done j) = nat_eq i j
same_event (Failed i) (Failed j) = nat_eq i j
same_event _ _ = false

-- an event stands in a history
abbrev pub stands : Event → List Event → Bool
stands e [] = false
stands e (x ∷ h) = same_event e x || stands e h

abbrev pub ended : ℕ → List Event → Bool
ended i h = stands (Done i) h || stands (Failed i) h

-- the events that save a pair's page on the way, and an item's finished page
abbrev pub has_saved : List Event → ℕ → Bool
has_saved h p = stands (Saved p) h

abbrev pub has_finished : List Event → ℕ → Bool
has_finished h i = stands (Done i) h

abbrev pub is_done : End Page → Bool
is_done (done x) = true
is_done (fault e) = false
is_done (waits ps) = false

abbrev pub is_fault : End Page → Bool
is_fault (done x) = false
is_fault (fault e) = true
is_fault (waits ps) = false

pub record MayBegin (lay : Shape) (seeds : Seeds) (i : ℕ) : Type 0 where
  pub in_range : i < lay.items
  pub unseeded : seeded seeds i ≡ false

-- the item has begun and hasn't ended, and its run saves the page after those that stand
pub record MaySave (lay : Shape) (run : ℕ → Pages → Run Page) (seeds : Seeds) (h : List Event) (p : ℕ) : Type 0 where
  pub in_range : p < pairs lay
  pub begun : stands (Begin (item_of lay p)) h ≡ true
  pub going : ended (item_of lay p) h ≡ false
  pub saves : is_some (snapshot (run (item_of lay p) (after lay run seeds h)) p) ≡ true
  pub earlier : (q : ℕ) → q < p → is_some (snapshot (run (item_of lay p) (after lay run seeds h)) q) ≡ true → stands (Saved q) h ≡ true

-- the item has begun and hasn't ended, its run ends so, and all that it saves on the way stands
pub record MayEnd (lay : Shape) (run : ℕ → Pages → Run Page) (seeds : Seeds) (h : List Event) (i : ℕ) (test : End Page → Bool) : Type 0 where
  pub in_range : i < lay.items
  pub begun : stands (Begin i) h ≡ true
  pub going : ended i h ≡ false
  pub ends : test (run i (after lay run seeds h)).end ≡ true
  pub snapshots : (p : ℕ) → is_some (snapshot (run i (after lay run seeds h)) p) ≡ true → stands (Saved p) h ≡ true

-- an event may follow these, the newest first
abbrev pub MayFollow : Shape → (ℕ → Pages → Run Page) → Seeds → List Event → Event → Type 0
MayFollow lay run seeds h (Begin i) = MayBegin lay seeds i
MayFollow lay run seeds h (Saved p) = MaySave lay run seeds h p
MayFollow lay run seeds h (Done i) = MayEnd lay run seeds h i is_done
MayFollow lay run seeds h (Failed i) = MayEnd lay run seeds h i is_fault

-- no event stands twice, and each may follow those before it; the newest first
abbrev pub LawfulNewest : Shape → (ℕ → Pages → Run Page) → Seeds → List Event → Type 0
LawfulNewest lay run seeds [] = Unit {0}
LawfulNewest lay run seeds (e ∷ h) = (stands e h ≡ false) × MayFollow lay run seeds h e × LawfulNewest lay run seeds h

-- no event that doesn't stand may follow
pub record CompleteNewest (lay : Shape) (run : ℕ → Pages → Run Page) (seeds : Seeds) (h : List Event) : Type 0 where
  pub lawful : LawfulNewest lay run seeds h
  pub nothing_follows : (e : Event) → stands e h ≡ false → MayFollow lay run seeds h e → ⊥

-- the same of a history in the order of time
abbrev pub known_after : Shape → (ℕ → Pages → Run Page) → Seeds → List Event → Pages
known_after lay run seeds h = after lay run seeds (reverse h)

abbrev pub IsLawful : Shape → (ℕ → Pages → Run Page) → Seeds → List Event → Type 0
IsLawful lay run seeds h = LawfulNewest lay run seeds (reverse h)

abbrev pub IsComplete : Shape → (ℕ → Pages → Run Page) → Seeds → List Event → Type 0
IsComplete lay run seeds h = CompleteNewest lay run seeds (reverse h)

-- an item without seeds has ended so in this history
abbrev pub HasEnded : List Event → ℕ → Ending → Type 0
HasEnded h i (finished facts) = (stands (Done i) h ≡ true) × (stands (Failed i) h ≡ false)
HasEnded h i (faulted e) = (stands (Failed i) h ≡ true) × (stands (Done i) h ≡ false)
HasEnded h i (waiting ps) = ended i h ≡ false

-- there is a pair to wait for, and the items of such pairs aren't finished
pub record Blocks (lay : Shape) (status : ℕ → Ending) (ps : List ℕ) : Type 0 where
  pub some : 0 < length ps
  pub each : All (λ p. (p < pairs lay) × (is_finished (status (item_of lay p)) ≡ false)) ps
