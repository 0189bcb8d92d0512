-- What came of a lookup, of a list and of a template, as the end of a run, and what such a run leaves in the notes.
use Rattle.std.specs.Prelude.{◌≡◌, ℕ, ◌<◌, List, [], ◌∷◌, ◌++◌, map}
use Rattle.std.specs.List.{AllByRecursion}
use Rattle.hk_chain.specs.Facts.{FactsView}
use Rattle.hk_chain.specs.declared.page.Page.{Page}
use Rattle.hk_fix.specs.Pages.{Pages}
use Rattle.hk_fix.specs.Task.{Task, Mark, asked, End, done, fault, waits, Run, run}
use Rattle.hk_template.specs.Template.{IsPrintable}
use Rattle.hk_template.specs.Tree.{Nodes}
use Rattle.hk_eval.specs.Blocks.{block_nodes}
use Rattle.hk_eval.specs.Noted.{noted}
use Rattle.hk_eval.specs.Value.{Listing, Value, absent, text, flag, list}
use Rattle.hk_eval.specs.declared.asking.Reply.{Reply}
use Rattle.hk_eval.specs.declared.asking.Reply.TheVariants as replies
use Rattle.hk_eval.specs.declared.place.Place.{Place}
use Rattle.hk_eval.specs.declared.look.Listing.{Listing as Lent}
use Rattle.hk_eval.specs.declared.look.Look.{Look}
use Rattle.hk_eval.specs.declared.look.Look.TheVariants as looks
use Rattle.hk_eval.specs.declared.listed.Listed.{Listed}
use Rattle.hk_eval.specs.declared.listed.Listed.TheVariants as lists
use Rattle.hk_eval.specs.declared.found.Found.{Found}
use Rattle.hk_eval.specs.declared.found.Found.TheVariants as founds

abbrev pub listing_of : Lent → Listing
listing_of l = record { pattern = l.pattern; snapshot = l.snapshot.now; order = l.order; limit = l.limit; context = l.context }

abbrev pub look_end : Look → End Value
look_end looks.Absent = done absent
look_end (looks.Lent bytes) = done (text bytes.now)
look_end (looks.Made bytes) = done (text bytes)
look_end looks.Flag = done flag
look_end (looks.List l) = done (list (listing_of l))
look_end (looks.Asks pair) = waits (pair ∷ [])
look_end (looks.Fails e) = fault e

abbrev pub listed_end : Listed → End (List Place)
listed_end (lists.Places places) = done places.items
listed_end (lists.Asks pairs) = waits pairs.items
listed_end (lists.Fails e) = fault e

abbrev pub found_end : Found → End Nodes
found_end (founds.Tree block) = done (block_nodes block)
found_end (founds.Asks pair) = waits (pair ∷ [])
found_end (founds.Fails e) = fault e

abbrev pub reply_end : Reply → End Page
reply_end (replies.Page page) = done page.now
reply_end (replies.Asks pair) = waits (pair ∷ [])
reply_end (replies.Fails e) = fault e

-- each pair asked for alone
abbrev pub singles : List ℕ → List Mark
singles pairs = map (λ p. asked (p ∷ [])) pairs

-- the run ends so, and the pairs that it asked for, one after another, were added to those before
abbrev pub RunsOn : {A : Type 0} → List ℕ → List ℕ → Run A → End A → Type 0
RunsOn old new r e = (pairs : List ℕ) × (new ≡ old ++ pairs) × (r ≡ record { log = singles pairs; end = e })

-- a task comes to this end under the told pages: where it gives something, the marks that it leaves are noted, and where it
-- waits, nothing is
abbrev pub Comes : {A : Type 0} → Pages → Task A → FactsView → End A → FactsView → Type 0
Comes k t old (done x) new = (log : List Mark) × (run t k ≡ record { log = log; end = done x }) × (new ≡ noted old log)
Comes k t old (waits pairs) new = ((run t k).end ≡ waits pairs) × (new ≡ old)
Comes k t old (fault e) new = (run t k).end ≡ fault e

-- a template that was found can be printed
abbrev pub IsFoundPrintable : Found → Type 0
IsFoundPrintable (founds.Tree block) = IsPrintable (block_nodes block)
IsFoundPrintable _ = Unit {0}

-- the numbers of a list are those of a pattern and of a context of the plan
abbrev pub IsListingWithin : ℕ → ℕ → Look → Type 0
IsListingWithin contexts patterns (looks.List l) = (l.pattern < patterns) × (l.context < contexts)
IsListingWithin contexts patterns _ = Unit {0}

-- a place of an item and a context of the plan
abbrev pub IsPlaceWithin : ℕ → ℕ → Place → Type 0
IsPlaceWithin items contexts place = (place.item < items) × (place.context < contexts)

abbrev pub ArePlacesWithin : ℕ → ℕ → Listed → Type 0
ArePlacesWithin items contexts (lists.Places places) = AllByRecursion (IsPlaceWithin items contexts) places.items
ArePlacesWithin items contexts _ = Unit {0}
