-- What comes next in a record.
use Rattle.std.specs.Prelude.{◌≡◌, ℕ, ◌+◌, ◌<◌, List, [], ◌∷◌, ◌++◌, length, take}
use Rattle.std.specs.Option.{unwrap_or}
use Rattle.hk_chain.specs.declared.page.Page.{Page}
use Rattle.hk_fix.specs.Pages.{Pages, lacking}
use Rattle.hk_reuse.specs.Entries.{blank_page}
use Rattle.hk_replay.specs.declared.look.Found.{Found}
use Rattle.hk_replay.specs.declared.look.Found.TheVariants as found
use Rattle.hk_replay.specs.declared.record.Step.{Step}
use Rattle.hk_replay.specs.declared.record.Step.TheVariants.{Asked, Saved}
use Rattle.hk_fix.specs.Run.{saves_of}
use Rattle.hk_replay.specs.Replays.{passed, Passes, Breaks}

abbrev pub told_page : Pages → ℕ → Page
told_page k p = unwrap_or (k p) blank_page

-- the step at a place
pub record Stands (steps : List Step) (at : ℕ) (step : Step) : Type 0 where
  pub within : at < length steps
  pub next : take (at + 1) steps ≡ take at steps ++ step ∷ []

abbrev pub IsGroup : Pages → List ℕ → Step → Type 0
IsGroup k lacks (Asked ps ds) = lacks ≡ lacking k ps.items
IsGroup k lacks (Saved p page) = ⊥

-- the steps before were passed, and here a page is saved, a group lacks pages, a page has another digest, or all was passed
abbrev pub Finds : Pages → List Step → ℕ → Found → Type 0
Finds k steps at (found.Saves p page) = Passes k (take at steps) × Stands steps at (Saved p page)
Finds k steps at (found.Asks lacks) = Passes k (take at steps) × ((step : Step) × Stands steps at step × IsGroup k lacks.items step) × (0 < length lacks.items)
Finds k steps at found.Breaks = (at < length steps) × Breaks k (take (at + 1) steps) × (saves_of (passed (take (at + 1) steps)) ≡ saves_of (passed (take at steps)))
Finds k steps at found.Through = Passes k steps × (at ≡ length steps)
