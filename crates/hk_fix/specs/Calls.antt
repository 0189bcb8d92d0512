-- What the calls of a compiler do to its meaning.
use Rattle.std.specs.Prelude.{◌≡◌, ◌↔◌, ℕ, ◌+◌, ◌-◌, ◌≤◌, true, false, cond, List, length, map, take, Some, Result, Ok, Err, is_some, Contains, ◌⊎◌}
use Rattle.std.specs.List.{slice_get}
use Rattle.hk_base.specs.declared.refusal.NoMemory.{NoMemory}
use Rattle.hk_chain.specs.declared.page.Page.{Page}
use Rattle.hk_chain.specs.Layout.{Shape}
use Rattle.hk_fix.specs.declared.polled.Polled.{Polled}
use Rattle.hk_fix.specs.declared.polled.Polled.TheVariants.{Saved, Ask, Done, Failed}
use Rattle.hk_fix.specs.Pages.{Pages}
use Rattle.hk_fix.specs.Task.{done, fault, waits, Run}
use Rattle.hk_fix.specs.Run.{Save, saves_of}
use Rattle.hk_fix.specs.Facts.{facts_of, whole_log}
use Rattle.hk_fix.specs.Meaning.{Meaning}

module _ {Common : Type 0} (run : Common → ℕ → Pages → Run Page) where
  -- the run of its item under the pages that it was answered
  abbrev pub run_of : Meaning Common → Run Page
  run_of m = run m.common m.item m.told

  abbrev pub to_give : Meaning Common → List Save
  to_give m = saves_of (run_of m).log

  -- the pairs that were answered to it, and those of the pages that it has given but for one that it has just saved
  abbrev pub Lists : Meaning Common → List ℕ → Type 0
  Lists m used =
      (p : ℕ) → Contains used p ↔ ((is_some (m.told p) ≡ true) ⊎ Contains (map (λ s. s.pair) (take (m.given - cond m.just_saved 1 0) (to_give m))) p)

module _ {Common : Type 0} (shape : Common → Shape) (run : Common → ℕ → Pages → Run Page) where
  -- the next page on the way, while there is one; else as the run ends
  abbrev pub Goes : Meaning Common → Polled → Meaning Common → Type 0
  Goes m (Saved p page) n =
      (slice_get (to_give run m) m.given ≡ Some (record { pair = p; page = page })) × (n ≡ record m { given = m.given + 1; just_saved = true })
  Goes m Ask n =
      (length (to_give run m) ≤ m.given) × ((run_of run m).end ≡ waits n.awaits) × (n ≡ record m { awaits = n.awaits; just_saved = false })
  Goes m (Done page facts) n =
      (length (to_give run m) ≤ m.given) × ((run_of run m).end ≡ done page) × (facts ≡ facts_of (whole_log (shape m.common) m.item (run_of run m)))
      × (n ≡ record m { has_ended = true; just_saved = false })
  Goes m (Failed f) n = (length (to_give run m) ≤ m.given) × ((run_of run m).end ≡ fault f) × (n ≡ record m { has_ended = true; just_saved = false })

  -- after want of memory nothing else comes; what it saved before may count as used
  abbrev pub Polls : Meaning Common → Result Polled NoMemory → Meaning Common → Type 0
  Polls m (Ok polled) n = (m.is_spent ≡ false) × Goes m polled n
  Polls m (Err e) n = (n.just_saved ≡ true → m.just_saved ≡ true) × (n ≡ record m { just_saved = n.just_saved; is_spent = true })
