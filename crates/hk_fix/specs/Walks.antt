-- The vocabulary of the private walk in cycles.rt: walks from item to item, and what is found on them.
use Rattle.std.specs.Prelude.{◌≡◌, ◌≢◌, ℕ, ◌+◌, ◌<◌, ◌≤◌, Bool, true, false, cond, List, [], ◌∷◌, length, Option, Some, None, is_some, is_none, nat_eq}
use Rattle.std.specs.List.{AllByRecursion, IsDistinct, slice_index_or}
use Rattle.hk_chain.specs.Kept.{at_place}
use Rattle.hk_fix.specs.Facts.{is_in}
use Rattle.hk_fix.specs.Report.{on_cycle, is_least}
use Rattle.hk_fix.specs.declared.cycles.Place.{Place}
use Rattle.hk_fix.specs.declared.cycles.Place.TheVariants.{Off, Member, First}

-- each item leads to an item
abbrev pub LeadsIn : List (Option ℕ) → Type 0
LeadsIn leads = (q w : ℕ) → at_place leads q ≡ Some w → w < length leads

-- the items of a walk, the newest first, and what the newest leads to
abbrev pub IsWalk : List (Option ℕ) → List ℕ → ℕ → Option ℕ → Type 0
IsWalk leads [] start hit = hit ≡ Some start
IsWalk leads (r ∷ rs) start hit = (at_place leads r ≡ hit) × IsWalk leads rs start (Some r)

-- how many items no walk has reached
abbrev pub unreached : List (Option ℕ) → ℕ
unreached [] = 0
unreached (o ∷ os) = cond (is_none o) 1 0 + unreached os

-- a walk has gone through items that none had reached, and marked them
pub record Walking (leads old : List (Option ℕ)) (start : ℕ) (hit : Option ℕ) (new : List (Option ℕ)) : Type 0 where
  pub path : List ℕ
  pub walk : IsWalk leads path start hit
  pub fresh : AllByRecursion (λ r. (r < length leads) × (at_place old r ≡ None)) path
  pub distinct : IsDistinct nat_eq path
  pub few : length path + unreached new ≡ unreached old
  pub marked : (q : ℕ) → at_place new q ≡ cond (is_in path q) (Some start) (at_place old q)
  pub count : length new ≡ length old

-- and has ended on its own path, or on what an earlier one had reached, or at an item that leads nowhere
pub record Walked (leads old : List (Option ℕ)) (start : ℕ) (found : Option ℕ) (new : List (Option ℕ)) : Type 0 where
  pub hit : Option ℕ
  pub way : Walking leads old start hit new
  pub own : (w : ℕ) → found ≡ Some w → (hit ≡ Some w) × (at_place new w ≡ Some start)
  pub other : found ≡ None → (w : ℕ) → hit ≡ Some w → (is_some (at_place new w) ≡ true) × (at_place new w ≢ Some start)

abbrev pub place_at : List Place → ℕ → Place
place_at places q = slice_index_or places q Off

abbrev pub place_by : Bool → Bool → Place
place_by false least = Off
place_by true false = Member
place_by true true = First

-- where an item stands
abbrev pub place_on_cycle : List (Option ℕ) → ℕ → Place
place_on_cycle leads q = place_by (on_cycle leads q) (is_least leads q)

-- these items are members, the least of them first
pub record Marked (around : List ℕ) (old new : List Place) : Type 0 where
  pub least : ℕ
  pub member : is_in around least ≡ true
  pub below : AllByRecursion (λ q. least ≤ q) around
  pub count : length new ≡ length old
  pub each : (q : ℕ) → q < length old → place_at new q ≡ cond (is_in around q) (place_by true (nat_eq q least)) (place_at old q)

-- after the walks from all items below `start`: what was reached is closed, and stands where it stands
pub record Searched (leads walks : List (Option ℕ)) (places : List Place) (start : ℕ) : Type 0 where
  pub walk_count : length walks ≡ length leads
  pub place_count : length places ≡ length leads
  pub closed : (q w : ℕ) → is_some (at_place walks q) ≡ true → at_place leads q ≡ Some w → is_some (at_place walks w) ≡ true
  pub numbers : (q v : ℕ) → at_place walks q ≡ Some v → v < start
  pub begun : (q : ℕ) → q < start → is_some (at_place walks q) ≡ true
  pub right : (q : ℕ) → q < length leads → is_some (at_place walks q) ≡ true → place_at places q ≡ place_on_cycle leads q
  pub blank : (q : ℕ) → q < length leads → at_place walks q ≡ None → place_at places q ≡ Off
