-- The rule of a deque whose ends have one key: what it holds is lawful for that key.
use Rattle.std.specs.Prelude.{◌≡◌, ℕ, false, List, [], length, All, Option, is_some}
use mathlib.Core.Option.{some}
use lib.ListN.{get_elem?}
use Rattle.hk_lock.specs.Lawful.{IsLawfulFor}
use Rattle.hk_steal.specs.declared.view.View.{View}

module _ {T K : Type 0} (lawful : K → T → Type 0) where
  pub record IsDeckState (items : List T) (views : List (View K)) : Type 0 where
    pub key : Option K
    pub lawful_items : All (IsLawfulFor lawful key) items
    pub keyed : (port : ℕ) (v : View K) → get_elem? views port ≡ some v → v.key ≡ key
    -- before the owner has a key, there is no other end
    pub unnamed : is_some key ≡ false → length views ≡ 1

  -- at one moment the deque was empty, and one of its ends had this key
  pub record FoundEmpty (key : Option K) : Type 0 where
    pub views : List (View K)
    pub port : ℕ
    pub v : View K
    pub state : IsDeckState [] views
    pub at : get_elem? views port ≡ some v
    pub keyed : v.key ≡ key
