-- The rule of a queue whose passes carry one key: what it holds is lawful for that key. A pass that is alone knows how much it holds.
use Rattle.std.specs.Prelude.{◌≡◌, ℕ, ◌+◌, true, List, length, All, Option, is_some}
use mathlib.Core.Option.{some}
use lib.ListN.{get_elem?}
use Rattle.hk_lock.specs.Lawful.{IsLawfulFor}
use Rattle.hk_ready.specs.declared.view.View.{View}
use Rattle.hk_ready.specs.View.{can_act}

-- a pass with a key has this one, and one that is alone has pushed what it popped and what the queue holds, and no other pass acts
pub record PassFits {K : Type 0} (key : Option K) (count : ℕ) (views : List (View K)) (port : ℕ) (v : View K) : Type 0 where
  pub keyed : is_some v.key ≡ true → v.key ≡ key
  pub counts : v.is_alone ≡ true → v.pushed ≡ v.popped + count
  pub alone : v.is_alone ≡ true → (j : ℕ) (u : View K) → get_elem? views j ≡ some u → can_act u ≡ true → j ≡ port

module _ {T K : Type 0} (lawful : K → T → Type 0) where
  pub record IsQueueState (items : List T) (views : List (View K)) : Type 0 where
    pub key : Option K
    pub lawful_items : All (IsLawfulFor lawful key) items
    pub fits : (port : ℕ) (v : View K) → get_elem? views port ≡ some v → PassFits key (length items) views port v

  -- what a pass knows of the values that the queue holds: each is lawful, and if the pass is alone, it pushed these and what it popped
  pub record AgreesWith (v : View K) (items : List T) : Type 0 where
    pub lawful_items : All (IsLawfulFor lawful v.key) items
    pub counts : v.is_alone ≡ true → v.pushed ≡ v.popped + length items
