-- Items on stacks, each on one at most.
use Rattle.std.specs.Prelude.{◌≡◌, ℕ, ◌+◌, ◌<◌, Bool, false, List, [], ◌∷◌, length, Option, Some, None, nat_eq}
use Rattle.hk_chain.specs.Kept.{at_place}
use Rattle.hk_fix.specs.Facts.{is_in}
use Rattle.hk_sched.specs.declared.stacks.Stack.{Stack}
use Rattle.hk_sched.specs.declared.stacks.Stack.TheVariants.{Fresh, Woken, Waiting}

-- how many pairs have a stack, and the stack of each item
pub record StacksView : Type 0 where
  pub pairs : ℕ
  pub stack_of : List (Option Stack)

-- where a stack's first item is found
abbrev pub stack_index : Stack → ℕ
stack_index Fresh = 0
stack_index Woken = 1
stack_index (Waiting p) = p + 2

abbrev pub HasStack : ℕ → Stack → Type 0
HasStack pairs Fresh = Unit {0}
HasStack pairs Woken = Unit {0}
HasStack pairs (Waiting p) = p < pairs

abbrev pub is_on : Stack → Option Stack → Bool
is_on s None = false
is_on s (Some t) = nat_eq (stack_index s) (stack_index t)

-- from an item on, each leads to the next
abbrev pub IsChain : List (Option ℕ) → Option ℕ → List ℕ → Type 0
IsChain next top [] = top ≡ None
IsChain next top (i ∷ items) = (top ≡ Some i) × IsChain next (at_place next i) items

abbrev pub IsOnce : List ℕ → Type 0
IsOnce [] = Unit {0}
IsOnce (i ∷ items) = (is_in items i ≡ false) × IsOnce items

-- these are the items of a stack, from the top
pub record IsStack (next : List (Option ℕ)) (top : Option ℕ) (members : ℕ → Bool) (items : List ℕ) : Type 0 where
  pub chain : IsChain next top items
  pub once : IsOnce items
  pub all : (i : ℕ) → is_in items i ≡ members i

-- the items of each stack are linked from its top
pub record AreStacks (tops next : List (Option ℕ)) (stack_of : List (Option Stack)) : Type 0 where
  pub linked : length next ≡ length stack_of
  pub each : (s : Stack) → stack_index s < length tops → (items : List ℕ) × IsStack next (at_place tops (stack_index s)) (λ i. is_on s (at_place stack_of i)) items
