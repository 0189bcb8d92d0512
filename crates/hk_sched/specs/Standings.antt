-- Where the items of a board stand, and what the known pages make of it.
use Rattle.std.specs.Prelude.{◌≡◌, ℕ, Bool, true, false, cond, not, List, [], ◌∷◌, Option, Some, None, filter, slice_index_or}
use Rattle.hk_chain.specs.declared.page.Page.{Page}
use Rattle.hk_chain.specs.Facts.{FactsView}
use Rattle.hk_fix.specs.Pages.{Pages, lacking}
use Rattle.hk_fix.specs.Facts.{is_in}
use Rattle.hk_fix.specs.Fix.{Ending, finished, waiting}
use Rattle.hk_fix.specs.Meaning.{Meaning}
use Rattle.hk_sched.specs.declared.stacks.Stack.{Stack}
use Rattle.hk_sched.specs.declared.stacks.Stack.TheVariants.{Fresh, Woken, Waiting}

-- where an item stands
pub data Standing (X : Type 0) : Type 0 where
  -- on the board, to begin
  unbegun : Standing X
  -- on the board, to begin anew
  again : Standing X
  -- handed out
  out : Standing X
  -- on the board or parked, with its compiler
  held : X → Standing X
  -- ended
  over : Ending → Standing X

-- what no item is
abbrev pub nowhere : {X : Type 0} → Standing X
nowhere = over (waiting [])

-- the known pages, and where each item stands
pub record RosterView (X : Type 0) : Type 0 where
  pub known : List (Option Page)
  pub places : List (Standing X)

-- where an item stands at first: one with facts has ended
abbrev pub first_standing : {X : Type 0} → Option FactsView → Standing X
first_standing None = unbegun
first_standing (Some facts) = over (finished facts)

abbrev pub is_empty : List ℕ → Bool
is_empty [] = true
is_empty (p ∷ ps) = false

-- the first of the pairs that aren't known, and else the woken ones
abbrev pub stack_at : List ℕ → Stack
stack_at [] = Woken
stack_at (p ∷ ps) = Waiting p

module _ {X : Type 0} where
  abbrev pub standing_at : List (Standing X) → ℕ → Standing X
  standing_at places i = slice_index_or places i nowhere

  abbrev pub is_out : Standing X → Bool
  is_out unbegun = false
  is_out again = false
  is_out out = true
  is_out (held x) = false
  is_out (over e) = false

  -- it has ended or is parked, or it goes on with its compiler
  abbrev pub is_settled : Standing X → Bool
  is_settled unbegun = false
  is_settled again = false
  is_settled out = false
  is_settled (held x) = true
  is_settled (over e) = true

module _ {C : Type 0} where
  -- these open pairs answered with the pages that are known
  abbrev pub told_with : Pages → List ℕ → Meaning C → Meaning C
  told_with k ps m = record m { told = λ q. cond (is_in ps q) (k q) (m.told q); awaits = filter (λ q. not (is_in ps q)) m.awaits }

  -- each open pair answered with its page
  abbrev pub all_told : Pages → Meaning C → Meaning C
  all_told k m = told_with k m.awaits m

  -- some of the open pairs were answered with their pages
  abbrev pub SomeTold : Pages → Meaning C → Meaning C → Type 0
  SomeTold k m n = (ps : List ℕ) × ((p : ℕ) → is_in ps p ≡ true → is_in m.awaits p ≡ true) × (n ≡ told_with k ps m)

module _ {X C : Type 0} (meaning : X → Meaning C) where
  -- the stack that an item is on
  abbrev pub stack_for : Pages → Standing X → Option Stack
  stack_for k unbegun = Some Fresh
  stack_for k again = Some Fresh
  stack_for k out = None
  stack_for k (held x) = Some (stack_at (lacking k (meaning x).awaits))
  stack_for k (over e) = None

  -- it stands on the board to be handed out: fresh, or with a compiler each of whose open pairs is known
  abbrev pub is_ready : Pages → Standing X → Bool
  is_ready k unbegun = true
  is_ready k again = true
  is_ready k out = false
  is_ready k (held x) = is_empty (lacking k (meaning x).awaits)
  is_ready k (over e) = false

  -- how an item ended, where it stands for good
  abbrev pub ending_at : Pages → Standing X → Ending
  ending_at k unbegun = waiting []
  ending_at k again = waiting []
  ending_at k out = waiting []
  ending_at k (held x) = waiting (lacking k (meaning x).awaits)
  ending_at k (over e) = e
