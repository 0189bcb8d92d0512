-- A small family of compilers, by which the board is tried. Two items save a page on their way and load the other's; they
-- save it before they load, or after.
use Rattle.std.specs.Prelude.{ℕ, zero, suc, ◌<◌, ◌≡◌, Bool, true, false, cond, ◌&&◌, not, List, [], ◌∷◌, Option, Some, None, is_some, nat_eq, Result, Ok, Err}
use Rattle.hk_chain.specs.declared.page.Page.{Page}
use Rattle.hk_chain.specs.declared.page.Kind.TheVariants as kinds
use Rattle.hk_chain.specs.Facts.{FactsView, TraceMark, group, save}
use Rattle.hk_chain.specs.Layout.{Shape}
use Rattle.hk_chain.specs.Counts.{layout_of}
use Rattle.hk_fix.specs.Pages.{Pages}
use Rattle.hk_fix.specs.Task.{Task, gives, asks, notes, saved, Run, run}
use Rattle.hk_fix.specs.Meaning.{Meaning}
use Rattle.hk_base.specs.declared.refusal.NoMemory.{NoMemory}
use Rattle.hk_fix.specs.declared.polled.Polled.{Polled}
use Rattle.hk_fix.specs.declared.polled.Polled.TheVariants as polled

abbrev pub mutual_shape : Shape
mutual_shape = layout_of (1 ∷ 1 ∷ [])

abbrev pub mutual_page : Page
mutual_page = record { kind = kinds.Text; body = [] }

abbrev pub own_pair : ℕ → ℕ
own_pair zero = 0
own_pair (suc n) = 2

abbrev pub last_pair : ℕ → ℕ
last_pair zero = 1
last_pair (suc n) = 3

abbrev pub other_pair : ℕ → ℕ
other_pair zero = 2
other_pair (suc n) = 0

abbrev pub mutual_task : Bool → ℕ → Task Page
mutual_task true i = notes (saved (own_pair i) mutual_page) (asks (other_pair i ∷ []) (λ xs. gives mutual_page))
mutual_task false i = asks (other_pair i ∷ []) (λ xs. notes (saved (own_pair i) mutual_page) (gives mutual_page))

abbrev pub mutual_run : Bool → ℕ → Pages → Run Page
mutual_run early i k = run (mutual_task early i) k

-- what a compiler of the family is
pub record MutualView : Type 0 where
  pub early : Bool
  pub item : ℕ
  pub told : Option Page
  pub is_saved : Bool
  pub is_asked : Bool
  pub is_ended : Bool
  pub is_spent : Bool

abbrev pub told_at : ℕ → Option Page → Pages
told_at p o q = cond (nat_eq p q) o None

abbrev pub left_of : ℕ → Option Page → List ℕ
left_of p None = p ∷ []
left_of p (Some x) = []

-- the last poll saved the page: the first family asks next, and the second ends
abbrev pub is_saving : MutualView → Bool
is_saving v = v.is_saved && not (cond v.early v.is_asked v.is_ended)

abbrev pub mutual_meaning : MutualView → Meaning Bool
mutual_meaning v =
    record {
      common = v.early;
      item = v.item;
      told = told_at (other_pair v.item) v.told;
      given = cond v.is_saved 1 0;
      awaits = cond v.is_asked (left_of (other_pair v.item) v.told) [];
      has_ended = v.is_ended;
      just_saved = is_saving v;
      is_spent = v.is_spent;
    }

-- a page is told after it was asked for; the first family saves before it asks, the second after it was told
pub record Fits (v : MutualView) : Type 0 where
  pub in_range : v.item < 2
  pub told : is_some v.told ≡ true → v.is_asked ≡ true
  pub first : v.early ≡ true → v.is_asked ≡ true → v.is_saved ≡ true
  pub second : v.early ≡ false → v.is_saved ≡ true → is_some v.told ≡ true
  pub ended : v.is_ended ≡ true → (is_some v.told ≡ true) × (v.is_saved ≡ true)

abbrev pub mutual_trace : Bool → ℕ → List TraceMark
mutual_trace true i = save (own_pair i) ∷ group (other_pair i ∷ []) ∷ save (last_pair i) ∷ []
mutual_trace false i = group (other_pair i ∷ []) ∷ save (own_pair i) ∷ save (last_pair i) ∷ []

-- what a compiler of the family used
abbrev pub mutual_facts : Bool → ℕ → FactsView
mutual_facts early i = record { asks = other_pair i ∷ []; patterns = []; trace = mutual_trace early i }

-- a page on the way is saved, or memory is wanting
abbrev pub Keeps : MutualView → Result Polled NoMemory → MutualView → Type 0
Keeps v (Ok p) n = (p ≡ polled.Saved (own_pair v.item) mutual_page) × (n ≡ record v { is_saved = true })
Keeps v (Err e) n = n ≡ record v { is_spent = true }

-- the page is finished, or memory is wanting
abbrev pub Finishes : MutualView → Result Polled NoMemory → MutualView → Type 0
Finishes v (Ok p) n = (p ≡ polled.Done mutual_page (mutual_facts v.early v.item)) × (n ≡ record v { is_ended = true })
Finishes v (Err e) n = n ≡ record v { is_spent = true }
