-- A small family of compilers, by which the trait is tried. Three items save a page, ask for two pages at once, and then
-- are done, or fail where they are the last.
use Rattle.std.specs.Prelude.{ℕ, zero, suc, Bool, true, false, cond, ◌&&◌, ◌||◌, not, List, [], ◌∷◌, length, Option, Some, None, is_some, nat_eq, ◌≡◌, ◌+◌, ◌<◌}
use Rattle.hk_chain.specs.declared.page.Page.{Page}
use Rattle.hk_chain.specs.declared.page.Kind.TheVariants as kinds
use Rattle.hk_chain.specs.declared.fault.Fault.TheVariants as faults
use Rattle.hk_chain.specs.Layout.{Shape}
use Rattle.hk_chain.specs.Counts.{layout_of}
use Rattle.hk_fix.specs.Pages.{Pages}
use Rattle.hk_fix.specs.Task.{Task, gives, fails, asks, notes, saved, Run, run}
use Rattle.hk_fix.specs.Facts.{is_in}
use Rattle.hk_fix.specs.Meaning.{Meaning}

abbrev pub sample_shape : Shape
sample_shape = layout_of (1 ∷ 1 ∷ 1 ∷ [])

abbrev pub empty_page : Page
empty_page = record { kind = kinds.Text; body = [] }

abbrev pub own_pair : ℕ → ℕ
own_pair zero = 0
own_pair (suc zero) = 2
own_pair (suc (suc n)) = 4

abbrev pub last_pair : ℕ → ℕ
last_pair zero = 1
last_pair (suc zero) = 3
last_pair (suc (suc n)) = 5

abbrev pub first_need : ℕ → ℕ
first_need zero = 2
first_need (suc zero) = 0
first_need (suc (suc n)) = 0

abbrev pub second_need : ℕ → ℕ
second_need zero = 4
second_need (suc zero) = 5
second_need (suc (suc n)) = 2

abbrev pub sample_end : ℕ → Task Page
sample_end zero = gives empty_page
sample_end (suc zero) = gives empty_page
sample_end (suc (suc n)) = fails faults.TooDeep

abbrev pub sample_task : ℕ → Task Page
sample_task i = notes (saved (own_pair i) empty_page) (asks (first_need i ∷ second_need i ∷ []) (λ xs. sample_end i))

abbrev pub sample_run : ℕ → Pages → Run Page
sample_run i k = run (sample_task i) k

abbrev pub told_of : ℕ → ℕ → Option Page → Option Page → Pages
told_of a b one two q = cond (nat_eq a q) one (cond (nat_eq b q) two None)

-- what is left of a group of two
abbrev pub left_of : ℕ → ℕ → Option Page → Option Page → List ℕ
left_of a b None None = a ∷ b ∷ []
left_of a b None (Some y) = a ∷ []
left_of a b (Some x) None = b ∷ []
left_of a b (Some x) (Some y) = []

-- what a compiler of the family is
pub record SampleView : Type 0 where
  pub item : ℕ
  pub one : Option Page
  pub two : Option Page
  pub is_saved : Bool
  pub is_asked : Bool
  pub is_ended : Bool
  pub is_spent : Bool
  pub seen : List ℕ

abbrev pub sample_told : SampleView → Pages
sample_told v = told_of (first_need v.item) (second_need v.item) v.one v.two

abbrev pub sample_meaning : SampleView → Meaning ℕ
sample_meaning v =
    record {
      common = 0;
      item = v.item;
      told = sample_told v;
      given = cond v.is_saved 1 0;
      awaits = cond v.is_asked (left_of (first_need v.item) (second_need v.item) v.one v.two) [];
      has_ended = v.is_ended;
      just_saved = v.is_saved && not v.is_asked;
      is_spent = v.is_spent;
    }

-- the pages were told after they were asked for, and these pairs were used
pub record Fits (v : SampleView) : Type 0 where
  pub in_range : v.item < 3
  pub early : v.is_asked ≡ false → (v.one ≡ None) × (v.two ≡ None)
  pub order : v.is_asked ≡ true → v.is_saved ≡ true
  pub count : length v.seen ≡ cond v.is_asked 1 0 + cond (is_some v.one) 1 0 + cond (is_some v.two) 1 0
  pub uses : (q : ℕ) → is_in v.seen q ≡ (is_some (sample_told v q) || (v.is_asked && nat_eq q (own_pair v.item)))
