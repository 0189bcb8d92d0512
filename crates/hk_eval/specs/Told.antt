-- The pages that were answered.
use Rattle.std.specs.Prelude.{◌≡◌, ℕ, Bool, true, List, Option, Some, None, is_some}
use Rattle.std.specs.List.{AllByRecursion}
use Rattle.std.specs.Map.{lookup}
use Rattle.std.specs.Ordering.{nat_cmp, is_eq}
use Rattle.hk_chain.specs.declared.page.Page.{Page}
use Rattle.hk_fix.specs.Pages.{Pages}

-- the asked pairs, each with its page once it was answered
abbrev pub ToldView : Type 0
ToldView = List (ℕ × Option Page)

abbrev pub entry_of : ToldView → ℕ → Option (Option Page)
entry_of told pair = lookup (λ key. is_eq (nat_cmp pair key)) told

abbrev pub page_in : Option (Option Page) → Option Page
page_in None = None
page_in (Some o) = o

abbrev pub told_pages : ToldView → Pages
told_pages told pair = page_in (entry_of told pair)

-- whether a page has its room
abbrev pub is_listed : ToldView → ℕ → Bool
is_listed told pair = is_some (entry_of told pair)

-- the pages of all these pairs are told
abbrev pub AllTold : Pages → List ℕ → Type 0
AllTold k pairs = AllByRecursion (λ p. is_some (k p) ≡ true) pairs
