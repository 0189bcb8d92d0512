-- The pages that are known, by the numbers of their pairs.
use Rattle.std.specs.Prelude.{◌≡◌, ℕ, cond, List, [], ◌∷◌, ◌++◌, Option, Some, None, is_none, nat_eq, filter}
use Rattle.hk_chain.specs.declared.page.Page.{Page}

abbrev pub Pages : Type 0
Pages = ℕ → Option Page

-- more pages may be known, and those that were are the same
abbrev pub Extends : Pages → Pages → Type 0
Extends known more = (p : ℕ) (x : Page) → known p ≡ Some x → more p ≡ Some x

-- one list begins as the other
abbrev pub Begins : {A : Type 0} → List A → List A → Type 0
Begins {A} xs ys = (rest : List A) × (ys ≡ xs ++ rest)

-- the pairs that aren't known
abbrev pub lacking : Pages → List ℕ → List ℕ
lacking k ps = filter (λ p. is_none (k p)) ps

abbrev pub with_page : Option Page → Option (List Page) → Option (List Page)
with_page (Some x) (Some xs) = Some (x ∷ xs)
with_page (Some x) None = None
with_page None xs = None

-- the pages of all these pairs, if each is known
abbrev pub all_pages : Pages → List ℕ → Option (List Page)
all_pages k [] = Some []
all_pages k (p ∷ ps) = with_page (k p) (all_pages k ps)

-- these pages, and this one for a pair
abbrev pub tell : Pages → ℕ → Page → Pages
tell k p x = λ q. cond (nat_eq p q) (Some x) (k q)

abbrev pub no_page : Pages
no_page p = None
