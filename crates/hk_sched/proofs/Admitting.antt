-- A compiler may come back where each pair that it used is known.
use Rattle.std.proofs.Common.{◌≡◌, refl, sym, ◌∙◌, ℕ, Bool, true, false, ◌||◌, inl, inr, List, [], ◌∷◌, is_some, nat_eq, eqb-true, eq-eqb, Contains}
use Rattle.std.specs.List.{list_all}
use Rattle.hk_chain.specs.declared.page.Page.{Page}
use Rattle.hk_chain.specs.Kept.{at_place}
use Rattle.hk_fix.specs.Calls.{Lists}
use Rattle.hk_fix.specs.Facts.{is_in}
use Rattle.hk_fix.specs.Meaning.{Meaning}
use Rattle.hk_fix.specs.Pages.{Pages}
use Rattle.hk_fix.specs.Task.{Run}
use Rattle.hk_fix.proofs.Orders.{decide}
use Rattle.hk_fix.proofs.Steps.{contains-in, in-contains}
use Rattle.hk_base.proofs.Both.{left-part, right-part, both-true}
use Rattle.hk_sched.specs.Standings.{out}
use Rattle.hk_sched.specs.Board.{BoardView, place_at, Admits}

all-passes : (test : ℕ → Bool) (xs : List ℕ) (p : ℕ) → list_all test xs ≡ true → is_in xs p ≡ true → test p ≡ true
all-passes test [] p e h = cc
all-passes test (x ∷ xs) p e h =
    elim (decide (nat_eq p x)) [
      | inl t ↦ rw (eqb-true p x t) (left-part (test x) (list_all test xs) e)
      | inr f ↦ all-passes test xs p (right-part (test x) (list_all test xs) e) (rw f at h)
    ]

passes-all : (test : ℕ → Bool) (xs : List ℕ) → ((p : ℕ) → is_in xs p ≡ true → test p ≡ true) → list_all test xs ≡ true
passes-all test [] h = refl
passes-all test (x ∷ xs) h = both-true (test x) (list_all test xs) (h x (rw (eq-eqb x x refl) refl)) (passes-all test xs (λ p e. h p (elim (nat_eq p x) as (λ b. (b || is_in xs p) ≡ true) [ true ↦ refl | false ↦ e ])))

module _ {X C : Type 0} (run : C → ℕ → Pages → Run Page) (b : BoardView X C) (m : Meaning C) (used : List ℕ) (lists : Lists run m used) (is-out : place_at b m.item ≡ out) where
  pub admits-iff : (r : Bool) → r ≡ list_all (λ p. is_some (at_place b.known p)) used → (r ≡ true → Admits run b m) × (Admits run b m → r ≡ true)
  admits-iff r e = (
    λ t. record {
      is-out = is-out;
      backed = record {
        told = λ p h. known t p ((lists p).1 (inl h));
        gave = λ p h. known t p ((lists p).1 (inr h));
      };
    },
    λ a. e ∙ passes-all (λ p. is_some (at_place b.known p)) used (λ p h. elim ((lists p).0 (in-contains used p h)) [ inl w ↦ a.backed.told p w | inr w ↦ a.backed.gave p w ]),
  )
    where
      known : r ≡ true → (p : ℕ) → Contains used p → is_some (at_place b.known p) ≡ true
      known t p h = all-passes (λ q. is_some (at_place b.known q)) used p (sym e ∙ t) (contains-in used p h)
