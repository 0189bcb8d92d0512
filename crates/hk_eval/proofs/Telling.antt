-- Pages that are told.
use Rattle.std.proofs.Common.{◌≡◌, refl, sym, ap, ◌∙◌, subst, arith, ℕ, ◌+◌, ◌<◌, List, [], ◌∷◌, ◌++◌, length, take, get_or, true, false, cond, Option, Some, None, is_some, nat_eq, nat_lt, eqb-true, eq-eqb}
use Rattle.std.specs.List.{AllByRecursion}
use Rattle.std.proofs.lemmas.List.{take_more}
use Rattle.std.specs.Ordering.{nat_cmp, is_eq}
use Rattle.std.specs.declared.cmp.Ordering.TheVariants.{Equal, Greater}
use Rattle.hk_chain.specs.declared.page.Page.{Page}
use Rattle.hk_fix.specs.Pages.{tell}
use Rattle.hk_eval.specs.Told.{ToldView, entry_of, page_in, told_pages, is_listed}

pub same-key : (p q : ℕ) → is_eq (nat_cmp p q) ≡ nat_eq p q
same-key p q =
    elim (nat_lt p q) as (λ b. nat_lt p q ≡ b → is_eq (nat_cmp p q) ≡ nat_eq p q) [
      | true ↦ λ e. let f : nat_eq p q ≡ false = grind (arith, e) in rw (e, f) refl
      | false ↦ λ e. rw e (elim (nat_eq p q) as (λ b. is_eq (cond b Equal Greater) ≡ b) [ true ↦ refl | false ↦ refl ])
    ] refl

-- an entry was put at a pair
module _ (old new : ToldView) (pair : ℕ) (entry : Option Page) (puts : (q : ℕ) → entry_of new q ≡ cond (is_eq (nat_cmp pair q)) (Some entry) (entry_of old q)) where
  entry-at : (q : ℕ) → entry_of new q ≡ cond (nat_eq pair q) (Some entry) (entry_of old q)
  entry-at q = puts q ∙ ap (λ b. cond b (Some entry) (entry_of old q)) (same-key pair q)

  pub room-pages : entry ≡ None → told_pages old pair ≡ None → (q : ℕ) → told_pages new q ≡ told_pages old q
  room-pages none was q =
      ap page_in (entry-at q) ∙ elim (nat_eq pair q) as (λ b. nat_eq pair q ≡ b → page_in (cond b (Some entry) (entry_of old q)) ≡ told_pages old q) [
        | true ↦ λ e. none ∙ (sym was ∙ ap (told_pages old) (eqb-true pair q e))
        | false ↦ λ e. refl
      ] refl

  pub tell-pages : (page : Page) → entry ≡ Some page → (q : ℕ) → told_pages new q ≡ tell (told_pages old) pair page q
  tell-pages page some q =
      ap page_in (entry-at q) ∙ elim (nat_eq pair q) as (λ b. page_in (cond b (Some entry) (entry_of old q)) ≡ cond b (Some page) (told_pages old q)) [ true ↦ some | false ↦ refl ]

  pub put-listed : is_listed new pair ≡ true
  put-listed = ap is_some (entry-at pair) ∙ ap (λ b. is_some (cond b (Some entry) (entry_of old pair))) (eq-eqb pair pair refl)

  pub kept-listed : (q : ℕ) → is_listed old q ≡ true → is_listed new q ≡ true
  kept-listed q e =
      ap is_some (entry-at q) ∙ elim (nat_eq pair q) as (λ b. is_some (cond b (Some entry) (entry_of old q)) ≡ true) [ true ↦ refl | false ↦ e ]

-- the same where the entries and the pair are known by other names
module _ (was old new : ToldView) (key pair : ℕ) (entry : Option Page) (view : was ≡ old) (same : key ≡ pair) (puts : (q : ℕ) → entry_of new q ≡ cond (is_eq (nat_cmp key q)) (Some entry) (entry_of was q)) where
  pub named : (q : ℕ) → entry_of new q ≡ cond (is_eq (nat_cmp pair q)) (Some entry) (entry_of old q)
  named q = puts q ∙ (ap (λ p. cond (is_eq (nat_cmp p q)) (Some entry) (entry_of was q)) same ∙ ap (λ t. cond (is_eq (nat_cmp pair q)) (Some entry) (entry_of t q)) view)

-- rooms made one after another
pub list-turn : (start now later : ToldView) (ps : List ℕ) (i p : ℕ) → i < length ps → p ≡ get_or ps i p → ((q : ℕ) → told_pages now q ≡ told_pages start q) × AllByRecursion (λ r. is_listed now r ≡ true) (take i ps) → ((q : ℕ) → told_pages later q ≡ told_pages now q) → is_listed later p ≡ true → ((q : ℕ) → is_listed now q ≡ true → is_listed later q ≡ true)
    → ((q : ℕ) → told_pages later q ≡ told_pages start q) × AllByRecursion (λ r. is_listed later r ≡ true) (take (i + 1) ps)
list-turn start now later ps i p lt at was same here kept =
    let next : take (i + 1) ps ≡ take i ps ++ p ∷ [] = take_more ps i p lt ∙ ap (λ x. take i ps ++ x ∷ []) (sym at) in
    (λ q. same q ∙ was.0 q, subst (AllByRecursion (λ r. is_listed later r ≡ true)) (sym next) (more (take i ps) was.1))
  where
    more : (qs : List ℕ) → AllByRecursion (λ r. is_listed now r ≡ true) qs → AllByRecursion (λ r. is_listed later r ≡ true) (qs ++ p ∷ [])
    more [] h = (here, tt)
    more (q ∷ qs) h = (kept q h.0, more qs h.1)
