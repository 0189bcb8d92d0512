-- Where an identifier stands in a list whose identifiers ascend.
use Rattle.std.proofs.Common.{◌≡◌, ℕ, suc, zero, ◌+◌, ◌<◌, ◌≤◌, Bool, cond, List, [], ◌∷◌, length, get_or, Some, None, refl, sym, ap, ◌∙◌, arith, add-zero}
use Rattle.std.specs.List.{position_from, AllByRecursion}
use Rattle.std.specs.List.Sorted.{IsStrictlySortedBy}
use Rattle.std.specs.Map.{keys_of}
use Rattle.std.specs.Ordering.{is_eq, ordering_reverse}
use Rattle.std.specs.declared.cmp.Ordering.TheVariants.{Less, Equal, Greater}
use Rattle.hk_base.specs.Identifier.{Ident, ident_cmp}
use Rattle.hk_base.specs.IdentTies.{ident_cmp_total}
use Rattle.hk_rules.specs.declared.owner.Owner.{Owner}

abbrev Entry : Type 0
Entry = Ident × Owner

abbrev test : Ident → Entry → Bool
test q e = is_eq (ident_cmp q e.0)

pub none-all : (q : Ident) (k : ℕ) (es : List Entry) → AllByRecursion (λ y. ident_cmp q y ≡ Less) (keys_of es) → position_from (test q) k es ≡ None
none-all q k [] h = refl
none-all q k (e ∷ es) h = ap (λ o. cond (is_eq o) (Some k) (position_from (test q) (k + 1) es)) h.0 ∙ none-all q (k + 1) es h.1

all-above : (q x : Ident) (ys : List Ident) → ident_cmp q x ≡ Less → AllByRecursion (λ y. ident_cmp x y ≡ Less) ys → AllByRecursion (λ y. ident_cmp q y ≡ Less) ys
all-above q x [] l h = h
all-above q x (y ∷ ys) l h = (ident_cmp_total.trans q x y l h.0, all-above q x ys l h.1)

above-at : (x : Ident) (es : List Entry) (i : ℕ) (d : Entry) → i < length es → AllByRecursion (λ y. ident_cmp x y ≡ Less) (keys_of es) → ident_cmp x (get_or es i d).0 ≡ Less
above-at x [] i d h all = absurd (omega arith)
above-at x (e ∷ es) zero d h all = all.0
above-at x (e ∷ es) (suc i) d h all = above-at x es i d (omega arith) all.1

past : (q e z : Ident) → ident_cmp e z ≡ Less → ident_cmp q z ≡ Greater → ident_cmp q e ≡ Greater
past q e z l g =
    ident_cmp_total.antisymm q e
    ∙ ap ordering_reverse (ident_cmp_total.trans e z q l (ident_cmp_total.antisymm z q ∙ ap ordering_reverse g))

tied : (q e z : Ident) → ident_cmp e z ≡ Less → ident_cmp q z ≡ Equal → ident_cmp q e ≡ Greater
tied q e z l t = ident_cmp_total.congr q z e t ∙ ident_cmp_total.antisymm z e ∙ ap ordering_reverse l

pub hit : (q : Ident) (k : ℕ) (es : List Entry) (i : ℕ) (d : Entry) → IsStrictlySortedBy ident_cmp (keys_of es) → i < length es → ident_cmp q (get_or es i d).0 ≡ Equal → position_from (test q) k es ≡ Some (k + i)
unfolding IsStrictlySortedBy
hit q k [] i d s h t = absurd (omega arith)
hit q k (e ∷ es) zero d s h t = ap (λ o. cond (is_eq o) (Some k) (position_from (test q) (k + 1) es)) t ∙ ap Some (sym (add-zero k))
hit q k (e ∷ es) (suc i) d s h t =
    let within : i < length es = omega arith in
    let next : (k + 1) + i ≡ k + suc i = omega arith in
    ap (λ o. cond (is_eq o) (Some k) (position_from (test q) (k + 1) es)) (tied q e.0 (get_or es i d).0 (above-at e.0 es i d within s.0) t)
    ∙ hit q (k + 1) es i d s.1 within t
    ∙ ap Some next

greater-head : (q : Ident) (e : Entry) (es : List Entry) (j : ℕ) → AllByRecursion (λ y. ident_cmp e.0 y ≡ Less) (keys_of es) → j ≤ length es → ((m : ℕ) (d : Entry) → suc m ≡ suc j → ident_cmp q (get_or (e ∷ es) m d).0 ≡ Greater) → ident_cmp q e.0 ≡ Greater
greater-head q e es zero s h below = below zero e refl
greater-head q e es (suc j) s h below = past q e.0 (get_or es j e).0 (above-at e.0 es j e (omega arith) s) (below (suc j) e refl)

pub miss : (q : Ident) (k : ℕ) (es : List Entry) (i : ℕ) → IsStrictlySortedBy ident_cmp (keys_of es) → i ≤ length es → ((m : ℕ) (d : Entry) → suc m ≡ i → ident_cmp q (get_or es m d).0 ≡ Greater) → ((d : Entry) → i < length es → ident_cmp q (get_or es i d).0 ≡ Less) → position_from (test q) k es ≡ None
unfolding IsStrictlySortedBy
miss q k [] i s h below above = refl
miss q k (e ∷ es) zero s h below above =
    let less = above e (omega arith) in
    ap (λ o. cond (is_eq o) (Some k) (position_from (test q) (k + 1) es)) less ∙ none-all q (k + 1) es (all-above q e.0 (keys_of es) less s.0)
miss q k (e ∷ es) (suc j) s h below above =
    let within : j ≤ length es = omega arith in
    ap (λ o. cond (is_eq o) (Some k) (position_from (test q) (k + 1) es)) (greater-head q e es j s.0 within below)
    ∙ miss q (k + 1) es j s.1 within (λ m d is. below (suc m) d (ap suc is)) (λ d l. above d (omega arith))
