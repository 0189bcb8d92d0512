-- Which pairs an item has in the layout of counts.
use Rattle.std.proofs.Common.{◌≡◌, ◌≢◌, ℕ, zero, suc, ◌+◌, ◌-◌, ◌<◌, ◌≤◌, inl, inr, true, false, ◌||◌, List, [], ◌∷◌, length, replicate, get_or, nat_eq, refl, sym, ap, ◌∙◌, subst, arith, length-append, eq-eqb}
use Rattle.std.specs.List.{AllByRecursion, list_any, range_with_len}
use Rattle.std.proofs.lemmas.List.{length-replicate}
use Rattle.hk_base.proofs.Both.{not-both}
use Rattle.hk_chain.specs.Counts.{pair_items, last_pairs, layout_of}
use Rattle.hk_chain.specs.Layout.{pairs, item_of, final_of}
use Rattle.hk_chain.specs.Snapshots.{Ascending, AreSnapshots}
use Rattle.hk_chain.proofs.Layouts.{below-or-not, front-at, back-at, whose, last-at}

-- an item's last pair has its count of pairs before it
span-low : (p : ℕ) (cs : List ℕ) (j : ℕ) → j < length cs → p + get_or cs j 0 ≤ get_or (last_pairs p cs) j 0
span-low p [] j lt = absurd (omega arith)
span-low p (c ∷ cs) zero lt = omega arith
span-low p (c ∷ cs) (suc j) lt = omega (arith, span-low (p + c + 1) cs j (omega arith))

span-own : (i p : ℕ) (cs : List ℕ) (j q : ℕ) → j < length cs → p ≤ q → q ≤ get_or (last_pairs p cs) j 0 → get_or (last_pairs p cs) j 0 ≤ q + get_or cs j 0 → get_or (pair_items i cs) (q - p) 0 ≡ i + j
span-own i p [] j q lt low high near = absurd (omega arith)
span-own i p (c ∷ cs) zero q lt low high near = front-at c i (pair_items (i + 1) cs) (q - p) (omega arith) ∙ omega arith
span-own i p (c ∷ cs) (suc j) q lt low high near =
    let under = span-low (p + c + 1) cs j (omega arith) in
    let at : (q - p) - (c + 1) ≡ q - (p + c + 1) = omega arith in
    let rest = span-own (i + 1) (p + c + 1) cs j q (omega arith) (omega arith) high near in
    back-at c i (pair_items (i + 1) cs) (q - p) (omega arith) ∙ (ap (λ k. get_or (pair_items (i + 1) cs) k 0) at ∙ (rest ∙ omega arith))

span-near : (i p : ℕ) (cs : List ℕ) (j q : ℕ) → j < length cs → q < length (pair_items i cs) → get_or (pair_items i cs) q 0 ≡ i + j → get_or (last_pairs p cs) j 0 ≤ p + q + get_or cs j 0
span-near i p [] j q lt within is = absurd (omega arith)
span-near i p (c ∷ cs) zero q lt within is = omega arith
span-near i p (c ∷ cs) (suc j) q lt within is =
    elim (below-or-not q (c + 1)) [
      | inl l ↦ absurd (omega (arith, front-at c i (pair_items (i + 1) cs) q l))
      | inr g ↦
          let inside : q - (c + 1) < length (pair_items (i + 1) cs) = omega (arith, length-append (replicate (c + 1) i) (pair_items (i + 1) cs), length-replicate (c + 1) i) in
          let there : get_or (pair_items (i + 1) cs) (q - (c + 1)) 0 ≡ (i + 1) + j = sym (back-at c i (pair_items (i + 1) cs) q g) ∙ (is ∙ omega arith) in
          omega (arith, span-near (i + 1) (p + c + 1) cs j (q - (c + 1)) (omega arith) inside there)
    ]

-- ---- an item's pairs

-- an item's last pair has its count of pairs before it
pub layout-low : (counts : List ℕ) (i : ℕ) → i < length counts → get_or counts i 0 ≤ final_of (layout_of counts) i
layout-low counts i lt = omega (arith, span-low 0 counts i lt)

pub layout-final : (counts : List ℕ) (i : ℕ) → i < length counts → final_of (layout_of counts) i < pairs (layout_of counts)
layout-final counts i lt = let r = last-at 0 0 counts i lt in omega (arith, r.1)

-- and these are its own
pub layout-own : (counts : List ℕ) (i p : ℕ) → i < length counts → p ≤ final_of (layout_of counts) i → final_of (layout_of counts) i ≤ p + get_or counts i 0 → item_of (layout_of counts) p ≡ i
layout-own counts i p lt high near =
    let at : p ≡ p - 0 = omega arith in
    ap (λ k. get_or (pair_items 0 counts) k 0) at ∙ (span-own 0 0 counts i p lt (omega arith) high near ∙ omega arith)

-- it has no others
pub layout-near : (counts : List ℕ) (i p : ℕ) → p < pairs (layout_of counts) → item_of (layout_of counts) p ≡ i → (i < length counts) × (p ≤ final_of (layout_of counts) i) × (final_of (layout_of counts) i ≤ p + get_or counts i 0)
layout-near counts i p lt is =
    let w = whose 0 0 counts p lt in
    let same : w.0 ≡ i = omega (arith, w.1, is) in
    let within : i < length counts = omega (arith, w.2) in
    let below : p ≤ get_or (last_pairs 0 counts) i 0 = subst (λ (j : ℕ). p ≤ get_or (last_pairs 0 counts) j 0) same (omega (arith, w.3)) in
    let near = span-near 0 0 counts i p within lt (is ∙ omega arith) in
    (within, below, omega (arith, near))

-- ---- the pairs before an item's last

pub range-all : (P : ℕ → Type 0) (a n : ℕ) → ((q : ℕ) → a ≤ q → q < a + n → P q) → AllByRecursion P (range_with_len a n)
range-all P a zero h = tt
range-all P a (suc n) h = (h a (omega arith) (omega arith), range-all P (a + 1) n (λ q low high. h q (omega arith) (omega arith)))

pub range-rising : (a n : ℕ) → Ascending (range_with_len a n)
range-rising a zero = tt
range-rising a (suc n) = (range-all (λ q. a < q) (a + 1) n (λ q low high. omega arith), range-rising (a + 1) n)

pub range-has : (p a n : ℕ) → a ≤ p → p < a + n → list_any (nat_eq p) (range_with_len a n) ≡ true
range-has p a zero low high = absurd (omega arith)
range-has p a (suc n) low high = elim (nat_eq p a) as (λ b. nat_eq p a ≡ b → (b || list_any (nat_eq p) (range_with_len (a + 1) n)) ≡ true) [
  | true ↦ λ e. refl
  | false ↦ λ e. elim (below-or-not a p) [
    | inl l ↦ range-has p (a + 1) n (omega arith) (omega arith)
    | inr g ↦ not-both (nat_eq p a) (eq-eqb p a (omega arith)) e
  ]
] refl

-- as many pairs as an item counts, up to its last
pub layout-snapshots : (counts : List ℕ) (i : ℕ) → i < length counts → AreSnapshots (layout_of counts) i (range_with_len (final_of (layout_of counts) i - get_or counts i 0) (get_or counts i 0))
layout-snapshots counts i lt =
    let last : ℕ = final_of (layout_of counts) i in
    let count : ℕ = get_or counts i 0 in
    let low = layout-low counts i lt in
    let in_pairs = layout-final counts i lt in
    record {
      own = range-all (λ p. (p < pairs (layout_of counts)) × (item_of (layout_of counts) p ≡ i) × (p ≢ last)) (last - count) count (λ q from below. (omega arith, layout-own counts i q lt (omega arith) (omega arith), λ e. absurd (omega arith)));
      rising = range-rising (last - count) count;
      all = λ p within is other. let near = layout-near counts i p within is in range-has p (last - count) count (omega (arith, near.2)) (under p near.1 other);
    }
  where
    under : (p : ℕ) → p ≤ final_of (layout_of counts) i → p ≢ final_of (layout_of counts) i → p < (final_of (layout_of counts) i - get_or counts i 0) + get_or counts i 0
    under p le other = elim (below-or-not p (final_of (layout_of counts) i)) [
      | inl l ↦ omega (arith, layout-low counts i lt)
      | inr g ↦ absurd (other (omega arith))
    ]
