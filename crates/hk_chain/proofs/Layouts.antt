-- The layout of counts is one.
use Rattle.std.proofs.Common.{◌≡◌, refl, sym, ap, ◌∙◌, subst, arith, ℕ, zero, suc, ◌+◌, ◌-◌, ◌<◌, ◌≤◌, ◌^◌, ◌⊎◌, inl, inr, List, [], ◌∷◌, ◌++◌, length, replicate, get_or, length-append, append_assoc, append-nil, drop, drop-cons}
use Rattle.std.proofs.Math.ListN.{drop_of_length-le}
use Rattle.std.proofs.lemmas.List.{length-replicate, get_or-replicate, get_or_append_left, get_or-append_right}
use Rattle.hk_chain.specs.Layout.{pairs, IsLayout}
use Rattle.hk_chain.specs.Counts.{pair_items, last_pairs, layout_of}

pub below-or-not : (a b : ℕ) → (a < b) ⊎ (b ≤ a)
below-or-not a b = grind arith

length-last_pairs : (p : ℕ) (cs : List ℕ) → length (last_pairs p cs) ≡ length cs
length-last_pairs p [] = refl
length-last_pairs p (c ∷ cs) = omega (arith, length-last_pairs (p + c + 1) cs)

pub front-at : (c i : ℕ) (rest : List ℕ) (q : ℕ) → q < c + 1 → get_or (replicate (c + 1) i ++ rest) q 0 ≡ i
front-at c i rest q lt = get_or_append_left (replicate (c + 1) i) rest 0 q (omega (arith, length-replicate (c + 1) i)) ∙ get_or-replicate (c + 1) q i 0 lt

pub back-at : (c i : ℕ) (rest : List ℕ) (q : ℕ) → c + 1 ≤ q → get_or (replicate (c + 1) i ++ rest) q 0 ≡ get_or rest (q - (c + 1)) 0
back-at c i rest q le = get_or-append_right (replicate (c + 1) i) rest (c + 1) q 0 (length-replicate (c + 1) i) le

-- whose a pair is, and that it is at most the item's last
pub whose : (i p : ℕ) (cs : List ℕ) (q : ℕ) → q < length (pair_items i cs) → (j : ℕ) × (get_or (pair_items i cs) q 0 ≡ i + j) × (j < length cs) × (p + q ≤ get_or (last_pairs p cs) j 0)
whose i p [] q lt = absurd (omega arith)
whose i p (c ∷ cs) q lt =
    elim (below-or-not q (c + 1)) [
      | inl l ↦ (0, front-at c i (pair_items (i + 1) cs) q l ∙ omega arith, omega arith, omega arith)
      | inr g ↦
          let r = whose (i + 1) (p + c + 1) cs (q - (c + 1)) (omega (arith, length-append (replicate (c + 1) i) (pair_items (i + 1) cs), length-replicate (c + 1) i)) in
          (suc r.0, back-at c i (pair_items (i + 1) cs) q g ∙ (r.1 ∙ omega arith), omega (arith, r.2), omega (arith, r.3))
    ]

-- where an item's last pair stands
pub last-at : (i p : ℕ) (cs : List ℕ) (j : ℕ) → j < length cs → (p ≤ get_or (last_pairs p cs) j 0) × (get_or (last_pairs p cs) j 0 < p + length (pair_items i cs)) × (get_or (pair_items i cs) (get_or (last_pairs p cs) j 0 - p) 0 ≡ i + j)
last-at i p [] j lt = absurd (omega arith)
last-at i p (c ∷ cs) zero lt =
    let at : p + c - p ≡ c = omega arith in
    (omega arith, omega (arith, length-append (replicate (c + 1) i) (pair_items (i + 1) cs), length-replicate (c + 1) i), ap (λ q. get_or (replicate (c + 1) i ++ pair_items (i + 1) cs) q 0) at ∙ (front-at c i (pair_items (i + 1) cs) c (omega arith) ∙ omega arith))
last-at i p (c ∷ cs) (suc j) lt =
    let r = last-at (i + 1) (p + c + 1) cs j (omega arith) in
    let f : ℕ = get_or (last_pairs (p + c + 1) cs) j 0 in
    let at : (f - p) - (c + 1) ≡ f - (p + c + 1) = omega (arith, r.0) in (
      omega (arith, r.0),
      omega (arith, r.1, length-append (replicate (c + 1) i) (pair_items (i + 1) cs), length-replicate (c + 1) i),
      back-at c i (pair_items (i + 1) cs) (f - p) (omega (arith, r.0)) ∙ (ap (λ q. get_or (pair_items (i + 1) cs) q 0) at ∙ (r.2 ∙ omega arith)),
    )

ordered : (i : ℕ) (cs : List ℕ) (q r : ℕ) → q ≤ r → r < length (pair_items i cs) → get_or (pair_items i cs) q 0 ≤ get_or (pair_items i cs) r 0
ordered i [] q r le lt = absurd (omega arith)
ordered i (c ∷ cs) q r le lt =
    elim (below-or-not r (c + 1)) [
      | inl l ↦ omega (arith, front-at c i (pair_items (i + 1) cs) q (omega arith), front-at c i (pair_items (i + 1) cs) r l)
      | inr g ↦
          let inside : r - (c + 1) < length (pair_items (i + 1) cs) = omega (arith, length-append (replicate (c + 1) i) (pair_items (i + 1) cs), length-replicate (c + 1) i) in
          elim (below-or-not q (c + 1)) [
            | inl l ↦ let w = whose (i + 1) 0 cs (r - (c + 1)) inside in omega (arith, front-at c i (pair_items (i + 1) cs) q l, back-at c i (pair_items (i + 1) cs) r g, w.1)
            | inr h ↦ omega (arith, back-at c i (pair_items (i + 1) cs) q h, back-at c i (pair_items (i + 1) cs) r g, ordered (i + 1) cs (q - (c + 1)) (r - (c + 1)) (omega arith) inside)
          ]
    ]

pub counts-layout : (counts : List ℕ) → length counts < 2 ^ 32 → pairs (layout_of counts) < 2 ^ 32 → IsLayout (layout_of counts)
counts-layout counts few pairs_fit =
    record {
      shape = record {
        in_items = λ p lt. let w = whose 0 0 counts p lt in omega (arith, w.1, w.2);
        in_order = λ p q le lt. ordered 0 counts p q le lt;
        finals = length-last_pairs 0 counts;
        in_pairs = λ i lt. let r = last-at 0 0 counts i lt in omega (arith, r.1);
        own_final = λ i lt. own i lt;
        final_last = λ p lt. last p lt;
      };
      few_items = few;
      few_pairs = pairs_fit;
    }
  where
    own : (i : ℕ) → i < length counts → get_or (pair_items 0 counts) (get_or (last_pairs 0 counts) i 0) 0 ≡ i
    own i lt =
        let r = last-at 0 0 counts i lt in
        let at : get_or (last_pairs 0 counts) i 0 ≡ get_or (last_pairs 0 counts) i 0 - 0 = omega arith in
        ap (λ q. get_or (pair_items 0 counts) q 0) at ∙ (r.2 ∙ omega arith)

    last : (p : ℕ) → p < length (pair_items 0 counts) → p ≤ get_or (last_pairs 0 counts) (get_or (pair_items 0 counts) p 0) 0
    last p lt =
        let w = whose 0 0 counts p lt in
        let at : get_or (pair_items 0 counts) p 0 ≡ w.0 = w.1 ∙ omega arith in
        subst (λ (j : ℕ). p ≤ get_or (last_pairs 0 counts) j 0) (sym at) (omega (arith, w.3))

-- the pairs so far fit
pub front-fits : (done rest all : List ℕ) → done ++ rest ≡ all → length done ≤ length all
front-fits done rest all e = omega (arith, length-append done rest, ap length e)

pub whole : (done rest all : List ℕ) → rest ≡ [] → done ++ rest ≡ all → done ≡ all
whole done rest all e w = sym (append-nil done) ∙ (ap (λ l. done ++ l) (sym e) ∙ w)

pub taken : (counts : List ℕ) (i : ℕ) → i < length counts → drop i counts ≡ get_or counts i 0 ∷ drop (i + 1) counts
taken counts i lt = let e : i + 1 ≡ suc i = omega arith in rw e (drop-cons counts i 0 lt)

pub nothing-left : (counts : List ℕ) (i : ℕ) → length counts ≤ i → drop i counts ≡ []
nothing-left counts i le = drop_of_length-le counts le

-- one item more
pub pairs-step : (counts : List ℕ) (i : ℕ) (done : List ℕ) → i < length counts → done ++ pair_items i (drop i counts) ≡ pair_items 0 counts → (done ++ replicate (get_or counts i 0 + 1) i) ++ pair_items (i + 1) (drop (i + 1) counts) ≡ pair_items 0 counts
pairs-step counts i done lt e =
    append_assoc done (replicate (get_or counts i 0 + 1) i) (pair_items (i + 1) (drop (i + 1) counts)) ∙ (ap (λ l. done ++ pair_items i l) (sym (taken counts i lt)) ∙ e)
