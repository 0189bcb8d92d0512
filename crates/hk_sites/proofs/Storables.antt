-- What the items of a plan leave is a store.
use Rattle.std.proofs.Common.{◌≡◌, ℕ, zero, suc, ◌<◌, Bool, true, false, ◌||◌, List, [], ◌∷◌, length, map, get_or, refl, ap, ◌∙◌, arith}
use Rattle.std.proofs.lemmas.List.{length-map}
use Rattle.std.specs.Prelude.{bytes_eq}
use Rattle.std.specs.List.{AllByRecursion}
use Rattle.std.specs.List.Sorted.{IsStrictlySortedBy}
use Rattle.std.specs.Map.{keys_of}
use Rattle.std.specs.declared.cmp.Ordering.TheVariants.{Less}
use Rattle.hk_base.specs.Bytes.{Bytes}
use Rattle.hk_base.specs.Identifier.{Ident, ident_cmp}
use Rattle.hk_base.specs.Ties.{bytes-self}
use Rattle.hk_chain.proofs.Spans.{layout-near}
use Rattle.hk_chain.specs.Layout.{pairs}
use Rattle.hk_chain.specs.Snapshots.{Ascending}
use Rattle.hk_eval.specs.PlanTable.{number_of, table_of}
use Rattle.hk_forms.specs.Names.{is_snapshot_name}
use Rattle.hk_rules.proofs.ItemNumbers.{matches_in-below, matches_in-rising}
use Rattle.hk_rules.proofs.PairNumbers.{linked-chain}
use Rattle.hk_rules.specs.MadePlan.{IsMadePlan}
use Rattle.hk_rules.specs.Pairs.{saves, count_of, counts, layout}
use Rattle.hk_chain.specs.Names.{final_name}
use Rattle.hk_rules.specs.Plan.{no_item, id_at, chain_at, pair_owner, pair_name_of, pattern_at, matches_in}
use Rattle.hk_rules.specs.PlanView.{PlanView}
use Rattle.hk_rules.specs.Universe.{Claim}
use Rattle.hk_store.specs.Stored.{is_page_name}
use Rattle.hk_reuse.specs.Storable.{AreStorable}
use Rattle.hk_sites.specs.PlanSite.{items_of}
use Rattle.hk_sites.proofs.PlanSites.{plan-shape, inside, are-items, final-key}

-- ---- names

or-true : (a : Bool) → (a || true) ≡ true
or-true true = refl
or-true false = refl

final-page : is_page_name final_name ≡ true
final-page = ap (λ b. is_snapshot_name final_name || b) (bytes-self final_name) ∙ or-true (is_snapshot_name final_name)

names-page : (names : List Bytes) → AllByRecursion (λ name. is_snapshot_name name ≡ true) names → (place : ℕ) → is_page_name (get_or names place final_name) ≡ true
names-page [] h place = final-page
names-page (name ∷ names) h zero = ap (λ b. b || bytes_eq name final_name) h.0
names-page (name ∷ names) h (suc place) = names-page names h.1 place

-- ---- identifiers

above-at : (x : Ident) (es : List Claim) (j : ℕ) → AllByRecursion (λ y. ident_cmp x y ≡ Less) (keys_of es) → j < length es → ident_cmp x (get_or es j no_item).0 ≡ Less
above-at x [] j h lt = absurd (omega arith)
above-at x (e ∷ es) zero h lt = h.0
above-at x (e ∷ es) (suc j) h lt = above-at x es j h.1 (omega arith)

ids-ascend : (es : List Claim) → IsStrictlySortedBy ident_cmp (keys_of es) → (i j : ℕ) → i < j → j < length es → ident_cmp (get_or es i no_item).0 (get_or es j no_item).0 ≡ Less
unfolding IsStrictlySortedBy
ids-ascend [] s i j lt less = absurd (omega arith)
ids-ascend (e ∷ es) s i zero lt less = absurd (omega arith)
ids-ascend (e ∷ es) s zero (suc j) lt less = above-at e.0 es j s.0 (omega arith)
ids-ascend (e ∷ es) s (suc i) (suc j) lt less = ids-ascend es s.1 i j (omega arith) (omega arith)

module _ (plan : PlanView) (made : IsMadePlan plan) where
  ascend : (i j : ℕ) → i < j → j < length plan.items → ident_cmp (id_at plan i) (id_at plan j) ≡ Less
  ascend = ids-ascend plan.items made.form.sorted

  ids-sorted : (ns : List ℕ) → AllByRecursion (λ n. n < length plan.items) ns → Ascending ns → IsStrictlySortedBy ident_cmp (map (id_at plan) ns)
  unfolding IsStrictlySortedBy
  ids-sorted [] h a = tt
  ids-sorted (n ∷ ns) h a = (each ns h.1 a.0, ids-sorted ns h.1 a.1)
    where
      each : (ms : List ℕ) → AllByRecursion (λ m. m < length plan.items) ms → AllByRecursion (λ m. n < m) ms → AllByRecursion (λ id. ident_cmp (id_at plan n) id ≡ Less) (map (id_at plan) ms)
      each [] below above = tt
      each (m ∷ ms) below above = (ascend n m above.0 below.0, each ms below.1 above.1)

  matches-sorted : (n : ℕ) → IsStrictlySortedBy ident_cmp (map (id_at plan) (matches_in plan.items (pattern_at plan n)))
  matches-sorted n = ids-sorted (matches_in plan.items (pattern_at plan n)) (matches_in-below plan.items (pattern_at plan n)) (matches_in-rising plan.items (pattern_at plan n))

  page-named : (p : ℕ) → p < pairs (layout plan.items) → is_page_name (pair_name_of plan p) ≡ true
  page-named p lt =
      let i = pair_owner plan p in
      let near = layout-near (counts plan.items) i p lt refl in
      let item : i < length plan.items = omega (arith, near.0, length-map plan.items count_of) in
      names-page (saves (chain_at plan i)) (linked-chain plan i made.linked item).saved _

  pub are-storable : AreStorable (items_of plan)
  unfolding table_of
  are-storable =
      record {
        shape = plan-shape plan made;
        numbers = are-items plan made;
        ascend = λ i j lt less. ascend i j lt (inside plan made j less);
        matches = λ by. matches-sorted (number_of plan by);
        owners = λ p lt. refl;
        names = page-named;
        finals = λ i lt. ap (λ key. key.name) (final-key plan made i (inside plan made i lt));
      }
