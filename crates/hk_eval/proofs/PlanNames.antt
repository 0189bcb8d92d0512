-- What a linked plan tells by names is what it tells by numbers.
use Rattle.std.proofs.Common.{◌≡◌, ℕ, ◌+◌, ◌<◌, Bool, true, false, List, [], ◌∷◌, length, map, nat_eq, eq-eqb, Option, Some, None, option_map, is_some, refl, sym, ap, ◌∙◌, arith}
use Rattle.std.specs.Prelude.{bytes_eq}
use Rattle.std.specs.Cmp.{tied_itself}
use Rattle.std.specs.List.{AllByRecursion, IsDistinct, position_from}
use Rattle.std.specs.Option.{option_and_then, unwrap_or}
use Rattle.std.specs.Ordering.{eq_by_cmp}
use Rattle.std.proofs.lemmas.List.{get_or-map, length-map}
use Rattle.hk_base.specs.Bytes.{Bytes}
use Rattle.hk_base.specs.Identifier.{Ident, ident_cmp}
use Rattle.hk_base.specs.IdentTies.{ident_cmp_total, idents-same}
use Rattle.hk_chain.specs.Layout.{pairs}
use Rattle.hk_chain.proofs.Spans.{layout-near}
use Rattle.hk_fix.specs.Table.{Key, IsTable}
use Rattle.hk_rules.specs.PatternText.{text_of}
use Rattle.hk_pattern.specs.declared.pattern.Pattern.TheVariants.{HasNoVersion}
use Rattle.hk_rules.specs.LinkedPlan.{IsLinkedPlan}
use Rattle.hk_rules.specs.Pairs.{layout, count_of, counts}
use Rattle.hk_rules.specs.Plan.{no_item, id_at, find_in, pair_of, pair_owner, pair_name_of, pattern_at, matches_in, lookups}
use Rattle.hk_eval.specs.PlanTable.{pattern_texts, traits_at, number_of, table_of, IsTableOf}
use Rattle.hk_rules.specs.PlanView.{PlanView, IsPlan}
use Rattle.hk_rules.proofs.ItemNumbers.{matches_in-below, matches_in-distinct, find_in-item}
use Rattle.hk_rules.proofs.PairNumbers.{position-distinct, pair_of-own, pair_name-of, pair_of-name}
use Rattle.hk_rules.proofs.Searching.{hit}

-- ---- the table

-- an item is found by its identifier
pub found-at : (plan : PlanView) → IsPlan plan → (i : ℕ) → i < length plan.items → find_in plan.items (id_at plan i) ≡ Some i
found-at plan is i lt =
    let place : 0 + i ≡ i = omega arith in
    hit (id_at plan i) 0 plan.items i no_item is.sorted lt (tied_itself ident_cmp_total (id_at plan i)) ∙ ap Some place

-- and a pattern by its text
pub number-at : (plan : PlanView) → IsLinkedPlan plan → (n : ℕ) → n < length plan.patterns → number_of plan (text_of (pattern_at plan n)) ≡ n
number-at plan linked n lt =
    let texts = pattern_texts plan in
    let within : n < length texts = omega (arith, lt, length-map plan.patterns text_of) in
    let place : 0 + n ≡ n = omega arith in
    ap (λ by. unwrap_or (position_from (λ own. bytes_eq own by) 0 texts) 0) (sym (get_or-map text_of plan.patterns n HasNoVersion [] lt))
    ∙ ap (λ o. unwrap_or o 0) (position-distinct texts n [] 0 linked.named.texts within)
    ∙ place

then-some : {X Y : Type 0} (f : X → Option Y) (o : Option X) (y : Y) → option_and_then f o ≡ Some y → (x : X) × (o ≡ Some x) × (f x ≡ Some y)
then-some f None y e = cc
then-some f (Some x) y e = (x, refl, e)

abbrev key_of : Ident → Bytes → Key
key_of id name = record { id = id; name = name }

module _ (plan : PlanView) (is : IsPlan plan) (linked : IsLinkedPlan plan) where
  abbrev pair_by : Key → Option ℕ
  pair_by key = option_and_then (λ item. pair_of plan item key.name) (find_in plan.items key.id)

  keyed : (key : Key) (p : ℕ) → pair_by key ≡ Some p → key_of (id_at plan (pair_owner plan p)) (pair_name_of plan p) ≡ key
  keyed key p e =
      let at = then-some (λ item. pair_of plan item key.name) (find_in plan.items key.id) p e in
      let item = find_in-item plan.items key.id at.0 at.1 in
      let own = pair_of-own plan at.0 key.name p item.0 at.2 in
      ap (λ i. key_of (id_at plan i) (pair_name_of plan p)) own.1
      ∙ ap (λ id. key_of id (pair_name_of plan p)) (item.1 no_item)
      ∙ ap (key_of key.id) (pair_name-of plan at.0 key.name p item.0 at.2)

  within : (key : Key) (p : ℕ) → pair_by key ≡ Some p → p < pairs (layout plan.items)
  within key p e =
      let at = then-some (λ item. pair_of plan item key.name) (find_in plan.items key.id) p e in
      (pair_of-own plan at.0 key.name p (find_in-item plan.items key.id at.0 at.1).0 at.2).0

  there : (key : Key) (p : ℕ) → pair_by key ≡ Some p → is_some (find_in plan.items key.id) ≡ true
  there key p e = ap is_some (then-some (λ item. pair_of plan item key.name) (find_in plan.items key.id) p e).1

  placed : (p : ℕ) → p < pairs (layout plan.items) → pair_by (key_of (id_at plan (pair_owner plan p)) (pair_name_of plan p)) ≡ Some p
  placed p lt =
      let i = pair_owner plan p in
      let near = layout-near (counts plan.items) i p lt refl in
      let item : i < length plan.items = omega (arith, near.0, length-map plan.items count_of) in
      ap (option_and_then (λ j. pair_of plan j (pair_name_of plan p))) (found-at plan is i item) ∙ pair_of-name plan p linked lt

  pub plan-is_table : IsTable (table_of plan)
  unfolding table_of
  plan-is_table = record { keyed = keyed; within = within; item = there; placed = placed }

  -- the items that a pattern matches, found by its text
  matched-at : (n : ℕ) → n < length plan.patterns → map (id_at plan) (matches_in plan.items (pattern_at plan (number_of plan (text_of (pattern_at plan n))))) ≡ map (id_at plan) (matches_in plan.items (pattern_at plan n))
  matched-at n lt = ap (λ m. map (id_at plan) (matches_in plan.items (pattern_at plan m))) (number-at plan linked n lt)

  -- items with different numbers have different identifiers
  differ : (n m : ℕ) → n < length plan.items → m < length plan.items → nat_eq n m ≡ false → (b : Bool) → eq_by_cmp ident_cmp (id_at plan n) (id_at plan m) ≡ b → b ≡ false
  differ n m lt less e true w =
      let same : Some n ≡ Some m = sym (found-at plan is n lt) ∙ (ap (find_in plan.items) (idents-same (id_at plan n) (id_at plan m) w) ∙ found-at plan is m less) in
      let equal : n ≡ m = cc in
      let clash : nat_eq n m ≡ true = eq-eqb n m equal in cc
  differ n m lt less e false w = refl

  ids-apart : (ns : List ℕ) → AllByRecursion (λ n. n < length plan.items) ns → IsDistinct nat_eq ns → IsDistinct (eq_by_cmp ident_cmp) (map (id_at plan) ns)
  unfolding IsDistinct
  ids-apart [] h d = tt
  ids-apart (n ∷ ns) h d = (each ns h.1 d.0, ids-apart ns h.1 d.1)
    where
      each : (ms : List ℕ) → AllByRecursion (λ m. m < length plan.items) ms → AllByRecursion (λ m. nat_eq n m ≡ false) ms → AllByRecursion (λ id. eq_by_cmp ident_cmp (id_at plan n) id ≡ false) (map (id_at plan) ms)
      each [] below e = tt
      each (m ∷ ms) below e = (differ n m h.0 below.0 e.0 (eq_by_cmp ident_cmp (id_at plan n) (id_at plan m)) refl, each ms below.1 e.1)

  pub plan-is_told : IsTableOf (lookups plan) (length plan.items) (length plan.patterns) (table_of plan)
  unfolding table_of lookups
  plan-is_told =
      record {
        find = λ id. refl;
        pair = λ key. refl;
        found = found-at plan is;
        traits = λ i lt. ap (λ o. unwrap_or (option_map (traits_at plan) o) (record { target = None; meta = [] })) (found-at plan is i lt);
        number = number-at plan linked;
        pattern = λ n lt. refl;
        matches = matched-at;
        matched = λ n. matches_in-below plan.items (pattern_at plan n);
        apart = λ by. ids-apart (matches_in plan.items (pattern_at plan (number_of plan by))) (matches_in-below plan.items (pattern_at plan (number_of plan by))) (matches_in-distinct plan.items (pattern_at plan (number_of plan by)));
      }
