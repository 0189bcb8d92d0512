-- A plan's items are such as entries are held against, and a store's entries are well formed.
use Rattle.std.proofs.Common.{◌≡◌, refl, sym, ap, subst, ◌∙◌, arith, ℕ, ◌<◌, Bool, true, false, cond, List, [], ◌∷◌, ◌++◌, length, map, Option, Some}
use Rattle.std.specs.List.{AllByRecursion, IsDistinct}
use Rattle.std.specs.Option.{option_and_then, unwrap_or}
use Rattle.std.specs.Ordering.{eq_by_cmp}
use Rattle.std.proofs.lemmas.List.{length-map}
use Rattle.hk_base.specs.Bytes.{Bytes}
use Rattle.hk_base.specs.Identifier.{Ident, ident_cmp}
use Rattle.hk_chain.specs.declared.page.Page.{Page}
use Rattle.hk_chain.specs.Snapshots.{AreSnapshots}
use Rattle.hk_eval.specs.PlanTable.{table_of}
use Rattle.hk_eval.proofs.PlanNames.{found-at, plan-is_table}
use Rattle.hk_fix.specs.Table.{same_key}
use Rattle.hk_rules.specs.LinkedPlan.{IsLinkedPlan, snapshots_of}
use Rattle.hk_rules.specs.Pairs.{saves, layout, count_of}
use Rattle.hk_rules.specs.Plan.{no_item, id_at, chain_at, find_in, pair_of}
use Rattle.hk_rules.specs.PlanView.{PlanView, IsPlan}
use Rattle.hk_rules.proofs.ItemNumbers.{find_in-item}
use Rattle.hk_rules.proofs.PairNumbers.{pairs_of-saves, plan-snapshots}
use Rattle.hk_store.specs.Entry.{MarkView, asked, stored, EntryView}
use Rattle.hk_store.specs.Stored.{asked_keys, keys_of_asks, IsEntry, IsStored}
use Rattle.hk_reuse.specs.Entries.{entries_in, AskOnce, LastSaves, IsFormed, AreFormed}
use Rattle.hk_reuse.specs.Site.{AreItems}
use Rattle.hk_replay.specs.PlanItems.{items_of}

-- ---- the items of a plan

all-pairs : (f g : Bytes → Option ℕ) → ((name : Bytes) → f name ≡ g name) → (names : List Bytes) (ps : List ℕ) → map g names ≡ map Some ps → map (λ name. unwrap_or (f name) 0) names ≡ ps
all-pairs f g same [] [] e = refl
all-pairs f g same [] (p ∷ ps) e = cc
all-pairs f g same (name ∷ names) [] e = cc
all-pairs f g same (name ∷ names) (p ∷ ps) e =
    let first : g name ≡ Some p = cc in
    let rest : map g names ≡ map Some ps = cc in
    rw (same name ∙ first, all-pairs f g same names ps rest) refl

module _ (plan : PlanView) (is : IsPlan plan) (linked : IsLinkedPlan plan) where
  abbrev named_pair : ℕ → Bytes → Option ℕ
  named_pair i name = option_and_then (λ item. pair_of plan item name) (find_in plan.items (id_at plan i))

  inside : (i : ℕ) → i < (layout plan.items).items → i < length plan.items
  inside i lt = omega (arith, lt, length-map plan.items count_of)

  in-order : (i : ℕ) → i < length plan.items → AreSnapshots (layout plan.items) i (map (λ name. unwrap_or (named_pair i name) 0) (saves (chain_at plan i)))
  in-order i lt =
      subst (AreSnapshots (layout plan.items) i)
      (sym (all-pairs (named_pair i) (pair_of plan i) (λ name. ap (option_and_then (λ item. pair_of plan item name)) (found-at plan is i lt)) (saves (chain_at plan i)) (snapshots_of plan i) (pairs_of-saves plan i linked lt)))
      (plan-snapshots plan i lt)

  found : (id : Ident) (i : ℕ) → find_in plan.items id ≡ Some i → (i < (layout plan.items).items) × (id_at plan i ≡ id)
  found id i e = let at = find_in-item plan.items id i e in (omega (arith, at.0, length-map plan.items count_of), at.1 no_item)

  pub plan-items : AreItems (items_of plan)
  unfolding table_of
  plan-items =
      record {
        table = plan-is_table plan is linked;
        in_order = λ i lt. in-order i (inside i lt);
        found = found;
        numbered = λ i lt. found-at plan is i (inside i lt);
      }

-- ---- the entries of a store

module _ {A : Type 0} (eq : A → A → Bool) where
  all-left : (P : A → Type 0) (xs ys : List A) → AllByRecursion P (xs ++ ys) → AllByRecursion P xs
  all-left P [] ys h = tt
  all-left P (x ∷ xs) ys h = (h.0, all-left P xs ys h.1)

  distinct-left : (xs ys : List A) → IsDistinct eq (xs ++ ys) → IsDistinct eq xs
  unfolding IsDistinct
  distinct-left [] ys d = tt
  distinct-left (x ∷ xs) ys d = (all-left (λ y. eq x y ≡ false) xs ys d.0, distinct-left xs ys d.1)

  distinct-right : (xs ys : List A) → IsDistinct eq (xs ++ ys) → IsDistinct eq ys
  unfolding IsDistinct
  distinct-right [] ys d = d
  distinct-right (x ∷ xs) ys d = distinct-right xs ys d.1

once-each : (marks : List MarkView) → IsDistinct same_key (asked_keys marks) → AskOnce marks
once-each [] d = tt
once-each (asked views ∷ marks) d = (distinct-left same_key (keys_of_asks views) (asked_keys marks) d, once-each marks (distinct-right same_key (keys_of_asks views) (asked_keys marks) d))
once-each (stored name page ∷ marks) d = once-each marks d

last-saves : (front : List MarkView) (name : Bytes) (page : Page) → LastSaves (front ++ stored name page ∷ [])
last-saves [] name page = tt
last-saves (m ∷ []) name page = tt
last-saves (m ∷ k ∷ front) name page = last-saves (k ∷ front) name page

formed-each : (entries : List EntryView) → AllByRecursion IsEntry entries → (id : Ident) (e : EntryView) → entries_in entries id ≡ Some e → IsFormed e
formed-each [] h id e w = cc
formed-each (x ∷ entries) h id e w = at (eq_by_cmp ident_cmp id x.id) w (λ v. formed-each entries h.1 id e v)
  where
    at : (b : Bool) → cond b (Some x) (entries_in entries id) ≡ Some e → (entries_in entries id ≡ Some e → IsFormed e) → IsFormed e
    at true v f = let same : x ≡ e = cc in subst IsFormed same (record { once = once-each x.marks h.0.asks; last = subst LastSaves (sym h.0.last.2) (last-saves h.0.last.0 _ h.0.last.1) })
    at false v f = f v

pub stores-formed : (entries : List EntryView) → IsStored entries → AreFormed (entries_in entries)
stores-formed entries is = formed-each entries is.each
