-- Entries looked up in the list that a build leaves.
use Rattle.std.proofs.Common.{◌≡◌, refl, sym, ap, ◌∙◌, arith, ℕ, zero, suc, ◌<◌, ◌≤◌, Bool, true, false, cond, ◌||◌, inl, inr, List, [], ◌∷◌, Option, Some, None, nat_eq, nat_lt, eqb-true, eq-eqb, ltb-true, ltb-false}
use Rattle.std.specs.Prelude.{filter_map}
use Rattle.std.specs.List.{AllByRecursion, cons_option}
use Rattle.std.specs.Ordering.{eq_by_cmp}
use Rattle.std.proofs.Math.Path.{fun_ext}
use Rattle.hk_base.specs.Identifier.{Ident, ident_cmp}
use Rattle.hk_base.specs.IdentTies.{idents-same}
use Rattle.hk_fix.specs.DeedLaws.{id-same}
use Rattle.hk_fix.specs.Facts.{is_in}
use Rattle.hk_fix.specs.Fix.{Ending, finished, faulted, waiting}
use Rattle.hk_fix.specs.Pages.{Pages}
use Rattle.hk_fix.specs.Report.{upto}
use Rattle.hk_fix.proofs.Orders.{clash, decide}
use Rattle.hk_fix.proofs.Trails.{in-left, in-right, or_left}
use Rattle.hk_store.specs.Digests.{Digests}
use Rattle.hk_store.specs.Entry.{EntryView}
use Rattle.hk_reuse.specs.Entries.{entries_in}
use Rattle.hk_reuse.specs.Image.{entry_by, entry_at, entries_of, entry_list}
use Rattle.hk_reuse.specs.Site.{Items, AreItems}
use Rattle.hk_reuse.proofs.Lists.{all-append}

upto-in : (n q : ℕ) → q < n → is_in (upto n) q ≡ true
upto-in zero q lt = absurd (omega arith)
upto-in (suc n) q lt =
    elim (decide (nat_eq q n)) [
      | inl t ↦ in-right (upto n) (n ∷ []) q (or_left (nat_eq q n) false t)
      | inr f ↦ in-left (upto n) (n ∷ []) q (upto-in n q (elim (decide (nat_lt q n)) [ inl l ↦ ltb-true q n l | inr g ↦ clash (nat_eq q n) f (eq-eqb q n (omega (arith, ltb-false q n g))) ]))
    ]

pub upto-below : (m n : ℕ) → m ≤ n → AllByRecursion (λ q. q < n) (upto m)
upto-below zero n le = tt
upto-below (suc m) n le = all-append (λ q. q < n) (upto m) (m ∷ []) (upto-below m n (omega arith)) (omega arith, tt)

module _ (dig : Digests) (items : Items) (are : AreItems items) (ends : ℕ → Ending) (k : Pages) (id : Ident) where
  abbrev entry_of : ℕ → Option EntryView
  entry_of i = entry_by dig items ends k i (ends i)

  abbrev found_in : List ℕ → Option EntryView
  found_in is = entries_in (filter_map entry_of is) id

  -- an item's entry has its identifier
  own-id : (i : ℕ) (v : Ending) (e : EntryView) → entry_by dig items ends k i v ≡ Some e → e.id ≡ items.id i
  own-id i (finished facts) e h = cc
  own-id i (faulted fault) e h = cc
  own-id i (waiting ps) e h = cc

  -- an item whose identifier ties is the one that is found
  tied-found : (i : ℕ) → i < items.table.layout.items → eq_by_cmp ident_cmp id (items.id i) ≡ true → items.table.find id ≡ Some i
  tied-found i lt t = ap items.table.find (idents-same id (items.id i) t) ∙ are.numbered i lt

  module _ (j : ℕ) (found : items.table.find id ≡ Some j) where
    none-there : (b : Bool) → cond {A = Option EntryView} b None None ≡ None
    none-there true = refl
    none-there false = refl

    list-at : (is : List ℕ) → AllByRecursion (λ i. i < items.table.layout.items) is → found_in is ≡ cond (is_in is j) (entry_of j) None
    list-at [] h = refl
    list-at (i ∷ is) h = at (entry_of i) refl (list-at is h.1)
      where
        first : (e : EntryView) → entry_of i ≡ Some e → found_in is ≡ cond (is_in is j) (entry_of j) None → (b : Bool)
            → eq_by_cmp ident_cmp id (items.id i) ≡ b → cond b (Some e) (found_in is) ≡ cond (nat_eq j i || is_in is j) (entry_of j) None
        first e w rec true t =
            let both : Some i ≡ Some j = sym (tied-found i h.0 t) ∙ found in
            let one : i ≡ j = cc in
            rw (eq-eqb j i (sym one)) (sym w ∙ ap entry_of one)
        first e w rec false t = rw (other (nat_eq j i) refl) rec
          where
            other : (c : Bool) → nat_eq j i ≡ c → c ≡ false
            other true u =
                let own : items.id i ≡ id = ap items.id (sym (eqb-true j i u)) ∙ (are.found id j found).1 in
                clash (eq_by_cmp ident_cmp id (items.id i)) t (ap (eq_by_cmp ident_cmp id) own ∙ id-same id)
            other false u = refl

        at : (o : Option EntryView) → entry_of i ≡ o → found_in is ≡ cond (is_in is j) (entry_of j) None
            → entries_in (cons_option o (filter_map entry_of is)) id ≡ cond (nat_eq j i || is_in is j) (entry_of j) None
        at None w rec = rec ∙ skip (nat_eq j i) refl
          where
            skip : (c : Bool) → nat_eq j i ≡ c → cond (is_in is j) (entry_of j) None ≡ cond (c || is_in is j) (entry_of j) None
            skip true u = let none : entry_of j ≡ None = ap entry_of (eqb-true j i u) ∙ w in rw none (none-there (is_in is j))
            skip false u = refl
        at (Some e) w rec = ap (λ own. cond (eq_by_cmp ident_cmp id own) (Some e) (found_in is)) (own-id i (ends i) e w) ∙ first e w rec (eq_by_cmp ident_cmp id (items.id i)) refl

  list-none : items.table.find id ≡ None → (is : List ℕ) → AllByRecursion (λ i. i < items.table.layout.items) is → found_in is ≡ None
  list-none none [] h = refl
  list-none none (i ∷ is) h = at (entry_of i) refl (list-none none is h.1)
    where
      first : (e : EntryView) → found_in is ≡ None → (b : Bool) → eq_by_cmp ident_cmp id (items.id i) ≡ b → cond b (Some e) (found_in is) ≡ None
      first e rec true t = let both : Some i ≡ None = sym (tied-found i h.0 t) ∙ none in cc
      first e rec false t = rec

      at : (o : Option EntryView) → entry_of i ≡ o → found_in is ≡ None → entries_in (cons_option o (filter_map entry_of is)) id ≡ None
      at None w rec = rec
      at (Some e) w rec = ap (λ own. cond (eq_by_cmp ident_cmp id own) (Some e) (found_in is)) (own-id i (ends i) e w) ∙ first e rec (eq_by_cmp ident_cmp id (items.id i)) refl

  looked-up : (o : Option ℕ) → items.table.find id ≡ o → found_in (upto items.table.layout.items) ≡ entry_at dig items ends k o
  looked-up None none = list-none none (upto items.table.layout.items) (upto-below items.table.layout.items items.table.layout.items (omega arith))
  looked-up (Some j) found =
      let n = items.table.layout.items in
      list-at j found (upto n) (upto-below n n (omega arith)) ∙ ap (λ b. cond b (entry_of j) None) (upto-in n j (are.found id j found).0)

pub entries-listed : (dig : Digests) (items : Items) → AreItems items → (ends : ℕ → Ending) (k : Pages) → entries_in (entry_list dig items ends k) ≡ entries_of dig items ends k
entries-listed dig items are ends k = fun_ext (λ id. looked-up dig items are ends k id (items.table.find id) refl)
