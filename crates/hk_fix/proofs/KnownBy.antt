-- What is known after a lawful history is known by its events.
use Rattle.std.proofs.Common.{◌≡◌, ◌≢◌, refl, sym, ap, ◌∙◌, ℕ, ◌<◌, Bool, true, false, inl, inr, List, [], ◌∷◌, Some, is_some, nat_eq, eq-eqb}
use Rattle.hk_chain.specs.declared.page.Page.{Page}
use Rattle.hk_chain.specs.Layout.{Shape, IsShape, pairs, item_of, final_of}
use Rattle.hk_fix.specs.declared.event.Event.{Event}
use Rattle.hk_fix.specs.declared.event.Event.TheVariants.{Begin, Saved, Done, Failed}
use Rattle.hk_fix.specs.Pages.{Pages}
use Rattle.hk_fix.specs.Task.{Run}
use Rattle.hk_fix.specs.Run.{snapshot, finished_page, IsRun}
use Rattle.hk_fix.specs.Fix.{Seeds, IsSeeds, seeded, after, stands, LawfulNewest}
use Rattle.hk_fix.proofs.Orders.{clash, or_right, the_some, with_new_cases, page-final, done-page, stood-known, done-ended}
use Rattle.hk_fix.proofs.Trails.{or_left}

same-truth : (a b : Bool) → (a ≡ true → b ≡ true) → (b ≡ true → a ≡ true) → a ≡ b
same-truth true b f g = sym (f refl)
same-truth false true f g = g refl
same-truth false false f g = refl

module _ (lay : Shape) (run : ℕ → Pages → Run Page) (seeds : Seeds) (shape : IsShape lay) (laws : IsRun lay run) (sown : IsSeeds lay seeds) where
  -- a known page on the way was saved
  snapshot-stands : (h : List Event) → LawfulNewest lay run seeds h → (p : ℕ) → p < pairs lay → seeded seeds (item_of lay p) ≡ false → p ≢ final_of lay (item_of lay p) → is_some (after lay run seeds h p) ≡ true → stands (Saved p) h ≡ true
  snapshot-stands [] l p lt free ne s = clash (is_some (seeds.pages p)) (sown.each p lt ∙ free) s
  snapshot-stands (Begin i ∷ h) l p lt free ne s = snapshot-stands h l.2 p lt free ne s
  snapshot-stands (Failed i ∷ h) l p lt free ne s = snapshot-stands h l.2 p lt free ne s
  snapshot-stands (Saved q ∷ h) l p lt free ne s =
      let v : (x : Page) × (after lay run seeds (Saved q ∷ h) p ≡ Some x) = the_some (after lay run seeds (Saved q ∷ h) p) s in
      elim (with_new_cases (after lay run seeds h) q (snapshot (run (item_of lay q) (after lay run seeds h)) q) p v.0 v.1) [
        | inl w ↦ or_right (nat_eq p q) (stands (Saved p) h) (snapshot-stands h l.2 p lt free ne (ap is_some w))
        | inr w ↦ or_left (nat_eq p q) (stands (Saved p) h) (eq-eqb p q (sym w.0))
      ]
  snapshot-stands (Done i ∷ h) l p lt free ne s =
      let v : (x : Page) × (after lay run seeds (Done i ∷ h) p ≡ Some x) = the_some (after lay run seeds (Done i ∷ h) p) s in
      elim (with_new_cases (after lay run seeds h) (final_of lay i) (finished_page (run i (after lay run seeds h)).end) p v.0 v.1) [
        | inl w ↦ snapshot-stands h l.2 p lt free ne (ap is_some w)
        | inr w ↦
            let own : item_of lay p ≡ i = ap (item_of lay) (sym w.0) ∙ shape.own_final i l.1.in_range in
            absurd (ne (sym w.0 ∙ ap (final_of lay) (sym own)))
      ]

  -- an item whose finished page is known is done
  done-stands : (h : List Event) → LawfulNewest lay run seeds h → (i : ℕ) → i < lay.items → seeded seeds i ≡ false → is_some (after lay run seeds h (final_of lay i)) ≡ true → stands (Done i) h ≡ true
  done-stands [] l i lt free s = clash (is_some (seeds.pages (final_of lay i))) (sown.each (final_of lay i) (shape.in_pairs i lt) ∙ (ap (seeded seeds) (shape.own_final i lt) ∙ free)) s
  done-stands (Begin j ∷ h) l i lt free s = done-stands h l.2 i lt free s
  done-stands (Failed j ∷ h) l i lt free s = done-stands h l.2 i lt free s
  done-stands (Saved q ∷ h) l i lt free s =
      let v : (x : Page) × (after lay run seeds (Saved q ∷ h) (final_of lay i) ≡ Some x) = the_some (after lay run seeds (Saved q ∷ h) (final_of lay i)) s in
      elim (with_new_cases (after lay run seeds h) q (snapshot (run (item_of lay q) (after lay run seeds h)) q) (final_of lay i) v.0 v.1) [
        | inl w ↦ done-stands h l.2 i lt free (ap is_some w)
        | inr w ↦
            let own : item_of lay q ≡ i = ap (item_of lay) w.0 ∙ shape.own_final i lt in
            absurd ((laws.own (item_of lay q) (after lay run seeds h) q v.0 (shape.in_items q l.1.in_range) w.1).2 (w.0 ∙ ap (final_of lay) (sym own)))
      ]
  done-stands (Done j ∷ h) l i lt free s =
      let v : (x : Page) × (after lay run seeds (Done j ∷ h) (final_of lay i) ≡ Some x) = the_some (after lay run seeds (Done j ∷ h) (final_of lay i)) s in
      elim (with_new_cases (after lay run seeds h) (final_of lay j) (finished_page (run j (after lay run seeds h)).end) (final_of lay i) v.0 v.1) [
        | inl w ↦ or_right (nat_eq i j) (stands (Done i) h) (done-stands h l.2 i lt free (ap is_some w))
        | inr w ↦ or_left (nat_eq i j) (stands (Done i) h) (eq-eqb i j (sym (shape.own_final i lt) ∙ (ap (item_of lay) (sym w.0) ∙ shape.own_final j l.1.in_range)))
      ]

  -- the finished page of an item that is done is known
  done-known : (h : List Event) → LawfulNewest lay run seeds h → (i : ℕ) → stands (Done i) h ≡ true → is_some (after lay run seeds h (final_of lay i)) ≡ true
  done-known h l i s =
      let was = done-ended lay run seeds shape laws sown h i l s in
      was.has (final_of lay i) (ap is_some (page-final lay i (run i (after lay run seeds h)) (final_of lay i) (eq-eqb (final_of lay i) (final_of lay i) refl)) ∙ done-page (run i (after lay run seeds h)).end was.ends)

  pub snapshot-by_event : (h : List Event) → LawfulNewest lay run seeds h → (p : ℕ) → p < pairs lay → seeded seeds (item_of lay p) ≡ false → p ≢ final_of lay (item_of lay p) → is_some (after lay run seeds h p) ≡ stands (Saved p) h
  snapshot-by_event h l p lt free ne =
      same-truth (is_some (after lay run seeds h p)) (stands (Saved p) h) (λ s. snapshot-stands h l p lt free ne s) (λ s. stood-known lay run seeds shape laws sown h l p s)

  pub final-by_event : (h : List Event) → LawfulNewest lay run seeds h → (i : ℕ) → i < lay.items → seeded seeds i ≡ false → is_some (after lay run seeds h (final_of lay i)) ≡ stands (Done i) h
  final-by_event h l i lt free =
      same-truth (is_some (after lay run seeds h (final_of lay i))) (stands (Done i) h) (λ s. done-stands h l i lt free s) (λ s. done-known h l i s)
