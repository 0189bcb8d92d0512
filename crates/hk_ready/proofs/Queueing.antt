-- Each step of a queue keeps its rule.
use Rattle.std.proofs.Common.{◌≡◌, ◌≢◌, ℕ, ◌+◌, Bool, true, false, true≢false, ◌||◌, List, [], ◌∷◌, ◌++◌, length, set, is_some, All, Option, Some, sym, refl, ap, ◌∙◌, subst, ⊎_elim, arith, length-append}
use Rattle.std.proofs.lemmas.List.Elements.{All-push, All-head, All-tail}
use mathlib.Core.Option.{some}
use lib.ListN.{get_elem?}
use Rattle.crossbeam_queue.specs.Fifo.{Pushes, Pops, Forks, Learns}
use Rattle.crossbeam_queue.proofs.Lists.{at_set, at_snoc}
use Rattle.hk_lock.specs.Lawful.{IsLawfulFor}
use Rattle.hk_ready.specs.declared.view.View.{View}
use Rattle.hk_ready.specs.View.{unnamed, first_view, spent_view, after_split, split_from, after_push, after_pop, can_act}
use Rattle.hk_ready.specs.Queued.{PassFits, IsQueueState, AgreesWith}

or_left : (a b : Bool) → a ≡ true → (a || b) ≡ true
or_left true b e = refl
or_left false b e = absurd (true≢false (sym e))

or_right : (a b : Bool) → b ≡ true → (a || b) ≡ true
or_right true b e = refl
or_right false b e = e

module _ {T K : Type 0} (lawful : K → T → Type 0) where
  abbrev V : Type 0
  V = View K

  abbrev Rule : List T → List V → Type 0
  Rule = IsQueueState lawful

  lawful_as : (key : Option K) (k' : Option K) (x : T) → k' ≡ key → IsLawfulFor lawful k' x → IsLawfulFor lawful key x
  lawful_as key k' x e s = subst (λ k. IsLawfulFor lawful k x) e s

  -- no other view is alone after_split one that can_act
  sole : (key : Option K) (n : ℕ) (views : List V) (port : ℕ) (v : V) (j : ℕ) (u : V) → get_elem? views port ≡ some v → can_act v ≡ true → j ≢ port → PassFits key n views j u → u.is_alone ≢ true
  sole key n views port v j u at can apart f is = apart (sym (f.alone is port v at can))

  -- a view w in place of v, which can_act where v does, keeps what the others know
  kept : (key : Option K) (n n' : ℕ) (views : List V) (port : ℕ) (v w : V) → get_elem? views port ≡ some v → can_act v ≡ true
      → ((j : ℕ) (u : V) → get_elem? views j ≡ some u → PassFits key n views j u)
      → (is_some w.key ≡ true → w.key ≡ key) → (w.is_alone ≡ true → (v.is_alone ≡ true) × (w.pushed ≡ w.popped + n'))
      → (j : ℕ) (u : V) → get_elem? (set views port w) j ≡ some u → PassFits key n' (set views port w) j u
  kept key n n' views port v w at can all keyed counts j u e = ⊎_elim
      (λ (x : (j ≡ port) × (w ≡ u)). subst (λ (y : ℕ × V). PassFits key n' (set views port w) y.0 y.1) (λ i. (sym x.0 i, x.1 i)) record {
        keyed = keyed;
        counts = λ p. (counts p).1;
        alone = λ p k y e' a. ⊎_elim (λ (z : (k ≡ port) × (w ≡ y)). z.0) (λ (z : (k ≢ port) × (get_elem? views k ≡ some y)). (all port v at).alone (counts p).0 k y z.1 a) (at_set views port k w y e');
      })
      (λ (x : (j ≢ port) × (get_elem? views j ≡ some u)). let f = all j u x.1 in record {
        keyed = f.keyed;
        counts = λ p. absurd (sole key n views port v j u at can x.0 f p);
        alone = λ p. absurd (sole key n views port v j u at can x.0 f p);
      })
      (at_set views port j w u e)

  -- nobody is alone where a view that can_act became one that isn't alone
  none_alone : (key : Option K) (n : ℕ) (views : List V) (port : ℕ) (v w : V) → get_elem? views port ≡ some v → can_act v ≡ true → ((j : ℕ) (u : V) → get_elem? views j ≡ some u → PassFits key n views j u)
      → w.is_alone ≡ false → (j : ℕ) (u : V) → get_elem? (set views port w) j ≡ some u → u.is_alone ≢ true
  none_alone key n views port v w at can all no_more j u e p = ⊎_elim
      (λ (x : (j ≡ port) × (w ≡ u)). true≢false (sym p ∙ (ap (λ (y : V). y.is_alone) (sym x.1) ∙ no_more)))
      (λ (x : (j ≢ port) × (get_elem? views j ≡ some u)). sole key n views port v j u at can x.0 (all j u x.1) p)
      (at_set views port j w u e)

  -- where nobody else can_act, nobody else does after this view changed and another came that doesn't act
  only : (views : List V) (port : ℕ) (w r : V) → can_act r ≡ false → ((j : ℕ) (u : V) → get_elem? views j ≡ some u → can_act u ≡ true → j ≡ port)
      → (j : ℕ) (u : V) → get_elem? (set views port w ++ r ∷ []) j ≡ some u → can_act u ≡ true → j ≡ port
  only views port w r quiet alone j u e a = ⊎_elim
      (λ (e' : get_elem? (set views port w) j ≡ some u). ⊎_elim (λ (x : (j ≡ port) × (w ≡ u)). x.0) (λ (x : (j ≢ port) × (get_elem? views j ≡ some u)). alone j u x.1 a) (at_set views port j w u e'))
      (λ (is : r ≡ u). absurd (true≢false (sym a ∙ (ap can_act (sym is) ∙ quiet))))
      (at_snoc (set views port w) r u j e)

  -- a pass gets the key, while the queue is empty
  names : (port : ℕ) (key : K) → Forks Rule port unnamed (first_view key) spent_view
  names port key items views h at =
      let mine = h.fits port unnamed at in let c = mine.counts refl in let none : length items ≡ 0 = omega arith in
      let w : V = first_view key in let vs : List V = set views port w in let vs' : List V = vs ++ spent_view ∷ [] in
      record {
        key = Some key;
        lawful_items = λ k d l. absurd (omega arith);
        fits = λ j u e. ⊎_elim
            (λ (e' : get_elem? vs j ≡ some u). ⊎_elim
            (λ (x : (j ≡ port) × (w ≡ u)). subst (λ (y : ℕ × V). PassFits (Some key) (length items) vs' y.0 y.1) (λ i. (sym x.0 i, x.1 i)) record {
              keyed = λ _. refl;
              counts = λ _. omega arith;
              alone = λ _ k y e'' a. only views port w spent_view refl (mine.alone refl) k y e'' a;
            })
            (λ (x : (j ≢ port) × (get_elem? views j ≡ some u)). let f = h.fits j u x.1 in record {
              keyed = λ p. absurd (x.0 (mine.alone refl j u x.1 (or_left (is_some u.key) u.is_alone p)));
              counts = λ p. absurd (x.0 (mine.alone refl j u x.1 (or_right (is_some u.key) u.is_alone p)));
              alone = λ p. absurd (x.0 (mine.alone refl j u x.1 (or_right (is_some u.key) u.is_alone p)));
            })
            (at_set views port j w u e'))
            (λ (is : spent_view ≡ u). subst (PassFits (Some key) (length items) vs' j) is record { keyed = λ p. absurd (true≢false (sym p)); counts = λ p. absurd (true≢false (sym p)); alone = λ p. absurd (true≢false (sym p)) })
            (at_snoc vs spent_view u j e);
      }

  pub names_at : (port : ℕ) (key : K) (v left right : V) → v ≡ unnamed → left ≡ first_view key → right ≡ spent_view → Forks Rule port v left right
  names_at port key v left right a b c = subst (λ (y : V × V × V). Forks Rule port y.0 y.1 y.2) (λ i. (sym a i, sym b i, sym c i)) (names port key)

  pub splits : (port : ℕ) (v : V) → is_some v.key ≡ true → Forks Rule port v (after_split v) (split_from v)
  splits port v keyed items views h at =
      let w : V = after_split v in let g : V = split_from v in let vs : List V = set views port w in let can = or_left (is_some v.key) v.is_alone keyed in
      let now = kept h.key (length items) (length items) views port v w at can h.fits (h.fits port v at).keyed (λ p. absurd (true≢false (sym p))) in
      record {
        key = h.key;
        lawful_items = h.lawful_items;
        fits = λ j u e. ⊎_elim
            (λ (e' : get_elem? vs j ≡ some u). let f = now j u e' in record {
              keyed = f.keyed;
              counts = f.counts;
              alone = λ p. absurd (none_alone h.key (length items) views port v w at can h.fits refl j u e' p);
            })
            (λ (is : g ≡ u). subst (PassFits h.key (length items) (vs ++ g ∷ []) j) is record { keyed = (h.fits port v at).keyed; counts = λ p. absurd (true≢false (sym p)); alone = λ p. absurd (true≢false (sym p)) })
            (at_snoc vs g u j e);
      }

  pub pushes : (n port : ℕ) (v : V) (x : T) → IsLawfulFor lawful v.key x → is_some v.key ≡ true → Pushes Rule n port v x (λ w. w ≡ after_push v)
  pushes n port v x ok keyed items views room h at = let w : V = after_push v in let mine = h.fits port v at in (
    w,
    record {
      key = h.key;
      lawful_items = All-push (IsLawfulFor lawful h.key) items x h.lawful_items (lawful_as h.key v.key x (mine.keyed keyed) ok);
      fits = kept h.key (length items) (length (items ++ x ∷ [])) views port v w at (or_left (is_some v.key) v.is_alone keyed) h.fits mine.keyed
          (λ p. (p, (let c = mine.counts p in omega (arith, length-append items (x ∷ [])))));
    },
    refl,
  )

  pub pops : (port : ℕ) (v : V) → is_some v.key ≡ true → Pops Rule port v (λ x w. (w ≡ after_pop v) × IsLawfulFor lawful v.key x)
  pops port v keyed x items views h at = let w : V = after_pop v in let mine = h.fits port v at in (
    w,
    record {
      key = h.key;
      lawful_items = All-tail (IsLawfulFor lawful h.key) x items h.lawful_items;
      fits = kept h.key (length (x ∷ items)) (length items) views port v w at (or_left (is_some v.key) v.is_alone keyed) h.fits mine.keyed
          (λ p. (p, (let c = mine.counts p in omega arith)));
    },
    (refl, lawful_as v.key h.key x (sym (mine.keyed keyed)) (All-head (IsLawfulFor lawful h.key) x items h.lawful_items)),
  )

  pub learns : (port : ℕ) (v : V) → is_some v.key ≡ true → Learns Rule port v (AgreesWith lawful v)
  learns port v keyed items views h at = let mine = h.fits port v at in record {
    lawful_items = subst (λ k. All (IsLawfulFor lawful k) items) (sym (mine.keyed keyed)) h.lawful_items;
    counts = mine.counts;
  }
