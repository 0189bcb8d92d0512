-- The history of a build that reuses results, without the events of finished items, is one of a clean build that has
-- these items' pages and facts as seeds.
use Rattle.std.proofs.Common.{◌≡◌, refl, sym, ap, ◌∙◌, subst, arith, ℕ, ◌<◌, Bool, true, false, cond, ◌||◌, inl, inr, List, [], ◌∷◌, ◌++◌, reverse, append-nil, Option, Some, None, is_some, nat_eq, nat_lt, eqb-true, eq-eqb, lt-ltb, le-ltb}
use Rattle.std.proofs.Math.Path.{fun_ext}
use Rattle.std.proofs.lemmas.List.{reverse-append}
use Rattle.hk_chain.specs.declared.page.Page.{Page}
use Rattle.hk_chain.specs.Layout.{Shape, IsShape, pairs, item_of, final_of}
use Rattle.hk_fix.specs.declared.event.Event.{Event}
use Rattle.hk_fix.specs.declared.event.Event.TheVariants.{Begin, Saved, Done, Failed}
use Rattle.hk_fix.specs.Pages.{Pages, Extends, Begins}
use Rattle.hk_fix.specs.Task.{End, done, fault, waits, Run}
use Rattle.hk_fix.specs.Run.{Save, saves_of, page_in, snapshot, finished_page, page_of, is_wait, AllAbove, Rising, IsRun}
use Rattle.hk_fix.specs.Facts.{whole_log}
use Rattle.hk_fix.specs.Fix.{Seeds, IsSeeds, Ending, finished, faulted, waiting, is_finished, ends_with, seeded, or_else, fix, status, after, same_event, stands, ended, is_done, is_fault, MayEnd, MayFollow, LawfulNewest, CompleteNewest, IsComplete}
use Rattle.hk_fix.proofs.Orders.{clash, decide, the_some, is_some-of, saves_of-append, done-no_wait, fault-no_wait, closed, sound, pages-are, settled, saves-grow, on-the-way}
use Rattle.hk_reuse.specs.Site.{no_seeds}
use Rattle.hk_reuse.specs.Rebuilt.{SameRun}
use Rattle.hk_reuse.specs.Histories.{item_of_event, others, finished_facts, kept_seeds}
use Rattle.hk_reuse.proofs.Sites.{no-seeds}

-- lists of events
same-item : (lay : Shape) (d e : Event) → same_event d e ≡ true → item_of_event lay d ≡ item_of_event lay e
same-item lay (Begin i) (Begin j) t = eqb-true i j t
same-item lay (Begin i) (Saved q) t = cc
same-item lay (Begin i) (Done j) t = cc
same-item lay (Begin i) (Failed j) t = cc
same-item lay (Saved p) (Begin j) t = cc
same-item lay (Saved p) (Saved q) t = ap (item_of lay) (eqb-true p q t)
same-item lay (Saved p) (Done j) t = cc
same-item lay (Saved p) (Failed j) t = cc
same-item lay (Done i) (Begin j) t = cc
same-item lay (Done i) (Saved q) t = cc
same-item lay (Done i) (Done j) t = eqb-true i j t
same-item lay (Done i) (Failed j) t = cc
same-item lay (Failed i) (Begin j) t = cc
same-item lay (Failed i) (Saved q) t = cc
same-item lay (Failed i) (Done j) t = cc
same-item lay (Failed i) (Failed j) t = eqb-true i j t

module _ (lay : Shape) (kept : ℕ → Bool) where
  stands-others : (d : Event) (h : List Event) → kept (item_of_event lay d) ≡ false → stands d (others lay kept h) ≡ stands d h
  stands-others d [] f = refl
  stands-others d (e ∷ h) f =
      elim (kept (item_of_event lay e)) as (λ b. kept (item_of_event lay e) ≡ b → stands d (cond b (others lay kept h) (e ∷ others lay kept h)) ≡ (same_event d e || stands d h)) [
        | true ↦ λ t. stands-others d h f ∙ at (same_event d e) refl t
        | false ↦ λ t. ap (λ b. same_event d e || b) (stands-others d h f)
      ] refl
    where
      at : (b : Bool) → same_event d e ≡ b → kept (item_of_event lay e) ≡ true → stands d h ≡ (b || stands d h)
      at true s t = clash (kept (item_of_event lay d)) f (ap kept (same-item lay d e s) ∙ t)
      at false s t = refl

  stands-kept : (d : Event) (h : List Event) → kept (item_of_event lay d) ≡ true → stands d (others lay kept h) ≡ false
  stands-kept d [] f = refl
  stands-kept d (e ∷ h) f =
      elim (kept (item_of_event lay e)) as (λ b. kept (item_of_event lay e) ≡ b → stands d (cond b (others lay kept h) (e ∷ others lay kept h)) ≡ false) [
        | true ↦ λ t. stands-kept d h f
        | false ↦ λ t. rw (stands-kept d h f) (at (same_event d e) refl t)
      ] refl
    where
      at : (b : Bool) → same_event d e ≡ b → kept (item_of_event lay e) ≡ false → (b || false) ≡ false
      at true s t = clash (kept (item_of_event lay e)) t (ap kept (sym (same-item lay d e s)) ∙ f)
      at false s t = refl

  others-append : (g h : List Event) → others lay kept (g ++ h) ≡ others lay kept g ++ others lay kept h
  others-append [] h = refl
  others-append (e ∷ g) h =
      elim (kept (item_of_event lay e)) as (λ b. cond b (others lay kept (g ++ h)) (e ∷ others lay kept (g ++ h)) ≡ cond b (others lay kept g) (e ∷ others lay kept g) ++ others lay kept h) [
        | true ↦ others-append g h
        | false ↦ ap (λ l. e ∷ l) (others-append g h)
      ]

  pub others-reverse : (h : List Event) → others lay kept (reverse h) ≡ reverse (others lay kept h)
  others-reverse [] = refl
  others-reverse (e ∷ h) =
      ap (others lay kept) (reverse-append (e ∷ []) h) ∙ (others-append (reverse h) (e ∷ []) ∙ (ap (λ l. l ++ others lay kept (e ∷ [])) (others-reverse h) ∙ at (kept (item_of_event lay e))))
    where
      at : (b : Bool) → reverse (others lay kept h) ++ cond b [] (e ∷ []) ≡ reverse (cond b (others lay kept h) (e ∷ others lay kept h))
      at true = append-nil (reverse (others lay kept h))
      at false = sym (reverse-append (e ∷ []) (others lay kept h))

-- of saves that rise, one before another stands before it
above-in : (p : ℕ) (ss : List Save) (q : ℕ) → AllAbove p ss → is_some (page_in ss q) ≡ true → p < q
above-in p [] q a s = cc
above-in p (r ∷ ss) q a s =
    elim (nat_eq r.pair q) as (λ b. nat_eq r.pair q ≡ b → is_some (cond b (Some r.page) (page_in ss q)) ≡ true → p < q) [
      | true ↦ λ t w. subst (λ n. p < n) (eqb-true r.pair q t) a.0
      | false ↦ λ t w. above-in p ss q a.1 w
    ] refl s

above-front : (p : ℕ) (ss ts : List Save) → AllAbove p (ss ++ ts) → AllAbove p ts
above-front p [] ts a = a
above-front p (s ∷ ss) ts a = above-front p ss ts a.1

pub earlier-in : (ss ts : List Save) (p q : ℕ) → Rising (ss ++ ts) → is_some (page_in ss p) ≡ true → is_some (page_in (ss ++ ts) q) ≡ true → q < p → is_some (page_in ss q) ≡ true
earlier-in [] ts p q r a b lt = cc
earlier-in (s ∷ ss) ts p q r a b lt =
    elim (nat_eq s.pair q) as (λ c. nat_eq s.pair q ≡ c → is_some (cond c (Some s.page) (page_in (ss ++ ts) q)) ≡ true → is_some (cond c (Some s.page) (page_in ss q)) ≡ true) [
      | true ↦ λ t w. refl
      | false ↦ λ t w. elim (nat_eq s.pair p) as (λ c. nat_eq s.pair p ≡ c → is_some (cond c (Some s.page) (page_in ss p)) ≡ true → is_some (page_in ss q) ≡ true) [
        | true ↦ λ u v.
            let e : s.pair ≡ p = eqb-true s.pair p u in
            let l : s.pair < q = above-in s.pair (ss ++ ts) q r.0 w in absurd (omega arith)
        | false ↦ λ u v. earlier-in ss ts p q r.1 v w lt
      ] refl a
    ] refl b

or-none : (o : Option Page) → or_else o None ≡ o
or-none None = refl
or-none (Some x) = refl

or-assoc : (a b c : Option Page) → or_else (or_else a b) c ≡ or_else a (or_else b c)
or-assoc None b c = refl
or-assoc (Some x) b c = refl

or-some : (a b : Option Page) → is_some a ≡ true → or_else a b ≡ a
or-some None b e = cc
or-some (Some x) b e = refl

module _ (lay : Shape) (slow fast : ℕ → Pages → Run Page) (shape : IsShape lay) (slow_laws : IsRun lay slow) (fast_laws : IsRun lay fast)
    (same : (i : ℕ) → i < lay.items → (k : Pages) → Extends k (fix lay slow no_seeds) → SameRun lay i (fast i k) (slow i k))
    (fixes : fix lay fast no_seeds ≡ fix lay slow no_seeds) (kept : ℕ → Bool)
    (finishes : (i : ℕ) → kept i ≡ true → (i < lay.items) × (is_finished (status lay slow no_seeds i) ≡ true)) where
  abbrev F : Pages
  F = fix lay slow no_seeds

  abbrev S : Seeds
  S = kept_seeds lay kept F (status lay slow no_seeds)

  finished-done : (i : ℕ) → is_finished (status lay slow no_seeds i) ≡ true → (x : Page) × ((slow i F).end ≡ done x)
  unfolding status
  finished-done i t = at (slow i F).end refl t
    where
      at : (e : End Page) → (slow i F).end ≡ e → is_finished (ends_with (whole_log lay i (slow i F)) e) ≡ true → (x : Page) × ((slow i F).end ≡ done x)
      at (done x) w t = (x, w)
      at (fault e) w t = cc
      at (waits ps) w t = cc

  -- each page of a finished item is there
  page-there : (p : ℕ) → p < pairs lay → kept (item_of lay p) ≡ true → is_some (F p) ≡ true
  page-there p lt t =
      let i = item_of lay p in
      let f = finishes i t in
      let d : (x : Page) × ((slow i F).end ≡ done x) = finished-done i f.1 in
      elim (decide (nat_eq p (final_of lay i))) [
        | inl e ↦
            let last : page_of lay i (slow i F) p ≡ Some d.0 = rw e (ap finished_page d.1) in
            is_some-of (F p) d.0 (closed lay slow no_seeds shape slow_laws (no-seeds lay) p d.0 lt refl last)
        | inr e ↦
            let has : is_some (snapshot (slow i F) p) ≡ true = slow_laws.all i F p d.0 f.0 d.1 lt refl (λ w. clash (nat_eq p (final_of lay i)) e (eq-eqb p (final_of lay i) w)) in
            let v : (x : Page) × (snapshot (slow i F) p ≡ Some x) = the_some (snapshot (slow i F) p) has in
            is_some-of (F p) v.0 (closed lay slow no_seeds shape slow_laws (no-seeds lay) p v.0 lt refl (on-the-way lay slow no_seeds shape slow_laws (no-seeds lay) i F p v.0 f.0 v.1))
      ]

  seeded-kept : (i : ℕ) → seeded S i ≡ kept i
  seeded-kept i = at (kept i) refl
    where
      facts : (e : Ending) → is_finished e ≡ true → is_some (finished_facts e) ≡ true
      facts (finished f) t = refl
      facts (faulted e) t = cc
      facts (waiting ps) t = cc

      at : (b : Bool) → kept i ≡ b → is_some (cond b (finished_facts (status lay slow no_seeds i)) None) ≡ b
      at true t = facts (status lay slow no_seeds i) (finishes i t).1
      at false t = refl

  pub seeds-sown : IsSeeds lay S
  seeds-sown = record { each = λ p lt. rw (lt-ltb p (pairs lay) lt) (at p lt (kept (item_of lay p)) refl ∙ sym (seeded-kept (item_of lay p))); none = λ p le. rw (le-ltb p (pairs lay) le) refl }
    where
      at : (p : ℕ) → p < pairs lay → (b : Bool) → kept (item_of lay p) ≡ b → is_some (cond b (F p) None) ≡ b
      at p lt true t = page-there p lt t
      at p lt false t = refl

  seed-within : Extends S.pages F
  seed-within p x e = at (nat_lt p (pairs lay)) (kept (item_of lay p)) e
    where
      at : (b c : Bool) → cond b (cond c (F p) None) None ≡ Some x → F p ≡ Some x
      at true true w = w
      at true false w = cc
      at false c w = cc

  seed-kept : (p : ℕ) → p < pairs lay → kept (item_of lay p) ≡ true → S.pages p ≡ F p
  seed-kept p lt t = rw (lt-ltb p (pairs lay) lt, t) refl

  seed-free : (p : ℕ) → kept (item_of lay p) ≡ false → S.pages p ≡ None
  seed-free p t = rw t (at (nat_lt p (pairs lay)))
    where
      at : (b : Bool) → cond {A = Option Page} b None None ≡ None
      at true = refl
      at false = refl

  -- what is known after both
  abbrev before : List Event → Pages
  before h = after lay fast no_seeds h

  abbrev after_others : List Event → Pages
  after_others h = after lay slow S (others lay kept h)

  abbrev Told : List Event → Type 0
  Told h = (p : ℕ) → after_others h p ≡ or_else (S.pages p) (before h p)

  before-within : (h : List Event) → LawfulNewest lay fast no_seeds h → Extends (before h) F
  before-within h l = subst (λ (k : Pages). Extends (before h) k) fixes (sound lay fast no_seeds shape fast_laws (no-seeds lay) h l)

  told-more : (h : List Event) → LawfulNewest lay fast no_seeds h → Told h → Extends (before h) (after_others h)
  told-more h l t p x e = t p ∙ at (S.pages p) refl
    where
      at : (o : Option Page) → S.pages p ≡ o → or_else o (before h p) ≡ Some x
      at None w = e
      at (Some y) w = sym (seed-within p y w) ∙ before-within h l p x e

  told-within : (h : List Event) → LawfulNewest lay fast no_seeds h → Told h → Extends (after_others h) F
  told-within h l t p x e = at (S.pages p) refl (sym (t p) ∙ e)
    where
      at : (o : Option Page) → S.pages p ≡ o → or_else o (before h p) ≡ Some x → F p ≡ Some x
      at None w v = before-within h l p x v
      at (Some y) w v = seed-within p x (w ∙ v)

  same-snapshot : (i : ℕ) → i < lay.items → (k : Pages) → Extends k F → (p : ℕ) → snapshot (fast i k) p ≡ snapshot (slow i k) p
  same-snapshot i lt k w p = ap (λ ss. page_in ss p) (same i lt k w).saves

  adds-kept : (h : List Event) (q : ℕ) (o : Option Page) → q < pairs lay → kept (item_of lay q) ≡ true → (p : ℕ)
      → or_else (S.pages p) (or_else (before h p) (cond (nat_eq q p) o None)) ≡ or_else (S.pages p) (before h p)
  adds-kept h q o lt t p =
      elim (nat_eq q p) as (λ b. nat_eq q p ≡ b → or_else (S.pages p) (or_else (before h p) (cond b o None)) ≡ or_else (S.pages p) (before h p)) [
        | true ↦ λ e.
            let eq : q ≡ p = eqb-true q p e in
            let s : is_some (S.pages p) ≡ true = subst (λ n. is_some (S.pages n) ≡ true) eq (ap is_some (seed-kept q lt t) ∙ page-there q lt t) in
            or-some (S.pages p) (or_else (before h p) o) s ∙ sym (or-some (S.pages p) (before h p) s)
        | false ↦ λ e. ap (or_else (S.pages p)) (or-none (before h p))
      ] refl

  adds-free : (h : List Event) → Told h → (q : ℕ) (o r : Option Page) → o ≡ r → (p : ℕ)
      → or_else (after_others h p) (cond (nat_eq q p) o None) ≡ or_else (S.pages p) (or_else (before h p) (cond (nat_eq q p) r None))
  adds-free h t q o r e p = ap (λ z. or_else z (cond (nat_eq q p) o None)) (t p) ∙ (or-assoc (S.pages p) (before h p) (cond (nat_eq q p) o None) ∙ ap (λ z. or_else (S.pages p) (or_else (before h p) (cond (nat_eq q p) z None))) e)

  saved-now : (h : List Event) → LawfulNewest lay fast no_seeds h → Told h → (i : ℕ) → i < lay.items → (q : ℕ) (x : Page)
      → snapshot (fast i (before h)) q ≡ Some x → snapshot (slow i (after_others h)) q ≡ Some x
  saved-now h l t i lt q x e = saves-grow lay slow no_seeds shape slow_laws (no-seeds lay) i (before h) (after_others h) q x lt (told-more h l t) (sym (same-snapshot i lt (before h) (before-within h l) q) ∙ e)

  saved-same : (h : List Event) → LawfulNewest lay fast no_seeds h → Told h → (i : ℕ) → i < lay.items → (q : ℕ)
      → is_some (snapshot (fast i (before h)) q) ≡ true → snapshot (slow i (after_others h)) q ≡ snapshot (fast i (before h)) q
  saved-same h l t i lt q s = let v : (x : Page) × (snapshot (fast i (before h)) q ≡ Some x) = the_some (snapshot (fast i (before h)) q) s in saved-now h l t i lt q v.0 v.1 ∙ sym v.1

  -- an item that has ended under what was known before has the same run under what is known now
  ended-same : (h : List Event) → LawfulNewest lay fast no_seeds h → Told h → (i : ℕ) → i < lay.items → is_wait (fast i (before h)).end ≡ false → slow i (after_others h) ≡ slow i (before h)
  ended-same h l t i lt w = settled lay slow no_seeds shape slow_laws (no-seeds lay) i (before h) (after_others h) lt (told-more h l t) (ap is_wait (sym (same i lt (before h) (before-within h l)).ends) ∙ w)

  end-same : (h : List Event) → LawfulNewest lay fast no_seeds h → Told h → (i : ℕ) → i < lay.items → is_wait (fast i (before h)).end ≡ false → (slow i (after_others h)).end ≡ (fast i (before h)).end
  end-same h l t i lt w = ap (λ r. r.end) (ended-same h l t i lt w) ∙ sym (same i lt (before h) (before-within h l)).ends

  told : (h : List Event) → LawfulNewest lay fast no_seeds h → Told h
  told [] l p = sym (or-none (S.pages p))
  told (Begin i ∷ h) l p =
      elim (kept i) as (λ b. after lay slow S (cond b (others lay kept h) (Begin i ∷ others lay kept h)) p ≡ or_else (S.pages p) (before h p)) [
        | true ↦ told h l.2 p
        | false ↦ told h l.2 p
      ]
  told (Failed i ∷ h) l p =
      elim (kept i) as (λ b. after lay slow S (cond b (others lay kept h) (Failed i ∷ others lay kept h)) p ≡ or_else (S.pages p) (before h p)) [
        | true ↦ told h l.2 p
        | false ↦ told h l.2 p
      ]
  told (Saved q ∷ h) l p =
      elim (kept (item_of lay q)) as (λ b. kept (item_of lay q) ≡ b → after lay slow S (cond b (others lay kept h) (Saved q ∷ others lay kept h)) p ≡ or_else (S.pages p) (before (Saved q ∷ h) p)) [
        | true ↦ λ t. told h l.2 p ∙ sym (adds-kept h q (snapshot (fast (item_of lay q) (before h)) q) l.1.in_range t p)
        | false ↦ λ t. adds-free h (told h l.2) q (snapshot (slow (item_of lay q) (after_others h)) q) (snapshot (fast (item_of lay q) (before h)) q) (saved-same h l.2 (told h l.2) (item_of lay q) (shape.in_items q l.1.in_range) q l.1.saves) p
      ] refl
  told (Done i ∷ h) l p =
      elim (kept i) as (λ b. kept i ≡ b → after lay slow S (cond b (others lay kept h) (Done i ∷ others lay kept h)) p ≡ or_else (S.pages p) (before (Done i ∷ h) p)) [
        | true ↦ λ t. told h l.2 p ∙ sym (adds-kept h (final_of lay i) (finished_page (fast i (before h)).end) (shape.in_pairs i l.1.in_range) (rw (shape.own_final i l.1.in_range) t) p)
        | false ↦ λ t. adds-free h (told h l.2) (final_of lay i) (finished_page (slow i (after_others h)).end) (finished_page (fast i (before h)).end) (ap finished_page (end-same h l.2 (told h l.2) i l.1.in_range (done-no_wait (fast i (before h)).end l.1.ends))) p
      ] refl

  ended-others : (i : ℕ) (h : List Event) → kept i ≡ false → ended i (others lay kept h) ≡ ended i h
  ended-others i h f = rw (stands-others lay kept (Done i) h f, stands-others lay kept (Failed i) h f) refl

  own-pair : (i : ℕ) → i < lay.items → (k : Pages) (p : ℕ) → is_some (snapshot (slow i k) p) ≡ true → item_of lay p ≡ i
  own-pair i lt k p s = let v : (x : Page) × (snapshot (slow i k) p ≡ Some x) = the_some (snapshot (slow i k) p) s in (slow_laws.own i k p v.0 lt v.1).1

  -- a save before one that was known already was saved already
  earlier-saved : (h : List Event) → LawfulNewest lay fast no_seeds h → (i : ℕ) → i < lay.items → (p q : ℕ) → is_some (snapshot (fast i (before h)) p) ≡ true
      → is_some (snapshot (slow i (after_others h)) q) ≡ true → q < p → is_some (snapshot (fast i (before h)) q) ≡ true
  earlier-saved h l i lt p q a b less =
      let w : Begins (slow i (before h)).log (slow i (after_others h)).log = slow_laws.grows i (before h) (after_others h) lt (told-more h l (told h l)) in
      let ss = saves_of (slow i (before h)).log in
      let all : saves_of (slow i (after_others h)).log ≡ ss ++ saves_of w.0 = ap saves_of w.1 ∙ saves_of-append (slow i (before h)).log w.0 in
      let r : Rising (ss ++ saves_of w.0) = subst Rising all (slow_laws.rising i (after_others h) lt) in
      let had : is_some (page_in ss p) ≡ true = ap is_some (sym (same-snapshot i lt (before h) (before-within h l) p)) ∙ a in
      let has : is_some (page_in (ss ++ saves_of w.0) q) ≡ true = subst (λ l. is_some (page_in l q) ≡ true) all b in
      ap is_some (same-snapshot i lt (before h) (before-within h l) q) ∙ earlier-in ss (saves_of w.0) p q r had has less

  may-end : (test : End Page → Bool) → ((e : End Page) → test e ≡ true → is_wait e ≡ false) → (h : List Event) → LawfulNewest lay fast no_seeds h → (i : ℕ)
      → kept i ≡ false → MayEnd lay fast no_seeds h i test → MayEnd lay slow S (others lay kept h) i test
  may-end test still h l i f m =
      let w : is_wait (fast i (before h)).end ≡ false = still (fast i (before h)).end m.ends in
      let r : slow i (after_others h) ≡ slow i (before h) = ended-same h l (told h l) i m.in_range w in
      record {
        in_range = m.in_range;
        begun = stands-others lay kept (Begin i) h f ∙ m.begun;
        going = ended-others i h f ∙ m.going;
        ends = ap test (end-same h l (told h l) i m.in_range w) ∙ m.ends;
        snapshots = λ p s.
            let own : item_of lay p ≡ i = own-pair i m.in_range (after_others h) p s in
            let s0 : is_some (snapshot (slow i (before h)) p) ≡ true = subst (λ (z : Run Page). is_some (snapshot z p) ≡ true) r s in
            let s1 : is_some (snapshot (fast i (before h)) p) ≡ true = ap is_some (same-snapshot i m.in_range (before h) (before-within h l) p) ∙ s0 in
            stands-others lay kept (Saved p) h (ap kept own ∙ f) ∙ m.snapshots p s1;
      }

  may-follow : (e : Event) (h : List Event) → LawfulNewest lay fast no_seeds h → kept (item_of_event lay e) ≡ false → MayFollow lay fast no_seeds h e → MayFollow lay slow S (others lay kept h) e
  may-follow (Begin i) h l f m = record { in_range = m.in_range; unseeded = seeded-kept i ∙ f }
  may-follow (Saved p) h l f m =
      let i = item_of lay p in
      let lt : i < lay.items = shape.in_items p m.in_range in
      record {
        in_range = m.in_range;
        begun = stands-others lay kept (Begin i) h f ∙ m.begun;
        going = ended-others i h f ∙ m.going;
        saves = ap is_some (saved-same h l (told h l) i lt p m.saves) ∙ m.saves;
        earlier = λ q less s.
            let own : item_of lay q ≡ i = own-pair i lt (after_others h) q s in
            stands-others lay kept (Saved q) h (ap kept own ∙ f) ∙ m.earlier q less (earlier-saved h l i lt p q m.saves s less);
      }
  may-follow (Done i) h l f m = may-end is_done done-no_wait h l i f m
  may-follow (Failed i) h l f m = may-end is_fault fault-no_wait h l i f m

  pub lawful-others : (h : List Event) → LawfulNewest lay fast no_seeds h → LawfulNewest lay slow S (others lay kept h)
  lawful-others [] l = tt
  lawful-others (e ∷ h) l =
      elim (kept (item_of_event lay e)) as (λ b. kept (item_of_event lay e) ≡ b → LawfulNewest lay slow S (cond b (others lay kept h) (e ∷ others lay kept h))) [
        | true ↦ λ t. lawful-others h l.2
        | false ↦ λ t. (stands-others lay kept e h t ∙ l.0, may-follow e h l.2 t l.1, lawful-others h l.2)
      ] refl

  module _ (h : List Event) (all : CompleteNewest lay fast no_seeds h) where
    before-all : before h ≡ F
    before-all = pages-are lay fast no_seeds shape fast_laws (no-seeds lay) h all ∙ fixes

    both-all : after_others h ≡ before h
    both-all = fun_ext (λ p. told h all.lawful p ∙ at p (S.pages p) refl)
      where
        at : (p : ℕ) (o : Option Page) → S.pages p ≡ o → or_else o (before h p) ≡ before h p
        at p None w = refl
        at p (Some y) w = sym (ap (λ (k : Pages). k p) before-all ∙ seed-within p y w)

    snapshots-all : (i : ℕ) → i < lay.items → (p : ℕ) → snapshot (fast i (before h)) p ≡ snapshot (slow i (after_others h)) p
    snapshots-all i lt p = same-snapshot i lt (before h) (before-within h all.lawful) p ∙ ap (λ k. snapshot (slow i k) p) (sym both-all)

    back-end : (test : End Page → Bool) (i : ℕ) → kept i ≡ false → MayEnd lay slow S (others lay kept h) i test → MayEnd lay fast no_seeds h i test
    back-end test i f m =
        record {
          in_range = m.in_range;
          begun = sym (stands-others lay kept (Begin i) h f) ∙ m.begun;
          going = sym (ended-others i h f) ∙ m.going;
          ends = ap test ((same i m.in_range (before h) (before-within h all.lawful)).ends ∙ ap (λ k. (slow i k).end) (sym both-all)) ∙ m.ends;
          snapshots = λ p s.
              let t : is_some (snapshot (slow i (after_others h)) p) ≡ true = ap is_some (sym (snapshots-all i m.in_range p)) ∙ s in
              let own : item_of lay p ≡ i = own-pair i m.in_range (after_others h) p t in
              sym (stands-others lay kept (Saved p) h (ap kept own ∙ f)) ∙ m.snapshots p t;
        }

    back : (e : Event) → kept (item_of_event lay e) ≡ false → MayFollow lay slow S (others lay kept h) e → MayFollow lay fast no_seeds h e
    back (Begin i) f m = record { in_range = m.in_range; unseeded = refl }
    back (Saved p) f m =
        let i = item_of lay p in
        let lt : i < lay.items = shape.in_items p m.in_range in
        record {
          in_range = m.in_range;
          begun = sym (stands-others lay kept (Begin i) h f) ∙ m.begun;
          going = sym (ended-others i h f) ∙ m.going;
          saves = ap is_some (snapshots-all i lt p) ∙ m.saves;
          earlier = λ q less s.
              let t : is_some (snapshot (slow i (after_others h)) q) ≡ true = ap is_some (sym (snapshots-all i lt q)) ∙ s in
              let own : item_of lay q ≡ i = own-pair i lt (after_others h) q t in
              sym (stands-others lay kept (Saved q) h (ap kept own ∙ f)) ∙ m.earlier q less t;
        }
    back (Done i) f m = back-end is_done i f m
    back (Failed i) f m = back-end is_fault i f m

    never : (e : Event) → kept (item_of_event lay e) ≡ true → MayFollow lay slow S (others lay kept h) e → ⊥
    never (Begin i) t m = clash (seeded S i) m.unseeded (seeded-kept i ∙ t)
    never (Saved p) t m = clash (stands (Begin (item_of lay p)) (others lay kept h)) (stands-kept lay kept (Begin (item_of lay p)) h t) m.begun
    never (Done i) t m = clash (stands (Begin i) (others lay kept h)) (stands-kept lay kept (Begin i) h t) m.begun
    never (Failed i) t m = clash (stands (Begin i) (others lay kept h)) (stands-kept lay kept (Begin i) h t) m.begun

    pub complete-others : CompleteNewest lay slow S (others lay kept h)
    complete-others =
        record {
          lawful = lawful-others h all.lawful;
          nothing_follows = λ e s m. elim (decide (kept (item_of_event lay e))) [
            | inl t ↦ never e t m
            | inr f ↦ all.nothing_follows e (sym (stands-others lay kept e h f) ∙ s) (back e f m)
          ];
        }

    -- and the seeds change nothing
    pub fix-seeded : fix lay slow S ≡ F
    fix-seeded = sym (pages-are lay slow S shape slow_laws seeds-sown (others lay kept h) complete-others) ∙ (both-all ∙ before-all)

  -- in the order of time
  pub others-complete : (h : List Event) → IsComplete lay fast no_seeds h → IsComplete lay slow S (others lay kept h)
  others-complete h all = subst (λ l. CompleteNewest lay slow S l) (others-reverse lay kept h) (complete-others (reverse h) all)
