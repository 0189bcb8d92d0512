-- The replay of an entry goes as the clean run does, up to a group that lacks a pair or gets another page.
use Rattle.std.proofs.Common.{◌≡◌, refl, sym, ap, ◌∙◌, subst, arith, ℕ, ◌<◌, Bool, true, false, cond, ◌&&◌, ◌⊎◌, inl, inr, List, [], ◌∷◌, ◌++◌, map, Option, Some, None, Result, Ok, Err, is_some, is_none, nat_eq, eqb-true, eq-eqb, bytes_eq}
use Rattle.std.specs.List.{AllByRecursion, IsDistinct}
use Rattle.std.specs.Option.{unwrap_or}
use Rattle.std.proofs.lemmas.List.{map-append}
use Rattle.hk_base.specs.Bytes.{Bytes}
use Rattle.hk_base.specs.Identifier.{Ident}
use Rattle.hk_chain.specs.declared.page.Page.{Page}
use Rattle.hk_chain.specs.declared.fault.Fault.{Fault}
use Rattle.hk_chain.specs.Facts.{TraceMark, group, save}
use Rattle.hk_chain.specs.Snapshots.{Ascending}
use Rattle.hk_fix.specs.Pages.{Pages, lacking, with_page, all_pages}
use Rattle.hk_fix.specs.Task.{Task, gives, asks, notes, used, saved, Mark, asked, note, done, fault, waits, Run, run, onward, answered}
use Rattle.hk_fix.specs.Run.{saves_of, patterns_of}
use Rattle.hk_fix.specs.Facts.{is_in, firsts, group_first, trace_of}
use Rattle.hk_fix.specs.Chains.{AllGroups}
use Rattle.hk_fix.specs.ChainLaws.{saved_pairs}
use Rattle.hk_fix.proofs.Orders.{clash}
use Rattle.hk_fix.specs.Table.{Key, Table, resolve, IsTable}
use Rattle.hk_fix.specs.Deed.{Answer, Deed, returns, refuses, asking, matching, saving, answers, traits_of, ask_for, save_as, interpret, IsNamed}
use Rattle.hk_fix.specs.DeedLaws.{resolve-keys}
use Rattle.hk_fix.specs.Deeds.{pair_or}
use Rattle.hk_store.specs.Digests.{Digests}
use Rattle.hk_store.specs.Entry.{AskView, asked as recorded, stored}
use Rattle.hk_reuse.specs.Entries.{blank_page}
use Rattle.hk_reuse.specs.Image.{page_at, ask_view, mark_view}
use Rattle.hk_reuse.specs.Replay.{Attempt, through, broke, same_pages, asked_pairs, attempt}
use Rattle.hk_reuse.proofs.Lists.{firsts-map, all-at, all-of-firsts, all-append, lacking-firsts}
use Rattle.hk_reuse.proofs.Logs.{asked_first, lean, kept_after}
use Rattle.hk_reuse.proofs.Tests.{and-both}

-- groups of known pairs
with_page-none : (o : Option Page) (q : Option (List Page)) → with_page o q ≡ None → (o ≡ None) ⊎ (q ≡ None)
with_page-none None q e = inl refl
with_page-none (Some x) None e = inr refl
with_page-none (Some x) (Some xs) e = cc

pub pages-none : (k : Pages) (ps : List ℕ) → all_pages k ps ≡ None → lacking k ps ≡ [] → ⊥
pages-none k [] e l = cc
pages-none k (p ∷ ps) e l = at (k p) refl (with_page-none (k p) (all_pages k ps) e) l (λ w h. pages-none k ps w h)
  where
    at : (o : Option Page) → k p ≡ o → (k p ≡ None) ⊎ (all_pages k ps ≡ None) → cond (is_none o) (p ∷ lacking k ps) (lacking k ps) ≡ [] → (all_pages k ps ≡ None → lacking k ps ≡ [] → ⊥) → ⊥
    at None q w h rec = cc
    at (Some x) q (inl w) h rec = cc
    at (Some x) q (inr w) h rec = rec w h

pub pages-lack : (k : Pages) (ps : List ℕ) (xs : List Page) → all_pages k ps ≡ Some xs → lacking k ps ≡ []
pages-lack k [] xs e = refl
pages-lack k (p ∷ ps) xs e = at (k p) (all_pages k ps) refl e (λ ys w. pages-lack k ps ys w)
  where
    at : (o : Option Page) (q : Option (List Page)) → all_pages k ps ≡ q → with_page o q ≡ Some xs
        → ((ys : List Page) → all_pages k ps ≡ Some ys → lacking k ps ≡ []) → cond (is_none o) (p ∷ lacking k ps) (lacking k ps) ≡ []
    at None q w h rec = cc
    at (Some x) None w h rec = cc
    at (Some x) (Some ys) w h rec = rec ys w

-- the page of a pair, by which a run of the old plan went, and that of its key in the new plan
pub data Follows (s kept pats : List ℕ) (x : Page) (a : Run Attempt) (c : Run Page) : Type 0 where
  goes : a.end ≡ done (through x) → c.end ≡ done x → a.log ≡ lean s c.log → patterns_of c.log ≡ pats → Follows s kept pats x a c
  stops : (l : List ℕ) → a.end ≡ waits l → c.end ≡ waits l → a.log ≡ lean s c.log → Follows s kept pats x a c
  breaks : (l m : List Mark) → a.end ≡ done (broke (kept_after kept l)) → c.log ≡ l ++ m → a.log ≡ lean s l → Follows s kept pats x a c

module _ {A : Type 0} where
  pub onward-first : (ps : List ℕ) (r : Run A) → (onward (asked_first ps []) r).log ≡ asked_first ps r.log
  onward-first [] r = refl
  onward-first (p ∷ ps) r = refl

follows-asked : (s kept pats : List ℕ) (x : Page) (a : Run Attempt) (c : Run Page) (ps : List ℕ) → Follows (ps ++ s) kept pats x a c
    → Follows s kept pats x (onward (asked_first (firsts s ps) []) a) (onward (asked ps ∷ []) c)
follows-asked s kept pats x a c ps (goes e f g h) = goes e f (onward-first (firsts s ps) a ∙ ap (asked_first (firsts s ps)) g) h
follows-asked s kept pats x a c ps (stops l e f g) = stops l e f (onward-first (firsts s ps) a ∙ ap (asked_first (firsts s ps)) g)
follows-asked s kept pats x a c ps (breaks l m e f g) = breaks (asked ps ∷ l) m e (ap (λ r. asked ps ∷ r) f) (onward-first (firsts s ps) a ∙ ap (asked_first (firsts s ps)) g)

follows-used : (s kept pats : List ℕ) (x : Page) (a : Run Attempt) (c : Run Page) (n : ℕ) → Follows s kept pats x a c → Follows s kept (n ∷ pats) x a (onward (note (used n) ∷ []) c)
follows-used s kept pats x a c n (goes e f g h) = goes e f g (ap (λ r. n ∷ r) h)
follows-used s kept pats x a c n (stops l e f g) = stops l e f g
follows-used s kept pats x a c n (breaks l m e f g) = breaks (note (used n) ∷ l) m e (ap (λ r. note (used n) ∷ r) f) g

follows-saved : (s kept pats : List ℕ) (x : Page) (a : Run Attempt) (c : Run Page) (p : ℕ) (y : Page) → Follows s (p ∷ kept) pats x a c
    → Follows s kept pats x (onward (note (saved p y) ∷ []) a) (onward (note (saved p y) ∷ []) c)
follows-saved s kept pats x a c p y (goes e f g h) = goes e f (ap (λ r. note (saved p y) ∷ r) g) h
follows-saved s kept pats x a c p y (stops l e f g) = stops l e f (ap (λ r. note (saved p y) ∷ r) g)
follows-saved s kept pats x a c p y (breaks l m e f g) = breaks (note (saved p y) ∷ l) m e (ap (λ r. note (saved p y) ∷ r) f) (ap (λ r. note (saved p y) ∷ r) g)

pub waits-not : {A : Type 0} (l : List ℕ) (x : A) → waits l ≡ done x → ⊥
waits-not l x e = cc

pub fault-not : {A : Type 0} (e : Fault) (x : A) → fault e ≡ done x → ⊥
fault-not e x h = cc

module _ (dig : Digests) (old new : Table) (own : Ident) (k0 k : Pages) where
  -- the number in the new plan of what has a number in the old one
  abbrev pub pair_now : ℕ → ℕ
  pair_now p = pair_or new (old.key p)

  abbrev pub pattern_now : ℕ → ℕ
  pattern_now n = new.number (old.pattern n)

  pub record Fits (p : ℕ) : Type 0 where
    pub there : old.pair (old.key p) ≡ Some p
    pub here : new.pair (old.key p) ≡ Some (pair_now p)
    pub traits : new.traits (old.key p).id ≡ old.traits (old.key p).id

  pub record Known (p : ℕ) : Type 0 where
    pub fits : Fits p
    pub same : k (pair_now p) ≡ k0 p
    pub known : is_none (k (pair_now p)) ≡ false

  abbrev pub FitsMarks : List TraceMark → Type 0
  FitsMarks [] = Unit {0}
  FitsMarks (group ps ∷ marks) = AllByRecursion Fits ps × FitsMarks marks
  FitsMarks (save p ∷ marks) = FitsMarks marks

  abbrev pub SameMatches : ℕ → Type 0
  SameMatches n = new.matches (old.pattern n) ≡ old.matches (old.pattern n)

  -- equal digests of compared pages mean equal pages
  abbrev pub PagesApart : Type 0
  PagesApart = (p : ℕ) (y x : Page) → Fits p → k0 p ≡ Some y → k (pair_now p) ≡ Some x → bytes_eq (dig.page x) (dig.page y) ≡ true → x ≡ y

  -- what is known of a run of the old plan, and of the task of the new one
  pub record Ready (x : Page) (was : Run Page) (now : Task Page) (seen kept : List ℕ) : Type 0 where
    pub ends : was.end ≡ done x
    pub distinct : AllGroups (IsDistinct nat_eq) now
    pub known : AllByRecursion Known seen
    pub fresh : AllByRecursion (λ p. is_in kept p ≡ false) (saved_pairs was.log)
    pub rising : Ascending (saved_pairs was.log)
    pub pages : AllByRecursion (λ s. k0 s.pair ≡ Some s.page) (saves_of was.log)
    pub fits : FitsMarks (trace_of seen kept was.log)
    pub patterns : AllByRecursion SameMatches (patterns_of was.log)

  -- the attempt over what a part of the old run left
  abbrev pub tried : Page → List ℕ → List TraceMark → Run Attempt
  tried x held marks = run (attempt dig new own x held (map (mark_view dig old k0) marks)) k

  abbrev pub Goes : Page → Task Page → Task Page → Type 0
  Goes x was now = (seen kept held : List ℕ) → Ready x (run was k0) now seen kept → Follows (map pair_now seen) held (map pattern_now (patterns_of (run was k0).log)) x (tried x held (trace_of seen kept (run was k0).log)) (run now k)

  module _ (old_laws : IsTable old) (new_laws : IsTable new) (apart : PagesApart) where
    same-number : (a b : ℕ) → Fits a → Fits b → nat_eq (pair_now a) (pair_now b) ≡ nat_eq a b
    same-number a b f g = at (nat_eq (pair_now a) (pair_now b)) (nat_eq a b) refl refl
      where
        back : pair_now a ≡ pair_now b → a ≡ b
        back e =
            let u : new.key (pair_now a) ≡ old.key a = new_laws.keyed (old.key a) (pair_now a) f.here in
            let v : new.key (pair_now b) ≡ old.key b = new_laws.keyed (old.key b) (pair_now b) g.here in
            let w : old.key a ≡ old.key b = sym u ∙ (ap new.key e ∙ v) in
            let z : Some a ≡ Some b = sym f.there ∙ (ap old.pair w ∙ g.there) in cc

        at : (b1 b2 : Bool) → nat_eq (pair_now a) (pair_now b) ≡ b1 → nat_eq a b ≡ b2 → b1 ≡ b2
        at true true u v = refl
        at true false u v = clash (nat_eq a b) v (eq-eqb a b (back (eqb-true (pair_now a) (pair_now b) u)))
        at false true u v = clash (nat_eq (pair_now a) (pair_now b)) u (eq-eqb (pair_now a) (pair_now b) (ap pair_now (eqb-true a b v)))
        at false false u v = refl

    fits-of : (ps : List ℕ) → AllByRecursion Known ps → AllByRecursion Fits ps
    fits-of [] h = tt
    fits-of (p ∷ ps) h = (h.0.fits, fits-of ps h.1)

    marks-first : (ps : List ℕ) (marks : List TraceMark) → FitsMarks (group_first ps marks) → AllByRecursion Fits ps × FitsMarks marks
    marks-first [] marks h = (tt, h)
    marks-first (p ∷ ps) marks h = h

    resolve-now : (ps : List ℕ) → AllByRecursion Fits ps → resolve new (map old.key ps) ≡ Ok (map pair_now ps)
    resolve-now [] h = refl
    resolve-now (p ∷ ps) h = rw (resolve-now ps h.1, h.0.here) refl

    traits-now : (ps : List ℕ) → AllByRecursion Fits ps → traits_of new (map old.key ps) ≡ traits_of old (map old.key ps)
    traits-now [] h = refl
    traits-now (p ∷ ps) h = rw (h.0.traits, traits-now ps h.1) refl

    pages-now : (ps : List ℕ) → AllByRecursion Known ps → all_pages k (map pair_now ps) ≡ all_pages k0 ps
    pages-now [] h = refl
    pages-now (p ∷ ps) h = rw (h.0.same, pages-now ps h.1) refl

    asked-now : (ps : List ℕ) → asked_pairs new (map (ask_view dig old k0) ps) ≡ map pair_now ps
    asked-now [] = refl
    asked-now (p ∷ ps) = ap (λ l. pair_now p ∷ l) (asked-now ps)

    some-page : (o : Option Page) (q : Option (List Page)) (ys : List Page) → with_page o q ≡ Some ys → (x : Page) × (xs : List Page) × (o ≡ Some x) × (q ≡ Some xs) × (ys ≡ x ∷ xs)
    some-page None q ys e = cc
    some-page (Some x) None ys e = cc
    some-page (Some x) (Some xs) ys e = (x, xs, refl, refl, cc)

    -- where the pages of a group have the recorded digests, they are the recorded pages
    same-known : (ps : List ℕ) (xs : List Page) → AllByRecursion Fits ps → AllByRecursion (λ p. is_some (k0 p) ≡ true) ps
        → all_pages k (map pair_now ps) ≡ Some xs → same_pages dig xs (map (ask_view dig old k0) ps) ≡ true → AllByRecursion Known ps
    same-known [] xs f s e t = tt
    same-known (p ∷ ps) xs f s e t =
        let w = some-page (k (pair_now p)) (all_pages k (map pair_now ps)) xs e in
        let d : (bytes_eq (dig.page w.0) (dig.page (page_at k0 p)) && same_pages dig w.1 (map (ask_view dig old k0) ps)) ≡ true = subst (λ l. same_pages dig l (map (ask_view dig old k0) (p ∷ ps)) ≡ true) w.4 t in
        let b = and-both (bytes_eq (dig.page w.0) (dig.page (page_at k0 p))) (same_pages dig w.1 (map (ask_view dig old k0) ps)) d in
        (one (k0 p) refl s.0 w.0 w.2 b.0, same-known ps w.1 f.1 s.1 w.3 b.1)
      where
        one : (o : Option Page) → k0 p ≡ o → is_some o ≡ true → (x : Page) → k (pair_now p) ≡ Some x → bytes_eq (dig.page x) (dig.page (unwrap_or o blank_page)) ≡ true → Known p
        one None e s x h t = cc
        one (Some y) e s x h t = record { fits = f.0; same = h ∙ (ap Some (apart p y x f.0 e h t) ∙ sym e); known = rw h refl }

    some-all : (ps : List ℕ) (xs : List Page) → all_pages k0 ps ≡ Some xs → AllByRecursion (λ p. is_some (k0 p) ≡ true) ps
    some-all [] xs e = tt
    some-all (p ∷ ps) xs e =
        let w = some-page (k0 p) (all_pages k0 ps) xs e in
        (ap is_some w.2, some-all ps w.1 w.3)

    all-weaker : (P Q : ℕ → Type 0) → ((p : ℕ) → P p → Q p) → (ps : List ℕ) → AllByRecursion P ps → AllByRecursion Q ps
    all-weaker P Q f [] h = tt
    all-weaker P Q f (p ∷ ps) h = (f p h.0, all-weaker P Q f ps h.1)

    firsts-some : (seen ps : List ℕ) → AllByRecursion (λ p. is_some (k0 p) ≡ true) ps → AllByRecursion (λ p. is_some (k0 p) ≡ true) (firsts seen ps)
    firsts-some seen [] h = tt
    firsts-some seen (p ∷ ps) h =
        elim (is_in seen p) as (λ b. AllByRecursion (λ q. is_some (k0 q) ≡ true) (cond b (firsts seen ps) (p ∷ firsts (p ∷ seen) ps))) [
          | true ↦ firsts-some seen ps h.1
          | false ↦ (h.0, firsts-some (p ∷ seen) ps h.1)
        ]

    seen-known : (seen : List ℕ) → AllByRecursion Known seen → (ps : List ℕ) → AllByRecursion (λ p. is_in (map pair_now seen) p ≡ true → is_none (k p) ≡ false) ps
    seen-known seen h [] = tt
    seen-known seen h (p ∷ ps) = (λ e. all-at (λ q. is_none (k q) ≡ false) (map pair_now seen) p (mapped seen h) e, seen-known seen h ps)
      where
        mapped : (s : List ℕ) → AllByRecursion Known s → AllByRecursion (λ q. is_none (k q) ≡ false) (map pair_now s)
        mapped [] w = tt
        mapped (q ∷ s) w = (w.0.known, mapped s w.1)

    abbrev Rest : Page → (List ℕ) → List ℕ → List ℕ → List ℕ → Task Page → Task Page → Type 0
    Rest x ps seen kept held was now = Follows (map pair_now (ps ++ seen)) held (map pattern_now (patterns_of (run was k0).log)) x (tried x held (trace_of (ps ++ seen) kept (run was k0).log)) (run now k)

    -- a group none of whose pairs is new, and a group with new pairs
    ask-old : (x : Page) (seen kept held ps : List ℕ) (xs : List Page) (was now : List Page → Task Page)
        → all_pages k (map pair_now ps) ≡ Some xs
        → firsts (map pair_now seen) (map pair_now ps) ≡ []
        → Rest x ps seen kept held (was xs) (now xs)
        → Follows (map pair_now seen) held (map pattern_now (patterns_of (run (was xs) k0).log)) x (tried x held (trace_of (ps ++ seen) kept (run (was xs) k0).log)) (answered (map pair_now ps) (lacking k (map pair_now ps)) (λ ys. run (now ys) k) (all_pages k (map pair_now ps)))
    ask-old x seen kept held ps xs was now e none rest =
        let s = map pair_now seen in
        let pats = map pattern_now (patterns_of (run (was xs) k0).log) in
        let a = tried x held (trace_of (ps ++ seen) kept (run (was xs) k0).log) in
        let c = run (now xs) k in
        let r : Follows (map pair_now ps ++ s) held pats x a c = subst (λ l. Follows l held pats x a c) (map-append pair_now ps seen) rest in
        let f : Follows s held pats x (onward (asked_first (firsts s (map pair_now ps)) []) a) (onward (asked (map pair_now ps) ∷ []) c) = follows-asked s held pats x a c (map pair_now ps) r in
        let g : Follows s held pats x a (onward (asked (map pair_now ps) ∷ []) c) = subst (λ l. Follows s held pats x (onward (asked_first l []) a) (onward (asked (map pair_now ps) ∷ []) c)) none f in
        rw e g

    module _ (x : Page) (seen kept held ps : List ℕ) (xs : List Page) (q : ℕ) (qs : List ℕ) (was now : List Page → Task Page) where
      abbrev s : List ℕ
      s = map pair_now seen

      abbrev pp : List ℕ
      pp = map pair_now ps

      abbrev fp : List ℕ
      fp = map pair_now (q ∷ qs)

      abbrev rs : List AskView
      rs = map (ask_view dig old k0) (q ∷ qs)

      abbrev pats : List ℕ
      pats = map pattern_now (patterns_of (run (was xs) k0).log)

      abbrev on : Task Attempt
      on = attempt dig new own x held (map (mark_view dig old k0) (trace_of (ps ++ seen) kept (run (was xs) k0).log))

      module _ (first : firsts seen ps ≡ q ∷ qs) (named : firsts s pp ≡ fp) (known : AllByRecursion Known seen) (fits : AllByRecursion Fits (q ∷ qs))
          (had : all_pages k0 ps ≡ Some xs) (lack : lacking k fp ≡ lacking k pp)
          (rest : AllByRecursion Known ps → Rest x ps seen kept held (was xs) (now xs)) where
        begun : asked fp ∷ [] ≡ lean s (asked pp ∷ [])
        begun = rw named refl

        goes-on : (zs : List Page) → all_pages k pp ≡ Some zs → AllByRecursion Known (q ∷ qs) → Follows s held pats x (onward (asked fp ∷ []) (run on k)) (onward (asked pp ∷ []) (run (now zs) k))
        goes-on zs e fk =
            let all : AllByRecursion Known ps = all-of-firsts Known seen ps known (subst (AllByRecursion Known) (sym first) fk) in
            let same : Some zs ≡ Some xs = sym e ∙ (pages-now ps all ∙ had) in
            let equal : zs ≡ xs = cc in
            let r : Follows (pp ++ s) held pats x (run on k) (run (now xs) k) = subst (λ l. Follows l held pats x (run on k) (run (now xs) k)) (map-append pair_now ps seen) (rest all) in
            let f : Follows s held pats x (onward (asked_first (firsts s pp) []) (run on k)) (onward (asked pp ∷ []) (run (now xs) k)) = follows-asked s held pats x (run on k) (run (now xs) k) pp r in
            let g : Follows s held pats x (onward (asked fp ∷ []) (run on k)) (onward (asked pp ∷ []) (run (now xs) k)) = subst (λ l. Follows s held pats x (onward (asked_first l []) (run on k)) (onward (asked pp ∷ []) (run (now xs) k))) named f in
            subst (λ l. Follows s held pats x (onward (asked fp ∷ []) (run on k)) (onward (asked pp ∷ []) (run (now l) k))) (sym equal) g

        new-at : (o : Option (List Page)) → all_pages k fp ≡ o → (r : Option (List Page)) → all_pages k pp ≡ r
            → Follows s held pats x (answered fp (lacking k fp) (λ ys. run (cond (same_pages dig ys rs) on (gives (broke held))) k) o) (answered pp (lacking k pp) (λ ys. run (now ys) k) r)
        new-at None e None h = stops (lacking k pp) (ap waits lack) refl begun
        new-at None e (Some zs) h = absurd (pages-none k fp e (lack ∙ pages-lack k pp zs h))
        new-at (Some ys) e None h = absurd (pages-none k pp h (sym lack ∙ pages-lack k fp ys e))
        new-at (Some ys) e (Some zs) h =
            elim (same_pages dig ys rs) as (λ b. same_pages dig ys rs ≡ b → Follows s held pats x (onward (asked fp ∷ []) (run (cond b on (gives (broke held))) k)) (onward (asked pp ∷ []) (run (now zs) k))) [
              | true ↦ λ t. goes-on zs h (same-known (q ∷ qs) ys fits (subst (AllByRecursion (λ p. is_some (k0 p) ≡ true)) first (firsts-some seen ps (some-all ps xs had))) e t)
              | false ↦ λ t. breaks (asked pp ∷ []) (run (now zs) k).log refl refl begun
            ] refl

        ask-new : Follows s held pats x (run (attempt dig new own x held (recorded rs ∷ map (mark_view dig old k0) (trace_of (ps ++ seen) kept (run (was xs) k0).log))) k) (answered pp (lacking k pp) (λ ys. run (now ys) k) (all_pages k pp))
        ask-new = subst (λ l. Follows s held pats x (answered l (lacking k l) (λ ys. run (cond (same_pages dig ys rs) on (gives (broke held))) k) (all_pages k l)) (answered pp (lacking k pp) (λ ys. run (now ys) k) (all_pages k pp))) (sym (asked-now (q ∷ qs))) (new-at (all_pages k fp) refl (all_pages k pp) refl)

    -- a group of the old run, whose pages were known
    module _ (x : Page) (seen kept held : List ℕ) (p : ℕ) (qs : List ℕ) (xs : List Page) (was now : List Page → Task Page) where
      abbrev group0 : List ℕ
      group0 = p ∷ qs

      abbrev entry_log : List Mark
      entry_log = (run (was xs) k0).log

      by-firsts : (fs : List ℕ) → firsts seen group0 ≡ fs → AllByRecursion Known seen → AllByRecursion Fits fs → AllByRecursion Fits group0
          → all_pages k0 group0 ≡ Some xs → IsDistinct nat_eq (map pair_now group0)
          → (AllByRecursion Known group0 → Rest x group0 seen kept held (was xs) (now xs))
          → Follows (map pair_now seen) held (map pattern_now (patterns_of entry_log)) x (tried x held (group_first fs (trace_of (group0 ++ seen) kept entry_log))) (answered (map pair_now group0) (lacking k (map pair_now group0)) (λ ys. run (now ys) k) (all_pages k (map pair_now group0)))
      by-firsts [] e known ff fits had distinct rest =
          let all : AllByRecursion Known group0 = all-of-firsts Known seen group0 known (subst (AllByRecursion Known) (sym e) tt) in
          ask-old x seen kept held group0 xs was now (pages-now group0 all ∙ had) (firsts-map pair_now Fits same-number seen group0 (fits-of seen known) fits ∙ ap (map pair_now) e) (rest all)
      by-firsts (f ∷ fs) e known ff fits had distinct rest =
          let named : firsts (map pair_now seen) (map pair_now group0) ≡ map pair_now (f ∷ fs) = firsts-map pair_now Fits same-number seen group0 (fits-of seen known) fits ∙ ap (map pair_now) e in
          let lack : lacking k (map pair_now (f ∷ fs)) ≡ lacking k (map pair_now group0) = ap (lacking k) (sym named) ∙ lacking-firsts k (map pair_now seen) (map pair_now group0) distinct (seen-known seen known (map pair_now group0)) in
          ask-new x seen kept held group0 xs f fs was now e named known ff had lack rest

    module _ (x : Page) (f : List Answer → Deed Page) (rec : (ys : List Answer) → Goes x (interpret old own (f ys)) (interpret new own (f ys))) where
      abbrev was_by : List Key → List Page → Task Page
      was_by keys = λ xs. interpret old own (f (answers xs (traits_of old keys)))

      abbrev now_by : List Key → List Page → Task Page
      now_by keys = λ xs. interpret new own (f (answers xs (traits_of new keys)))

      abbrev FollowsAs : Run Page → Task Page → List ℕ → List ℕ → List ℕ → Type 0
      FollowsAs r now seen kept held = Follows (map pair_now seen) held (map pattern_now (patterns_of r.log)) x (tried x held (trace_of seen kept r.log)) (run now k)

      -- what is ready after a group
      ready-after : (p : ℕ) (qs seen kept : List ℕ) (xs : List Page) (was now : List Page → Task Page) → AllByRecursion Known (p ∷ qs)
          → Ready x (onward (asked (p ∷ qs) ∷ []) (run (was xs) k0)) (asks (map pair_now (p ∷ qs)) now) seen kept
          → Ready x (run (was xs) k0) (now xs) ((p ∷ qs) ++ seen) kept
      ready-after p qs seen kept xs was now all ready =
          record {
            ends = ready.ends;
            distinct = ready.distinct.1 xs;
            known = all-append Known (p ∷ qs) seen all ready.known;
            fresh = ready.fresh;
            rising = ready.rising;
            pages = ready.pages;
            fits = (marks-first (firsts seen (p ∷ qs)) (trace_of ((p ∷ qs) ++ seen) kept (run (was xs) k0).log) ready.fits).1;
            patterns = ready.patterns;
          }

      -- with the keys that the pairs have
      ask-some : (p : ℕ) (qs seen kept held : List ℕ) (xs : List Page) → all_pages k0 (p ∷ qs) ≡ Some xs
          → Ready x (onward (asked (p ∷ qs) ∷ []) (run (was_by (map old.key (p ∷ qs)) xs) k0)) (ask_for (resolve new (map old.key (p ∷ qs))) (now_by (map old.key (p ∷ qs)))) seen kept
          → FollowsAs (onward (asked (p ∷ qs) ∷ []) (run (was_by (map old.key (p ∷ qs)) xs) k0)) (ask_for (resolve new (map old.key (p ∷ qs))) (now_by (map old.key (p ∷ qs)))) seen kept held
      ask-some p qs seen kept held xs had ready =
          let keys = map old.key (p ∷ qs) in
          let r = onward (asked (p ∷ qs) ∷ []) (run (was_by keys xs) k0) in
          let ff : AllByRecursion Fits (firsts seen (p ∷ qs)) = (marks-first (firsts seen (p ∷ qs)) (trace_of ((p ∷ qs) ++ seen) kept (run (was_by keys xs) k0).log) ready.fits).0 in
          let fits : AllByRecursion Fits (p ∷ qs) = all-of-firsts Fits seen (p ∷ qs) (fits-of seen ready.known) ff in
          let found : resolve new keys ≡ Ok (map pair_now (p ∷ qs)) = resolve-now (p ∷ qs) fits in
          let there : Ready x r (asks (map pair_now (p ∷ qs)) (now_by keys)) seen kept = subst (λ l. Ready x r (ask_for l (now_by keys)) seen kept) found ready in
          let same : now_by keys xs ≡ interpret new own (f (answers xs (traits_of old keys))) = ap (λ ts. interpret new own (f (answers xs ts))) (traits-now (p ∷ qs) fits) in
          subst (λ l. FollowsAs r (ask_for l (now_by keys)) seen kept held) (sym found)
          (by-firsts x seen kept held p qs xs (was_by keys) (now_by keys) (firsts seen (p ∷ qs)) refl ready.known ff fits had there.distinct.0
          (λ all. subst (λ n. Rest x (p ∷ qs) seen kept held (was_by keys xs) n) (sym same)
          (rec (answers xs (traits_of old keys)) ((p ∷ qs) ++ seen) kept held (subst (λ n. Ready x (run (was_by keys xs) k0) n ((p ∷ qs) ++ seen) kept) same (ready-after p qs seen kept xs (was_by keys) (now_by keys) all there)))))

      abbrev answered_was : ℕ → List ℕ → Option (List Page) → Run Page
      answered_was p qs o = answered (p ∷ qs) (lacking k0 (p ∷ qs)) (λ xs. run (was_by (map old.key (p ∷ qs)) xs) k0) o

      ask-pages : (p : ℕ) (qs seen kept held : List ℕ) → let keys = map old.key (p ∷ qs) in (o : Option (List Page)) → all_pages k0 (p ∷ qs) ≡ o
          → Ready x (answered_was p qs o) (ask_for (resolve new keys) (now_by keys)) seen kept
          → FollowsAs (answered_was p qs o) (ask_for (resolve new keys) (now_by keys)) seen kept held
      ask-pages p qs seen kept held None e ready = absurd (waits-not (lacking k0 (p ∷ qs)) x ready.ends)
      ask-pages p qs seen kept held (Some xs) e ready = ask-some p qs seen kept held xs e ready

      ask-resolved : (keys : List Key) (seen kept held : List ℕ) (r : Result (List ℕ) Fault) → resolve old keys ≡ r
          → Ready x (run (ask_for r (was_by keys)) k0) (interpret new own (asking keys f)) seen kept
          → FollowsAs (run (ask_for r (was_by keys)) k0) (interpret new own (asking keys f)) seen kept held
      ask-resolved keys seen kept held (Err e) h ready = absurd (fault-not e x ready.ends)
      ask-resolved keys seen kept held (Ok []) h ready =
          let none : [] ≡ keys = resolve-keys old old_laws keys [] h in
          let empty : resolve new keys ≡ Ok [] = ap (resolve new) (sym none) in
          let r = run (interpret old own (f [])) k0 in
          subst (λ l. FollowsAs r (ask_for l (now_by keys)) seen kept held) (sym empty) (rec [] seen kept held (subst (λ l. Ready x r (ask_for l (now_by keys)) seen kept) empty ready))
      ask-resolved keys seen kept held (Ok (p ∷ qs)) h ready =
          let named : map old.key (p ∷ qs) ≡ keys = resolve-keys old old_laws keys (p ∷ qs) h in
          subst (λ l. Ready x (run (ask_for (Ok (p ∷ qs)) (was_by l)) k0) (interpret new own (asking l f)) seen kept → FollowsAs (run (ask_for (Ok (p ∷ qs)) (was_by l)) k0) (interpret new own (asking l f)) seen kept held) named
          (λ w. ask-pages p qs seen kept held (all_pages k0 (p ∷ qs)) refl w) ready

    -- a match, which is the same in both plans
    match-goes : (x : Page) (by : Bytes) (f : List Ident → Deed Page)
        → ((ids : List Ident) → IsNamed old own (f ids) → IsNamed new own (f ids) → Goes x (interpret old own (f ids)) (interpret new own (f ids)))
        → IsNamed old own (matching by f) → IsNamed new own (matching by f) → Goes x (interpret old own (matching by f)) (interpret new own (matching by f))
    match-goes x by f rec n m seen kept held ready =
        let named : old.pattern (old.number by) ≡ by = n.0 in
        let same : new.matches by ≡ old.matches by = subst (λ b. new.matches b ≡ old.matches b) named ready.patterns.0 in
        let was = run (interpret old own (f (old.matches by))) k0 in
        let pats = map pattern_now (patterns_of was.log) in
        let a = tried x held (trace_of seen kept was.log) in
        let next : Ready x was (interpret new own (f (old.matches by))) seen kept = record {
          ends = ready.ends;
          distinct = subst (λ ids. AllGroups (IsDistinct nat_eq) (interpret new own (f ids))) same ready.distinct;
          known = ready.known;
          fresh = ready.fresh;
          rising = ready.rising;
          pages = ready.pages;
          fits = ready.fits;
          patterns = ready.patterns.1;
        } in
        let go : Follows (map pair_now seen) held pats x a (run (interpret new own (f (old.matches by))) k) = rec (old.matches by) n.1 (subst (λ ids. IsNamed new own (f ids)) same m.1) seen kept held next in
        let on : Follows (map pair_now seen) held (new.number by ∷ pats) x a (onward (note (used (new.number by)) ∷ []) (run (interpret new own (f (old.matches by))) k)) =
        follows-used (map pair_now seen) held pats x a (run (interpret new own (f (old.matches by))) k) (new.number by) go in
        let at : Follows (map pair_now seen) held (new.number by ∷ pats) x a (onward (note (used (new.number by)) ∷ []) (run (interpret new own (f (new.matches by))) k)) =
        subst (λ ids. Follows (map pair_now seen) held (new.number by ∷ pats) x a (onward (note (used (new.number by)) ∷ []) (run (interpret new own (f ids)) k))) (sym same) on in
        subst (λ b. Follows (map pair_now seen) held (new.number b ∷ pats) x a (onward (note (used (new.number by)) ∷ []) (run (interpret new own (f (new.matches by))) k))) (sym named) at

    -- a save, under the same name in both
    below : (p : ℕ) (qs : List ℕ) (kept : List ℕ) → AllByRecursion (λ q. p < q) qs → AllByRecursion (λ q. is_in kept q ≡ false) qs → AllByRecursion (λ q. is_in (p ∷ kept) q ≡ false) qs
    below p [] kept h g = tt
    below p (q ∷ qs) kept h g = (rw (other h.0, g.0) refl, below p qs kept h.1 g.1)
      where
        other : p < q → nat_eq q p ≡ false
        other lt = grind (arith, lt)

    module _ (x : Page) (name : Bytes) (y : Page) (was now : Task Page) (rec : Goes x was now) where
      abbrev own_key : Key
      own_key = record { id = own; name = name }

      save-some : (seen kept held : List ℕ) (p q : ℕ) → old.pair own_key ≡ Some p → new.pair own_key ≡ Some q
          → Ready x (run (notes (saved p y) was) k0) (notes (saved q y) now) seen kept
          → Follows (map pair_now seen) held (map pattern_now (patterns_of (run was k0).log)) x (tried x held (trace_of seen kept (note (saved p y) ∷ (run was k0).log))) (run (notes (saved q y) now) k)
      save-some seen kept held p q e h ready =
          let key : old.key p ≡ own_key = old_laws.keyed own_key p e in
          let num : pair_or new (record { id = own; name = (old.key p).name }) ≡ q = rw (key, h) refl in
          let page : page_at k0 p ≡ y = rw ready.pages.0 refl in
          let log = (run was k0).log in
          let fits : FitsMarks (trace_of seen (p ∷ kept) log) = subst (λ b. FitsMarks (cond b (trace_of seen kept log) (save p ∷ trace_of seen (p ∷ kept) log))) ready.fresh.0 ready.fits in
          let next : Ready x (run was k0) now seen (p ∷ kept) = record {
            ends = ready.ends;
            distinct = ready.distinct;
            known = ready.known;
            fresh = below p (saved_pairs log) kept ready.rising.0 ready.fresh.1;
            rising = ready.rising.1;
            pages = ready.pages.1;
            fits = fits;
            patterns = ready.patterns;
          } in
          let pats = map pattern_now (patterns_of log) in
          let marks = map (mark_view dig old k0) (trace_of seen (p ∷ kept) log) in
          let go : Follows (map pair_now seen) (q ∷ held) pats x (run (attempt dig new own x (q ∷ held) marks) k) (run now k) = rec seen (p ∷ kept) (q ∷ held) next in
          let on : Follows (map pair_now seen) held pats x (onward (note (saved q y) ∷ []) (run (attempt dig new own x (q ∷ held) marks) k)) (run (notes (saved q y) now) k) = follows-saved (map pair_now seen) held pats x (run (attempt dig new own x (q ∷ held) marks) k) (run now k) q y go in
          let named : Follows (map pair_now seen) held pats x (run (attempt dig new own x held (stored (old.key p).name (page_at k0 p) ∷ marks)) k) (run (notes (saved q y) now) k) =
          subst (λ z. Follows (map pair_now seen) held pats x (onward (note (saved (pair_or new (record { id = own; name = (old.key p).name })) z) ∷ []) (run (attempt dig new own x (pair_or new (record { id = own; name = (old.key p).name }) ∷ held) marks) k)) (run (notes (saved q y) now) k)) (sym page)
          (subst (λ n. Follows (map pair_now seen) held pats x (onward (note (saved n y) ∷ []) (run (attempt dig new own x (n ∷ held) marks) k)) (run (notes (saved q y) now) k)) (sym num) on) in
          subst (λ b. Follows (map pair_now seen) held pats x (tried x held (cond b (trace_of seen kept log) (save p ∷ trace_of seen (p ∷ kept) log))) (run (notes (saved q y) now) k)) (sym ready.fresh.0) named

      save-goes : (o r : Option ℕ) → old.pair own_key ≡ o → new.pair own_key ≡ r → is_some o ≡ true → is_some r ≡ true → Goes x (save_as o y was) (save_as r y now)
      save-goes None r e h s t = cc
      save-goes (Some p) None e h s t = cc
      save-goes (Some p) (Some q) e h s t = λ seen kept held ready. save-some seen kept held p q e h ready

    pub central : (x : Page) (d : Deed Page) → IsNamed old own d → IsNamed new own d → Goes x (interpret old own d) (interpret new own d)
    central x (returns y) n m = λ seen kept held ready. goes refl ready.ends refl refl
    central x (refuses e) n m = λ seen kept held ready. absurd (fault-not e x ready.ends)
    central x (asking keys f) n m = λ seen kept held ready. ask-resolved x f (λ ys. central x (f ys) (n ys) (m ys)) keys seen kept held (resolve old keys) refl ready
    central x (matching by f) n m = match-goes x by f (λ ids a b. central x (f ids) a b) n m
    central x (saving name y d) n m = save-goes x name y (interpret old own d) (interpret new own d) (central x d n.1 m.1) (old.pair (record { id = own; name = name })) (new.pair (record { id = own; name = name })) refl refl n.0 m.0
