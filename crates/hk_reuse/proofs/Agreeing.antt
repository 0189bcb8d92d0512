-- Families that have the same runs of a layout's items have the same fixpoint, ends and histories.
use Rattle.std.proofs.Common.{◌≡◌, refl, sym, ap, ◌∙◌, subst, ℕ, zero, suc, ◌<◌, Bool, true, false, cond, List, [], ◌∷◌, Option, Some, None, is_some, nat_lt, ltb-true, reverse}
use Rattle.std.proofs.Math.Path.{fun_ext}
use Rattle.hk_base.specs.Identifier.{Ident}
use Rattle.hk_chain.specs.declared.page.Page.{Page}
use Rattle.hk_chain.specs.Layout.{Shape, IsShape, pairs, item_of, final_of}
use Rattle.hk_fix.specs.declared.event.Event.{Event}
use Rattle.hk_fix.specs.declared.event.Event.TheVariants.{Begin, Saved, Done, Failed}
use Rattle.hk_fix.specs.Fix.{Seeds, Ending, seeded, ending_of, with_new, round, known, fix, status, after, is_done, is_fault, MayEnd, MayFollow, LawfulNewest, CompleteNewest, IsComplete}
use Rattle.hk_fix.specs.Pages.{Pages}
use Rattle.hk_fix.specs.Run.{snapshot, finished_page, page_of}
use Rattle.hk_fix.specs.Task.{End, Run, run}
use Rattle.hk_fix.specs.TaskLaws.{follow}
use Rattle.hk_store.specs.Digests.{Digests}
use Rattle.hk_store.specs.Entry.{EntryView}
use Rattle.hk_reuse.specs.Builds.{left}
use Rattle.hk_reuse.specs.Entries.{Entries}
use Rattle.hk_reuse.specs.Fits.{fits}
use Rattle.hk_reuse.specs.Over.{SameRuns, finish_run, over_by, over}
use Rattle.hk_reuse.specs.Replay.{pattern_numbers, attempt_of}
use Rattle.hk_reuse.specs.Histories.{others}
use Rattle.hk_reuse.specs.Image.{entry_by, entry_at, entries_of, image}
use Rattle.hk_reuse.specs.Kept.{is_kept, seeds_kept}
use Rattle.hk_reuse.specs.Rebuilt.{replay_run, rebuilt, reendings, ArePlansApart}
use Rattle.hk_reuse.specs.Site.{Items, Site, items_of, shape_of, clean_run, no_seeds, IsSite}
use Rattle.hk_reuse.proofs.Kepts.{kept-history}
use Rattle.hk_reuse.proofs.Over.{replay-over}
use Rattle.hk_reuse.proofs.Sites.{rebuilt-same, endings-same}

module _ (lay : Shape) (shape : IsShape lay) (seeds : Seeds) where
  module _ (a b : ℕ → Pages → Run Page) (same : SameRuns lay a b) where
    known-agree : (n : ℕ) → known lay a seeds n ≡ known lay b seeds n
    known-agree zero = refl
    known-agree (suc n) = ap (round lay a seeds) (known-agree n) ∙ fun_ext (λ p. at p (nat_lt p (pairs lay)) refl)
      where
        k : Pages
        k = known lay b seeds n

        at : (p : ℕ) (c : Bool) → nat_lt p (pairs lay) ≡ c
            → cond c (cond (seeded seeds (item_of lay p)) (seeds.pages p) (page_of lay (item_of lay p) (a (item_of lay p) k) p)) None ≡ cond c (cond (seeded seeds (item_of lay p)) (seeds.pages p) (page_of lay (item_of lay p) (b (item_of lay p) k) p)) None
        at p true t = ap (λ r. cond (seeded seeds (item_of lay p)) (seeds.pages p) (page_of lay (item_of lay p) r p)) (same (item_of lay p) k (shape.in_items p (ltb-true p (pairs lay) t)))
        at p false t = refl

    pub fix-agree : fix lay a seeds ≡ fix lay b seeds
    unfolding fix
    fix-agree = known-agree (pairs lay)

    pub status-agree : (i : ℕ) → i < lay.items → status lay a seeds i ≡ status lay b seeds i
    unfolding status
    status-agree i lt = ap (λ r. ending_of lay i r (seeds.facts i)) (same i (fix lay a seeds) lt ∙ ap (b i) fix-agree)

    -- one event more
    module _ (h : List Event) (known_same : after lay a seeds h ≡ after lay b seeds h) where
      run-now : (i : ℕ) → i < lay.items → a i (after lay a seeds h) ≡ b i (after lay b seeds h)
      run-now i lt = same i (after lay a seeds h) lt ∙ ap (b i) known_same

      end-may : (i : ℕ) (test : End Page → Bool) → MayEnd lay a seeds h i test → MayEnd lay b seeds h i test
      end-may i test m =
          let r = run-now i m.in_range in
          record {
            in_range = m.in_range;
            begun = m.begun;
            going = m.going;
            ends = subst (λ (z : Run Page). test z.end ≡ true) r m.ends;
            snapshots = λ p s. m.snapshots p (subst (λ z. is_some (snapshot z p) ≡ true) (sym r) s);
          }

      may-agree : (e : Event) → MayFollow lay a seeds h e → MayFollow lay b seeds h e
      may-agree (Begin i) m = m
      may-agree (Saved p) m =
          let r = run-now (item_of lay p) (shape.in_items p m.in_range) in
          record {
            in_range = m.in_range;
            begun = m.begun;
            going = m.going;
            saves = subst (λ z. is_some (snapshot z p) ≡ true) r m.saves;
            earlier = λ q less s. m.earlier q less (subst (λ z. is_some (snapshot z q) ≡ true) (sym r) s);
          }
      may-agree (Done i) m = end-may i is_done m
      may-agree (Failed i) m = end-may i is_fault m

    after-agree : (h : List Event) → LawfulNewest lay a seeds h → after lay a seeds h ≡ after lay b seeds h
    after-agree [] l = refl
    after-agree (Begin i ∷ h) l = after-agree h l.2
    after-agree (Failed i ∷ h) l = after-agree h l.2
    after-agree (Saved p ∷ h) l =
        let e : after lay a seeds h ≡ after lay b seeds h = after-agree h l.2 in
        ap (λ r. with_new (after lay a seeds h) p (snapshot r p)) (run-now h e (item_of lay p) (shape.in_items p l.1.in_range)) ∙ ap (λ k. with_new k p (snapshot (b (item_of lay p) (after lay b seeds h)) p)) e
    after-agree (Done i ∷ h) l =
        let e : after lay a seeds h ≡ after lay b seeds h = after-agree h l.2 in
        ap (λ (r : Run Page). with_new (after lay a seeds h) (final_of lay i) (finished_page r.end)) (run-now h e i l.1.in_range) ∙ ap (λ k. with_new k (final_of lay i) (finished_page (b i (after lay b seeds h)).end)) e

    lawful-agree : (h : List Event) → LawfulNewest lay a seeds h → LawfulNewest lay b seeds h
    lawful-agree [] l = tt
    lawful-agree (e ∷ h) l = (l.0, may-agree h (after-agree h l.2) e l.1, lawful-agree h l.2)

  pub complete-agree : (a b : ℕ → Pages → Run Page) → SameRuns lay a b → (h : List Event) → CompleteNewest lay a seeds h → CompleteNewest lay b seeds h
  complete-agree a b same h all =
      record {
        lawful = lawful-agree a b same h all.lawful;
        nothing_follows = λ e f m. all.nothing_follows e f (may-agree b a (λ i k lt. sym (same i k lt)) h (sym (after-agree a b same h all.lawful)) e m);
      }

-- replays over families that agree
pub over-agree : (dig : Digests) (items : Items) (entries : Entries) (a b : ℕ → Pages → Run Page) → SameRuns items.table.layout a b
    → SameRuns items.table.layout (over dig items entries a) (over dig items entries b)
over-agree dig items entries a b same i k lt = at (entries (items.id i))
  where
    at : (o : Option EntryView) → over_by dig items entries a i o k ≡ over_by dig items entries b i o k
    at None = same i k lt
    at (Some e) =
        let begun = run (attempt_of dig items i e) k in
        ap (λ r. cond (fits dig items i e) (follow begun.log begun.end (finish_run r (pattern_numbers items.table e))) r) (same i k lt)

-- a build over entries by the runs of compilers that run as the plan's deeds do
module _ (dig : Digests) (site : Site) (s : IsSite site) (entries : Entries) (inner : ℕ → Pages → Run Page) (same : SameRuns (shape_of site) inner (clean_run site)) where
  abbrev pub over_inner : ℕ → Pages → Run Page
  over_inner = over dig (items_of site) entries inner

  pub over-replays : SameRuns (shape_of site) over_inner (replay_run dig site entries)
  over-replays i k lt = over-agree dig (items_of site) entries inner (clean_run site) same i k lt ∙ sym (replay-over dig site entries i k)

  pub over-rebuilt : fix (shape_of site) over_inner no_seeds ≡ rebuilt dig site entries
  over-rebuilt = fix-agree (shape_of site) s.shape no_seeds over_inner (replay_run dig site entries) over-replays

  pub over-endings : (i : ℕ) → i < (shape_of site).items → status (shape_of site) over_inner no_seeds i ≡ reendings dig site entries i
  over-endings = status-agree (shape_of site) s.shape no_seeds over_inner (replay_run dig site entries) over-replays

  pub over-complete : (h : List Event) → IsComplete (shape_of site) over_inner no_seeds h → IsComplete (shape_of site) (replay_run dig site entries) no_seeds h
  over-complete h all = complete-agree (shape_of site) s.shape no_seeds over_inner (replay_run dig site entries) over-replays (reverse h) all

module _ (dig : Digests) (old new : Site) (plans : ArePlansApart dig old new) (inner : ℕ → Pages → Run Page) (same : SameRuns (shape_of new) inner (clean_run new)) where
  back : SameRuns (shape_of new) (clean_run new) inner
  back i k lt = sym (same i k lt)

  pub clean-pages : fix (shape_of new) (over dig (items_of new) (image dig old) inner) no_seeds ≡ fix (shape_of new) inner no_seeds
  clean-pages =
      over-rebuilt dig new plans.now (image dig old) inner same
      ∙ (rebuilt-same dig old new plans.was plans.now plans.apart plans.told ∙ fix-agree (shape_of new) plans.now.shape no_seeds (clean_run new) inner back)

  pub clean-ends : (i : ℕ) → i < (shape_of new).items → status (shape_of new) (over dig (items_of new) (image dig old) inner) no_seeds i ≡ status (shape_of new) inner no_seeds i
  clean-ends i lt =
      over-endings dig new plans.now (image dig old) inner same i lt
      ∙ (endings-same dig old new plans.was plans.now plans.apart plans.told i lt ∙ status-agree (shape_of new) plans.now.shape no_seeds (clean_run new) inner back i lt)

  pub clean-history : (h : List Event) → IsComplete (shape_of new) (over dig (items_of new) (image dig old) inner) no_seeds h
      → IsComplete (shape_of new) inner (seeds_kept dig new (image dig old)) (others (shape_of new) (is_kept dig new (image dig old)) h)
  clean-history h all =
      let told : IsComplete (shape_of new) (replay_run dig new (image dig old)) no_seeds h = over-complete dig new plans.now (image dig old) inner same h all in
      complete-agree (shape_of new) plans.now.shape (seeds_kept dig new (image dig old)) (clean_run new) inner back (reverse (others (shape_of new) (is_kept dig new (image dig old)) h))
      (kept-history dig old new plans.was plans.now plans.apart plans.told h told)

-- and the entries that it leaves
pub over-left : (dig : Digests) (site : Site) (entries : Entries) (inner : ℕ → Pages → Run Page) → IsSite site → SameRuns (shape_of site) inner (clean_run site)
    → entries_of dig (items_of site) (status (shape_of site) (over dig (items_of site) entries inner) no_seeds) (fix (shape_of site) (over dig (items_of site) entries inner) no_seeds) ≡ left dig site entries
over-left dig site entries inner s same = fun_ext (λ id. at id (site.deeds.table.find id) refl)
  where
    ends : ℕ → Ending
    ends = status (shape_of site) (over dig (items_of site) entries inner) no_seeds

    pages : Pages
    pages = fix (shape_of site) (over dig (items_of site) entries inner) no_seeds

    at : (id : Ident) (f : Option ℕ) → site.deeds.table.find id ≡ f → entry_at dig (items_of site) ends pages f ≡ entry_at dig (items_of site) (reendings dig site entries) (rebuilt dig site entries) f
    at id None h = refl
    at id (Some i) h =
        ap (λ k. entry_by dig (items_of site) ends k i (ends i)) (over-rebuilt dig site s entries inner same)
        ∙ ap (entry_by dig (items_of site) (reendings dig site entries) (rebuilt dig site entries) i) (over-endings dig site s entries inner same i (s.proper.found id i h).0)
