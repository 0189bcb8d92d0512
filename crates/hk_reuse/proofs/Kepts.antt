-- The items that are kept have finished, so that the history without their events is complete.
use Rattle.std.proofs.Common.{◌≡◌, refl, sym, ap, ◌∙◌, subst, ℕ, ◌<◌, Bool, true, false, cond, List, Option, Some, None, nat_lt, ltb-true, reverse}
use Rattle.hk_chain.specs.declared.page.Page.{Page}
use Rattle.hk_chain.specs.Layout.{Shape, pairs, item_of}
use Rattle.std.proofs.Math.Path.{fun_ext}
use Rattle.hk_fix.specs.declared.event.Event.{Event}
use Rattle.hk_fix.specs.Pages.{Pages, Extends}
use Rattle.hk_fix.specs.Task.{Task, Mark, End, done, fault, waits, run}
use Rattle.hk_fix.specs.Facts.{whole_log}
use Rattle.hk_fix.specs.TaskLaws.{run_bind, follow}
use Rattle.hk_fix.specs.Fix.{Seeds, is_finished, ends_with, fix, status, IsComplete}
use Rattle.hk_fix.specs.Deeds.{task_of}
use Rattle.hk_store.specs.Digests.{Digests}
use Rattle.hk_store.specs.Entry.{EntryView}
use Rattle.hk_reuse.specs.Entries.{Entries}
use Rattle.hk_reuse.specs.Fits.{fits}
use Rattle.hk_reuse.specs.Histories.{others, kept_seeds, finished_facts}
use Rattle.hk_reuse.specs.Image.{image}
use Rattle.hk_reuse.specs.Kept.{is_through, kept_by, is_kept, seeds_kept}
use Rattle.hk_reuse.specs.Rebuilt.{replay_of, replay_run, rebuilt, reendings, TellApart, TextsTell, SameRun}
use Rattle.hk_reuse.specs.Replay.{Attempt, through, broke, pattern_numbers, finish, attempt_of, replay_by}
use Rattle.hk_reuse.specs.Site.{Site, items_of, shape_of, clean_run, no_seeds, built, endings, IsSite}
use Rattle.hk_reuse.proofs.Finishes.{run-notes}
use Rattle.hk_reuse.proofs.Histories.{others-complete, fix-seeded}
use Rattle.hk_reuse.proofs.Images.{image-formed}
use Rattle.hk_reuse.proofs.Laws.{replay-laws}
use Rattle.hk_reuse.proofs.Sites.{laws-of, replays-same, rebuilt-same, endings-same}
use Rattle.hk_reuse.proofs.Tests.{and-both}

module _ (dig : Digests) (site : Site) (entries : Entries) where
  through-done : (whole : Task Page) (ns : List ℕ) (log : List Mark) (e : End Attempt) (k : Pages) → is_through e ≡ true → (x : Page) × ((follow log e (λ y. run (finish whole ns y) k)).end ≡ done x)
  through-done whole ns log (done (through x)) k t = (x, ap (λ r. r.end) (run-notes ns x k))
  through-done whole ns log (done (broke kept)) k t = cc
  through-done whole ns log (fault e) k t = cc
  through-done whole ns log (waits ps) k t = cc

  kept-done : (i : ℕ) (k : Pages) (o : Option EntryView) → kept_by dig (items_of site) k i o ≡ true → (x : Page) × ((run (replay_of dig site entries i o) k).end ≡ done x)
  kept-done i k None t = cc
  kept-done i k (Some e) t =
      let begun = attempt_of dig (items_of site) i e in
      let whole = task_of site.deeds i in
      let w = and-both (fits dig (items_of site) i e) (is_through (run begun k).end) t in
      let ns = pattern_numbers site.deeds.table e in
      let d : (x : Page) × ((follow (run begun k).log (run begun k).end (λ y. run (finish whole ns y) k)).end ≡ done x) = through-done whole ns (run begun k).log (run begun k).end k w.1 in
      (d.0, subst (λ b. (run (cond b (replay_by dig (items_of site) i whole e) whole) k).end ≡ done d.0) (sym w.0) (ap (λ r. r.end) (run_bind begun (finish whole ns) k) ∙ d.1))

module _ (dig : Digests) (old new : Site) (o : IsSite old) (n : IsSite new) (apart : TellApart dig old new) (tell : TextsTell old new) where
  abbrev lay : Shape
  lay = shape_of new

  abbrev E : Entries
  E = image dig old

  same : (i : ℕ) → i < lay.items → (k : Pages) → Extends k (built new) → SameRun lay i (replay_run dig new E i k) (clean_run new i k)
  same i lt k within = replays-same dig old new o n apart tell i lt k within

  fixes : rebuilt dig new E ≡ built new
  fixes = rebuilt-same dig old new o n apart tell

  done-finished : (i : ℕ) (x : Page) → (clean_run new i (built new)).end ≡ done x → is_finished (endings new i) ≡ true
  unfolding status
  done-finished i x e = ap (λ z. is_finished (ends_with (whole_log lay i (clean_run new i (built new))) z)) e

  pub finishes : (i : ℕ) → is_kept dig new E i ≡ true → (i < lay.items) × (is_finished (endings new i) ≡ true)
  finishes i t =
      let w = and-both (nat_lt i lay.items) (kept_by dig (items_of new) (rebuilt dig new E) i (E (new.deeds.id i))) t in
      let lt : i < lay.items = ltb-true i lay.items w.0 in
      let k : kept_by dig (items_of new) (built new) i (E (new.deeds.id i)) ≡ true = subst (λ (m : Pages). kept_by dig (items_of new) m i (E (new.deeds.id i)) ≡ true) fixes w.1 in
      let d : (x : Page) × ((replay_run dig new E i (built new)).end ≡ done x) = kept-done dig new E i (built new) (E (new.deeds.id i)) k in
      (lt, done-finished i d.0 (sym (same i lt (built new) (λ p x e. e)).ends ∙ d.1))

  abbrev S0 : Seeds
  S0 = kept_seeds lay (is_kept dig new E) (built new) (endings new)

  facts-alike : (i : ℕ) (b : Bool) → is_kept dig new E i ≡ b → cond b (finished_facts (reendings dig new E i)) None ≡ cond b (finished_facts (endings new i)) None
  facts-alike i true t = ap finished_facts (endings-same dig old new o n apart tell i (finishes i t).0)
  facts-alike i false t = refl

  seeds-same : S0 ≡ seeds_kept dig new E
  seeds-same =
      ap (λ (k : Pages). record { pages = λ p. cond (nat_lt p (pairs lay)) (cond (is_kept dig new E (item_of lay p)) (k p) None) None; facts = S0.facts }) (sym fixes)
      ∙ ap (λ f. record { pages = (seeds_kept dig new E).pages; facts = f }) (fun_ext (λ i. sym (facts-alike i (is_kept dig new E i) refl)))

  pub kept-history : (h : List Event) → IsComplete lay (replay_run dig new E) no_seeds h → IsComplete lay (clean_run new) (seeds_kept dig new E) (others lay (is_kept dig new E) h)
  kept-history h all =
      subst (λ s. IsComplete lay (clean_run new) s (others lay (is_kept dig new E) h)) seeds-same
      (others-complete lay (clean_run new) (replay_run dig new E) n.shape (laws-of new n) (replay-laws dig new n E (image-formed dig old o)) same fixes (is_kept dig new E) finishes h all)

  pub kept-fix : (h : List Event) → IsComplete lay (replay_run dig new E) no_seeds h → fix lay (clean_run new) (seeds_kept dig new E) ≡ built new
  kept-fix h all =
      subst (λ s. fix lay (clean_run new) s ≡ built new) seeds-same
      (fix-seeded lay (clean_run new) (replay_run dig new E) n.shape (laws-of new n) (replay-laws dig new n E (image-formed dig old o)) same fixes (is_kept dig new E) finishes (reverse h) all)
