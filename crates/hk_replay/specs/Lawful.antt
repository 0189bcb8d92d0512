-- The replays over a lawful family are lawful.
use Rattle.std.proofs.Common.{refl, ap, ℕ, ◌<◌, Bool, true, false, cond, List, [], ◌∷◌, Option, Some, None, nat_eq}
use Rattle.std.specs.List.{AllByRecursion, IsDistinct}
use Rattle.hk_chain.specs.declared.page.Page.{Page}
use Rattle.hk_chain.specs.Layout.{Shape, pairs}
use Rattle.hk_fix.specs.Pages.{Pages, lacking, all_pages}
use Rattle.hk_fix.specs.Task.{Task, gives, Run, run, answered}
use Rattle.hk_fix.specs.Run.{IsRun}
use Rattle.hk_fix.specs.Chains.{AllGroups}
use Rattle.hk_reuse.specs.Replay.{Attempt, broke}
use Rattle.hk_reuse.proofs.Over.{Attempted, IsRunOf, inner-laws, attempt-laws}
use Rattle.hk_replay.specs.declared.record.Step.{Step}
use Rattle.hk_replay.specs.declared.record.Step.TheVariants.{Asked, Saved}
use Rattle.hk_replay.specs.declared.record.Record.{Record}
use Rattle.hk_replay.specs.declared.record.Records.{Records}
use Rattle.hk_replay.specs.Replays.{same_pages, attempt, over_by, record_at, over, pairs_saved, AreGroups, IsRecordBy, AreRecords}

module _ (x : Page) (k : Pages) where
  stops-here : (ps kept : List ℕ) → Attempted ps kept (run {A = Attempt} (gives (broke kept)) k)
  stops-here ps kept = record { begins = (ps, refl); all = λ y e. cc; broken = λ h e. cc; unused = refl }

  attempted-if : (ps kept : List ℕ) (b : Bool) (t : Task Attempt) → Attempted ps kept (run t k) → Attempted ps kept (run (cond b t (gives (broke kept))) k)
  attempted-if ps kept true t h = h
  attempted-if ps kept false t h = stops-here ps kept

  attempted-group : (ps kept qs : List ℕ) (f : List Page → Task Attempt) → ((xs : List Page) → Attempted ps kept (run (f xs) k)) → (o : Option (List Page)) → Attempted ps kept (answered qs (lacking k qs) (λ xs. run (f xs) k) o)
  attempted-group ps kept qs f h None = record { begins = (ps, refl); all = λ y e. cc; broken = λ g e. cc; unused = refl }
  attempted-group ps kept qs f h (Some xs) = let r : Attempted ps kept (run (f xs) k) = h xs in record { begins = r.begins; all = r.all; broken = r.broken; unused = r.unused }

  attempted : (steps : List Step) (kept : List ℕ) → Attempted (pairs_saved steps) kept (run (attempt x kept steps) k)
  attempted [] kept = record { begins = ([], refl); all = λ y e. refl; broken = λ h e. cc; unused = refl }
  attempted (Asked ps ds ∷ steps) kept = attempted-group (pairs_saved steps) kept ps.items (λ xs. cond (same_pages xs ds.items) (attempt x kept steps) (gives (broke kept))) (λ xs. attempted-if (pairs_saved steps) kept (same_pages xs ds.items) (attempt x kept steps) (attempted steps kept)) (all_pages k ps.items)
  attempted (Saved p page ∷ steps) kept =
      let r : Attempted (pairs_saved steps) (p ∷ kept) (run (attempt x (p ∷ kept) steps) k) = attempted steps (p ∷ kept) in
      record {
        begins = (r.begins.0, ap (λ l. p ∷ l) r.begins.1);
        all = λ y e. ap (λ l. p ∷ l) (r.all y e);
        broken = r.broken;
        unused = r.unused;
      }

module _ (lay : Shape) (x : Page) where
  groups-if : (P : List ℕ → Type 0) (kept : List ℕ) (b : Bool) (t : Task Attempt) → AllGroups P t → AllGroups P (cond b t (gives (broke kept)))
  groups-if P kept true t h = h
  groups-if P kept false t h = tt

  once : (steps : List Step) (kept : List ℕ) → AreGroups lay steps → AllGroups (IsDistinct nat_eq) (attempt x kept steps)
  once [] kept h = tt
  once (Asked ps ds ∷ steps) kept h = (h.0.0, λ xs. groups-if (IsDistinct nat_eq) kept (same_pages xs ds.items) (attempt x kept steps) (once steps kept h.1))
  once (Saved p page ∷ steps) kept h = once steps (p ∷ kept) h

  inside : (steps : List Step) (kept : List ℕ) → AreGroups lay steps → AllGroups (AllByRecursion (λ p. p < pairs lay)) (attempt x kept steps)
  inside [] kept h = tt
  inside (Asked ps ds ∷ steps) kept h = (h.0.1, λ xs. groups-if (AllByRecursion (λ p. p < pairs lay)) kept (same_pages xs ds.items) (attempt x kept steps) (inside steps kept h.1))
  inside (Saved p page ∷ steps) kept h = inside steps (p ∷ kept) h

module _ (lay : Shape) (inner : ℕ → Pages → Run Page) (laws : IsRun lay inner) where
  by-record : (i : ℕ) → i < lay.items → (o : Option Record) → IsRecordBy lay i o → IsRunOf lay i (over_by (inner i) o)
  by-record i lt None h = inner-laws lay inner laws i lt
  by-record i lt (Some r) h =
      attempt-laws lay inner laws i lt (pairs_saved r.steps.items) h.saves (attempt r.page [] r.steps.items) r.patterns.items
      (once lay r.page r.steps.items [] h.groups)
      (inside lay r.page r.steps.items [] h.groups)
      (λ k. attempted r.page k r.steps.items [])

  module _ (records : Records) (fit : AreRecords lay records) where
    pub run-of : (i : ℕ) → i < lay.items → IsRunOf lay i (over records inner i)
    run-of i lt = by-record i lt (record_at records i) (fit i lt)

    pub over-laws : IsRun lay (over records inner)
    over-laws =
        record {
          waiting = λ i k lt. (run-of i lt).waiting k;
          some = λ i k l lt e. (run-of i lt).some k l e;
          once = λ i k l lt e. (run-of i lt).once k l e;
          still = λ i k m l p lt e ext c n. (run-of i lt).still k m l p e ext c n;
          same = λ i k m lt h. (run-of i lt).same k m h;
          grows = λ i k m lt ext. (run-of i lt).grows k m ext;
          own = λ i k p x lt e. (run-of i lt).own k p x e;
          rising = λ i k lt. (run-of i lt).rising k;
          all = λ i k p x lt e less of_i ne. (run-of i lt).all k p x e less of_i ne;
          within = λ i k lt. (run-of i lt).within k;
        }
