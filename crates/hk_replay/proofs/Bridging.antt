-- A replay by numbers is the replay by names, and its records are those of their items.
use Rattle.std.proofs.Common.{◌≡◌, refl, sym, ap, subst, ◌∙◌, ℕ, ◌<◌, Bool, true, false, cond, ◌&&◌, List, [], ◌∷◌, map, Option, Some, None, option_map, nat_eq, bytes_eq}
use Rattle.std.proofs.Math.Path.{fun_ext}
use Rattle.std.specs.List.{AllByRecursion, IsDistinct, list_all}
use Rattle.hk_base.specs.Identifier.{Ident}
use Rattle.hk_chain.specs.declared.page.Page.{Page}
use Rattle.hk_chain.specs.Layout.{pairs}
use Rattle.hk_chain.specs.Snapshots.{AreSnapshots}
use Rattle.hk_fix.specs.Pages.{Pages}
use Rattle.hk_fix.specs.Table.{Table, IsTable}
use Rattle.hk_fix.specs.Task.{gives, asks, notes, saved, Run, run}
use Rattle.hk_fix.specs.TaskLaws.{follow}
use Rattle.hk_store.specs.Digests.{Digests}
use Rattle.hk_store.specs.Traits.{sha_digests}
use Rattle.hk_store.specs.Entry.{AskView, MarkView, asked, stored, EntryView}
use Rattle.hk_reuse.specs.Entries.{Entries, front, last_page, saved_names, AskOnce, AreFormed, IsFormed}
use Rattle.hk_reuse.specs.Fits.{ask_fits, mark_fits, fits}
use Rattle.hk_reuse.specs.Over as named
use Rattle.hk_reuse.specs.Over.{finish_run}
use Rattle.hk_reuse.specs.Replay as names
use Rattle.hk_reuse.specs.Replay.{Attempt, broke, asked_pairs, pattern_numbers}
use Rattle.hk_reuse.specs.Site.{Items, pair_named, AreItems}
use Rattle.hk_reuse.proofs.Tests.{and-both}
use Rattle.hk_reuse.proofs.Laws.{Fitting, fitting, front-once, groups-once, groups-within}
use Rattle.hk_replay.specs.declared.record.Step.{Step}
use Rattle.hk_replay.specs.declared.record.Step.TheVariants.{Asked, Saved}
use Rattle.hk_replay.specs.declared.record.Record.{Record}
use Rattle.hk_replay.specs.declared.record.Records.{Records}
use Rattle.hk_replay.specs.Replays.{same_pages, attempt, over_by, over, record_at, pairs_saved, AreGroups, IsRecord, IsRecordBy, AreRecords}
use Rattle.hk_replay.specs.Numbered.{step_view, record_view, numbered_step, numbered_entry, numbered_by, AreNumbered}

-- ---- one run

same-asked : (dig : Digests) → ((x : Page) → sha_digests.page x ≡ dig.page x) → (xs : List Page) (views : List AskView) → same_pages xs (map (λ v. v.page) views) ≡ names.same_pages dig xs views
same-asked dig e [] [] = refl
same-asked dig e [] (v ∷ views) = refl
same-asked dig e (x ∷ xs) [] = refl
same-asked dig e (x ∷ xs) (v ∷ views) = λ i. bytes_eq (e x i) v.page && same-asked dig e xs views i

module _ (table : Table) (own : Ident) (x : Page) where
  pub attempts-same : (kept : List ℕ) (steps : List Step) (marks : List MarkView) → map step_view steps ≡ map (numbered_step table own) marks → attempt x kept steps ≡ names.attempt sha_digests table own x kept marks
  attempts-same kept [] [] e = refl
  attempts-same kept [] (m ∷ marks) e = cc
  attempts-same kept (s ∷ steps) [] e = cc
  attempts-same kept (Asked ps ds ∷ steps) (asked views ∷ marks) e =
      let pairs_are : ps.items ≡ asked_pairs table views = cc in
      let digests_are : ds.items ≡ map (λ v. v.page) views = cc in
      let rest : map step_view steps ≡ map (numbered_step table own) marks = cc in
      let tail = attempts-same kept steps marks rest in
      let next : (xs : List Page) → cond (same_pages xs ds.items) (attempt x kept steps) (gives (broke kept)) ≡ cond (names.same_pages sha_digests xs views) (names.attempt sha_digests table own x kept marks) (gives (broke kept)) =
      λ xs. ap (λ l. cond (same_pages xs l) (attempt x kept steps) (gives (broke kept))) digests_are ∙ (λ i. cond (same-asked sha_digests (λ y. refl) xs views i) (tail i) (gives (broke kept))) in
      λ i. asks (pairs_are i) (fun_ext next i)
  attempts-same kept (Asked ps ds ∷ steps) (stored name page ∷ marks) e = cc
  attempts-same kept (Saved p y ∷ steps) (asked views ∷ marks) e = cc
  attempts-same kept (Saved p y ∷ steps) (stored name page ∷ marks) e =
      let pair_is : p ≡ pair_named table own name = cc in
      let page_is : y ≡ page = cc in
      let rest : map step_view steps ≡ map (numbered_step table own) marks = cc in
      ap (notes (saved p y)) (attempts-same (p ∷ kept) steps marks rest) ∙ (λ i. notes (saved (pair_is i) (page_is i)) (names.attempt sha_digests table own x (pair_is i ∷ kept) marks))

module _ (items : Items) (entries : Entries) (inner : ℕ → Pages → Run Page) (i : ℕ) (k : Pages) where
  entry-same : (r : Record) (e : EntryView) → record_view r ≡ numbered_entry items i e → over_by (inner i) (Some r) k ≡ named.over_entry sha_digests items entries inner i e k
  entry-same r e is =
      let steps_are : map step_view r.steps.items ≡ map (numbered_step items.table (items.id i)) (front e.marks) = ap (λ v. v.steps) is in
      let patterns_are : r.patterns.items ≡ pattern_numbers items.table e = ap (λ v. v.patterns) is in
      let page_is : r.page ≡ last_page e.marks = ap (λ v. v.page) is in
      let tasks : attempt r.page [] r.steps.items ≡ names.attempt_of sha_digests items i e = ap (λ x. attempt x [] r.steps.items) page_is ∙ attempts-same items.table (items.id i) (last_page e.marks) [] r.steps.items (front e.marks) steps_are in
      λ j. follow (run (tasks j) k).log (run (tasks j) k).end (finish_run (inner i k) (patterns_are j))

  by-fit : (o : Option Record) (e : EntryView) (b : Bool) → option_map record_view o ≡ cond b (Some (numbered_entry items i e)) None → over_by (inner i) o k ≡ cond b (named.over_entry sha_digests items entries inner i e k) (inner i k)
  by-fit None e true h = cc
  by-fit (Some r) e true h = let is : record_view r ≡ numbered_entry items i e = cc in entry-same r e is
  by-fit None e false h = refl
  by-fit (Some r) e false h = cc

  by-entry : (o : Option Record) (e : Option EntryView) → option_map record_view o ≡ numbered_by sha_digests items i e → over_by (inner i) o k ≡ named.over_by sha_digests items entries inner i e k
  by-entry None None h = refl
  by-entry (Some r) None h = cc
  by-entry o (Some e) h = by-fit o e (fits sha_digests items i e) h

-- where the records are those of the entries, the replays by numbers are those by names
pub over-named : (items : Items) (entries : Entries) (records : Records) (inner : ℕ → Pages → Run Page) → AreNumbered sha_digests items entries records → (i : ℕ) (k : Pages) → i < items.table.layout.items → over records inner i k ≡ named.over sha_digests items entries inner i k
over-named items entries records inner are i k lt = by-entry items entries inner i k (record_at records i) (entries (items.id i)) (are i lt)

-- ---- what the records are like

module _ (table : Table) (own : Ident) where
  pairs-stored : (steps : List Step) (marks : List MarkView) → map step_view steps ≡ map (numbered_step table own) marks → pairs_saved steps ≡ map (pair_named table own) (saved_names marks)
  pairs-stored [] [] e = refl
  pairs-stored [] (m ∷ marks) e = cc
  pairs-stored (s ∷ steps) [] e = cc
  pairs-stored (Asked ps ds ∷ steps) (asked views ∷ marks) e = let rest : map step_view steps ≡ map (numbered_step table own) marks = cc in pairs-stored steps marks rest
  pairs-stored (Asked ps ds ∷ steps) (stored name page ∷ marks) e = cc
  pairs-stored (Saved p y ∷ steps) (asked views ∷ marks) e = cc
  pairs-stored (Saved p y ∷ steps) (stored name page ∷ marks) e =
      let pair_is : p ≡ pair_named table own name = cc in
      let rest : map step_view steps ≡ map (numbered_step table own) marks = cc in
      λ i. pair_is i ∷ pairs-stored steps marks rest i

  module _ (laws : IsTable table) where
    groups-stored : (steps : List Step) (marks : List MarkView) → map step_view steps ≡ map (numbered_step table own) marks → AskOnce marks → list_all (mark_fits sha_digests table) marks ≡ true → AreGroups table.layout steps
    groups-stored [] [] e o t = tt
    groups-stored [] (m ∷ marks) e o t = cc
    groups-stored (s ∷ steps) [] e o t = cc
    groups-stored (Asked ps ds ∷ steps) (asked views ∷ marks) e o t =
        let pairs_are : ps.items ≡ asked_pairs table views = cc in
        let rest : map step_view steps ≡ map (numbered_step table own) marks = cc in
        let once = groups-once sha_digests table laws (asked views ∷ marks) o t in
        let within = groups-within sha_digests table laws (asked views ∷ marks) t in
        let both = and-both (list_all (ask_fits sha_digests table) views) (list_all (mark_fits sha_digests table) marks) t in
        ((subst (IsDistinct nat_eq) (sym pairs_are) once.0, subst (AllByRecursion (λ p. p < pairs table.layout)) (sym pairs_are) within.0), groups-stored steps marks rest o.1 both.1)
    groups-stored (Asked ps ds ∷ steps) (stored name page ∷ marks) e o t = cc
    groups-stored (Saved p y ∷ steps) (asked views ∷ marks) e o t = cc
    groups-stored (Saved p y ∷ steps) (stored name page ∷ marks) e o t = let rest : map step_view steps ≡ map (numbered_step table own) marks = cc in groups-stored steps marks rest o t

module _ (items : Items) (are : AreItems items) (entries : Entries) (formed : AreFormed entries) (i : ℕ) (lt : i < items.table.layout.items) where
  entry-record : (r : Record) (e : EntryView) → IsFormed e → fits sha_digests items i e ≡ true → record_view r ≡ numbered_entry items i e → IsRecord items.table.layout i r
  entry-record r e f t is =
      let fit : Fitting sha_digests items i e = fitting sha_digests items i e f.last t in
      let steps_are : map step_view r.steps.items ≡ map (numbered_step items.table (items.id i)) (front e.marks) = ap (λ v. v.steps) is in
      record {
        saves = subst (AreSnapshots items.table.layout i) (sym (pairs-stored items.table (items.id i) r.steps.items (front e.marks) steps_are ∙ fit.pairs)) (are.in_order i lt);
        groups = groups-stored items.table (items.id i) are.table r.steps.items (front e.marks) steps_are (front-once e.marks f.once) fit.marks;
        last = ap (λ v. v.last) is;
      }

  record-if : (o : Option Record) (e : EntryView) → IsFormed e → (b : Bool) → fits sha_digests items i e ≡ b → option_map record_view o ≡ cond b (Some (numbered_entry items i e)) None → IsRecordBy items.table.layout i o
  record-if None e f b t h = tt
  record-if (Some r) e f true t h = let is : record_view r ≡ numbered_entry items i e = cc in entry-record r e f t is
  record-if (Some r) e f false t h = cc

  record-by : (o : Option Record) (e : Option EntryView) → entries (items.id i) ≡ e → option_map record_view o ≡ numbered_by sha_digests items i e → IsRecordBy items.table.layout i o
  record-by None e at h = tt
  record-by (Some r) None at h = cc
  record-by (Some r) (Some e) at h = record-if (Some r) e (formed (items.id i) e at) (fits sha_digests items i e) refl h

pub records-numbered : (items : Items) → AreItems items → (entries : Entries) → AreFormed entries → (records : Records) → AreNumbered sha_digests items entries records → AreRecords items.table.layout records
records-numbered items are entries formed records is i lt = record-by items are entries formed i lt (record_at records i) (entries (items.id i)) refl (is i lt)
