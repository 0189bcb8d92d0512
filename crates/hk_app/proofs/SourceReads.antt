-- What is read of a source is all that a reading of it looks at.
use Rattle.std.proofs.Common.{◌≡◌, Bool, true, false, cond, not, List, [], ◌∷◌, Option, Some, None, refl, sym, ap, subst, ◌∙◌, IfSome, IfOk, Result, Ok, Err}
use Rattle.std.specs.Prelude.{bytes_eq, ◌||◌}
use Rattle.std.specs.Ordering.{nat_cmp, eq_by_cmp}
use Rattle.std.specs.Cmp.Lexicographic.{slice_cmp}
use Rattle.std.specs.declared.cmp.Ordering.{Ordering}
use Rattle.std.specs.FinMap.{entries}
use Rattle.std.specs.FinMap.Entries.{find, find-where_key}
use Rattle.hk_base.specs.Bytes.{Bytes, Files}
use Rattle.hk_base.specs.Ties.{same_test}
use Rattle.hk_base.specs.declared.refusal.NoMemory.{NoMemory as NoMemory-data}
use Rattle.hk_build.specs.Planned.{IsPlanned}
use Rattle.hk_rules.specs.PlanView.{PlanView}
use Rattle.hk_rules.specs.Resource.{is_ignored}
use Rattle.hk_app.specs.declared.status.Status.{Status}
use Rattle.hk_app.specs.declared.status.Status.TheVariants.{Ok as Done, Report, Usage, BadRules, BadSite, ReadFault, WriteFault, StoreFault, OutFault, NoMemory, BadLinks}
use Rattle.hk_app.specs.declared.reading.Gathered.{Gathered}
use Rattle.hk_app.specs.declared.reading.Gathered.TheVariants.{Refused, Planned}
use Rattle.hk_app.specs.Gathering.{RefusesReading, ReadsAs, RefusesFolder, Gathers}
use Rattle.hk_app.specs.Promise.{IsBadRules, IsBadSite, IsPlanOf}
use Rattle.hk_app.specs.FolderReading.{Reading, planned, found_at, rules_path, is_read, are_read, unignored, files_reading, text_reading, reading}
use Rattle.hk_app.specs.World.{Folder}
use Rattle.hk_app.proofs.FolderReads.{same_key}

abbrev R : Bytes → Bytes → Ordering
R = slice_cmp nat_cmp

-- ---- what is read is all that a reading looks at

found_at-find : (q : Bytes) (es : List (Bytes × Bytes)) → found_at q es ≡ find R q es
found_at-find q [] = refl
found_at-find q (e ∷ es) = ap (λ b. cond b (Some e.1) (found_at q es)) (sym (same_test q e.0)) ∙ ap (cond (eq_by_cmp R q e.0) (Some e.1)) (found_at-find q es)

found_at-read : (es : List (Bytes × Bytes)) → found_at rules_path (are_read es) ≡ found_at rules_path es
found_at-read es = found_at-find rules_path (are_read es) ∙ find-where_key R is_read rules_path (same_key is_read rules_path) es ∙ sym (found_at-find rules_path es)

one-source : (e : Bytes × Bytes) (t i : Bool) (read all : List (Bytes × Bytes)) → is_ignored e.0 ≡ i → unignored read ≡ all → unignored (cond (t || not i) (e ∷ read) read) ≡ cond (not i) (e ∷ all) all
one-source e true true read all h rest = ap (λ b. cond (not b) (e ∷ unignored read) (unignored read)) h ∙ rest
one-source e true false read all h rest = ap (λ b. cond (not b) (e ∷ unignored read) (unignored read)) h ∙ ap (λ l. e ∷ l) rest
one-source e false true read all h rest = rest
one-source e false false read all h rest = ap (λ b. cond (not b) (e ∷ unignored read) (unignored read)) h ∙ ap (λ l. e ∷ l) rest

unignored-read : (es : List (Bytes × Bytes)) → unignored (are_read es) ≡ unignored es
unignored-read [] = refl
unignored-read (e ∷ es) = one-source e (bytes_eq e.0 rules_path) (is_ignored e.0) (are_read es) (unignored es) refl (unignored-read es)

pub files_reading-read : (es : List (Bytes × Bytes)) → files_reading (are_read es) ≡ files_reading es
files_reading-read es = (λ i. text_reading (unignored-read es i) (found_at-read es i))

-- ---- reading the source

to-folder : (old : Option Files) (files : List (Bytes × Bytes)) (P : Reading → Type 0) → IfSome old (λ m. files ≡ are_read (entries m)) → P (files_reading files) → IfSome old (λ m. P (reading m))
to-folder None files P is h = tt
to-folder (Some m) files P is h = subst P (ap files_reading is ∙ files_reading-read (entries m)) h

refuses-folder : (old new : Folder) (files : List (Bytes × Bytes)) (status : Status) (text : Bytes) → IfSome old.files (λ m. files ≡ are_read (entries m)) → RefusesReading (files_reading files) status text → RefusesFolder old new status text
refuses-folder old new files Done text is h = absurd h
refuses-folder old new files Report text is h = absurd h
refuses-folder old new files Usage text is h = absurd h
refuses-folder old new files BadRules text is h = to-folder old.files files (IsBadRules text) is h
refuses-folder old new files BadSite text is h = to-folder old.files files (IsBadSite text) is h
refuses-folder old new files ReadFault text is h = absurd h
refuses-folder old new files WriteFault text is h = absurd h
refuses-folder old new files StoreFault text is h = absurd h
refuses-folder old new files OutFault text is h = absurd h
refuses-folder old new files NoMemory text is h = absurd h
refuses-folder old new files BadLinks text is h = absurd h

planned-of : (old : Option Files) (plan : PlanView) → IsPlanned plan → IfSome old (λ m. reading m ≡ planned plan) → IfSome old (λ m. IsPlanOf m plan)
planned-of None plan made h = tt
planned-of (Some m) plan made h = record { read = h; of_rules = made }

pub gathered : (old new : Folder) (files : List (Bytes × Bytes)) (r : Result Gathered NoMemory-data) → IfSome old.files (λ m. files ≡ are_read (entries m)) → IfOk r (ReadsAs (files_reading files)) → IfOk r (Gathers old new)
gathered old new files (Err e) is h = tt
gathered old new files (Ok (Refused e)) is h = refuses-folder old new files e.status e.text is h
gathered old new files (Ok (Planned plan)) is h = (h.1, planned-of old.files plan h.1 (to-folder old.files files (λ r. r ≡ planned plan) is h.0))
