-- The build of a generated site, over no entries.
use Rattle.std.proofs.Common.{◌≡◌, List, [], refl, sym, ap, subst, ◌∙◌}
use Rattle.std.proofs.Math.Path.{fun_ext}
use Rattle.hk_build.specs.Ended.{IsBuild}
use Rattle.hk_build.specs.declared.ended.Build.{Build}
use Rattle.hk_reuse.specs.Entries.{Entries, entries_in, no_entries}
use Rattle.hk_rules.specs.PlanView.{PlanView}
use Rattle.hk_store.specs.Entry.{EntryView}

no-one : entries_in [] ≡ no_entries
no-one = fun_ext (λ id. refl)

pub over-nothing : (plan q : PlanView) (stored : List EntryView) (b : Build) → q ≡ plan → stored ≡ [] → IsBuild plan (entries_in stored) b → IsBuild q no_entries b
over-nothing plan q stored b same none h =
    subst (λ p. IsBuild p no_entries b) (sym same) (subst (λ (es : Entries). IsBuild plan es b) (ap entries_in none ∙ no-one) h)
