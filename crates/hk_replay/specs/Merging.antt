-- The facts of a record that was gone through, and those of a broken record and the inner run.
use Rattle.std.specs.Prelude.{ℕ, Bool, cond, List, [], ◌∷◌, map}
use Rattle.hk_chain.specs.Facts.{FactsView, TraceMark, group, save}
use Rattle.hk_fix.specs.Task.{Mark, note, used}
use Rattle.hk_eval.specs.Noted.{no_facts, with_group, with_save, noted}
use Rattle.hk_replay.specs.Replays.{passed}
use Rattle.hk_replay.specs.declared.record.Step.{Step}
use Rattle.hk_replay.specs.declared.record.Record.{Record}

abbrev pub pattern_marks : List ℕ → List Mark
pattern_marks ns = map (λ n. note (used n)) ns

-- with the marks of a trace but the saves of some pairs
abbrev pub merged : (ℕ → Bool) → FactsView → List TraceMark → FactsView
merged kept f [] = f
merged kept f (group ps ∷ trace) = merged kept (with_group f ps) trace
merged kept f (save p ∷ trace) = merged kept (cond (kept p) f (with_save f p)) trace

abbrev pub through_facts : Record → FactsView
through_facts r = with_save (noted (noted no_facts (passed r.steps.items)) (pattern_marks r.patterns.items)) r.last

abbrev pub broken_facts : (ℕ → Bool) → List Step → FactsView → FactsView
broken_facts kept front f = noted (merged kept (noted no_facts (passed front)) f.trace) (pattern_marks f.patterns)
