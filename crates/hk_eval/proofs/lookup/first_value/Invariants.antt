use Rattle.std.proofs.Common.{drop}
use Rattle.hk_rules.specs.Plan.{lookups}
use Rattle.hk_eval.specs.Told.{told_pages}
use Rattle.hk_eval.proofs.Looks.{Looked}
use Rattle.hk_eval.proofs.lookup.first_value.Given as goal

abbrev pub invariant-loop-field : goal.invariant-loop-field
invariant-loop-field l = Looked (lookups l.plan) (told_pages l.told) l.here l.key l.field-items l.fn.asked.items l.asked.items (drop l.field-index l.field-items)
