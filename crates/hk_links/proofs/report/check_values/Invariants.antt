use Rattle.hk_links.specs.Report.{Adds, internal_links}
use Rattle.hk_links.proofs.report.check_values.Given as goal

abbrev pub invariant-loop-value : goal.invariant-loop-value
invariant-loop-value l = Adds l.targets (internal_links l.number l.target l.yielded) l.initial.report l.report
