use Rattle.std.proofs.Common.{◌≡◌, [], drop}
use Rattle.hk_rules_file.specs.ContextForm.{contexts_from}
use Rattle.hk_rules_file.specs.FileEntries.{contexts_at}
use Rattle.hk_rules_file.proofs.context_form.contexts_from.Given as goal

-- the rest, from the contexts so far, gives what all gives
abbrev pub invariant-loop-entry : goal.invariant-loop-entry
invariant-loop-entry l = contexts_from l.names (contexts_at (drop l.entry-index l.entries)) l.pool l.contexts ≡ contexts_from l.names (contexts_at l.entries) [] []
