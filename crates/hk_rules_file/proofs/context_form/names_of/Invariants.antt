use Rattle.std.proofs.Common.{◌≡◌, [], drop}
use Rattle.std.specs.List.{fold}
use Rattle.hk_rules_file.specs.ContextForm.{names_in}
use Rattle.hk_rules_file.specs.FileEntries.{contexts_at}
use Rattle.hk_rules_file.specs.Numbering.{with_name}
use Rattle.hk_rules_file.proofs.context_form.names_of.Given as goal

-- the rest, from the names so far, gives what all gives
abbrev pub invariant-loop-entry : goal.invariant-loop-entry
invariant-loop-entry l = fold with_name l.names (names_in (contexts_at (drop l.entry-index l.entries))) ≡ fold with_name [] (names_in (contexts_at l.entries))
