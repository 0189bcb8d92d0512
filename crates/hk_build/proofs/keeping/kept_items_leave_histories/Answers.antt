use Rattle.hk_build.proofs.CompiledItems.{compiled-begin, kept-history, kept-or_compiled, seeded-setting}
use Rattle.hk_build.proofs.Replayed.{planned-made}
use Rattle.hk_build.proofs.keeping.kept_items_leave_histories.Goals as goal

pub returns-clause-history : goal.returns-clause-history
returns-clause-history c = λ plan entries h is formed. kept-history plan entries (planned-made plan is) formed h

pub returns-clause-setting : goal.returns-clause-setting
returns-clause-setting c = λ plan entries is formed. seeded-setting plan entries (planned-made plan is) formed

pub returns-clause-begin : goal.returns-clause-begin
returns-clause-begin c = compiled-begin

pub returns-clause-count : goal.returns-clause-count
returns-clause-count c = kept-or_compiled
