use Rattle.hk_honest.proofs.Runs.{chain-honest, chain-stores, run-ok, run-report}
use Rattle.hk_honest.proofs.chains.chains_of_builds_are_clean.Goals as goal

pub returns-clause-store : goal.returns-clause-store
returns-clause-store c = chain-stores

pub returns-clause-ok : goal.returns-clause-ok
returns-clause-ok c = λ before plan cache old new chain linked r. run-ok plan cache old new r (chain-honest before plan cache chain linked)

pub returns-clause-report : goal.returns-clause-report
returns-clause-report c = λ before plan cache old new chain linked r. run-report plan cache old new r (chain-honest before plan cache chain linked)
