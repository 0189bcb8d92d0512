-- The laws of single values of the rules file hold.
use Rattle.hk_laws.proofs.FieldValueLemmas
use Rattle.hk_laws.proofs.ListValueLemmas
use Rattle.hk_laws.proofs.PatternValueLemmas
use Rattle.hk_laws.proofs.RouteValueLemmas
use Rattle.hk_laws.proofs.StepValueLemmas
use Rattle.hk_laws.proofs.values.value_laws.Goals as goal

pub returns-clause-idents : goal.returns-clause-idents
returns-clause-idents c = PatternValueLemmas.reads_idents

pub returns-clause-patterns : goal.returns-clause-patterns
returns-clause-patterns c = PatternValueLemmas.reads_patterns

pub returns-clause-routes : goal.returns-clause-routes
returns-clause-routes c = RouteValueLemmas.reads_routes

pub returns-clause-steps : goal.returns-clause-steps
returns-clause-steps c = StepValueLemmas.reads_steps

pub returns-clause-counts : goal.returns-clause-counts
returns-clause-counts c = FieldValueLemmas.reads_counts

pub returns-clause-fields : goal.returns-clause-fields
returns-clause-fields c = FieldValueLemmas.reads_fields

pub returns-clause-orders : goal.returns-clause-orders
returns-clause-orders c usual = FieldValueLemmas.reads_orders

pub returns-clause-chains : goal.returns-clause-chains
returns-clause-chains c = ListValueLemmas.reads_chains

pub returns-clause-contexts : goal.returns-clause-contexts
returns-clause-contexts c = ListValueLemmas.reads_contexts

pub returns-clause-paths : goal.returns-clause-paths
returns-clause-paths c = PatternValueLemmas.reads_paths

pub returns-clause-versions : goal.returns-clause-versions
returns-clause-versions c = PatternValueLemmas.reads_versions
