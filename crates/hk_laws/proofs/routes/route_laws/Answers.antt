-- The laws of routes that replace hold.
use Rattle.hk_laws.proofs.ReplaceLemmas
use Rattle.hk_laws.proofs.routes.route_laws.Goals as goal

pub returns : goal.returns
returns c = record { replaces = ReplaceLemmas.replaces }
