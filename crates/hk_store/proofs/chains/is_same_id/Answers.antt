use Rattle.std.proofs.Common.{sym, ◌∙◌}
use Rattle.std.proofs.lemmas.Bool.{OnTrue_from}
use Rattle.hk_base.specs.IdentTies.{idents-same}
use Rattle.hk_store.proofs.chains.is_same_id.Goals as goal

pub returns : goal.returns
returns c = OnTrue_from c.eq.result _ (λ e. idents-same _ _ (sym c.eq.ensures ∙ e))
