use Rattle.std.proofs.Common.{sym, ap, ◌∙◌, subst}
use Rattle.std.specs.Prelude.{bytes_eq}
use Rattle.std.specs.List.{IsDistinct}
use Rattle.hk_rules_file.specs.Numbering.{texts_of}
use Rattle.hk_tags.proofs.expanding.grown_of.Goals as goal

pub pool_of-requires : goal.pool_of-requires
pool_of-requires c = subst (λ ps. IsDistinct bytes_eq (texts_of ps)) (sym (c.deref-3.ensures.value ∙ ap (λ r. r.patterns) c.rules.view_is)) c.requires
