use Rattle.std.proofs.Common.{ap, ◌∙◌, List}
use Rattle.std.specs.Prelude.{bytes_eq}
use Rattle.std.specs.List.{position_from}
use Rattle.hk_base.specs.Bytes.{Bytes}
use Rattle.hk_replay.proofs.texts.PatternTexts.place.Goals as goal

pub returns : goal.returns
returns c = c.copied.ensures ∙ (c.get.ensures.value ∙ (c.self.invariant c.args.text.now ∙ ap (λ (l : List Bytes). position_from (λ own. bytes_eq own c.args.text.now) 0 l) c.self.view_is))
