use Rattle.std.proofs.Common.{◌++◌, sym, ap, ◌∙◌, map-id, string_bytes}
use Rattle.std.specs.List.{flat_map}
use Rattle.std.proofs.lemmas.Iterator.{YieldsList-from_chars}
use Rattle.std.proofs.lemmas.Iterator.Consumers.{YieldsList-end}
use Rattle.hk_feed.specs.Xml.{text_of_char}
use Rattle.hk_feed.proofs.xml.append_kept.Goals as goal

pub returns : goal.returns
returns c =
    let end = YieldsList-end (YieldsList-from_chars c.args.text.now c.utf8.text cc) c.loop-character.yielded _ c.loop-character.yielded_by _ _ c.in-None.is c.next.ensures.steps in
    c.loop-character.invariant ∙ ap (λ l. string_bytes c.args.out.now ++ flat_map text_of_char l) (sym (map-id c.loop-character.yielded) ∙ end.0)
