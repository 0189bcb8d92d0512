use Rattle.std.proofs.Common.{rules, tests, ◌==◌, ◌∙◌, ◌∷◌, ◌++◌, [], Bor, ap, sym}
use Rattle.std.proofs.lemmas.Iterator.Consumers.{YieldsList-at, YieldsList-end}
use Rattle.std.proofs.lemmas.Iterator.Splits.{YieldsList-from_slice_split}
use Rattle.std.proofs.lemmas.List.{map-append}
use Rattle.hk_base.specs.Bytes.{Bytes}
use Rattle.hk_links.specs.Path.{but_last}
use Rattle.hk_links.proofs.path.folder_of.Goals as goal

abbrev now : Bor Bytes → Bytes
now part = part.now

pub loop-part-preserved : goal.loop-part-preserved
loop-part-preserved c =
    c.in_ok-add_plain.ensures ∙ ap (λ texts. texts ++ c.in-Some.part.now ∷ []) c.loop-part.invariant ∙ sym (map-append now c.loop-part.yielded (c.in-Some.part ∷ []))

pub returns : goal.returns
returns c =
    c.leave.ensures ∙ ap but_last (c.loop-part.invariant ∙
    (YieldsList-end (YieldsList-at c.into_iter-part-iterator.ensures.into_iter_gives (YieldsList-from_slice_split _ (λ b. b == 47) c.args.target.now c.split-part-items.ensures.rest c.split-part-items.ensures.done c.split-part-items.ensures.closure (λ x b q k. search (rules, tests)))) c.loop-part.yielded _ c.loop-part.yielded_by _ _ c.in-None.is c.next.ensures.steps).0)
