use Rattle.std.proofs.Common.{rules, tests, ◌==◌, ◌∙◌, ◌∷◌, ◌++◌, [], Bor, ap, map, sym}
use Rattle.std.specs.List.{flat_map}
use Rattle.std.proofs.lemmas.Iterator.Consumers.{YieldsList-at, YieldsList-end}
use Rattle.std.proofs.lemmas.Iterator.Splits.{YieldsList-from_slice_split}
use Rattle.std.proofs.lemmas.List.{map-append, flat_map_more}
use Rattle.hk_base.specs.Bytes.{Bytes}
use Rattle.hk_tags.specs.TagTexts.{tag_of, tags_in}
use Rattle.hk_tags.proofs.tag_texts.tags_in.Goals as goal

abbrev now : Bor Bytes → Bytes
now part = part.now

pub loop-part-preserved : goal.loop-part-preserved
loop-part-preserved c =
    c.in_ok-push_tag.ensures
    ∙ (ap (λ tags. tags ++ tag_of c.in-Some.part.now) c.loop-part.invariant
    ∙ (flat_map_more tag_of [] (map now c.loop-part.yielded) c.in-Some.part.now
    ∙ ap (flat_map tag_of) (sym (map-append now c.loop-part.yielded (c.in-Some.part ∷ [])))))

pub returns : goal.returns
unfolding tags_in
returns c =
    c.loop-part.invariant ∙ ap (flat_map tag_of)
    (YieldsList-end (YieldsList-at c.into_iter-part-iterator.ensures.into_iter_gives (YieldsList-from_slice_split _ (λ b. b == 44) c.args.text.now c.split-part-items.ensures.rest c.split-part-items.ensures.done c.split-part-items.ensures.closure (λ x b q k. search (rules, tests)))) c.loop-part.yielded _ c.loop-part.yielded_by _ _ c.in-None.is c.next.ensures.steps).0
