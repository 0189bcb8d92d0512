use Rattle.std.proofs.Common.{rules, tests, ◌==◌, ◌∙◌, ◌∷◌, [], Bor, ap, map, sym}
use Rattle.std.specs.List.{fold}
use Rattle.std.proofs.lemmas.Iterator.Consumers.{YieldsList-at, YieldsList-end}
use Rattle.std.proofs.lemmas.Iterator.Splits.{YieldsList-from_slice_split}
use Rattle.std.proofs.lemmas.List.{map-append}
use Rattle.hk_base.specs.Bytes.{Bytes}
use Rattle.hk_links.specs.Parts.{part_texts}
use Rattle.hk_links.specs.Path.{last_of, step}
use Rattle.hk_links.proofs.PartLemmas.{last_more, reached_more, reached_whole}
use Rattle.hk_links.proofs.path.reach.Goals as goal

abbrev now : Bor Bytes → Bytes
now part = part.now

pub loop-part-preserved : goal.loop-part-preserved
loop-part-preserved c =
    let start = part_texts c.args.parts.now.items in
    let seen = map now c.loop-part.yielded in
    let part = c.in-Some.part.now in
    let more = sym (map-append now c.loop-part.yielded (c.in-Some.part ∷ [])) in (
      reached_more start seen (part_texts c.loop-part.parts.items) (part_texts c.step.new.parts.items) part c.loop-part.invariant.0 c.in_ok-step.ensures ∙ ap (fold step start) more,
      sym (last_more seen part) ∙ ap last_of more,
    )

pub returns : goal.returns
returns c =
    c.in_ok-add_index.ensures ∙ reached_whole (part_texts c.args.parts.now.items) (part_texts c.loop-part.parts.items) (map now c.loop-part.yielded) c.loop-part.last.now c.args.path.now c.loop-part.invariant.0 c.loop-part.invariant.1
    (YieldsList-end (YieldsList-at c.into_iter-part-iterator.ensures.into_iter_gives (YieldsList-from_slice_split _ (λ b. b == 47) c.args.path.now c.split-part-items.ensures.rest c.split-part-items.ensures.done c.split-part-items.ensures.closure (λ x b q k. search (rules, tests)))) c.loop-part.yielded _ c.loop-part.yielded_by _ _ c.in-None.is c.next.ensures.steps).0
