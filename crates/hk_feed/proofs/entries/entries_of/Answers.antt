use Rattle.std.proofs.Common.{◌++◌, ◌<◌, length, sym, ap, ◌∙◌}
use Rattle.std.proofs.lemmas.List.Elements.{All-same}
use Rattle.std.specs.Option.{option_to_list}
use Rattle.hk_chain.specs.Kept.{at_place}
use Rattle.hk_rules.specs.Plan.{Lookups, lookups}
use Rattle.hk_feed.specs.Entries.{Entry, entry_by, entry_of}
use Rattle.hk_feed.proofs.Lists.{given-turn, given-end}
use Rattle.hk_feed.proofs.Within.{entries-kept}
use Rattle.hk_feed.proofs.entries.entries_of.Goals as goal

pub loop-item-preserved : goal.loop-item-preserved
loop-item-preserved c =
    given-turn (entry_of (lookups c.args.plan.now) (at_place c.args.pages.now) c.args.name.now) c.args.items.now c.loop-item.item-index c.item-item.result _ _ _ c.loop-item-test.true c.item-item.is
    (c.in_ok-add_entry.ensures ∙ ap (λ o. c.loop-item.entries.items ++ option_to_list (entry_by c.item-item.result o)) c.page_of.ensures) c.loop-item.invariant

pub returns-clause-entries : goal.returns-clause-entries
returns-clause-entries c = given-end (entry_of (lookups c.args.plan.now) (at_place c.args.pages.now) c.args.name.now) c.args.items.now c.loop-item.item-index c.loop-item.entries.items _ c.loop-item-test.false c.loop-item.invariant

pub returns-clause-within : goal.returns-clause-within
returns-clause-within c =
    All-same (λ (e : Entry). e.item < length c.args.plan.now.items) _ _ (returns-clause-entries c) (entries-kept (λ item. item < length c.args.plan.now.items) (lookups c.args.plan.now) (at_place c.args.pages.now) c.args.name.now c.args.items.now c.requires)
