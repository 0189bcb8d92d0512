use Rattle.std.proofs.Common.{◌≡◌, ◌≤◌, [], drop}
use Rattle.toml.specs.View.{items_view}
use Rattle.hk_rules_file.specs.FeedForm.{feeds_from}
use Rattle.hk_rules_file.proofs.feed_form.feeds_from.Given as goal

-- the rest, from the feeds so far, gives what all gives
abbrev pub invariant-loop-item : goal.invariant-loop-item
invariant-loop-item l = (l.number ≤ 65) × (feeds_from (items_view (drop l.item-index l.items)) l.number l.feeds ≡ feeds_from (items_view l.items) 1 [])
