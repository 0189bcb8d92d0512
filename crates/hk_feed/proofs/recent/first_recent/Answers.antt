use Rattle.std.proofs.Common.{◌∙◌, ◌<◌, ap, length, take}
use Rattle.std.proofs.lemmas.List.Elements.{All-same, All-take}
use Rattle.hk_feed.proofs.Within.{recent-within}
use Rattle.hk_feed.proofs.recent.first_recent.Goals as goal

pub returns-clause-within : goal.returns-clause-within
returns-clause-within c =
    All-same (λ item. item < length c.args.plan.now.items) _ _ (c.truncate.ensures.items ∙ ap (take _) c.in_ok-items.ensures)
    (All-take (λ item. item < length c.args.plan.now.items) _ _ (recent-within c.args.plan.now c.args.feed.now))
