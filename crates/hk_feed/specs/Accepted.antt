-- What holds of a feed that has no fault.
use Rattle.std.specs.Prelude.{◌≡◌, true, false, List, map, is_some, All}
use Rattle.hk_base.specs.Identifier.{is_path}
use Rattle.hk_rules.specs.Plan.{Lookups}
use Rattle.hk_feed.specs.FeedFaults.{is_taken}
use Rattle.hk_feed.specs.Members.{members}
use Rattle.hk_feed.specs.Recent.{dated, item_in}
use Rattle.hk_rules_file.specs.declared.tables.FeedRule.{FeedRule}

-- a feed after these: its target is a path at which nothing else is in the way, and each member has its pair and its date
pub record IsAccepted (plan : Lookups) (earlier : List FeedRule) (feed : FeedRule) : Type 0 where
  pub path : is_path feed.target ≡ true
  pub free : is_taken plan earlier feed.target ≡ false
  pub saved : All (λ item. is_some (plan.pair item feed.snapshot) ≡ true) (members plan feed)
  pub whole : map item_in (dated plan (members plan feed)) ≡ members plan feed
