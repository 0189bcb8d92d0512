-- Rules without their tables.
use Rattle.std.specs.Prelude.{[]}
use Rattle.hk_rules_file.specs.Rules.{RulesView}

-- the same rules without tables for tags and numbered pages
abbrev pub without_tables : RulesView → RulesView
without_tables rules =
    record { rules = rules.rules; contexts = rules.contexts; patterns = rules.patterns; tags = []; pages = []; feeds = rules.feeds }
