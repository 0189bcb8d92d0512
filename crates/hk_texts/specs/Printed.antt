-- The texts that a run prints. Each line ends with LF.
use Rattle.std.specs.Prelude.{ℕ, ◌++◌, codes}
use Rattle.std.specs.Fmt.{decimal}
use Rattle.hk_base.specs.Bytes.{Bytes}
use Rattle.hk_base.specs.Identifier.{Ident, print_ident}
use Rattle.hk_feed.specs.declared.feed_fault.FeedFault.{FeedFault}
use Rattle.hk_feed.specs.declared.feed_fault.FeedFault.TheVariants as feeds
use Rattle.hk_rules.specs.RulesFault.{RulesFault}
use Rattle.hk_rules.specs.RulesFault.TheVariants.{TooLong, NotToml, BadRule, TooManyRules, BadContext, DoubleSnapshot, UnknownContext, BadTags, BadPaginate, BadFeed}
use Rattle.hk_rules.specs.declared.plan_fault.PlanFault.{PlanFault}
use Rattle.hk_rules.specs.declared.plan_fault.PlanFault.TheVariants.{BadName, TooManyItems, BadHeader, BadTarget, SameTarget, NestedTarget}
use Rattle.hk_store.specs.declared.damage.StoreDamage.{StoreDamage}
use Rattle.hk_tags.specs.declared.tag_fault.TagFault.{TagFault}
use Rattle.hk_tags.specs.declared.tag_fault.TagFault.TheVariants as tags
use Rattle.hk_store.specs.declared.damage.StoreDamage.TheVariants.{BadTrailer, BadShape, OldVersion}

abbrev pub absent_line : Bytes
absent_line = codes "site.toml: absent\n"

abbrev pub end_of_line : Bytes
end_of_line = codes "\n"

-- a name between two words
abbrev pub around : Bytes → Bytes → Bytes → Bytes
around front name back = (front ++ name) ++ back

abbrev pub rule_line : ℕ → Bytes → Bytes → Bytes → Bytes
rule_line number front name back = (((codes "site.toml: rule " ++ (decimal number ++ codes ": ")) ++ front) ++ name) ++ back

-- by the key of a table, its number, and the key in it that is at fault
abbrev pub table_line : Bytes → ℕ → Bytes → Bytes
table_line kind number word = ((codes "site.toml: " ++ (kind ++ (codes " " ++ (decimal number ++ codes ": ")))) ++ word) ++ end_of_line

abbrev pub rules_line : RulesFault → Bytes
rules_line TooLong = codes "site.toml: more than 1048576 bytes\n"
rules_line NotToml = codes "site.toml: not TOML\n"
rules_line (BadRule number word) = rule_line number (codes "") word end_of_line
rules_line TooManyRules = codes "site.toml: more than 1024 rules\n"
rules_line (BadContext name) = around (codes "site.toml: context ") name end_of_line
rules_line (DoubleSnapshot number name) = rule_line number (codes "snapshot ") name (codes " twice\n")
rules_line (UnknownContext number name) = rule_line number (codes "unknown context ") name end_of_line
rules_line (BadTags number word) = table_line (codes "tags") number word
rules_line (BadPaginate number word) = table_line (codes "paginate") number word
rules_line (BadFeed number word) = table_line (codes "feed") number word

abbrev pub header_line : Bytes → ℕ → Bytes
header_line path line = around (codes "site: header of ") path (codes ", line " ++ (decimal line ++ end_of_line))

abbrev pub same_line : Bytes → Ident → Ident → Bytes
same_line target first second = (((((codes "site: target " ++ target) ++ codes " of ") ++ print_ident first) ++ codes " and ") ++ print_ident second) ++ end_of_line

abbrev pub above : Bytes → Ident → Bytes
above outer first = ((codes "site: target " ++ outer) ++ codes " of ") ++ print_ident first

abbrev pub nested_line : Bytes → Bytes → Ident → Ident → Bytes
nested_line outer inner first second = ((((above outer first ++ codes " lies above ") ++ inner) ++ codes " of ") ++ print_ident second) ++ end_of_line

abbrev pub plan_line : PlanFault → Bytes
plan_line (BadName path) = around (codes "site: bad name ") path end_of_line
plan_line TooManyItems = codes "site: more than 65535 items\n"
plan_line (BadHeader path line) = header_line path line
plan_line (BadTarget id) = around (codes "site: bad target of ") (print_ident id) end_of_line
plan_line (SameTarget target first second) = same_line target first second
plan_line (NestedTarget outer inner first second) = nested_line outer inner first second

-- why the tables of rules give no pages
abbrev pub tag_line : TagFault → Bytes
tag_line (tags.BadPath path) = around (codes "site: bad page ") path end_of_line
tag_line (tags.Taken id) = around (codes "site: page ") (print_ident id) (codes " is taken\n")
tag_line (tags.NoDate id) = around (codes "site: no date of ") (print_ident id) end_of_line
tag_line tags.TooManyItems = codes "site: more than 65535 items\n"

abbrev pub snapshot_line : Bytes → Ident → Bytes
snapshot_line name id = ((codes "site: no snapshot " ++ name) ++ codes " of ") ++ (print_ident id ++ end_of_line)

-- why feeds can't be made
abbrev pub feed_line : FeedFault → Bytes
feed_line (feeds.BadTarget target) = around (codes "site: bad target ") target end_of_line
feed_line (feeds.Taken target) = around (codes "site: feed ") target (codes " is taken\n")
feed_line (feeds.NoSnapshot id name) = snapshot_line name id
feed_line (feeds.NoDate id) = around (codes "site: no date of ") (print_ident id) end_of_line

abbrev pub read_fault_line : Bytes
read_fault_line = codes "source cannot be read\n"

abbrev pub write_fault_line : Bytes
write_fault_line = codes "site cannot be written\n"

abbrev pub store_unread_line : Bytes
store_unread_line = codes "store cannot be read\n"

abbrev pub store_unwritten_line : Bytes
store_unwritten_line = codes "store cannot be written\n"

abbrev pub store_unremoved_line : Bytes
store_unremoved_line = codes "store cannot be removed\n"

-- why a store counts as one without entries
abbrev pub damage_line : StoreDamage → Bytes
damage_line BadTrailer = codes "store ignored: bad trailer\n"
damage_line (BadShape place) = codes "store ignored: bad shape at " ++ (decimal place ++ codes "\n")
damage_line OldVersion = codes "store ignored: version 1\n"

abbrev pub changes_of : ℕ → ℕ → Bytes
changes_of written removed = codes ", written " ++ (decimal written ++ (codes ", removed " ++ (decimal removed ++ codes "\n")))

abbrev pub summary : ℕ → ℕ → ℕ → ℕ → Bytes
summary compiled reused written removed = codes "compiled " ++ (decimal compiled ++ (codes ", reused " ++ (decimal reused ++ changes_of written removed)))

abbrev pub items_line : ℕ → Bytes
items_line items = codes "ok, " ++ (decimal items ++ codes " items\n")

abbrev pub removed_line : ℕ → Bytes
removed_line files = codes "removed " ++ (decimal files ++ codes "\n")
