-- The form of a table for a feed.
use Rattle.std.specs.Prelude.{ℕ, ◌+◌, List, [], ◌∷◌, ◌++◌, Option, Some, None, option_and_then, Result, Ok, Err, codes, bytes_eq, if◌then◌else◌}
use Rattle.toml.specs.Data.{Data, Items, no_items, item, Members, get_member, as_str, as_table}
use Rattle.hk_base.specs.Bytes.{Bytes}
use Rattle.hk_pattern.specs.declared.pattern.Pattern.{Pattern}
use Rattle.hk_steps.specs.FieldForm.{count_of, snapshot_or_final}
use Rattle.hk_rules_file.specs.TableForm.{required, and_then, pattern_at, text_at, is_table_key, early_fault, unless, numbered_fault, no_table}
use Rattle.hk_rules_file.specs.RuleForm.{optional, first_other}
use Rattle.hk_rules_file.specs.declared.fault.RulesFault.{RulesFault}
use Rattle.hk_rules_file.specs.declared.table_form.TableKind.TheVariants.{Feed}
use Rattle.hk_rules_file.specs.declared.tables.FeedKind.{FeedKind}
use Rattle.hk_rules_file.specs.declared.tables.FeedKind.TheVariants.{Atom, Rss}
use Rattle.hk_rules_file.specs.declared.tables.FeedRule.{FeedRule}

abbrev pub kind_named : Option Bytes → Option FeedKind
kind_named (Some word) = if bytes_eq word (codes "atom") then Some Atom else if bytes_eq word (codes "rss") then Some Rss else None
kind_named None = None

-- the format of a feed
abbrev pub kind_at : Members → Result FeedKind Bytes
kind_at ms = required (codes "kind") (kind_named (option_and_then as_str (get_member (codes "kind") ms)))

-- the author's address, where the key is there
abbrev pub email_at : Members → Result (Option Bytes) Bytes
email_at ms = required (codes "email") (optional as_str (get_member (codes "email") ms))

-- the name of the pages that a feed shows, `_final` where none is given
abbrev pub snapshot_at : Members → Result Bytes Bytes
snapshot_at ms = required (codes "snapshot") (snapshot_or_final (get_member (codes "snapshot") ms))

abbrev pub count_or_ten : Option Data → Option ℕ
count_or_ten (Some d) = count_of d
count_or_ten None = Some 10

-- how many items a feed has at most, 10 where none is given
abbrev pub limit_at : Members → Result ℕ Bytes
limit_at ms = required (codes "limit") (count_or_ten (get_member (codes "limit") ms))

abbrev pub whole : FeedKind → Bytes → Pattern → Bytes → Bytes → Bytes → Bytes → Option Bytes → Bytes → ℕ → Result FeedRule Bytes
whole kind target of title description author root email snapshot limit =
    Ok (record {
      kind = kind;
      target = target;
      of = of;
      title = title;
      description = description;
      author = author;
      root = root;
      email = email;
      snapshot = snapshot;
      limit = limit;
    })

-- a feed, or the first of its table's keys that is at fault
abbrev pub feed_in : Members → Result FeedRule Bytes
feed_in ms =
    and_then (kind_at ms) (λ kind.
    and_then (text_at (codes "target") ms) (λ target.
    and_then (pattern_at (codes "of") ms) (λ of.
    and_then (text_at (codes "title") ms) (λ title.
    and_then (text_at (codes "description") ms) (λ description.
    and_then (text_at (codes "author") ms) (λ author.
    and_then (text_at (codes "root") ms) (λ root.
    and_then (email_at ms) (λ email.
    and_then (snapshot_at ms) (λ snapshot.
    and_then (limit_at ms) (λ limit.
    whole kind target of title description author root email snapshot limit))))))))))

abbrev pub feed_by : ℕ → Members → Result FeedRule Bytes
feed_by n ms = unless (early_fault Feed n (first_other (is_table_key Feed) ms)) (feed_in ms)

-- what is no table is none of these
abbrev pub feed_of : ℕ → Option Members → Result FeedRule RulesFault
feed_of n (Some ms) = numbered_fault Feed n (feed_by n ms)
feed_of n None = Err (no_table Feed)

-- the feeds from this number on, or the first fault
abbrev pub feeds_from : Items → ℕ → List FeedRule → Result (List FeedRule) RulesFault
feeds_from no_items n done = Ok done
feeds_from (item d ds) n done = and_then (feed_of n (as_table d)) (λ feed. feeds_from ds (n + 1) (done ++ feed ∷ []))
