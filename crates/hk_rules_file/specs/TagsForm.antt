-- The form of a table for tags.
use Rattle.std.specs.Prelude.{ℕ, ◌+◌, List, [], ◌∷◌, ◌++◌, Option, Some, None, Result, Ok, Err, codes}
use Rattle.toml.specs.Data.{Data, Items, no_items, item, Members, get_member, as_str, as_table}
use Rattle.hk_base.specs.Bytes.{Bytes}
use Rattle.hk_chain.specs.declared.chain.Step.{Step}
use Rattle.hk_chain.specs.declared.context.Order.{Order}
use Rattle.hk_chain.specs.declared.context.Order.TheVariants.{Id}
use Rattle.hk_pattern.specs.declared.pattern.Pattern.{Pattern}
use Rattle.hk_route.specs.declared.route.Route.{Route}
use Rattle.hk_steps.specs.FieldForm.{key_by}
use Rattle.hk_rules_file.specs.RuleForm.{first_other}
use Rattle.hk_rules_file.specs.TableForm.{required, and_then, pattern_at, text_at, order_at, route_at, context_at, chain_at, is_table_key, early_fault, unless, numbered_fault, no_table}
use Rattle.hk_rules_file.specs.declared.fault.RulesFault.{RulesFault}
use Rattle.hk_rules_file.specs.declared.table_form.TableKind.TheVariants.{Tags}
use Rattle.hk_rules_file.specs.declared.tables.TagRule.{TagRule}

abbrev pub key_or_tags : Option Data → Option Bytes
key_or_tags (Some d) = key_by (as_str d)
key_or_tags None = Some (codes "tags")

-- the key of the metadata that has the tags, `tags` where none is given
abbrev pub field_at : Members → Result Bytes Bytes
field_at ms = required (codes "field") (key_or_tags (get_member (codes "field") ms))

abbrev pub whole : Pattern → Bytes → Bytes → List Step × List Pattern → Option Route → ℕ → ℕ → Order → Result (TagRule × List Pattern) Bytes
whole of field prefix linked route context listed order =
    Ok (record { of = of; field = field; prefix = prefix; route = route; chain = linked.0; context = context; item = listed; order = order }, linked.1)

-- a table for tags, and the patterns then, or the first of its keys that is at fault
abbrev pub tags_in : List Bytes → List Pattern → Members → Result (TagRule × List Pattern) Bytes
tags_in names pool ms =
    and_then (pattern_at (codes "of") ms) (λ of.
    and_then (field_at ms) (λ field.
    and_then (text_at (codes "prefix") ms) (λ prefix.
    and_then (chain_at names pool ms) (λ linked.
    and_then (route_at ms) (λ route.
    and_then (context_at names (codes "context") ms) (λ context.
    and_then (context_at names (codes "item") ms) (λ listed.
    and_then (order_at Id ms) (λ order.
    whole of field prefix linked route context listed order))))))))

abbrev pub tags_by : ℕ → List Bytes → List Pattern → Members → Result (TagRule × List Pattern) Bytes
tags_by n names pool ms = unless (early_fault Tags n (first_other (is_table_key Tags) ms)) (tags_in names pool ms)

-- what is no table is none of these
abbrev pub tags_of : ℕ → List Bytes → List Pattern → Option Members → Result (TagRule × List Pattern) RulesFault
tags_of n names pool (Some ms) = numbered_fault Tags n (tags_by n names pool ms)
tags_of n names pool None = Err (no_table Tags)

-- the tables from this number on, and the patterns then, or the first fault
abbrev pub tags_from : List Bytes → Items → ℕ → List Pattern → List TagRule → Result (List TagRule × List Pattern) RulesFault
tags_from names no_items n pool done = Ok (done, pool)
tags_from names (item d ds) n pool done = and_then (tags_of n names pool (as_table d)) (λ r. tags_from names ds (n + 1) r.1 (done ++ r.0 ∷ []))
