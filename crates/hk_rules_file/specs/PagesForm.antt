-- The form of a table for numbered pages.
use Rattle.std.specs.Prelude.{ℕ, ◌+◌, List, [], ◌∷◌, ◌++◌, Option, Some, None, Result, Ok, Err, codes}
use Rattle.toml.specs.Data.{Items, no_items, item, Members, as_table}
use Rattle.hk_base.specs.Bytes.{Bytes}
use Rattle.hk_chain.specs.declared.chain.Step.{Step}
use Rattle.hk_chain.specs.declared.context.Order.{Order}
use Rattle.hk_chain.specs.declared.context.Order.TheVariants.{Recent}
use Rattle.hk_pattern.specs.declared.pattern.Pattern.{Pattern}
use Rattle.hk_route.specs.declared.route.Route.{Route}
use Rattle.hk_rules_file.specs.RuleForm.{first_other}
use Rattle.hk_rules_file.specs.TableForm.{and_then, pattern_at, text_at, count_at, order_at, route_at, context_at, chain_at, is_table_key, early_fault, unless, numbered_fault, no_table}
use Rattle.hk_rules_file.specs.declared.fault.RulesFault.{RulesFault}
use Rattle.hk_rules_file.specs.declared.table_form.TableKind.TheVariants.{Paginate}
use Rattle.hk_rules_file.specs.declared.tables.PageRule.{PageRule}

abbrev pub whole : Pattern → Bytes → ℕ → Bytes → List Step × List Pattern → Option Route → ℕ → ℕ → Order → Result (PageRule × List Pattern) Bytes
whole of prefix per first linked route context listed order =
    Ok (record { of = of; per = per; first = first; prefix = prefix; route = route; chain = linked.0; context = context; item = listed; order = order }, linked.1)

-- a table for numbered pages, and the patterns then, or the first of its keys that is at fault
abbrev pub pages_in : List Bytes → List Pattern → Members → Result (PageRule × List Pattern) Bytes
pages_in names pool ms =
    and_then (pattern_at (codes "of") ms) (λ of.
    and_then (text_at (codes "prefix") ms) (λ prefix.
    and_then (count_at (codes "per") ms) (λ per.
    and_then (text_at (codes "first") ms) (λ first.
    and_then (chain_at names pool ms) (λ linked.
    and_then (route_at ms) (λ route.
    and_then (context_at names (codes "context") ms) (λ context.
    and_then (context_at names (codes "item") ms) (λ listed.
    and_then (order_at Recent ms) (λ order.
    whole of prefix per first linked route context listed order)))))))))

abbrev pub pages_by : ℕ → List Bytes → List Pattern → Members → Result (PageRule × List Pattern) Bytes
pages_by n names pool ms = unless (early_fault Paginate n (first_other (is_table_key Paginate) ms)) (pages_in names pool ms)

-- what is no table is none of these
abbrev pub pages_of : ℕ → List Bytes → List Pattern → Option Members → Result (PageRule × List Pattern) RulesFault
pages_of n names pool (Some ms) = numbered_fault Paginate n (pages_by n names pool ms)
pages_of n names pool None = Err (no_table Paginate)

-- the tables from this number on, and the patterns then, or the first fault
abbrev pub pages_from : List Bytes → Items → ℕ → List Pattern → List PageRule → Result (List PageRule × List Pattern) RulesFault
pages_from names no_items n pool done = Ok (done, pool)
pages_from names (item d ds) n pool done = and_then (pages_of n names pool (as_table d)) (λ r. pages_from names ds (n + 1) r.1 (done ++ r.0 ∷ []))
