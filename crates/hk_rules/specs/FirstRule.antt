-- The first rule wins.
use Rattle.std.specs.Prelude.{◌≡◌, Bool, false, List, Option, Some, None, option_map}
use Rattle.std.specs.BTreeMap.{is_at}
use Rattle.std.specs.List.{list_any, find}
use Rattle.std.specs.Map.{lookup}
use Rattle.std.specs.Ordering.{is_eq}
use Rattle.hk_base.specs.Bytes.{Bytes}
use Rattle.hk_base.specs.Identifier.{Ident, ident_cmp}
use Rattle.hk_rules_file.specs.declared.rules.Rule.{Rule}
use Rattle.hk_rules.specs.Universe.{Claim, claims_of}
use Rattle.hk_rules.specs.declared.owner.Owner.{Owner}
use Rattle.hk_rules.specs.declared.source_file.SourceFile.{SourceFile}

abbrev pub is_claim_to : Ident → Option Claim → Bool
is_claim_to id None = false
is_claim_to id (Some claim) = is_eq (ident_cmp id claim.0)

-- whether a rule claims an identifier
abbrev pub is_claimed_by : List (Bytes × SourceFile) → Ident → Rule → Bool
is_claimed_by sources id rule = list_any (is_claim_to id) (claims_of sources rule)

abbrev pub own_rule : Owner → Rule
own_rule owner = owner.rule

-- the rule of the item with an identifier, where there is such an item
abbrev pub rule_of : List Claim → Ident → Option Rule
rule_of items id = option_map own_rule (lookup (is_at (ident_cmp id)) items)

-- the item with an identifier has the first rule that claims it, in the order of the rules; where none does there is no such item
pub record FirstRuleWins (sources : List (Bytes × SourceFile)) (rules : List Rule) (items : List Claim) : Type 0 where
  pub owner : (id : Ident) → rule_of items id ≡ find (is_claimed_by sources id) rules
