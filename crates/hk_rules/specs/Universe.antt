-- Which items there are, and who owns each.
use Rattle.std.specs.Prelude.{◌≡◌, ◌<◌, length, List, [], map, fold, Option, Some, None, is_some, Result, Ok, Err, if◌then◌else◌}
use Rattle.std.specs.Map.{lookup}
use Rattle.std.specs.BTreeMap.{insert_entry, is_at}
use Rattle.hk_base.specs.Bytes.{Bytes}
use Rattle.hk_base.specs.Identifier.{Ident, ident_cmp, read_ident}
use Rattle.hk_base.specs.declared.identifier.IdentFault.{IdentFault}
use Rattle.hk_pattern.specs.declared.pattern.Pattern.{Pattern}
use Rattle.hk_pattern.specs.Pattern.{matches}
use Rattle.hk_rules_file.specs.declared.rules.Rule.{Rule}
use Rattle.hk_rules_file.specs.declared.rules.RuleSource.{RuleSource}
use Rattle.hk_rules_file.specs.declared.rules.RuleSource.TheVariants.{Match, Create}
use Rattle.hk_rules.specs.declared.source_file.SourceFile.{SourceFile}
use Rattle.hk_rules.specs.declared.owner.Owner.{Owner}

-- an identifier and its owner
abbrev pub Claim : Type 0
Claim = Ident × Owner

abbrev pub owner : Rule → Option SourceFile → Owner
owner rule source = record { rule = rule; source = source }

abbrev pub owned : Ident → Rule → Option SourceFile → Option Claim
owned id rule source = Some (id, owner rule source)

abbrev pub claim_by : Owner → Result Ident IdentFault → Option Claim
claim_by owner (Ok id) = Some (id, owner)
claim_by owner (Err fault) = None

-- a rule claims a path in the rule's version, where that is an identifier
abbrev pub claim_at : Rule → Option SourceFile → Bytes → Option Claim
claim_at rule source path = claim_by (owner rule source) (read_ident path rule.version)

-- a file that the pattern matches, tested without a version
abbrev pub matched : Rule → Pattern → Bytes × SourceFile → Option Claim
matched rule pattern source = if matches pattern source.0 None then claim_at rule (Some source.1) source.0 else None

-- a path that the rule lists
abbrev pub created : Rule → Ident → Option Claim
created rule id = claim_at rule None id.path

abbrev pub claims_by : List (Bytes × SourceFile) → Rule → RuleSource → List (Option Claim)
claims_by sources rule (Match pattern) = map (matched rule pattern) sources
claims_by sources rule (Create ids) = map (created rule) ids

-- what a rule claims
abbrev pub claims_of : List (Bytes × SourceFile) → Rule → List (Option Claim)
claims_of sources rule = claims_by sources rule rule.source

-- an identifier that has no owner gets one, in its place in the order
abbrev pub claimed : List Claim → Option Claim → List Claim
claimed items None = items
claimed items (Some claim) =
    if is_some (lookup (is_at (ident_cmp claim.0)) items) then items else insert_entry ident_cmp items claim.0 claim.1

-- the items after the claims of one more rule
abbrev pub claimed_all : List (Bytes × SourceFile) → List Claim → Rule → List Claim
claimed_all sources items rule = fold claimed items (claims_of sources rule)

-- the items in identifier order, each with its owner: the first rule that claims it
unfoldable pub universe : List (Bytes × SourceFile) → List Rule → List Claim
universe sources rules = fold (claimed_all sources) [] rules

-- a list that is another one, or that has too many items for a site where the other one has, too
pub data Enough (items all : List Claim) : Type 0 where
  same : items ≡ all → Enough items all
  many : 65535 < length items → 65535 < length all → Enough items all
