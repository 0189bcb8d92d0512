-- Which items a pattern chooses, as one flag for each item.
use Rattle.std.specs.Prelude.{Bool, List, [], ◌∷◌}
use Rattle.hk_base.specs.Identifier.{Ident}
use Rattle.hk_pattern.specs.declared.pattern.Pattern.{Pattern}
use Rattle.hk_pattern.specs.Pattern.{matches, is_id}
use Rattle.hk_rules.specs.declared.owner.Owner.{Owner}

abbrev pub is_chosen : Pattern → Ident × Owner → Bool
is_chosen pattern item = matches pattern item.0.path item.0.version

abbrev pub is_item : Ident → Ident × Owner → Bool
is_item id item = is_id item.0.path item.0.version id

-- two flags for each item made one
abbrev pub merged : (Bool → Bool → Bool) → List Bool → List Bool → List Bool
merged by [] more = []
merged by (flag ∷ flags) [] = []
merged by (flag ∷ flags) (other ∷ more) = by flag other ∷ merged by flags more
