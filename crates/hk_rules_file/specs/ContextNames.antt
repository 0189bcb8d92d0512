-- The contexts are those of the table and `default`, in the byte order of their names.
use Rattle.std.specs.Prelude.{◌≡◌, ◌⊎◌, List, [], ◌∷◌, Ok}
use Rattle.std.specs.List.{AllByRecursion}
use Rattle.std.specs.List.Sorted.{IsStrictlySortedBy}
use Rattle.std.specs.Ordering.{nat_cmp}
use Rattle.std.specs.Cmp.Lexicographic.{slice_cmp}
use Rattle.toml.specs.Data.{Members, no_members, member}
use Rattle.hk_base.specs.Bytes.{Bytes}
use Rattle.hk_chain.specs.Context.{ContextView}
use Rattle.hk_pattern.specs.declared.pattern.Pattern.{Pattern}
use Rattle.hk_steps.specs.StepForm.{default_name}
use Rattle.hk_rules_file.specs.ContextForm.{names_of, contexts_in}
use Rattle.hk_rules_file.specs.Linked.{context_names}

-- the keys of a table
abbrev pub keys_in : Members → List Bytes
keys_in no_members = []
keys_in (member name d ms) = name ∷ keys_in ms

abbrev pub AreAscending : List Bytes → Type 0
AreAscending names = IsStrictlySortedBy (slice_cmp nat_cmp) names

-- a text is one of these
abbrev pub IsAmong : List Bytes → Bytes → Type 0
IsAmong [] text = ⊥
IsAmong (x ∷ xs) text = (x ≡ text) ⊎ IsAmong xs text

-- the names ascend, and are `default` and the keys of the table
pub record AreNames (table : Members) (names : List Bytes) : Type 0 where
  pub ascend : AreAscending names
  pub each : AllByRecursion (IsAmong (default_name ∷ keys_in table)) names
  pub here : AllByRecursion (IsAmong names) (default_name ∷ keys_in table)

-- the contexts that are read have these names, and the names by which steps and fields find their numbers are the same
abbrev pub NamesTellContexts : Type 0
NamesTellContexts =
    (table : Members) (read : List ContextView × List Pattern) → AreAscending (keys_in table) → contexts_in (names_of table) table ≡ Ok read
    → AreNames table (context_names read.0) × (names_of table ≡ context_names read.0)
