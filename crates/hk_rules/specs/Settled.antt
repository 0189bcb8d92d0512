-- Which sources need no further claim in a version.
use Rattle.std.specs.Prelude.{◌≡◌, ℕ, Bool, true, false, List, length, Option, Some, None, Result, Ok, Err, Vec, is_some, replicate, if◌then◌else◌}
use Rattle.std.specs.List.{list_any, slice_index_or}
use Rattle.std.specs.Map.{lookup}
use Rattle.std.specs.BTreeMap.{BTreeMap, get, is_at}
use Rattle.std.specs.Option.{option_cmp}
use Rattle.std.specs.Ordering.{nat_cmp, is_eq}
use Rattle.std.specs.Cmp.Lexicographic.{slice_cmp}
use Rattle.std.specs.declared.alloc.Global.{Global}
use Rattle.hk_base.specs.Bytes.{Bytes}
use Rattle.hk_base.specs.Identifier.{Ident, ident_cmp, read_ident}
use Rattle.hk_base.specs.declared.identifier.IdentFault.{IdentFault}
use Rattle.hk_pattern.specs.Pattern.{matches}
use Rattle.hk_rules.specs.Universe.{Claim, claim_at}
use Rattle.hk_rules_file.specs.declared.rules.Rule.{Rule}
use Rattle.hk_rules.specs.declared.source_file.SourceFile.{SourceFile}
use Rattle.hk_rules.specs.declared.universe.Paths.{Paths}
use Rattle.hk_rules.specs.declared.universe.Paths.TheVariants.{Listed, Tested}

abbrev pub has_key : List (Vec ℕ Global) → Bytes → Bool
has_key keys path = list_any (λ key. is_eq (slice_cmp nat_cmp path key.items)) keys

abbrev pub has_path : Paths → Bytes → Bool
has_path (Listed paths) path = has_key paths.keys path
has_path (Tested pattern) path = matches pattern.now path None

-- a file whose path passes a test
abbrev pub matched_by : (Bytes → Bool) → Rule → Bytes × SourceFile → Option Claim
matched_by test rule source = if test source.0 then claim_at rule (Some source.1) source.0 else None

-- a path that has an owner in a version, or is no identifier's there
abbrev pub is_settled : List Claim → Result Ident IdentFault → Bool
is_settled items (Ok id) = is_some (lookup (is_at (ident_cmp id)) items)
is_settled items (Err fault) = true

-- each source whose flag is set is settled
pub record AreSettled (sources : List (Bytes × SourceFile)) (items : List Claim) (version : Option Bytes) (flags : List Bool) : Type 0 where
  pub each : length flags ≡ length sources
  pub settled : (i : ℕ) (d : Bytes × SourceFile) → slice_index_or flags i false ≡ true → is_settled items (read_ident (slice_index_or sources i d).0 version) ≡ true

abbrev pub Flags : Type 0
Flags = BTreeMap (Option Bytes) (Vec Bool Global)

abbrev pub AllSettled : List (Bytes × SourceFile) → List Claim → Flags → Type 0
AllSettled sources items flags =
    (version : Option Bytes) (own : Vec Bool Global) → get (option_cmp (slice_cmp nat_cmp)) flags version ≡ Some own → AreSettled sources items version own.items

abbrev pub flags_or : Option (Vec Bool Global) → ℕ → List Bool
flags_or (Some own) count = own.items
flags_or None count = replicate count false

-- the flags of a version, none of them set where there are none yet
abbrev pub flags_at : Flags → Option Bytes → ℕ → List Bool
flags_at flags version count = flags_or (get (option_cmp (slice_cmp nat_cmp)) flags version) count
