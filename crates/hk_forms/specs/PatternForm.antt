-- The form of a pattern.
use Rattle.std.specs.Prelude.{ℕ, zero, suc, Bool, true, Option, Some, None, option_map, option_and_then, codes, bytes_eq, if◌then◌else◌}
use Rattle.toml.specs.Data.{Data, Items, as_str, as_array, as_table, as_bool}
use Rattle.hk_base.specs.Bytes.{Bytes}
use Rattle.hk_pattern.specs.Glob.{read_glob}
use Rattle.hk_pattern.specs.declared.pattern.Pattern.{Pattern, Glob, Ids, And, Or, Not, HasVersion, HasNoVersion}
use Rattle.hk_forms.specs.Members.{only, listed}
use Rattle.hk_forms.specs.IdForm.{value_of, id_of, version_of}

abbrev pub glob_of : Option Bytes → Option Pattern
glob_of (Some text) = option_map Glob (value_of (read_glob text))
glob_of None = None

abbrev pub ids_by : Option Items → Option Pattern
ids_by (Some ds) = option_map Ids (listed id_of ds)
ids_by None = None

-- `true` alone stands for no version
abbrev pub no_version : Option Bool → Option Pattern
no_version (Some true) = Some HasNoVersion
no_version _ = None

-- a pattern with no patterns in it, by its key
abbrev pub leaf : Bytes → Data → Option Pattern
leaf key d =
    if bytes_eq key (codes "glob") then glob_of (as_str d)
    else if bytes_eq key (codes "ids") then ids_by (as_array d)
    else if bytes_eq key (codes "has_version") then option_map HasVersion (version_of d)
    else if bytes_eq key (codes "no_version") then no_version (as_bool d)
    else None

abbrev pub and_by : (Data → Option Pattern) → Option Items → Option Pattern
and_by inner (Some ds) = option_map And (listed inner ds)
and_by inner None = None

abbrev pub or_by : (Data → Option Pattern) → Option Items → Option Pattern
or_by inner (Some ds) = option_map Or (listed inner ds)
or_by inner None = None

-- the pattern of a table with this key, from what reads the patterns in it
abbrev pub keyed : (Data → Option Pattern) → Bytes → Data → Option Pattern
keyed inner key d =
    if bytes_eq key (codes "and") then and_by inner (as_array d)
    else if bytes_eq key (codes "or") then or_by inner (as_array d)
    else if bytes_eq key (codes "not") then option_map Not (inner d)
    else leaf key d

abbrev pub pattern_by : (Data → Option Pattern) → Option Bytes → Option (Bytes × Data) → Option Pattern
pattern_by inner (Some text) _ = glob_of (Some text)
pattern_by inner None (Some m) = keyed inner m.0 m.1
pattern_by inner None None = None

-- the pattern that a value is, with at most so many patterns open at once: a string, which is a glob, or a table with
-- one key
abbrev pub pattern_at : ℕ → Data → Option Pattern
pattern_at zero d = None
pattern_at (suc n) d = pattern_by (pattern_at n) (as_str d) (option_and_then only (as_table d))

-- how many patterns and routes may be open at once
abbrev pub most_open : ℕ
most_open = 16

abbrev pub pattern_of : Data → Option Pattern
pattern_of d = pattern_at most_open d
