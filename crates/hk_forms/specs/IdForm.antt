-- The form of an identifier and of a version.
use Rattle.std.specs.Prelude.{Option, Some, None, Result, Ok, Err, if◌then◌else◌}
use Rattle.toml.specs.Data.{Data, Items, as_str, as_array}
use Rattle.hk_base.specs.Bytes.{Bytes}
use Rattle.hk_base.specs.Identifier.{Ident, read_ident, is_version}
use Rattle.hk_forms.specs.Members.{two}

-- the value, where there is no fault
abbrev pub value_of : {T F : Type 0} → Result T F → Option T
value_of (Ok value) = Some value
value_of (Err fault) = None

abbrev pub ident_at : Bytes → Option Bytes → Option Ident
ident_at path version = value_of (read_ident path version)

abbrev pub versioned : Option Bytes → Option Bytes → Option Ident
versioned (Some path) (Some version) = ident_at path (Some version)
versioned _ _ = None

abbrev pub id_pair : Option (Data × Data) → Option Ident
id_pair (Some p) = versioned (as_str p.0) (as_str p.1)
id_pair None = None

abbrev pub id_by : Option Bytes → Option Items → Option Ident
id_by (Some path) _ = ident_at path None
id_by None (Some ds) = id_pair (two ds)
id_by None None = None

-- an identifier is a string, the path, or an array of two strings, the path and the version
abbrev pub id_of : Data → Option Ident
id_of d = id_by (as_str d) (as_array d)

abbrev pub path_by : Option Bytes → Option Ident
path_by (Some path) = ident_at path None
path_by None = None

-- a path without a version
abbrev pub path_of : Data → Option Ident
path_of d = path_by (as_str d)

abbrev pub version_by : Option Bytes → Option Bytes
version_by (Some text) = if is_version text then Some text else None
version_by None = None

-- a version is a string that may be one
abbrev pub version_of : Data → Option Bytes
version_of d = version_by (as_str d)
