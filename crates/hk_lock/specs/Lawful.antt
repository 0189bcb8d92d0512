-- What a key asks of a value that is handed on under it.
use Rattle.std.specs.Prelude.{Option, Some, None}

-- the value is lawful for the key; where there is no key, no value is
abbrev pub IsLawfulFor : {B K : Type 0} → (K → B → Type 0) → Option K → B → Type 0
IsLawfulFor lawful None b = ⊥
IsLawfulFor lawful (Some key) b = lawful key b
