-- Metadata as a list of keys, each with one value.
use Rattle.std.specs.Prelude.{Bool, true, ◌&&◌, nat_eq, if◌then◌else◌, List, [], ◌∷◌, ◌++◌, Option, Some, None, fold}
use Rattle.std.specs.Option.{is_some, is_none}
use Rattle.std.specs.Cmp.Lexicographic.{pointwise}
use Rattle.hk_base.specs.Bytes.{Bytes}

-- a key and its value
abbrev pub Pair : Type 0
Pair = Bytes × Bytes

-- keys and values in order
abbrev pub Pairs : Type 0
Pairs = List Pair

abbrev pub same_name : Bytes → Bytes → Bool
same_name key other = pointwise nat_eq key other

-- the value of a key
abbrev pub value_of : Bytes → Pairs → Option Bytes
value_of key [] = None
value_of key (p ∷ ps) = if same_name key p.0 then Some p.1 else value_of key ps

-- no key stands twice
abbrev pub keys_differ : Pairs → Bool
keys_differ [] = true
keys_differ (p ∷ ps) = is_none (value_of p.0 ps) && keys_differ ps

-- a key that is there keeps its place and takes the value, and a new one goes last
abbrev pub put : Bytes → Bytes → Pairs → Pairs
put key value [] = (key, value) ∷ []
put key value (p ∷ ps) = if same_name key p.0 then (p.0, value) ∷ ps else p ∷ put key value ps

-- a pair whose key isn't there goes last
abbrev pub add_absent : Pairs → Pair → Pairs
add_absent pairs p = if is_some (value_of p.0 pairs) then pairs else pairs ++ (p ∷ [])

-- all of the first, and then those of the second whose keys the first lacks
abbrev pub merge : Pairs → Pairs → Pairs
merge first second = fold add_absent first second
