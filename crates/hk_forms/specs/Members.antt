-- What a table has at its keys, and what an array lists.
use Rattle.std.specs.Prelude.{ℕ, ◌+◌, ◌-◌, ◌==◌, nat_lt, nat_le, List, [], ◌∷◌, Bool, true, ◌&&◌, Option, Some, None, if◌then◌else◌}
use Rattle.toml.specs.Data.{Data, Items, no_items, item, Members, no_members, member, get_member}
use Rattle.hk_base.specs.Bytes.{Bytes}

-- each key passes
abbrev pub keys_pass : (Bytes → Bool) → Members → Bool
keys_pass p no_members = true
keys_pass p (member k d ms) = p k && keys_pass p ms

-- the key and the value of a table that has one member
abbrev pub only : Members → Option (Bytes × Data)
only (member k d no_members) = Some (k, d)
only _ = None

abbrev pub count_members : Members → ℕ
count_members no_members = 0
count_members (member k d ms) = count_members ms + 1

abbrev pub pair_of : Option Data → Option Data → Option (Data × Data)
pair_of (Some d) (Some e) = Some (d, e)
pair_of _ _ = None

-- the values at two keys of a table that has no others
abbrev pub both : Bytes → Bytes → Members → Option (Data × Data)
both k l ms = if count_members ms == 2 then pair_of (get_member k ms) (get_member l ms) else None

abbrev pub count_items : Items → ℕ
count_items no_items = 0
count_items (item d ds) = count_items ds + 1

abbrev pub cons : {X : Type 0} → Option X → Option (List X) → Option (List X)
cons (Some x) (Some xs) = Some (x ∷ xs)
cons _ _ = None

-- what each item is read as, where all can be
abbrev pub each : {X : Type 0} → (Data → Option X) → Items → Option (List X)
each f no_items = Some []
each f (item d ds) = cons (f d) (each f ds)

-- the most members of a list
abbrev pub most_members : ℕ
most_members = 1024

-- the same of a list that isn't too long
abbrev pub listed : {X : Type 0} → (Data → Option X) → Items → Option (List X)
listed f ds = if nat_lt most_members (count_items ds) then None else each f ds

-- the items of an array of two
abbrev pub two : Items → Option (Data × Data)
two (item d (item e no_items)) = Some (d, e)
two _ = None

-- the weights of all fit into the room
abbrev pub fits : {X : Type 0} → (X → ℕ) → ℕ → List X → Bool
fits weight room [] = true
fits weight room (x ∷ xs) = nat_le (weight x) room && fits weight (room - weight x) xs
