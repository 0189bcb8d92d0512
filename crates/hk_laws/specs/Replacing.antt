-- Replacing in a path, at each first occurrence.
use Rattle.std.specs.Prelude.{◌≡◌, [], ◌++◌}
use Rattle.hk_base.specs.Bytes.{Bytes}
use Rattle.hk_laws.specs.Runs.{BeginsWith, NoneBefore}

-- `old` isn't empty. Where it doesn't occur, the path stays; where `u` stands before its first occurrence, `u` and `new` come
-- of that, and then what comes of the rest
pub record Replaces (replace : Bytes → Bytes → Bytes → Bytes) : Type 0 where
  pub none : (old new path : Bytes) → (old ≡ [] → ⊥) → NoneBefore (BeginsWith old) path [] → replace old new path ≡ path
  pub first : (old new u rest : Bytes) → (old ≡ [] → ⊥) → NoneBefore (BeginsWith old) u (old ++ rest)
      → replace old new (u ++ (old ++ rest)) ≡ u ++ (new ++ replace old new rest)
