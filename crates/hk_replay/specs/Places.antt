-- The first places of texts, found by text.
use Rattle.std.specs.Prelude.{◌≡◌, ℕ, List, Option, bytes_eq, Vec}
use Rattle.std.specs.BTreeMap.{is_at}
use Rattle.std.specs.Cmp.Lexicographic.{slice_cmp}
use Rattle.std.specs.List.{position_from}
use Rattle.std.specs.Map.{lookup}
use Rattle.std.specs.Ordering.{nat_cmp}
use Rattle.std.specs.declared.alloc.Global.{Global}
use Rattle.hk_base.specs.Bytes.{Bytes}

abbrev pub place_in : List (Vec ℕ Global × ℕ) → Bytes → Option ℕ
place_in entries text = lookup (is_at (λ (key : Vec ℕ Global). slice_cmp nat_cmp text key.items)) entries

-- each text is found at its first place
abbrev pub AreFirst : List Bytes → List (Vec ℕ Global × ℕ) → Type 0
AreFirst texts entries = (text : Bytes) → place_in entries text ≡ position_from (λ own. bytes_eq own text) 0 texts
