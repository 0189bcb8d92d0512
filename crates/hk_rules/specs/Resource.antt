-- Which files of a folder a build looks at.
use Rattle.std.specs.Prelude.{Bool, ◌==◌, ◌||◌, nat_eq, codes, bytes_eq}
use Rattle.std.specs.List.{list_any, slice_split, starts_with, ends_with}
use Rattle.hk_base.specs.Bytes.{Bytes}

-- a part of a path between slashes that hides the file
abbrev pub is_hidden : Bytes → Bool
is_hidden part =
    ((starts_with nat_eq part (codes ".") || starts_with nat_eq part (codes "#")) || ends_with nat_eq part (codes "~"))
    || ends_with nat_eq part (codes ".swp")

-- a file that a build passes over
abbrev pub is_ignored : Bytes → Bool
is_ignored path =
    ((bytes_eq path (codes "site.toml") || starts_with nat_eq path (codes "_site/")) || starts_with nat_eq path (codes "_cache/"))
    || list_any is_hidden (slice_split (λ b. b == 47) path)

-- what the path of a file that goes with another one ends in
abbrev pub companion_ending : Bytes
companion_ending = codes ".metadata"

abbrev pub is_companion : Bytes → Bool
is_companion path = ends_with nat_eq path companion_ending
