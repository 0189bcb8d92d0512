-- What the value of a link resolves to.
use Rattle.std.specs.Prelude.{◌-◌, Bool, ◌==◌, ◌||◌, List, [], ◌∷◌, ◌++◌, length, take, if◌then◌else◌, bytes_eq, codes}
use Rattle.std.specs.List.{fold, join_with_byte}
use Rattle.percent_encoding.specs.Percent.{percent_decode}
use Rattle.hk_base.specs.Bytes.{Bytes}
use Rattle.hk_base.specs.Identifier.{parts}
use Rattle.hk_links.specs.Value.{path_of}

abbrev pub is_here : Bytes → Bool
is_here part = bytes_eq part (codes ".")

abbrev pub is_above : Bytes → Bool
is_above part = bytes_eq part (codes "..")

-- all parts but the last
abbrev pub but_last : List Bytes → List Bytes
but_last all = take (length all - 1) all

-- the last part, or no bytes of no parts
abbrev pub last_of : List Bytes → Bytes
last_of [] = []
last_of (x ∷ []) = x
last_of (x ∷ y ∷ more) = last_of (y ∷ more)

-- the parts of a target's folder
abbrev pub folder : Bytes → List Bytes
folder target = but_last (parts target)

-- from the parts that were reached, `.` goes nowhere, `..` drops the last one, at the root none, and any other part is
-- added, decoded
abbrev pub step : List Bytes → Bytes → List Bytes
step reached part =
    if is_here part then reached
    else if is_above part then but_last reached
    else reached ++ percent_decode part ∷ []

-- `index.html` stands in the place of an empty last part, and is added behind a last `.` or `..`
abbrev pub with_index : Bytes → List Bytes → List Bytes
with_index last reached =
    if length last == 0 then but_last reached ++ codes "index.html" ∷ []
    else if is_here last || is_above last then reached ++ codes "index.html" ∷ []
    else reached

-- the parts that a path reaches from others
abbrev pub reached : List Bytes → Bytes → List Bytes
reached from path = with_index (last_of (parts path)) (fold step from (parts path))

-- the path from the root to which a path leads on the page with this target: an empty one to the page itself, one that
-- begins with `/` from the root, any other from the target's folder
abbrev pub resolved_path : Bytes → Bytes → Bytes
resolved_path target [] = target
resolved_path target (x ∷ xs) =
    if x == 47
    then join_with_byte 47 (reached [] xs)
    else join_with_byte 47 (reached (folder target) (x ∷ xs))

-- the path from the root to which an internal value leads on the page with this target
abbrev pub resolved : Bytes → Bytes → Bytes
resolved target value = resolved_path target (path_of value)
