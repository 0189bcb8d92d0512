-- The line of a generated site.
use Rattle.std.specs.Prelude.{ℕ, ◌-◌, ◌++◌, length, drop, codes}
use Rattle.std.specs.Fmt.{decimal}
use Rattle.hex.specs.Hex.{encode_lower}
use Rattle.hk_base.specs.Bytes.{Bytes}

-- the last 32 bytes of a store: the digest of all before
abbrev pub trailer : Bytes → Bytes
trailer store = drop (length store - 32) store

-- how many items there are and how many pages, and the digest of the store
abbrev pub line : ℕ → ℕ → Bytes → Bytes
line items pages store = codes "items " ++ (decimal items ++ (codes ", pages " ++ (decimal pages
    ++ (codes ", digest " ++ (encode_lower (trailer store) ++ codes "\n")))))
