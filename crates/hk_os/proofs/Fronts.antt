-- Bytes that are written front by front.
use Rattle.std.proofs.Common.{◌≡◌, ℕ, ◌+◌, ◌-◌, ◌≤◌, ◌++◌, length, take, drop, Option, Some, None, IfSome, sym, ap, subst, ◌∙◌, append_assoc, length-drop, arith}
use Rattle.std.proofs.Math.Seq.{take-add}
use Rattle.std.proofs.lemmas.List.{take_all}
use Rattle.std.specs.Io.KnownBytes as known
use Rattle.hk_base.specs.Bytes.{Bytes}

-- so many first bytes stand at the end
pub record Front (bytes : Bytes) (old now : Option Bytes) (at : ℕ) : Type 0 where
  pub within : at ≤ length bytes
  pub taken : IfSome old (λ w. now ≡ Some (w ++ take at bytes))

kept : (now new : Option Bytes) (x : Bytes) → now ≡ Some x → known.Keeps now new → new ≡ Some x
kept now new x is k = of new (subst (λ o. known.Keeps o new) is k)
  where
    of : (new : Option Bytes) → known.Keeps (Some x) new → new ≡ Some x
    of None k = absurd k
    of (Some y) k = ap Some k

appended : (now new : Option Bytes) (x bs : Bytes) → now ≡ Some x → known.Appends now new bs → new ≡ Some (x ++ bs)
appended now new x bs is k = of new (subst (λ o. known.Appends o new bs) is k)
  where
    of : (new : Option Bytes) → known.Appends (Some x) new bs → new ≡ Some (x ++ bs)
    of None k = absurd k
    of (Some y) k = ap Some k

pub Front-kept : (bytes : Bytes) (old now new : Option Bytes) (at : ℕ) → Front bytes old now at → known.Keeps now new → Front bytes old new at
Front-kept bytes None now new at f k = record { within = f.within; taken = tt }
Front-kept bytes (Some w) now new at f k = record { within = f.within; taken = kept now new _ f.taken k }

room : (at count : ℕ) (bytes : Bytes) → at ≤ length bytes → count ≤ length (drop at bytes) → at + count ≤ length bytes
room at count bytes within le = let e = length-drop at bytes in grind arith

pub Front-more : (bytes : Bytes) (old now new : Option Bytes) (at count : ℕ) → Front bytes old now at → count ≤ length (drop at bytes) → known.Appends now new (take count (drop at bytes)) → Front bytes old new (at + count)
Front-more bytes None now new at count f le k = record { within = room at count bytes f.within le; taken = tt }
Front-more bytes (Some w) now new at count f le k = record {
  within = room at count bytes f.within le;
  taken = appended now new _ _ f.taken k ∙ ap Some (append_assoc w (take at bytes) (take count (drop at bytes)) ∙ ap (λ t. w ++ t) (sym (take-add at count bytes)));
}

-- what is left, as a slice has it
rest : (bytes : Bytes) (at : ℕ) → take (length bytes - at) (drop at bytes) ≡ drop at bytes
rest bytes at = let e = length-drop at bytes in take_all (length bytes - at) (drop at bytes) (grind arith)

pub Front-slice : (bytes : Bytes) (old now new : Option Bytes) (at count : ℕ) → Front bytes old now at → count ≤ length (take (length bytes - at) (drop at bytes)) → known.Appends now new (take count (take (length bytes - at) (drop at bytes))) → Front bytes old new (at + count)
Front-slice bytes old now new at count f le k = Front-more bytes old now new at count f (subst (λ r. count ≤ length r) (rest bytes at) le) (subst (λ r. known.Appends now new (take count r)) (rest bytes at) k)
