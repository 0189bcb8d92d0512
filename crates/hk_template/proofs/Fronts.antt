-- Fronts and ends of texts.
use Rattle.std.proofs.Common.{◌≡◌, ◌-◌, Bool, true, false, if◌then◌else◌, [], ◌∷◌, ◌++◌, length, take, drop, refl, ap, sym, ◌∙◌, arith, codes, bytes_eq, Option, Some, None, IfSome, length-append, take-append-drop, option_and_then}
use Rattle.std.specs.List.{list_all}
use Rattle.hk_base.specs.Bytes.{Bytes}
use Rattle.hk_base.specs.Key.{ends_with_dash, is_key_byte}
use Rattle.hk_base.proofs.Keys.{ends_by}
use Rattle.hk_template.specs.Cut.{after_front, before_end, between}
use Rattle.hk_template.proofs.Bools.{bytes_equal, bytes_same, no_false}

pub take_front : (xs ys : Bytes) → take (length xs) (xs ++ ys) ≡ xs
take_front [] ys = refl
take_front (x ∷ xs) ys = ap (λ t. x ∷ t) (take_front xs ys)

pub drop_front : (xs ys : Bytes) → drop (length xs) (xs ++ ys) ≡ ys
drop_front [] ys = refl
drop_front (x ∷ xs) ys = drop_front xs ys

pub after_front_finds : (front rest : Bytes) → after_front front (front ++ rest) ≡ Some rest
after_front_finds front rest = rw (take_front front rest, bytes_same front, drop_front front rest) refl

pub after_front_sound : (front bytes : Bytes) → IfSome (after_front front bytes) (λ rest. bytes ≡ front ++ rest)
after_front_sound front bytes = by_test (bytes_eq (take (length front) bytes) front) refl
  where
    by_test : (b : Bool) → bytes_eq (take (length front) bytes) front ≡ b → IfSome (if b then Some (drop (length front) bytes) else None) (λ rest. bytes ≡ front ++ rest)
    by_test true e = sym (take-append-drop (length front) bytes) ∙ ap (λ t. t ++ drop (length front) bytes) (bytes_equal _ _ e)
    by_test false e = tt

end_count : (rest end : Bytes) → length (rest ++ end) - length end ≡ length rest
end_count rest end = omega (arith, length-append rest end)

pub before_end_finds : (end rest : Bytes) → before_end end (rest ++ end) ≡ Some rest
before_end_finds end rest = rw (end_count rest end, drop_front rest end, bytes_same end, take_front rest end) refl

pub before_end_sound : (end bytes : Bytes) → IfSome (before_end end bytes) (λ rest. bytes ≡ rest ++ end)
before_end_sound end bytes = by_test (bytes_eq (drop (length bytes - length end) bytes) end) refl
  where
    by_test : (b : Bool) → bytes_eq (drop (length bytes - length end) bytes) end ≡ b → IfSome (if b then Some (take (length bytes - length end) bytes) else None) (λ rest. bytes ≡ rest ++ end)
    by_test true e = sym (take-append-drop (length bytes - length end) bytes) ∙ ap (λ t. take (length bytes - length end) bytes ++ t) (bytes_equal _ _ e)
    by_test false e = tt

pub between_finds : (front end middle : Bytes) → between front end (front ++ (middle ++ end)) ≡ Some middle
between_finds front end middle = rw (after_front_finds front (middle ++ end)) (before_end_finds end middle)

pub between_sound : (front end bytes : Bytes) → IfSome (between front end bytes) (λ middle. bytes ≡ front ++ (middle ++ end))
between_sound front end bytes = by_rest (after_front front bytes) (after_front_sound front bytes)
  where
    by_middle : (rest : Bytes) → bytes ≡ front ++ rest → (r : Option Bytes) → IfSome r (λ middle. rest ≡ middle ++ end) → IfSome r (λ middle. bytes ≡ front ++ (middle ++ end))
    by_middle rest e (Some middle) d = e ∙ ap (λ t. front ++ t) d
    by_middle rest e None d = tt

    by_rest : (r : Option Bytes) → IfSome r (λ rest. bytes ≡ front ++ rest) → IfSome (option_and_then (before_end end) r) (λ middle. bytes ≡ front ++ (middle ++ end))
    by_rest (Some rest) e = by_middle rest e (before_end end rest) (before_end_sound end rest)
    by_rest None e = tt

pub no_end_dash : (bytes : Bytes) → ends_with_dash bytes ≡ false → before_end (codes "-") bytes ≡ None
no_end_dash bytes h = by_rest (before_end (codes "-") bytes) (before_end_sound (codes "-") bytes)
  where
    by_rest : (r : Option Bytes) → IfSome r (λ rest. bytes ≡ rest ++ codes "-") → r ≡ None
    by_rest (Some rest) e = no_false (sym h ∙ ap ends_with_dash e ∙ ends_by rest 45)
    by_rest None e = refl

-- a text of key bytes has no front with another byte in it
pub no_front : (front bytes : Bytes) → ((rest : Bytes) → list_all is_key_byte (front ++ rest) ≡ false) → list_all is_key_byte bytes ≡ true → after_front front bytes ≡ None
no_front front bytes f h = by_rest (after_front front bytes) (after_front_sound front bytes)
  where
    by_rest : (r : Option Bytes) → IfSome r (λ rest. bytes ≡ front ++ rest) → r ≡ None
    by_rest (Some rest) e = no_false (sym (f rest) ∙ sym (ap (list_all is_key_byte) e) ∙ h)
    by_rest None e = refl
