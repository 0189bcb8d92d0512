-- Members of a bracketed list, one at a time.
use Rattle.std.proofs.Common.{◌≡◌, ℕ, ◌+◌, ◌-◌, ◌<◌, ◌≤◌, ◌==◌, true, false, suc, [], ◌∷◌, length, take, drop, get_or, None, Some, Option, refl, ap, sym, ◌∙◌, arith}
use Rattle.std.proofs.lemmas.Grind.{common_steps}
use Rattle.std.specs.Option.{unwrap_or}
use Rattle.hk_base.specs.Bytes.{Bytes}
use Rattle.hk_meta.specs.Scalar.{members_from, then_member, after_member, read_member, skip_blanks}

pub members_step : (n i : ℕ) (before : Option Bytes) (text : Bytes) → i < n → members_from (n - i) before text ≡ then_member (read_member before (skip_blanks text)) (members_from (n - (i + 1)))
unfolding members_from
members_step n i before text below =
    let e : n - i ≡ suc (n - (i + 1)) = omega arith in ap (λ count. members_from count before text) e

pub members_end : (n i : ℕ) (before : Option Bytes) (text : Bytes) → n ≤ i → members_from (n - i) before text ≡ None
unfolding members_from
members_end n i before text past =
    let e : n - i ≡ 0 = omega arith in ap (λ count. members_from count before text) e

-- after a member that was read
pub members_read : (n i : ℕ) (before after : Option Bytes) (text rest : Bytes) → i < n → Some (after, rest) ≡ read_member before (skip_blanks text) → members_from (n - i) before text ≡ after_member after rest (members_from (n - (i + 1)))
members_read n i before after text rest below read =
    members_step n i before text below ∙ ap (λ r. then_member r (members_from (n - (i + 1)))) (sym read)

abbrev pub Next : Type 0
Next = Option Bytes → Bytes → Option (Bytes × Bytes)

-- what stands after the first byte
pub tail_is : (c : ℕ) (cs : Bytes) → take (length (c ∷ cs) - 1) (drop 1 (c ∷ cs)) ≡ cs
tail_is c cs = grind (arith, common_steps)

pub after_empty : (after : Option Bytes) (rest : Bytes) (next : Next) → true ≡ (length rest == 0) → after_member after rest next ≡ None
after_empty after [] next none = refl
after_empty after (c ∷ cs) next none = absurd (grind arith)

pub after_close : (after : Option Bytes) (rest : Bytes) (next : Next) → false ≡ (length rest == 0) → get_or rest 0 0 ≡ 93 → after_member after rest next ≡ Some (unwrap_or after [], take (length rest - 1) (drop 1 rest))
after_close after [] next some at = absurd (grind arith)
after_close after (c ∷ cs) next some at = rw (tail_is c cs) (let e : c ≡ 93 = at in rw e refl)

pub after_comma : (after : Option Bytes) (rest : Bytes) (next : Next) → false ≡ (length rest == 0) → get_or rest 0 0 ≡ 44 → after_member after rest next ≡ next after (take (length rest - 1) (drop 1 rest))
after_comma after [] next some at = absurd (grind arith)
after_comma after (c ∷ cs) next some at = rw (tail_is c cs) (let e : c ≡ 44 = at in rw e refl)
