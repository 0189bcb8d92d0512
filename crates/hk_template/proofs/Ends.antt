-- What the code sees at the ends of a slice, as the definitions have it.
use Rattle.std.proofs.Common.{◌≡◌, ℕ, ◌≤◌, Bool, true, false, if◌then◌else◌, not, ◌==◌, nat_lt, length, position, refl, sym, arith, Option, Some, None, ltb-false}
use Rattle.std.proofs.lemmas.List.Sums.{prefix_len-le-length}
use Rattle.hk_base.specs.Bytes.{Bytes}
use Rattle.hk_template.specs.Cut.{run_length}

-- the place of the first dollar sign
pub run_by : Bytes → Option ℕ → ℕ
run_by bytes (Some count) = count
run_by bytes None = length bytes

run_by_test : (bytes : Bytes) (n : ℕ) (b : Bool) → n ≤ length bytes → nat_lt n (length bytes) ≡ b → (r : Option ℕ) → r ≡ (if b then Some n else None) → (r ≡ None → length bytes ≡ n) × ((count : ℕ) → r ≡ Some count → count ≡ n)
run_by_test bytes n true h e r d = (λ z. let no : ⊥ = cc in absurd no, λ count z. cc)
run_by_test bytes n false h e r d = (λ z. let g : length bytes ≤ n = ltb-false _ _ e in omega arith, λ count z. let no : ⊥ = cc in absurd no)

abbrev at_run : (bytes : Bytes) → (position (λ c. c == 36) bytes ≡ None → length bytes ≡ run_length bytes) × ((count : ℕ) → position (λ c. c == 36) bytes ≡ Some count → count ≡ run_length bytes)
at_run bytes = run_by_test bytes (run_length bytes) (nat_lt (run_length bytes) (length bytes)) (prefix_len-le-length (λ c. not (c == 36)) bytes) refl (position (λ c. c == 36) bytes) refl

pub run_none : (bytes : Bytes) → None ≡ position (λ c. c == 36) bytes → length bytes ≡ run_length bytes
run_none bytes e = (at_run bytes).0 (sym e)

pub run_some : (bytes : Bytes) (count : ℕ) → Some count ≡ position (λ c. c == 36) bytes → count ≡ run_length bytes
run_some bytes count e = (at_run bytes).1 count (sym e)
