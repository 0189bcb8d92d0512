-- Occurrences are replaced from left to right.
use Rattle.std.proofs.Common.{◌≡◌, ℕ, ◌-◌, ◌<◌, true, cond, [], ◌∷◌, ◌++◌, refl, sym, ap, ◌∙◌, arith, length, drop, append_assoc, zero, suc}
use Rattle.hk_base.specs.Bytes.{Bytes}
use Rattle.hk_route.specs.Rewriting.{occurs, replaced_after}

passed : (old new : Bytes) (n : ℕ) (path : Bytes) → replaced_after old new n path ≡ replaced_after old new 0 (drop n path)
passed old new zero path = refl
passed old new (suc n) [] = refl
passed old new (suc n) (c ∷ cs) = passed old new n cs

passed-all : (old new : Bytes) (n c : ℕ) (cs : Bytes) → 0 < n → replaced_after old new (n - 1) cs ≡ replaced_after old new 0 (drop n (c ∷ cs))
passed-all old new zero c cs some = absurd (omega arith)
passed-all old new (suc n) c cs some = let e : suc n - 1 ≡ n = omega arith in ap (λ k. replaced_after old new k cs) e ∙ passed old new n cs

-- an occurrence
pub replaced-one : (old new done done' rest rest' : Bytes) → 0 < length rest → occurs old rest ≡ true → 0 < length old → done' ≡ done ++ new → rest' ≡ drop (length old) rest
    → done' ++ replaced_after old new 0 rest' ≡ done ++ replaced_after old new 0 rest
replaced-one old new done done' [] rest' more o some d r = absurd (omega arith)
replaced-one old new done done' (c ∷ cs) rest' more o some d r =
    ap (λ t. t ++ replaced_after old new 0 rest') d ∙ append_assoc done new _
    ∙ ap (λ t. done ++ (new ++ t)) (ap (replaced_after old new 0) r ∙ sym (passed-all old new (length old) c cs some))
    ∙ ap (λ b. done ++ cond b (new ++ replaced_after old new (length old - 1) cs) (c ∷ replaced_after old new 0 cs)) (sym o)
