-- The trailer of a sealed text.
use Rattle.std.proofs.Common.{◌≡◌, ◌-◌, ◌++◌, ap, ◌∙◌, arith, length, drop}
use Rattle.std.proofs.lemmas.List.{length-append}
use Rattle.std.proofs.Math.Seq.{drop-append_seam}
use Rattle.hk_base.specs.Bytes.{Bytes}
use Rattle.hk_gen.specs.Line.{trailer}

-- what stands behind a text, where it has 32 bytes
pub trailer-behind : (text digest : Bytes) → length digest ≡ 32 → trailer (text ++ digest) ≡ digest
trailer-behind text digest e =
    let front : length (text ++ digest) - 32 ≡ length text = omega (arith, length-append text digest, e) in
    ap (λ k. drop k (text ++ digest)) front ∙ drop-append_seam text digest
