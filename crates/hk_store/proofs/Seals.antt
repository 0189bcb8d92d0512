-- Texts with their trailers.
use Rattle.std.proofs.Common.{◌≡◌, refl, sym, ap, ◌∙◌, subst, arith, ℕ, ◌<◌, ◌≤◌, ◌-◌, true, false, ◌++◌, length, length-append, length-take, take, drop, take-append-drop}
use Rattle.std.specs.Prelude.{bytes_eq}
use Rattle.sha2.specs.Sha256.{sha256}
use Rattle.sha2.proofs.Facts256.{length-sha256}
use Rattle.hk_base.specs.Bytes.{Bytes}
use Rattle.hk_base.specs.Ties.{bytes-same, bytes-self}
use Rattle.hk_store.specs.StoreText.{sealed}
use Rattle.hk_store.proofs.Numerals.{false-true}
use Rattle.hk_store.proofs.Telling.{same-length}

pub too-short : (bytes text : Bytes) → length bytes < 32 → bytes ≡ sealed text → ⊥
too-short bytes text lt e = omega (arith, lt, ap length e, length-append text (sha256 text), length-sha256 text)

module _ (bytes text trailer : Bytes) (front : text ≡ take (length bytes - 32) bytes) (back : trailer ≡ drop (length bytes - 32) bytes) where
  whole : bytes ≡ text ++ trailer
  whole = sym (take-append-drop (length bytes - 32) bytes) ∙ (λ k. sym front k ++ sym back k)

  pub seal-whole : bytes_eq (sha256 text) trailer ≡ true → bytes ≡ sealed text
  seal-whole e = whole ∙ ap (λ t. text ++ t) (sym (bytes-same (sha256 text) trailer e))

  count : 32 ≤ length bytes → length text ≡ length bytes - 32
  count long = omega (arith, long, ap length front, length-take (length bytes - 32) bytes)

  -- no other text is sealed so
  pub seal-broken : 32 ≤ length bytes → bytes_eq (sha256 text) trailer ≡ false → (other : Bytes) → bytes ≡ sealed other → ⊥
  seal-broken long differs other e =
      let two = same-length text other (omega (arith, long, count long, ap length e, length-append other (sha256 other), length-sha256 other)) trailer (sha256 other) (sym whole ∙ e) in
      false-true (bytes_eq (sha256 text) trailer) differs (ap (bytes_eq (sha256 text)) (two.1 ∙ ap sha256 (sym two.0)) ∙ bytes-self (sha256 text))
