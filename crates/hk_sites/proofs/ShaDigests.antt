-- A digest by SHA-256 has 32 bytes.
use Rattle.std.proofs.Common.{ℕ, zero, suc, ◌<◌, List, [], ◌∷◌, arith}
use Rattle.std.specs.Prelude.{slice_index}
use Rattle.std.specs.Int.{to_be_bytes, w32}
use Rattle.std.specs.List.{AllByRecursion}
use Rattle.hk_base.specs.Bytes.{Bytes}
use Rattle.hk_rules_file.proofs.LinkedNumbers.{all-append}
use Rattle.hk_store.specs.Stored.{IsDigest}
use Rattle.hk_store.specs.Traits.{sha_digests}
use Rattle.hk_sites.specs.Rebuilding.{HasDigests}
use Rattle.sha2.proofs.Facts256.{length-sha256}
use Rattle.sha2.specs.Sha256.{digest_bytes, final_hash, initial_hash_256, sha256}

abbrev IsByte : ℕ → Type 0
IsByte byte = byte < 256

word-bytes : (word : ℕ) → AllByRecursion IsByte (to_be_bytes w32 word)
word-bytes word = (omega arith, (omega arith, (omega arith, (omega arith, tt))))

words-bytes : (words : List ℕ) (n : ℕ) → AllByRecursion IsByte (digest_bytes words n)
unfolding digest_bytes
words-bytes words zero = tt
words-bytes words (suc n) = all-append IsByte (digest_bytes words n) (to_be_bytes w32 (slice_index words n)) (words-bytes words n) (word-bytes (slice_index words n))

pub sha-bytes : (text : Bytes) → AllByRecursion (λ byte. byte < 256) (sha256 text)
unfolding sha256
sha-bytes text = words-bytes (final_hash initial_hash_256 text) 8

each-byte : (bytes : Bytes) → AllByRecursion IsByte bytes → (i : ℕ) → slice_index bytes i < 256
each-byte [] all i = omega arith
each-byte (b ∷ bytes) all zero = all.0
each-byte (b ∷ bytes) all (suc i) = each-byte bytes all.1 i

sha-digest : (text : Bytes) → IsDigest (sha256 text)
sha-digest text = (length-sha256 text, each-byte (sha256 text) (sha-bytes text))

pub sha-sound : HasDigests sha_digests
unfolding sha_digests
sha-sound = record { text = sha-digest; page = λ page. sha-digest _; traits = λ traits. sha-digest _ }
