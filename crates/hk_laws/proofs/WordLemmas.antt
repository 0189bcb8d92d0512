-- A word at the front of a text, as a test and as a fact.
use Rattle.std.proofs.Common.{◌≡◌, true, nat_eq, ◌++◌, length, take, drop, sym, ap, ◌∙◌, Decides}
use Rattle.std.specs.List.{starts_with}
use Rattle.std.proofs.lemmas.List.{take-append-drop}
use Rattle.std.proofs.lemmas.Slice.Eq.{bytes_eq-Decides}
use Rattle.std.proofs.Math.Seq.{take-append_seam}
use Rattle.hk_base.specs.Bytes.{Bytes}
use Rattle.hk_laws.specs.Runs.{BeginsWith}

word_at : (word text : Bytes) → starts_with nat_eq text word ≡ true → BeginsWith word text
word_at word text e =
    let same : word ≡ take (length word) text = (bytes_eq-Decides word (take (length word) text)).0 e in
    record { rest = drop (length word) text; spelled = sym (take-append-drop (length word) text) ∙ ap (λ (t : Bytes). t ++ drop (length word) text) (sym same) }

at_word : (word text : Bytes) → BeginsWith word text → starts_with nat_eq text word ≡ true
at_word word text begins = (bytes_eq-Decides word (take (length word) text)).1 (sym (ap (take (length word)) begins.spelled ∙ take-append_seam word begins.rest))

pub tells_word : (word text : Bytes) → Decides (starts_with nat_eq text word) (BeginsWith word text)
tells_word word text = (word_at word text, at_word word text)
