-- What reading a store answers.
use Rattle.std.specs.Prelude.{◌≡◌, ℕ, ◌+◌, List, ◌++◌, length, Result, Ok, Err}
use Rattle.hk_base.specs.Bytes.{Bytes}
use Rattle.hk_base.specs.declared.refusal.Refusal.{Refusal}
use Rattle.hk_base.specs.declared.refusal.Refusal.TheVariants.{Fault, NoMemory}
use Rattle.hk_store.specs.Entry.{EntryView}
use Rattle.hk_store.specs.Stored.{AreHeld, IsStored}
use Rattle.hk_store.specs.StoreReading.{a_store}
use Rattle.hk_store.specs.StoreText.{store_text, old_line, sealed}
use Rattle.hk_store.specs.declared.damage.StoreDamage.{StoreDamage}
use Rattle.hk_store.specs.declared.damage.StoreDamage.TheVariants.{BadTrailer, BadShape, OldVersion}

-- these entries, of which the bytes are the text with its trailer, or why there are none
abbrev pub IsRead : Bytes → Result (List EntryView) StoreDamage → Type 0
IsRead bytes (Ok entries) = AreHeld entries × (IsStored entries × (bytes ≡ sealed (store_text entries)))
IsRead bytes (Err BadTrailer) = (text : Bytes) → bytes ≡ sealed text → ⊥
IsRead bytes (Err OldVersion) = (rest : Bytes) × (bytes ≡ sealed (old_line ++ rest))
IsRead bytes (Err (BadShape place)) =
    (text : Bytes) × (bytes ≡ sealed text) × ((rest : Bytes) → text ≡ old_line ++ rest → ⊥) × ((left : ℕ) × a_store text (Err left) × (place + left ≡ length text))

-- an answer of which this holds, or want of memory
abbrev pub Answers : (Result (List EntryView) StoreDamage → Type 0) → Result (List EntryView) (Refusal StoreDamage) → Type 0
Answers Is (Ok entries) = Is (Ok entries)
Answers Is (Err (Fault damage)) = Is (Err damage)
Answers Is (Err NoMemory) = Unit {0}
