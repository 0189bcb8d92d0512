-- What stands at the beginning of bytes.
use Rattle.std.specs.Prelude.{◌≡◌, List, ◌++◌, Option, Some, None, Result, Ok, Err, bytes_eq}
use Rattle.std.specs.BTreeSet.{BTreeSet, contains}
use Rattle.std.specs.Cmp.Lexicographic.{slice_cmp}
use Rattle.std.specs.List.{list_any}
use Rattle.std.specs.Ordering.{nat_cmp}
use Rattle.hk_base.specs.Bytes.{Bytes}
use Rattle.hk_fix.specs.Table.{Key, same_key}
use Rattle.hk_forms.specs.PatternText.{str, ident_text}
use Rattle.hk_store.specs.Reading.{Outcome}
use Rattle.hk_store.specs.declared.halt.Halt.{Halt}
use Rattle.hk_store.specs.declared.halt.Halt.TheVariants.{Memory, Broken}

-- the text of a thing that fits, with what follows it, or of none
abbrev pub Finds : {A : Type 0} → (A → Bytes) → (A → Type 0) → Bytes → Option (A × Bytes) → Type 0
Finds text Fits bytes (Some z) = Fits z.0 × (bytes ≡ text z.0 ++ z.1)
Finds {A} text Fits bytes None = (x : A) (rest : Bytes) → Fits x → bytes ≡ text x ++ rest → ⊥

-- what reading gives, as it is seen, or want of memory
abbrev pub Gives : {A X : Type 0} → (Bytes → Outcome A → Type 0) → Bytes → (X → A × Bytes) → Result X Halt → Type 0
Gives form bytes view (Ok x) = form bytes (Ok (view x))
Gives form bytes view (Err (Broken left)) = form bytes (Err left)
Gives form bytes view (Err Memory) = Unit {0}

-- a set has the texts of these keys
abbrev pub key_text : Key → Bytes
key_text key = ident_text key.id ++ str key.name

abbrev pub HasKeys : BTreeSet Bytes → List Key → Type 0
HasKeys set keys = (key : Key) → contains (slice_cmp nat_cmp) set (key_text key) ≡ list_any (same_key key) keys

abbrev pub HasNames : BTreeSet Bytes → List Bytes → Type 0
HasNames set names = (name : Bytes) → contains (slice_cmp nat_cmp) set name ≡ list_any (bytes_eq name) names
