-- What is taken of a store that was read.
use Rattle.std.proofs.Common.{◌≡◌, List, [], sym, subst, Result, Ok, Err, IfOk}
use Rattle.std.specs.List.Sorted.{IsStrictlySortedBy}
use Rattle.hk_store.specs.Entry.{EntryView}
use Rattle.hk_store.specs.Stored.{IsStored}

no-entry : IsStored []
unfolding IsStrictlySortedBy
no-entry = record { order = tt; each = tt }

pub none-stored : (entries : List EntryView) → entries ≡ [] → IsStored entries
none-stored entries e = subst IsStored (sym e) no-entry

pub ok-map : {A E : Type 0} (P Q : A → Type 0) → ((x : A) → P x → Q x) → (r : Result A E) → IfOk r P → IfOk r Q
ok-map P Q f (Ok x) h = f x h
ok-map P Q f (Err e) h = tt
