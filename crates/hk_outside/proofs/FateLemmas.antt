-- What follows from the fate of a call.
use Rattle.std.proofs.Common.{◌≡◌, ◌≢◌, ℕ, ◌≤◌, length, take, min, Err, refl, sym, subst, rules, arith}
use Rattle.std.proofs.lemmas.List.{take_min}
use Rattle.hk_base.specs.Bytes.{Bytes}
use Rattle.hk_outside.specs.Mem.{Fated, untorn}
use Rattle.hk_outside.specs.declared.failures.Fate.{Fate}
use Rattle.hk_outside.specs.declared.failures.Fate.TheVariants.{Works, Fails, Tears}
use Rattle.hk_outside.specs.declared.tree.TreeFault.TheVariants.{Failed}

-- a fault answers where the fate is not that the call works
pub Fated-failed : (A : Type 0) (fate : Fate) → fate ≢ Works → Fated {A = A} fate (Err Failed)
Fated-failed A Works other = absurd (other refl)
Fated-failed A Fails other = search rules
Fated-failed A (Tears count) other = search rules

pub Fated-not-Works : (A : Type 0) {found fate : Fate} → found ≡ fate → found ≢ Works → Fated {A = A} fate (Err Failed)
Fated-not-Works A same other = subst (λ f. Fated {A = A} f (Err Failed)) same (Fated-failed A _ other)

-- a front is so many first bytes
pub front : (count : ℕ) (bytes : Bytes) → (n : ℕ) × (n ≤ length bytes) × (take count bytes ≡ take n bytes)
front count bytes = (min count (length bytes), omega arith, sym (take_min count bytes))

Fated-untorn : (A : Type 0) (fate : Fate) → fate ≢ Works → Fated {A = A} (untorn fate) (Err Failed)
Fated-untorn A Works other = absurd (other refl)
Fated-untorn A Fails other = search rules
Fated-untorn A (Tears count) other = search rules

-- the same of a call that writes nothing
pub Untorn-not-Works : (A : Type 0) {fate fate' : Fate} → fate ≡ fate' → fate ≢ Works → Fated {A = A} (untorn fate') (Err Failed)
Untorn-not-Works A same other = subst (λ f. Fated {A = A} (untorn f) (Err Failed)) same (Fated-untorn A _ other)
