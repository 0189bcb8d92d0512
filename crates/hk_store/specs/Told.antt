-- Texts that tell what they were written of, whatever follows them.
use Rattle.std.specs.Prelude.{◌≡◌, ℕ, ◌<◌, ◌^◌, List, [], ◌++◌, length, get_or}
use Rattle.std.specs.List.{flat_map}
use Rattle.hk_base.specs.Bytes.{Bytes}
use Rattle.hk_forms.specs.PatternText.{num, str}

-- what a number may be, and how long a text in memory
abbrev pub Small : ℕ → Type 0
Small n = n < 2 ^ 64

abbrev pub Short : Bytes → Type 0
Short bytes = Small (length bytes)

-- of the things for which D holds, the text of x begins that of no other, and what follows it is told as well
abbrev pub Told : {A : Type 0} → (A → Type 0) → (A → Bytes) → A → Type 0
Told {A} D print x = (y : A) → D x → D y → (r s : Bytes) → Short (print x ++ r) → print x ++ r ≡ print y ++ s → (x ≡ y) × (r ≡ s)

-- what holds of all
abbrev pub Any : {A : Type 0} → A → Type 0
Any x = Unit {0}

-- a list: its count on a line, and each of its members
abbrev pub many : {A : Type 0} → (A → Bytes) → List A → Bytes
many print xs = num (length xs) ++ flat_map print xs

-- one thing and another
abbrev pub both : {A B : Type 0} → (A → Bytes) → (B → Bytes) → A × B → Bytes
both p q z = p z.0 ++ q z.1

abbrev pub Both : {A B : Type 0} → (A → Type 0) → (B → Type 0) → A × B → Type 0
Both D E z = D z.0 × E z.1

-- one of several kinds of things: the word of its kind, and the parts that things of that kind have
abbrev pub kinds : {P : ℕ → Type 0} → List Bytes → ((t : ℕ) → P t → Bytes) → ((t : ℕ) × P t) → Bytes
kinds words parts z = str (get_or words z.0 []) ++ parts z.0 z.1

abbrev pub Kind : {P : ℕ → Type 0} → List Bytes → ((t : ℕ) → P t → Type 0) → ((t : ℕ) × P t) → Type 0
Kind words D z = (z.0 < length words) × D z.0 z.1
