-- The words after the command's name, sorted.
use Rattle.std.specs.Prelude.{◌==◌, if◌then◌else◌, List, [], ◌∷◌, Option, Some, None, bytes_eq, codes}
use Rattle.hk_base.specs.Bytes.{Bytes}

-- the values of `--workers`, each `--trace`, and all other words
pub record Given : Type 0 where
  pub workers : List Bytes
  pub traces : List Bytes
  pub operands : List Bytes

abbrev pub nothing : Given
nothing = record { workers = []; traces = []; operands = [] }

-- what follows this beginning
abbrev pub after : Bytes → Bytes → Option Bytes
after [] word = Some word
after (b ∷ bs) [] = None
after (b ∷ bs) (x ∷ xs) = if b == x then after bs xs else None

abbrev pub with_workers : Bytes → Given → Given
with_workers value g = record g { workers = value ∷ g.workers }

abbrev pub with_operand : Bytes → Given → Given
with_operand word g = record g { operands = word ∷ g.operands }

abbrev pub with_attached : Option Bytes → Bytes → Given → Given
with_attached (Some value) word g = with_workers value g
with_attached None word g = with_operand word g

-- a word by itself
abbrev pub with_word : Bytes → Given → Given
with_word word g = if bytes_eq word (codes "--trace") then record g { traces = word ∷ g.traces } else with_attached (after (codes "--workers=") word) word g

-- the value of `--workers` is the next word, or what follows `=`
abbrev pub given : List Bytes → Given
given [] = nothing
given (word ∷ []) = with_word word nothing
given (word ∷ next ∷ rest) = if bytes_eq word (codes "--workers") then with_workers next (given rest) else with_word word (given (next ∷ rest))
