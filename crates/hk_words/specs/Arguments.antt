-- What the words after the command's name say.
use Rattle.std.specs.Prelude.{◌≡◌, ℕ, Bool, true, false, List, [], ◌∷◌, Option, Some, None, option_map, option_and_then}
use Rattle.hk_base.specs.Bytes.{Bytes}
use Rattle.hk_words.specs.declared.arguments.Arguments.{Arguments}
use Rattle.hk_words.specs.declared.arguments.Operands.{Operands}
use Rattle.hk_words.specs.Given.{Given}
use Rattle.hk_words.specs.Numbers.{number_in}

-- `--workers` at most once, with a number from 1 to 64
abbrev pub workers_in : List Bytes → Option (Option ℕ)
workers_in [] = Some None
workers_in (value ∷ []) = option_map Some (number_in 1 64 value)
workers_in _ = None

-- `--trace` at most once
abbrev pub trace_in : List Bytes → Option Bool
trace_in [] = Some false
trace_in (word ∷ []) = Some true
trace_in _ = None

abbrev pub operands : ℕ → ℕ → Operands
operands number count = record { number = number; count = count }

-- no operand, or two: any number of 32 bits, and one from 1 to 20,000
abbrev pub operands_in : List Bytes → Option (Option Operands)
operands_in [] = Some None
operands_in (number ∷ count ∷ []) = option_and_then (λ n. option_map (λ c. Some (operands n c)) (number_in 1 20000 count)) (number_in 0 4294967295 number)
operands_in _ = None

abbrev pub arguments : Option ℕ → Bool → Option Operands → Arguments
arguments workers trace operands = record { workers = workers; trace = trace; operands = operands }

-- all that is given, if each part of it is well formed
abbrev pub arguments_in : Given → Option Arguments
arguments_in g = option_and_then (λ w. option_and_then (λ t. option_map (arguments w t) (operands_in g.operands)) (trace_in g.traces)) (workers_in g.workers)

-- no command takes what is given
abbrev pub Refused : Given → Type 0
Refused g = arguments_in g ≡ None
