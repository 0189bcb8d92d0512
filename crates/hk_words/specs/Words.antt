-- Which command the words are.
use Rattle.std.specs.Prelude.{ℕ, ◌<◌, ◌≤◌, Bool, ◌&&◌, not, if◌then◌else◌, List, [], ◌∷◌, Option, Some, None, is_none, option_and_then, option_map, bytes_eq, codes}
use Rattle.hk_base.specs.Bytes.{Bytes}
use Rattle.hk_words.specs.declared.commands.BuildOptions.{BuildOptions}
use Rattle.hk_words.specs.declared.commands.GenerateOptions.{GenerateOptions}
use Rattle.hk_words.specs.declared.commands.Command.{Command}
use Rattle.hk_words.specs.declared.commands.Command.TheVariants.{Build, Rebuild, Check, Deps, Clean, Generate, Links}
use Rattle.hk_words.specs.declared.arguments.Arguments.{Arguments}
use Rattle.hk_words.specs.declared.arguments.Operands.{Operands}
use Rattle.hk_words.specs.Arguments.{arguments_in}
use Rattle.hk_words.specs.Given.{given}

abbrev pub is_nothing : Arguments → Bool
is_nothing a = is_none a.workers && not a.trace && is_none a.operands

-- one worker where none are asked for
abbrev pub workers_or_one : Option ℕ → ℕ
workers_or_one None = 1
workers_or_one (Some n) = n

-- a build takes `--workers` and `--trace`
abbrev pub build_options : Arguments → Option BuildOptions
build_options a = if is_none a.operands then Some (record { workers = workers_or_one a.workers; trace = a.trace }) else None

abbrev pub generating : Option ℕ → Operands → GenerateOptions
generating workers o = record { number = o.number; count = o.count; workers = workers_or_one workers }

-- `gen` takes two numbers and `--workers`
abbrev pub generate_options : Arguments → Option GenerateOptions
generate_options a = if a.trace then None else option_map (generating a.workers) a.operands

-- a command that takes no option and no operand
abbrev pub alone : Command → Arguments → Option Command
alone c a = if is_nothing a then Some c else None

-- the command of a name, if it takes the arguments
abbrev pub named : Bytes → Arguments → Option Command
named name a =
    if bytes_eq name (codes "build") then option_map Build (build_options a)
    else (if bytes_eq name (codes "rebuild") then option_map Rebuild (build_options a)
    else (if bytes_eq name (codes "check") then alone Check a
    else (if bytes_eq name (codes "deps") then alone Deps a
    else (if bytes_eq name (codes "clean") then alone Clean a
    else (if bytes_eq name (codes "gen") then option_map Generate (generate_options a)
    else (if bytes_eq name (codes "links") then alone Links a
    else None))))))

-- the command of a name with the words after it
abbrev pub command_of : Bytes → List Bytes → Option Command
command_of name rest = option_and_then (named name) (arguments_in (given rest))

-- the first word is the command's name, and all others follow it
abbrev pub command : List Bytes → Option Command
command [] = None
command (name ∷ rest) = command_of name rest

abbrev pub IsCrew : ℕ → Type 0
IsCrew workers = (0 < workers) × (workers ≤ 64)

-- the workers of a run number 1 to 64
abbrev pub HasWorkers : Command → Type 0
HasWorkers (Build o) = IsCrew o.workers
HasWorkers (Rebuild o) = IsCrew o.workers
HasWorkers Check = Unit {0}
HasWorkers Deps = Unit {0}
HasWorkers Clean = Unit {0}
HasWorkers (Generate o) = IsCrew o.workers
HasWorkers Links = Unit {0}

-- the posts of a generated site number 1 to 20,000
abbrev pub HasCount : Command → Type 0
HasCount (Generate o) = (0 < o.count) × (o.count ≤ 20000)
HasCount c = Unit {0}
