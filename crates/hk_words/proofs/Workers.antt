-- The numbers of the command that words are.
use Rattle.std.proofs.Common.{◌≡◌, sym, subst, refl, arith, ℕ, ◌<◌, ◌≤◌, Bool, true, false, List, [], ◌∷◌, Option, Some, None, IfSome, if◌then◌else◌, codes}
use Rattle.std.specs.Prelude.{is_none, option_map, option_and_then, bytes_eq}
use Rattle.std.specs.Str.Parse.{digits_value}
use Rattle.std.proofs.lemmas.Bool.{and_parts, leb-true}
use Rattle.hk_base.specs.Bytes.{Bytes}
use Rattle.hk_words.specs.declared.arguments.Arguments.{Arguments}
use Rattle.hk_words.specs.declared.arguments.Operands.{Operands}
use Rattle.hk_words.specs.declared.commands.Command.{Command}
use Rattle.hk_words.specs.declared.commands.BuildOptions.{BuildOptions}
use Rattle.hk_words.specs.declared.commands.GenerateOptions.{GenerateOptions}
use Rattle.hk_words.specs.declared.commands.Command.TheVariants.{Build, Rebuild, Check, Deps, Clean, Generate, Links}
use Rattle.hk_words.specs.Arguments.{arguments, arguments_in, operands, operands_in, trace_in, workers_in}
use Rattle.hk_words.specs.Given.{Given, given}
use Rattle.hk_words.specs.Numbers.{is_number_in, number_in}
use Rattle.hk_words.specs.Words.{IsCrew, HasWorkers, HasCount, workers_or_one, is_nothing, alone, build_options, generate_options, generating, named, command_of, command}

abbrev IsWithin : ℕ → ℕ → ℕ → Type 0
IsWithin least most n = (least ≤ n) × (n ≤ most)

number-within : (least most : ℕ) (text : Bytes) → IfSome (number_in least most text) (IsWithin least most)
number-within least most text = by (is_number_in least most text) refl
  where
    by : (b : Bool) → is_number_in least most text ≡ b → IfSome (if b then Some (digits_value 10 text) else None) (IsWithin least most)
    by false e = tt
    by true e =
        let parts = and_parts _ _ e in
        let low = and_parts _ _ parts.0 in
        (leb-true least (digits_value 10 text) low.1, leb-true (digits_value 10 text) most parts.1)

abbrev AreWorkers : Option ℕ → Type 0
AreWorkers w = IfSome w (IsWithin 1 64)

workers-within : (values : List Bytes) → IfSome (workers_in values) AreWorkers
workers-within [] = tt
workers-within (value ∷ []) = by (number_in 1 64 value) (number-within 1 64 value)
  where
    by : (o : Option ℕ) → IfSome o (IsWithin 1 64) → IfSome (option_map Some o) AreWorkers
    by None h = tt
    by (Some n) h = h
workers-within (value ∷ other ∷ values) = tt

abbrev AreOperands : Option Operands → Type 0
AreOperands o = IfSome o (λ p. IsWithin 1 20000 p.count)

operands-within : (words : List Bytes) → IfSome (operands_in words) AreOperands
operands-within [] = tt
operands-within (number ∷ []) = tt
operands-within (number ∷ count ∷ []) = by (number_in 0 4294967295 number) (number_in 1 20000 count) (number-within 1 20000 count)
  where
    by : (n c : Option ℕ) → IfSome c (IsWithin 1 20000) → IfSome (option_and_then (λ x. option_map (λ y. Some (operands x y)) c) n) AreOperands
    by None c h = tt
    by (Some n) None h = tt
    by (Some n) (Some c) h = h
operands-within (number ∷ count ∷ other ∷ words) = tt

abbrev IsSized : Arguments → Type 0
IsSized a = AreWorkers a.workers × AreOperands a.operands

arguments-within : (g : Given) → IfSome (arguments_in g) IsSized
arguments-within g = by (workers_in g.workers) (workers-within g.workers)
  where
    last : (w : Option ℕ) (t : Bool) (o : Option (Option Operands)) → AreWorkers w → IfSome o AreOperands → IfSome (option_map (arguments w t) o) IsSized
    last w t None h k = tt
    last w t (Some p) h k = (h, k)

    next : (w : Option ℕ) (o : Option Bool) → AreWorkers w → IfSome (option_and_then (λ t. option_map (arguments w t) (operands_in g.operands)) o) IsSized
    next w None h = tt
    next w (Some t) h = last w t (operands_in g.operands) h (operands-within g.operands)

    by : (o : Option (Option ℕ)) → IfSome o AreWorkers → IfSome (option_and_then (λ w. option_and_then (λ t. option_map (arguments w t) (operands_in g.operands)) (trace_in g.traces)) o) IsSized
    by None h = tt
    by (Some w) h = next w (trace_in g.traces) h

one-or-more : (w : Option ℕ) → AreWorkers w → IsCrew (workers_or_one w)
one-or-more None h = (omega arith, omega arith)
one-or-more (Some n) h = (omega (arith, h.0), h.1)

-- the numbers of a command are within their bounds
abbrev Fits : Command → Type 0
Fits c = HasWorkers c × HasCount c

build-fits : (c : BuildOptions → Command) → ((o : BuildOptions) → IsCrew o.workers → Fits (c o)) → (a : Arguments) → IsSized a → IfSome (option_map c (build_options a)) Fits
build-fits c fits a h = by (is_none a.operands)
  where
    by : (b : Bool) → IfSome (option_map c (if b then Some (record { workers = workers_or_one a.workers; trace = a.trace }) else None)) Fits
    by true = fits _ (one-or-more a.workers h.0)
    by false = tt

generate-fits : (a : Arguments) → IsSized a → IfSome (option_map Generate (generate_options a)) Fits
generate-fits a h = by a.trace a.operands h.1
  where
    by : (b : Bool) (o : Option Operands) → AreOperands o → IfSome (option_map Generate (if b then None else option_map (generating a.workers) o)) Fits
    by true o k = tt
    by false None k = tt
    by false (Some p) k = (one-or-more a.workers h.0, (omega (arith, k.0), k.1))

alone-fits : (c : Command) → Fits c → (a : Arguments) → IfSome (alone c a) Fits
alone-fits c fits a = elim (is_nothing a) as (λ b. IfSome (if b then Some c else None) Fits) [ true ↦ fits | false ↦ tt ]

choose : (b : Bool) (x y : Option Command) → IfSome x Fits → IfSome y Fits → IfSome (if b then x else y) Fits
choose true x y h k = h
choose false x y h k = k

named-fits : (name : Bytes) (a : Arguments) → IsSized a → IfSome (named name a) Fits
named-fits name a h =
    choose (bytes_eq name (codes "build")) _ _ (build-fits Build (λ o w. (w, tt)) a h)
    (choose (bytes_eq name (codes "rebuild")) _ _ (build-fits Rebuild (λ o w. (w, tt)) a h)
    (choose (bytes_eq name (codes "check")) _ _ (alone-fits Check (tt, tt) a)
    (choose (bytes_eq name (codes "deps")) _ _ (alone-fits Deps (tt, tt) a)
    (choose (bytes_eq name (codes "clean")) _ _ (alone-fits Clean (tt, tt) a)
    (choose (bytes_eq name (codes "gen")) _ _ (generate-fits a h)
    (choose (bytes_eq name (codes "links")) _ None (alone-fits Links (tt, tt) a) tt))))))

command-fits : (name : Bytes) (rest : List Bytes) → IfSome (command_of name rest) Fits
command-fits name rest = by (arguments_in (given rest)) (arguments-within (given rest))
  where
    by : (o : Option Arguments) → IfSome o IsSized → IfSome (option_and_then (named name) o) Fits
    by None h = tt
    by (Some a) h = named-fits name a h

all-fit : (words : List Bytes) → IfSome (command words) Fits
all-fit [] = tt
all-fit (name ∷ rest) = command-fits name rest

-- the workers of the command that words are
pub command-workers : (words : List Bytes) (c : Command) → command words ≡ Some c → HasWorkers c
command-workers words c is = (subst (λ o. IfSome o Fits) is (all-fit words)).0

-- and how many posts it asks for
pub command-count : (words : List Bytes) (c : Command) → command words ≡ Some c → HasCount c
command-count words c is = (subst (λ o. IfSome o Fits) is (all-fit words)).1
