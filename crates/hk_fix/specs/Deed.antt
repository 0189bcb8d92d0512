-- What a compiler does, whatever the numbers of a plan: it asks for pages by their keys and for the items that a pattern
-- matches, saves pages under names, and gives something or fails. Under the numbers of a plan it is a task.
use Rattle.std.specs.Prelude.{◌≡◌, ℕ, List, [], ◌∷◌, map, Option, Some, None, is_some, true, Result, Ok, Err}
use Rattle.std.specs.List.{IsDistinct}
use Rattle.hk_base.specs.Bytes.{Bytes}
use Rattle.hk_base.specs.Identifier.{Ident}
use Rattle.hk_chain.specs.declared.page.Page.{Page}
use Rattle.hk_chain.specs.declared.fault.Fault.{Fault}
use Rattle.hk_fix.specs.Task.{Task, gives, fails, asks, notes, used, saved}
use Rattle.hk_fix.specs.Table.{Key, same_key, Traits, no_traits, Table, resolve}

-- an asked page comes with the traits of its item
pub record Answer : Type 0 where
  pub page : Page
  pub traits : Traits

pub data Deed (A : Type 0) : Type 0 where
  returns : A → Deed A
  refuses : Fault → Deed A
  asking : List Key → (List Answer → Deed A) → Deed A
  matching : Bytes → (List Ident → Deed A) → Deed A
  saving : Bytes → Page → Deed A → Deed A

-- one after the other
infixl 10 ◌then◌
abbrev pub ◌then◌ : {A B : Type 0} → Deed A → (A → Deed B) → Deed B
returns x then f = f x
refuses e then f = refuses e
asking keys g then f = asking keys (λ xs. g xs then f)
matching by g then f = matching by (λ ids. g ids then f)
saving name x d then f = saving name x (d then f)

-- no page is left out, so that the pages of the answers are those that were given
abbrev pub answers : List Page → List Traits → List Answer
answers [] ts = []
answers (x ∷ xs) [] = record { page = x; traits = no_traits } ∷ answers xs []
answers (x ∷ xs) (t ∷ ts) = record { page = x; traits = t } ∷ answers xs ts

abbrev pub traits_of : Table → List Key → List Traits
traits_of table keys = map (λ key. table.traits key.id) keys

-- a group without pairs asks for nothing
abbrev pub ask_for : {A : Type 0} → Result (List ℕ) Fault → (List Page → Task A) → Task A
ask_for (Err fault) f = fails fault
ask_for (Ok []) f = f []
ask_for (Ok (p ∷ ps)) f = asks (p ∷ ps) f

abbrev pub save_as : {A : Type 0} → Option ℕ → Page → Task A → Task A
save_as None x t = t
save_as (Some p) x t = notes (saved p x) t

-- the task of a deed that is done for an item of a plan
abbrev pub interpret : {A : Type 0} → Table → Ident → Deed A → Task A
interpret table own (returns x) = gives x
interpret table own (refuses e) = fails e
interpret table own (asking keys f) = ask_for (resolve table keys) (λ xs. interpret table own (f (answers xs (traits_of table keys))))
interpret table own (matching by f) = notes (used (table.number by)) (interpret table own (f (table.matches by)))
interpret table own (saving name x d) = save_as (table.pair (record { id = own; name = name })) x (interpret table own d)

-- a pattern has the number of its text
abbrev pub IsNumber : Table → Bytes → Type 0
IsNumber table by = table.pattern (table.number by) ≡ by

-- a page of the item's own has a pair
abbrev pub HasPair : Table → Ident → Bytes → Type 0
HasPair table own name = is_some (table.pair (record { id = own; name = name })) ≡ true

-- each pattern of a deed is one of the plan's, and each page that it saves has a pair
abbrev pub IsNamed : {A : Type 0} → Table → Ident → Deed A → Type 0
IsNamed table own (returns x) = Unit {0}
IsNamed table own (refuses e) = Unit {0}
IsNamed table own (asking keys f) = (xs : List Answer) → IsNamed table own (f xs)
IsNamed table own (matching by f) = IsNumber table by × IsNamed table own (f (table.matches by))
IsNamed table own (saving name x d) = HasPair table own name × IsNamed table own d

abbrev pub NoName : List Bytes → Type 0
NoName [] = Unit {0}
NoName (name ∷ names) = ⊥

abbrev pub NextName : Bytes → List Bytes → (List Bytes → Type 0) → Type 0
NextName name [] P = ⊥
NextName name (own ∷ names) P = (name ≡ own) × P names

-- no group of a deed has a page twice, its patterns are the plan's, and it saves under exactly these names in order,
-- where it goes through
abbrev pub IsProper : {A : Type 0} → Table → List Bytes → Deed A → Type 0
IsProper table names (returns x) = NoName names
IsProper table names (refuses e) = Unit {0}
IsProper table names (asking keys f) = IsDistinct same_key keys × ((xs : List Answer) → IsProper table names (f xs))
IsProper table names (matching by f) = IsNumber table by × IsProper table names (f (table.matches by))
IsProper table names (saving name x d) = NextName name names (λ rest. IsProper table rest d)

-- the same of a deed that saves nothing, and Q holds of what it returns
abbrev pub IsQuiet : {A : Type 0} → Table → (A → Type 0) → Deed A → Type 0
IsQuiet table Q (returns x) = Q x
IsQuiet table Q (refuses e) = Unit {0}
IsQuiet table Q (asking keys f) = IsDistinct same_key keys × ((xs : List Answer) → IsQuiet table Q (f xs))
IsQuiet table Q (matching by f) = IsNumber table by × IsQuiet table Q (f (table.matches by))
IsQuiet table Q (saving name x d) = ⊥
