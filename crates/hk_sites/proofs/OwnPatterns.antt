-- A deed that is proper, whatever texts stand past the last pattern of a plan, uses patterns of the plan alone.
use Rattle.std.proofs.Common.{◌≡◌, ℕ, ◌<◌, true, false, cond, List, [], ◌∷◌, Option, Some, None, Result, Ok, Err, nat_lt, ltb-true, refl}
use Rattle.std.specs.List.{AllByRecursion}
use Rattle.hk_base.specs.Bytes.{Bytes}
use Rattle.hk_base.specs.Identifier.{Ident}
use Rattle.hk_chain.specs.declared.page.Page.{Page}
use Rattle.hk_fix.specs.Deed.{Deed, returns, refuses, asking, matching, saving, answers, traits_of, ask_for, save_as, interpret, IsProper}
use Rattle.hk_fix.specs.Pages.{Pages, lacking, all_pages}
use Rattle.hk_fix.specs.Run.{patterns_of}
use Rattle.hk_fix.specs.Table.{Table, resolve}
use Rattle.hk_fix.specs.Task.{Task, Mark, Run, run, answered}

-- a table with other texts of its patterns
abbrev pub with_texts : Table → (ℕ → Bytes) → Table
with_texts table texts =
    record {
      layout = table.layout;
      find = table.find;
      traits = table.traits;
      pair = table.pair;
      key = table.key;
      number = table.number;
      pattern = texts;
      matches = table.matches;
    }

-- the texts of so many patterns, and another one past them
abbrev pub texts_and : (ℕ → Bytes) → ℕ → Bytes → ℕ → Bytes
texts_and texts limit other n = cond (nat_lt n limit) (texts n) other

module _ (texts : ℕ → Bytes) (limit : ℕ) (n : ℕ) (by : Bytes) where
  -- a number whose text is the same with two texts past the last pattern is that of a pattern
  is-below : texts_and texts limit [] n ≡ by → texts_and texts limit (0 ∷ []) n ≡ by → n < limit
  is-below =
      elim (nat_lt n limit) as (λ b. nat_lt n limit ≡ b → cond b (texts n) [] ≡ by → cond b (texts n) (0 ∷ []) ≡ by → n < limit) [
        | true ↦ λ t e f. ltb-true n limit t
        | false ↦ λ t e f. cc
      ] refl

abbrev pub AreBelow : ℕ → List Mark → Type 0
AreBelow limit log = AllByRecursion (λ n. n < limit) (patterns_of log)

module _ (limit : ℕ) (k : Pages) {A : Type 0} where
  abbrev RunsBelow : Task A → Type 0
  RunsBelow t = AreBelow limit (run t k).log

  answered-below : (ps lacks : List ℕ) (f : List Page → Run A) → ((xs : List Page) → AreBelow limit (f xs).log) → (o : Option (List Page)) → AreBelow limit (answered ps lacks f o).log
  answered-below ps lacks f h None = tt
  answered-below ps lacks f h (Some xs) = h xs

  asked-below : (r : Result (List ℕ) _) (f : List Page → Task A) → ((xs : List Page) → RunsBelow (f xs)) → RunsBelow (ask_for r f)
  asked-below (Err fault) f h = tt
  asked-below (Ok []) f h = h []
  asked-below (Ok (p ∷ ps)) f h = answered-below (p ∷ ps) (lacking k (p ∷ ps)) (λ xs. run (f xs) k) h (all_pages k (p ∷ ps))

  saved-below : (o : Option ℕ) (x : Page) (t : Task A) → RunsBelow t → RunsBelow (save_as o x t)
  saved-below None x t h = h
  saved-below (Some p) x t h = h

module _ (table : Table) (own : Ident) (texts : ℕ → Bytes) (limit : ℕ) (k : Pages) where
  abbrev past : Bytes → Table
  past other = with_texts table (texts_and texts limit other)

  pub deed-below : {A : Type 0} (names : List Bytes) (d : Deed A) → IsProper (past []) names d → IsProper (past (0 ∷ [])) names d → AreBelow limit (run (interpret table own d) k).log
  deed-below names (returns x) a b = tt
  deed-below names (refuses e) a b = tt
  deed-below names (asking keys f) a b =
      asked-below limit k (resolve table keys) (λ xs. interpret table own (f (answers xs (traits_of table keys))))
      (λ xs. deed-below names (f (answers xs (traits_of table keys))) (a.1 (answers xs (traits_of table keys))) (b.1 (answers xs (traits_of table keys))))
  deed-below names (matching by f) a b = (is-below texts limit (table.number by) by a.0 b.0, deed-below names (f (table.matches by)) a.1 b.1)
  deed-below [] (saving name x d) a b = absurd a
  deed-below (own_name ∷ names) (saving name x d) a b = saved-below limit k (table.pair (record { id = own; name = name })) x (interpret table own d) (deed-below names d a.1 b.1)
