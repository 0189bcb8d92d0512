-- What a run used, read from its log.
use Rattle.std.specs.Prelude.{ℕ, Bool, cond, List, [], ◌∷◌, ◌++◌, nat_eq}
use Rattle.std.specs.List.{list_any}
use Rattle.hk_chain.specs.declared.page.Page.{Page}
use Rattle.hk_chain.specs.Facts.{FactsView, TraceMark, group, save}
use Rattle.hk_chain.specs.Layout.{Shape, final_of}
use Rattle.hk_fix.specs.Task.{used, saved, Mark, asked, note, End, done, fault, waits, Run}
use Rattle.hk_fix.specs.Run.{asks_of, patterns_of}

abbrev pub is_in : List ℕ → ℕ → Bool
is_in xs n = list_any (nat_eq n) xs

-- each number once, at the place of its first use; `seen` were used before
abbrev pub firsts : List ℕ → List ℕ → List ℕ
firsts seen [] = []
firsts seen (n ∷ ns) = cond (is_in seen n) (firsts seen ns) (n ∷ firsts (n ∷ seen) ns)

abbrev pub group_first : List ℕ → List TraceMark → List TraceMark
group_first [] rest = rest
group_first (p ∷ ps) rest = group (p ∷ ps) ∷ rest

-- the groups and saves of a log in their order: each group without the pairs that were asked for before, and left out
-- where none remains, and each save once at its first place
abbrev pub trace_of : List ℕ → List ℕ → List Mark → List TraceMark
trace_of seen kept [] = []
trace_of seen kept (asked ps ∷ log) = group_first (firsts seen ps) (trace_of (ps ++ seen) kept log)
trace_of seen kept (note (used n) ∷ log) = trace_of seen kept log
trace_of seen kept (note (saved p x) ∷ log) = cond (is_in kept p) (trace_of seen kept log) (save p ∷ trace_of seen (p ∷ kept) log)

abbrev pub facts_of : List Mark → FactsView
facts_of log =
    record {
      asks = firsts [] (asks_of log);
      patterns = firsts [] (patterns_of log);
      trace = trace_of [] [] log;
    }

abbrev pub final_mark : ℕ → End Page → List Mark
final_mark p (done x) = note (saved p x) ∷ []
final_mark p (fault e) = []
final_mark p (waits ps) = []

-- the log of an item's run, with the save of the finished page
abbrev pub whole_log : Shape → ℕ → Run Page → List Mark
whole_log lay i r = r.log ++ final_mark (final_of lay i) r.end
