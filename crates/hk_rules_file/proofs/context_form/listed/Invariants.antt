use Rattle.std.proofs.Common.{◌≡◌, ◌++◌, Bool, true, false, List}
use Rattle.toml.specs.View.{members_view}
use Rattle.hk_rules_file.specs.ContextForm.{FileContext, written_in, with_built_in}
use Rattle.hk_rules_file.specs.FileEntries.{contexts_at}
use Rattle.hk_rules_file.proofs.context_form.listed.Given as goal

-- the contexts that come yet, with the one that is built in at its place if it waits
abbrev coming : Bool → List FileContext → List FileContext
coming true cs = with_built_in cs
coming false cs = cs

-- the contexts so far and those that come yet are all
abbrev pub invariant-loop-name : goal.invariant-loop-name
invariant-loop-name l =
    (goal.iterator-loop-name).can_next l.name-iterator × (goal.iterator-loop-name).is_finite l.name-iterator
    × (contexts_at l.entries.items ++ coming l.waits (written_in l.room (members_view l.name-iterator)) ≡ with_built_in (written_in 256 (members_view l.table.entries)))
