use Rattle.std.proofs.Common.{◌≡◌, ◌≤◌, [], drop}
use Rattle.toml.specs.View.{items_view}
use Rattle.hk_rules_file.specs.PagesForm.{pages_from}
use Rattle.hk_rules_file.proofs.pages_form.pages_from.Given as goal

-- the rest, from the tables so far, gives what all gives
abbrev pub invariant-loop-item : goal.invariant-loop-item
invariant-loop-item l =
    (l.number ≤ 65)
    × (pages_from l.names (items_view (drop l.item-index l.items)) l.number l.pool l.tables ≡ pages_from l.names (items_view l.items) 1 l.fn.pool [])
