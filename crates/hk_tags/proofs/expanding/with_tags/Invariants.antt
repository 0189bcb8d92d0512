use Rattle.std.proofs.Common.{◌≡◌, ◌≤◌, length, drop}
use Rattle.hk_rules.specs.Plan.{lookups}
use Rattle.hk_tags.specs.Expanding.{with_tag_table}
use Rattle.hk_tags.specs.Turns.{in_turn}
use Rattle.hk_tags.proofs.expanding.with_tags.Given as goal

abbrev pub invariant-loop-table : goal.invariant-loop-table
invariant-loop-table l = record {
  value : in_turn (with_tag_table (lookups l.base)) l.tables l.fn.grown ≡ in_turn (with_tag_table (lookups l.base)) (drop l.table-index l.tables) l.grown;
  more : length l.fn.grown.growing.contexts ≤ length l.grown.growing.contexts;
}
