-- What was read, and what is left, make the whole tree.
use Rattle.std.proofs.Common.{◌≡◌, ◌≤◌, ◌-◌, length}
use Rattle.hk_template.specs.Growing.{read_tree}
use Rattle.hk_template.specs.ParserViews.{waiting_view}
use Rattle.hk_template.proofs.Rests.{grown_rest}
use Rattle.hk_template.proofs.reader.grow.Given as goal

-- what is left from here on gives the tree of the whole text
abbrev pub invariant-loop-rest : goal.invariant-loop-rest
invariant-loop-rest l = (length l.rest ≤ length l.text) × (grown_rest (length l.text - length l.rest) (waiting_view l.reader) l.rest ≡ read_tree l.text)

abbrev pub decreases-loop-rest : goal.decreases-loop-rest
decreases-loop-rest l = length l.rest
