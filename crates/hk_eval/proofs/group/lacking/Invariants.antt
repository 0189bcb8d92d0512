use Rattle.std.proofs.Common.{◌≡◌, take}
use Rattle.hk_fix.specs.Pages.{lacking}
use Rattle.hk_eval.specs.Told.{told_pages}
use Rattle.hk_eval.proofs.group.lacking.Given as goal

abbrev pub invariant-loop-pair : goal.invariant-loop-pair
invariant-loop-pair l = l.lacks.items ≡ lacking (told_pages l.told) (take l.pair-index l.pairs)
