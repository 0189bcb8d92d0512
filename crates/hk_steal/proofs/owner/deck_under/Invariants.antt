use Rattle.hk_steal.specs.View.{keyed}
use Rattle.hk_steal.proofs.owner.deck_under.Given as goal

abbrev pub ghosts-name : goal.ghosts-name
ghosts-name g a = record { left = λ v. keyed a.key.now.value; right = λ v. keyed a.key.now.value }
