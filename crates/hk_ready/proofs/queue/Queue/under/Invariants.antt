use Rattle.hk_ready.specs.View.{first_view, spent_view}
use Rattle.hk_ready.proofs.queue.Queue.under.Given as goal

abbrev pub ghosts-name : goal.ghosts-name
ghosts-name g a = record { left = λ v. first_view a.key.now.value; right = λ v. spent_view }
