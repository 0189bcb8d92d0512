use Rattle.std.proofs.Common.{rules}
use Rattle.hk_outside.proofs.HeldLemmas.{SameBut-insert}
use Rattle.hk_outside.proofs.mem_tree.MemTreeTree.write.Goals as goal

pub returns-in_ok-put-in-Tears-clause-changes : goal.returns-in_ok-put-in-Tears-clause-changes
returns-in_ok-put-in-Tears-clause-changes c = record {
  told = search rules;
  done_on_ok = search rules;
  torn = λ _. rw (c.in_ok-put-in-Tears.ensures, ← c.self.view_is) (SameBut-insert _ _ _);
  kept = search rules;
}
