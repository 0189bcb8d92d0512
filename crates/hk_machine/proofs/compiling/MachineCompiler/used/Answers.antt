use Rattle.std.proofs.Common.{sym, subst, List, ℕ}
use Rattle.hk_fix.specs.Calls.{Lists}
use Rattle.hk_machine.specs.Machine.{MachineView, view_of, plan_run, meaning_of}
use Rattle.hk_machine.proofs.Using.{used-lists}
use Rattle.hk_machine.proofs.compiling.MachineCompiler.used.Goals as goal

pub returns : goal.returns
returns c =
    let m = c.self.inside in
    subst (λ (v : MachineView). Lists plan_run (meaning_of v) c.as_slice.result.now) c.self.view_is (subst (λ (l : List ℕ). Lists plan_run (meaning_of (view_of m.plan m.item m.way m.is_spent)) l) (sym c.as_slice.ensures.value) (used-lists m.plan m.item m.way m.is_spent c.self.invariant.4))
