use Rattle.std.proofs.Common.{sym, subst, List, ℕ}
use Rattle.hk_fix.specs.Calls.{Lists}
use Rattle.hk_replay.specs.Keeping.{ReplayView, over_run, meaning_of, view_of}
use Rattle.hk_replay.proofs.Answering.{used-lists}
use Rattle.hk_replay.proofs.replay.ReplayCompiler.used.Goals as goal

pub returns : goal.returns
returns g c =
    let r = c.self.inside in
    let meaning = g.M.Compiler.meaning in
    let run = g.M.Compiler.run in
    subst (λ (v : ReplayView g.row.M.Denot). Lists (over_run run) (meaning_of meaning v) c.as_slice.result.now) c.self.view_is (subst (λ (l : List ℕ). Lists (over_run run) (meaning_of meaning (view_of r.records r.way r.is_spent)) l) (sym c.as_slice.ensures.value) (used-lists meaning run r.records r.way r.is_spent c.self.invariant.used))
