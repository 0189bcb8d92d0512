use Rattle.std.proofs.Common.{subst}
use Rattle.hk_build.specs.Reported.{IsReported}
use Rattle.hk_reuse.specs.Entries.{entries_in}
use Rattle.hk_app.proofs.finishing.settle.Goals as goal

pub write-requires-clause-all : goal.write-requires-clause-all
write-requires-clause-all g c =
    let over = entries_in c.args.taken.now.stored in
    subst (IsReported c.args.plan.now over) c.in-None.is (c.in_ok-text.ensures over c.requires.built.results)
