use Rattle.std.proofs.lemmas.Result.{IfOk-weaker}
use Rattle.hk_fix.specs.Fix.{seeds_of}
use Rattle.hk_sched.specs.Lawful.{IsRunOf}
use Rattle.hk_sched.proofs.Works.{key-is}
use Rattle.hk_sched.proofs.run.run_one.Goals as goal

pub finish-requires-clause-lawful : goal.finish-requires-clause-lawful
finish-requires-clause-lawful g c =
    let d = g.K.Maker.common_is c.args.maker.now in
    let is = key-is g.K.M.Compiler.shape g.K.M.Compiler.run d c.args.layout c.args.kept c.requires.layout (c.laws.ensures.shaped d (c.made.ensures c.args.maker.now)) (c.laws.ensures.lawful d (c.made.ensures c.args.maker.now)) (c.kept_are_seeds.ensures c.args.layout c.args.kept c.requires.kept) in
    (_, is, rw (c.in_ok-board.ensures, c.in_ok-common.ensures) ((c.lawful_board.ensures _ is).opens c.requires.kept))

pub returns : goal.returns
returns g c =
    let d = g.K.Maker.common_is c.args.maker.now in
    let is = key-is g.K.M.Compiler.shape g.K.M.Compiler.run d c.args.layout c.args.kept c.requires.layout (c.laws.ensures.shaped d (c.made.ensures c.args.maker.now)) (c.laws.ensures.lawful d (c.made.ensures c.args.maker.now)) (c.kept_are_seeds.ensures c.args.layout c.args.kept c.requires.kept) in
    IfOk-weaker c.finish.result _ (λ r. IsRunOf c.args.layout (g.K.M.Compiler.run d) (seeds_of c.args.kept) r) (λ r run. run _ is (rw (c.in_ok-board.ensures, c.in_ok-common.ensures) ((c.lawful_board.ensures _ is).opens c.requires.kept))) c.finish.ensures
