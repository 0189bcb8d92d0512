use Rattle.std.proofs.Common.{sym, ap, ◌∙◌, subst}
use Rattle.hk_fix.specs.Results.{ResultsView}
use Rattle.hk_sched.specs.Board.{BoardView, NoneReady, results_of}
use Rattle.hk_sched.specs.Lawful.{sown, IsRunOf}
use Rattle.hk_sched.proofs.Completes.{is-run_of}
use Rattle.hk_sched.proofs.Playing.{can-start, can-play, played-less}
use Rattle.hk_sched.proofs.finishing.finish.Goals as goal

pub close-requires-clause-ready : goal.close-requires-clause-ready
close-requires-clause-ready g c =
    let none = rw c.in_default.is at c.in_ok-turn.ensures in
    subst (λ (b : BoardView g.row.K-M.Denot g.row.K-M-Common.Denot). NoneReady g.K.M.Compiler.meaning b) (sym none.2) none.0

pub close-requires-clause-out : goal.close-requires-clause-out
close-requires-clause-out g c = (let none = rw c.in_default.is at c.in_ok-turn.ensures in rw none.2 none.1)

pub returns-in_default : goal.returns-in_default
returns-in_default g c = λ key is l0.
    let none = rw c.in_default.is at c.in_ok-turn.ensures in
    subst (λ (r : ResultsView). IsRunOf key.lay (g.K.M.Compiler.run key.common) (sown key) r)
    (sym (c.close.ensures ∙ ap (λ (b : BoardView g.row.K-M.Denot g.row.K-M-Common.Denot). results_of g.K.M.Compiler.meaning b) none.2))
    (is-run_of g.K.M.Compiler.meaning g.K.M.Compiler.shape g.K.M.Compiler.run key is c.loop-board.board (c.loop-board.invariant key is l0) none.0 none.1)

pub start-requires : goal.start-requires
start-requires g c =
    let key = c.requires.lawful.0 in
    let is = c.requires.lawful.1 in
    can-start g.K.M.Compiler.meaning g.K.M.Compiler.shape g.K.M.Compiler.run key is (g.K.Maker.common_is c.args.maker.now) c.args.board c.loop-board.board c.take_any.new.board c.in-Some.turn c.requires.lawful.2 c.requires.common
    (c.loop-board.invariant key is c.requires.lawful.2) (rw c.in-Some.is at c.in_ok-turn.ensures)

pub play-requires : goal.play-requires
play-requires g c =
    let key = c.requires.lawful.0 in
    let is = c.requires.lawful.1 in
    let w = can-play g.K.M.Compiler.meaning g.K.M.Compiler.shape g.K.M.Compiler.run key is (g.K.Maker.common_is c.args.maker.now) c.args.board c.loop-board.board c.take_any.new.board c.in-Some.turn c.requires.lawful.2 c.requires.common
    (c.loop-board.invariant key is c.requires.lawful.2) (rw c.in-Some.is at c.in_ok-turn.ensures) (g.K.M.Compiler.meaning c.in_ok-machine.machine) c.in_ok-machine.ensures in
    (key, is, w.0, w.1)

pub loop-board-smaller : goal.loop-board-smaller
loop-board-smaller g c =
    let key = c.requires.lawful.0 in
    let is = c.requires.lawful.1 in
    let w = can-play g.K.M.Compiler.meaning g.K.M.Compiler.shape g.K.M.Compiler.run key is (g.K.Maker.common_is c.args.maker.now) c.args.board c.loop-board.board c.take_any.new.board c.in-Some.turn c.requires.lawful.2 c.requires.common
    (c.loop-board.invariant key is c.requires.lawful.2) (rw c.in-Some.is at c.in_ok-turn.ensures) (g.K.M.Compiler.meaning c.in_ok-machine.machine) c.in_ok-machine.ensures in
    played-less g.K.M.Compiler.meaning g.K.M.Compiler.shape g.K.M.Compiler.run key is (g.K.Maker.common_is c.args.maker.now) c.args.board c.loop-board.board c.take_any.new.board c.in-Some.turn c.requires.lawful.2 c.requires.common
    (c.loop-board.invariant key is c.requires.lawful.2) (rw c.in-Some.is at c.in_ok-turn.ensures) (g.K.M.Compiler.meaning c.in_ok-machine.machine) c.in_ok-machine.ensures c.play.new.board (c.in_ok-play.ensures key is w.0 w.1)

pub loop-board-preserved : goal.loop-board-preserved
loop-board-preserved g c = λ key is l0.
    let w = can-play g.K.M.Compiler.meaning g.K.M.Compiler.shape g.K.M.Compiler.run key is (g.K.Maker.common_is c.args.maker.now) c.args.board c.loop-board.board c.take_any.new.board c.in-Some.turn l0 c.requires.common
    (c.loop-board.invariant key is l0) (rw c.in-Some.is at c.in_ok-turn.ensures) (g.K.M.Compiler.meaning c.in_ok-machine.machine) c.in_ok-machine.ensures in
    (c.in_ok-play.ensures key is w.0 w.1).lawful
