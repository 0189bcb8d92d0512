use Rattle.std.proofs.Common.{rules, ◌<◌, sym, subst}
use Rattle.hk_chain.specs.Layout.{pairs}
use Rattle.hk_fix.specs.Meaning.{Meaning}
use Rattle.hk_sched.proofs.Fuels.{fuel_at}
use Rattle.hk_sched.proofs.Playing.{at-first, dropped, saved, saved-below, saved-smaller, asks-within, answered, answered-smaller, parked, done, failed}
use Rattle.hk_sched.proofs.finishing.play.Goals as goal

pub loop-machine-init : goal.loop-machine-init
loop-machine-init g c = λ key is l may. at-first g.M.Compiler.meaning g.M.Compiler.shape g.M.Compiler.run key is c.args.board.now (g.M.Compiler.meaning c.args.first) l may

pub poll-requires-clause-closed : goal.poll-requires-clause-closed
poll-requires-clause-closed g c = (c.loop-machine.invariant c.requires.0 c.requires.1 c.requires.2 c.requires.3).may.closed

pub poll-requires-clause-going : goal.poll-requires-clause-going
poll-requires-clause-going g c = (c.loop-machine.invariant c.requires.0 c.requires.1 c.requires.2 c.requires.3).may.going

pub returns-then-not-admits : goal.returns-then-not-admits
returns-then-not-admits g c = λ key is l0 may0.
    dropped g.M.Compiler.meaning g.M.Compiler.shape g.M.Compiler.run key is c.args.board.now (g.M.Compiler.meaning c.args.first) c.loop-machine.board (g.M.Compiler.meaning c.loop-machine.machine) (c.loop-machine.invariant key is l0 may0)
    c.in_ok-polled.polled (g.M.Compiler.meaning c.poll.new.self) c.in_ok-polled.ensures.1 (λ a. search rules)

pub save-requires : goal.save-requires
save-requires g c =
    let polled = rw c.in-Saved.is at c.in_ok-polled.ensures.1 in
    saved-below g.M.Compiler.meaning g.M.Compiler.shape g.M.Compiler.run c.requires.0 c.requires.1 c.args.board.now (g.M.Compiler.meaning c.args.first) c.loop-machine.board (g.M.Compiler.meaning c.loop-machine.machine) (c.loop-machine.invariant c.requires.0 c.requires.1 c.requires.2 c.requires.3)
    c.in-Saved.pair c.in-Saved.page (g.M.Compiler.meaning c.poll.new.self) polled (c.admits.ensures.0 c.if-not-admits.false)

pub loop-machine-smaller-in-Saved : goal.loop-machine-smaller-in-Saved
loop-machine-smaller-in-Saved g c =
    let polled = rw c.in-Saved.is at c.in_ok-polled.ensures.1 in
    saved-smaller g.M.Compiler.meaning g.M.Compiler.shape g.M.Compiler.run c.requires.0 c.requires.1 c.args.board.now (g.M.Compiler.meaning c.args.first) c.loop-machine.board (g.M.Compiler.meaning c.loop-machine.machine) (c.loop-machine.invariant c.requires.0 c.requires.1 c.requires.2 c.requires.3)
    c.in-Saved.pair c.in-Saved.page (g.M.Compiler.meaning c.poll.new.self) polled (c.admits.ensures.0 c.if-not-admits.false)

pub loop-machine-preserved-in-Saved : goal.loop-machine-preserved-in-Saved
loop-machine-preserved-in-Saved g c = λ key is l0 may0.
    let polled = rw c.in-Saved.is at c.in_ok-polled.ensures.1 in
    rw c.save.ensures
    (saved g.M.Compiler.meaning g.M.Compiler.shape g.M.Compiler.run key is c.args.board.now (g.M.Compiler.meaning c.args.first) c.loop-machine.board (g.M.Compiler.meaning c.loop-machine.machine) (c.loop-machine.invariant key is l0 may0)
    c.in-Saved.pair c.in-Saved.page (g.M.Compiler.meaning c.poll.new.self) polled (c.admits.ensures.0 c.if-not-admits.false))

pub ask-requires-clause-pairs : goal.ask-requires-clause-pairs
ask-requires-clause-pairs g c =
    let polled = rw c.in-Ask.is at c.in_ok-polled.ensures.1 in
    asks-within g.M.Compiler.meaning g.M.Compiler.shape g.M.Compiler.run c.requires.0 c.requires.1 c.args.board.now (g.M.Compiler.meaning c.args.first) c.loop-machine.board (g.M.Compiler.meaning c.loop-machine.machine) (c.loop-machine.invariant c.requires.0 c.requires.1 c.requires.2 c.requires.3)
    (g.M.Compiler.meaning c.poll.new.self) polled (c.admits.ensures.0 c.if-not-admits.false)

pub loop-machine-smaller : goal.loop-machine-smaller
loop-machine-smaller g c =
    let polled = rw c.in-Ask.is at c.in_ok-polled.ensures.1 in
    subst (λ (n : Meaning g.row.M-Common.Denot). fuel_at (pairs (g.M.Compiler.shape n.common)) n.told n.given < fuel_at (pairs (g.M.Compiler.shape (g.M.Compiler.meaning c.loop-machine.machine).common)) (g.M.Compiler.meaning c.loop-machine.machine).told (g.M.Compiler.meaning c.loop-machine.machine).given) (sym c.in-Value.ensures.1)
    (answered-smaller g.M.Compiler.meaning g.M.Compiler.shape g.M.Compiler.run c.requires.0 c.requires.1 c.args.board.now (g.M.Compiler.meaning c.args.first) c.loop-machine.board (g.M.Compiler.meaning c.loop-machine.machine) (c.loop-machine.invariant c.requires.0 c.requires.1 c.requires.2 c.requires.3)
    (g.M.Compiler.meaning c.poll.new.self) polled (c.admits.ensures.0 c.if-not-admits.false) c.in-Value.ensures.0)

pub loop-machine-preserved : goal.loop-machine-preserved
loop-machine-preserved g c = λ key is l0 may0.
    let polled = rw c.in-Ask.is at c.in_ok-polled.ensures.1 in
    rw (c.in-Value.ensures.2, c.in-Value.ensures.1)
    (answered g.M.Compiler.meaning g.M.Compiler.shape g.M.Compiler.run key is c.args.board.now (g.M.Compiler.meaning c.args.first) c.loop-machine.board (g.M.Compiler.meaning c.loop-machine.machine) (c.loop-machine.invariant key is l0 may0)
    (g.M.Compiler.meaning c.poll.new.self) polled (c.admits.ensures.0 c.if-not-admits.false) c.in-Value.ensures.0)

pub returns-in-Parked : goal.returns-in-Parked
returns-in-Parked g c = λ key is l0 may0.
    let polled = rw c.in-Ask.is at c.in_ok-polled.ensures.1 in
    rw c.in-Parked.ensures.1
    (parked g.M.Compiler.meaning g.M.Compiler.shape g.M.Compiler.run key is c.args.board.now (g.M.Compiler.meaning c.args.first) c.loop-machine.board (g.M.Compiler.meaning c.loop-machine.machine) (c.loop-machine.invariant key is l0 may0)
    c.poll.new.self polled (c.admits.ensures.0 c.if-not-admits.false) c.in-Parked.ensures.0)

pub returns-in-Done : goal.returns-in-Done
returns-in-Done g c = λ key is l0 may0.
    let polled = rw c.in-Done.is at c.in_ok-polled.ensures.1 in
    rw (c.finish.ensures, c.item.ensures)
    (done g.M.Compiler.meaning g.M.Compiler.shape g.M.Compiler.run key is c.args.board.now (g.M.Compiler.meaning c.args.first) c.loop-machine.board (g.M.Compiler.meaning c.loop-machine.machine) (c.loop-machine.invariant key is l0 may0)
    c.in-Done.page c.in-Done.facts (g.M.Compiler.meaning c.poll.new.self) polled (c.admits.ensures.0 c.if-not-admits.false))

pub returns-in-Failed : goal.returns-in-Failed
returns-in-Failed g c = λ key is l0 may0.
    let polled = rw c.in-Failed.is at c.in_ok-polled.ensures.1 in
    rw (c.fail.ensures, c.item-in-Failed.ensures)
    (failed g.M.Compiler.meaning g.M.Compiler.shape g.M.Compiler.run key is c.args.board.now (g.M.Compiler.meaning c.args.first) c.loop-machine.board (g.M.Compiler.meaning c.loop-machine.machine) (c.loop-machine.invariant key is l0 may0)
    c.in-Failed.fault (g.M.Compiler.meaning c.poll.new.self) polled (c.admits.ensures.0 c.if-not-admits.false))
