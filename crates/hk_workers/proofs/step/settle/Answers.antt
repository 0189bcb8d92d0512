use Rattle.hk_workers.proofs.Steps.{settled, save-below, answered}
use Rattle.hk_workers.proofs.step.settle.Goals as goal

pub save-requires : goal.save-requires
save-requires g c =
    save-below g.M.Compiler.run g.M.Compiler.shape g.M.Compiler.meaning c.lawful_board.ensures c.lawful_polls.ensures _ _ _ _ _ (c.admits.ensures.0 c.if-not-admits.false) c.requires.board (rw c.in-Saved.is at c.requires.polled)

pub returns-in-Saved-clause-board : goal.returns-in-Saved-clause-board
returns-in-Saved-clause-board g c =
    settled g.M.Compiler.run g.M.Compiler.shape g.M.Compiler.meaning c.lawful_board.ensures c.lawful_polls.ensures _ c.args.board.now c.save.new.self _ (g.M.Compiler.meaning c.args.machine)
    (λ key is l may. rw c.save.ensures ((c.lawful_board.ensures key is).saves c.args.board.now c.in-Saved.pair c.in-Saved.page l may).1) (c.admits.ensures.0 c.if-not-admits.false) c.requires.board (rw c.in-Saved.is at c.requires.polled)

pub returns-in-Value-clause-next : goal.returns-in-Value-clause-next
returns-in-Value-clause-next g c =
    answered g.M.Compiler.run g.M.Compiler.shape g.M.Compiler.meaning c.lawful_board.ensures c.lawful_polls.ensures _ c.args.board.now (g.M.Compiler.meaning c.args.machine) _ c.in-Value.ensures.0 c.in-Value.ensures.1 (c.admits.ensures.0 c.if-not-admits.false) c.requires.board (rw c.in-Ask.is at c.requires.polled)

pub returns-in-Done-clause-board : goal.returns-in-Done-clause-board
returns-in-Done-clause-board g c =
    settled g.M.Compiler.run g.M.Compiler.shape g.M.Compiler.meaning c.lawful_board.ensures c.lawful_polls.ensures _ c.args.board.now c.finish.new.self _ (g.M.Compiler.meaning c.args.machine)
    (λ key is l may. rw (c.finish.ensures, c.item.ensures) ((c.lawful_board.ensures key is).finishes c.args.board.now _ c.in-Done.page c.in-Done.facts l may)) (c.admits.ensures.0 c.if-not-admits.false) c.requires.board (rw c.in-Done.is at c.requires.polled)

pub returns-in-Failed-clause-board : goal.returns-in-Failed-clause-board
returns-in-Failed-clause-board g c =
    settled g.M.Compiler.run g.M.Compiler.shape g.M.Compiler.meaning c.lawful_board.ensures c.lawful_polls.ensures _ c.args.board.now c.fail.new.self _ (g.M.Compiler.meaning c.args.machine)
    (λ key is l may. rw (c.fail.ensures, c.item-in-Failed.ensures) ((c.lawful_board.ensures key is).fails c.args.board.now _ c.in-Failed.fault l may)) (c.admits.ensures.0 c.if-not-admits.false) c.requires.board (rw c.in-Failed.is at c.requires.polled)
