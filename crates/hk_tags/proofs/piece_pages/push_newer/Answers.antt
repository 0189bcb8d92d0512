use Rattle.hk_tags.proofs.Pieces.{newer-pushed}
use Rattle.hk_tags.proofs.piece_pages.push_newer.Goals as goal

pub returns : goal.returns
returns c = newer-pushed c.args.table.now c.args.number c.args.own.now.items c.push_own.new.own.items c.in_ok-path.path c.if-number-eq1.false c.in_ok-path.ensures c.in_ok-push_own.ensures
