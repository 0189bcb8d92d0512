use Rattle.hk_tags.proofs.Pieces.{older-pushed}
use Rattle.hk_tags.proofs.piece_pages.push_older.Goals as goal

pub returns-then-number-count : goal.returns-then-number-count
returns-then-number-count c = older-pushed c.args.table.now c.args.count c.args.number c.args.own.now.items c.push_own.new.own.items c.in_ok-path.path c.if-number-count.true c.in_ok-path.ensures c.in_ok-push_own.ensures
