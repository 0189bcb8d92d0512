use Rattle.std.proofs.Common.{refl, None}
use Rattle.hk_eval.proofs.Telling.{named, room-pages, kept-listed}
use Rattle.hk_eval.proofs.told.Told.list.Goals as goal

pub returns-clause-pages : goal.returns-clause-pages
returns-clause-pages c = room-pages c.args.self.now c.insert.new.self.entries c.args.pair None (named c.self.inside.pages.entries c.args.self.now c.insert.new.self.entries c.pair.inside.0 c.args.pair None c.self.view_is c.pair.view_is c.in_ok-insert.ensures.updates.0) refl c.requires

pub returns-clause-kept : goal.returns-clause-kept
returns-clause-kept c = kept-listed c.args.self.now c.insert.new.self.entries c.args.pair None (named c.self.inside.pages.entries c.args.self.now c.insert.new.self.entries c.pair.inside.0 c.args.pair None c.self.view_is c.pair.view_is c.in_ok-insert.ensures.updates.0)
