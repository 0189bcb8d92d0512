use Rattle.std.proofs.Common.{refl, Some}
use Rattle.hk_eval.proofs.Telling.{named, tell-pages, kept-listed}
use Rattle.hk_eval.proofs.told.Told.answer.Goals as goal

pub returns-clause-pages : goal.returns-clause-pages
returns-clause-pages c = tell-pages c.args.self.now c.insert.new.self.entries c.args.pair (Some c.args.page) (named c.self.inside.pages.entries c.args.self.now c.insert.new.self.entries c.pair.inside.0 c.args.pair (Some c.args.page) c.self.view_is c.pair.view_is c.in-Ok.ensures.updates.0) c.args.page refl

pub returns-clause-kept : goal.returns-clause-kept
returns-clause-kept c = kept-listed c.args.self.now c.insert.new.self.entries c.args.pair (Some c.args.page) (named c.self.inside.pages.entries c.args.self.now c.insert.new.self.entries c.pair.inside.0 c.args.pair (Some c.args.page) c.self.view_is c.pair.view_is c.in-Ok.ensures.updates.0)
