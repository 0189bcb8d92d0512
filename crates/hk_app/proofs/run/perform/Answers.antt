use Rattle.hk_app.proofs.Endings.{same-task}
use Rattle.hk_app.proofs.run.perform.Goals as goal

pub returns-in-Check : goal.returns-in-Check
returns-in-Check g c = same-task _ _ _ _ c.check.result c.in-Check.is (c.check.ensures _ _)

pub returns-in-Deps : goal.returns-in-Deps
returns-in-Deps g c = same-task _ _ _ _ c.deps.result c.in-Deps.is (c.deps.ensures _ _)

pub returns-in-Clean : goal.returns-in-Clean
returns-in-Clean g c = same-task _ _ _ _ c.clean.result c.in-Clean.is (c.clean.ensures _)

pub returns-in-Generate : goal.returns-in-Generate
returns-in-Generate g c = same-task _ _ _ _ c.generate.result c.in-Generate.is (c.generate.ensures _)

pub returns-in-Links : goal.returns-in-Links
returns-in-Links g c = same-task _ _ _ _ c.links.result c.in-Links.is (c.links.ensures _ _)
