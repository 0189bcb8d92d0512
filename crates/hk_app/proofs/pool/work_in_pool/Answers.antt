use Rattle.hk_app.proofs.pool.work_in_pool.Goals as goal

pub returns-in-Ok-Some-Generate : goal.returns-in-Ok-Some-Generate
returns-in-Ok-Some-Generate g c = c.generate.ensures _
