-- A text without a dollar sign is one run.
use Rattle.hk_template.proofs.Ends.{run_none}
use Rattle.hk_template.proofs.cut.run_length.Goals as goal

pub returns-in-None-clause-value : goal.returns-in-None-clause-value
returns-in-None-clause-value c = run_none c.args.bytes.now c.in-None.ensures.value
