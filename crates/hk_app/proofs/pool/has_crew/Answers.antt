use Rattle.std.proofs.Common.{map}
use Rattle.std.specs.Prelude.{string_bytes}
use Rattle.hk_words.specs.declared.commands.Command.TheVariants.{Generate}
use Rattle.hk_words.proofs.Workers.{command-workers}
use Rattle.hk_app.proofs.pool.has_crew.Goals as goal

pub returns : goal.returns
returns c = command-workers (map (λ w. string_bytes w) c.args.words.now) (Generate c.args.options) c.requires
