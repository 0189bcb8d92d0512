use Rattle.std.proofs.Common.{map}
use Rattle.std.specs.Prelude.{string_bytes}
use Rattle.hk_app.proofs.Crews.{build-workers}
use Rattle.hk_app.proofs.pool.has_workers.Goals as goal

pub returns : goal.returns
returns c = build-workers (map (λ w. string_bytes w) c.args.words.now) c.args.options c.requires
