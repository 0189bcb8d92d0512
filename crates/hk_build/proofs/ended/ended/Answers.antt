use Rattle.std.proofs.Common.{refl}
use Rattle.hk_build.proofs.Storing.{build-of, can-store, left-is_store}
use Rattle.hk_build.proofs.ended.ended.Goals as goal

pub bytes_left-requires-clause-results : goal.bytes_left-requires-clause-results
bytes_left-requires-clause-results c = can-store c.args.plan.now c.requires.replayed.1.made c.requires.replayed.0 c.requires.replayed.1.formed c.args.results c.requires.replayed.1.results

pub bytes_left-requires-clause-left : goal.bytes_left-requires-clause-left
bytes_left-requires-clause-left c = left-is_store c.args.plan.now c.requires.replayed.1.made c.requires.replayed.0 c.requires.replayed.1.formed c.args.results c.requires.replayed.1.results _ refl

pub returns : goal.returns
returns c = λ entries h. build-of c.args.plan.now h.made entries h.formed c.args.results h.results _ refl (c.in_ok-compiled.ensures entries h.numbered) _ refl c.in_ok-store.ensures
