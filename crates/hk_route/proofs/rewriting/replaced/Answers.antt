-- An occurrence is replaced.
use Rattle.std.proofs.Common.{sym, ◌∙◌, arith}
use Rattle.hk_route.proofs.Replacing.{replaced-one}
use Rattle.hk_route.proofs.rewriting.replaced.Goals as goal

pub loop-rest-preserved-then-occurs : goal.loop-rest-preserved-then-occurs
loop-rest-preserved-then-occurs c =
    replaced-one c.args.old.now c.args.new.now c.loop-rest.bytes.items _ c.loop-rest.rest.now _ (omega (arith, c.in-len1-up.len_at_least)) (sym c.occurs.ensures.value ∙ c.if-occurs.true) (c.occurs.ensures.some c.if-occurs.true) c.in_ok-extend_from_slice.ensures.items c.split_at.ensures.back
    ∙ c.loop-rest.invariant
