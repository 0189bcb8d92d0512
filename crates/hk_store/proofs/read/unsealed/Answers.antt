use Rattle.std.proofs.Common.{sym, arith}
use Rattle.hk_store.proofs.Seals.{too-short, seal-whole, seal-broken}
use Rattle.hk_store.proofs.read.unsealed.Goals as goal

pub returns-then-bytes-lt32 : goal.returns-then-bytes-lt32
returns-then-bytes-lt32 c text e = too-short c.args.bytes.now text c.if-bytes-lt32.true e

pub returns-then-is_trailer : goal.returns-then-is_trailer
returns-then-is_trailer c = seal-whole c.args.bytes.now c.split_at.result.0.now c.split_at.result.1.now c.split_at.ensures.front c.split_at.ensures.back (sym c.if-is_trailer.ensures)

pub returns-else-is_trailer : goal.returns-else-is_trailer
returns-else-is_trailer c = seal-broken c.args.bytes.now c.split_at.result.0.now c.split_at.result.1.now c.split_at.ensures.front c.split_at.ensures.back (omega (arith, c.if-bytes-lt32.false)) (sym c.if-is_trailer.ensures)
