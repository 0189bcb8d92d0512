use Rattle.std.proofs.Common.{arith, ◌≡◌, ◌<◌, ◌≤◌, ◌^◌, ℕ, length, ap, ◌∙◌, sym, vec_len, get_or}
use Rattle.hk_eval.proofs.Blocks.{part_past, part_here}
use Rattle.std.specs.Arc.{arc_value}
use Rattle.hk_eval.specs.declared.block.Block.{out-Block}
use Rattle.hk_eval.proofs.block.Block.part.Goals as goal

pub returns-then-at-len : goal.returns-then-at-len
returns-then-at-len c =
    let b = c.args.self.now in
    let v = arc_value (out-Block b).parts in
    let n : c.len.result ≡ length v.items = c.len.ensures ∙ (ap vec_len c.deref.ensures ∙ v.ok.0) in
    let h : c.args.at < length v.items = omega arith in
    let fits : length v.items < 2 ^ 64 = omega (arith, c.len.type_inv) in
    (omega arith, part_here b c.args.at c.index.result.now h (rw c.deref-then-at-len.ensures at c.index.ensures))

pub returns-else-at-len : goal.returns-else-at-len
returns-else-at-len c =
    let b = c.args.self.now in
    let v = arc_value (out-Block b).parts in
    let n : c.len.result ≡ length v.items = c.len.ensures ∙ (ap vec_len c.deref.ensures ∙ v.ok.0) in
    let h : length v.items ≤ c.args.at = omega arith in
    part_past b c.args.at h
