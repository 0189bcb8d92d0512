use Rattle.std.proofs.Common.{◌∙◌, sym}
use Rattle.hk_store.proofs.Finding.{num-cut, num-none}
use Rattle.hk_store.proofs.scan.num_in.Goals as goal

pub returns-in_default : goal.returns-in_default
returns-in_default c n rest small e = num-none c.args.bytes.now rest n (sym c.in_default.ensures.value) e

pub returns-in_default-behind : goal.returns-in_default-behind
returns-in_default-behind c n rest small e = c.in_default-behind.ensures rest (c.split_at.ensures.back ∙ (num-cut c.args.bytes.now rest n c.in-Some.end (sym c.in-Some.ensures.value) e).1)

pub returns-in_default-number_of : goal.returns-in_default-number_of
returns-in_default-number_of c n rest small e = c.in_default-number_of.ensures n small (c.split_at.ensures.front ∙ (num-cut c.args.bytes.now rest n c.in-Some.end (sym c.in-Some.ensures.value) e).0)
