use Rattle.std.proofs.Common.{◌∙◌, arith}
use Rattle.hk_store.proofs.Finding.{digest-short, digest-cut, digest-whole}
use Rattle.hk_store.proofs.scan.digest_in.Goals as goal

pub returns-then-bytes-lt64 : goal.returns-then-bytes-lt64
returns-then-bytes-lt64 c d rest h e = absurd (omega (arith, c.if-bytes-lt64.true, digest-short d rest c.args.bytes.now h e))

pub returns-in_default : goal.returns-in_default
returns-in_default c d rest h e = c.in_default.ensures rest (c.split_at.ensures.back ∙ (digest-cut d rest c.args.bytes.now h e).1)

pub returns-in_default-digest_of : goal.returns-in_default-digest_of
returns-in_default-digest_of c d rest h e = c.in_default-digest_of.ensures.none d h (c.split_at.ensures.front ∙ (digest-cut d rest c.args.bytes.now h e).0)

pub returns : goal.returns
returns c =
    let digest = c.in-Some-digest_of.ensures.some in
    (digest.0, digest-whole c.split_at.result.0.now c.split_at.result.1.now c.in-Some-digest_of.digest c.in-Some.rest.now c.args.bytes.now c.split_at.ensures.front c.split_at.ensures.back digest.1 c.in-Some.ensures)
