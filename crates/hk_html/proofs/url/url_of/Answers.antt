use Rattle.std.proofs.Common.{arith}
use Rattle.hk_html.proofs.UrlLemmas.{percent_encode_is}
use Rattle.hk_html.proofs.url.url_of.Goals as goal

pub returns : goal.returns
returns c =
    let same = percent_encode_is c.args.target.now (λ i within. omega (arith, c.type_inv.target i)) in
    rw (
      c.from_vec.ensures,
      c.into_bytes.ensures.value,
      c.in_ok-append_to.ensures.ok,
      c.percent_encode.ensures.text,
      c.in_ok-push.ensures.bytes,
      c.new-url.ensures.bytes,
      c.push.ensures.ascii (omega arith),
      same,
    )
