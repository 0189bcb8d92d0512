use Rattle.std.proofs.Common.{◌-◌, ◌∙◌, ap, arith, drop, length, take_all}
use Rattle.std.proofs.lemmas.List.{length-drop}
use Rattle.hk_links.proofs.value.after_scheme.Goals as goal

pub returns : goal.returns
returns c =
    let value = c.args.value.now in
    let count = c.scheme_len.result in
    take_all (length value - count) (drop count value) (omega (arith, length-drop count value)) ∙ ap (λ n. drop n value) c.scheme_len.ensures.value
