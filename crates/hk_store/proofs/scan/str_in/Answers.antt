use Rattle.std.proofs.Common.{◌∙◌, inl, inr, ◌∷◌, arith, rules, ap, length, length-append}
use Rattle.hk_forms.specs.PatternText.{str}
use Rattle.hk_store.specs.Told.{Short}
use Rattle.hk_store.proofs.Finding.{str-cut, drop-cut}
use Rattle.hk_store.proofs.Telling.{length-str}
use Rattle.hk_store.proofs.scan.str_in.Goals as goal

pub returns-then-count-most-clause-found : goal.returns-then-count-most-clause-found
returns-then-count-most-clause-found c b r h e =
    let short : Short c.args.bytes.now = search rules in
    let cut = str-cut c.args.bytes.now c.in_ok-count.rest.now b r c.in_ok-count.count short c.in_ok-count.ensures.0 c.in_ok-count.ensures.1 e in
    let long = length-append b (10 ∷ r) in
    let whole = length-append (str b) r in
    elim c.then-count-most.either [
      | inl lt ↦ absurd (omega (arith, lt, cut.0, ap length e, whole, length-str b))
      | inr le ↦ absurd (omega (arith, le, cut.0, ap length cut.1, long))
    ]

pub returns-in_default-clause-found : goal.returns-in_default-clause-found
returns-in_default-clause-found c b r h e =
    let short : Short c.args.bytes.now = search rules in
    let cut = str-cut c.args.bytes.now c.in_ok-count.rest.now b r c.in_ok-count.count short c.in_ok-count.ensures.0 c.in_ok-count.ensures.1 e in
    c.in_default.ensures r (c.split_at.ensures.back ∙ drop-cut c.in_ok-count.rest.now b r c.in_ok-count.count cut.0 cut.1)
