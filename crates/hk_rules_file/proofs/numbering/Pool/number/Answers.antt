use Rattle.std.proofs.Common.{◌∙◌, ◌∷◌, [], ◌++◌, length, ap, sym}
use Rattle.hk_rules_file.specs.Numbering.{place_of, texts_of}
use Rattle.hk_rules_file.proofs.Places.{places-turn, texts_of-last, texts_of-length}
use Rattle.hk_rules_file.proofs.numbering.Pool.number.Goals as goal

pub invariant_of-result : goal.invariant_of-result
invariant_of-result c = λ text.
    let before = c.self.inside.patterns.items in
    let absent = sym (c.in_default.ensures.value ∙ c.self.invariant c.in_ok-text.text) in
    let count = c.in_ok-number.ensures ∙ ap length c.as_slice.ensures.value ∙ texts_of-length before in
    let held = c.self.invariant text in
    let list = ap (λ t. texts_of before ++ t ∷ []) c.in_ok-text.ensures ∙ sym (texts_of-last before c.args.pattern) ∙ ap texts_of (sym c.in_ok-push.ensures.items) in
    places-turn (texts_of before) c.in_ok-text.text text c.in_ok-number.number _ _ count absent held (c.in_ok-insert.ensures.updates.0 text) ∙ ap (place_of text) list
