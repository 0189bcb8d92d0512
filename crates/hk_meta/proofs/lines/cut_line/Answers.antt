use Rattle.std.proofs.Common.{◌≡◌, ◌-◌, ◌∷◌, ap, sym, ◌∙◌, arith, length, take, drop}
use Rattle.std.proofs.lemmas.List.{take_rest, length-drop}
use Rattle.hk_meta.specs.Lines.{all_lines, first_line}
use Rattle.hk_meta.proofs.FirstLine.{all_lines-first, line_text-first, length-first_line, next-le, next-some}
use Rattle.hk_meta.proofs.lines.cut_line.Goals as goal

pub returns-clause-lines : goal.returns-clause-lines
returns-clause-lines c =
    let text = c.args.text.now in
    all_lines-first text c.requires
    ∙ ap (λ n. first_line text ∷ all_lines (drop n text)) (sym c.next_line-line.ensures.next)
    ∙ ap (λ rest. first_line text ∷ all_lines rest) (sym (take_rest text c.next_line-line.result.next))

pub returns-clause-text : goal.returns-clause-text
returns-clause-text c =
    ap (λ n. take n c.args.text.now) c.next_line-line.ensures.end ∙ line_text-first c.args.text.now

pub returns-clause-size : goal.returns-clause-size
returns-clause-size c =
    let text = c.args.text.now in
    let next = c.next_line-line.result.next in
    let rest : length (take (length text - next) (drop next text)) ≡ length text - next = ap length (take_rest text next) ∙ length-drop next text in
    omega (arith, rest, length-first_line text, next-le text, c.next_line-line.ensures.next)

pub returns-clause-some : goal.returns-clause-some
returns-clause-some c = omega (arith, length-first_line c.args.text.now, next-some c.args.text.now c.requires)
