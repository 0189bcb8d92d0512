use Rattle.std.proofs.Common.{◌≡◌, sym, ap, ◌∙◌, arith, ◌-◌, length, map}
use Rattle.hk_chain.specs.declared.page.Kind.TheVariants as kinds
use Rattle.hk_chain.specs.declared.page.Page.{Page}
use Rattle.hk_store.specs.Marks.{mark_view}
use Rattle.hk_store.specs.declared.entry.MarkRecord.{MarkRecord}
use Rattle.hk_reuse.specs.Entries.{last_page, page_of_mark, blank_page}
use Rattle.hk_replay.proofs.Matching.{last-mark, no-marks, not-save, if-ok}
use Rattle.hk_replay.proofs.numbering.finished_page.Goals as goal
use Rattle.hk_replay.proofs.numbering.finished_page.Goals.{then-count-gt0+in_default, else-count-gt0}

pub returns-in-Save : goal.returns-in-Save
returns-in-Save c =
    let marks = c.args.marks.now in
    let last : last_page (map mark_view marks) ≡ c.in-Save.save.page = last-mark marks (length marks - 1) c.index-marks-count.result (omega (arith, c.if-count-gt0.true)) c.index-marks-count.is ∙ ap (λ (m : MarkRecord). page_of_mark (mark_view m)) c.in-Save.is in
    if-ok c.try_clone.result (λ s. s ≡ c.in-Save.save.page) (λ s. s ≡ last_page (map mark_view marks)) (λ s e. e ∙ sym last) c.try_clone.ensures

pub returns : goal.returns
returns c =
    let marks = c.args.marks.now in
    let body = c.in_ok-body.ensures in
    let last : last_page (map mark_view marks) ≡ blank_page = elim c.if-count-gt0.branch as (λ x. last_page (map mark_view marks) ≡ blank_page) [
      | then-count-gt0+in_default w ↦ last-mark marks (length marks - 1) w.index-marks-count.result (omega (arith, w.if-count-gt0.true)) w.index-marks-count.is ∙ not-save w.index-marks-count.result w.in_default.not-Save
      | else-count-gt0 w ↦ no-marks marks (omega (arith, w.if-count-gt0.false))
    ] in
    if-ok c.new.result (λ s. s ≡ (let p : Page = record { kind = kinds.Text; body = c.in_ok-body.body } in p)) (λ s. s ≡ last_page (map mark_view marks)) (λ s e. e ∙ ((λ i. (let p : Page = record { kind = kinds.Text; body = body i } in p)) ∙ sym last)) c.new.ensures
