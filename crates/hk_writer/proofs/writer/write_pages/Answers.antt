use Rattle.std.proofs.Common.{◌≡◌, ◌+◌, ◌∷◌, [], cond, sym, ap, ◌∙◌, arith, refl, drop, Bool, ℕ}
use Rattle.std.proofs.lemmas.List.{drop_more}
use Rattle.std.proofs.lemmas.Result.{err_from_is_err_and}
use Rattle.hk_writer.specs.Pages.{page_of, pages_of}
use Rattle.hk_writer.specs.Writing.{writings, after}
use Rattle.hk_writer.proofs.Making.{making-stop, making-turn}
use Rattle.hk_writer.proofs.FolderWrites.{writings-front, counted-writing, ascends-tail, tally-small}
use Rattle.hk_writer.proofs.writer.write_pages.Goals as goal
use Rattle.hk_writer.proofs.writer.write_pages.Goals.{then-branch, else-branch}

pub returns-in_err-write_page-clause-makes : goal.returns-in_err-write_page-clause-makes
returns-in_err-write_page-clause-makes g c =
    let p = err_from_is_err_and c.from_residual.result c.from_residual.ensures.1 in
    let left = drop (c.loop-page.page-index + 1) c.args.pages.now in
    let front : drop c.loop-page.page-index c.args.pages.now ≡ c.page-item.result ∷ left = drop_more c.args.pages.now c.loop-page.page-index c.page-item.result c.loop-page-test.true ∙ ap (λ x. x ∷ left) (sym c.page-item.is) in
    let here = page_of c.page-item.result in
    rw (p.1, p.2) (making-stop {T = Bool} {U = ℕ} _ _ (λ n. writings (pages_of left) (after (writings (here ∷ []) n) n)) _ _ _ _ c.in_err-write_page.field-0.0
    (λ n told. writings-front _ (pages_of left) here n (ap pages_of front) c.loop-page.invariant.ascending) c.in_err-write_page.ensures.makes c.loop-page.invariant.making)

pub loop-page-preserved : goal.loop-page-preserved
loop-page-preserved g c =
    let tally : c.if-branch.written ≡ cond c.in_ok-write_page.field-0 (c.loop-page.written + 1) c.loop-page.written = elim c.if-branch.branch [ then-branch w ↦ w.written-is ∙ ap (λ b. cond b (c.loop-page.written + 1) c.loop-page.written) (sym w.if-branch.true) | else-branch w ↦ w.written-is ∙ ap (λ b. cond b (c.loop-page.written + 1) c.loop-page.written) (sym w.if-branch.false) ] in
    let left = drop (c.loop-page.page-index + 1) c.args.pages.now in
    let front : drop c.loop-page.page-index c.args.pages.now ≡ c.page-item.result ∷ left = drop_more c.args.pages.now c.loop-page.page-index c.page-item.result c.loop-page-test.true ∙ ap (λ x. x ∷ left) (sym c.page-item.is) in
    let here = page_of c.page-item.result in
    record {
      making = making-turn _ _ (writings (pages_of left)) _ _ _ _ (λ n told. writings-front _ (pages_of left) here n (ap pages_of front) c.loop-page.invariant.ascending) c.in_ok-write_page.ensures.makes.done c.loop-page.invariant.making;
      ascending = ascends-tail _ (pages_of left) here (ap pages_of front) c.loop-page.invariant.ascending;
      small = tally-small c.in_ok-write_page.field-0 _ _ _ _ tally refl c.loop-page.invariant.small;
      counted = counted-writing _ _ _ _ (pages_of left) _ here c.in_ok-write_page.field-0 c.loop-page.written _ (ap pages_of front) c.loop-page.invariant.ascending c.in_ok-write_page.ensures.makes.done c.in_ok-write_page.ensures.counted tally c.loop-page.invariant.making c.loop-page.invariant.counted;
      later = omega arith;
    }
