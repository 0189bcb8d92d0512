use Rattle.std.proofs.Common.{◌≡◌, sym, ap, ◌∙◌, subst, arith, ◌<◌, length, take, get_or, List, ℕ, Contains, Option, Some, None, option_copied}
use Rattle.hk_chain.specs.declared.page.Page.{Page}
use Rattle.hk_fix.specs.Meaning.{Meaning, told_page}
use Rattle.hk_replay.specs.Going.{SameKnown, tell_by}
use Rattle.hk_eval.specs.Told.{told_pages}
use Rattle.hk_replay.proofs.Answered.{same-known, still-open, told-turn, take-in}
use Rattle.hk_replay.proofs.inner.tell.Goals as goal
use Rattle.hk_replay.proofs.inner.tell.Goals.{in-Some+in_ok-page-in-Some, in-None}

pub returns-in_err-page-in-Some-clause-same : goal.returns-in_err-page-in-Some-clause-same
returns-in_err-page-in-Some-clause-same g c =
    let k = told_pages c.args.told.now in
    let m = g.M.Compiler.meaning c.args.inner.now in
    subst (SameKnown k m) (sym c.loop-pair.invariant) (same-known k m c.requires.distinct c.requires.untold (take c.loop-pair.pair-index m.awaits) (take-in m.awaits c.loop-pair.pair-index))

pub returns-clause-same : goal.returns-clause-same
returns-clause-same g c =
    let k = told_pages c.args.told.now in
    let m = g.M.Compiler.meaning c.args.inner.now in
    subst (SameKnown k m) (sym c.loop-pair.invariant) (same-known k m c.requires.distinct c.requires.untold (take c.loop-pair.pair-index m.awaits) (take-in m.awaits c.loop-pair.pair-index))

pub answer-requires : goal.answer-requires
answer-requires g c =
    let k = told_pages c.args.told.now in
    let m = g.M.Compiler.meaning c.args.inner.now in
    let items : c.as_slice-pair-items.result.now ≡ m.awaits = c.as_slice-pair-items.ensures.value ∙ (c.in_ok-open.ensures.items ∙ c.open_pairs.ensures) in
    let at : c.pair-item.result ≡ get_or m.awaits c.loop-pair.pair-index c.pair-item.result = c.pair-item.is ∙ ap (λ (l : List ℕ). get_or l c.loop-pair.pair-index c.pair-item.result) items in
    let lt : c.loop-pair.pair-index < length m.awaits = subst (λ (l : List ℕ). c.loop-pair.pair-index < length l) items (omega arith) in
    subst (λ (n : Meaning g.row.M-Common.Denot). Contains n.awaits c.pair-item.result) (sym c.loop-pair.invariant) (still-open k m c.requires.distinct c.requires.untold c.loop-pair.pair-index c.pair-item.result lt at)

pub loop-pair-preserved : goal.loop-pair-preserved
loop-pair-preserved g c =
    let k = told_pages c.args.told.now in
    let m = g.M.Compiler.meaning c.args.inner.now in
    let p : ℕ = c.pair-item.result in
    let items : c.as_slice-pair-items.result.now ≡ m.awaits = c.as_slice-pair-items.ensures.value ∙ (c.in_ok-open.ensures.items ∙ c.open_pairs.ensures) in
    let at : p ≡ get_or m.awaits c.loop-pair.pair-index p = c.pair-item.is ∙ ap (λ (l : List ℕ). get_or l c.loop-pair.pair-index p) items in
    let lt : c.loop-pair.pair-index < length m.awaits = subst (λ (l : List ℕ). c.loop-pair.pair-index < length l) items (omega arith) in
    let gone : g.M.Compiler.meaning c.match-get.inner ≡ tell_by (g.M.Compiler.meaning c.loop-pair.inner) p (k p) = elim c.match-get.branch as (λ x. g.M.Compiler.meaning c.match-get.inner ≡ tell_by (g.M.Compiler.meaning c.loop-pair.inner) p (k p)) [
      | in-Some+in_ok-page-in-Some w ↦
          let some : k p ≡ Some w.in-Some.page.now = sym c.get.ensures ∙ ap option_copied w.in-Some.is in
          let page : w.in_ok-page-in-Some.page ≡ w.in-Some.page.now = w.in_ok-page-in-Some.ensures in
          ap g.M.Compiler.meaning w.inner-is ∙ (w.answer.ensures ∙ (ap (λ (x : Page). told_page (g.M.Compiler.meaning c.loop-pair.inner) p x) page ∙ sym (ap (λ (o : Option Page). tell_by (g.M.Compiler.meaning c.loop-pair.inner) p o) some)))
      | in-None w ↦
          let none : k p ≡ None = sym c.get.ensures ∙ ap option_copied w.in-None.is in
          ap g.M.Compiler.meaning w.inner-is ∙ sym (ap (λ (o : Option Page). tell_by (g.M.Compiler.meaning c.loop-pair.inner) p o) none)
    ] in
    told-turn k m c.loop-pair.pair-index p (g.M.Compiler.meaning c.loop-pair.inner) (g.M.Compiler.meaning c.match-get.inner) lt at c.loop-pair.invariant gone
