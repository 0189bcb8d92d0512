use Rattle.std.proofs.Common.{◌≡◌, ◌∷◌, sym, ap, ◌∙◌, arith, true, length-append, refl, Bool, ℕ}
use Rattle.std.specs.Map.Iter.{deref}
use Rattle.std.proofs.lemmas.Map.Iter.{rest_more}
use Rattle.std.proofs.lemmas.Result.{err_from_is_err_and}
use Rattle.hk_writer.specs.Pages.{pages_of}
use Rattle.hk_writer.specs.Writing.{removals}
use Rattle.hk_writer.proofs.Making.{making-stop, making-turn}
use Rattle.hk_writer.proofs.FolderWrites.{removals-front, counted-removal}
use Rattle.hk_writer.proofs.writer.remove_others.Goals as goal

pub returns-in_err-remove_other-clause-makes : goal.returns-in_err-remove_other-clause-makes
returns-in_err-remove_other-clause-makes g c =
    let p = err_from_is_err_and c.from_residual.result c.from_residual.ensures.1 in
    let front : c.loop-path.path-iterator ≡ c.as_slice.result.now ∷ c.next.new.self = rest_more deref _ _ _ _ c.in-Some.is c.next.ensures.steps ∙ ap (λ x. x ∷ c.next.new.self) (sym c.as_slice.ensures) in
    rw (p.1, p.2) (making-stop {T = Bool} {U = ℕ} _ _ (λ n. removals (pages_of c.args.pages.now) c.next.new.self) _ _ _ _ c.in_err-remove_other.field-0.0 (λ n told. removals-front (pages_of c.args.pages.now) c.as_slice.result.now _ _ front) c.in_err-remove_other.ensures.makes c.loop-path.invariant.making)

pub loop-path-preserved-then-branch : goal.loop-path-preserved-then-branch
loop-path-preserved-then-branch g c =
    let front : c.loop-path.path-iterator ≡ c.as_slice.result.now ∷ c.next.new.self = rest_more deref _ _ _ _ c.in-Some.is c.next.ensures.steps ∙ ap (λ x. x ∷ c.next.new.self) (sym c.as_slice.ensures) in
    record {
      making = making-turn _ _ (λ m. removals (pages_of c.args.pages.now) c.next.new.self) _ _ _ _ (λ n told. removals-front (pages_of c.args.pages.now) c.as_slice.result.now _ _ front) c.in_ok-remove_other.ensures.makes.done c.loop-path.invariant.making;
      small = simp length-append (omega arith);
      counted = counted-removal (pages_of c.args.pages.now) c.as_slice.result.now _ _ true c.loop-path.removed _ _ front (sym c.if-branch.true ∙ c.in_ok-remove_other.ensures.counted) refl c.loop-path.invariant.counted;
      later = omega arith;
    }
