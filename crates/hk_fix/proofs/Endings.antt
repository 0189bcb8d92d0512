-- The ends of all items of a run, as they are reported.
use Rattle.std.proofs.Common.{◌≡◌, refl, sym, ap, ◌∙◌, subst, ℕ, ◌<◌, false, List, [], length, Some, slice_get, slice_index_or}
use Rattle.std.proofs.lemmas.Option.{get_or_from_slice_get}
use Rattle.std.proofs.lemmas.List.Elements.{All-weaker}
use Rattle.hk_chain.specs.declared.page.Page.{Page}
use Rattle.hk_chain.specs.Layout.{Shape, pairs, item_of}
use Rattle.hk_fix.specs.Fix.{Seeds, IsSetting, Ending, finished, faulted, waiting, is_finished, status, Blocks}
use Rattle.hk_fix.specs.Pages.{Pages}
use Rattle.hk_fix.specs.Report.{ending_at, WaitsFor, CanReport}
use Rattle.hk_fix.specs.Task.{Run}
use Rattle.hk_fix.proofs.Waits.{waiting-blocks}

module _ (lay : Shape) (run : ℕ → Pages → Run Page) (seeds : Seeds) (ends : List Ending) (each : (i : ℕ) → i < lay.items → slice_get ends i ≡ Some (status lay run seeds i)) where
  at-any : (i : ℕ) (d : Ending) → i < lay.items → slice_index_or ends i d ≡ status lay run seeds i
  at-any i d lt = get_or_from_slice_get ends i (status lay run seeds i) d (each i lt)

pub end-at : (lay : Shape) (run : ℕ → Pages → Run Page) (seeds : Seeds) (ends : List Ending) → ((i : ℕ) → i < lay.items → slice_get ends i ≡ Some (status lay run seeds i)) → (i : ℕ) → i < lay.items → ending_at ends i ≡ status lay run seeds i
end-at lay run seeds ends each i lt = at-any lay run seeds ends each i (waiting []) lt

module _ (lay : Shape) (run : ℕ → Pages → Run Page) (seeds : Seeds) (given : IsSetting lay run seeds) (ends : List Ending) (many : length ends ≡ lay.items) (each : (i : ℕ) → i < lay.items → slice_get ends i ≡ Some (status lay run seeds i)) where
  blocks : (ps : List ℕ) → Blocks lay (status lay run seeds) ps → Blocks lay (ending_at ends) ps
  blocks ps h =
      record {
        some = h.some;
        each = All-weaker (λ p. (p < pairs lay) × (is_finished (status lay run seeds (item_of lay p)) ≡ false)) (λ p. (p < pairs lay) × (is_finished (ending_at ends (item_of lay p)) ≡ false))
            (λ p w. (w.0, ap is_finished (end-at lay run seeds ends each (item_of lay p) (given.shape.in_items p w.0)) ∙ w.1)) ps h.each;
      }

  waits-for : (i : ℕ) (e : Ending) → i < lay.items → status lay run seeds i ≡ e → WaitsFor lay ends e
  waits-for i (finished facts) lt is = tt
  waits-for i (faulted f) lt is = tt
  waits-for i (waiting ps) lt is = blocks ps (waiting-blocks lay run seeds given.shape given.laws given.sown i ps lt is)

  -- what is left of a run can be reported
  pub ends-report : CanReport lay ends
  ends-report =
      record {
        count = many;
        blocks = λ k d lt.
            let l : k < lay.items = subst (λ (n : ℕ). k < n) many lt in
            subst (WaitsFor lay ends) (sym (at-any lay run seeds ends each k d l)) (waits-for k (status lay run seeds k) l refl);
      }
