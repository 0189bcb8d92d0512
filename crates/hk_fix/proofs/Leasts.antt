-- The fixpoint of rounds is the least.
use Rattle.std.proofs.Common.{sym, ap, ℕ, zero, suc, inl, inr, is_some, nat_lt, ltb-true, ltb-false}
use Rattle.hk_chain.specs.declared.page.Page.{Page}
use Rattle.hk_chain.specs.Layout.{Shape, IsShape, pairs}
use Rattle.hk_fix.specs.Pages.{Pages, Extends}
use Rattle.hk_fix.specs.Task.{Run}
use Rattle.hk_fix.specs.Run.{IsRun}
use Rattle.hk_fix.specs.Fix.{Seeds, IsSeeds, round, known, fix}
use Rattle.hk_fix.proofs.Orders.{clash, decide, is_some-of, round-grows}

module _ (lay : Shape) (run : ℕ → Pages → Run Page) (seeds : Seeds) (shape : IsShape lay) (laws : IsRun lay run) (sown : IsSeeds lay seeds) where
  seeds-stay : (k : Pages) → Extends seeds.pages (round lay run seeds k)
  seeds-stay k p x e =
      elim (decide (nat_lt p (pairs lay))) [
        | inl t ↦ rw (t, sym (sown.each p (ltb-true p (pairs lay) t)), is_some-of (seeds.pages p) x e) e
        | inr t ↦ clash (is_some (seeds.pages p)) (ap is_some (sown.none p (ltb-false p (pairs lay) t))) (ap is_some e)
      ]

  rounds-within : (k : Pages) → Extends (round lay run seeds k) k → (n : ℕ) → Extends (known lay run seeds n) k
  rounds-within k stable zero p x e = stable p x (seeds-stay k p x e)
  rounds-within k stable (suc n) p x e = stable p x (round-grows lay run seeds shape laws sown (known lay run seeds n) k (rounds-within k stable n) p x e)

  -- it is within all pages to which a round adds nothing
  pub fix-least : (k : Pages) → Extends (round lay run seeds k) k → Extends (fix lay run seeds) k
  unfolding fix
  fix-least k stable = rounds-within k stable (pairs lay)
