use Rattle.std.proofs.Common.{◌≡◌, ◌≤◌, ◌<◌, ◌-◌, length, get_or}
use Rattle.std.specs.declared.cmp.Ordering.TheVariants.{Less, Greater}
use Rattle.hk_base.specs.Identifier.{Ident, ident_cmp}
use Rattle.hk_rules.specs.declared.owner.Owner.{Owner}
use Rattle.hk_rules.proofs.finding.item_with.Given as goal

abbrev pub invariant-loop-low : goal.invariant-loop-low
invariant-loop-low l = record {
  ordered : l.low ≤ l.high;
  within : l.high ≤ length l.items;
  below : (e : Ident × Owner) → 0 < l.low → ident_cmp l.id (get_or l.items (l.low - 1) e).0 ≡ Greater;
  above : (e : Ident × Owner) → l.high < length l.items → ident_cmp l.id (get_or l.items l.high e).0 ≡ Less;
}

abbrev pub decreases-loop-low : goal.decreases-loop-low
decreases-loop-low l = l.high - l.low
