use Rattle.std.proofs.Common.{◌≡◌, ◌≤◌, drop, length, map}
use Rattle.std.specs.Cmp.Lexicographic.{pointwise}
use Rattle.std.specs.Ordering.{eq_by_cmp}
use Rattle.hk_base.specs.Identifier.{ident_cmp}
use Rattle.hk_rules.specs.Plan.{id_at}
use Rattle.hk_replay.proofs.fitting.are_same.Given as goal

abbrev pub invariant-loop-i : goal.invariant-loop-i
invariant-loop-i l = (pointwise (eq_by_cmp ident_cmp) (map (id_at l.plan) l.items) l.ids ≡ pointwise (eq_by_cmp ident_cmp) (map (id_at l.plan) (drop l.i l.items)) (drop l.i l.ids)) × (l.i ≤ length l.ids)
