use Rattle.std.proofs.Common.{sym, ap, ◌∙◌, not}
use Rattle.std.specs.Option.{is_some}
use Rattle.hk_rules.specs.Settled.{has_key}
use Rattle.hk_rules.proofs.Pairing.{is_some-map}
use Rattle.hk_rules.proofs.Settling.{plain-turn, other-turn}
use Rattle.hk_rules.proofs.universe.plain_paths.Goals as goal
use Rattle.hk_rules.proofs.universe.plain_paths.Goals.{then-is_none+in_ok-from_slice+in_ok-insert, else-is_none}

pub loop-id-preserved : goal.loop-id-preserved
loop-id-preserved c = λ path. elim c.if-is_none.branch [
  | then-is_none+in_ok-from_slice+in_ok-insert w ↦
      ap (λ p. has_key p.keys path) w.paths-is
      ∙ plain-turn c.args.ids.now c.loop-id.id-index c.id-item.result c.loop-id.paths.keys _ _ path c.loop-id-test.true c.id-item.is (ap is_some (sym c.version.ensures.value) ∙ is_some-map (λ v. v.now) c.version.result ∙ c.is_none.ensures ∙ ap not w.if-is_none.true) (w.in_ok-from_slice.ensures.items ∙ w.path.ensures.value) w.in_ok-insert.ensures.keys (c.loop-id.invariant path)
  | else-is_none w ↦
      ap (λ p. has_key p.keys path) w.paths-is
      ∙ other-turn c.args.ids.now c.loop-id.id-index c.id-item.result c.loop-id.paths.keys path c.loop-id-test.true c.id-item.is (ap is_some (sym c.version.ensures.value) ∙ is_some-map (λ v. v.now) c.version.result ∙ w.if-is_none.ensures) (c.loop-id.invariant path)
]
