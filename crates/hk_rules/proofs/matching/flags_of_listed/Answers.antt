use Rattle.std.proofs.Common.{◌∙◌, false, refl}
use Rattle.std.proofs.lemmas.Simd.{splat_is_map}
use Rattle.hk_rules.specs.Flags.{is_item}
use Rattle.hk_rules.proofs.Flagging.{any-turn}
use Rattle.hk_rules.proofs.matching.flags_of_listed.Goals as goal

pub loop-id-init : goal.loop-id-init
loop-id-init c = c.in_ok-flags.ensures.items_if_clones_equal (λ y e. e) ∙ splat_is_map c.args.items.now _ false refl

pub loop-id-preserved : goal.loop-id-preserved
loop-id-preserved c = any-turn is_item c.args.items.now c.args.ids.now c.loop-id.id-index c.id-item.result c.loop-id.flags.items _ c.flag_item.new.flags.items c.loop-id-test.true c.id-item.is c.loop-id.invariant refl c.flag_item.ensures
