use Rattle.std.proofs.Common.{sym, ap, ◌∙◌, ℕ, ◌∷◌, ◌++◌, [], map, take, List}
use Rattle.hk_base.specs.Identifier.{Ident}
use Rattle.hk_rules.specs.Plan.{id_at}
use Rattle.hk_replay.proofs.Matching.{id-same, map-turn}
use Rattle.hk_replay.proofs.storing.ids_of.Goals as goal

pub loop-item-preserved : goal.loop-item-preserved
loop-item-preserved c =
    let plan = c.args.plan.now in
    let items : List ℕ = c.args.items.now in
    let i = c.loop-item.item-index in
    c.in_ok-push.ensures.items
    ∙ (ap (λ (l : List Ident). l ++ c.in_ok-id.id ∷ []) c.loop-item.invariant
    ∙ (ap (λ (d : Ident). map (id_at plan) (take i items) ++ d ∷ []) (c.in_ok-id.ensures ∙ (c.id.ensures ∙ id-same plan c.item-item.result))
    ∙ sym (map-turn (id_at plan) items i c.item-item.result c.loop-item-test.true c.item-item.is)))
