use Rattle.std.proofs.Common.{◌≡◌, sym, ap, ◌∙◌, arith, rules, true, false, ◌&&◌, ◌+◌, map, drop}
use Rattle.std.specs.Cmp.Lexicographic.{pointwise}
use Rattle.std.specs.Ordering.{eq_by_cmp}
use Rattle.hk_base.specs.Identifier.{ident_cmp}
use Rattle.hk_rules.specs.Plan.{id_at}
use Rattle.hk_replay.proofs.Matching.{id-same, pointwise-turn}
use Rattle.hk_replay.proofs.fitting.are_same.Goals as goal

pub returns-then-ne : goal.returns-then-ne
returns-then-ne c =
    let plan = c.args.plan.now in
    let same : eq_by_cmp ident_cmp c.id.result.now c.index-ids-i.result ≡ false = search rules in
    let other : eq_by_cmp ident_cmp (id_at plan c.index-items-i.result) c.index-ids-i.result ≡ false = ap (λ d. eq_by_cmp ident_cmp d c.index-ids-i.result) (sym (c.id.ensures ∙ id-same plan c.index-items-i.result)) ∙ same in
    sym (c.loop-i.invariant.0
    ∙ (pointwise-turn (eq_by_cmp ident_cmp) (id_at plan) c.args.items.now c.args.ids.now c.loop-i.i c.index-items-i.result c.index-ids-i.result c.loop-i-test.true (omega arith) c.index-items-i.is c.index-ids-i.is
    ∙ ap (λ b. b && pointwise (eq_by_cmp ident_cmp) (map (id_at plan) (drop (c.loop-i.i + 1) c.args.items.now)) (drop (c.loop-i.i + 1) c.args.ids.now)) other))

pub loop-i-preserved : goal.loop-i-preserved
loop-i-preserved c =
    let plan = c.args.plan.now in
    let same : eq_by_cmp ident_cmp c.id.result.now c.index-ids-i.result ≡ true = search rules in
    let equal : eq_by_cmp ident_cmp (id_at plan c.index-items-i.result) c.index-ids-i.result ≡ true = ap (λ d. eq_by_cmp ident_cmp d c.index-ids-i.result) (sym (c.id.ensures ∙ id-same plan c.index-items-i.result)) ∙ same in (
      c.loop-i.invariant.0
          ∙ (pointwise-turn (eq_by_cmp ident_cmp) (id_at plan) c.args.items.now c.args.ids.now c.loop-i.i c.index-items-i.result c.index-ids-i.result c.loop-i-test.true (omega arith) c.index-items-i.is c.index-ids-i.is
          ∙ ap (λ b. b && pointwise (eq_by_cmp ident_cmp) (map (id_at plan) (drop (c.loop-i.i + 1) c.args.items.now)) (drop (c.loop-i.i + 1) c.args.ids.now)) equal),
      omega arith,
    )
