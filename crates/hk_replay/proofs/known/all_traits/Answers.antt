use Rattle.std.proofs.Common.{◌≡◌, sym, ap, ◌∙◌, arith, ◌+◌, ◌∷◌, [], length, length-append, get_or, List}
use Rattle.hk_base.specs.Bytes.{Bytes}
use Rattle.hk_eval.specs.PlanTable.{traits_at}
use Rattle.hk_fix.specs.Table.{Traits}
use Rattle.hk_rules.specs.Plan.{lookups}
use Rattle.hk_store.specs.Traits.{sha_digests}
use Rattle.hk_replay.proofs.Matching.{traits-now, copied-map, get-pushed}
use Rattle.hk_replay.proofs.known.all_traits.Goals as goal

pub loop-number-preserved : goal.loop-number-preserved
loop-number-preserved c =
    let plan = c.args.plan.now in
    let n = c.loop-number.number in
    let old : List Bytes = c.loop-number.traits.items in
    let count : length old ≡ n = c.loop-number.invariant.0 in
    let target = copied-map c.target_of.result ∙ c.target_of.ensures in
    let traits : (let t : Traits = record { target = (lookups plan).target_of n; meta = (lookups plan).meta n } in t) ≡ traits_at plan n = traits-now plan n in
    let digest : c.in_ok-digest.digest ≡ sha_digests.traits (traits_at plan (length old)) = c.in_ok-digest.ensures ∙ (ap sha_digests.traits ((λ i. (let t : Traits = record { target = target i; meta = c.meta.ensures i } in t)) ∙ traits) ∙ ap (λ k. sha_digests.traits (traits_at plan k)) (sym count)) in
    let each = get-pushed old c.in_ok-digest.digest [] (λ k. sha_digests.traits (traits_at plan k)) (λ k l. c.loop-number.invariant.1 k (omega (arith, l, count))) digest in (
      ap length c.in_ok-push.ensures.items ∙ (length-append old (c.in_ok-digest.digest ∷ []) ∙ ap (λ k. k + 1) count),
      λ k l. ap (λ (v : List Bytes). get_or v k []) c.in_ok-push.ensures.items ∙ each k (omega (arith, l, count)),
    )
