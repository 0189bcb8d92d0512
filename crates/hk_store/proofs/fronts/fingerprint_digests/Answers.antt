use Rattle.std.proofs.Common.{◌≡◌, sym, ap, ◌∙◌, arith, ℕ, ◌+◌, ◌∷◌, [], length, length-append, get_or, List}
use Rattle.hk_base.specs.Bytes.{Bytes}
use Rattle.hk_rules.specs.Recipe.{recipe_of}
use Rattle.hk_store.specs.RecipeText.{recipe_text}
use Rattle.hk_store.specs.Traits.{sha_digests}
use Rattle.hk_store.proofs.Hashing.{get-pushed}
use Rattle.hk_store.proofs.fronts.fingerprint_digests.Goals as goal

pub loop-number-preserved : goal.loop-number-preserved
loop-number-preserved c =
    let plan = c.args.plan.now in
    let n = c.loop-number.number in
    let old : List Bytes = c.loop-number.digests.items in
    let count : length old ≡ n = c.loop-number.invariant.count in
    let print : ℕ → Bytes = λ k. sha_digests.text (recipe_text (recipe_of plan k)) in
    let digest : c.in_ok-digest.digest ≡ print (length old) = c.in_ok-digest.ensures ∙ ap print (sym count) in
    let each = get-pushed old c.in_ok-digest.digest [] print (λ k l. c.loop-number.invariant.each k (omega (arith, l, count))) digest in
    record {
      count = ap length c.in_ok-push.ensures.items ∙ (length-append old (c.in_ok-digest.digest ∷ []) ∙ ap (λ k. k + 1) count);
      each = λ k l. ap (λ (v : List Bytes). get_or v k []) c.in_ok-push.ensures.items ∙ each k (omega (arith, l, count));
      kept = c.in_ok-front.ensures.kept;
    }
