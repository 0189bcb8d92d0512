use Rattle.std.proofs.Common.{◌≡◌, sym, ◌∙◌, subst}
use Rattle.sha2.specs.Hashers.{Holds256}
use Rattle.hk_rules.proofs.PairNumbers.{all-at}
use Rattle.hk_rules.specs.Plan.{lookups}
use Rattle.hk_store.specs.Fronts.{IsFront}
use Rattle.hk_store.proofs.Hashing.{same-front}
use Rattle.hk_store.proofs.SameSteps.{so-true}
use Rattle.hk_store.proofs.fronts.kept_front.Goals as goal

pub returns-then-is_same_chain : goal.returns-then-is_same_chain
returns-then-is_same_chain c =
    let plan = c.args.plan.now in
    let front = c.front-item.result in
    let kept : IsFront plan front = subst (IsFront plan) (sym c.front-item.is) (all-at (IsFront plan) c.args.fronts.now c.loop-front.front-index front c.requires.kept c.loop-front-test.true) in
    let same : (lookups plan).chain front.item ≡ (lookups plan).chain c.args.item = sym c.chain.ensures ∙ (so-true c.is_same_chain.result _ c.if-is_same_chain.true c.is_same_chain.ensures ∙ c.chain-in-loop-front.ensures) in
    subst (Holds256 front.hasher) (same-front plan front.item c.args.item same) kept.1
