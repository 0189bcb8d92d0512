use Rattle.std.proofs.Common.{sym, ap, ◌∙◌, subst, length}
use Rattle.std.specs.Prelude.{fold}
use Rattle.hk_rules.specs.Universe.{claimed}
use Rattle.hk_rules.specs.Settled.{AreSettled, flags_at, has_path, matched_by}
use Rattle.hk_rules.proofs.Settling.{settled-flags_at, settled-grown, settled-insert}
use Rattle.hk_rules.proofs.universe.claim_matching.Goals as goal

pub claim_open-requires : goal.claim_open-requires
claim_open-requires c =
    let version = c.in_ok-version.ensures ∙ c.version_of-version.ensures ∙ ap (λ r. r.version) c.get.ensures in
    subst (AreSettled c.args.sources.now c.args.owners.now.entries c.args.rule.now.version)
    (sym (c.in_ok-flags.ensures ∙ ap (λ v. flags_at c.args.settled.now v (length c.args.sources.now)) version))
    (settled-flags_at c.args.sources.now c.args.owners.now.entries c.args.settled.now c.args.rule.now.version c.requires)

pub returns-clause-owners : goal.returns-clause-owners
returns-clause-owners c =
    c.in_ok-claim_open.ensures.owners
    ∙ λ k. fold (λ items source. claimed items (matched_by (λ path. c.in_ok-paths.ensures path k) c.args.rule.now source)) c.args.owners.now.entries c.args.sources.now

pub returns-clause-settled : goal.returns-clause-settled
returns-clause-settled c =
    let version = c.in_ok-version.ensures ∙ c.version_of-version.ensures ∙ ap (λ r. r.version) c.get.ensures in
    let before = settled-grown (matched_by (has_path c.in_ok-paths.paths) c.args.rule.now) c.args.sources.now c.args.owners.now.entries c.claim_open.new.owners.entries c.args.settled.now c.args.sources.now c.requires c.in_ok-claim_open.ensures.owners in
    let own = subst (λ v. AreSettled c.args.sources.now c.claim_open.new.owners.entries v c.claim_open.new.flags.items) (sym version) c.in_ok-claim_open.ensures.settled in
    settled-insert c.args.sources.now c.claim_open.new.owners.entries c.args.settled.now c.insert.new.self c.in_ok-version.version c.claim_open.new.flags before own c.in_ok-insert.ensures.updates.0
