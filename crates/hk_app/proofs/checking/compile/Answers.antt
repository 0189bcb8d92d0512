use Rattle.std.proofs.Common.{◌≡◌, refl, sym, subst, Some, None}
use Rattle.hk_build.specs.Built.{AreResults}
use Rattle.hk_build.specs.Reported.{IsReported}
use Rattle.hk_reuse.specs.Entries.{no_entries}
use Rattle.hk_app.specs.Promise.{AllEnd}
use Rattle.hk_app.specs.Taking.{nothing}
use Rattle.hk_app.proofs.Checkings.{named-of}
use Rattle.hk_app.proofs.checking.compile.Goals as goal

pub returns-in-Some : goal.returns-in-Some
returns-in-Some c =
    let plan = c.get.result.now in
    let results : AreResults plan no_entries c.in_ok-results.results = subst (λ p. AreResults p no_entries c.in_ok-results.results) (sym c.get.ensures) c.in_ok-results.ensures in
    let told : IsReported plan no_entries (Some c.in-Some.text) = subst (IsReported plan no_entries) c.in-Some.is (c.in_ok-text.ensures no_entries results) in
    (refl, named-of c.args.plan.now plan c.in-Some.text c.get.ensures told)

pub returns-in-None : goal.returns-in-None
returns-in-None c =
    let plan = c.get.result.now in
    let results : AreResults plan no_entries c.in_ok-results.results = subst (λ p. AreResults p no_entries c.in_ok-results.results) (sym c.get.ensures) c.in_ok-results.ensures in
    let all : AllEnd plan nothing = subst (IsReported plan no_entries) c.in-None.is (c.in_ok-text.ensures no_entries results) in
    record { all = subst (λ p. AllEnd p nothing) c.get.ensures all; results = c.in_ok-results.ensures }
