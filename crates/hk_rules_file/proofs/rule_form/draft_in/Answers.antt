use Rattle.std.proofs.Common.{◌∙◌, ap, subst}
use Rattle.hk_base.specs.Answers.{Answers}
use Rattle.hk_forms.specs.IdForm.{version_of}
use Rattle.hk_forms.specs.RouteForm.{route_of}
use Rattle.hk_rules_file.specs.RuleForm.{draft_in, draft_by, optional}
use Rattle.hk_rules_file.proofs.rule_form.draft_in.Goals as goal

pub returns : goal.returns
unfolding draft_in
returns c =
    let version = c.in_ok-version.ensures ∙ ap (optional version_of) c.value_at.ensures in
    let route = c.in_ok-route.ensures ∙ ap (optional route_of) c.value_at-2.ensures in
    subst (λ r. Answers r c.draft_by.result) (λ i. draft_by c.args.number (c.in_ok-other.ensures i) (c.in_ok-source.ensures i) (version i) (route i) (c.in_ok-steps.ensures i)) c.draft_by.ensures
