use Rattle.std.proofs.Common.{◌≡◌, refl, sym, ap, ◌∙◌, subst, ℕ, List, Option, map}
use Rattle.std.proofs.lemmas.Simd.{map-map}
use Rattle.hk_fix.specs.Outcomes.{outcome_view}
use Rattle.hk_fix.specs.Report.{ReportView, lead_of, cycles_of, blocked_of, failed_of}
use Rattle.hk_fix.specs.Walks.{LeadsIn}
use Rattle.hk_fix.proofs.Reports.{leads-in}
use Rattle.hk_fix.proofs.ending.report_on.Goals as goal

pub places-requires-clause-range : goal.places-requires-clause-range
places-requires-clause-range c =
    subst LeadsIn (sym (c.deref.ensures.value ∙ c.in_ok-leads.ensures)) (leads-in c.args.layout.now c.args.outcomes.now c.items-items.ensures.valid.shape c.requires.count c.requires.firsts)

pub cycles-requires-clause-range : goal.cycles-requires-clause-range
cycles-requires-clause-range c =
    subst LeadsIn (sym (c.deref-2.ensures.value ∙ c.in_ok-leads.ensures)) (leads-in c.args.layout.now c.args.outcomes.now c.items-items.ensures.valid.shape c.requires.count c.requires.firsts)

same-report : (a a' : List ℕ) (b b' : List (List ℕ)) (d d' : List (ℕ × List ℕ)) → a ≡ a' → b ≡ b' → d ≡ d' → (let r : ReportView = record { failed = a; cycles = b; blocked = d } in r) ≡ (let r : ReportView = record { failed = a'; cycles = b'; blocked = d' } in r)
same-report a a' b b' d d' e f g = rw (e, f, g) refl

pub returns : goal.returns
returns c =
    let lay = c.args.layout.now in
    let outcomes : _ = map outcome_view c.args.outcomes.now in
    let leads : List (Option ℕ) = map (lead_of lay) outcomes in
    let made : c.in_ok-leads.leads.items ≡ leads = c.in_ok-leads.ensures ∙ sym (map-map (lead_of lay) outcome_view c.args.outcomes.now) in
    same-report c.in_ok-failed.field-0.items (failed_of outcomes)
    (map (λ v. v.items) c.in_ok-cycles.field-0.items) (cycles_of leads)
    (map {B = ℕ × List ℕ} (λ b. (b.0, b.1.items)) c.in_ok-blocked.field-0.items) (blocked_of leads outcomes)
    c.in_ok-failed.ensures
    (c.in_ok-cycles.ensures ∙ ap cycles_of (c.deref-2.ensures.value ∙ made))
    (c.in_ok-blocked.ensures ∙ ap (λ l. blocked_of l outcomes) (c.deref-4.ensures.value ∙ made))
