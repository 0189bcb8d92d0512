-- What a plan says of the site that it is of.
use Rattle.std.proofs.Common.{◌≡◌, List, [], ◌∷◌, ◌++◌, true, false, cond, Option, Some, None, Result, Ok, Err, refl, subst}
use Rattle.hk_base.specs.Bytes.{Bytes}
use Rattle.hk_rules.specs.Clashes.{site_at, same_after, same_clash, lesser, is_less, clash_by, nested_clash, fault_by, clash_fault, sites}
use Rattle.hk_rules.specs.Headers.{header_of}
use Rattle.hk_rules.specs.Outcomes.{unless, after, each}
use Rattle.hk_rules.specs.PlanView.{PlanView}
use Rattle.hk_rules.specs.Planning.{plan_of, plan_by, plan_items, plan_counted, plan_headed, plan_routed, name_fault, count_fault}
use Rattle.hk_rules_file.specs.Rules.{RulesView}
use Rattle.hk_rules.specs.Sources.{sources as sources_of}
use Rattle.hk_rules.specs.Targets.{target_of}
use Rattle.hk_rules.specs.Universe.{universe}
use Rattle.hk_rules.specs.declared.plan_fault.PlanFault.{PlanFault}
use Rattle.hk_rules.specs.declared.site.Clash.{Clash}
use Rattle.hk_rules.specs.declared.site.Site.{Site}

-- what the steps of a plan gave
pub record IsPlanOf (rules : RulesView) (files : List (Bytes × Bytes)) (plan : PlanView) : Type 0 where
  pub named : name_fault files ≡ None
  pub items : plan.items ≡ universe (sources_of files) rules.rules
  pub contexts : plan.contexts ≡ rules.contexts
  pub patterns : plan.patterns ≡ rules.patterns
  pub feeds : plan.feeds ≡ rules.feeds
  pub counted : count_fault plan.items ≡ None
  pub headers : each header_of plan.items ≡ Ok plan.headers
  pub targets : each target_of plan.items ≡ Ok plan.targets
  pub apart : clash_fault (sites plan.items plan.targets) ≡ None

passed : {T F : Type 0} (fault : Option F) (next : Result T F) (x : T) → unless fault next ≡ Ok x → (fault ≡ None) × (next ≡ Ok x)
passed None next x e = (refl, e)
passed (Some f) next x e = cc

went_on : {S T F : Type 0} (one : Result S F) (next : S → Result T F) (x : T) → after one next ≡ Ok x → (y : S) × ((one ≡ Ok y) × (next y ≡ Ok x))
went_on (Ok y) next x e = (y, (refl, e))
went_on (Err f) next x e = cc

same-ok : {T F : Type 0} (r : Result T F) (x y : T) → r ≡ Ok x → r ≡ Ok y → x ≡ y
same-ok r x y d e = cc

pub plan_of-inverse : (rules : RulesView) (files : List (Bytes × Bytes)) (plan : PlanView) → plan_of rules files ≡ Ok plan → IsPlanOf rules files plan
unfolding plan_of
plan_of-inverse rules files plan e =
    let us = universe (sources_of files) rules.rules in
    let a = passed (name_fault files) (plan_items rules.contexts rules.patterns rules.feeds us) plan e in
    let b = passed (count_fault us) (plan_counted rules.contexts rules.patterns rules.feeds us) plan a.1 in
    let h = went_on (each header_of us) (plan_headed rules.contexts rules.patterns rules.feeds us) plan b.1 in
    let t = went_on (each target_of us) (plan_routed rules.contexts rules.patterns rules.feeds us h.0) plan h.1.1 in
    let ok : Result PlanView PlanFault = Ok (plan_by rules.contexts rules.patterns rules.feeds us h.0 t.0) in
    let k = passed (clash_fault (sites us t.0)) ok plan t.1.1 in
    let is = same-ok ok (plan_by rules.contexts rules.patterns rules.feeds us h.0 t.0) plan refl k.1 in
    subst (IsPlanOf rules files) is (record {
      named = a.0;
      items = refl;
      contexts = refl;
      patterns = refl;
      feeds = refl;
      counted = b.0;
      headers = h.1.0;
      targets = t.1.0;
      apart = k.0;
    })

-- no later site has the target of an earlier one
abbrev pub Fresh : List Site → List Site → Type 0
Fresh earlier [] = Unit {0}
Fresh earlier (site ∷ later) = (site_at earlier site.target ≡ None) × Fresh (earlier ++ site ∷ []) later

pub none-lesser : (best clash : Option Clash) → lesser best clash ≡ None → (best ≡ None) × (clash ≡ None)
none-lesser best None e = (e, refl)
none-lesser None (Some c) e = cc
none-lesser (Some b) (Some c) e = elim (is_less c b) as (λ t. cond t (Some c) (Some b) ≡ None → (Some b ≡ None) × (Some c ≡ None)) [ true ↦ λ h. cc | false ↦ λ h. cc ] e

pub none-clash : (site : Site) (first : Option Site) → clash_by site first ≡ None → first ≡ None
none-clash site None e = refl
none-clash site (Some first) e = cc

same_after-best : (earlier later : List Site) (best : Option Clash) → same_after earlier best later ≡ None → best ≡ None
same_after-best earlier [] best e = e
same_after-best earlier (site ∷ later) best e = (none-lesser best (clash_by site (site_at earlier site.target)) (same_after-best (earlier ++ site ∷ []) later (lesser best (clash_by site (site_at earlier site.target))) e)).0

fresh-after : (earlier later : List Site) (best : Option Clash) → same_after earlier best later ≡ None → Fresh earlier later
fresh-after earlier [] best e = tt
fresh-after earlier (site ∷ later) best e =
    let clash = clash_by site (site_at earlier site.target) in
    let first = none-lesser best clash (same_after-best (earlier ++ site ∷ []) later (lesser best clash) e) in
    (none-clash site (site_at earlier site.target) first.1, fresh-after (earlier ++ site ∷ []) later (lesser best clash) e)

pub none-fault : (same nested : Option Clash) → fault_by same nested ≡ None → (same ≡ None) × (nested ≡ None)
none-fault (Some c) nested e = cc
none-fault None (Some c) e = cc
none-fault None None e = (refl, refl)

-- the targets of sites that don't clash differ
pub clash_fault-fresh : (all : List Site) → clash_fault all ≡ None → Fresh [] all
unfolding clash_fault
clash_fault-fresh all e = fresh-after [] all None (none-fault (same_clash all) (nested_clash (site_at all) all) e).0
