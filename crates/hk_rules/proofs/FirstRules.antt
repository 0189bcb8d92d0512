-- The rule of each item is the first that claims its identifier.
use Rattle.std.proofs.Common.{◌≡◌, Bool, true, false, cond, ◌||◌, List, [], ◌∷◌, Option, Some, None, option_map, Ok, refl, sym, ap, subst, ◌∙◌, fold, find}
use Rattle.std.specs.BTreeMap.{insert_entry, is_at}
use Rattle.std.specs.FinMap.Entries.{find as find_entry, put, find-put, by_order}
use Rattle.std.specs.List.{AllByRecursion, list_any}
use Rattle.std.specs.Map.{lookup}
use Rattle.std.specs.Option.{is_some}
use Rattle.std.specs.Ordering.{is_eq, match_ordering}
use Rattle.std.specs.declared.cmp.Ordering.TheVariants.{Less, Equal, Greater}
use Rattle.hk_base.specs.Bytes.{Bytes}
use Rattle.hk_base.specs.Identifier.{Ident, ident_cmp}
use Rattle.hk_base.specs.IdentTies.{ident_cmp_total, idents-same}
use Rattle.hk_rules_file.proofs.LinkedSteps.{Holds}
use Rattle.hk_rules_file.specs.Rules.{RulesView}
use Rattle.hk_rules_file.specs.declared.rules.Rule.{Rule}
use Rattle.hk_rules.specs.FirstRule.{is_claim_to, is_claimed_by, own_rule, rule_of, FirstRuleWins}
use Rattle.hk_rules.specs.PlanView.{PlanView}
use Rattle.hk_rules.specs.Planning.{plan_of}
use Rattle.hk_rules.specs.Sources.{sources as sources_of}
use Rattle.hk_rules.specs.Universe.{Claim, claimed, claimed_all, claims_of, universe}
use Rattle.hk_rules.specs.declared.owner.Owner.{Owner}
use Rattle.hk_rules.specs.declared.source_file.SourceFile.{SourceFile}
use Rattle.hk_rules.proofs.LinkedPlans.{source-owned}
use Rattle.hk_rules.proofs.Outcome.{plan_of-inverse}

-- ---- an entry that is put is found

find-same : (id : Ident) (es : List Claim) → lookup (is_at (ident_cmp id)) es ≡ find_entry ident_cmp id es
find-same id [] = refl
find-same id (e ∷ es) = ap (cond (is_eq (ident_cmp id e.0)) (Some e.1)) (find-same id es)

put-same : (es : List Claim) (k : Ident) (v : Owner) → insert_entry ident_cmp es k v ≡ put ident_cmp k v es
put-same [] k v = refl
put-same (e ∷ es) k v = elim (ident_cmp k e.0) as (λ o. match_ordering o ((k, v) ∷ e ∷ es) ((e.0, v) ∷ es) (e ∷ insert_entry ident_cmp es k v) ≡ by_order o ((k, v) ∷ e ∷ es) ((e.0, v) ∷ es) (e ∷ put ident_cmp k v es)) [
  | Less ↦ refl
  | Equal ↦ refl
  | Greater ↦ ap (λ t. e ∷ t) (put-same es k v)
]

found-put : (es : List Claim) (id k : Ident) (v : Owner) → lookup (is_at (ident_cmp id)) (insert_entry ident_cmp es k v) ≡ cond (is_eq (ident_cmp id k)) (Some v) (lookup (is_at (ident_cmp id)) es)
found-put es id k v =
    find-same id (insert_entry ident_cmp es k v) ∙ ap (find_entry ident_cmp id) (put-same es k v) ∙ find-put ident_cmp ident_cmp_total id k v es
    ∙ ap (cond (is_eq (ident_cmp id k)) (Some v)) (sym (find-same id es))

-- ---- one claim

-- the first of two, where there is one
first_of : Option Rule → Option Rule → Option Rule
first_of (Some x) other = Some x
first_of None other = other

rule_if : Bool → Rule → Option Rule
rule_if b r = cond b (Some r) None

first-alone : (o : Option Rule) → o ≡ first_of o None
unfolding first_of
first-alone (Some x) = refl
first-alone None = refl

taken : (es : List Claim) (id k : Ident) (own : Owner) (r : Rule) → lookup (is_at (ident_cmp k)) es ≡ Some own → rule_of es id ≡ first_of (rule_of es id) (rule_if (is_eq (ident_cmp id k)) r)
unfolding first_of rule_if
taken es id k own r e =
    elim (is_eq (ident_cmp id k)) as (λ b. is_eq (ident_cmp id k) ≡ b → rule_of es id ≡ first_of (rule_of es id) (cond b (Some r) None)) [
      | true ↦ λ t.
          let has : rule_of es id ≡ Some own.rule = ap (rule_of es) (idents-same id k t) ∙ ap (option_map own_rule) e in
          has ∙ sym (ap (λ o. first_of o (Some r)) has)
      | false ↦ λ t. first-alone (rule_of es id)
    ] refl

fresh : (es : List Claim) (id k : Ident) (own : Owner) (r : Rule) → own.rule ≡ r → lookup (is_at (ident_cmp k)) es ≡ None → rule_of (insert_entry ident_cmp es k own) id ≡ first_of (rule_of es id) (rule_if (is_eq (ident_cmp id k)) r)
unfolding first_of rule_if
fresh es id k own r is e =
    ap (option_map own_rule) (found-put es id k own)
    ∙ elim (is_eq (ident_cmp id k)) as (λ b. is_eq (ident_cmp id k) ≡ b → option_map own_rule (cond b (Some own) (lookup (is_at (ident_cmp id)) es)) ≡ first_of (rule_of es id) (cond b (Some r) None)) [
      | true ↦ λ t.
          let none : rule_of es id ≡ None = ap (rule_of es) (idents-same id k t) ∙ ap (option_map own_rule) e in
          ap Some is ∙ sym (ap (λ o. first_of o (Some r)) none)
      | false ↦ λ t. first-alone (rule_of es id)
    ] refl

abbrev IsOf : Rule → Claim → Type 0
IsOf r item = item.1.rule ≡ r

one-claim : (es : List Claim) (id : Ident) (r : Rule) (c : Option Claim) → Holds (IsOf r) c → rule_of (claimed es c) id ≡ first_of (rule_of es id) (rule_if (is_claim_to id c) r)
unfolding rule_if
one-claim es id r None h = first-alone (rule_of es id)
one-claim es id r (Some c) h =
    elim (lookup (is_at (ident_cmp c.0)) es) as (λ o. lookup (is_at (ident_cmp c.0)) es ≡ o → rule_of (cond (is_some o) es (insert_entry ident_cmp es c.0 c.1)) id ≡ first_of (rule_of es id) (rule_if (is_eq (ident_cmp id c.0)) r)) [
      | Some own ↦ λ e. taken es id c.0 own r e
      | None ↦ λ e. fresh es id c.0 c.1 r h e
    ] refl

-- ---- all claims of a rule, and all rules

one-more : (o : Option Rule) (a b : Bool) (r : Rule) → first_of (first_of o (rule_if a r)) (rule_if b r) ≡ first_of o (rule_if (a || b) r)
unfolding first_of rule_if
one-more (Some x) a b r = refl
one-more None true b r = refl
one-more None false b r = refl

one-rule : (es : List Claim) (id : Ident) (r : Rule) (cs : List (Option Claim)) → AllByRecursion (Holds (IsOf r)) cs → rule_of (fold claimed es cs) id ≡ first_of (rule_of es id) (rule_if (list_any (is_claim_to id) cs) r)
unfolding rule_if
one-rule es id r [] h = first-alone (rule_of es id)
one-rule es id r (c ∷ cs) h =
    one-rule (claimed es c) id r cs h.1
    ∙ ap (λ o. first_of o (rule_if (list_any (is_claim_to id) cs) r)) (one-claim es id r c h.0)
    ∙ one-more (rule_of es id) (is_claim_to id c) (list_any (is_claim_to id) cs) r

then-others : (o : Option Rule) (b : Bool) (r : Rule) (others : Option Rule) → first_of (first_of o (rule_if b r)) others ≡ first_of o (cond b (Some r) others)
unfolding first_of rule_if
then-others (Some x) b r others = refl
then-others None true r others = refl
then-others None false r others = refl

all-rules : (sources : List (Bytes × SourceFile)) (es : List Claim) (id : Ident) (rules : List Rule) → rule_of (fold (claimed_all sources) es rules) id ≡ first_of (rule_of es id) (find (is_claimed_by sources id) rules)
all-rules sources es id [] = first-alone (rule_of es id)
all-rules sources es id (rule ∷ rules) =
    all-rules sources (claimed_all sources es rule) id rules
    ∙ ap (λ o. first_of o (find (is_claimed_by sources id) rules)) (one-rule es id rule (claims_of sources rule) (source-owned (λ r. r ≡ rule) sources rule refl rule.source))
    ∙ then-others (rule_of es id) (is_claimed_by sources id rule) rule (find (is_claimed_by sources id) rules)

universe-first : (sources : List (Bytes × SourceFile)) (rules : List Rule) → FirstRuleWins sources rules (universe sources rules)
unfolding universe first_of
universe-first sources rules = record { owner = λ id. all-rules sources [] id rules }

-- the items of a plan
pub plan-first : (rules : RulesView) (files : List (Bytes × Bytes)) (plan : PlanView) → plan_of rules files ≡ Ok plan → FirstRuleWins (sources_of files) rules.rules plan.items
plan-first rules files plan e = subst (FirstRuleWins (sources_of files) rules.rules) (sym (plan_of-inverse rules files plan e).items) (universe-first (sources_of files) rules.rules)
