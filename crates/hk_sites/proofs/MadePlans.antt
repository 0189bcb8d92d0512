-- The plan of linked rules is one as rules make them.
use Rattle.std.proofs.Common.{◌≡◌, ◌≤◌, true, false, cond, List, [], ◌∷◌, length, fold, nat_lt, Option, Some, None, Ok, refl, sym, ap, ◌∙◌, subst}
use Rattle.std.specs.List.{AllByRecursion}
use Rattle.std.specs.List.Sorted.{IsStrictlySortedBy}
use Rattle.std.specs.Map.{keys_of, lookup}
use Rattle.std.specs.BTreeMap.{insert_entry, is_at}
use Rattle.std.specs.Option.{is_some}
use Rattle.std.specs.Ordering.{match_ordering, ordering_reverse}
use Rattle.std.specs.declared.cmp.Ordering.TheVariants.{Less, Equal, Greater}
use Rattle.std.proofs.lemmas.Bool.{ltb-false}
use Rattle.hk_base.specs.Bytes.{Bytes}
use Rattle.hk_base.specs.Identifier.{Ident, ident_cmp}
use Rattle.hk_base.specs.IdentTies.{ident_cmp_total}
use Rattle.hk_chain.specs.Context.{ContextView}
use Rattle.hk_pattern.specs.declared.pattern.Pattern.{Pattern}
use Rattle.hk_rules_file.specs.Linked.{IsLinked}
use Rattle.hk_rules_file.specs.Rules.{RulesView}
use Rattle.hk_rules_file.specs.declared.rules.Rule.{Rule}
use Rattle.hk_rules.proofs.LinkedPlans.{enough-linked}
use Rattle.hk_rules.proofs.Outcome.{plan_of-inverse}
use Rattle.hk_rules.proofs.Traversal.{each_length}
use Rattle.hk_rules.specs.Headers.{header_of}
use Rattle.hk_rules.specs.LinkedPlan.{AreLinkedItems, IsLinkedPlan}
use Rattle.hk_rules.specs.MadePlan.{IsMadePlan}
use Rattle.hk_rules.specs.PlanView.{PlanView}
use Rattle.hk_rules.specs.Planning.{plan_of, count_fault}
use Rattle.hk_rules.specs.Sources.{sources}
use Rattle.hk_rules.specs.Targets.{target_of}
use Rattle.hk_rules.specs.Universe.{Claim, same, claimed, claims_of, claimed_all, universe}
use Rattle.hk_rules.specs.declared.owner.Owner.{Owner}
use Rattle.hk_rules.specs.declared.plan_fault.PlanFault.TheVariants.{TooManyItems}
use Rattle.hk_rules.specs.declared.source_file.SourceFile.{SourceFile}

-- ---- the items stand in the order of their identifiers

abbrev AllAbove : Ident → List Claim → Type 0
AllAbove x es = AllByRecursion (λ y. ident_cmp x y ≡ Less) (keys_of es)

abbrev AreSorted : List Claim → Type 0
AreSorted es = IsStrictlySortedBy ident_cmp (keys_of es)

above-more : (x y : Ident) (es : List Claim) → ident_cmp x y ≡ Less → AllAbove y es → AllAbove x es
above-more x y [] l h = tt
above-more x y (e ∷ es) l h = (ident_cmp_total.trans x y e.0 l h.0, above-more x y es l h.1)

insert-above : (x : Ident) (es : List Claim) (k : Ident) (v : Owner) → ident_cmp x k ≡ Less → AllAbove x es → AllAbove x (insert_entry ident_cmp es k v)
insert-above x [] k v l h = (l, tt)
insert-above x (e ∷ es) k v l h =
    elim (ident_cmp k e.0) as (λ o. AllAbove x (match_ordering o ((k, v) ∷ e ∷ es) ((e.0, v) ∷ es) (e ∷ insert_entry ident_cmp es k v))) [
      | Less ↦ (l, h)
      | Equal ↦ h
      | Greater ↦ (h.0, insert-above x es k v l h.1)
    ]

insert-sorted : (es : List Claim) (k : Ident) (v : Owner) → AreSorted es → AreSorted (insert_entry ident_cmp es k v)
unfolding IsStrictlySortedBy
insert-sorted [] k v s = (tt, tt)
insert-sorted (e ∷ es) k v s =
    elim (ident_cmp k e.0) as (λ o. ident_cmp k e.0 ≡ o → AreSorted (match_ordering o ((k, v) ∷ e ∷ es) ((e.0, v) ∷ es) (e ∷ insert_entry ident_cmp es k v))) [
      | Less ↦ λ q. ((q, above-more k e.0 es q s.0), s)
      | Equal ↦ λ q. s
      | Greater ↦ λ q. (insert-above e.0 es k v (ident_cmp_total.antisymm e.0 k ∙ ap ordering_reverse q) s.0, insert-sorted es k v s.1)
    ] refl

claimed-sorted : (es : List Claim) (c : Option Claim) → AreSorted es → AreSorted (claimed es c)
claimed-sorted es None s = s
claimed-sorted es (Some c) s =
    elim (is_some (lookup (is_at (ident_cmp c.0)) es)) as (λ b. AreSorted (cond b es (insert_entry ident_cmp es c.0 c.1))) [
      | true ↦ s
      | false ↦ insert-sorted es c.0 c.1 s
    ]

claims-sorted : (es : List Claim) (cs : List (Option Claim)) → AreSorted es → AreSorted (fold claimed es cs)
claims-sorted es [] s = s
claims-sorted es (c ∷ cs) s = claims-sorted (claimed es c) cs (claimed-sorted es c s)

rules-sorted : (files : List (Bytes × SourceFile)) (es : List Claim) (rules : List Rule) → AreSorted es → AreSorted (fold (claimed_all files) es rules)
rules-sorted files es [] s = s
rules-sorted files es (rule ∷ rules) s = rules-sorted files (claimed_all files es rule) rules (claims-sorted es (claims_of files rule) s)

universe-sorted : (files : List (Bytes × SourceFile)) (rules : List Rule) → AreSorted (universe files rules)
unfolding universe IsStrictlySortedBy
universe-sorted files rules = rules-sorted files [] rules tt

-- ---- plans

few-items : (items : List Claim) → count_fault items ≡ None → length items ≤ 65535
few-items items =
    elim (nat_lt 65535 (length items)) as (λ b. nat_lt 65535 (length items) ≡ b → cond b (Some TooManyItems) None ≡ None → length items ≤ 65535) [
      | true ↦ λ t e. cc
      | false ↦ λ t e. ltb-false 65535 (length items) t
    ] refl

linked-by : (plan : PlanView) (contexts : List ContextView) (patterns : List Pattern) → plan.contexts ≡ contexts → plan.patterns ≡ patterns → AreLinkedItems contexts patterns plan.items → IsLinkedPlan plan
linked-by plan contexts patterns cs ps h =
    let whole = subst (λ c. AreLinkedItems c plan.patterns plan.items) (sym cs) (subst (λ p. AreLinkedItems contexts p plan.items) (sym ps) h) in
    record { chains = whole.chains; named = whole.named }

pub plan-made : (rules : RulesView) (files : List (Bytes × Bytes)) (plan : PlanView) → plan_of rules files ≡ Ok plan → IsLinked rules → IsMadePlan plan
plan-made rules files plan e linked =
    let is = plan_of-inverse rules files plan e in
    let few = few-items plan.items is.counted in
    record {
      form = record {
        sorted = subst AreSorted (sym is.items) (universe-sorted (sources files) rules.rules);
        few = few;
        headed = each_length header_of plan.items plan.headers is.headers;
        routed = each_length target_of plan.items plan.targets is.targets;
      };
      linked = linked-by plan rules.contexts rules.patterns is.contexts is.patterns (enough-linked rules (sources files) plan.items linked (same is.items) few);
      headed = is.headers;
    }
