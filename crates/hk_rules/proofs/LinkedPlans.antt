-- The plan of linked rules is linked.
use Rattle.std.proofs.Common.{◌≡◌, ℕ, ◌<◌, ◌≤◌, Bool, true, false, cond, ◌&&◌, not, List, [], ◌∷◌, length, map, Option, Some, None, Result, Ok, Err, refl, sym, subst, fold, find, arith}
use Rattle.std.specs.List.{AllByRecursion, list_all}
use Rattle.std.specs.Map.{lookup}
use Rattle.std.specs.BTreeMap.{insert_entry, is_at}
use Rattle.std.specs.Option.{is_some, option_map}
use Rattle.std.specs.Ordering.{match_ordering}
use Rattle.std.specs.declared.cmp.Ordering.TheVariants.{Less, Equal, Greater}
use Rattle.hk_base.specs.Bytes.{Bytes}
use Rattle.hk_base.specs.Identifier.{Ident, ident_cmp, read_ident}
use Rattle.hk_base.specs.declared.identifier.IdentFault.{IdentFault}
use Rattle.hk_base.proofs.Both.{left-part, right-part, not-both}
use Rattle.hk_chain.specs.Context.{ContextView}
use Rattle.hk_chain.specs.declared.chain.Step.{Step}
use Rattle.hk_meta.specs.declared.answer.Split.{Split}
use Rattle.hk_pattern.specs.Pattern.{matches}
use Rattle.hk_pattern.specs.declared.pattern.Pattern.{Pattern}
use Rattle.hk_rules_file.specs.Linked.{IsLinkedChain, IsLinked}
use Rattle.hk_rules_file.specs.declared.tables.FeedRule.{FeedRule}
use Rattle.hk_rules.specs.LinkedPlan.{AreLinkedItems, IsLinkedPlan}
use Rattle.hk_rules.specs.Pairs.{IsShort}
use Rattle.hk_rules.specs.PlanView.{PlanView}
use Rattle.hk_rules.specs.Planning.{plan_by}
use Rattle.hk_rules_file.specs.Rules.{RulesView}
use Rattle.hk_rules.specs.Universe.{Claim, Enough, same, many, owner, claim_by, claim_at, matched, created, claims_by, claims_of, claimed, claimed_all, universe}
use Rattle.hk_rules_file.specs.declared.rules.Rule.{Rule}
use Rattle.hk_rules_file.specs.declared.rules.RuleSource.{RuleSource}
use Rattle.hk_rules_file.specs.declared.rules.RuleSource.TheVariants.{Match, Create}
use Rattle.hk_rules.specs.declared.source_file.SourceFile.{SourceFile}
use Rattle.hk_rules.specs.declared.owner.Owner.{Owner}
use Rattle.hk_rules_file.proofs.LinkedNumbers.{all-weaken}
use Rattle.hk_rules_file.proofs.LinkedSteps.{Holds, holds-either}

-- ---- what holds of all rules holds of the owners of all items

abbrev Owned : (Rule → Type 0) → Claim → Type 0
Owned P item = P item.1.rule

insert-all : (P : Rule → Type 0) (es : List Claim) (k : Ident) (v : Owner) → AllByRecursion (Owned P) es → P v.rule → AllByRecursion (Owned P) (insert_entry ident_cmp es k v)
insert-all P [] k v h p = (p, tt)
insert-all P (e ∷ es) k v h p =
    elim (ident_cmp k e.0) as (λ o. AllByRecursion (Owned P) (match_ordering o ((k, v) ∷ e ∷ es) ((e.0, v) ∷ es) (e ∷ insert_entry ident_cmp es k v))) [
      | Less ↦ (p, h)
      | Equal ↦ (p, h.1)
      | Greater ↦ (h.0, insert-all P es k v h.1 p)
    ]

claimed-owned : (P : Rule → Type 0) (es : List Claim) (c : Option Claim) → AllByRecursion (Owned P) es → Holds (Owned P) c → AllByRecursion (Owned P) (claimed es c)
claimed-owned P es None h p = h
claimed-owned P es (Some c) h p =
    elim (is_some (lookup (is_at (ident_cmp c.0)) es)) as (λ b. AllByRecursion (Owned P) (cond b es (insert_entry ident_cmp es c.0 c.1))) [
      | true ↦ h
      | false ↦ insert-all P es c.0 c.1 h p
    ]

claims-owned : (P : Rule → Type 0) (es : List Claim) (cs : List (Option Claim)) → AllByRecursion (Owned P) es → AllByRecursion (Holds (Owned P)) cs → AllByRecursion (Owned P) (fold claimed es cs)
claims-owned P es [] h p = h
claims-owned P es (c ∷ cs) h p = claims-owned P (claimed es c) cs (claimed-owned P es c h p.0) p.1

claim-owned : (P : Rule → Type 0) (own : Owner) (id : Result Ident IdentFault) → P own.rule → Holds (Owned P) (claim_by own id)
claim-owned P own (Ok id) p = p
claim-owned P own (Err fault) p = tt

map-all : {X Y : Type 0} (Q : Y → Type 0) (f : X → Y) → ((x : X) → Q (f x)) → (xs : List X) → AllByRecursion Q (map f xs)
map-all Q f h [] = tt
map-all Q f h (x ∷ xs) = (h x, map-all Q f h xs)

pub source-owned : (P : Rule → Type 0) (sources : List (Bytes × SourceFile)) (rule : Rule) → P rule → (by : RuleSource) → AllByRecursion (Holds (Owned P)) (claims_by sources rule by)
source-owned P sources rule p (Match pattern) =
    map-all (Holds (Owned P)) (matched rule pattern)
    (λ s. holds-either (Owned P) (matches pattern s.0 None) (claim_at rule (Some s.1) s.0) None (claim-owned P (owner rule (Some s.1)) (read_ident s.0 rule.version) p) tt) sources
source-owned P sources rule p (Create ids) = map-all (Holds (Owned P)) (created rule) (λ id. claim-owned P (owner rule None) (read_ident id.path rule.version) p) ids

rules-owned : (P : Rule → Type 0) (sources : List (Bytes × SourceFile)) (es : List Claim) (rules : List Rule) → AllByRecursion (Owned P) es → AllByRecursion P rules → AllByRecursion (Owned P) (fold (claimed_all sources) es rules)
rules-owned P sources es [] h p = h
rules-owned P sources es (rule ∷ rules) h p =
    rules-owned P sources (claimed_all sources es rule) rules
    (claims-owned P es (claims_of sources rule) h (source-owned P sources rule p.0 rule.source)) p.1

pub universe-owned : (P : Rule → Type 0) (sources : List (Bytes × SourceFile)) (rules : List Rule) → AllByRecursion P rules → AllByRecursion (λ item. P item.1.rule) (universe sources rules)
unfolding universe
universe-owned P sources rules p = rules-owned P sources [] rules tt p

-- ---- steps that can be run

pub find-none : {X : Type 0} (p : X → Bool) (xs : List X) → find p xs ≡ None → AllByRecursion (λ x. p x ≡ false) xs
find-none p [] e = tt
find-none p (x ∷ xs) e = elim (p x) as (λ b. p x ≡ b → cond b (Some x) (find p xs) ≡ None → AllByRecursion (λ x. p x ≡ false) (x ∷ xs)) [
  | true ↦ λ t h. cc
  | false ↦ λ t h. (t, find-none p xs h)
] refl e

-- ---- plans

abbrev pub LinkedItems : RulesView → List Claim → Type 0
LinkedItems rules items = AreLinkedItems rules.contexts rules.patterns items

universe-linked : (rules : RulesView) (sources : List (Bytes × SourceFile)) → IsLinked rules → LinkedItems rules (universe sources rules.rules)
universe-linked rules sources h =
    record {
      chains = universe-owned (λ rule. IsLinkedChain (length rules.contexts) (length rules.patterns) rule.chain) sources rules.rules h.chains;
      named = h.named;
    }

-- the items of linked rules, where there aren't too many
pub enough-linked : (rules : RulesView) (sources : List (Bytes × SourceFile)) (items : List Claim) → IsLinked rules → Enough items (universe sources rules.rules) → length items ≤ 65535 → LinkedItems rules items
enough-linked rules sources items h (same e) few = subst (LinkedItems rules) (sym e) (universe-linked rules sources h)
enough-linked rules sources items h (many long all) few = absurd (omega arith)

-- the plan of linked items
pub plan_by-linked : (contexts : List ContextView) (patterns : List Pattern) (feeds : List FeedRule) (items : List Claim) (headers : List Split) (targets : List (Option Bytes)) → AreLinkedItems contexts patterns items → IsLinkedPlan (plan_by contexts patterns feeds items headers targets)
plan_by-linked contexts patterns feeds items headers targets h = record { chains = h.chains; named = h.named }

-- the chains of a linked plan are short
pub chains-short : (plan : PlanView) → IsLinkedPlan plan → AllByRecursion IsShort plan.items
chains-short plan h = all-weaken (λ item. IsLinkedChain (length plan.contexts) (length plan.patterns) item.1.rule.chain) IsShort (λ item linked. linked.short) plan.items h.chains
