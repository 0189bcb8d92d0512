-- Rules that are read have numbers in range, and their names differ.
use Rattle.std.proofs.Common.{◌≡◌, ℕ, ◌+◌, ◌≤◌, true, false, List, [], ◌∷◌, ◌++◌, length, Option, Some, None, option_map, Result, Ok, Err, IfOk, arith}
use Rattle.std.specs.Prelude.{bytes_eq, codes, is_some}
use Rattle.std.specs.List.{AllByRecursion}
use Rattle.toml.specs.Data.{Data, Items, no_items, item, Members, as_table, get_member}
use Rattle.hk_base.specs.Bytes.{Bytes}
use Rattle.hk_chain.specs.declared.chain.Step.{Step}
use Rattle.hk_pattern.specs.declared.pattern.Pattern.{Pattern}
use Rattle.hk_route.specs.declared.route.Route.{Route}
use Rattle.hk_rules_file.specs.Linked.{IsStepWithin, IsLinkedChain, has_bytes, IsRouted}
use Rattle.hk_rules_file.specs.Linking.{link_steps}
use Rattle.hk_rules_file.specs.RuleForm.{draft_by, draft_in, source_in, steps_in, optional, first_other, is_rule_key, finished, numbered_rule, rule_by, next_rule, rules_from}
use Rattle.hk_forms.specs.IdForm.{version_of}
use Rattle.hk_forms.specs.Names.{is_snapshot_name}
use Rattle.hk_forms.specs.RouteForm.{route_of}
use Rattle.hk_chain.specs.Names.{final_name}
use Rattle.hk_rules_file.specs.declared.draft_rule.DraftRule.{DraftRule}
use Rattle.hk_steps.specs.declared.draft.DraftStep.{DraftStep}
use Rattle.hk_rules_file.specs.declared.rules.Rule.{Rule}
use Rattle.hk_rules_file.specs.declared.rules.RuleSource.{RuleSource}
use Rattle.hk_rules_file.specs.declared.fault.RulesFault.{RulesFault}
use Rattle.hk_rules_file.proofs.LinkedNumbers.{all-push, all-weaken, distinct-push, IsGrown, grown-same, grown-more}
use Rattle.hk_rules_file.proofs.LinkedSteps.{Holds, IsReady, no-saves, AreLinkedSteps, chain-ready, chain-short, link_steps-length, not-final, within-more, link_steps-linked}
use Rattle.hk_rules_file.proofs.LinkedRoutes.{route-bytes}

-- ---- rules

-- the steps and the route of a rule that is read
record IsReadyRule (draft : DraftRule) : Type 0 where
  steps : AllByRecursion IsReady draft.steps
  short : length draft.steps ≤ 64
  route : IsRouted draft.route

draft_by-ready : (n : ℕ) (key : Option Bytes) (source : Result RuleSource Bytes) (version : Option (Option Bytes)) (route : Option (Option Route)) (steps : Option (List DraftStep)) → Holds IsRouted route → Holds (AllByRecursion IsReady) steps → Holds (λ drafts. length drafts ≤ 64) steps → IfOk (draft_by n key source version route steps) IsReadyRule
draft_by-ready n (Some key) source version route steps r h k = tt
draft_by-ready n None (Err key) version route steps r h k = tt
draft_by-ready n None (Ok source) None route steps r h k = tt
draft_by-ready n None (Ok source) (Some version) None steps r h k = tt
draft_by-ready n None (Ok source) (Some version) (Some route) None r h k = tt
draft_by-ready n None (Ok source) (Some version) (Some route) (Some steps) r h k = record { steps = h; short = k; route = r }

some-routed : (route : Option Route) → Holds (λ by. has_bytes by ≡ true) route → Holds IsRouted (option_map Some route)
some-routed None h = tt
some-routed (Some route) h = h

pub routed : (d : Option Data) → Holds IsRouted (optional route_of d)
routed None = tt
routed (Some d) = some-routed (route_of d) (route-bytes d)

draft_in-ready : (n : ℕ) (ms : Members) → IfOk (draft_in n ms) IsReadyRule
unfolding draft_in steps_in
draft_in-ready n ms =
    draft_by-ready n (first_other is_rule_key ms) (source_in ms) (optional version_of (get_member (codes "version") ms)) (optional route_of (get_member (codes "route") ms)) (steps_in ms) (routed (get_member (codes "route") ms))
    (chain-ready (is_some (get_member (codes "create") ms)) (get_member (codes "compile") ms))
    (chain-short (is_some (get_member (codes "create") ms)) (get_member (codes "compile") ms))

pub chain-more : (c d p q : ℕ) → c ≤ d → p ≤ q → (steps : List Step) → IsLinkedChain c p steps → IsLinkedChain d q steps
chain-more c d p q le lq steps h = record { short = h.short; within = all-weaken (IsStepWithin c p) (IsStepWithin d q) (within-more c d p q le lq) steps h.within; names = h.names; saved = h.saved }

-- a chain, and the patterns then
pub record IsChain (names : List Bytes) (pool : List Pattern) (r : List Step × List Pattern) : Type 0 where
  pub linked : IsLinkedChain (length names) (length r.1) r.0
  pub grown : IsGrown pool r.1

chain-by : (names : List Bytes) (pool : List Pattern) (drafts : List DraftStep) → length drafts ≤ 64 → (r : Result (List Step × List Pattern) RulesFault) → IfOk r (λ x. length x.0 ≡ 0 + length drafts) → IfOk r (AreLinkedSteps names pool) → IfOk r (IsChain names pool)
chain-by names pool drafts short (Err fault) long h = tt
chain-by names pool drafts short (Ok r) long h =
    record {
      linked = record { short = omega (arith, long); within = h.within; names = distinct-push bytes_eq _ final_name h.saves.apart (all-weaken (λ name. is_snapshot_name name ≡ true) (λ name. bytes_eq name final_name ≡ false) not-final _ h.saves.named); saved = h.saves.named };
      grown = h.grown;
    }

pub chain-linked : (n : ℕ) (names : List Bytes) (pool : List Pattern) (drafts : List DraftStep) → length drafts ≤ 64 → AllByRecursion IsReady drafts → IfOk (link_steps n names drafts pool []) (IsChain names pool)
chain-linked n names pool drafts short ready = chain-by names pool drafts short (link_steps n names drafts pool []) (link_steps-length n names drafts pool []) (link_steps-linked n names drafts pool [] ready (tt, no-saves))

-- a rule, and the patterns then
record IsLinkedRule (names : List Bytes) (pool : List Pattern) (r : Rule × List Pattern) : Type 0 where
  chain : IsLinkedChain (length names) (length r.1) r.0.chain
  route : IsRouted r.0.route
  grown : IsGrown pool r.1

finished-linked : (names : List Bytes) (pool : List Pattern) (draft : DraftRule) → IsRouted draft.route → (r : Result (List Step × List Pattern) RulesFault) → IfOk r (IsChain names pool) → IfOk (finished draft r) (IsLinkedRule names pool)
finished-linked names pool draft to (Err fault) h = tt
finished-linked names pool draft to (Ok r) h = record { chain = h.linked; route = to; grown = h.grown }

numbered-linked : (n : ℕ) (names : List Bytes) (pool : List Pattern) (r : Result DraftRule RulesFault) → IfOk r IsReadyRule → IfOk (numbered_rule n names pool r) (IsLinkedRule names pool)
numbered-linked n names pool (Err fault) h = tt
numbered-linked n names pool (Ok draft) h = finished-linked names pool draft h.route (link_steps n names draft.steps pool []) (chain-linked n names pool draft.steps h.short h.steps)

rule-linked : (n : ℕ) (names : List Bytes) (pool : List Pattern) (ms : Option Members) → IfOk (rule_by n names pool ms) (IsLinkedRule names pool)
rule-linked n names pool None = tt
rule-linked n names pool (Some ms) = numbered-linked n names pool (draft_in n ms) (draft_in-ready n ms)

abbrev pub RulesWithin : ℕ → List Pattern → List Rule → Type 0
RulesWithin contexts pool rules = AllByRecursion (λ rule. IsLinkedChain contexts (length pool) rule.chain) rules

pub rules-more : (c d : ℕ) (pool next : List Pattern) → c ≤ d → IsGrown pool next → (rules : List Rule) → RulesWithin c pool rules → RulesWithin d next rules
rules-more c d pool next le g rules h = all-weaken (λ rule. IsLinkedChain c (length pool) rule.chain) (λ rule. IsLinkedChain d (length next) rule.chain) (λ rule k. chain-more c d (length pool) (length next) le g.long rule.chain k) rules h

abbrev pub Routed : Rule → Type 0
Routed rule = IsRouted rule.route

abbrev Done : List Bytes → List Pattern → List Rule → Type 0
Done names pool done = RulesWithin (length names) pool done × AllByRecursion Routed done

-- rules after those that are done, and the patterns then
pub record AreLinkedRules (names : List Bytes) (pool : List Pattern) (r : List Rule × List Pattern) : Type 0 where
  pub within : RulesWithin (length names) r.1 r.0
  pub routes : AllByRecursion Routed r.0
  pub grown : IsGrown pool r.1

rules-grown : (names : List Bytes) (pool next : List Pattern) → IsGrown pool next → (r : Result (List Rule × List Pattern) RulesFault) → IfOk r (AreLinkedRules names next) → IfOk r (AreLinkedRules names pool)
rules-grown names pool next g (Err fault) h = tt
rules-grown names pool next g (Ok r) h = record { within = h.within; routes = h.routes; grown = grown-more pool next r.1 g h.grown }

rules-next : (names : List Bytes) (pool : List Pattern) (done : List Rule) (rest : List Pattern → List Rule → Result (List Rule × List Pattern) RulesFault) → ((q : List Pattern) (d : List Rule) → Done names q d → IfOk (rest q d) (AreLinkedRules names q)) → Done names pool done → (r : Result (Rule × List Pattern) RulesFault) → IfOk r (IsLinkedRule names pool) → IfOk (next_rule rest done r) (AreLinkedRules names pool)
rules-next names pool done rest later h (Err fault) k = tt
rules-next names pool done rest later h (Ok r) k =
    let old = rules-more (length names) (length names) pool r.1 (omega arith) k.grown done h.0 in
    rules-grown names pool r.1 k.grown (rest r.1 (done ++ r.0 ∷ []))
    (later r.1 (done ++ r.0 ∷ []) (all-push (λ rule. IsLinkedChain (length names) (length r.1) rule.chain) done r.0 old k.chain, all-push Routed done r.0 h.1 k.route))

pub rules_from-linked : (names : List Bytes) (ds : Items) (n : ℕ) (pool : List Pattern) (done : List Rule) → Done names pool done → IfOk (rules_from names ds n pool done) (AreLinkedRules names pool)
rules_from-linked names no_items n pool done h = record { within = h.0; routes = h.1; grown = grown-same pool }
rules_from-linked names (item d ds) n pool done h =
    rules-next names pool done (rules_from names ds (n + 1)) (λ q r k. rules_from-linked names ds (n + 1) q r k) h (rule_by n names pool (as_table d)) (rule-linked n names pool (as_table d))
