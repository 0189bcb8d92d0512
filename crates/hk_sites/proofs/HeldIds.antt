-- The identifiers of a plan's items, and those of the entries that a build leaves, are within their limits.
use Rattle.std.proofs.Common.{◌≡◌, ℕ, ◌<◌, true, false, cond, List, [], ◌∷◌, length, map, fold, filter_map, Option, Some, None, Ok, refl, sym, subst, arith}
use Rattle.std.specs.List.{AllByRecursion, cons_option}
use Rattle.std.specs.Map.{lookup}
use Rattle.std.specs.BTreeMap.{insert_entry, is_at}
use Rattle.std.specs.Option.{is_some}
use Rattle.std.specs.Ordering.{match_ordering}
use Rattle.std.specs.declared.cmp.Ordering.TheVariants.{Less, Equal, Greater}
use Rattle.hk_base.specs.Bytes.{Bytes}
use Rattle.hk_base.specs.Identifier.{Ident, ident_cmp, ident_fault, unless, read_ident}
use Rattle.hk_chain.specs.Facts.{FactsView, TraceMark, group, save}
use Rattle.hk_chain.specs.Layout.{pairs, item_of}
use Rattle.hk_chain.specs.Traces.{asked_in, AreFacts}
use Rattle.hk_eval.specs.PlanTable.{number_of, table_of}
use Rattle.hk_fix.specs.Fix.{Ending, finished, faulted, waiting}
use Rattle.hk_fix.specs.Pages.{Pages}
use Rattle.hk_fix.specs.Report.{upto}
use Rattle.hk_pattern.specs.Pattern.{matches}
use Rattle.hk_rules_file.proofs.LinkedSteps.{Holds, holds-either}
use Rattle.hk_rules_file.specs.Rules.{RulesView}
use Rattle.hk_rules_file.specs.declared.rules.Rule.{Rule}
use Rattle.hk_rules_file.specs.declared.rules.RuleSource.{RuleSource}
use Rattle.hk_rules_file.specs.declared.rules.RuleSource.TheVariants.{Match, Create}
use Rattle.hk_rules.proofs.ItemNumbers.{matches_in-below}
use Rattle.hk_rules.proofs.Outcome.{plan_of-inverse}
use Rattle.hk_rules.proofs.PairNumbers.{all-at}
use Rattle.hk_rules.specs.Plan.{no_item, id_at, pattern_at, matches_in}
use Rattle.hk_rules.specs.PlanView.{PlanView}
use Rattle.hk_rules.specs.Planning.{plan_of}
use Rattle.hk_rules.specs.Sources.{sources}
use Rattle.hk_rules.specs.Universe.{Claim, owner, claim_by, claim_at, matched, created, claims_by, claims_of, claimed, claimed_all, universe}
use Rattle.hk_rules.specs.declared.owner.Owner.{Owner}
use Rattle.hk_rules.specs.declared.source_file.SourceFile.{SourceFile}
use Rattle.hk_store.specs.Digests.{Digests}
use Rattle.hk_store.specs.Entry.{EntryView}
use Rattle.hk_store.specs.Stored.{HeldId, HeldAsk, HeldMatch, HeldMark, HeldEntry, AreHeld}
use Rattle.hk_reuse.proofs.Lists.{all-front, all-back}
use Rattle.hk_reuse.proofs.Listings.{upto-below}
use Rattle.hk_reuse.specs.Image.{match_view, ask_view, mark_view, entry_by, entry_list}
use Rattle.hk_reuse.specs.Site.{Items}
use Rattle.hk_reuse.specs.Storable.{AreStorable}
use Rattle.hk_sites.specs.PlanSite.{items_of}
use Rattle.hk_sites.specs.Rebuilding.{HasDigests}

-- ---- items

abbrev IsHeld : Claim → Type 0
IsHeld claim = HeldId claim.0

read-held : (own : Owner) (path : Bytes) (version : Option Bytes) → Holds IsHeld (claim_by own (read_ident path version))
read-held own path version =
    elim (ident_fault path version) as (λ f. ident_fault path version ≡ f → Holds IsHeld (claim_by own (unless f (record { path = path; version = version })))) [
      | None ↦ λ e. e
      | Some fault ↦ λ e. tt
    ] refl

insert-held : (es : List Claim) (k : Ident) (v : Owner) → AllByRecursion IsHeld es → HeldId k → AllByRecursion IsHeld (insert_entry ident_cmp es k v)
insert-held [] k v h p = (p, tt)
insert-held (e ∷ es) k v h p =
    elim (ident_cmp k e.0) as (λ o. AllByRecursion IsHeld (match_ordering o ((k, v) ∷ e ∷ es) ((e.0, v) ∷ es) (e ∷ insert_entry ident_cmp es k v))) [
      | Less ↦ (p, h)
      | Equal ↦ h
      | Greater ↦ (h.0, insert-held es k v h.1 p)
    ]

claimed-held : (es : List Claim) (c : Option Claim) → AllByRecursion IsHeld es → Holds IsHeld c → AllByRecursion IsHeld (claimed es c)
claimed-held es None h p = h
claimed-held es (Some c) h p =
    elim (is_some (lookup (is_at (ident_cmp c.0)) es)) as (λ b. AllByRecursion IsHeld (cond b es (insert_entry ident_cmp es c.0 c.1))) [
      | true ↦ h
      | false ↦ insert-held es c.0 c.1 h p
    ]

claims-held : (es : List Claim) (cs : List (Option Claim)) → AllByRecursion IsHeld es → AllByRecursion (Holds IsHeld) cs → AllByRecursion IsHeld (fold claimed es cs)
claims-held es [] h p = h
claims-held es (c ∷ cs) h p = claims-held (claimed es c) cs (claimed-held es c h p.0) p.1

map-all : {X Y : Type 0} (Q : Y → Type 0) (f : X → Y) → ((x : X) → Q (f x)) → (xs : List X) → AllByRecursion Q (map f xs)
map-all Q f h [] = tt
map-all Q f h (x ∷ xs) = (h x, map-all Q f h xs)

source-held : (files : List (Bytes × SourceFile)) (rule : Rule) (by : RuleSource) → AllByRecursion (Holds IsHeld) (claims_by files rule by)
source-held files rule (Match pattern) =
    map-all (Holds IsHeld) (matched rule pattern)
    (λ s. holds-either IsHeld (matches pattern s.0 None) (claim_at rule (Some s.1) s.0) None (read-held (owner rule (Some s.1)) s.0 rule.version) tt) files
source-held files rule (Create ids) = map-all (Holds IsHeld) (created rule) (λ id. read-held (owner rule None) id.path rule.version) ids

rules-held : (files : List (Bytes × SourceFile)) (es : List Claim) (rules : List Rule) → AllByRecursion IsHeld es → AllByRecursion IsHeld (fold (claimed_all files) es rules)
rules-held files es [] h = h
rules-held files es (rule ∷ rules) h = rules-held files (claimed_all files es rule) rules (claims-held es (claims_of files rule) h (source-held files rule rule.source))

universe-held : (files : List (Bytes × SourceFile)) (rules : List Rule) → AllByRecursion IsHeld (universe files rules)
unfolding universe
universe-held files rules = rules-held files [] rules tt

pub plan-held : (rules : RulesView) (files : List (Bytes × Bytes)) (plan : PlanView) → plan_of rules files ≡ Ok plan → AllByRecursion (λ item. HeldId item.0) plan.items
plan-held rules files plan e = subst (AllByRecursion IsHeld) (sym (plan_of-inverse rules files plan e).items) (universe-held (sources files) rules.rules)

module _ (plan : PlanView) (held : AllByRecursion IsHeld plan.items) where
  pub id-held : (i : ℕ) → i < length plan.items → HeldId (id_at plan i)
  id-held i lt = all-at IsHeld plan.items i no_item held lt

  ids-held : (ns : List ℕ) → AllByRecursion (λ n. n < length plan.items) ns → AllByRecursion HeldId (map (id_at plan) ns)
  ids-held [] h = tt
  ids-held (n ∷ ns) h = (id-held n h.0, ids-held ns h.1)

  pub matches-held : (by : Bytes) → AllByRecursion HeldId ((items_of plan).table.matches by)
  unfolding table_of
  matches-held by = ids-held (matches_in plan.items (pattern_at plan (number_of plan by))) (matches_in-below plan.items (pattern_at plan (number_of plan by)))

-- ---- entries

module _ (dig : Digests) (sound : HasDigests dig) (items : Items) (are : AreStorable items) (k : Pages) where
  module _ (ids : (i : ℕ) → i < items.table.layout.items → HeldId (items.id i)) (found : (by : Bytes) → AllByRecursion HeldId (items.table.matches by)) where
    abbrev IsPair : ℕ → Type 0
    IsPair p = p < pairs items.table.layout

    patterns-held : (ns : List ℕ) → AllByRecursion HeldMatch (map (match_view items.table) ns)
    patterns-held [] = tt
    patterns-held (n ∷ ns) = (found (items.table.pattern n), patterns-held ns)

    asks-held : (ps : List ℕ) → AllByRecursion IsPair ps → AllByRecursion HeldAsk (map (ask_view dig items.table k) ps)
    asks-held [] h = tt
    asks-held (p ∷ ps) h =
        ((subst HeldId (sym (are.owners p h.0)) (ids (item_of items.table.layout p) (are.shape.in_items p h.0)), (sound.page _, sound.traits _)), asks-held ps h.1)

    marks-held : (trace : List TraceMark) → AllByRecursion IsPair (asked_in trace) → AllByRecursion HeldMark (map (mark_view dig items.table k) trace)
    marks-held [] h = tt
    marks-held (group ps ∷ trace) h = (asks-held ps (all-front IsPair ps (asked_in trace) h), marks-held trace (all-back IsPair ps (asked_in trace) h))
    marks-held (save p ∷ trace) h = (tt, marks-held trace h)

    module _ (ends : ℕ → Ending) (facts : (i : ℕ) (f : FactsView) → i < items.table.layout.items → ends i ≡ finished f → AreFacts items.table.layout i f) where
      abbrev entry_of : ℕ → Option EntryView
      entry_of i = entry_by dig items ends k i (ends i)

      entry-held : (i : ℕ) → i < items.table.layout.items → (v : Ending) → ends i ≡ v → Holds HeldEntry (entry_by dig items ends k i v)
      entry-held i lt (finished f) e =
          let is = facts i f lt e in
          (ids i lt, (sound.text (items.text i), (patterns-held f.patterns, marks-held f.trace (subst (AllByRecursion IsPair) (sym is.asked) is.within))))
      entry-held i lt (faulted fault) e = tt
      entry-held i lt (waiting ps) e = tt

      cons-held : (o : Option EntryView) (es : List EntryView) → Holds HeldEntry o → AreHeld es → AreHeld (cons_option o es)
      cons-held None es h g = g
      cons-held (Some e) es h g = (h, g)

      each-held : (is : List ℕ) → AllByRecursion (λ i. i < items.table.layout.items) is → AreHeld (filter_map entry_of is)
      each-held [] h = tt
      each-held (i ∷ is) h = cons-held (entry_of i) (filter_map entry_of is) (entry-held i h.0 (ends i) refl) (each-held is h.1)

      pub list-held : AreHeld (entry_list dig items ends k)
      list-held = each-held (upto items.table.layout.items) (upto-below items.table.layout.items items.table.layout.items (omega arith))
