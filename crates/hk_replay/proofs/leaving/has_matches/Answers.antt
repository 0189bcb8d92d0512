use Rattle.std.proofs.Common.{◌≡◌, sym, ap, subst, ◌∙◌, ◌<◌, ℕ, [], length, map, get_or, List, rules, true}
use Rattle.std.specs.Prelude.{bytes_eq}
use Rattle.std.specs.List.{AllByRecursion}
use Rattle.std.specs.Ordering.{eq_by_cmp}
use Rattle.std.proofs.lemmas.Bool.{OnTrue_from}
use Rattle.hk_base.specs.Bytes.{Bytes}
use Rattle.hk_base.specs.Identifier.{ident_cmp}
use Rattle.hk_base.specs.IdentTies.{idents-same}
use Rattle.hk_base.specs.Ties.{bytes-same}
use Rattle.hk_eval.specs.PlanTable.{table_of}
use Rattle.hk_rules.specs.Plan.{id_at, pattern_at}
use Rattle.hk_rules.proofs.ItemNumbers.{matches_in-below}
use Rattle.hk_store.specs.Entry.{MatchView}
use Rattle.hk_reuse.proofs.Tests.{list-same}
use Rattle.hk_replay.proofs.LeftEntries.{matches-own, pattern-own, text-at}
use Rattle.hk_replay.proofs.Matching.{matches-same}
use Rattle.hk_replay.proofs.leaving.has_matches.Goals as goal

pub are_same-requires : goal.are_same-requires
are_same-requires c =
    let plan = c.args.plan.now in
    let n = c.args.number in
    let same = c.matches.ensures ∙ matches-same plan n in
    subst (AllByRecursion (λ i. i < length plan.items)) (sym same) (matches_in-below plan.items (pattern_at plan n))

pub returns : goal.returns
returns c =
    let plan = c.args.plan.now in
    let n = c.args.number in
    let texts : List Bytes = c.args.known.now.texts in
    let table = table_of plan in
    let found = c.found.inside in
    let equal : bytes_eq c.text.result.now c.as_slice.result.now ≡ true = search rules in
    let own : table.pattern n ≡ c.text.result.now = pattern-own plan n ∙ sym (c.text.ensures ∙ (ap (λ (k : ℕ). get_or texts k []) c.number.view_is ∙ text-at plan texts n c.requires.known.texts c.requires.number)) in
    let text : table.pattern n ≡ found.text = own ∙ (bytes-same _ _ equal ∙ c.as_slice.ensures) in
    let same = c.matches.ensures ∙ matches-same plan n in
    let ids : table.matches (table.pattern n) ≡ map (id_at plan) c.matches.result.now = ap table.matches (pattern-own plan n) ∙ (matches-own plan c.requires.form c.requires.linked n c.requires.number ∙ sym (ap (map (id_at plan)) same)) in
    OnTrue_from c.are_same.result _ (λ e.
    let listed : map (id_at plan) c.matches.result.now ≡ c.deref.result.now = list-same (eq_by_cmp ident_cmp) idents-same _ _ (sym c.are_same.ensures ∙ e) in
    let matches : table.matches (table.pattern n) ≡ found.matches.items = ids ∙ (listed ∙ c.deref.ensures.value) in
    (λ i. (let m : MatchView = record { text = text i; matches = matches i } in m)) ∙ c.found.view_is)
