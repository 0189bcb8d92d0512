use Rattle.std.proofs.Common.{◌≡◌, sym, ap, subst, ◌∙◌, ◌<◌, ℕ, [], length, map, get_or, List}
use Rattle.std.specs.List.{AllByRecursion}
use Rattle.hk_base.specs.Bytes.{Bytes}
use Rattle.hk_eval.specs.PlanTable.{table_of}
use Rattle.hk_rules.specs.Plan.{id_at, pattern_at}
use Rattle.hk_rules.proofs.ItemNumbers.{matches_in-below}
use Rattle.hk_store.specs.Entry.{MatchView}
use Rattle.hk_replay.proofs.LeftEntries.{matches-own, pattern-own, text-at}
use Rattle.hk_replay.proofs.Matching.{matches-same}
use Rattle.hk_replay.proofs.storing.match_of.Goals as goal

pub ids_of-requires : goal.ids_of-requires
ids_of-requires c =
    let plan = c.args.plan.now in
    let n = c.args.number in
    let same = c.matches.ensures ∙ matches-same plan n in
    subst (AllByRecursion (λ i. i < length plan.items)) (sym same) (matches_in-below plan.items (pattern_at plan n))

pub returns : goal.returns
returns c =
    let plan = c.args.plan.now in
    let n = c.args.number in
    let texts : List Bytes = c.args.known.now.texts in
    let table = table_of plan in
    let text : c.in_ok-text.text ≡ table.pattern n = c.in_ok-text.ensures ∙ (c.text.ensures ∙ (ap (λ (k : ℕ). get_or texts k []) c.number.view_is ∙ (text-at plan texts n c.requires.known.texts c.requires.number ∙ sym (pattern-own plan n)))) in
    let same = c.matches.ensures ∙ matches-same plan n in
    let ids : c.in_ok-matches.matches.items ≡ table.matches (table.pattern n) = c.in_ok-matches.ensures ∙ (ap (map (id_at plan)) same ∙ (sym (matches-own plan c.requires.form c.requires.linked n c.requires.number) ∙ ap table.matches (sym (pattern-own plan n)))) in
    λ i. (let m : MatchView = record { text = text i; matches = ids i } in m)
