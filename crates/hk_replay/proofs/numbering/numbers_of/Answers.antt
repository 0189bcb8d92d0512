use Rattle.std.proofs.Common.{sym, ap, ◌∙◌, ℕ, ◌∷◌, ◌++◌, [], map, take, List}
use Rattle.std.specs.Prelude.{bytes_eq}
use Rattle.std.specs.List.{position_from}
use Rattle.std.specs.Option.{unwrap_or}
use Rattle.hk_store.specs.Entry.{MatchView}
use Rattle.hk_replay.proofs.Matching.{map-turn}
use Rattle.hk_replay.proofs.numbering.numbers_of.Goals as goal

pub loop-found-preserved : goal.loop-found-preserved
loop-found-preserved c =
    let records : List MatchView = c.args.records.now in
    let texts = c.args.known.now.texts in
    let i = c.loop-found.found-index in
    let f : MatchView → ℕ = λ m. unwrap_or (position_from (λ own. bytes_eq own m.text) 0 texts) 0 in
    c.in_ok-push.ensures.items ∙ (ap (λ (l : List ℕ). l ++ c.number_of-number.result ∷ []) c.loop-found.invariant ∙ (ap (λ (n : ℕ). map f (take i records) ++ n ∷ []) c.number_of-number.ensures ∙ sym (map-turn f records i c.found-item.result c.loop-found-test.true c.found-item.is)))
