use Rattle.std.proofs.Common.{◌≡◌, sym, ap, ◌∙◌, rules, true}
use Rattle.std.specs.Prelude.{bytes_eq}
use Rattle.std.specs.Option.{unwrap_or}
use Rattle.std.proofs.lemmas.Bool.{OnTrue_at, OnTrue_from}
use Rattle.hk_base.specs.Ties.{bytes-same}
use Rattle.hk_chain.specs.Kept.{at_place}
use Rattle.hk_eval.specs.PlanTable.{table_of}
use Rattle.hk_fix.specs.Table.{Key}
use Rattle.hk_store.specs.Entry.{stored}
use Rattle.hk_reuse.specs.Entries.{blank_page}
use Rattle.hk_reuse.specs.Image.{page_at}
use Rattle.hk_replay.proofs.LeftEntries.{key-same, name-same}
use Rattle.hk_replay.proofs.leaving.has_save.Goals as goal

pub returns : goal.returns
returns c =
    let plan = c.args.plan.now in
    let pair = c.args.pair in
    let save = c.args.save.now in
    let key = (table_of plan).key pair in
    let equal : bytes_eq c.pair_name.result.now c.as_slice.result.now ≡ true = search rules in
    let own : key.name ≡ c.pair_name.result.now = ap (λ (k : Key). k.name) (key-same plan pair) ∙ sym (c.pair_name.ensures ∙ name-same plan pair) in
    let name : key.name ≡ save.name = own ∙ (bytes-same _ _ equal ∙ c.as_slice.ensures) in
    let there : page_at (at_place c.args.pages.now) pair ≡ c.get.result.now = ap (λ o. unwrap_or o blank_page) c.page_of.ensures ∙ sym c.get.ensures in
    OnTrue_from c.is_same.result _ (λ e.
    let page : page_at (at_place c.args.pages.now) pair ≡ save.page = there ∙ (OnTrue_at e c.is_same.ensures ∙ c.get-2.ensures) in
    λ i. stored (name i) (page i))
