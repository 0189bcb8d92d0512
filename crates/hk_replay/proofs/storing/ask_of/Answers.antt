use Rattle.std.proofs.Common.{◌≡◌, sym, ap, subst, ◌∙◌, arith, ◌<◌, length}
use Rattle.std.specs.Option.{unwrap_or}
use Rattle.hk_chain.specs.Kept.{at_place}
use Rattle.hk_chain.specs.Layout.{Shape, pairs, item_of}
use Rattle.hk_eval.specs.PlanTable.{table_of}
use Rattle.hk_fix.specs.Table.{Key}
use Rattle.hk_rules.specs.Plan.{id_at, pair_owner, pair_name_of}
use Rattle.hk_store.specs.Entry.{AskView}
use Rattle.hk_store.specs.Traits.{sha_digests}
use Rattle.hk_reuse.specs.Entries.{blank_page}
use Rattle.hk_reuse.specs.Image.{page_at}
use Rattle.hk_replay.proofs.LeftEntries.{layout-lookups, key-same, name-same, traits-own}
use Rattle.hk_replay.proofs.Matching.{layout-items, id-same}
use Rattle.hk_replay.proofs.storing.ask_of.Goals as goal

pub item_of-item-requires : goal.item_of-item-requires
item_of-item-requires c = subst (λ (l : Shape). c.args.pair < pairs l) (sym (c.get.ensures ∙ (c.layout.ensures ∙ layout-lookups c.args.plan.now))) c.requires.page.0

pub id-requires : goal.id-requires
id-requires c = omega (arith, c.item_of-item.ensures.bound, ap (λ (l : Shape). l.items) (c.get.ensures ∙ c.layout.ensures), layout-items c.args.plan.now)

pub traits_of-traits-requires : goal.traits_of-traits-requires
traits_of-traits-requires c = omega (arith, c.item_of-item.ensures.bound, ap (λ (l : Shape). l.items) (c.get.ensures ∙ c.layout.ensures), layout-items c.args.plan.now, c.requires.known.count)

pub returns : goal.returns
returns c =
    let plan = c.args.plan.now in
    let pair = c.args.pair in
    let item = c.item_of-item.result in
    let k = at_place c.args.pages.now in
    let table = table_of plan in
    let lt : item < length plan.items = omega (arith, c.item_of-item.ensures.bound, ap (λ (l : Shape). l.items) (c.get.ensures ∙ c.layout.ensures), layout-items plan) in
    let own : item ≡ pair_owner plan pair = c.item_of-item.ensures.value ∙ ap (λ (l : Shape). item_of l pair) (c.get.ensures ∙ (c.layout.ensures ∙ layout-lookups plan)) in
    let id : c.in_ok-id.id ≡ id_at plan (pair_owner plan pair) = c.in_ok-id.ensures ∙ (c.id.ensures ∙ (id-same plan item ∙ ap (id_at plan) own)) in
    let name : c.in_ok-name.name ≡ pair_name_of plan pair = c.in_ok-name.ensures ∙ (c.pair_name.ensures ∙ name-same plan pair) in
    let page : c.in_ok-page.page ≡ sha_digests.page (page_at k pair) = c.in_ok-page.ensures ∙ ap sha_digests.page (sym (ap (λ o. unwrap_or o blank_page) c.page_of.ensures)) in
    let traits : c.traits_of-traits.result ≡ sha_digests.traits (table.traits (id_at plan (pair_owner plan pair))) = c.traits_of-traits.ensures ∙ (c.requires.known.traits item lt ∙ ap sha_digests.traits (sym (traits-own plan c.requires.form item lt) ∙ ap (λ i. table.traits (id_at plan i)) own)) in
    (λ i. (let a : AskView = record { key = record { id = id i; name = name i }; page = page i; traits = traits i } in a))
    ∙ ap (λ (key : Key). (let a : AskView = record { key = key; page = sha_digests.page (page_at k pair); traits = sha_digests.traits (table.traits key.id) } in a)) (sym (key-same plan pair))
