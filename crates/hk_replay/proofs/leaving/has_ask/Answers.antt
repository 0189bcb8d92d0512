use Rattle.std.proofs.Common.{◌≡◌, sym, ap, subst, ◌∙◌, arith, rules, true, ◌<◌, length}
use Rattle.std.specs.Prelude.{bytes_eq}
use Rattle.std.specs.Option.{unwrap_or}
use Rattle.std.specs.Ordering.{eq_by_cmp}
use Rattle.std.proofs.lemmas.Bool.{OnTrue_from}
use Rattle.hk_base.specs.Identifier.{ident_cmp}
use Rattle.hk_base.specs.IdentTies.{idents-same}
use Rattle.hk_base.specs.Ties.{bytes-same}
use Rattle.hk_chain.specs.Kept.{at_place}
use Rattle.hk_chain.specs.Layout.{Shape, pairs, item_of}
use Rattle.hk_eval.specs.PlanTable.{table_of}
use Rattle.hk_fix.specs.Table.{Key}
use Rattle.hk_rules.specs.Plan.{id_at, pair_owner, pair_name_of}
use Rattle.hk_store.specs.Entry.{AskView}
use Rattle.hk_store.specs.Traits.{sha_digests}
use Rattle.hk_reuse.specs.Entries.{blank_page}
use Rattle.hk_reuse.specs.Image.{page_at}
use Rattle.hk_replay.proofs.LeftEntries.{layout-lookups, key-same, name-same, traits-own}
use Rattle.hk_replay.proofs.Matching.{layout-items, id-same}
use Rattle.hk_replay.proofs.leaving.has_ask.Goals as goal

pub item_of-item-requires : goal.item_of-item-requires
item_of-item-requires c = subst (λ (l : Shape). c.args.pair < pairs l) (sym (c.get.ensures ∙ (c.layout.ensures ∙ layout-lookups c.args.plan.now))) c.requires.page.0

pub id-requires : goal.id-requires
id-requires c = omega (arith, c.item_of-item.ensures.bound, ap (λ (l : Shape). l.items) (c.get.ensures ∙ c.layout.ensures), layout-items c.args.plan.now)

pub has_traits-requires : goal.has_traits-requires
has_traits-requires c = omega (arith, c.item_of-item.ensures.bound, ap (λ (l : Shape). l.items) (c.get.ensures ∙ c.layout.ensures), layout-items c.args.plan.now, c.requires.known.count)

pub returns : goal.returns
returns c =
    let plan = c.args.plan.now in
    let pair = c.args.pair in
    let ask = c.ask.inside in
    let item = c.item_of-item.result in
    let k = at_place c.args.pages.now in
    let table = table_of plan in
    let lt : item < length plan.items = omega (arith, c.item_of-item.ensures.bound, ap (λ (l : Shape). l.items) (c.get.ensures ∙ c.layout.ensures), layout-items plan) in
    let own : item ≡ pair_owner plan pair = c.item_of-item.ensures.value ∙ ap (λ (l : Shape). item_of l pair) (c.get.ensures ∙ (c.layout.ensures ∙ layout-lookups plan)) in
    let alike : eq_by_cmp ident_cmp c.id.result.now ask.id ≡ true = search rules in
    let named : bytes_eq c.pair_name.result.now c.as_slice.result.now ≡ true = search rules in
    let traited : c.has_traits.result ≡ true = search rules in
    let id : id_at plan (pair_owner plan pair) ≡ ask.id = sym (c.id.ensures ∙ (id-same plan item ∙ ap (id_at plan) own)) ∙ idents-same _ _ alike in
    let name : pair_name_of plan pair ≡ ask.name = sym (c.pair_name.ensures ∙ name-same plan pair) ∙ (bytes-same _ _ named ∙ c.as_slice.ensures) in
    let there : sha_digests.traits (table.traits (id_at plan (pair_owner plan pair))) ≡ ask.traits = sym (c.requires.known.traits item lt ∙ ap sha_digests.traits (sym (traits-own plan c.requires.form item lt) ∙ ap (λ i. table.traits (id_at plan i)) own)) ∙ bytes-same _ _ (sym c.has_traits.ensures ∙ traited) in
    let hashed : sha_digests.page (page_at k pair) ≡ c.in_ok-page.page = sym (c.in_ok-page.ensures ∙ ap sha_digests.page (sym (ap (λ o. unwrap_or o blank_page) c.page_of.ensures))) in
    OnTrue_from c.eq.result _ (λ e.
    let paged : bytes_eq c.as_slice-2.result.now c.as_slice-3.result.now ≡ true = sym c.eq.ensures ∙ e in
    let page : sha_digests.page (page_at k pair) ≡ ask.page = hashed ∙ (sym c.as_slice-2.ensures ∙ (bytes-same _ _ paged ∙ c.as_slice-3.ensures)) in
    ap (λ (key : Key). (let a : AskView = record { key = key; page = sha_digests.page (page_at k pair); traits = sha_digests.traits (table.traits key.id) } in a)) (key-same plan pair)
    ∙ ((λ i. (let a : AskView = record { key = record { id = id i; name = name i }; page = page i; traits = there i } in a)) ∙ c.ask.view_is))
