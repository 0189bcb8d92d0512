use Rattle.std.proofs.Common.{◌≡◌, sym, ap, subst, ◌∙◌, rules, IfOk}
use Rattle.std.proofs.lemmas.Bool.{OnTrue_at}
use Rattle.std.specs.Option.{option_copied}
use Rattle.hk_chain.specs.Kept.{at_place}
use Rattle.hk_fix.specs.Report.{ending_at}
use Rattle.hk_reuse.specs.Image.{entry_list}
use Rattle.hk_replay.specs.PlanItems.{items_of}
use Rattle.hk_store.specs.Stored.{IsStored}
use Rattle.hk_store.specs.StoreText.{sealed, store_text}
use Rattle.hk_store.specs.Traits.{sha_digests}
use Rattle.hk_build.proofs.ended.bytes_left.Goals as goal

pub returns-then-leaves_same : goal.returns-then-leaves_same
returns-then-leaves_same c =
    let plan = c.args.plan.now in
    let results = c.args.results.now in
    let left = entry_list sha_digests (items_of plan) (ending_at results.outcomes) (at_place results.pages) in
    let same : left ≡ c.args.stored.now = OnTrue_at (search rules) c.in_ok-leaves_same.ensures in
    let old : c.in-Some.bytes.now ≡ sealed (store_text c.args.stored.now) = c.requires.bytes c.in-Some.bytes.now (ap option_copied c.in-Some.is) in
    subst (λ bytes. IfOk c.from_slice.result (λ t. t ≡ bytes)) (old ∙ ap (λ s. sealed (store_text s)) (sym same)) c.from_slice.ensures

pub print_store-requires : goal.print_store-requires
print_store-requires c = subst IsStored (sym c.in_ok-left.ensures) c.requires.left

pub returns : goal.returns
returns c = subst (λ s. IfOk c.print_store.result (λ t. t ≡ sealed (store_text s))) c.in_ok-left.ensures c.print_store.ensures
