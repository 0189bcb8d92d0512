use Rattle.std.proofs.Common.{◌≡◌, sym, ap, subst, ◌∙◌, arith, false, ◌&&◌, is_some}
use Rattle.std.specs.Prelude.{bytes_eq}
use Rattle.hk_eval.specs.PlanTable.{table_of}
use Rattle.hk_rules.specs.Plan.{lookups}
use Rattle.hk_store.specs.Entry.{AskView}
use Rattle.hk_store.specs.Traits.{sha_digests}
use Rattle.hk_reuse.specs.Fits.{ask_fits}
use Rattle.hk_replay.proofs.Matching.{found-below, pair-none, pair-some, traits-some}
use Rattle.hk_replay.proofs.fitting.ask_fits.Goals as goal

pub returns-in_default : goal.returns-in_default
returns-in_default c =
    let plan = c.args.plan.now in
    let ask = c.ask.inside in
    subst (λ (v : AskView). false ≡ ask_fits sha_digests (table_of plan) v) c.ask.view_is
    (sym (ap (λ o. is_some o && bytes_eq (sha_digests.traits ((table_of plan).traits ask.id)) ask.traits) (pair-none plan ask.id ask.name (sym c.find.ensures ∙ c.in_default.is))))

pub pair-requires : goal.pair-requires
pair-requires c = found-below c.args.plan.now c.ask.inside.id c.ask.inside.name c.in-Some.item (sym c.find.ensures ∙ c.in-Some.is)

pub returns-then-is_none : goal.returns-then-is_none
returns-then-is_none c =
    let plan = c.args.plan.now in
    let ask = c.ask.inside in
    subst (λ (v : AskView). false ≡ ask_fits sha_digests (table_of plan) v) c.ask.view_is
    (sym (ap (λ b. b && bytes_eq (sha_digests.traits ((table_of plan).traits ask.id)) ask.traits) (ap is_some (pair-some plan ask.id ask.name c.in-Some.item (sym c.find.ensures ∙ c.in-Some.is) ∙ (ap ((lookups plan).pair c.in-Some.item) (sym c.as_slice.ensures) ∙ sym c.pair.ensures)) ∙ c.if-is_none.ensures)))

pub has_traits-requires : goal.has_traits-requires
has_traits-requires c = omega (arith, found-below c.args.plan.now c.ask.inside.id c.ask.inside.name c.in-Some.item (sym c.find.ensures ∙ c.in-Some.is), c.requires.known.count)

pub returns : goal.returns
returns c =
    let plan = c.args.plan.now in
    let ask = c.ask.inside in
    let found = sym c.find.ensures ∙ c.in-Some.is in
    let below = found-below plan ask.id ask.name c.in-Some.item found in
    subst (λ (v : AskView). c.has_traits.result ≡ ask_fits sha_digests (table_of plan) v) c.ask.view_is
    (c.has_traits.ensures
    ∙ (ap (λ d. bytes_eq d ask.traits) (c.requires.known.traits c.in-Some.item below ∙ sym (ap sha_digests.traits (traits-some plan ask.id ask.name c.in-Some.item found)))
    ∙ sym (ap (λ b. b && bytes_eq (sha_digests.traits ((table_of plan).traits ask.id)) ask.traits) (ap is_some (pair-some plan ask.id ask.name c.in-Some.item found ∙ (ap ((lookups plan).pair c.in-Some.item) (sym c.as_slice.ensures) ∙ sym c.pair.ensures)) ∙ c.if-is_none.ensures))))
