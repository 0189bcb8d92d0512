use Rattle.std.proofs.Common.{◌≡◌, sym, ap, ◌∙◌, subst, List, ◌<◌, length, IfOk, Ok, Err}
use Rattle.std.proofs.lemmas.Result.{IfOk-weaker}
use Rattle.std.specs.List.{AllByRecursion}
use Rattle.hk_chain.specs.declared.fault.Fault.TheVariants.{NoSnapshot}
use Rattle.hk_fix.specs.Task.{Task, fault}
use Rattle.hk_rules.specs.Plan.{Lookups, lookups}
use Rattle.hk_eval.specs.Asking.{pairs_of}
use Rattle.hk_eval.specs.Groups.{group_of}
use Rattle.hk_eval.specs.Lists.{list_task}
use Rattle.hk_eval.specs.Replies.{listed_end, listing_of, Comes, ArePlacesWithin}
use Rattle.hk_eval.specs.Told.{told_pages}
use Rattle.hk_eval.specs.Value.{Listing}
use Rattle.hk_eval.specs.declared.place.Place.{Place}
use Rattle.hk_eval.proofs.Comings.{list-pairs, list-lacks}
use Rattle.hk_eval.proofs.Giving.{listed-within}
use Rattle.hk_eval.proofs.Grouping.{lacks-in, pairs-length}
use Rattle.hk_eval.proofs.list.list_of.Goals as goal

pub all_of-requires-clause-same : goal.all_of-requires-clause-same
all_of-requires-clause-same c =
    let pairs : pairs_of (lookups c.args.plan.now) c.args.listing.now.snapshot.now c.matches-items.result.now ≡ Ok c.in-Pairs.pairs.items = sym c.in_ok-pairs.ensures ∙ ap group_of c.in-Pairs.is in
    pairs-length (lookups c.args.plan.now) c.args.listing.now.snapshot.now c.matches-items.result.now c.in-Pairs.pairs.items pairs ∙ ap length (sym c.deref.ensures.value)

pub all_of-requires-clause-items : goal.all_of-requires-clause-items
all_of-requires-clause-items c = subst (AllByRecursion (λ i. i < length c.args.plan.now.items)) (sym c.matches-items.ensures) (c.requires.plan.matched c.args.listing.now.pattern)

pub returns-in-Pairs-clause-comes : goal.returns-in-Pairs-clause-comes
returns-in-Pairs-clause-comes c =
    let plan : Lookups = lookups c.args.plan.now in
    let l : Listing = listing_of c.args.listing.now in
    let pairs : pairs_of plan l.snapshot c.matches-items.result.now ≡ Ok c.deref.result.now = sym c.in_ok-pairs.ensures ∙ (ap group_of c.in-Pairs.is ∙ ap Ok (sym c.deref.ensures.value)) in
    subst (λ (t : Task (List Place)). IfOk c.all_of.result (λ r. Comes (told_pages c.args.told.now) t c.args.notes.now (listed_end r) c.all_of.new.notes)) (sym (list-pairs plan l c.matches-items.result.now c.deref.result.now c.matches-items.ensures pairs)) c.all_of.ensures

pub returns-in-Pairs-clause-within : goal.returns-in-Pairs-clause-within
returns-in-Pairs-clause-within c =
    let plan : Lookups = lookups c.args.plan.now in
    let l : Listing = listing_of c.args.listing.now in
    let pairs : pairs_of plan l.snapshot c.matches-items.result.now ≡ Ok c.deref.result.now = sym c.in_ok-pairs.ensures ∙ (ap group_of c.in-Pairs.is ∙ ap Ok (sym c.deref.ensures.value)) in
    IfOk-weaker c.all_of.result (λ r. Comes (told_pages c.args.told.now) (list_task plan l) c.args.notes.now (listed_end r) c.all_of.new.notes) (λ r. ArePlacesWithin (length c.args.plan.now.items) (length c.args.plan.now.contexts) r)
    (λ r h. listed-within (length c.args.plan.now.items) (length c.args.plan.now.contexts) plan (length c.args.plan.now.patterns) l (told_pages c.args.told.now) c.args.notes.now c.all_of.new.notes r c.requires.plan c.requires.context h)
    (subst (λ (t : Task (List Place)). IfOk c.all_of.result (λ r. Comes (told_pages c.args.told.now) t c.args.notes.now (listed_end r) c.all_of.new.notes)) (sym (list-pairs plan l c.matches-items.result.now c.deref.result.now c.matches-items.ensures pairs)) c.all_of.ensures)

pub id-requires : goal.id-requires
id-requires c =
    let lacks : pairs_of (lookups c.args.plan.now) c.args.listing.now.snapshot.now c.matches-items.result.now ≡ Err c.in-Lacks.item = sym c.in_ok-pairs.ensures ∙ ap group_of c.in-Lacks.is in
    lacks-in (λ i. i < length c.args.plan.now.items) (lookups c.args.plan.now) c.args.listing.now.snapshot.now c.matches-items.result.now c.in-Lacks.item (subst (AllByRecursion (λ i. i < length c.args.plan.now.items)) (sym c.matches-items.ensures) (c.requires.plan.matched c.args.listing.now.pattern)) lacks

pub returns-in_ok-from_slice-in-Lacks-clause-comes : goal.returns-in_ok-from_slice-in-Lacks-clause-comes
returns-in_ok-from_slice-in-Lacks-clause-comes c =
    let plan : Lookups = lookups c.args.plan.now in
    let l : Listing = listing_of c.args.listing.now in
    let lacks : pairs_of plan l.snapshot c.matches-items.result.now ≡ Err c.in-Lacks.item = sym c.in_ok-pairs.ensures ∙ ap group_of c.in-Lacks.is in
    list-lacks plan l c.matches-items.result.now c.in-Lacks.item (told_pages c.args.told.now) c.matches-items.ensures lacks
    ∙ (ap (λ id. fault (NoSnapshot id l.snapshot)) (sym (c.in_ok-copy-in-Lacks.ensures ∙ c.id.ensures)) ∙ ap (λ n. fault (NoSnapshot c.in_ok-copy-in-Lacks.field-0 n)) (sym c.in_ok-from_slice-in-Lacks.ensures))
