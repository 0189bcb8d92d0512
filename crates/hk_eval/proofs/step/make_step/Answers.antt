-- What came of a list is a step of the stack.
use Rattle.std.proofs.Common.{◌≡◌, refl, sym, ap, ◌∙◌, subst, List, [], ◌∷◌, ◌++◌}
use Rattle.hk_rules.specs.Plan.{lookups}
use Rattle.hk_eval.specs.Lists.{list_task}
use Rattle.hk_eval.specs.Replies.{listed_end, Comes}
use Rattle.hk_eval.specs.Rest.{rest, wanted_list}
use Rattle.hk_eval.specs.Told.{told_pages}
use Rattle.hk_eval.specs.Value.{Listing}
use Rattle.hk_eval.proofs.Stacks.{made-places, made-asks, made-fails}
use Rattle.hk_eval.proofs.step.make_step.Goals as goal

pub returns-in_ok-push-in-Places-clause-steps : goal.returns-in_ok-push-in-Places-clause-steps
returns-in_ok-push-in-Places-clause-steps c = λ out.
    let p = lookups c.args.plan.now in
    let k = told_pages c.args.told.now in
    let came = subst (λ (l : Listing). Comes k (list_task p l) c.args.notes.now (listed_end c.in_ok-found.found) c.list_of.new.notes) c.listing.ensures c.in_ok-found.ensures.comes in
    made-places p c.args.frames.now.items c.args.wanted c.args.repeat out k c.args.notes.now c.list_of.new.notes (listed_end c.in_ok-found.found) came c.push.new.self.items (record { places = c.in-Places.places; next = 0 }) c.in_ok-push-in-Places.ensures.items refl (ap listed_end c.in-Places.is)

pub returns-in_ok-push-in-Asks-clause-steps : goal.returns-in_ok-push-in-Asks-clause-steps
returns-in_ok-push-in-Asks-clause-steps c = λ out.
    let p = lookups c.args.plan.now in
    let k = told_pages c.args.told.now in
    let came = subst (λ (l : Listing). Comes k (list_task p l) c.args.notes.now (listed_end c.in_ok-found.found) c.list_of.new.notes) c.listing.ensures c.in_ok-found.ensures.comes in
    made-asks p c.args.frames.now.items c.args.wanted c.args.repeat out k c.args.notes.now c.list_of.new.notes (listed_end c.in_ok-found.found) came c.push-in-Asks.new.self.items c.in-Asks.pairs c.in_ok-push-in-Asks.ensures.items (ap listed_end c.in-Asks.is)

pub returns-in-Fails-clause-steps : goal.returns-in-Fails-clause-steps
returns-in-Fails-clause-steps c = λ out.
    let p = lookups c.args.plan.now in
    let k = told_pages c.args.told.now in
    let came = subst (λ (l : Listing). Comes k (list_task p l) c.args.notes.now (listed_end c.in_ok-found.found) c.list_of.new.notes) c.listing.ensures c.in_ok-found.ensures.comes in
    made-fails p c.args.frames.now.items c.args.wanted c.args.repeat out k c.args.notes.now c.list_of.new.notes (listed_end c.in_ok-found.found) came (rest p c.args.frames.now.items out) c.in-Fails.fault (ap listed_end c.in-Fails.is)
