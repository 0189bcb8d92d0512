use Rattle.std.proofs.Common.{◌≡◌, ◌<◌, sym, ◌∙◌, subst, ℕ, List, Option, All, length}
use Rattle.hk_fix.specs.Report.{members}
use Rattle.hk_fix.specs.Walks.{Marked, Walked}
use Rattle.hk_fix.proofs.Searching.{search-lost, search-found, found-in, found-on, found-members}
use Rattle.hk_fix.proofs.cycles.search.Goals as goal

pub members-requires-clause-in_range : goal.members-requires-clause-in_range
members-requires-clause-in_range c = found-in c.args.leads.now c.args.walks.now c.walk.new.walks c.args.places.now c.args.start c.requires.so_far c.in-Some.item c.in-Some.ensures

pub members-requires-clause-on_cycle : goal.members-requires-clause-on_cycle
members-requires-clause-on_cycle c = found-on c.args.leads.now c.args.walks.now c.walk.new.walks c.args.places.now c.args.start c.requires.so_far c.in-Some.item c.in-Some.ensures

pub mark-requires-clause-range : goal.mark-requires-clause-range
mark-requires-clause-range c =
    let same : c.deref.result.now ≡ members c.args.leads.now c.in-Some.item = c.deref.ensures.value ∙ c.in_ok-around.ensures in
    subst (All (λ q. q < length c.args.places.now)) (sym same)
    (found-members c.args.leads.now c.args.walks.now c.walk.new.walks c.args.places.now c.args.start c.requires.so_far c.in-Some.item c.in-Some.ensures)

pub returns-in_ok-around : goal.returns-in_ok-around
returns-in_ok-around c =
    let same : c.deref.result.now ≡ members c.args.leads.now c.in-Some.item = c.deref.ensures.value ∙ c.in_ok-around.ensures in
    search-found c.args.leads.now c.args.walks.now c.walk.new.walks c.args.places.now c.args.start c.requires.so_far c.in-Some.item c.in-Some.ensures c.mark.new.places
    (subst (λ (l : List ℕ). Marked l c.args.places.now c.mark.new.places) same c.mark.ensures)

pub returns-in_default : goal.returns-in_default
returns-in_default c =
    search-lost c.args.leads.now c.args.walks.now c.walk.new.walks c.args.places.now c.args.start c.requires.so_far
    (subst (λ (o : Option ℕ). Walked c.args.leads.now c.args.walks.now c.args.start o c.walk.new.walks) c.in_default.is c.walk.ensures)
