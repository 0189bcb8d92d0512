use Rattle.std.proofs.Common.{◌≡◌, sym, ◌∙◌, arith, ◌<◌, [], length}
use Rattle.hk_fix.specs.Pages.{Pages, lacking}
use Rattle.hk_rules.specs.Plan.{lookups}
use Rattle.hk_eval.specs.Replies.{listed_end, listing_of}
use Rattle.hk_eval.specs.Told.{told_pages}
use Rattle.hk_eval.proofs.Comings.{list-made, list-waits}
use Rattle.hk_eval.proofs.Grouping.{empty-list, told-all}
use Rattle.hk_eval.proofs.list.all_of.Goals as goal

pub returns-then-not-is_empty : goal.returns-then-not-is_empty
returns-then-not-is_empty c =
    let some : 0 < length c.in_ok-lacks.lacks.items = grind arith in
    list-waits (lookups c.args.plan.now) (told_pages c.args.told.now) (listing_of c.args.listing.now) c.args.items.now c.args.pairs.now c.args.notes.now c.in_ok-lacks.lacks.items c.in_ok-lacks.ensures some

pub made_of-requires-clause-told : goal.made_of-requires-clause-told
made_of-requires-clause-told c =
    let z : length c.in_ok-lacks.lacks.items ≡ 0 = grind arith in
    told-all (told_pages c.args.told.now) c.args.pairs.now (sym c.in_ok-lacks.ensures ∙ empty-list c.in_ok-lacks.lacks.items z)

pub returns : goal.returns
returns c =
    let k : Pages = told_pages c.args.told.now in
    let z : length c.in_ok-lacks.lacks.items ≡ 0 = grind arith in
    let none : lacking k c.args.pairs.now ≡ [] = sym c.in_ok-lacks.ensures ∙ empty-list c.in_ok-lacks.lacks.items z in
    list-made (lookups c.args.plan.now) k (listing_of c.args.listing.now) c.args.items.now c.args.pairs.now c.args.notes.now c.note_pattern.new.self c.note_group.new.self (listed_end c.in_ok-listed.listed) none (c.in_ok-listed.ensures k) c.in_ok-note_pattern.ensures c.in_ok-note_group.ensures
