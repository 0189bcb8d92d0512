use Rattle.std.proofs.Common.{◌≡◌, ◌∙◌, ap, ◌++◌}
use Rattle.hk_reuse.specs.Entries.{entries_in}
use Rattle.hk_app.proofs.finishing.front_of.Goals as goal

pub returns : goal.returns
returns c =
    let over = entries_in c.args.taken.now.stored in
    let history = c.args.build.now.results.history in
    record {
      history = history;
      complete = c.requires.built.results.complete;
      seeded = c.kept_items_leave_histories.ensures.history c.args.plan.now over history c.requires.planned (c.entries_are_stored.ensures.found c.args.taken.now.stored c.requires.stored) c.requires.built.results.complete;
      text =
          c.from_vec.ensures ∙ c.in_ok-extend_from_slice.ensures.items
          ∙ (λ i. (c.in_ok-front.ensures.items ∙ c.as_slice.ensures) i ++ (c.as_slice-2.ensures ∙ c.in_ok-lines.ensures over c.requires.built) i);
    }
