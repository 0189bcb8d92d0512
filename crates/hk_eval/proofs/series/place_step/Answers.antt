-- The next place is rendered before the rest of its list.
use Rattle.std.proofs.Common.{◌≡◌, refl, sym, ap, ◌∙◌, ◌+◌, List, [], ◌∷◌, ◌++◌}
use Rattle.hk_fix.specs.Task.{◌▷◌}
use Rattle.hk_eval.specs.Rest.{frame_rest, rest}
use Rattle.hk_eval.specs.declared.frame.Frame.TheVariants as frames
use Rattle.hk_eval.proofs.Repeating.{places-at}
use Rattle.hk_eval.proofs.Stacks.{rest-two}
use Rattle.hk_eval.proofs.series.place_step.Goals as goal

pub returns-clause-same : goal.returns-clause-same
returns-clause-same c =
    let place = c.index.result.now in
    let fs = c.args.frames.now.items in (
      place,
      places-at c.args.places place c.requires c.index.ensures,
      λ plan out.
          let list = frames.List (record { places = c.args.places.places; next = c.args.places.next + 1 }) c.args.stage c.args.repeat in
          ap (λ l. rest plan l out) (c.in_ok-push-2.ensures.items ∙ ap (λ l. l ++ c.in_ok-place.place ∷ []) c.in_ok-push.ensures.items)
          ∙ (rest-two plan fs list c.in_ok-place.place out ∙ ap (λ t. t ▷ (λ x. frame_rest plan list x ▷ rest plan fs)) (c.in_ok-place.ensures.rest plan out)),
    )
