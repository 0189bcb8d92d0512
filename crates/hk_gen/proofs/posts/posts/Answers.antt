use Rattle.std.proofs.Common.{◌≡◌, ◌∙◌, ◌+◌, ◌++◌, ◌∷◌, [], ap, sym, map}
use Rattle.std.specs.List.{range_with_len}
use Rattle.hk_gen.specs.Posts.{post, post_path, post_text}
use Rattle.hk_gen.specs.Random.{after_draws, before, draws}
use Rattle.hk_gen.proofs.Turns.{before-next, posts-next}
use Rattle.hk_gen.proofs.posts.posts.Goals as goal

pub loop-place-init : goal.loop-place-init
unfolding before
loop-place-init c = (c.new-files.ensures.items, c.new-random.ensures)

pub loop-place-preserved : goal.loop-place-preserved
loop-place-preserved c =
    let place = c.loop-place.place in
    let made : c.in_ok-post.field-0 ≡ post c.args.number place =
    c.in_ok-post.ensures ∙ ap (λ d. (post_path (place + 1), post_text (place + 1) d)) (c.draws-draws.ensures.drawn ∙ ap draws c.loop-place.invariant.1) in (
      c.in_ok-push.ensures.items
          ∙ (ap (λ files. files ++ c.in_ok-post.field-0 ∷ []) c.loop-place.invariant.0
          ∙ (ap (λ file. map (post c.args.number) (range_with_len 0 place) ++ file ∷ []) made ∙ sym (posts-next c.args.number place))),
      c.draws-draws.ensures.moved ∙ (ap after_draws c.loop-place.invariant.1 ∙ sym (before-next c.args.number place)),
    )
