use Rattle.std.proofs.Common.{◌≡◌, map}
use Rattle.std.specs.List.{range_with_len}
use Rattle.hk_gen.specs.Posts.{post}
use Rattle.hk_gen.specs.Random.{before}
use Rattle.hk_gen.proofs.posts.posts.Given as goal

abbrev pub invariant-loop-place : goal.invariant-loop-place
invariant-loop-place l = (l.files.items ≡ map (post l.number) (range_with_len 0 l.place)) × (l.random.state ≡ before l.number l.place)
