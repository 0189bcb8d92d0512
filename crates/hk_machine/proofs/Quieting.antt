-- What is left of a rendering saves nothing.
use Rattle.std.proofs.Common.{List, [], ◌∷◌, drop}
use Rattle.hk_base.specs.Bytes.{Bytes}
use Rattle.hk_fix.specs.Task.{Task, gives, ◌▷◌}
use Rattle.hk_rules.specs.Plan.{Lookups}
use Rattle.hk_eval.specs.Blocks.{block_nodes, nodes_from}
use Rattle.hk_eval.specs.Laws.{quiet-bind, quiet-list, quiet-after, quiet-each, quiet-nodes, quiet-partial}
use Rattle.hk_eval.specs.Left.{left_of}
use Rattle.hk_eval.specs.Lists.{list_task}
use Rattle.hk_eval.specs.Quiet.{Quiet}
use Rattle.hk_eval.specs.Rendering.{nodes_task, partial_at, each_place, each_after}
use Rattle.hk_eval.specs.Rest.{onto, after_sep, after_first, stage_rest, wanted_list, each_of, between_of, frame_rest, frames_then, rest}
use Rattle.hk_eval.specs.declared.frame.Frame.{Frame}
use Rattle.hk_eval.specs.declared.frame.Frame.TheVariants as frames
use Rattle.hk_eval.specs.declared.frame.Repeat.{Repeat}
use Rattle.hk_eval.specs.declared.frame.Stage.{Stage}
use Rattle.hk_eval.specs.declared.frame.Stage.TheVariants.{First, Second, Third, Later}
use Rattle.hk_eval.specs.declared.place.Place.{Place}
use Rattle.hk_eval.specs.declared.stack.Stack.{Stack}

quiet-onto : (out : Bytes) (t : Task Bytes) → Quiet t → Quiet (onto out t)
quiet-onto out t q = quiet-bind _ t q (λ x. tt)

-- the places of a list
module _ (each : Place → Task Bytes) (q : (p : Place) → Quiet (each p)) (between : Task Bytes) (r : Quiet between) where
  quiet-sep : (b : Bytes) (ps : List Place) (out : Bytes) → Quiet (after_sep each b ps out)
  quiet-sep b [] out = tt
  quiet-sep b (p ∷ ps) out = quiet-bind _ (each p) (q p) (λ x. quiet-onto _ (each_after each b ps) (quiet-after each q b ps))

  quiet-first-of : (ps : List Place) (out : Bytes) → Quiet (after_first each between ps out)
  quiet-first-of [] out = tt
  quiet-first-of (p ∷ ps) out = quiet-bind _ between r (λ b. quiet-sep b (p ∷ ps) _)

  quiet-stage : (stage : Stage) (ps : List Place) (out : Bytes) → Quiet (stage_rest each between stage ps out)
  quiet-stage First ps out = quiet-onto out (each_place each between ps) (quiet-each each q between r ps)
  quiet-stage Second ps out = quiet-first-of ps out
  quiet-stage (Third start) ps out = quiet-sep (drop start out) ps out
  quiet-stage (Later b) ps out = quiet-onto out (each_after each b ps) (quiet-after each q b ps)

module _ (plan : Lookups) where
  quiet-each-of : (r : Repeat) (p : Place) → Quiet (each_of plan r p)
  quiet-each-of r p = quiet-nodes plan (partial_at plan r.left) (quiet-partial plan r.left) (block_nodes r.each) p

  quiet-between : (r : Repeat) → Quiet (between_of plan r)
  quiet-between r = quiet-nodes plan (partial_at plan r.left) (quiet-partial plan r.left) (block_nodes r.sep) r.here

  quiet-frame : (f : Frame) (out : Bytes) → Quiet (frame_rest plan f out)
  quiet-frame (frames.Nodes s) out =
      quiet-onto out (nodes_task plan (partial_at plan s.left) (nodes_from s.at (block_nodes s.block)) s.here)
      (quiet-nodes plan (partial_at plan s.left) (quiet-partial plan s.left) (nodes_from s.at (block_nodes s.block)) s.here)
  quiet-frame (frames.Make w r) out =
      quiet-bind _ (list_task plan (wanted_list w)) (quiet-list plan (wanted_list w))
      (λ ps. quiet-onto out (each_place (each_of plan r) (between_of plan r) ps) (quiet-each (each_of plan r) (quiet-each-of r) (between_of plan r) (quiet-between r) ps))
  quiet-frame (frames.List ps stage r) out = quiet-stage (each_of plan r) (quiet-each-of r) (between_of plan r) (quiet-between r) stage (drop ps.next ps.places.items) out

  quiet-frames : (next : Bytes → Task Bytes) → ((x : Bytes) → Quiet (next x)) → (fs : List Frame) (out : Bytes) → Quiet (frames_then plan next fs out)
  quiet-frames next q [] out = q out
  quiet-frames next q (f ∷ fs) out = quiet-frames (λ x. frame_rest plan f x ▷ next) (λ x. quiet-bind next (frame_rest plan f x) (quiet-frame f x) q) fs out

  pub quiet-left : (stack : Stack) → Quiet (left_of plan stack)
  unfolding rest
  quiet-left stack = quiet-frames gives (λ x. tt) stack.frames.items stack.out.items
