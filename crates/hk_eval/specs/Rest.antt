-- What a stack of frames has left to do.
use Rattle.std.specs.Prelude.{ℕ, List, [], ◌∷◌, ◌++◌, drop}
use Rattle.hk_base.specs.Bytes.{Bytes}
use Rattle.hk_fix.specs.Task.{Task, gives, ◌▷◌}
use Rattle.hk_rules.specs.Plan.{Lookups}
use Rattle.hk_eval.specs.Blocks.{block_nodes, nodes_from}
use Rattle.hk_eval.specs.Lists.{list_task}
use Rattle.hk_eval.specs.Rendering.{nodes_task, partial_at, each_place, each_after}
use Rattle.hk_eval.specs.Value.{Listing}
use Rattle.hk_eval.specs.declared.frame.Frame.{Frame}
use Rattle.hk_eval.specs.declared.frame.Frame.TheVariants as frames
use Rattle.hk_eval.specs.declared.frame.Repeat.{Repeat}
use Rattle.hk_eval.specs.declared.frame.Stage.{Stage}
use Rattle.hk_eval.specs.declared.frame.Stage.TheVariants.{First, Second, Third, Later}
use Rattle.hk_eval.specs.declared.frame.Wanted.{Wanted}
use Rattle.hk_eval.specs.declared.place.Place.{Place}

-- a text, and then what the task gives
abbrev pub onto : Bytes → Task Bytes → Task Bytes
onto out t = t ▷ (λ x. gives (out ++ x))

-- what stands between two places was just written: the other places
abbrev pub after_sep : (Place → Task Bytes) → Bytes → List Place → Bytes → Task Bytes
after_sep each between [] out = gives out
after_sep each between (p ∷ ps) out = each p ▷ (λ x. onto (out ++ x) (each_after each between ps))

-- one place was just written: the other places
abbrev pub after_first : (Place → Task Bytes) → Task Bytes → List Place → Bytes → Task Bytes
after_first each between [] out = gives out
after_first each between (p ∷ ps) out = between ▷ (λ b. after_sep each b (p ∷ ps) (out ++ b))

abbrev pub stage_rest : (Place → Task Bytes) → Task Bytes → Stage → List Place → Bytes → Task Bytes
stage_rest each between First ps out = onto out (each_place each between ps)
stage_rest each between Second ps out = after_first each between ps out
stage_rest each between (Third start) ps out = after_sep each (drop start out) ps out
stage_rest each between (Later b) ps out = onto out (each_after each b ps)

abbrev pub wanted_list : Wanted → Listing
wanted_list w = record { pattern = w.pattern; snapshot = w.snapshot; order = w.order; limit = w.limit; context = w.context }

-- what is rendered at a place of a list
abbrev pub each_of : Lookups → Repeat → Place → Task Bytes
each_of plan r = nodes_task plan (partial_at plan r.left) (block_nodes r.each)

-- what is rendered between two
abbrev pub between_of : Lookups → Repeat → Task Bytes
between_of plan r = nodes_task plan (partial_at plan r.left) (block_nodes r.sep) r.here

-- what a frame makes of the text so far
abbrev pub frame_rest : Lookups → Frame → Bytes → Task Bytes
frame_rest plan (frames.Nodes s) out = onto out (nodes_task plan (partial_at plan s.left) (nodes_from s.at (block_nodes s.block)) s.here)
frame_rest plan (frames.Make w r) out = list_task plan (wanted_list w) ▷ (λ ps. onto out (each_place (each_of plan r) (between_of plan r) ps))
frame_rest plan (frames.List ps stage r) out = stage_rest (each_of plan r) (between_of plan r) stage (drop ps.next ps.places.items) out

-- the frames from the last one to the first, and then this
abbrev pub frames_then : Lookups → (Bytes → Task Bytes) → List Frame → Bytes → Task Bytes
frames_then plan then_ [] out = then_ out
frames_then plan then_ (f ∷ fs) out = frames_then plan (λ x. frame_rest plan f x ▷ then_) fs out

-- what the frames make of the text so far, the last frame first
unfoldable pub rest : Lookups → List Frame → Bytes → Task Bytes
rest plan fs out = frames_then plan gives fs out
