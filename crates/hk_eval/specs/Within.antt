-- Frames whose places, lists and templates are a plan's.
use Rattle.std.specs.Prelude.{◌≡◌, ◌<◌, true, List, length}
use Rattle.std.specs.List.{AllByRecursion}
use Rattle.hk_rules.specs.Plan.{lookups}
use Rattle.hk_rules.specs.PlanView.{PlanView}
use Rattle.hk_template.specs.Key.{is_partial_path}
use Rattle.hk_template.specs.Tree.{Node, Nodes, text_node, dollar_node, key_node, if_node, if_else_node, for_node, for_sep_node, partial_node, no_nodes, node}
use Rattle.hk_eval.specs.Blocks.{block_nodes}
use Rattle.hk_eval.specs.Renderable.{IsRenderable}
use Rattle.hk_eval.specs.Replies.{IsPlaceWithin}
use Rattle.hk_eval.specs.declared.frame.Frame.{Frame}
use Rattle.hk_eval.specs.declared.frame.Frame.TheVariants as frames
use Rattle.hk_eval.specs.declared.frame.Repeat.{Repeat}
use Rattle.hk_eval.specs.declared.frame.Wanted.{Wanted}
use Rattle.hk_eval.specs.declared.place.Place.{Place}

-- the path of each partial is one that can stand in a template
abbrev mutual
  pub NamesTemplate : Node → Type 0
  NamesTemplate (text_node bytes) = Unit {0}
  NamesTemplate dollar_node = Unit {0}
  NamesTemplate (key_node key) = Unit {0}
  NamesTemplate (if_node key yes_) = NameTemplates yes_
  NamesTemplate (if_else_node key yes_ no_) = NameTemplates yes_ × NameTemplates no_
  NamesTemplate (for_node key each) = NameTemplates each
  NamesTemplate (for_sep_node key each between) = NameTemplates each × NameTemplates between
  NamesTemplate (partial_node path) = is_partial_path path ≡ true

  pub NameTemplates : Nodes → Type 0
  NameTemplates no_nodes = Unit {0}
  NameTemplates (node n ns) = NamesTemplate n × NameTemplates ns

-- a plan whose keys can be looked up
abbrev pub Renders : PlanView → Type 0
Renders plan = IsRenderable (lookups plan) (length plan.items) (length plan.contexts) (length plan.patterns)

abbrev pub IsPlaceOf : PlanView → Place → Type 0
IsPlaceOf plan place = IsPlaceWithin (length plan.items) (length plan.contexts) place

abbrev pub IsWantedOf : PlanView → Wanted → Type 0
IsWantedOf plan w = (w.pattern < length plan.patterns) × (w.context < length plan.contexts)

abbrev pub IsRepeatOf : PlanView → Repeat → Type 0
IsRepeatOf plan r = NameTemplates (block_nodes r.each) × NameTemplates (block_nodes r.sep) × IsPlaceOf plan r.here

abbrev pub IsFrameOf : PlanView → Frame → Type 0
IsFrameOf plan (frames.Nodes s) = NameTemplates (block_nodes s.block) × IsPlaceOf plan s.here
IsFrameOf plan (frames.Make w r) = IsWantedOf plan w × IsRepeatOf plan r
IsFrameOf plan (frames.List ps stage r) = AllByRecursion (IsPlaceOf plan) ps.places.items × IsRepeatOf plan r

abbrev pub AreFramesOf : PlanView → List Frame → Type 0
AreFramesOf plan fs = AllByRecursion (IsFrameOf plan) fs
