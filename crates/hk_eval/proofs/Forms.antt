-- What the forms of a template come to, with no nodes where a part is wanting.
use Rattle.std.proofs.Common.{◌≡◌, refl, sym, ap, ◌∙◌, subst, ℕ, zero, suc, ◌-◌, sub-one, List, [], ◌++◌, Option, Some, None}
use Rattle.hk_base.specs.Bytes.{Bytes}
use Rattle.hk_chain.specs.Facts.{FactsView}
use Rattle.hk_chain.specs.declared.fault.Fault.{Fault}
use Rattle.hk_chain.specs.declared.fault.Fault.TheVariants.{NotList}
use Rattle.hk_fix.specs.Pages.{Pages}
use Rattle.hk_fix.specs.Task.{Task, gives, fails, End, done, ◌▷◌}
use Rattle.hk_rules.specs.Plan.{Lookups}
use Rattle.hk_template.specs.Tree.{Nodes, partial_node}
use Rattle.hk_eval.specs.Blocks.{block_nodes, if_of, for_of, nodes_or_none}
use Rattle.hk_eval.specs.Fields.{field_task}
use Rattle.hk_eval.specs.Lists.{list_task}
use Rattle.hk_eval.specs.Making.{Repeats}
use Rattle.hk_eval.specs.Rendering.{node_task, nodes_task, partial_at, branch, as_places, each_place, plain_id}
use Rattle.hk_eval.specs.Replies.{look_end, listing_of, Comes}
use Rattle.hk_eval.specs.Rest.{onto, wanted_list, each_of, between_of, frame_rest}
use Rattle.hk_eval.specs.Templates.{template_task}
use Rattle.hk_eval.specs.Value.{Listing, Value, absent, text, flag, list}
use Rattle.hk_eval.specs.declared.frame.Frame.TheVariants as frames
use Rattle.hk_eval.specs.declared.frame.Repeat.{Repeat}
use Rattle.hk_eval.specs.declared.frame.Wanted.{Wanted}
use Rattle.hk_eval.specs.declared.look.Listing.{Listing as Lent}
use Rattle.hk_eval.specs.declared.look.Look.{Look}
use Rattle.hk_eval.specs.declared.look.Look.TheVariants as looks
use Rattle.hk_eval.specs.declared.place.Place.{Place}
use Rattle.hk_eval.proofs.Stacks.{onto-bind}

module _ (plan : Lookups) (deeper : Bytes → Place → Task Bytes) (key : Bytes) (here : Place) where
  pub if-task : (first : Nodes) (second : Option Nodes) → node_task plan deeper (if_of key first second) here ≡ field_task plan here key ▷ branch (nodes_task plan deeper first here) (nodes_task plan deeper (nodes_or_none second) here)
  if-task first None = refl
  if-task first (Some second) = refl

  pub for-task : (each : Nodes) (between : Option Nodes) → node_task plan deeper (for_of key each between) here ≡ field_task plan here key ▷ (λ v. as_places plan key v ▷ each_place (nodes_task plan deeper each) (nodes_task plan deeper (nodes_or_none between) here))
  for-task each None = refl
  for-task each (Some between) = refl

-- with a level left
pub partial-task : (plan : Lookups) (left : ℕ) (path : Bytes) (here : Place) → (left ≡ 0 → ⊥) → node_task plan (partial_at plan left) (partial_node path) here ≡ template_task plan (plain_id path) ▷ (λ tree. nodes_task plan (partial_at plan (left - 1)) tree here)
partial-task plan zero path here h = absurd (h refl)
partial-task plan (suc left) path here h = rw sub-one refl

-- a list that is to be made, as a frame
pub make-frame : (plan : Lookups) (w : Wanted) (r : Repeat) (l : Listing) (each between : Nodes) (left : ℕ) (here : Place) → wanted_list w ≡ l → Repeats r each between left here → (out : Bytes)
    → onto out (list_task plan l ▷ each_place (nodes_task plan (partial_at plan left) each) (nodes_task plan (partial_at plan left) between here)) ≡ frame_rest plan (frames.Make w r) out
make-frame plan w r l each between left here e s out =
    onto-bind out (list_task plan l) (each_place (nodes_task plan (partial_at plan left) each) (nodes_task plan (partial_at plan left) between here))
    ∙ (λ i. list_task plan (sym e i) ▷ (λ ps. onto out (each_place (nodes_task plan (partial_at plan (sym s.below i)) (sym s.nodes i)) (nodes_task plan (partial_at plan (sym s.below i)) (sym s.apart i) (sym s.at i)) ps)))

-- a key that has a value
pub has-value : (l : Look) → (l ≡ looks.Absent → ⊥) → ((pair : ℕ) → l ≡ looks.Asks pair → ⊥) → ((x : Fault) → l ≡ looks.Fails x → ⊥) → (v : Value) × (look_end l ≡ done v) × ((t u : Task Bytes) → branch t u v ≡ t)
has-value looks.Absent a b d = absurd (a refl)
has-value (looks.Lent bytes) a b d = (text bytes.now, refl, λ t u. refl)
has-value (looks.Made bytes) a b d = (text bytes, refl, λ t u. refl)
has-value looks.Flag a b d = (flag, refl, λ t u. refl)
has-value (looks.List l) a b d = (list (listing_of l), refl, λ t u. refl)
has-value (looks.Asks pair) a b d = absurd (b pair refl)
has-value (looks.Fails x) a b d = absurd (d x refl)

-- a key that has a value which is no list
pub no-list : (plan : Lookups) (key : Bytes) (l : Look) → (l ≡ looks.Absent → ⊥) → ((listing : Lent) → l ≡ looks.List listing → ⊥) → ((pair : ℕ) → l ≡ looks.Asks pair → ⊥) → ((x : Fault) → l ≡ looks.Fails x → ⊥) → (v : Value) × (look_end l ≡ done v) × (as_places plan key v ≡ fails (NotList key))
no-list plan key looks.Absent a b d e = absurd (a refl)
no-list plan key (looks.Lent bytes) a b d e = (text bytes.now, refl, refl)
no-list plan key (looks.Made bytes) a b d e = (text bytes, refl, refl)
no-list plan key looks.Flag a b d e = (flag, refl, refl)
no-list plan key (looks.List l) a b d e = absurd (b l refl)
no-list plan key (looks.Asks pair) a b d e = absurd (d pair refl)
no-list plan key (looks.Fails x) a b d e = absurd (e x refl)

-- what came of a key that is lent
pub same-key : (k : Pages) (plan : Lookups) (here : Place) (lent key : Bytes) (old new : FactsView) (e : End Value) → lent ≡ key → Comes k (field_task plan here lent) old e new → Comes k (field_task plan here key) old e new
same-key k plan here lent key old new e is came = subst (λ b. Comes k (field_task plan here b) old e new) is came
