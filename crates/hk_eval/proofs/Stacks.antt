-- What is left of a stack, frame by frame.
use Rattle.std.proofs.Common.{◌≡◌, refl, sym, ap, ◌∙◌, subst, arith, ℕ, suc, ◌+◌, Vec, ◌<◌, ◌≤◌, List, [], ◌∷◌, ◌++◌, append_assoc, append-nil, length, drop, get_or, drop-cons, add-one}
use Rattle.std.proofs.Math.Path.{fun_ext}
use Rattle.std.proofs.Math.ListN.{drop_of_length-le}
use Rattle.std.specs.declared.alloc.Global.{Global}
use Rattle.hk_base.specs.Bytes.{Bytes}
use Rattle.hk_chain.specs.Facts.{FactsView}
use Rattle.hk_chain.specs.declared.numbers.PairNo.{PairNo}
use Rattle.hk_chain.specs.declared.fault.Fault.{Fault}
use Rattle.hk_fix.specs.Pages.{Pages}
use Rattle.hk_fix.specs.Task.{Task, gives, ◌▷◌, Mark, End, done, fault, waits, Run, run}
use Rattle.hk_fix.specs.TaskLaws.{bind_assoc, bind_gives}
use Rattle.hk_rules.specs.Plan.{Lookups}
use Rattle.hk_template.specs.Tree.{Node, Nodes, no_nodes, node}
use Rattle.hk_eval.specs.Blocks.{block_nodes, nodes_from}
use Rattle.hk_eval.specs.Going.{Moves, Steps}
use Rattle.hk_eval.specs.Leading.{Leads}
use Rattle.hk_eval.specs.Lists.{list_task}
use Rattle.hk_eval.specs.Noted.{noted}
use Rattle.hk_eval.specs.Rendering.{node_task, nodes_task, partial_at, each_place, each_after, render}
use Rattle.hk_eval.specs.Replies.{Comes}
use Rattle.hk_eval.specs.Rest.{onto, after_sep, after_first, stage_rest, wanted_list, each_of, between_of, frame_rest, frames_then, rest}
use Rattle.hk_eval.specs.declared.frame.Frame.{Frame}
use Rattle.hk_eval.specs.declared.frame.Frame.TheVariants as frames
use Rattle.hk_eval.specs.declared.frame.Places.{Places}
use Rattle.hk_eval.specs.declared.frame.Repeat.{Repeat}
use Rattle.hk_eval.specs.declared.frame.Section.{Section}
use Rattle.hk_eval.specs.declared.frame.Stage.{Stage}
use Rattle.hk_eval.specs.declared.frame.Stage.TheVariants.{First, Second, Third, Later}
use Rattle.hk_eval.specs.declared.frame.Wanted.{Wanted}
use Rattle.hk_eval.specs.declared.moves.Move.{Move}
use Rattle.hk_eval.specs.declared.moves.Move.TheVariants as moves
use Rattle.hk_eval.specs.declared.moves.Act.{Act}
use Rattle.hk_eval.specs.declared.moves.Act.TheVariants as acts
use Rattle.hk_eval.specs.declared.place.Place.{Place}
use Rattle.hk_eval.proofs.Following.{leads-bind, leads-done}
use Rattle.hk_eval.proofs.Running.{bind-waits, bind-faults}

module _ (plan : Lookups) where
  then-snoc : (t : Bytes → Task Bytes) (fs : List Frame) (f : Frame) (out : Bytes) → frames_then plan t (fs ++ f ∷ []) out ≡ frame_rest plan f out ▷ frames_then plan t fs
  then-snoc t [] f out = refl
  then-snoc t (g ∷ fs) f out = then-snoc (λ x. frame_rest plan g x ▷ t) fs f out

  pub rest-snoc : (fs : List Frame) (f : Frame) (out : Bytes) → rest plan (fs ++ f ∷ []) out ≡ frame_rest plan f out ▷ rest plan fs
  unfolding rest
  rest-snoc fs f out = then-snoc gives fs f out

  pub rest-none : (out : Bytes) → rest plan [] out ≡ gives out
  unfolding rest
  rest-none out = refl

  pub rest-two : (fs : List Frame) (g f : Frame) (out : Bytes) → rest plan ((fs ++ g ∷ []) ++ f ∷ []) out ≡ frame_rest plan f out ▷ (λ x. frame_rest plan g x ▷ rest plan fs)
  rest-two fs g f out = rest-snoc (fs ++ g ∷ []) f out ∙ ap (λ h. frame_rest plan f out ▷ h) (fun_ext (λ x. rest-snoc fs g x))

-- a text is added, and the rest follows
pub onto-then : (out : Bytes) (t : Task Bytes) (h : Bytes → Task Bytes) → onto out t ▷ h ≡ t ▷ (λ x. h (out ++ x))
onto-then out t h = bind_assoc t (λ x. gives (out ++ x)) h

pub onto-bind : {A : Type 0} (out : Bytes) (t : Task A) (f : A → Task Bytes) → onto out (t ▷ f) ≡ t ▷ (λ x. onto out (f x))
onto-bind out t f = bind_assoc t f (λ x. gives (out ++ x))

pub onto-onto : (out x : Bytes) (t : Task Bytes) → onto out (onto x t) ≡ onto (out ++ x) t
onto-onto out x t = bind_assoc t (λ y. gives (x ++ y)) (λ z. gives (out ++ z)) ∙ ap (λ h. t ▷ h) (fun_ext (λ y. ap gives (sym (append_assoc out x y))))

-- the first frame does the whole
pub started : (plan : Lookups) (f : Frame) (tree : Nodes) (here : Place) → frame_rest plan f [] ≡ onto [] (nodes_task plan (partial_at plan 32) tree here) → rest plan (f ∷ []) [] ≡ render plan tree here
unfolding render
started plan f tree here e =
    rest-snoc plan [] f [] ∙ (ap (λ t. t ▷ rest plan []) e ∙ (onto-then [] (nodes_task plan (partial_at plan 32) tree here) (rest plan []) ∙ (ap (λ g. nodes_task plan (partial_at plan 32) tree here ▷ g) (fun_ext (λ x. rest-none plan x)) ∙ bind_gives (nodes_task plan (partial_at plan 32) tree here))))

-- the nodes of a block
module _ (plan : Lookups) (fs : List Frame) (s : Section) (out : Bytes) where
  abbrev whole : Frame
  whole = frames.Nodes s

  abbrev later : Frame
  later = frames.Nodes (record s { at = s.at + 1 })

  pub nodes-end : nodes_from s.at (block_nodes s.block) ≡ no_nodes → rest plan (fs ++ frames.Nodes s ∷ []) out ≡ rest plan fs out
  nodes-end e = rest-snoc plan fs (frames.Nodes s) out ∙ (ap (λ ns. onto out (nodes_task plan (partial_at plan s.left) ns s.here) ▷ rest plan fs) e ∙ ap (rest plan fs) (append-nil out))

  module _ (n : Node) (is : nodes_from s.at (block_nodes s.block) ≡ node n (nodes_from (s.at + 1) (block_nodes s.block))) where
    abbrev task : Task Bytes
    task = node_task plan (partial_at plan s.left) n s.here

    abbrev others : Task Bytes
    others = nodes_task plan (partial_at plan s.left) (nodes_from (s.at + 1) (block_nodes s.block)) s.here

    nodes-next : rest plan (fs ++ frames.Nodes s ∷ []) out ≡ node_task plan (partial_at plan s.left) n s.here ▷ (λ x. rest plan (fs ++ later ∷ []) (out ++ x))
    nodes-next =
        rest-snoc plan fs (frames.Nodes s) out
        ∙ (ap (λ ns. onto out (nodes_task plan (partial_at plan s.left) ns s.here) ▷ rest plan fs) is
        ∙ (ap (λ w. w ▷ rest plan fs) (onto-bind out task (λ x. onto x others))
        ∙ (bind_assoc task (λ x. onto out (onto x others)) (rest plan fs)
        ∙ ap (λ h. task ▷ h) (fun_ext (λ x. ap (λ w. w ▷ rest plan fs) (onto-onto out x others) ∙ sym (rest-snoc plan fs later (out ++ x)))))))

    -- what a node came to, as a step of the stack
    module _ (k : Pages) (old new : FactsView) (more : Bytes) where
      pub step-wrote : (now : List Frame) → now ≡ fs ++ frames.Nodes (record s { at = s.at + 1 }) ∷ [] → Moves plan k (node_task plan (partial_at plan s.left) n s.here) old out moves.Wrote new more
          → Steps k (rest plan (fs ++ frames.Nodes s ∷ []) out) old acts.Goes (rest plan now more) new more
      step-wrote now e h =
          record {
            log = h.log;
            notes = h.notes;
            leads = subst (λ (t : Task Bytes). Leads k t h.log (rest plan now more)) (sym nodes-next)
                (subst (λ (u : Task Bytes). Leads k (task ▷ (λ x. rest plan (fs ++ later ∷ []) (out ++ x))) h.log u) (ap (rest plan (fs ++ later ∷ [])) (sym h.written) ∙ ap (λ w. rest plan w more) (sym e))
                (leads-done k task (λ x. rest plan (fs ++ later ∷ []) (out ++ x)) h.log h.text h.is));
          }

      pub step-pushed : (now : List Frame) (f : Frame) → now ≡ (fs ++ frames.Nodes (record s { at = s.at + 1 }) ∷ []) ++ f ∷ [] → Moves plan k (node_task plan (partial_at plan s.left) n s.here) old out (moves.Push f) new more
          → Steps k (rest plan (fs ++ frames.Nodes s ∷ []) out) old acts.Goes (rest plan now more) new more
      step-pushed now f e h =
          let u : Bytes → Task Bytes = rest plan (fs ++ later ∷ []) in
          record {
            log = h.log;
            notes = h.notes;
            leads = subst (λ (t : Task Bytes). Leads k t h.log (rest plan now more)) (sym (nodes-next ∙ sym (onto-then out task u)))
                (subst (λ (w : Task Bytes). Leads k (onto out task ▷ u) h.log w) (sym (rest-snoc plan (fs ++ later ∷ []) f out) ∙ (ap (rest plan ((fs ++ later ∷ []) ++ f ∷ [])) (sym h.written) ∙ ap (λ w. rest plan w more) (sym e)))
                (leads-bind k (onto out task) (frame_rest plan f out) h.log u (h.leads out)));
          }

      pub step-asks : (now : List Frame) (step : Act) (move : Move) → Moves plan k (node_task plan (partial_at plan s.left) n s.here) old out move new more → now ≡ fs ++ frames.Nodes s ∷ []
          → (pairs : Vec PairNo Global) → move ≡ moves.Asks pairs → step ≡ acts.Asks pairs → Steps k (rest plan (fs ++ frames.Nodes s ∷ []) out) old step (rest plan now more) new more
      step-asks now step move m e pairs a b =
          let h : Moves plan k task old out (moves.Asks pairs) new more = subst (λ v. Moves plan k task old out v new more) a m in
          subst (λ v. Steps k (rest plan (fs ++ frames.Nodes s ∷ []) out) old v (rest plan now more) new more) (sym b) (
            ap (λ (w : Task Bytes). (run w k).end) nodes-next ∙ ap (λ (r : Run Bytes). r.end) (bind-waits k task (λ x. rest plan (fs ++ later ∷ []) (out ++ x)) pairs.items h.0),
            ap (λ w. rest plan w more) e ∙ ap (rest plan (fs ++ frames.Nodes s ∷ [])) h.2,
            h.1,
          )

      pub step-fails : (u : Task Bytes) (x : Fault) → Moves plan k (node_task plan (partial_at plan s.left) n s.here) old out (moves.Fails x) new more → Steps k (rest plan (fs ++ frames.Nodes s ∷ []) out) old (acts.Fails x) u new more
      step-fails u x h = ap (λ (w : Task Bytes). (run w k).end) nodes-next ∙ ap (λ (r : Run Bytes). r.end) (bind-faults k task (λ x. rest plan (fs ++ later ∷ []) (out ++ x)) x h)

-- a list that is made
module _ (plan : Lookups) (fs : List Frame) (w : Wanted) (r : Repeat) (out : Bytes) where
  abbrev shown : List Place → Task Bytes
  shown ps = onto out (each_place (each_of plan r) (between_of plan r) ps)

  make-next : rest plan (fs ++ frames.Make w r ∷ []) out ≡ list_task plan (wanted_list w) ▷ (λ ps. shown ps ▷ rest plan fs)
  make-next = rest-snoc plan fs (frames.Make w r) out ∙ bind_assoc (list_task plan (wanted_list w)) shown (rest plan fs)

  module _ (k : Pages) (old new : FactsView) (e : End (List Place)) (came : Comes k (list_task plan (wanted_list w)) old e new) where
    pub made-places : (now : List Frame) (ps : Places) → now ≡ fs ++ frames.List ps First r ∷ [] → ps.next ≡ 0 → e ≡ done ps.places.items → Steps k (rest plan (fs ++ frames.Make w r ∷ []) out) old acts.Goes (rest plan now out) new out
    made-places now ps is zero_ q =
        let c : Comes k (list_task plan (wanted_list w)) old (done ps.places.items) new = subst (λ v. Comes k (list_task plan (wanted_list w)) old v new) q came in
        let s : shown ps.places.items ▷ rest plan fs ≡ rest plan now out =
        ap (λ n. shown (drop n ps.places.items) ▷ rest plan fs) (sym zero_) ∙ (sym (rest-snoc plan fs (frames.List ps First r) out) ∙ ap (λ v. rest plan v out) (sym is)) in
        record {
          log = c.0;
          notes = c.2;
          leads = subst (λ (t : Task Bytes). Leads k t c.0 (rest plan now out)) (sym make-next)
              (subst (λ (u : Task Bytes). Leads k (list_task plan (wanted_list w) ▷ (λ ps. shown ps ▷ rest plan fs)) c.0 u) s
              (leads-done k (list_task plan (wanted_list w)) (λ ps. shown ps ▷ rest plan fs) c.0 ps.places.items c.1));
        }

    pub made-asks : (now : List Frame) (pairs : Vec PairNo Global) → now ≡ fs ++ frames.Make w r ∷ [] → e ≡ waits pairs.items → Steps k (rest plan (fs ++ frames.Make w r ∷ []) out) old (acts.Asks pairs) (rest plan now out) new out
    made-asks now pairs is q =
        let c : Comes k (list_task plan (wanted_list w)) old (waits pairs.items) new = subst (λ v. Comes k (list_task plan (wanted_list w)) old v new) q came in (
          ap (λ (t : Task Bytes). (run t k).end) make-next ∙ ap (λ (r : Run Bytes). r.end) (bind-waits k (list_task plan (wanted_list w)) (λ ps. shown ps ▷ rest plan fs) pairs.items c.0),
          ap (λ v. rest plan v out) is,
          c.1,
        )

    pub made-fails : (u : Task Bytes) (x : Fault) → e ≡ fault x → Steps k (rest plan (fs ++ frames.Make w r ∷ []) out) old (acts.Fails x) u new out
    made-fails u x q =
        let c : Comes k (list_task plan (wanted_list w)) old (fault x) new = subst (λ v. Comes k (list_task plan (wanted_list w)) old v new) q came in
        ap (λ (t : Task Bytes). (run t k).end) make-next ∙ ap (λ (r : Run Bytes). r.end) (bind-faults k (list_task plan (wanted_list w)) (λ ps. shown ps ▷ rest plan fs) x c)

pub none-left : {A : Type 0} (xs : List A) → length xs ≡ 0 → xs ≡ []
none-left [] e = refl
none-left (x ∷ xs) e = absurd (omega arith)
