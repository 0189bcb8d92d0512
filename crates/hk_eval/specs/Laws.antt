-- Lookups, lists and renderings save nothing, and what holds of the pairs that a plan can be asked for holds of each of their groups.
use Rattle.std.proofs.Common.{◌≡◌, refl, ℕ, zero, suc, cond, List, [], ◌∷◌, Option, Some, None, Result, Ok, Err, Bool, true, false}
use Rattle.hk_base.specs.Bytes.{Bytes}
use Rattle.hk_base.specs.Identifier.{Ident}
use Rattle.hk_chain.specs.declared.context.Field.{Field}
use Rattle.hk_chain.specs.declared.context.Field.TheVariants as fields
use Rattle.hk_chain.specs.declared.fault.Fault.{Fault}
use Rattle.hk_chain.specs.declared.fault.Fault.TheVariants.{NoSnapshot}
use Rattle.hk_chain.specs.declared.page.Kind.{Kind}
use Rattle.hk_chain.specs.declared.page.Kind.TheVariants as kinds
use Rattle.hk_chain.specs.declared.page.Page.{Page}
use Rattle.hk_fix.specs.Chains.{AllGroups, Saves}
use Rattle.hk_fix.specs.Task.{Task, gives, fails, asks, notes, used, saved, ◌▷◌}
use Rattle.hk_chain.specs.Names.{final_name}
use Rattle.hk_rules.specs.Plan.{Lookups}
use Rattle.hk_template.specs.Growing.{read_tree}
use Rattle.hk_template.specs.Tree.{Node, Nodes, text_node, dollar_node, key_node, if_node, if_else_node, for_node, for_sep_node, partial_node, no_nodes, node}
use Rattle.hk_template.specs.declared.fault.TemplateFault.{TemplateFault}
use Rattle.hk_eval.specs.Asking.{ask_pair, ask_item, ask, pairs_of, ask_group, ask_found, ask_all, is_text, text_if, need_text, ask_text, other_kind}
use Rattle.hk_eval.specs.Fields.{body_text, teaser_text, fits, own_task, value_task, or_task, first_task, field_task}
use Rattle.hk_eval.specs.Lists.{places_of, ordered, limited_task, places_by, places_task, list_task}
use Rattle.hk_eval.specs.Quiet.{Quiet}
use Rattle.hk_eval.specs.Rendering.{as_text, as_places, branch, each_after, each_place, node_task, nodes_task, plain_id, partial_at, render}
use Rattle.hk_eval.specs.Templates.{tree_by, template_by, need_template, template_task}
use Rattle.hk_eval.specs.Value.{Listing, Value, absent, text, flag, list}
use Rattle.hk_eval.specs.declared.place.Place.{Place}

-- one task after another

module _ {A B : Type 0} (f : A → Task B) where
  pub groups-bind : (P : List ℕ → Type 0) (t : Task A) → AllGroups P t → ((x : A) → AllGroups P (f x)) → AllGroups P (t ▷ f)
  groups-bind P (gives x) g h = h x
  groups-bind P (fails e) g h = tt
  groups-bind P (asks ps k) g h = (g.0, λ xs. groups-bind P (k xs) (g.1 xs) h)
  groups-bind P (notes n t) g h = groups-bind P t g h

  pub quiet-bind : (t : Task A) → Quiet t → ((x : A) → Quiet (f x)) → Quiet (t ▷ f)
  quiet-bind (gives x) q h = h x
  quiet-bind (fails e) q h = tt
  quiet-bind (asks ps k) q h = λ xs. quiet-bind (k xs) (q xs) h
  quiet-bind (notes (used n) t) q h = quiet-bind t q h
  quiet-bind (notes (saved p x) t) q h = absurd q

  pub saves-bind : (ps : List ℕ) (t : Task A) → Quiet t → ((x : A) → Saves ps (f x)) → Saves ps (t ▷ f)
  saves-bind ps (gives x) q h = h x
  saves-bind ps (fails e) q h = tt
  saves-bind ps (asks qs k) q h = λ xs. saves-bind ps (k xs) (q xs) h
  saves-bind ps (notes (used n) t) q h = saves-bind ps t q h
  saves-bind ps (notes (saved p x) t) q h = absurd q

-- ---- what saves nothing

-- asks

pub quiet-text : (id : Ident) (page : Page) (b : Bool) → Quiet (text_if id page b)
quiet-text id page true = tt
quiet-text id page false = tt

quiet-pair : (fault : Fault) (o : Option ℕ) → Quiet (ask_pair fault o)
quiet-pair fault None = tt
quiet-pair fault (Some pair) = λ xs. tt

quiet-item : (plan : Lookups) (id : Ident) (name : Bytes) (o : Option ℕ) → Quiet (ask_item plan id name o)
quiet-item plan id name None = tt
quiet-item plan id name (Some item) = quiet-pair (NoSnapshot id name) (plan.pair item name)

pub quiet-ask : (plan : Lookups) (id : Ident) (name : Bytes) → Quiet (ask plan id name)
quiet-ask plan id name = quiet-item plan id name (plan.find id)

pub quiet-group : (ps : List ℕ) → Quiet (ask_group ps)
quiet-group [] = tt
quiet-group (p ∷ ps) = λ xs. tt

quiet-found : (plan : Lookups) (name : Bytes) (r : Result (List ℕ) ℕ) → Quiet (ask_found plan name r)
quiet-found plan name (Ok ps) = quiet-group ps
quiet-found plan name (Err item) = tt

pub quiet-all : (plan : Lookups) (name : Bytes) (items : List ℕ) → Quiet (ask_all plan name items)
quiet-all plan name items = quiet-found plan name (pairs_of plan name items)

pub quiet-load : (plan : Lookups) (id : Ident) (name : Bytes) → Quiet (ask_text plan id name)
quiet-load plan id name = quiet-bind (need_text id) (ask plan id name) (quiet-ask plan id name) (λ x. quiet-text id x (is_text x.kind))

-- fields

quiet-key : (b : Bool) (t : Task Value) → Quiet t → Quiet (let u : Task Value = cond b t (gives absent) in u)
quiet-key true t q = q
quiet-key false t q = tt

quiet-own : (plan : Lookups) (here : Place) (key : Bytes) (field : Field) → Quiet (own_task plan here key field)
quiet-own plan here key fields.Body = quiet-bind body_text (need_text (plan.id here.item) here.page) (quiet-text (plan.id here.item) here.page (is_text here.page.kind)) (λ x. tt)
quiet-own plan here key fields.Metadata = tt
quiet-own plan here key fields.Url = tt
quiet-own plan here key fields.Path = tt
quiet-own plan here key fields.Title = tt
quiet-own plan here key (fields.Const own bytes) = tt
quiet-own plan here key (fields.Date own pattern) = tt
quiet-own plan here key (fields.Bool own set) = tt
quiet-own plan here key (fields.Teaser own name) = quiet-bind teaser_text (ask_text plan (plan.id here.item) name) (quiet-load plan (plan.id here.item) name) (λ x. tt)
quiet-own plan here key (fields.List own pattern snapshot order limit context) = tt

quiet-value : (plan : Lookups) (here : Place) (key : Bytes) (field : Field) → Quiet (value_task plan here key field)
quiet-value plan here key field = quiet-key (fits field key) (own_task plan here key field) (quiet-own plan here key field)

quiet-or : (t : Task Value) (v : Value) → Quiet t → Quiet (or_task t v)
quiet-or t absent q = q
quiet-or t (text bytes) q = tt
quiet-or t flag q = tt
quiet-or t (list listing) q = tt

quiet-first : (plan : Lookups) (here : Place) (key : Bytes) (fs : List Field) → Quiet (first_task plan here key fs)
quiet-first plan here key [] = tt
quiet-first plan here key (f ∷ fs) = quiet-bind (or_task (first_task plan here key fs)) (value_task plan here key f) (quiet-value plan here key f) (λ v. quiet-or (first_task plan here key fs) v (quiet-first plan here key fs))

pub quiet-field : (plan : Lookups) (here : Place) (key : Bytes) → Quiet (field_task plan here key)
unfolding field_task
quiet-field plan here key = quiet-first plan here key (plan.context here.context).fields

-- lists

quiet-limited : (plan : Lookups) (limit : Option ℕ) (r : Result (List Place) ℕ) → Quiet (limited_task plan limit r)
quiet-limited plan limit (Ok places) = tt
quiet-limited plan limit (Err item) = tt

quiet-places : (plan : Lookups) (listing : Listing) (places : List Place) (o : Option ℕ) → Quiet (places_by plan listing places o)
quiet-places plan listing places None = quiet-limited plan listing.limit (ordered plan listing.order places)
quiet-places plan listing places (Some item) = tt

pub quiet-list : (plan : Lookups) (listing : Listing) → Quiet (list_task plan listing)
unfolding list_task
quiet-list plan listing =
    quiet-bind (places_task plan listing (plan.matches listing.pattern)) (ask_all plan listing.snapshot (plan.matches listing.pattern)) (quiet-all plan listing.snapshot (plan.matches listing.pattern))
    (λ xs. quiet-places plan listing (places_of listing.context (plan.matches listing.pattern) xs) (other_kind (plan.matches listing.pattern) xs))

-- templates

pub quiet-tree : (r : Result Nodes TemplateFault) → Quiet (tree_by r)
quiet-tree (Ok tree) = tt
quiet-tree (Err fault) = tt

quiet-kind : (id : Ident) (kind : Kind) (body : Bytes) → Quiet (template_by id kind body)
quiet-kind id kinds.Text body = tt
quiet-kind id kinds.Template body = quiet-tree (read_tree body)
quiet-kind id kinds.File body = tt

pub quiet-template : (plan : Lookups) (id : Ident) → Quiet (template_task plan id)
unfolding template_task
quiet-template plan id = quiet-bind (need_template id) (ask plan id final_name) (quiet-ask plan id final_name) (λ x. quiet-kind id x.kind x.body)

-- renderings

quiet-as_text : (key : Bytes) (v : Value) → Quiet (as_text key v)
quiet-as_text key absent = tt
quiet-as_text key (text bytes) = tt
quiet-as_text key flag = tt
quiet-as_text key (list listing) = tt

quiet-as_places : (plan : Lookups) (key : Bytes) (v : Value) → Quiet (as_places plan key v)
quiet-as_places plan key absent = tt
quiet-as_places plan key (text bytes) = tt
quiet-as_places plan key flag = tt
quiet-as_places plan key (list listing) = quiet-list plan listing

quiet-branch : (t u : Task Bytes) (v : Value) → Quiet t → Quiet u → Quiet (branch t u v)
quiet-branch t u absent a b = b
quiet-branch t u (text bytes) a b = a
quiet-branch t u flag a b = a
quiet-branch t u (list listing) a b = a

module _ (each : Place → Task Bytes) (q : (p : Place) → Quiet (each p)) where
  pub quiet-after : (between : Bytes) (ps : List Place) → Quiet (each_after each between ps)
  quiet-after between [] = tt
  quiet-after between (p ∷ ps) = quiet-bind _ (each p) (q p) (λ x. quiet-bind _ (each_after each between ps) (quiet-after between ps) (λ y. tt))

  pub quiet-each : (between : Task Bytes) → Quiet between → (ps : List Place) → Quiet (each_place each between ps)
  quiet-each between r [] = tt
  quiet-each between r (p ∷ []) = q p
  quiet-each between r (p ∷ p' ∷ ps) = quiet-bind _ (each p) (q p) (λ x. quiet-bind _ between r (λ b. quiet-bind _ (each_after each b (p' ∷ ps)) (quiet-after b (p' ∷ ps)) (λ y. tt)))

module _ (plan : Lookups) (deeper : Bytes → Place → Task Bytes) (q : (path : Bytes) (here : Place) → Quiet (deeper path here)) where
  mutual
    quiet-node : (n : Node) (here : Place) → Quiet (node_task plan deeper n here)
    quiet-node (text_node bytes) here = tt
    quiet-node dollar_node here = tt
    quiet-node (key_node key) here = quiet-bind (as_text key) (field_task plan here key) (quiet-field plan here key) (quiet-as_text key)
    quiet-node (if_node key yes_) here = quiet-bind _ (field_task plan here key) (quiet-field plan here key) (λ v. quiet-branch (nodes_task plan deeper yes_ here) (gives []) v (quiet-nodes yes_ here) tt)
    quiet-node (if_else_node key yes_ no_) here = quiet-bind _ (field_task plan here key) (quiet-field plan here key) (λ v. quiet-branch (nodes_task plan deeper yes_ here) (nodes_task plan deeper no_ here) v (quiet-nodes yes_ here) (quiet-nodes no_ here))
    quiet-node (for_node key each) here = quiet-bind _ (field_task plan here key) (quiet-field plan here key) (λ v. quiet-bind _ (as_places plan key v) (quiet-as_places plan key v) (quiet-each (nodes_task plan deeper each) (quiet-nodes each) (gives []) tt))
    quiet-node (for_sep_node key each between) here = quiet-bind _ (field_task plan here key) (quiet-field plan here key) (λ v. quiet-bind _ (as_places plan key v) (quiet-as_places plan key v) (quiet-each (nodes_task plan deeper each) (quiet-nodes each) (nodes_task plan deeper between here) (quiet-nodes between here)))
    quiet-node (partial_node path) here = q path here

    pub quiet-nodes : (ns : Nodes) (here : Place) → Quiet (nodes_task plan deeper ns here)
    quiet-nodes no_nodes here = tt
    quiet-nodes (node n ns) here = quiet-bind _ (node_task plan deeper n here) (quiet-node n here) (λ x. quiet-bind _ (nodes_task plan deeper ns here) (quiet-nodes ns here) (λ y. tt))

pub quiet-partial : (plan : Lookups) (left : ℕ) (path : Bytes) (here : Place) → Quiet (partial_at plan left path here)
quiet-partial plan zero path here = tt
quiet-partial plan (suc left) path here = quiet-bind _ (template_task plan (plain_id path)) (quiet-template plan (plain_id path)) (λ tree. quiet-nodes plan (partial_at plan left) (quiet-partial plan left) tree here)

-- a rendering saves nothing
pub quiet-render : (plan : Lookups) (tree : Nodes) (here : Place) → Quiet (render plan tree here)
unfolding render
quiet-render plan tree here = quiet-nodes plan (partial_at plan 32) (quiet-partial plan 32) tree here

-- ---- the groups that are asked for

module _ (P : List ℕ → Type 0) where
  pub groups-text : (id : Ident) (page : Page) (b : Bool) → AllGroups P (text_if id page b)
  groups-text id page true = tt
  groups-text id page false = tt

  groups-pair : (fault : Fault) (o : Option ℕ) → ((p : ℕ) → o ≡ Some p → P (p ∷ [])) → AllGroups P (ask_pair fault o)
  groups-pair fault None h = tt
  groups-pair fault (Some p) h = (h p refl, λ xs. tt)

  groups-item : (plan : Lookups) (id : Ident) (name : Bytes) (o : Option ℕ) → ((i p : ℕ) → o ≡ Some i → plan.pair i name ≡ Some p → P (p ∷ [])) → AllGroups P (ask_item plan id name o)
  groups-item plan id name None h = tt
  groups-item plan id name (Some i) h = groups-pair (NoSnapshot id name) (plan.pair i name) (λ p e. h i p refl e)

  groups-group : (ps : List ℕ) → P ps → AllGroups P (ask_group ps)
  groups-group [] h = tt
  groups-group (p ∷ ps) h = (h, λ xs. tt)

  groups-found : (plan : Lookups) (name : Bytes) (r : Result (List ℕ) ℕ) → ((ps : List ℕ) → r ≡ Ok ps → P ps) → AllGroups P (ask_found plan name r)
  groups-found plan name (Ok ps) h = groups-group ps (h ps refl)
  groups-found plan name (Err item) h = tt

  pub groups-tree : (r : Result Nodes TemplateFault) → AllGroups P (tree_by r)
  groups-tree (Ok tree) = tt
  groups-tree (Err fault) = tt

  groups-kind : (id : Ident) (kind : Kind) (body : Bytes) → AllGroups P (template_by id kind body)
  groups-kind id kinds.Text body = tt
  groups-kind id kinds.Template body = groups-tree (read_tree body)
  groups-kind id kinds.File body = tt

  groups-key : (b : Bool) (t : Task Value) → AllGroups P t → AllGroups P (let u : Task Value = cond b t (gives absent) in u)
  groups-key true t g = g
  groups-key false t g = tt

  groups-or : (t : Task Value) (v : Value) → AllGroups P t → AllGroups P (or_task t v)
  groups-or t absent g = g
  groups-or t (text bytes) g = tt
  groups-or t flag g = tt
  groups-or t (list listing) g = tt

  groups-limited : (plan : Lookups) (limit : Option ℕ) (r : Result (List Place) ℕ) → AllGroups P (limited_task plan limit r)
  groups-limited plan limit (Ok places) = tt
  groups-limited plan limit (Err item) = tt

  groups-places : (plan : Lookups) (listing : Listing) (places : List Place) (o : Option ℕ) → AllGroups P (places_by plan listing places o)
  groups-places plan listing places None = groups-limited plan listing.limit (ordered plan listing.order places)
  groups-places plan listing places (Some item) = tt

  groups-as_text : (key : Bytes) (v : Value) → AllGroups P (as_text key v)
  groups-as_text key absent = tt
  groups-as_text key (text bytes) = tt
  groups-as_text key flag = tt
  groups-as_text key (list listing) = tt

  groups-branch : (t u : Task Bytes) (v : Value) → AllGroups P t → AllGroups P u → AllGroups P (branch t u v)
  groups-branch t u absent a b = b
  groups-branch t u (text bytes) a b = a
  groups-branch t u flag a b = a
  groups-branch t u (list listing) a b = a

  module _ (each : Place → Task Bytes) (g : (p : Place) → AllGroups P (each p)) where
    groups-after : (between : Bytes) (ps : List Place) → AllGroups P (each_after each between ps)
    groups-after between [] = tt
    groups-after between (p ∷ ps) = groups-bind _ P (each p) (g p) (λ x. groups-bind _ P (each_after each between ps) (groups-after between ps) (λ y. tt))

    groups-each : (between : Task Bytes) → AllGroups P between → (ps : List Place) → AllGroups P (each_place each between ps)
    groups-each between r [] = tt
    groups-each between r (p ∷ []) = g p
    groups-each between r (p ∷ p' ∷ ps) = groups-bind _ P (each p) (g p) (λ x. groups-bind _ P between r (λ b. groups-bind _ P (each_after each b (p' ∷ ps)) (groups-after b (p' ∷ ps)) (λ y. tt)))

  -- what holds of the pair of each ask and of the pairs of each pattern's items holds of each group
  module _ (plan : Lookups) (one : (id : Ident) (name : Bytes) (i p : ℕ) → plan.find id ≡ Some i → plan.pair i name ≡ Some p → P (p ∷ [])) (all : (n : ℕ) (name : Bytes) (ps : List ℕ) → pairs_of plan name (plan.matches n) ≡ Ok ps → P ps) where
    pub groups-ask : (id : Ident) (name : Bytes) → AllGroups P (ask plan id name)
    groups-ask id name = groups-item plan id name (plan.find id) (one id name)

    pub groups-load : (id : Ident) (name : Bytes) → AllGroups P (ask_text plan id name)
    groups-load id name = groups-bind (need_text id) P (ask plan id name) (groups-ask id name) (λ x. groups-text id x (is_text x.kind))

    pub groups-all : (n : ℕ) (name : Bytes) → AllGroups P (ask_all plan name (plan.matches n))
    groups-all n name = groups-found plan name (pairs_of plan name (plan.matches n)) (all n name)

    groups-own : (here : Place) (key : Bytes) (field : Field) → AllGroups P (own_task plan here key field)
    groups-own here key fields.Body = groups-bind body_text P (need_text (plan.id here.item) here.page) (groups-text (plan.id here.item) here.page (is_text here.page.kind)) (λ x. tt)
    groups-own here key fields.Metadata = tt
    groups-own here key fields.Url = tt
    groups-own here key fields.Path = tt
    groups-own here key fields.Title = tt
    groups-own here key (fields.Const own bytes) = tt
    groups-own here key (fields.Date own pattern) = tt
    groups-own here key (fields.Bool own set) = tt
    groups-own here key (fields.Teaser own name) = groups-bind teaser_text P (ask_text plan (plan.id here.item) name) (groups-load (plan.id here.item) name) (λ x. tt)
    groups-own here key (fields.List own pattern snapshot order limit context) = tt

    groups-value : (here : Place) (key : Bytes) (field : Field) → AllGroups P (value_task plan here key field)
    groups-value here key field = groups-key (fits field key) (own_task plan here key field) (groups-own here key field)

    groups-first : (here : Place) (key : Bytes) (fs : List Field) → AllGroups P (first_task plan here key fs)
    groups-first here key [] = tt
    groups-first here key (f ∷ fs) = groups-bind (or_task (first_task plan here key fs)) P (value_task plan here key f) (groups-value here key f) (λ v. groups-or (first_task plan here key fs) v (groups-first here key fs))

    pub groups-field : (here : Place) (key : Bytes) → AllGroups P (field_task plan here key)
    unfolding field_task
    groups-field here key = groups-first here key (plan.context here.context).fields

    pub groups-list : (listing : Listing) → AllGroups P (list_task plan listing)
    unfolding list_task
    groups-list listing =
        groups-bind (places_task plan listing (plan.matches listing.pattern)) P (ask_all plan listing.snapshot (plan.matches listing.pattern)) (groups-all listing.pattern listing.snapshot)
        (λ xs. groups-places plan listing (places_of listing.context (plan.matches listing.pattern) xs) (other_kind (plan.matches listing.pattern) xs))

    pub groups-template : (id : Ident) → AllGroups P (template_task plan id)
    unfolding template_task
    groups-template id = groups-bind (need_template id) P (ask plan id final_name) (groups-ask id final_name) (λ x. groups-kind id x.kind x.body)

    groups-as_places : (key : Bytes) (v : Value) → AllGroups P (as_places plan key v)
    groups-as_places key absent = tt
    groups-as_places key (text bytes) = tt
    groups-as_places key flag = tt
    groups-as_places key (list listing) = groups-list listing

    module _ (deeper : Bytes → Place → Task Bytes) (g : (path : Bytes) (here : Place) → AllGroups P (deeper path here)) where
      mutual
        groups-node : (n : Node) (here : Place) → AllGroups P (node_task plan deeper n here)
        groups-node (text_node bytes) here = tt
        groups-node dollar_node here = tt
        groups-node (key_node key) here = groups-bind (as_text key) P (field_task plan here key) (groups-field here key) (groups-as_text key)
        groups-node (if_node key yes_) here = groups-bind _ P (field_task plan here key) (groups-field here key) (λ v. groups-branch (nodes_task plan deeper yes_ here) (gives []) v (groups-nodes yes_ here) tt)
        groups-node (if_else_node key yes_ no_) here = groups-bind _ P (field_task plan here key) (groups-field here key) (λ v. groups-branch (nodes_task plan deeper yes_ here) (nodes_task plan deeper no_ here) v (groups-nodes yes_ here) (groups-nodes no_ here))
        groups-node (for_node key each) here = groups-bind _ P (field_task plan here key) (groups-field here key) (λ v. groups-bind _ P (as_places plan key v) (groups-as_places key v) (groups-each (nodes_task plan deeper each) (groups-nodes each) (gives []) tt))
        groups-node (for_sep_node key each between) here = groups-bind _ P (field_task plan here key) (groups-field here key) (λ v. groups-bind _ P (as_places plan key v) (groups-as_places key v) (groups-each (nodes_task plan deeper each) (groups-nodes each) (nodes_task plan deeper between here) (groups-nodes between here)))
        groups-node (partial_node path) here = g path here

        pub groups-nodes : (ns : Nodes) (here : Place) → AllGroups P (nodes_task plan deeper ns here)
        groups-nodes no_nodes here = tt
        groups-nodes (node n ns) here = groups-bind _ P (node_task plan deeper n here) (groups-node n here) (λ x. groups-bind _ P (nodes_task plan deeper ns here) (groups-nodes ns here) (λ y. tt))

    pub groups-partial : (left : ℕ) (path : Bytes) (here : Place) → AllGroups P (partial_at plan left path here)
    groups-partial zero path here = tt
    groups-partial (suc left) path here = groups-bind _ P (template_task plan (plain_id path)) (groups-template (plain_id path)) (λ tree. groups-nodes (partial_at plan left) (groups-partial left) tree here)

    -- of each group of a rendering
    pub groups-render : (tree : Nodes) (here : Place) → AllGroups P (render plan tree here)
    unfolding render
    groups-render tree here = groups-nodes (partial_at plan 32) (groups-partial 32) tree here
