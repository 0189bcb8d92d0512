-- Lookups, lists and renderings as deeds save nothing, and ask for no page twice in a group.
use Rattle.std.proofs.Common.{◌≡◌, ap, ℕ, zero, suc, Bool, true, false, cond, ◌&&◌, List, [], ◌∷◌, ◌++◌, Option, Some, None, Result, Ok, Err}
use Rattle.std.specs.Prelude.{bytes_eq}
use Rattle.std.specs.List.{AllByRecursion, IsDistinct}
use Rattle.std.specs.Ordering.{eq_by_cmp}
use Rattle.hk_base.specs.Bytes.{Bytes}
use Rattle.hk_base.specs.Identifier.{Ident, ident_cmp}
use Rattle.hk_chain.specs.declared.page.Kind.{Kind}
use Rattle.hk_chain.specs.declared.page.Kind.TheVariants as kinds
use Rattle.hk_chain.specs.declared.page.Page.{Page}
use Rattle.hk_fix.specs.Deed.{Deed, returns, ◌then◌, IsNumber, IsQuiet}
use Rattle.hk_fix.specs.DeedLaws.{quiet-then}
use Rattle.hk_fix.specs.Table.{Table, same_key}
use Rattle.hk_chain.specs.Names.{final_name}
use Rattle.hk_rules.specs.Recipe as recipes
use Rattle.hk_rules.specs.Recipe.{NamedContext, NamedField, NamedList, FieldHas, ContextsHave}
use Rattle.hk_template.specs.Growing.{read_tree}
use Rattle.hk_template.specs.Tree.{Node, Nodes, text_node, dollar_node, key_node, if_node, if_else_node, for_node, for_sep_node, partial_node, no_nodes, node}
use Rattle.hk_template.specs.declared.fault.TemplateFault.{TemplateFault}
use Rattle.hk_eval.specs.Asking.{is_text}
use Rattle.hk_eval.specs.Fields.{fits_by}
use Rattle.hk_eval.specs.NamedAsking.{ask_deed, keys_named, text_if_deed, need_text_deed, ask_text_deed, other_named}
use Rattle.hk_eval.specs.NamedFields.{text_value_if, flag_value_if, body_value, teaser_value, named_key, own_deed, value_deed, or_deed, first_deed, fields_in, field_deed}
use Rattle.hk_eval.specs.NamedLists.{named_places, in_order, limited_deed, places_deed_by, list_deed}
use Rattle.hk_eval.specs.NamedRendering.{tree_deed_by, tree_deed, template_deed_by, need_template_deed, template_deed, as_text_deed, as_places_deed, branch_deed, each_after_deed, each_place_deed, node_deed, nodes_deed, partial_deed, render_deed}
use Rattle.hk_eval.specs.NamedValue.{NamedPlace, NamedValue, no_value, text_value, flag_value, list_value}
use Rattle.hk_eval.specs.Rendering.{plain_id}
use Rattle.hk_html.specs.Teasers.{teaser_of}

-- the identifiers are those of different items
abbrev pub AreApart : List Ident → Type 0
AreApart = IsDistinct (eq_by_cmp ident_cmp)

module _ (table : Table) (once : (by : Bytes) → AreApart (table.matches by)) where
  -- anything
  abbrev pub Any : {A : Type 0} → A → Type 0
  Any x = Unit {0}

  -- the pattern of a list is one of the plan's
  abbrev IsGood : NamedValue → Type 0
  IsGood no_value = Unit {0}
  IsGood (text_value bytes) = Unit {0}
  IsGood flag_value = Unit {0}
  IsGood (list_value listing) = IsNumber table listing.pattern

  -- ---- asks

  pub quiet-ask : (id : Ident) (name : Bytes) → IsQuiet table Any (ask_deed id name)
  unfolding IsDistinct
  quiet-ask id name = ((tt, tt), λ xs. tt)

  quiet-if : (id : Ident) (page : Page) (b : Bool) → IsQuiet table Any (text_if_deed id page b)
  quiet-if id page true = tt
  quiet-if id page false = tt

  pub quiet-text : (id : Ident) (page : Page) → IsQuiet table Any (need_text_deed id page)
  quiet-text id page = quiet-if id page (is_text page.kind)

  pub quiet-ask_text : (id : Ident) (name : Bytes) → IsQuiet table Any (ask_text_deed id name)
  quiet-ask_text id name = quiet-then table Any Any (ask_deed id name) (need_text_deed id) (quiet-ask id name) (λ page u. quiet-text id page)

  pub keys-apart : (name : Bytes) (ids : List Ident) → AreApart ids → IsDistinct same_key (keys_named name ids)
  unfolding IsDistinct
  keys-apart name [] d = tt
  keys-apart name (id ∷ ids) d = (each ids d.0, keys-apart name ids d.1)
    where
      each : (more : List Ident) → AllByRecursion (λ other. eq_by_cmp ident_cmp id other ≡ false) more → AllByRecursion (λ key. same_key (record { id = id; name = name }) key ≡ false) (keys_named name more)
      each [] h = tt
      each (other ∷ more) h = (ap (λ b. b && bytes_eq name name) h.0, each more h.1)

  -- ---- fields

  good-text : (o : Option Bytes) → IsGood (text_value_if o)
  good-text None = tt
  good-text (Some bytes) = tt

  good-flag : (set : Bool) → IsGood (flag_value_if set)
  good-flag true = tt
  good-flag false = tt

  quiet-own : (here : NamedPlace) (key : Bytes) (f : NamedField) → FieldHas (IsNumber table) f → IsQuiet table IsGood (own_deed here key f)
  quiet-own here key recipes.page_body h = quiet-then table Any IsGood (need_text_deed here.id here.page) body_value (quiet-text here.id here.page) (λ page u. tt)
  quiet-own here key recipes.metadata h = good-text _
  quiet-own here key recipes.url h = good-text _
  quiet-own here key recipes.path h = tt
  quiet-own here key recipes.title h = tt
  quiet-own here key (recipes.constant own bytes) h = tt
  quiet-own here key (recipes.date own pattern) h = good-text _
  quiet-own here key (recipes.flag own set) h = good-flag set
  quiet-own here key (recipes.teaser own name) h = quiet-then table Any IsGood (ask_text_deed here.id name) teaser_value (quiet-ask_text here.id name) (λ page u. good-text (teaser_of page.body))
  quiet-own here key (recipes.list own listing) h = h

  quiet-fit : (b : Bool) (d : Deed NamedValue) → IsQuiet table IsGood d → IsQuiet table IsGood (cond b d (returns no_value))
  quiet-fit true d h = h
  quiet-fit false d h = tt

  quiet-or : (d : Deed NamedValue) (v : NamedValue) → IsQuiet table IsGood d → IsGood v → IsQuiet table IsGood (or_deed d v)
  quiet-or d no_value h g = h
  quiet-or d (text_value bytes) h g = tt
  quiet-or d flag_value h g = tt
  quiet-or d (list_value listing) h g = g

  quiet-first : (here : NamedPlace) (key : Bytes) (fs : List NamedField) → AllByRecursion (FieldHas (IsNumber table)) fs → IsQuiet table IsGood (first_deed here key fs)
  quiet-first here key [] h = tt
  quiet-first here key (f ∷ fs) h =
      quiet-then table IsGood IsGood (value_deed here key f) (or_deed (first_deed here key fs)) (quiet-fit (fits_by (named_key f) key) (own_deed here key f) (quiet-own here key f h.0))
      (λ v g. quiet-or (first_deed here key fs) v (quiet-first here key fs h.1) g)

  fields-have : (contexts : List NamedContext) → ContextsHave (IsNumber table) contexts → (name : Bytes) → AllByRecursion (FieldHas (IsNumber table)) (fields_in contexts name)
  fields-have [] h name = tt
  fields-have (c ∷ contexts) h name = at (bytes_eq c.name name) (fields-have contexts h.1 name)
    where
      at : (b : Bool) → AllByRecursion (FieldHas (IsNumber table)) (fields_in contexts name) → AllByRecursion (FieldHas (IsNumber table)) (cond b c.fields (fields_in contexts name))
      at true w = h.0
      at false w = w

  -- ---- lists

  quiet-limited : (limit : Option ℕ) (r : Result (List NamedPlace) Ident) → IsQuiet table Any (limited_deed limit r)
  quiet-limited limit (Ok ps) = tt
  quiet-limited limit (Err id) = tt

  quiet-by : (listing : NamedList) (ps : List NamedPlace) (o : Option Ident) → IsQuiet table Any (places_deed_by listing ps o)
  quiet-by listing ps None = quiet-limited listing.limit (in_order listing.order ps)
  quiet-by listing ps (Some id) = tt

  quiet-list : (listing : NamedList) → IsNumber table listing.pattern → IsQuiet table Any (list_deed listing)
  quiet-list listing h =
      let ids = table.matches listing.pattern in
      (h, (keys-apart listing.snapshot ids (once listing.pattern), λ xs. quiet-by listing (named_places listing.context ids xs) (other_named ids xs)))

  -- ---- templates

  quiet-tree-by : (r : Result Nodes TemplateFault) → IsQuiet table Any (tree_deed_by r)
  quiet-tree-by (Ok tree) = tt
  quiet-tree-by (Err fault) = tt

  pub quiet-tree : (bytes : Bytes) → IsQuiet table Any (tree_deed bytes)
  quiet-tree bytes = quiet-tree-by (read_tree bytes)

  quiet-template-by : (id : Ident) (kind : Kind) (bytes : Bytes) → IsQuiet table Any (template_deed_by id kind bytes)
  quiet-template-by id kinds.Text bytes = tt
  quiet-template-by id kinds.Template bytes = quiet-tree bytes
  quiet-template-by id kinds.File bytes = tt

  pub quiet-template : (id : Ident) → IsQuiet table Any (template_deed id)
  quiet-template id = quiet-then table Any Any (ask_deed id final_name) (need_template_deed id) (quiet-ask id final_name) (λ page u. quiet-template-by id page.kind page.body)

  -- ---- nodes

  quiet-as_text : (key : Bytes) (v : NamedValue) → IsQuiet table Any (as_text_deed key v)
  quiet-as_text key no_value = tt
  quiet-as_text key (text_value bytes) = tt
  quiet-as_text key flag_value = tt
  quiet-as_text key (list_value listing) = tt

  quiet-as_places : (key : Bytes) (v : NamedValue) → IsGood v → IsQuiet table Any (as_places_deed key v)
  quiet-as_places key no_value g = tt
  quiet-as_places key (text_value bytes) g = tt
  quiet-as_places key flag_value g = tt
  quiet-as_places key (list_value listing) g = quiet-list listing g

  quiet-branch : (yes_ no_ : Deed Bytes) → IsQuiet table Any yes_ → IsQuiet table Any no_ → (v : NamedValue) → IsQuiet table Any (branch_deed yes_ no_ v)
  quiet-branch yes_ no_ h g no_value = g
  quiet-branch yes_ no_ h g (text_value bytes) = h
  quiet-branch yes_ no_ h g flag_value = h
  quiet-branch yes_ no_ h g (list_value listing) = h

  module _ (each : NamedPlace → Deed Bytes) (quiet : (p : NamedPlace) → IsQuiet table Any (each p)) where
    quiet-after : (between : Bytes) (ps : List NamedPlace) → IsQuiet table Any (each_after_deed each between ps)
    quiet-after between [] = tt
    quiet-after between (p ∷ ps) =
        quiet-then table Any Any (each p) (λ x. each_after_deed each between ps then (λ y. returns (between ++ (x ++ y)))) (quiet p)
        (λ x u. quiet-then table Any Any (each_after_deed each between ps) (λ y. returns (between ++ (x ++ y))) (quiet-after between ps) (λ y v. tt))

    quiet-each : (between : Deed Bytes) → IsQuiet table Any between → (ps : List NamedPlace) → IsQuiet table Any (each_place_deed each between ps)
    quiet-each between g [] = tt
    quiet-each between g (p ∷ []) = quiet p
    quiet-each between g (p ∷ q ∷ ps) =
        quiet-then table Any Any (each p) (λ x. between then (λ b. each_after_deed each b (q ∷ ps) then (λ y. returns (x ++ y)))) (quiet p)
        (λ x u. quiet-then table Any Any between (λ b. each_after_deed each b (q ∷ ps) then (λ y. returns (x ++ y))) g
        (λ b v. quiet-then table Any Any (each_after_deed each b (q ∷ ps)) (λ y. returns (x ++ y)) (quiet-after b (q ∷ ps)) (λ y w. tt)))

  module _ (contexts : List NamedContext) (have : ContextsHave (IsNumber table) contexts) where
    quiet-field : (here : NamedPlace) (key : Bytes) → IsQuiet table IsGood (field_deed contexts here key)
    quiet-field here key = quiet-first here key (fields_in contexts here.context) (fields-have contexts have here.context)

    module _ (deeper : Bytes → NamedPlace → Deed Bytes) (deep : (path : Bytes) (p : NamedPlace) → IsQuiet table Any (deeper path p)) where
      quiet-for : (key : Bytes) (each : NamedPlace → Deed Bytes) → ((p : NamedPlace) → IsQuiet table Any (each p)) → (between : Deed Bytes) → IsQuiet table Any between → (v : NamedValue) → IsGood v → IsQuiet table Any (as_places_deed key v then each_place_deed each between)
      quiet-for key each h between g v good = quiet-then table Any Any (as_places_deed key v) (each_place_deed each between) (quiet-as_places key v good) (λ ps u. quiet-each each h between g ps)

      mutual
        quiet-node : (n : Node) (here : NamedPlace) → IsQuiet table Any (node_deed contexts deeper n here)
        quiet-node (text_node bytes) here = tt
        quiet-node dollar_node here = tt
        quiet-node (key_node key) here = quiet-then table IsGood Any (field_deed contexts here key) (as_text_deed key) (quiet-field here key) (λ v g. quiet-as_text key v)
        quiet-node (if_node key yes_) here =
            quiet-then table IsGood Any (field_deed contexts here key) (branch_deed (nodes_deed contexts deeper yes_ here) (returns [])) (quiet-field here key)
            (λ v g. quiet-branch (nodes_deed contexts deeper yes_ here) (returns []) (quiet-nodes yes_ here) tt v)
        quiet-node (if_else_node key yes_ no_) here =
            quiet-then table IsGood Any (field_deed contexts here key) (branch_deed (nodes_deed contexts deeper yes_ here) (nodes_deed contexts deeper no_ here)) (quiet-field here key)
            (λ v g. quiet-branch (nodes_deed contexts deeper yes_ here) (nodes_deed contexts deeper no_ here) (quiet-nodes yes_ here) (quiet-nodes no_ here) v)
        quiet-node (for_node key each) here =
            quiet-then table IsGood Any (field_deed contexts here key) (λ v. as_places_deed key v then each_place_deed (nodes_deed contexts deeper each) (returns [])) (quiet-field here key)
            (λ v g. quiet-for key (nodes_deed contexts deeper each) (λ p. quiet-nodes each p) (returns []) tt v g)
        quiet-node (for_sep_node key each between) here =
            quiet-then table IsGood Any (field_deed contexts here key) (λ v. as_places_deed key v then each_place_deed (nodes_deed contexts deeper each) (nodes_deed contexts deeper between here)) (quiet-field here key)
            (λ v g. quiet-for key (nodes_deed contexts deeper each) (λ p. quiet-nodes each p) (nodes_deed contexts deeper between here) (quiet-nodes between here) v g)
        quiet-node (partial_node path) here = deep path here

        quiet-nodes : (ns : Nodes) (here : NamedPlace) → IsQuiet table Any (nodes_deed contexts deeper ns here)
        quiet-nodes no_nodes here = tt
        quiet-nodes (node n ns) here =
            quiet-then table Any Any (node_deed contexts deeper n here) (λ x. nodes_deed contexts deeper ns here then (λ y. returns (x ++ y))) (quiet-node n here)
            (λ x u. quiet-then table Any Any (nodes_deed contexts deeper ns here) (λ y. returns (x ++ y)) (quiet-nodes ns here) (λ y v. tt))

    quiet-partial : (left : ℕ) (path : Bytes) (here : NamedPlace) → IsQuiet table Any (partial_deed contexts left path here)
    quiet-partial zero path here = tt
    quiet-partial (suc left) path here =
        quiet-then table Any Any (template_deed (plain_id path)) (λ tree. nodes_deed contexts (partial_deed contexts left) tree here) (quiet-template (plain_id path))
        (λ tree u. quiet-nodes (partial_deed contexts left) (quiet-partial left) tree here)

    pub quiet-render : (tree : Nodes) (here : NamedPlace) → IsQuiet table Any (render_deed contexts tree here)
    quiet-render tree here = quiet-nodes (partial_deed contexts 32) (quiet-partial 32) tree here
