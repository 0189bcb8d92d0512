-- Rendering by names is rendering by numbers.
use Rattle.std.proofs.Common.{◌≡◌, refl, sym, ap, subst, ◌∙◌, ℕ, zero, suc, ◌<◌, Bool, true, false, cond, ◌⊎◌, inl, inr, List, [], ◌∷◌, ◌++◌, map, nat_eq, eqb-true, Option, Some, None, Result, Ok, Err, option_map}
use Rattle.std.proofs.Math.Path.{fun_ext}
use Rattle.std.specs.Prelude.{bytes_eq}
use Rattle.std.specs.List.{AllByRecursion}
use Rattle.hk_base.specs.Bytes.{Bytes}
use Rattle.hk_base.specs.Identifier.{Ident}
use Rattle.hk_base.specs.Ties.{bytes-same, bytes-self}
use Rattle.hk_chain.specs.declared.context.Field.{Field}
use Rattle.hk_chain.specs.declared.context.Field.TheVariants as fields
use Rattle.hk_chain.specs.declared.page.Kind.{Kind}
use Rattle.hk_chain.specs.declared.page.Kind.TheVariants as kinds
use Rattle.hk_chain.specs.declared.page.Page.{Page}
use Rattle.hk_fix.specs.Deed.{Deed, returns, ◌then◌, interpret}
use Rattle.hk_fix.specs.DeedLaws.{interpret-then, bind-same}
use Rattle.hk_fix.specs.Table.{Table}
use Rattle.hk_fix.specs.Task.{Task, gives, ◌▷◌}
use Rattle.hk_fix.specs.TaskLaws.{bind_assoc}
use Rattle.hk_html.specs.Teasers.{teaser_of}
use Rattle.hk_chain.specs.Names.{final_name}
use Rattle.hk_rules.specs.Plan.{Lookups}
use Rattle.hk_eval.specs.PlanTable.{IsTableOf}
use Rattle.hk_rules.specs.Recipe.{NamedContext, context_name, named_field, named_context, is_among, IsFieldAmong, AreClosed}
use Rattle.hk_rules.proofs.Reaching.{or-cases, all-among}
use Rattle.hk_template.specs.Growing.{read_tree}
use Rattle.hk_template.specs.Tree.{Node, Nodes, text_node, dollar_node, key_node, if_node, if_else_node, for_node, for_sep_node, partial_node, no_nodes, node}
use Rattle.hk_template.specs.declared.fault.TemplateFault.{TemplateFault}
use Rattle.hk_eval.specs.Asking.{ask, ask_all, need_text, ask_text, other_kind}
use Rattle.hk_eval.specs.Fields.{text_if_any, flag_if, body_text, teaser_text, fits_by, fits, own_task, value_task, or_task, first_task, field_task, printed_by, date_at}
use Rattle.hk_eval.specs.Lists.{places_of, places_task, list_task}
use Rattle.hk_eval.specs.NamedAsking.{ask_deed, need_text_deed, ask_text_deed}
use Rattle.hk_eval.specs.NamedFields.{text_value_if, flag_value_if, body_value, teaser_value, named_key, own_deed, value_deed, or_deed, first_deed, fields_in, field_deed}
use Rattle.hk_eval.specs.NamedLists.{list_deed}
use Rattle.hk_eval.specs.NamedPlaces.{named_place, named_listing, named_value}
use Rattle.hk_eval.specs.NamedRendering.{tree_deed_by, tree_deed, template_deed_by, need_template_deed, template_deed, as_text_deed, as_places_deed, branch_deed, each_after_deed, each_place_deed, node_deed, nodes_deed, partial_deed, render_deed}
use Rattle.hk_eval.specs.NamedValue.{NamedPlace, NamedValue, no_value, text_value}
use Rattle.hk_eval.specs.Rendering.{as_text, as_places, branch, each_after, each_place, node_task, nodes_task, plain_id, partial_at, render}
use Rattle.hk_eval.specs.Templates.{tree_by, tree_task, template_by, need_template, template_task}
use Rattle.hk_eval.specs.Value.{Listing, Value, absent, text, flag, list}
use Rattle.hk_eval.specs.declared.place.Place.{Place}
use Rattle.hk_eval.proofs.Giving.{AllGive, give-bind, give-good, all-places}
use Rattle.hk_eval.proofs.NamedGiving.{bind-good}
use Rattle.hk_eval.proofs.NamedAsks.{ask-same, need-text-same, ask-text-same}
use Rattle.hk_eval.proofs.NamedListing.{named_all, list-same}

-- the contexts of a recipe
abbrev pub named_contexts : Lookups → List ℕ → List NamedContext
named_contexts plan numbers = map (named_context plan) numbers

module _ (plan : Lookups) (items patterns : ℕ) (table : Table) (told : IsTableOf plan items patterns table) (own : Ident) where
  abbrev N : Value → Task NamedValue
  N v = gives (named_value plan v)

  -- ---- fields

  text-if-same : (o : Option Bytes) → text_value_if o ≡ named_value plan (text_if_any o)
  text-if-same None = refl
  text-if-same (Some bytes) = refl

  flag-if-same : (set : Bool) → flag_value_if set ≡ named_value plan (flag_if set)
  flag-if-same true = refl
  flag-if-same false = refl

  body-same : (here : Place) → interpret table own (need_text_deed (plan.id here.item) here.page then body_value) ≡ need_text (plan.id here.item) here.page ▷ body_text ▷ N
  body-same here =
      let id = plan.id here.item in
      interpret-then table own (need_text_deed id here.page) body_value
      ∙ ap (λ t. t ▷ (λ page. gives (text_value page.body))) (need-text-same plan items patterns table told own id here.page)
      ∙ sym (bind_assoc (need_text id here.page) body_text N)

  teaser-same : (here : Place) (name : Bytes) → interpret table own (ask_text_deed (plan.id here.item) name then teaser_value) ≡ ask_text plan (plan.id here.item) name ▷ teaser_text ▷ N
  teaser-same here name =
      let id = plan.id here.item in
      interpret-then table own (ask_text_deed id name) teaser_value
      ∙ bind-same (interpret table own (ask_text_deed id name)) (ask_text plan id name) (λ page. gives (text_value_if (teaser_of page.body))) (λ page. teaser_text page ▷ N)
      (ask-text-same plan items patterns table told own id name) (λ page. ap gives (text-if-same (teaser_of page.body)))
      ∙ sym (bind_assoc (ask_text plan id name) teaser_text N)

  own-same : (here : Place) (key : Bytes) (field : Field) → interpret table own (own_deed (named_place plan here) key (named_field plan field)) ≡ own_task plan here key field ▷ N
  own-same here key fields.Body = body-same here
  own-same here key fields.Metadata = ap gives (text-if-same _)
  own-same here key fields.Url = ap gives (text-if-same _)
  own-same here key fields.Path = refl
  own-same here key fields.Title = refl
  own-same here key (fields.Const mine bytes) = refl
  own-same here key (fields.Date mine pattern) = ap gives (text-if-same (option_map (printed_by pattern) (date_at plan here.item)))
  own-same here key (fields.Bool mine set) = ap gives (flag-if-same set)
  own-same here key (fields.Teaser mine name) = teaser-same here name
  own-same here key (fields.List mine n snapshot order limit context) = refl

  fits-same : (field : Field) (key : Bytes) → fits_by (named_key (named_field plan field)) key ≡ fits field key
  fits-same fields.Body key = refl
  fits-same fields.Metadata key = refl
  fits-same fields.Url key = refl
  fits-same fields.Path key = refl
  fits-same fields.Title key = refl
  fits-same (fields.Const mine bytes) key = refl
  fits-same (fields.Date mine pattern) key = refl
  fits-same (fields.Bool mine set) key = refl
  fits-same (fields.Teaser mine name) key = refl
  fits-same (fields.List mine n snapshot order limit context) key = refl

  if-same : (b : Bool) (d : Deed NamedValue) (t : Task Value) → interpret table own d ≡ t ▷ N → interpret table own (cond b d (returns no_value)) ≡ cond b t (gives absent) ▷ N
  if-same true d t e = e
  if-same false d t e = refl

  value-same : (here : Place) (key : Bytes) (field : Field) → interpret table own (value_deed (named_place plan here) key (named_field plan field)) ≡ value_task plan here key field ▷ N
  value-same here key field =
      let d = own_deed (named_place plan here) key (named_field plan field) in
      ap (λ b. interpret table own (cond b d (returns no_value))) (fits-same field key)
      ∙ if-same (fits field key) d (own_task plan here key field) (own-same here key field)

  or-same : (d : Deed NamedValue) (t : Task Value) → interpret table own d ≡ t ▷ N → (v : Value) → interpret table own (or_deed d (named_value plan v)) ≡ or_task t v ▷ N
  or-same d t e absent = e
  or-same d t e (text bytes) = refl
  or-same d t e flag = refl
  or-same d t e (list listing) = refl

  first-same : (here : Place) (key : Bytes) (fs : List Field) → interpret table own (first_deed (named_place plan here) key (map (named_field plan) fs)) ≡ first_task plan here key fs ▷ N
  first-same here key [] = refl
  first-same here key (f ∷ fs) =
      let d : Deed NamedValue = first_deed (named_place plan here) key (map (named_field plan) fs) in
      let t : Task Value = first_task plan here key fs in
      let v : Task Value = value_task plan here key f in
      interpret-then table own (value_deed (named_place plan here) key (named_field plan f)) (or_deed d)
      ∙ ap (λ z. z ▷ (λ w. interpret table own (or_deed d w))) (value-same here key f)
      ∙ bind_assoc v N (λ w. interpret table own (or_deed d w))
      ∙ ap (λ h. v ▷ h) (fun_ext (or-same d t (first-same here key fs)))
      ∙ sym (bind_assoc v (or_task t) N)

  -- ---- templates

  tree-by-same : (r : Result Nodes TemplateFault) → interpret table own (tree_deed_by r) ≡ tree_by r
  tree-by-same (Ok tree) = refl
  tree-by-same (Err fault) = refl

  pub tree-same : (bytes : Bytes) → interpret table own (tree_deed bytes) ≡ tree_task bytes
  tree-same bytes = tree-by-same (read_tree bytes)

  template-by-same : (id : Ident) (kind : Kind) (bytes : Bytes) → interpret table own (template_deed_by id kind bytes) ≡ template_by id kind bytes
  template-by-same id kinds.Text bytes = refl
  template-by-same id kinds.Template bytes = tree-same bytes
  template-by-same id kinds.File bytes = refl

  pub template-same : (id : Ident) → interpret table own (template_deed id) ≡ template_task plan id
  unfolding template_task
  template-same id =
      interpret-then table own (ask_deed id final_name) (need_template_deed id)
      ∙ bind-same (interpret table own (ask_deed id final_name)) (ask plan id final_name) (λ page. interpret table own (need_template_deed id page)) (need_template id)
      (ask-same plan items patterns table told own id final_name) (λ page. template-by-same id page.kind page.body)

  -- ---- the contexts that are reached

  module _ (reached : List ℕ) (closed : AreClosed plan patterns reached) where
    abbrev known : List NamedContext
    known = named_contexts plan reached

    abbrev IsIn : ℕ → Type 0
    IsIn c = is_among reached c ≡ true

    fields-among : (ds : List ℕ) (c : ℕ) → AllByRecursion IsIn ds → is_among ds c ≡ true → IsIn c → fields_in (named_contexts plan ds) (context_name plan c) ≡ map (named_field plan) (plan.context c).fields
    fields-among [] c h i r = cc
    fields-among (d ∷ ds) c h i r = at (bytes_eq (context_name plan d) (context_name plan c)) refl (or-cases (nat_eq c d) (is_among ds c) i) (λ w. fields-among ds c h.1 w r)
      where
        at : (b : Bool) → bytes_eq (context_name plan d) (context_name plan c) ≡ b → (nat_eq c d ≡ true) ⊎ (is_among ds c ≡ true) → (is_among ds c ≡ true → fields_in (named_contexts plan ds) (context_name plan c) ≡ map (named_field plan) (plan.context c).fields) → cond b (map (named_field plan) (plan.context d).fields) (fields_in (named_contexts plan ds) (context_name plan c)) ≡ map (named_field plan) (plan.context c).fields
        at true e w rec = let same : d ≡ c = closed.apart d c h.0 r (bytes-same (context_name plan d) (context_name plan c) e) in ap (λ n. map (named_field plan) (plan.context n).fields) same
        at false e (inl w) rec = let yes_ : bytes_eq (context_name plan d) (context_name plan c) ≡ true = ap (λ n. bytes_eq (context_name plan d) (context_name plan n)) (eqb-true c d w) ∙ bytes-self (context_name plan d) in cc
        at false e (inr w) rec = rec w

    fields-here : (c : ℕ) → IsIn c → fields_in known (context_name plan c) ≡ map (named_field plan) (plan.context c).fields
    fields-here c i = fields-among reached c (all-among IsIn reached (λ n e. e)) i i

    abbrev pub IsHere : Place → Type 0
    IsHere here = is_among reached here.context ≡ true

    field-same : (here : Place) → IsHere here → (key : Bytes) → interpret table own (field_deed known (named_place plan here) key) ≡ field_task plan here key ▷ N
    unfolding field_task
    field-same here i key = ap (λ fs. interpret table own (first_deed (named_place plan here) key fs)) (fields-here here.context i) ∙ first-same here key (plan.context here.context).fields

    -- the list that a field gives is of a pattern that is found, in a context that is reached
    abbrev IsGood : Value → Type 0
    IsGood absent = Unit {0}
    IsGood (text bytes) = Unit {0}
    IsGood flag = Unit {0}
    IsGood (list l) = (l.pattern < patterns) × (is_among reached l.context ≡ true)

    good-text : (o : Option Bytes) → IsGood (text_if_any o)
    good-text None = tt
    good-text (Some bytes) = tt

    good-flag : (set : Bool) → IsGood (flag_if set)
    good-flag true = tt
    good-flag false = tt

    own-good : (here : Place) (key : Bytes) (field : Field) → IsFieldAmong patterns reached field → AllGive IsGood (own_task plan here key field)
    own-good here key fields.Body h = give-bind IsGood (need_text (plan.id here.item) here.page) body_text (λ x. tt)
    own-good here key fields.Metadata h = good-text _
    own-good here key fields.Url h = good-text _
    own-good here key fields.Path h = tt
    own-good here key fields.Title h = tt
    own-good here key (fields.Const mine bytes) h = tt
    own-good here key (fields.Date mine pattern) h = good-text (option_map (printed_by pattern) (date_at plan here.item))
    own-good here key (fields.Bool mine set) h = good-flag set
    own-good here key (fields.Teaser mine name) h = give-bind IsGood (ask_text plan (plan.id here.item) name) teaser_text (λ x. good-text (teaser_of x.body))
    own-good here key (fields.List mine n snapshot order limit context) h = h

    if-good : (b : Bool) (t : Task Value) → AllGive IsGood t → AllGive IsGood (cond b t (gives absent))
    if-good true t h = h
    if-good false t h = tt

    or-good : (t : Task Value) → AllGive IsGood t → (v : Value) → IsGood v → AllGive IsGood (or_task t v)
    or-good t h absent g = h
    or-good t h (text bytes) g = tt
    or-good t h flag g = tt
    or-good t h (list l) g = g

    first-good : (here : Place) (key : Bytes) (fs : List Field) → AllByRecursion (IsFieldAmong patterns reached) fs → AllGive IsGood (first_task plan here key fs)
    first-good here key [] h = tt
    first-good here key (f ∷ fs) h =
        give-good IsGood IsGood (value_task plan here key f) (or_task (first_task plan here key fs))
        (if-good (fits f key) (own_task plan here key f) (own-good here key f h.0)) (or-good (first_task plan here key fs) (first-good here key fs h.1))

    fields-good : (ds : List ℕ) (c : ℕ) → AllByRecursion (λ d. AllByRecursion (IsFieldAmong patterns reached) (plan.context d).fields) ds → is_among ds c ≡ true → AllByRecursion (IsFieldAmong patterns reached) (plan.context c).fields
    fields-good [] c h i = cc
    fields-good (d ∷ ds) c h i = at (or-cases (nat_eq c d) (is_among ds c) i) (λ w. fields-good ds c h.1 w)
      where
        at : (nat_eq c d ≡ true) ⊎ (is_among ds c ≡ true) → (is_among ds c ≡ true → AllByRecursion (IsFieldAmong patterns reached) (plan.context c).fields) → AllByRecursion (IsFieldAmong patterns reached) (plan.context c).fields
        at (inl w) rec = subst (λ (n : ℕ). AllByRecursion (IsFieldAmong patterns reached) (plan.context n).fields) (sym (eqb-true c d w)) h.0
        at (inr w) rec = rec w

    field-good : (here : Place) → IsHere here → (key : Bytes) → AllGive IsGood (field_task plan here key)
    unfolding field_task
    field-good here i key = first-good here key (plan.context here.context).fields (fields-good reached here.context closed.fields i)

    module _ {B : Type 0} (here : Place) (i : IsHere here) (key : Bytes) where
      -- a value, and what follows it
      field-then : (f : NamedValue → Deed B) (g : Value → Task B) → ((v : Value) → IsGood v → interpret table own (f (named_value plan v)) ≡ g v) → interpret table own (field_deed known (named_place plan here) key then f) ≡ field_task plan here key ▷ g
      field-then f g same =
          interpret-then table own (field_deed known (named_place plan here) key) f
          ∙ ap (λ t. t ▷ (λ v. interpret table own (f v))) (field-same here i key)
          ∙ bind_assoc (field_task plan here key) N (λ v. interpret table own (f v))
          ∙ bind-good IsGood (field_task plan here key) (λ v. interpret table own (f (named_value plan v))) g (field-good here i key) same

    -- ---- places in turn

    module _ (each : NamedPlace → Deed Bytes) (each_num : Place → Task Bytes) (same : (p : Place) → IsHere p → interpret table own (each (named_place plan p)) ≡ each_num p) where
      after-same : (between : Bytes) (ps : List Place) → AllByRecursion IsHere ps → interpret table own (each_after_deed each between (map (named_place plan) ps)) ≡ each_after each_num between ps
      after-same between [] h = refl
      after-same between (p ∷ ps) h =
          let rest : Deed Bytes = each_after_deed each between (map (named_place plan) ps) in
          interpret-then table own (each (named_place plan p)) (λ x. rest then (λ y. returns (between ++ (x ++ y))))
          ∙ bind-same (interpret table own (each (named_place plan p))) (each_num p) (λ x. interpret table own (rest then (λ y. returns (between ++ (x ++ y))))) (λ x. each_after each_num between ps ▷ (λ y. gives (between ++ (x ++ y)))) (same p h.0)
          (λ x. interpret-then table own rest (λ y. returns (between ++ (x ++ y))) ∙ ap (λ t. t ▷ (λ y. gives (between ++ (x ++ y)))) (after-same between ps h.1))

      each-same : (between : Deed Bytes) (between_num : Task Bytes) → interpret table own between ≡ between_num → (ps : List Place) → AllByRecursion IsHere ps → interpret table own (each_place_deed each between (map (named_place plan) ps)) ≡ each_place each_num between_num ps
      each-same between between_num e [] h = refl
      each-same between between_num e (p ∷ []) h = same p h.0
      each-same between between_num e (p ∷ q ∷ ps) h =
          let rest : Bytes → Deed Bytes = λ b. each_after_deed each b (map (named_place plan) (q ∷ ps)) in
          let rest_num : Bytes → Task Bytes = λ b. each_after each_num b (q ∷ ps) in
          interpret-then table own (each (named_place plan p)) (λ x. between then (λ b. rest b then (λ y. returns (x ++ y))))
          ∙ bind-same (interpret table own (each (named_place plan p))) (each_num p) (λ x. interpret table own (between then (λ b. rest b then (λ y. returns (x ++ y))))) (λ x. between_num ▷ (λ b. rest_num b ▷ (λ y. gives (x ++ y)))) (same p h.0)
          (λ x. interpret-then table own between (λ b. rest b then (λ y. returns (x ++ y)))
          ∙ bind-same (interpret table own between) between_num (λ b. interpret table own (rest b then (λ y. returns (x ++ y)))) (λ b. rest_num b ▷ (λ y. gives (x ++ y))) e
          (λ b. interpret-then table own (rest b) (λ y. returns (x ++ y)) ∙ ap (λ t. t ▷ (λ y. gives (x ++ y))) (after-same b (q ∷ ps) h.1)))

    -- ---- the places of a list are in its context

    within-here : (c : ℕ) → IsIn c → (is : List ℕ) (xs : List Page) → AllByRecursion IsHere (places_of c is xs)
    within-here c i [] xs = tt
    within-here c i (item ∷ is) [] = tt
    within-here c i (item ∷ is) (x ∷ xs) = (i, within-here c i is xs)

    list-here : (l : Listing) → IsIn l.context → AllGive (AllByRecursion IsHere) (list_task plan l)
    unfolding list_task
    list-here l i =
        let is = plan.matches l.pattern in
        give-bind (AllByRecursion IsHere) (ask_all plan l.snapshot is) (places_task plan l is)
        (λ xs. all-places IsHere plan l (places_of l.context is xs) (other_kind is xs) (within-here l.context i is xs))

    module _ (deeper : Bytes → NamedPlace → Deed Bytes) (deeper_num : Bytes → Place → Task Bytes) (deep : (path : Bytes) (here : Place) → IsHere here → interpret table own (deeper path (named_place plan here)) ≡ deeper_num path here) where
      -- each place of a list
      for-same : (key : Bytes) (each : NamedPlace → Deed Bytes) (each_num : Place → Task Bytes) → ((p : Place) → IsHere p → interpret table own (each (named_place plan p)) ≡ each_num p) → (between : Deed Bytes) (between_num : Task Bytes) → interpret table own between ≡ between_num → (v : Value) → IsGood v → interpret table own (as_places_deed key (named_value plan v) then each_place_deed each between) ≡ as_places plan key v ▷ each_place each_num between_num
      for-same key each each_num same between between_num e absent g = refl
      for-same key each each_num same between between_num e (text bytes) g = refl
      for-same key each each_num same between between_num e flag g = refl
      for-same key each each_num same between between_num e (list l) g =
          interpret-then table own (list_deed (named_listing plan l)) (each_place_deed each between)
          ∙ ap (λ t. t ▷ (λ places. interpret table own (each_place_deed each between places))) (list-same plan items patterns table told own l g.0)
          ∙ bind_assoc (list_task plan l) (named_all plan items patterns table told own) (λ places. interpret table own (each_place_deed each between places))
          ∙ bind-good (AllByRecursion IsHere) (list_task plan l) (λ ps. interpret table own (each_place_deed each between (map (named_place plan) ps))) (each_place each_num between_num) (list-here l g.1)
          (λ ps h. each-same each each_num same between between_num e ps h)

      text-of : (key : Bytes) (v : Value) → interpret table own (as_text_deed key (named_value plan v)) ≡ as_text key v
      text-of key absent = refl
      text-of key (text bytes) = refl
      text-of key flag = refl
      text-of key (list l) = refl

      branch-of : (yes_ no_ : Deed Bytes) (yes_num no_num : Task Bytes) → interpret table own yes_ ≡ yes_num → interpret table own no_ ≡ no_num → (v : Value) → interpret table own (branch_deed yes_ no_ (named_value plan v)) ≡ branch yes_num no_num v
      branch-of yes_ no_ yes_num no_num e f absent = f
      branch-of yes_ no_ yes_num no_num e f (text bytes) = e
      branch-of yes_ no_ yes_num no_num e f flag = e
      branch-of yes_ no_ yes_num no_num e f (list l) = e

      mutual
        node-same : (n : Node) (here : Place) → IsHere here → interpret table own (node_deed known deeper n (named_place plan here)) ≡ node_task plan deeper_num n here
        node-same (text_node bytes) here i = refl
        node-same dollar_node here i = refl
        node-same (key_node key) here i = field-then here i key (as_text_deed key) (as_text key) (λ v g. text-of key v)
        node-same (if_node key yes_) here i =
            field-then here i key (branch_deed (nodes_deed known deeper yes_ (named_place plan here)) (returns [])) (branch (nodes_task plan deeper_num yes_ here) (gives []))
            (λ v g. branch-of (nodes_deed known deeper yes_ (named_place plan here)) (returns []) (nodes_task plan deeper_num yes_ here) (gives []) (nodes-same yes_ here i) refl v)
        node-same (if_else_node key yes_ no_) here i =
            field-then here i key (branch_deed (nodes_deed known deeper yes_ (named_place plan here)) (nodes_deed known deeper no_ (named_place plan here))) (branch (nodes_task plan deeper_num yes_ here) (nodes_task plan deeper_num no_ here))
            (λ v g. branch-of (nodes_deed known deeper yes_ (named_place plan here)) (nodes_deed known deeper no_ (named_place plan here)) (nodes_task plan deeper_num yes_ here) (nodes_task plan deeper_num no_ here) (nodes-same yes_ here i) (nodes-same no_ here i) v)
        node-same (for_node key each) here i =
            field-then here i key (λ v. as_places_deed key v then each_place_deed (nodes_deed known deeper each) (returns [])) (λ v. as_places plan key v ▷ each_place (nodes_task plan deeper_num each) (gives []))
            (λ v g. for-same key (nodes_deed known deeper each) (nodes_task plan deeper_num each) (λ p j. nodes-same each p j) (returns []) (gives []) refl v g)
        node-same (for_sep_node key each between) here i =
            field-then here i key (λ v. as_places_deed key v then each_place_deed (nodes_deed known deeper each) (nodes_deed known deeper between (named_place plan here)))
            (λ v. as_places plan key v ▷ each_place (nodes_task plan deeper_num each) (nodes_task plan deeper_num between here))
            (λ v g. for-same key (nodes_deed known deeper each) (nodes_task plan deeper_num each) (λ p j. nodes-same each p j) (nodes_deed known deeper between (named_place plan here)) (nodes_task plan deeper_num between here) (nodes-same between here i) v g)
        node-same (partial_node path) here i = deep path here i

        nodes-same : (ns : Nodes) (here : Place) → IsHere here → interpret table own (nodes_deed known deeper ns (named_place plan here)) ≡ nodes_task plan deeper_num ns here
        nodes-same no_nodes here i = refl
        nodes-same (node n ns) here i =
            let rest : Deed Bytes = nodes_deed known deeper ns (named_place plan here) in
            interpret-then table own (node_deed known deeper n (named_place plan here)) (λ x. rest then (λ y. returns (x ++ y)))
            ∙ bind-same (interpret table own (node_deed known deeper n (named_place plan here))) (node_task plan deeper_num n here) (λ x. interpret table own (rest then (λ y. returns (x ++ y)))) (λ x. nodes_task plan deeper_num ns here ▷ (λ y. gives (x ++ y))) (node-same n here i)
            (λ x. interpret-then table own rest (λ y. returns (x ++ y)) ∙ ap (λ t. t ▷ (λ y. gives (x ++ y))) (nodes-same ns here i))

    partial-same : (left : ℕ) (path : Bytes) (here : Place) → IsHere here → interpret table own (partial_deed known left path (named_place plan here)) ≡ partial_at plan left path here
    partial-same zero path here i = refl
    partial-same (suc left) path here i =
        interpret-then table own (template_deed (plain_id path)) (λ tree. nodes_deed known (partial_deed known left) tree (named_place plan here))
        ∙ bind-same (interpret table own (template_deed (plain_id path))) (template_task plan (plain_id path)) (λ tree. interpret table own (nodes_deed known (partial_deed known left) tree (named_place plan here))) (λ tree. nodes_task plan (partial_at plan left) tree here)
        (template-same (plain_id path)) (λ tree. nodes-same (partial_deed known left) (partial_at plan left) (partial-same left) tree here i)

    -- a rendering by names is the rendering by numbers
    pub render-same : (tree : Nodes) (here : Place) → IsHere here → interpret table own (render_deed known tree (named_place plan here)) ≡ render plan tree here
    unfolding render
    render-same tree here i = nodes-same (partial_deed known 32) (partial_at plan 32) (partial-same 32) tree here i
