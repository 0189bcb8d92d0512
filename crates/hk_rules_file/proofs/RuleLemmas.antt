-- The rules and tables before the first bad one are accepted alone.
use Rattle.std.proofs.Common.{◌≡◌, ℕ, ◌+◌, Bool, true, false, ◌&&◌, List, [], ◌∷◌, ◌++◌, refl, sym, ap, subst, ◌∙◌, arith, Option, Some, None, is_some, Result, Ok, Err}
use Rattle.std.specs.Prelude.{codes}
use Rattle.std.specs.List.{list_any}
use Rattle.toml.specs.Data.{Data, Items, no_items, item, Members, get_member, as_table}
use Rattle.hk_base.specs.Bytes.{Bytes}
use Rattle.hk_base.specs.Identifier.{Ident}
use Rattle.hk_chain.specs.Context.{ContextView}
use Rattle.hk_chain.specs.declared.chain.Step.{Step}
use Rattle.hk_forms.specs.IdForm.{version_of}
use Rattle.hk_forms.specs.Members.{count_items}
use Rattle.hk_forms.specs.RouteForm.{route_of}
use Rattle.hk_pattern.specs.declared.pattern.Pattern.{Pattern}
use Rattle.hk_route.specs.declared.route.Route.{Route}
use Rattle.hk_rules_file.specs.ContextForm.{FileContext, built_in, written, listed, names_of, context_of, context_in, contexts_from, contexts_in}
use Rattle.hk_rules_file.specs.FeedForm.{feed_by, feed_of, feeds_from}
use Rattle.hk_rules_file.specs.Linking.{Linked, saves_as, saving, ready_by, apply_step, self_step, link_step, next_step, link_steps}
use Rattle.hk_rules_file.specs.Numbering.{place_of}
use Rattle.hk_rules_file.specs.PagesForm.{pages_by, pages_of, pages_from}
use Rattle.hk_rules_file.specs.RuleForm.{optional, first_other, is_rule_key, source_in, steps_in, draft_by, draft_in, finished, numbered_rule, rule_by, next_rule, rules_from}
use Rattle.hk_rules_file.specs.Rules.{RulesView}
use Rattle.hk_rules_file.specs.RulesForm.{Read, are_tables, parts_in}
use Rattle.hk_rules_file.specs.Saves.{saved}
use Rattle.hk_rules_file.specs.TableForm.{required, and_then, numbered_fault}
use Rattle.hk_rules_file.specs.TagsForm.{tags_by, tags_of, tags_from}
use Rattle.hk_steps.specs.declared.draft.DraftStep.{DraftStep}
use Rattle.hk_steps.specs.declared.draft.DraftStep.TheVariants.{Ready, Concat as DraftConcat, Apply as DraftApply, SelfApply as DraftSelf}
use Rattle.hk_rules_file.specs.declared.fault.RulesFault.{RulesFault}
use Rattle.hk_rules_file.specs.declared.fault.RulesFault.TheVariants.{TooLong, NotToml, BadRule, TooManyRules, BadContext, DoubleSnapshot, UnknownContext, BadTags, BadPaginate, BadFeed}
use Rattle.hk_rules_file.specs.declared.draft_rule.DraftRule.{DraftRule}
use Rattle.hk_rules_file.specs.declared.rules.Rule.{Rule}
use Rattle.hk_rules_file.specs.declared.rules.RuleSource.{RuleSource}
use Rattle.hk_rules_file.specs.declared.table_form.TableKind.{TableKind}
use Rattle.hk_rules_file.specs.declared.table_form.TableKind.TheVariants.{Tags, Paginate, Feed}
use Rattle.hk_rules_file.specs.declared.tables.FeedRule.{FeedRule}
use Rattle.hk_rules_file.specs.declared.tables.PageRule.{PageRule}
use Rattle.hk_rules_file.specs.declared.tables.TagRule.{TagRule}
use Rattle.hk_rules_file.specs.RuleFaults.{joined_items, IsFirstBad, TellsFirst, AreTables, NumbersTellRules}

-- ---- where a fault comes from

-- of the contexts, of the rule of this number, or of the table of this kind and number
pub data Origin : Type 0 where
  of_contexts : Origin
  of_rule : ℕ → Origin
  of_table : TableKind → ℕ → Origin

abbrev origin_of : RulesFault → Origin
origin_of TooLong = of_contexts
origin_of NotToml = of_contexts
origin_of TooManyRules = of_contexts
origin_of (BadContext name) = of_contexts
origin_of (BadRule n word) = of_rule n
origin_of (DoubleSnapshot n name) = of_rule n
origin_of (UnknownContext n name) = of_rule n
origin_of (BadTags n word) = of_table Tags n
origin_of (BadPaginate n word) = of_table Paginate n
origin_of (BadFeed n word) = of_table Feed n

-- a fault, if there is one, comes from there
abbrev ComesFrom : {X : Type 0} → Origin → Result X RulesFault → Type 0
ComesFrom from (Ok x) = Unit {0}
ComesFrom from (Err fault) = origin_of fault ≡ from

abbrev Numbers : {X : Type 0} → ℕ → Result X RulesFault → Type 0
Numbers n r = ComesFrom (of_rule n) r

saving_numbers : (n : ℕ) (pool : List Pattern) (step : Step) (name : Bytes) (again : Bool) → Numbers n (saving n pool step name again)
saving_numbers n pool step name true = refl
saving_numbers n pool step name false = tt

ready_numbers : (n : ℕ) (pool : List Pattern) (done : List Step) (step : Step) (name : Option Bytes) → Numbers n (ready_by n pool done step name)
ready_numbers n pool done step None = tt
ready_numbers n pool done step (Some name) = saving_numbers n pool step name (list_any (saves_as name) done)

apply_numbers : (n : ℕ) (pool : List Pattern) (id : Ident) (name : Bytes) (place : Option ℕ) → Numbers n (apply_step n pool id name place)
apply_numbers n pool id name None = refl
apply_numbers n pool id name (Some place) = tt

self_numbers : (n : ℕ) (pool : List Pattern) (name : Bytes) (place : Option ℕ) → Numbers n (self_step n pool name place)
self_numbers n pool name None = refl
self_numbers n pool name (Some place) = tt

step_numbers : (n : ℕ) (names : List Bytes) (pool : List Pattern) (done : List Step) (draft : DraftStep) → Numbers n (link_step n names pool done draft)
step_numbers n names pool done (Ready step) = ready_numbers n pool done step (saved step)
step_numbers n names pool done (DraftConcat pattern) = tt
step_numbers n names pool done (DraftApply id name) = apply_numbers n pool id name (place_of name names)
step_numbers n names pool done (DraftSelf name) = self_numbers n pool name (place_of name names)

next_numbers : (n : ℕ) (rest : List Pattern → List Step → Result (List Step × List Pattern) RulesFault) (done : List Step) (r : Linked) → Numbers n r → ((pool : List Pattern) (more : List Step) → Numbers n (rest pool more)) → Numbers n (next_step rest done r)
next_numbers n rest done (Ok r) h inner = inner r.1 (done ++ r.0 ∷ [])
next_numbers n rest done (Err fault) h inner = h

steps_numbers : (n : ℕ) (names : List Bytes) (drafts : List DraftStep) (pool : List Pattern) (done : List Step) → Numbers n (link_steps n names drafts pool done)
steps_numbers n names [] pool done = tt
steps_numbers n names (draft ∷ drafts) pool done =
    next_numbers n (link_steps n names drafts) done (link_step n names pool done draft) (step_numbers n names pool done draft) (λ pool' done'. steps_numbers n names drafts pool' done')

draft_numbers : (n : ℕ) (first : Option Bytes) (source : Result RuleSource Bytes) (version : Option (Option Bytes)) (route : Option (Option Route)) (steps : Option (List DraftStep)) → Numbers n (draft_by n first source version route steps)
draft_numbers n (Some key) source version route steps = refl
draft_numbers n None (Err key) version route steps = refl
draft_numbers n None (Ok source) None route steps = refl
draft_numbers n None (Ok source) (Some version) None steps = refl
draft_numbers n None (Ok source) (Some version) (Some route) None = refl
draft_numbers n None (Ok source) (Some version) (Some route) (Some steps) = tt

finished_numbers : (n : ℕ) (draft : DraftRule) (r : Result (List Step × List Pattern) RulesFault) → Numbers n r → Numbers n (finished draft r)
finished_numbers n draft (Ok r) h = tt
finished_numbers n draft (Err fault) h = h

rule_numbers : (n : ℕ) (names : List Bytes) (pool : List Pattern) (d : Result DraftRule RulesFault) → Numbers n d → Numbers n (numbered_rule n names pool d)
rule_numbers n names pool (Ok draft) h = finished_numbers n draft (link_steps n names draft.steps pool []) (steps_numbers n names draft.steps pool [])
rule_numbers n names pool (Err fault) h = h

draft_in_numbers : (n : ℕ) (ms : Members) → Numbers n (draft_in n ms)
unfolding draft_in
draft_in_numbers n ms = draft_numbers n (first_other is_rule_key ms) (source_in ms) (optional version_of (get_member (codes "version") ms)) (optional route_of (get_member (codes "route") ms)) (steps_in ms)

table_numbers : (n : ℕ) (names : List Bytes) (pool : List Pattern) (ms : Option Members) → is_some ms ≡ true → Numbers n (rule_by n names pool ms)
table_numbers n names pool None some = let no_ : ⊥ = cc in absurd no_
table_numbers n names pool (Some ms) some = rule_numbers n names pool (draft_in n ms) (draft_in_numbers n ms)

abbrev Contexts : Type 0
Contexts = Result (List ContextView × List Pattern) RulesFault

-- a fault of contexts has no number
bad_numbers : (name : Bytes) (r : Option (ContextView × List Pattern)) → ComesFrom of_contexts (required (BadContext name) r)
bad_numbers name None = refl
bad_numbers name (Some r) = tt

context_numbers : (names : List Bytes) (pool : List Pattern) (c : FileContext) → ComesFrom of_contexts (context_in names pool c)
context_numbers names pool built_in = tt
context_numbers names pool (written name room d) = bad_numbers name (context_of names room pool name d)

next_context_numbers : (next : ContextView × List Pattern → Contexts) (r : Result (ContextView × List Pattern) RulesFault) → ComesFrom of_contexts r → ((one : ContextView × List Pattern) → ComesFrom of_contexts (next one)) → ComesFrom of_contexts (and_then r next)
next_context_numbers next (Ok one) h inner = inner one
next_context_numbers next (Err fault) h inner = h

contexts_numbers : (names : List Bytes) (cs : List FileContext) (pool : List Pattern) (done : List ContextView) → ComesFrom of_contexts (contexts_from names cs pool done)
contexts_numbers names [] pool done = tt
contexts_numbers names (c ∷ cs) pool done =
    next_context_numbers (λ one. contexts_from names cs one.1 (done ++ one.0 ∷ [])) (context_in names pool c) (context_numbers names pool c) (λ one. contexts_numbers names cs one.1 (done ++ one.0 ∷ []))

-- ---- the first bad one of a list

abbrev Listed : Type 0 → Type 0
Listed X = Result (List X × List Pattern) RulesFault

-- a reading of a list of tables, one after another
record ReadsEach {X : Type 0} (read : ℕ → List Pattern → Data → Result (X × List Pattern) RulesFault) (from : Items → ℕ → List Pattern → List X → Listed X) : Type 0 where
  none : (n : ℕ) (pool : List Pattern) (done : List X) → from no_items n pool done ≡ Ok (done, pool)
  one : (d : Data) (ds : Items) (n : ℕ) (pool : List Pattern) (done : List X) → from (item d ds) n pool done ≡ and_then (read n pool d) (λ r. from ds (n + 1) r.1 (done ++ r.0 ∷ []))

both_left : (a b : Bool) → (a && b) ≡ true → a ≡ true
both_left true b e = refl
both_left false b e = e

both_right : (a b : Bool) → (a && b) ≡ true → b ≡ true
both_right true b e = e
both_right false b e = let no_ : ⊥ = cc in absurd no_

module _ {X : Type 0} (read : ℕ → List Pattern → Data → Result (X × List Pattern) RulesFault) (from : Items → ℕ → List Pattern → List X → Listed X) (each : ReadsEach read from)
    (origin : ℕ → Origin) (told : (n : ℕ) (pool : List Pattern) (d : Data) → is_some (as_table d) ≡ true → ComesFrom (origin n) (read n pool d)) where
  abbrev Next : Items → ℕ → List X → X × List Pattern → Listed X
  Next ds n done r = from ds (n + 1) r.1 (done ++ r.0 ∷ [])

  -- the first bad one from a number on
  record Bad (ds : Items) (n : ℕ) (pool : List Pattern) (done : List X) (fault : RulesFault) : Type 0 where
    before : Items
    bad : Data
    after : Items
    same : ds ≡ joined_items before (item bad after)
    place : origin_of fault ≡ origin (n + count_items before)
    accepted : (r : List X × List Pattern) × (from before n pool done ≡ Ok r)
    refused : from (joined_items before (item bad no_items)) n pool done ≡ Err fault

  next_is : (d : Data) (ds : Items) (n : ℕ) (pool : List Pattern) (done : List X) (r : Result (X × List Pattern) RulesFault) → read n pool d ≡ r → from (item d ds) n pool done ≡ and_then r (Next ds n done)
  next_is d ds n pool done r e = each.one d ds n pool done ∙ ap (λ (x : Result (X × List Pattern) RulesFault). and_then x (Next ds n done)) e

  bad_here : (d : Data) (ds : Items) (n : ℕ) (pool : List Pattern) (done : List X) (fault : RulesFault) → read n pool d ≡ Err fault → origin_of fault ≡ origin n → Bad (item d ds) n pool done fault
  bad_here d ds n pool done fault e place = record {
    before = no_items;
    bad = d;
    after = ds;
    same = refl;
    place = place ∙ ap origin (omega arith);
    accepted = ((done, pool), each.none n pool done);
    refused = next_is d no_items n pool done (Err fault) e;
  }

  bad_later : (d : Data) (ds : Items) (n : ℕ) (pool : List Pattern) (done : List X) (fault : RulesFault) (r : X × List Pattern) → read n pool d ≡ Ok r → Bad ds (n + 1) r.1 (done ++ r.0 ∷ []) fault → Bad (item d ds) n pool done fault
  bad_later d ds n pool done fault r e inner = record {
    before = item d inner.before;
    bad = inner.bad;
    after = inner.after;
    same = ap (item d) inner.same;
    place = inner.place ∙ ap origin (omega arith);
    accepted = (inner.accepted.0, next_is d inner.before n pool done (Ok r) e ∙ inner.accepted.1);
    refused = next_is d (joined_items inner.before (item inner.bad no_items)) n pool done (Ok r) e ∙ inner.refused;
  }

  err_is : (other fault : RulesFault) → (let r : Listed X = Err other in r ≡ Err fault) → other ≡ fault
  err_is other fault e = cc

  ok_is_err : {A : Type 0} (x : List X × List Pattern) (fault : RulesFault) → (let r : Listed X = Ok x in r ≡ Err fault) → A
  ok_is_err x fault e = let no_ : ⊥ = cc in absurd no_

  bad_by : (d : Data) (ds : Items) (n : ℕ) (pool : List Pattern) (done : List X) (fault : RulesFault) → is_some (as_table d) ≡ true
      → ((r : X × List Pattern) → Next ds n done r ≡ Err fault → Bad ds (n + 1) r.1 (done ++ r.0 ∷ []) fault)
      → (r : Result (X × List Pattern) RulesFault) → read n pool d ≡ r → ComesFrom (origin n) r → and_then r (Next ds n done) ≡ Err fault → Bad (item d ds) n pool done fault
  bad_by d ds n pool done fault table inner (Ok r) e from_ f = bad_later d ds n pool done fault r e (inner r f)
  bad_by d ds n pool done fault table inner (Err other) e from_ f =
      let is : other ≡ fault = err_is other fault f in
      bad_here d ds n pool done fault (e ∙ ap (λ (x : RulesFault). Err x) is) (sym (ap origin_of is) ∙ from_)

  bad_from : (ds : Items) (n : ℕ) (pool : List Pattern) (done : List X) (fault : RulesFault) → are_tables ds ≡ true → from ds n pool done ≡ Err fault → Bad ds n pool done fault
  bad_from no_items n pool done fault tables e = ok_is_err (done, pool) fault (sym (each.none n pool done) ∙ e)
  bad_from (item d ds) n pool done fault tables e =
      bad_by d ds n pool done fault (both_left (is_some (as_table d)) (are_tables ds) tables)
      (λ r f. bad_from ds (n + 1) r.1 (done ++ r.0 ∷ []) fault (both_right (is_some (as_table d)) (are_tables ds) tables) f)
      (read n pool d) refl (told n pool d (both_left (is_some (as_table d)) (are_tables ds) tables)) (sym (each.one d ds n pool done) ∙ e)

-- ---- the four lists

next_then : (rest : List Pattern → List Rule → Listed Rule) (done : List Rule) (r : Result (Rule × List Pattern) RulesFault) → next_rule rest done r ≡ and_then r (λ one. rest one.1 (done ++ one.0 ∷ []))
next_then rest done (Ok r) = refl
next_then rest done (Err fault) = refl

abbrev rule_read : List Bytes → ℕ → List Pattern → Data → Result (Rule × List Pattern) RulesFault
rule_read names n pool d = rule_by n names pool (as_table d)

rules_each : (names : List Bytes) → ReadsEach (rule_read names) (rules_from names)
rules_each names = record { none = λ n pool done. refl; one = λ d ds n pool done. next_then (rules_from names ds (n + 1)) done (rule_read names n pool d) }

table_told : {X : Type 0} (kind : TableKind) (n : ℕ) (r : Result X Bytes) → ComesFrom (of_table kind n) (numbered_fault kind n r)
table_told kind n (Ok x) = tt
table_told Tags n (Err word) = refl
table_told Paginate n (Err word) = refl
table_told Feed n (Err word) = refl

abbrev tags_read : List Bytes → ℕ → List Pattern → Data → Result (TagRule × List Pattern) RulesFault
tags_read names n pool d = tags_of n names pool (as_table d)

tags_each : (names : List Bytes) → ReadsEach (tags_read names) (tags_from names)
tags_each names = record { none = λ n pool done. refl; one = λ d ds n pool done. refl }

tags_told : (names : List Bytes) (n : ℕ) (pool : List Pattern) (ms : Option Members) → is_some ms ≡ true → ComesFrom (of_table Tags n) (tags_of n names pool ms)
tags_told names n pool None some = let no_ : ⊥ = cc in absurd no_
tags_told names n pool (Some ms) some = table_told Tags n (tags_by n names pool ms)

abbrev pages_read : List Bytes → ℕ → List Pattern → Data → Result (PageRule × List Pattern) RulesFault
pages_read names n pool d = pages_of n names pool (as_table d)

pages_each : (names : List Bytes) → ReadsEach (pages_read names) (pages_from names)
pages_each names = record { none = λ n pool done. refl; one = λ d ds n pool done. refl }

pages_told : (names : List Bytes) (n : ℕ) (pool : List Pattern) (ms : Option Members) → is_some ms ≡ true → ComesFrom (of_table Paginate n) (pages_of n names pool ms)
pages_told names n pool None some = let no_ : ⊥ = cc in absurd no_
pages_told names n pool (Some ms) some = table_told Paginate n (pages_by n names pool ms)

-- feeds use no patterns by number
abbrev with_pool : {X : Type 0} → List Pattern → Result X RulesFault → Result (X × List Pattern) RulesFault
with_pool pool (Ok x) = Ok (x, pool)
with_pool pool (Err fault) = Err fault

abbrev feed_read : ℕ → List Pattern → Data → Result (FeedRule × List Pattern) RulesFault
feed_read n pool d = with_pool pool (feed_of n (as_table d))

abbrev feeds_read : Items → ℕ → List Pattern → List FeedRule → Listed FeedRule
feeds_read ds n pool done = with_pool pool (feeds_from ds n done)

feed_one : (ds : Items) (n : ℕ) (pool : List Pattern) (done : List FeedRule) (r : Result FeedRule RulesFault) → with_pool pool (and_then r (λ feed. feeds_from ds (n + 1) (done ++ feed ∷ []))) ≡ and_then (with_pool pool r) (λ x. feeds_read ds (n + 1) x.1 (done ++ x.0 ∷ []))
feed_one ds n pool done (Ok feed) = refl
feed_one ds n pool done (Err fault) = refl

feeds_each : ReadsEach feed_read feeds_read
feeds_each = record { none = λ n pool done. refl; one = λ d ds n pool done. feed_one ds n pool done (feed_of n (as_table d)) }

pooled_told : {X : Type 0} (from : Origin) (pool : List Pattern) (r : Result X RulesFault) → ComesFrom from r → ComesFrom from (with_pool pool r)
pooled_told from pool (Ok x) h = tt
pooled_told from pool (Err fault) h = h

feed_told : (n : ℕ) (ms : Option Members) → is_some ms ≡ true → ComesFrom (of_table Feed n) (feed_of n ms)
feed_told n None some = let no_ : ⊥ = cc in absurd no_
feed_told n (Some ms) some = table_told Feed n (feed_by n ms)

unpooled_ok : (pool : List Pattern) (r : Result (List FeedRule) RulesFault) (x : List FeedRule × List Pattern) → with_pool pool r ≡ Ok x → r ≡ Ok x.0
unpooled_ok pool (Ok feeds) x e = let here : List FeedRule × List Pattern = (feeds, pool) in let is : here ≡ x = cc in ap (λ (y : List FeedRule × List Pattern). Ok y.0) is
unpooled_ok pool (Err fault) x e = let no_ : ⊥ = cc in absurd no_

unpooled_err : (pool : List Pattern) (r : Result (List FeedRule) RulesFault) (fault : RulesFault) → with_pool pool r ≡ Err fault → r ≡ Err fault
unpooled_err pool (Ok feeds) fault e = let no_ : ⊥ = cc in absurd no_
unpooled_err pool (Err other) fault e = let is : other ≡ fault = cc in ap (λ (f : RulesFault). Err f) is

-- ---- whole files

abbrev Pooled : Type 0 → Type 0
Pooled X = List X × List Pattern

abbrev view_of : Pooled ContextView → Pooled Rule → Pooled TagRule → Pooled PageRule → List FeedRule → RulesView
view_of c r t p f = record { rules = r.0; contexts = c.0; patterns = p.1; tags = t.0; pages = p.0; feeds = f }

abbrev whole_of : Pooled ContextView → Pooled Rule → Pooled TagRule → Pooled PageRule → List FeedRule → Read
whole_of c r t p f = Ok (view_of c r t p f)

read_on : {X : Type 0} (next : X → Read) (a b : Result X RulesFault) → a ≡ b → and_then a next ≡ and_then b next
read_on {X} next a b e = ap (λ (x : Result X RulesFault). and_then x next) e

module _ (ms : Members) (rules tags pages feeds : Items) where
  abbrev Tells : RulesFault → Type 0
  Tells fault = TellsFirst ms rules tags pages feeds fault

  abbrev RulesAlone : Items → Read
  RulesAlone ds = parts_in ms ds no_items no_items no_items

  abbrev TagsAlone : Items → Read
  TagsAlone ds = parts_in ms rules ds no_items no_items

  abbrev PagesAlone : Items → Read
  PagesAlone ds = parts_in ms rules tags ds no_items

  abbrev FeedsAlone : Items → Read
  FeedsAlone ds = parts_in ms rules tags pages ds

  -- a fault tells of what it comes from
  tells_contexts : (fault : RulesFault) → origin_of fault ≡ of_contexts → Tells fault
  tells_contexts TooLong e = tt
  tells_contexts NotToml e = tt
  tells_contexts TooManyRules e = tt
  tells_contexts (BadContext name) e = tt
  tells_contexts (BadRule n word) e = let no_ : ⊥ = cc in absurd no_
  tells_contexts (DoubleSnapshot n name) e = let no_ : ⊥ = cc in absurd no_
  tells_contexts (UnknownContext n name) e = let no_ : ⊥ = cc in absurd no_
  tells_contexts (BadTags n word) e = let no_ : ⊥ = cc in absurd no_
  tells_contexts (BadPaginate n word) e = let no_ : ⊥ = cc in absurd no_
  tells_contexts (BadFeed n word) e = let no_ : ⊥ = cc in absurd no_

  tells_rule : (fault : RulesFault) (k : ℕ) → origin_of fault ≡ of_rule k → IsFirstBad RulesAlone rules k fault → Tells fault
  tells_rule TooLong k e h = tt
  tells_rule NotToml k e h = tt
  tells_rule TooManyRules k e h = tt
  tells_rule (BadContext name) k e h = tt
  tells_rule (BadRule n word) k e h = let is : k ≡ n = cc in subst (λ m. IsFirstBad RulesAlone rules m (BadRule n word)) is h
  tells_rule (DoubleSnapshot n name) k e h = let is : k ≡ n = cc in subst (λ m. IsFirstBad RulesAlone rules m (DoubleSnapshot n name)) is h
  tells_rule (UnknownContext n name) k e h = let is : k ≡ n = cc in subst (λ m. IsFirstBad RulesAlone rules m (UnknownContext n name)) is h
  tells_rule (BadTags n word) k e h = let no_ : ⊥ = cc in absurd no_
  tells_rule (BadPaginate n word) k e h = let no_ : ⊥ = cc in absurd no_
  tells_rule (BadFeed n word) k e h = let no_ : ⊥ = cc in absurd no_

  -- what the first bad table of a kind tells
  abbrev Firsts : TableKind → ℕ → RulesFault → Type 0
  Firsts Tags k fault = IsFirstBad TagsAlone tags k fault
  Firsts Paginate k fault = IsFirstBad PagesAlone pages k fault
  Firsts Feed k fault = IsFirstBad FeedsAlone feeds k fault

  tells_table : (fault : RulesFault) (kind : TableKind) (k : ℕ) → origin_of fault ≡ of_table kind k → Firsts kind k fault → Tells fault
  tells_table TooLong kind k e h = tt
  tells_table NotToml kind k e h = tt
  tells_table TooManyRules kind k e h = tt
  tells_table (BadContext name) kind k e h = tt
  tells_table (BadRule n word) kind k e h = let no_ : ⊥ = cc in absurd no_
  tells_table (DoubleSnapshot n name) kind k e h = let no_ : ⊥ = cc in absurd no_
  tells_table (UnknownContext n name) kind k e h = let no_ : ⊥ = cc in absurd no_
  tells_table (BadTags n word) kind k e h =
      let same : kind ≡ Tags = cc in
      let is : k ≡ n = cc in
      subst (λ m. IsFirstBad TagsAlone tags m (BadTags n word)) is (subst (λ (x : TableKind). Firsts x k (BadTags n word)) same h)
  tells_table (BadPaginate n word) kind k e h =
      let same : kind ≡ Paginate = cc in
      let is : k ≡ n = cc in
      subst (λ m. IsFirstBad PagesAlone pages m (BadPaginate n word)) is (subst (λ (x : TableKind). Firsts x k (BadPaginate n word)) same h)
  tells_table (BadFeed n word) kind k e h =
      let same : kind ≡ Feed = cc in
      let is : k ≡ n = cc in
      subst (λ m. IsFirstBad FeedsAlone feeds m (BadFeed n word)) is (subst (λ (x : TableKind). Firsts x k (BadFeed n word)) same h)

  -- the reading, part by part
  abbrev names : List Bytes
  names = names_of ms

  abbrev with_feeds : Items → Pooled ContextView → Pooled Rule → Pooled TagRule → Pooled PageRule → Read
  with_feeds fs c r t p = and_then (feeds_from fs 1 []) (whole_of c r t p)

  abbrev with_pages : Items → Items → Pooled ContextView → Pooled Rule → Pooled TagRule → Read
  with_pages ps fs c r t = and_then (pages_from names ps 1 t.1 []) (with_feeds fs c r t)

  abbrev with_tags : Items → Items → Items → Pooled ContextView → Pooled Rule → Read
  with_tags ts ps fs c r = and_then (tags_from names ts 1 r.1 []) (with_pages ps fs c r)

  abbrev with_rules : Items → Items → Items → Items → Pooled ContextView → Read
  with_rules rs ts ps fs c = and_then (rules_from names rs 1 c.1 []) (with_tags ts ps fs c)

  after_contexts : (rs ts ps fs : Items) (c : Pooled ContextView) → contexts_in names ms ≡ Ok c → parts_in ms rs ts ps fs ≡ with_rules rs ts ps fs c
  after_contexts rs ts ps fs c ec = read_on (with_rules rs ts ps fs) (contexts_in names ms) (Ok c) ec

  after_rules : (ts ps fs : Items) (c : Pooled ContextView) (r : Pooled Rule) → contexts_in names ms ≡ Ok c → rules_from names rules 1 c.1 [] ≡ Ok r → parts_in ms rules ts ps fs ≡ with_tags ts ps fs c r
  after_rules ts ps fs c r ec er = after_contexts rules ts ps fs c ec ∙ read_on (with_tags ts ps fs c) (rules_from names rules 1 c.1 []) (Ok r) er

  after_tags : (ps fs : Items) (c : Pooled ContextView) (r : Pooled Rule) (t : Pooled TagRule) → contexts_in names ms ≡ Ok c → rules_from names rules 1 c.1 [] ≡ Ok r → tags_from names tags 1 r.1 [] ≡ Ok t
      → parts_in ms rules tags ps fs ≡ with_pages ps fs c r t
  after_tags ps fs c r t ec er et = after_rules tags ps fs c r ec er ∙ read_on (with_pages ps fs c r) (tags_from names tags 1 r.1 []) (Ok t) et

  after_pages : (fs : Items) (c : Pooled ContextView) (r : Pooled Rule) (t : Pooled TagRule) (p : Pooled PageRule) → contexts_in names ms ≡ Ok c → rules_from names rules 1 c.1 [] ≡ Ok r → tags_from names tags 1 r.1 [] ≡ Ok t
      → pages_from names pages 1 t.1 [] ≡ Ok p → parts_in ms rules tags pages fs ≡ with_feeds fs c r t p
  after_pages fs c r t p ec er et ep = after_tags pages fs c r t ec er et ∙ read_on (with_feeds fs c r t) (pages_from names pages 1 t.1 []) (Ok p) ep

  err_of : (other fault : RulesFault) → (let r : Read = Err other in r ≡ Err fault) → other ≡ fault
  err_of other fault e = cc

  whole_is_err : {A : Type 0} (whole : RulesView) (fault : RulesFault) → (let r : Read = Ok whole in r ≡ Err fault) → A
  whole_is_err whole fault e = let no_ : ⊥ = cc in absurd no_

  module _ (are : AreTables rules tags pages feeds) (fault : RulesFault) where
    feeds_first : (c : Pooled ContextView) (r : Pooled Rule) (t : Pooled TagRule) (p : Pooled PageRule) → contexts_in names ms ≡ Ok c → rules_from names rules 1 c.1 [] ≡ Ok r → tags_from names tags 1 r.1 [] ≡ Ok t → pages_from names pages 1 t.1 [] ≡ Ok p
        → (f : Result (List FeedRule) RulesFault) → feeds_from feeds 1 [] ≡ f → and_then f (whole_of c r t p) ≡ Err fault → Tells fault
    feeds_first c r t p ec er et ep (Ok fs) ef e = whole_is_err (view_of c r t p fs) fault e
    feeds_first c r t p ec er et ep (Err other) ef e =
        let is : other ≡ fault = err_of other fault e in
        let bad : feeds_from feeds 1 [] ≡ Err fault = ef ∙ ap (λ (x : RulesFault). Err x) is in
        let refused : feeds_read feeds 1 [] [] ≡ Err fault = ap (λ (x : Result (List FeedRule) RulesFault). with_pool [] x) bad in
        let found = bad_from feed_read feeds_read feeds_each (of_table Feed) (λ n pool d some. pooled_told (of_table Feed n) pool (feed_of n (as_table d)) (feed_told n (as_table d) some)) feeds 1 [] [] fault are.feeds_are refused in
        let upto : (ds : Items) → FeedsAlone ds ≡ with_feeds ds c r t p = λ ds. after_pages ds c r t p ec er et ep in
        let with_bad : Items = joined_items found.before (item found.bad no_items) in
        let first : IsFirstBad FeedsAlone feeds (1 + count_items found.before) fault = record {
          before = found.before;
          bad = found.bad;
          after = found.after;
          same = found.same;
          place = omega arith;
          accepted = (view_of c r t p found.accepted.0.0, upto found.before ∙ read_on (whole_of c r t p) (feeds_from found.before 1 []) (Ok found.accepted.0.0) (unpooled_ok [] (feeds_from found.before 1 []) found.accepted.0 found.accepted.1));
          refused = upto with_bad ∙ read_on (whole_of c r t p) (feeds_from with_bad 1 []) (Err fault) (unpooled_err [] (feeds_from with_bad 1 []) fault found.refused);
        } in
        tells_table fault Feed (1 + count_items found.before) found.place first

    pages_first : (c : Pooled ContextView) (r : Pooled Rule) (t : Pooled TagRule) → contexts_in names ms ≡ Ok c → rules_from names rules 1 c.1 [] ≡ Ok r → tags_from names tags 1 r.1 [] ≡ Ok t
        → (p : Listed PageRule) → pages_from names pages 1 t.1 [] ≡ p → and_then p (with_feeds feeds c r t) ≡ Err fault → Tells fault
    pages_first c r t ec er et (Ok p) ep e = feeds_first c r t p ec er et ep (feeds_from feeds 1 []) refl e
    pages_first c r t ec er et (Err other) ep e =
        let is : other ≡ fault = err_of other fault e in
        let refused : pages_from names pages 1 t.1 [] ≡ Err fault = ep ∙ ap (λ (x : RulesFault). Err x) is in
        let found = bad_from (pages_read names) (pages_from names) (pages_each names) (of_table Paginate) (λ n pool d some. pages_told names n pool (as_table d) some) pages 1 t.1 [] fault are.pages_are refused in
        let upto : (ds : Items) → PagesAlone ds ≡ with_pages ds no_items c r t = λ ds. after_tags ds no_items c r t ec er et in
        let with_bad : Items = joined_items found.before (item found.bad no_items) in
        let first : IsFirstBad PagesAlone pages (1 + count_items found.before) fault = record {
          before = found.before;
          bad = found.bad;
          after = found.after;
          same = found.same;
          place = omega arith;
          accepted = (view_of c r t found.accepted.0 [], upto found.before ∙ read_on (with_feeds no_items c r t) (pages_from names found.before 1 t.1 []) (Ok found.accepted.0) found.accepted.1);
          refused = upto with_bad ∙ read_on (with_feeds no_items c r t) (pages_from names with_bad 1 t.1 []) (Err fault) found.refused;
        } in
        tells_table fault Paginate (1 + count_items found.before) found.place first

    tags_first : (c : Pooled ContextView) (r : Pooled Rule) → contexts_in names ms ≡ Ok c → rules_from names rules 1 c.1 [] ≡ Ok r
        → (t : Listed TagRule) → tags_from names tags 1 r.1 [] ≡ t → and_then t (with_pages pages feeds c r) ≡ Err fault → Tells fault
    tags_first c r ec er (Ok t) et e = pages_first c r t ec er et (pages_from names pages 1 t.1 []) refl e
    tags_first c r ec er (Err other) et e =
        let is : other ≡ fault = err_of other fault e in
        let refused : tags_from names tags 1 r.1 [] ≡ Err fault = et ∙ ap (λ (x : RulesFault). Err x) is in
        let found = bad_from (tags_read names) (tags_from names) (tags_each names) (of_table Tags) (λ n pool d some. tags_told names n pool (as_table d) some) tags 1 r.1 [] fault are.tags_are refused in
        let upto : (ds : Items) → TagsAlone ds ≡ with_tags ds no_items no_items c r = λ ds. after_rules ds no_items no_items c r ec er in
        let with_bad : Items = joined_items found.before (item found.bad no_items) in
        let first : IsFirstBad TagsAlone tags (1 + count_items found.before) fault = record {
          before = found.before;
          bad = found.bad;
          after = found.after;
          same = found.same;
          place = omega arith;
          accepted = (view_of c r found.accepted.0 ([], found.accepted.0.1) [], upto found.before ∙ read_on (with_pages no_items no_items c r) (tags_from names found.before 1 r.1 []) (Ok found.accepted.0) found.accepted.1);
          refused = upto with_bad ∙ read_on (with_pages no_items no_items c r) (tags_from names with_bad 1 r.1 []) (Err fault) found.refused;
        } in
        tells_table fault Tags (1 + count_items found.before) found.place first

    rules_first : (c : Pooled ContextView) → contexts_in names ms ≡ Ok c → (r : Listed Rule) → rules_from names rules 1 c.1 [] ≡ r → and_then r (with_tags tags pages feeds c) ≡ Err fault → Tells fault
    rules_first c ec (Ok r) er e = tags_first c r ec er (tags_from names tags 1 r.1 []) refl e
    rules_first c ec (Err other) er e =
        let is : other ≡ fault = err_of other fault e in
        let refused : rules_from names rules 1 c.1 [] ≡ Err fault = er ∙ ap (λ (x : RulesFault). Err x) is in
        let found = bad_from (rule_read names) (rules_from names) (rules_each names) of_rule (λ n pool d some. table_numbers n names pool (as_table d) some) rules 1 c.1 [] fault are.rules_are refused in
        let upto : (ds : Items) → RulesAlone ds ≡ with_rules ds no_items no_items no_items c = λ ds. after_contexts ds no_items no_items no_items c ec in
        let with_bad : Items = joined_items found.before (item found.bad no_items) in
        let first : IsFirstBad RulesAlone rules (1 + count_items found.before) fault = record {
          before = found.before;
          bad = found.bad;
          after = found.after;
          same = found.same;
          place = omega arith;
          accepted = (view_of c found.accepted.0 ([], found.accepted.0.1) ([], found.accepted.0.1) [], upto found.before ∙ read_on (with_tags no_items no_items no_items c) (rules_from names found.before 1 c.1 []) (Ok found.accepted.0) found.accepted.1);
          refused = upto with_bad ∙ read_on (with_tags no_items no_items no_items c) (rules_from names with_bad 1 c.1 []) (Err fault) found.refused;
        } in
        tells_rule fault (1 + count_items found.before) found.place first

    parts_first : (c : Contexts) → contexts_in names ms ≡ c → ComesFrom of_contexts c → and_then c (with_rules rules tags pages feeds) ≡ Err fault → Tells fault
    parts_first (Ok c) ec from e = rules_first c ec (rules_from names rules 1 c.1 []) refl e
    parts_first (Err other) ec from e = let is : other ≡ fault = err_of other fault e in tells_contexts fault (sym (ap origin_of is) ∙ from)

pub numbers_tell_rules : NumbersTellRules
numbers_tell_rules ms rules tags pages feeds fault are e = parts_first ms rules tags pages feeds are fault (contexts_in (names_of ms) ms) refl (contexts_numbers (names_of ms) (listed ms) [] []) e
