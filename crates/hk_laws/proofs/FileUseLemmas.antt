-- In a whole rules file patterns are numbered in the order of their first use.
use Rattle.std.proofs.Common.{◌≡◌, ℕ, ◌+◌, Bool, true, false, nat_lt, List, [], ◌∷◌, ◌++◌, length, refl, ap, subst, Option, Some, None, is_some, Result, Ok, Err, codes, if◌then◌else◌}
use Rattle.std.specs.List.{AllByRecursion, flat_map}
use Rattle.toml.specs.Data.{Data, Items, no_items, item, Members, get_member, as_table}
use Rattle.hk_base.specs.Bytes.{Bytes}
use Rattle.hk_chain.specs.Context.{ContextView}
use Rattle.hk_chain.specs.declared.chain.Step.{Step}
use Rattle.hk_chain.specs.declared.context.Field.{Field}
use Rattle.hk_chain.specs.declared.context.Order.{Order}
use Rattle.hk_chain.specs.declared.context.Order.TheVariants.{Id, Recent}
use Rattle.hk_forms.specs.IdForm.{value_of}
use Rattle.hk_forms.specs.Members.{count_items}
use Rattle.hk_pattern.specs.declared.pattern.Pattern.{Pattern}
use Rattle.hk_rules_file.proofs.LinkedFields.{IsReadyField, fields-ready}
use Rattle.hk_rules_file.proofs.LinkedSteps.{Holds, IsReady, chain-ready}
use Rattle.hk_rules_file.specs.ContextForm.{FileContext, built_in, written, listed, names_of, may_define, named, linked, context_of, default_context, context_in, contexts_from}
use Rattle.hk_rules_file.specs.FeedForm.{feeds_from}
use Rattle.hk_rules_file.specs.Linking.{link_steps, link_fields}
use Rattle.hk_rules_file.specs.PagesForm.{whole as pages_whole, pages_in, pages_by, pages_of, pages_from}
use Rattle.hk_rules_file.specs.RuleForm.{first_other, draft_by, draft_in, steps_in, finished, numbered_rule, rule_by, next_rule, rules_from}
use Rattle.hk_rules_file.specs.Rules.{RulesView}
use Rattle.hk_rules_file.specs.RulesForm.{most_rules, contexts_at, tables_at, is_top_key, document, formed, parts_with, unless_many, top_by, rules_of_table, rules_of_document, rules_of}
use Rattle.hk_rules_file.specs.TableForm.{required, and_then, pattern_at, text_at, count_at, order_at, route_at, context_at, numbered_steps, chain_at, unless}
use Rattle.hk_rules_file.specs.TagsForm.{whole as tags_whole, field_at, tags_in, tags_by, tags_of, tags_from}
use Rattle.hk_rules_file.specs.declared.fault.RulesFault.{RulesFault}
use Rattle.hk_rules_file.specs.declared.fault.RulesFault.TheVariants.{TooLong, BadContext, BadTags, BadPaginate}
use Rattle.hk_rules_file.specs.declared.rules.Rule.{Rule}
use Rattle.hk_rules_file.specs.declared.rules.RuleSource.{RuleSource}
use Rattle.hk_rules_file.specs.declared.tables.PageRule.{PageRule}
use Rattle.hk_rules_file.specs.declared.tables.TagRule.{TagRule}
use Rattle.hk_route.specs.declared.route.Route.{Route}
use Rattle.hk_steps.specs.FieldForm.{context_fields}
use Rattle.hk_steps.specs.StepForm.{chain_by}
use Rattle.hk_steps.specs.declared.draft.DraftField.{DraftField}
use Rattle.hk_steps.specs.declared.draft.DraftStep.{DraftStep}
use Rattle.hk_laws.specs.FirstUses.{in_step, in_field, in_context, in_rule, in_tags, in_pages, used_numbers, AreByFirstUse, NumbersByFirstUse}
use Rattle.hk_laws.proofs.UseLemmas.{joined, pushed, Uses, AllUses, steps_use, fields_use}

-- ---- what stands before a result

then_is : {X Y F : Type 0} (r : Result X F) (next : X → Result Y F) (y : Y) → and_then r next ≡ Ok y → (x : X) × (r ≡ Ok x) × (next x ≡ Ok y)
then_is (Ok x) next y e = (x, refl, e)
then_is (Err fault) next y e = let no_ : ⊥ = cc in absurd no_

required_is : {X F : Type 0} (fault : F) (o : Option X) (x : X) → required fault o ≡ Ok x → o ≡ Some x
required_is fault (Some own) x e = let is : own ≡ x = cc in ap Some is
required_is fault None x e = let no_ : ⊥ = cc in absurd no_

unless_is : {X F : Type 0} (fault : Option F) (next : Result X F) (x : X) → unless fault next ≡ Ok x → next ≡ Ok x
unless_is (Some fault) next x e = let no_ : ⊥ = cc in absurd no_
unless_is None next x e = e

-- the fault with its number
abbrev faulted : {X : Type 0} → (Bytes → RulesFault) → Result X Bytes → Result X RulesFault
faulted fault (Ok x) = Ok x
faulted fault (Err word) = Err (fault word)

numbered_is : {X : Type 0} (fault : Bytes → RulesFault) (r : Result X Bytes) (x : X) → faulted fault r ≡ Ok x → r ≡ Ok x
numbered_is fault (Ok own) x e = let is : own ≡ x = cc in ap Ok is
numbered_is fault (Err word) x e = let no_ : ⊥ = cc in absurd no_

value_is : {T F : Type 0} (r : Result T F) (x : T) → value_of r ≡ Some x → r ≡ Ok x
value_is (Ok own) x e = let is : own ≡ x = cc in ap Ok is
value_is (Err fault) x e = let no_ : ⊥ = cc in absurd no_

-- ---- chains

chain_uses : (n : ℕ) (names : List Bytes) (pool : List Pattern) (drafts : List DraftStep) (r : List Step × List Pattern) → AllByRecursion IsReady drafts → link_steps n names drafts pool [] ≡ Ok r → Uses (flat_map in_step) pool r
chain_uses n names pool drafts r ready e = steps_use n names drafts pool [] (length pool) r ready refl e

steps_ready : (created : Bool) (d : Option Data) (drafts : List DraftStep) → chain_by created d ≡ Some drafts → AllByRecursion IsReady drafts
steps_ready created d drafts e = subst (Holds (AllByRecursion IsReady)) e (chain-ready created d)

table_chain : (names : List Bytes) (pool : List Pattern) (ms : Members) (r : List Step × List Pattern) → chain_at names pool ms ≡ Ok r → Uses (flat_map in_step) pool r
table_chain names pool ms r e = go (chain_by true (get_member (codes "compile") ms)) (λ drafts at. steps_ready true (get_member (codes "compile") ms) drafts at) (required_is (codes "compile") _ r e)
  where
    go : (o : Option (List DraftStep)) → ((drafts : List DraftStep) → o ≡ Some drafts → AllByRecursion IsReady drafts) → numbered_steps names pool o ≡ Some r → Uses (flat_map in_step) pool r
    go None ready e = let no_ : ⊥ = cc in absurd no_
    go (Some drafts) ready e = chain_uses 0 names pool drafts r (ready drafts refl) (value_is (link_steps 0 names drafts pool []) r e)

-- ---- tables

whole_tags : (pool : List Pattern) (of : Pattern) (field prefix : Bytes) (linked : List Step × List Pattern) (route : Option Route) (context listed : ℕ) (order : Order) (r : TagRule × List Pattern)
    → tags_whole of field prefix linked route context listed order ≡ Ok r → Uses (flat_map in_step) pool linked → Uses in_tags pool r
whole_tags pool of field prefix linked route context listed order r e uses =
    let here : TagRule × List Pattern = (record { of = of; field = field; prefix = prefix; route = route; chain = linked.0; context = context; item = listed; order = order }, linked.1) in
    let is : here ≡ r = cc in
    subst (Uses in_tags pool) is uses

whole_pages : (pool : List Pattern) (of : Pattern) (per : ℕ) (first prefix : Bytes) (linked : List Step × List Pattern) (route : Option Route) (context listed : ℕ) (order : Order) (r : PageRule × List Pattern)
    → pages_whole of prefix per first linked route context listed order ≡ Ok r → Uses (flat_map in_step) pool linked → Uses in_pages pool r
whole_pages pool of per first prefix linked route context listed order r e uses =
    let here : PageRule × List Pattern = (record { of = of; per = per; first = first; prefix = prefix; route = route; chain = linked.0; context = context; item = listed; order = order }, linked.1) in
    let is : here ≡ r = cc in
    subst (Uses in_pages pool) is uses

tags_uses : (names : List Bytes) (pool : List Pattern) (ms : Members) (r : TagRule × List Pattern) → tags_in names pool ms ≡ Ok r → Uses in_tags pool r
tags_uses names pool ms r e =
    let of = then_is (pattern_at (codes "of") ms) _ r e in
    let field = then_is (field_at ms) _ r of.2 in
    let prefix = then_is (text_at (codes "prefix") ms) _ r field.2 in
    let chain = then_is (chain_at names pool ms) _ r prefix.2 in
    let route = then_is (route_at ms) _ r chain.2 in
    let context = then_is (context_at names (codes "context") ms) _ r route.2 in
    let listed = then_is (context_at names (codes "item") ms) _ r context.2 in
    let order = then_is (order_at Id ms) _ r listed.2 in
    whole_tags pool of.0 field.0 prefix.0 chain.0 route.0 context.0 listed.0 order.0 r order.2 (table_chain names pool ms chain.0 chain.1)

pages_uses : (names : List Bytes) (pool : List Pattern) (ms : Members) (r : PageRule × List Pattern) → pages_in names pool ms ≡ Ok r → Uses in_pages pool r
pages_uses names pool ms r e =
    let of = then_is (pattern_at (codes "of") ms) _ r e in
    let prefix = then_is (text_at (codes "prefix") ms) _ r of.2 in
    let per = then_is (count_at (codes "per") ms) _ r prefix.2 in
    let first = then_is (text_at (codes "first") ms) _ r per.2 in
    let chain = then_is (chain_at names pool ms) _ r first.2 in
    let route = then_is (route_at ms) _ r chain.2 in
    let context = then_is (context_at names (codes "context") ms) _ r route.2 in
    let listed = then_is (context_at names (codes "item") ms) _ r context.2 in
    let order = then_is (order_at Recent ms) _ r listed.2 in
    whole_pages pool of.0 per.0 first.0 prefix.0 chain.0 route.0 context.0 listed.0 order.0 r order.2 (table_chain names pool ms chain.0 chain.1)

tag_uses : (n : ℕ) (names : List Bytes) (pool : List Pattern) (o : Option Members) (r : TagRule × List Pattern) → tags_of n names pool o ≡ Ok r → Uses in_tags pool r
tag_uses n names pool None r e = let no_ : ⊥ = cc in absurd no_
tag_uses n names pool (Some ms) r e = tags_uses names pool ms r (unless_is _ (tags_in names pool ms) r (numbered_is (BadTags n) (tags_by n names pool ms) r e))

page_uses : (n : ℕ) (names : List Bytes) (pool : List Pattern) (o : Option Members) (r : PageRule × List Pattern) → pages_of n names pool o ≡ Ok r → Uses in_pages pool r
page_uses n names pool None r e = let no_ : ⊥ = cc in absurd no_
page_uses n names pool (Some ms) r e = pages_uses names pool ms r (unless_is _ (pages_in names pool ms) r (numbered_is (BadPaginate n) (pages_by n names pool ms) r e))

tags_use : (names : List Bytes) (ds : Items) (n : ℕ) (pool : List Pattern) (done : List TagRule) (before : ℕ) (r : List TagRule × List Pattern) → AllUses in_tags before (done, pool) → tags_from names ds n pool done ≡ Ok r → AllUses in_tags before r
tags_use names no_items n pool done before r so_far e = let is : (done, pool) ≡ r = cc in subst (AllUses in_tags before) is so_far
tags_use names (item d ds) n pool done before r so_far e =
    let one = then_is (tags_of n names pool (as_table d)) _ r e in
    tags_use names ds (n + 1) one.0.1 (done ++ one.0.0 ∷ []) before r (pushed in_tags before (length pool) (length one.0.1) done one.0.0 so_far (tag_uses n names pool (as_table d) one.0 one.1)) one.2

pages_use : (names : List Bytes) (ds : Items) (n : ℕ) (pool : List Pattern) (done : List PageRule) (before : ℕ) (r : List PageRule × List Pattern) → AllUses in_pages before (done, pool) → pages_from names ds n pool done ≡ Ok r → AllUses in_pages before r
pages_use names no_items n pool done before r so_far e = let is : (done, pool) ≡ r = cc in subst (AllUses in_pages before) is so_far
pages_use names (item d ds) n pool done before r so_far e =
    let one = then_is (pages_of n names pool (as_table d)) _ r e in
    pages_use names ds (n + 1) one.0.1 (done ++ one.0.0 ∷ []) before r (pushed in_pages before (length pool) (length one.0.1) done one.0.0 so_far (page_uses n names pool (as_table d) one.0 one.1)) one.2

-- ---- rules

draft_steps : (n : ℕ) (other : Option Bytes) (source : Result RuleSource Bytes) (version : Option (Option Bytes)) (route : Option (Option Route)) (steps : Option (List DraftStep)) (draft : _)
    → draft_by n other source version route steps ≡ Ok draft → steps ≡ Some draft.steps
draft_steps n (Some key) source version route steps draft e = let no_ : ⊥ = cc in absurd no_
draft_steps n None (Err key) version route steps draft e = let no_ : ⊥ = cc in absurd no_
draft_steps n None (Ok source) None route steps draft e = let no_ : ⊥ = cc in absurd no_
draft_steps n None (Ok source) (Some version) None steps draft e = let no_ : ⊥ = cc in absurd no_
draft_steps n None (Ok source) (Some version) (Some route) None draft e = let no_ : ⊥ = cc in absurd no_
draft_steps n None (Ok source) (Some version) (Some route) (Some steps) draft e =
    let is : steps ≡ draft.steps = cc in
    ap Some is

in_draft : (n : ℕ) (ms : Members) (draft : _) → draft_in n ms ≡ Ok draft → AllByRecursion IsReady draft.steps
unfolding draft_in steps_in
in_draft n ms draft e = steps_ready (is_some (get_member (codes "create") ms)) (get_member (codes "compile") ms) draft.steps (draft_steps n _ _ _ _ _ draft e)

finished_uses : (n : ℕ) (names : List Bytes) (pool : List Pattern) (draft : _) (linked : Result (List Step × List Pattern) RulesFault) (r : Rule × List Pattern) → finished draft linked ≡ Ok r → AllByRecursion IsReady draft.steps
    → link_steps n names draft.steps pool [] ≡ linked → Uses in_rule pool r
finished_uses n names pool draft (Err fault) r e ready at = let no_ : ⊥ = cc in absurd no_
finished_uses n names pool draft (Ok q) r e ready at =
    let here : Rule × List Pattern = (record { source = draft.source; version = draft.version; route = draft.route; chain = q.0 }, q.1) in
    let is : here ≡ r = cc in
    subst (Uses in_rule pool) is (chain_uses n names pool draft.steps q ready at)

rule_uses : (n : ℕ) (names : List Bytes) (pool : List Pattern) (o : Option Members) (r : Rule × List Pattern) → rule_by n names pool o ≡ Ok r → Uses in_rule pool r
rule_uses n names pool None r e = let no_ : ⊥ = cc in absurd no_
rule_uses n names pool (Some ms) r e = go (draft_in n ms) e (λ draft at. in_draft n ms draft at)
  where
    go : (o : _) → numbered_rule n names pool o ≡ Ok r → ((draft : _) → o ≡ Ok draft → AllByRecursion IsReady draft.steps) → Uses in_rule pool r
    go (Err fault) e ready = let no_ : ⊥ = cc in absurd no_
    go (Ok draft) e ready = finished_uses n names pool draft (link_steps n names draft.steps pool []) r e (ready draft refl) refl

rules_use : (names : List Bytes) (ds : Items) (n : ℕ) (pool : List Pattern) (done : List Rule) (before : ℕ) (r : List Rule × List Pattern) → AllUses in_rule before (done, pool) → rules_from names ds n pool done ≡ Ok r → AllUses in_rule before r
rules_use names no_items n pool done before r so_far e = let is : (done, pool) ≡ r = cc in subst (AllUses in_rule before) is so_far
rules_use names (item d ds) n pool done before r so_far e =
    go (rule_by n names pool (as_table d)) (λ one at. rule_uses n names pool (as_table d) one at) (λ one so f. rules_use names ds (n + 1) one.1 (done ++ one.0 ∷ []) before r so f) e
  where
    go : (o : Result (Rule × List Pattern) RulesFault) → ((one : Rule × List Pattern) → o ≡ Ok one → Uses in_rule pool one)
        → ((one : Rule × List Pattern) → AllUses in_rule before (done ++ one.0 ∷ [], one.1) → rules_from names ds (n + 1) one.1 (done ++ one.0 ∷ []) ≡ Ok r → AllUses in_rule before r)
        → next_rule (rules_from names ds (n + 1)) done o ≡ Ok r → AllUses in_rule before r
    go (Err fault) one rest e = let no_ : ⊥ = cc in absurd no_
    go (Ok next) one rest e = rest next (pushed in_rule before (length pool) (length next.1) done next.0 so_far (one next refl)) e

-- ---- contexts

named_uses : (names : List Bytes) (pool : List Pattern) (name : Bytes) (fields : Option (List DraftField)) (r : ContextView × List Pattern) → Holds (AllByRecursion IsReadyField) fields → linked names pool name fields ≡ Some r → Uses in_context pool r
named_uses names pool name None r ready e = let no_ : ⊥ = cc in absurd no_
named_uses names pool name (Some drafts) r ready e = go (link_fields names drafts pool []) (λ q at. fields_use names drafts pool [] (length pool) q ready refl at) e
  where
    go : (o : Option (List Field × List Pattern)) → ((q : List Field × List Pattern) → o ≡ Some q → Uses (flat_map in_field) pool q) → named name o ≡ Some r → Uses in_context pool r
    go None uses e = let no_ : ⊥ = cc in absurd no_
    go (Some q) uses e =
        let here : ContextView × List Pattern = (record { name = name; fields = q.0 }, q.1) in
        let is : here ≡ r = cc in
        subst (Uses in_context pool) is (uses q refl)

context_uses : (names : List Bytes) (room : ℕ) (pool : List Pattern) (name : Bytes) (d : Data) (r : ContextView × List Pattern) → context_of names room pool name d ≡ Some r → Uses in_context pool r
context_uses names room pool name d r e = go (may_define room name) e
  where
    go : (may : Bool) → (if may then linked names pool name (context_fields d) else None) ≡ Some r → Uses in_context pool r
    go false e = let no_ : ⊥ = cc in absurd no_
    go true e = named_uses names pool name (context_fields d) r (fields-ready d) e

one_uses : (names : List Bytes) (pool : List Pattern) (c : FileContext) (r : ContextView × List Pattern) → context_in names pool c ≡ Ok r → Uses in_context pool r
one_uses names pool built_in r e = let is : (default_context, pool) ≡ r = cc in subst (Uses in_context pool) is refl
one_uses names pool (written name room d) r e = context_uses names room pool name d r (required_is (BadContext name) (context_of names room pool name d) r e)

contexts_use : (names : List Bytes) (cs : List FileContext) (pool : List Pattern) (done : List ContextView) (r : List ContextView × List Pattern) → AllUses in_context 0 (done, pool) → contexts_from names cs pool done ≡ Ok r → AllUses in_context 0 r
contexts_use names [] pool done r so_far e = let is : (done, pool) ≡ r = cc in subst (AllUses in_context 0) is so_far
contexts_use names (c ∷ cs) pool done r so_far e =
    let one = then_is (context_in names pool c) _ r e in
    contexts_use names cs one.0.1 (done ++ one.0.0 ∷ []) r (pushed in_context 0 (length pool) (length one.0.1) done one.0.0 so_far (one_uses names pool c one.0 one.1)) one.2

-- ---- whole files

abbrev IsUsed : RulesView → Type 0
IsUsed rules = AreByFirstUse 0 (used_numbers rules) (length rules.patterns)

parts_use : (names : List Bytes) (contexts : List FileContext) (rules tags pages feeds : Items) (view : RulesView) → parts_with names contexts rules tags pages feeds ≡ Ok view → IsUsed view
parts_use names contexts rules tags pages feeds view e =
    let c = then_is (contexts_from names contexts [] []) _ view e in
    let r = then_is (rules_from names rules 1 c.0.1 []) _ view c.2 in
    let t = then_is (tags_from names tags 1 r.0.1 []) _ view r.2 in
    let p = then_is (pages_from names pages 1 t.0.1 []) _ view t.2 in
    let f = then_is (feeds_from feeds 1 []) _ view p.2 in
    let here : RulesView = record { rules = r.0.0; contexts = c.0.0; patterns = p.0.1; tags = t.0.0; pages = p.0.0; feeds = f.0 } in
    let last = f.2 in
    let is : here ≡ view = cc in
    let cs = contexts_use names contexts [] [] c.0 refl c.1 in
    let rs = rules_use names rules 1 c.0.1 [] (length c.0.1) r.0 refl r.1 in
    let ts = tags_use names tags 1 r.0.1 [] (length r.0.1) t.0 refl t.1 in
    let ps = pages_use names pages 1 t.0.1 [] (length t.0.1) p.0 refl p.1 in
    subst IsUsed is
    (joined 0 (length c.0.1) (length p.0.1) (flat_map in_context c.0.0) _ cs
    (joined (length c.0.1) (length r.0.1) (length p.0.1) (flat_map in_rule r.0.0) _ rs
    (joined (length r.0.1) (length t.0.1) (length p.0.1) (flat_map in_tags t.0.0) (flat_map in_pages p.0.0) ts ps)))

top_uses : (key : Option Bytes) (contexts : Option Members) (feeds pages rules tags : Option Items) (view : RulesView) → top_by key contexts feeds pages rules tags ≡ Ok view → IsUsed view
top_uses (Some key) contexts feeds pages rules tags view e = let no_ : ⊥ = cc in absurd no_
top_uses None contexts feeds pages rules tags view e =
    let c = then_is (formed (codes "context") contexts) _ view e in
    let f = then_is (formed (codes "feed") feeds) _ view c.2 in
    let p = then_is (formed (codes "paginate") pages) _ view f.2 in
    let r = then_is (formed (codes "rule") rules) _ view p.2 in
    let t = then_is (formed (codes "tags") tags) _ view r.2 in
    go c.0 r.0 t.0 p.0 f.0 (nat_lt most_rules (count_items r.0)) t.2
  where
    go : (contexts : Members) (rules tags pages feeds : Items) (many : Bool) → unless_many many contexts rules tags pages feeds ≡ Ok view → IsUsed view
    go contexts rules tags pages feeds true e = let no_ : ⊥ = cc in absurd no_
    go contexts rules tags pages feeds false e = parts_use (names_of contexts) (listed contexts) rules tags pages feeds view e

table_uses : (ms : Members) (view : RulesView) → rules_of_table ms ≡ Ok view → IsUsed view
unfolding rules_of_table
table_uses ms view e =
    top_uses (first_other is_top_key ms) (contexts_at (get_member (codes "context") ms)) (tables_at (get_member (codes "feed") ms)) (tables_at (get_member (codes "paginate") ms))
    (tables_at (get_member (codes "rule") ms)) (tables_at (get_member (codes "tags") ms)) view e

document_uses : (o : Option Members) (view : RulesView) → rules_of_document o ≡ Ok view → IsUsed view
document_uses None view e = let no_ : ⊥ = cc in absurd no_
document_uses (Some ms) view e = table_uses ms view e

pub numbers_by_first_use : NumbersByFirstUse rules_of
numbers_by_first_use bytes view e = go (nat_lt 1048576 (length bytes)) e
  where
    go : (long : Bool) → (if long then Err TooLong else rules_of_document (document bytes)) ≡ Ok view → IsUsed view
    go true e = let no_ : ⊥ = cc in absurd no_
    go false e = document_uses (document bytes) view e
