-- Rules with pages are linked, where the rules that they are made of are.
use Rattle.std.proofs.Common.{◌≡◌, ℕ, ◌<◌, ◌≤◌, Bool, true, false, List, [], ◌∷◌, length, Result, Ok, Err, sym, ap, ◌∙◌, subst, arith, inl}
use Rattle.std.specs.Prelude.{nat_lt, ◌+◌, IfOk}
use Rattle.hk_base.specs.Answers.{Answers}
use Rattle.hk_base.specs.declared.refusal.Refusal.{Refusal}
use Rattle.std.specs.Cmp.Lexicographic.{slice_cmp}
use Rattle.std.specs.List.{AllByRecursion}
use Rattle.std.specs.List.Sorted.{IsStrictlySortedBy}
use Rattle.std.specs.Ordering.{nat_cmp}
use Rattle.hk_chain.specs.Context.{ContextView}
use Rattle.hk_forms.specs.Names.{is_context_name}
use Rattle.hk_rules.specs.Plan.{Lookups, lookups, no_context}
use Rattle.hk_rules.specs.PlanView.{PlanView}
use Rattle.hk_rules_file.specs.Linked.{IsLinked, HasLinkedTables, IsLinkedTable, AreTagsLinked, ArePagesLinked, context_names}
use Rattle.hk_rules_file.specs.Rules.{RulesView}
use Rattle.hk_rules_file.specs.TableForm.{and_then}
use Rattle.hk_rules_file.specs.declared.tables.FeedRule.{FeedRule}
use Rattle.hk_rules_file.specs.declared.tables.PageRule.{PageRule}
use Rattle.hk_rules_file.specs.declared.tables.TagRule.{TagRule}
use Rattle.hk_rules_file.proofs.LinkedNumbers.{all-weaken}
use Rattle.hk_tags.specs.Expanding.{GrownView, start, with_one, with_pages, with_tag_table, with_page_table, dated_pages, most_items, whole, unless_many, counted, expand_by, expand}
use Rattle.hk_tags.specs.Growing.{MakingView, tags_making, pages_making}
use Rattle.hk_tags.specs.NameOrder.{numbers_of, in_name_order}
use Rattle.hk_tags.specs.Pages.{PageView, tag_pages, piece_pages}
use Rattle.hk_tags.specs.Turns.{in_turn}
use Rattle.hk_tags.specs.declared.tag_fault.TagFault.{TagFault}
use Rattle.hk_tags.proofs.Linkage.{AreGrown, all-at, one-grown}
use Rattle.hk_tags.proofs.Names.{IsKnown}
use Rattle.hk_tags.proofs.Relinking.{relinked}
use Rattle.hk_tags.proofs.Renumbering.{order-ascends}
use Rattle.hk_tags.proofs.Turning.{went-on, stops, goes-on, turns-keep}

unmapped : (cs : List ContextView) → AllByRecursion (λ name. is_context_name name ≡ true) (context_names cs) → AllByRecursion (λ (c : ContextView). is_context_name c.name ≡ true) cs
unmapped [] h = tt
unmapped (c ∷ cs) h = (h.0, unmapped cs h.1)

start-grown : (rules : RulesView) → IsLinked rules → HasLinkedTables rules → AreGrown (length rules.contexts) (length rules.patterns) (start rules)
start-grown rules linked tables = record {
  chains = linked.chains;
  named = linked.named;
  routes = linked.routes;
  known = all-weaken (λ name. is_context_name name ≡ true) (IsKnown []) (λ name h. inl h) (context_names rules.contexts) tables.written;
  long = omega arith;
  many = omega arith;
  first = λ k lt. all-at (λ (c : ContextView). is_context_name c.name ≡ true) rules.contexts k no_context lt (unmapped rules.contexts tables.written);
}

no-more : {X : Type 0} (xs : List X) → AllByRecursion (λ x. Unit {0}) xs
no-more [] = tt
no-more (x ∷ xs) = (tt, no-more xs)

module _ (contexts patterns : ℕ) (base : Lookups) where
  pages-grown : (making : MakingView) → IsLinkedTable contexts patterns making.chain making.route making.context making.item → (pages : List PageView) (grown next : GrownView) → AreGrown contexts patterns grown → with_pages base making pages grown ≡ Ok next → AreGrown contexts patterns next
  pages-grown making table pages grown next h e =
      turns-keep (with_one base making) (AreGrown contexts patterns) (λ page. Unit {0}) (λ s page t k q one. one-grown contexts patterns base making table s page t k one) pages grown next h (no-more pages) e

  tag_table-grown : (grown : GrownView) (table : TagRule) (next : GrownView) → AreGrown contexts patterns grown → AreTagsLinked contexts patterns table → with_tag_table base grown table ≡ Ok next → AreGrown contexts patterns next
  tag_table-grown grown table next h linked e = pages-grown (tags_making table) linked (tag_pages base table) grown next h e

  page_table-grown : (grown : GrownView) (table : PageRule) (next : GrownView) → AreGrown contexts patterns grown → ArePagesLinked contexts patterns table → with_page_table base grown table ≡ Ok next → AreGrown contexts patterns next
  page_table-grown grown table next h linked e =
      let w = went-on (dated_pages base (piece_pages base table)) (λ pages. with_pages base (pages_making table) pages grown) next e in
      pages-grown (pages_making table) linked.0 w.0 grown next h w.1.1

within-count : (many : Bool) (rules r : RulesView) → unless_many many rules ≡ Ok r → rules ≡ r
within-count true rules r e = cc
within-count false rules r e = cc

-- what rules with pages are made of
record IsExpanded (rules r : RulesView) (grown : GrownView) : Type 0 where
  pub grows : AreGrown (length rules.contexts) (length rules.patterns) grown
  pub is : whole rules.feeds (in_name_order grown.growing) ≡ r

expand_by-grown : (base : Lookups) (rules r : RulesView) → IsLinked rules → HasLinkedTables rules → expand_by base rules ≡ Ok r → (grown : GrownView) × IsExpanded rules r grown
expand_by-grown base rules r linked tables e =
    let c = length rules.contexts in
    let p = length rules.patterns in
    let w = went-on (in_turn (with_tag_table base) rules.tags (start rules)) (λ grown. and_then (in_turn (with_page_table base) rules.pages grown) (counted base rules.feeds)) r e in
    let v = went-on (in_turn (with_page_table base) rules.pages w.0) (counted base rules.feeds) r w.1.1 in
    let tagged = turns-keep (with_tag_table base) (AreGrown c p) (AreTagsLinked c p) (tag_table-grown c p base) rules.tags (start rules) w.0 (start-grown rules linked tables) tables.tags w.1.0 in
    let paged = turns-keep (with_page_table base) (AreGrown c p) (ArePagesLinked c p) (page_table-grown c p base) rules.pages w.0 v.0 tagged tables.pages v.1.0 in
    (v.0, record { grows = paged; is = within-count (nat_lt most_items (base.count + length v.0.made)) (whole rules.feeds (in_name_order v.0.growing)) r v.1.1 })

expand_by-linked : (base : Lookups) (rules r : RulesView) → IsLinked rules → HasLinkedTables rules → expand_by base rules ≡ Ok r → IsLinked r
expand_by-linked base rules r linked tables e =
    let g = expand_by-grown base rules r linked tables e in
    subst IsLinked g.1.is (relinked rules.feeds g.0.growing g.1.grows.chains g.1.grows.named g.1.grows.routes)

abbrev HasOrder : RulesView → Type 0
HasOrder r = IsStrictlySortedBy (slice_cmp nat_cmp) (context_names r.contexts)

expand_by-ascends : (base : Lookups) (rules r : RulesView) → IsLinked rules → HasLinkedTables rules → expand_by base rules ≡ Ok r → HasOrder r
unfolding in_name_order
expand_by-ascends base rules r linked tables e =
    let g = expand_by-grown base rules r linked tables e in
    subst HasOrder g.1.is (order-ascends (numbers_of g.0.growing.contexts) g.0.growing.contexts g.1.grows.named.names)

expand-ascends : (rules : RulesView) (base : PlanView) (r : RulesView) → IsLinked rules → HasLinkedTables rules → expand rules base ≡ Ok r → HasOrder r
unfolding expand
expand-ascends rules base r linked tables e = expand_by-ascends (lookups base) rules r linked tables e

pub ordered-result : (rules : RulesView) (base : PlanView) (r : Result RulesView (Refusal TagFault)) → IsLinked rules → HasLinkedTables rules → Answers (expand rules base) r → IfOk r HasOrder
ordered-result rules base (Ok v) linked tables a = expand-ascends rules base v linked tables a
ordered-result rules base (Err e) linked tables a = tt

pub expand-linked : (rules : RulesView) (base : PlanView) (r : RulesView) → IsLinked rules → HasLinkedTables rules → expand rules base ≡ Ok r → IsLinked r
unfolding expand
expand-linked rules base r linked tables e = expand_by-linked (lookups base) rules r linked tables e

pub linked-result : (rules : RulesView) (base : PlanView) (r : Result RulesView (Refusal TagFault)) → IsLinked rules → HasLinkedTables rules → Answers (expand rules base) r → IfOk r IsLinked
linked-result rules base (Ok v) linked tables a = expand-linked rules base v linked tables a
linked-result rules base (Err e) linked tables a = tt

pub contexts-behind-tags : (rules : RulesView) → HasLinkedTables rules → AllByRecursion (λ (table : TagRule). table.context < length rules.contexts) rules.tags
contexts-behind-tags rules tables = all-weaken (AreTagsLinked (length rules.contexts) (length rules.patterns)) (λ (table : TagRule). table.context < length rules.contexts) (λ table h. h.behind) rules.tags tables.tags

pub contexts-behind-pages : (rules : RulesView) (count : ℕ) → length rules.contexts ≤ count → HasLinkedTables rules → AllByRecursion (λ (table : PageRule). table.context < count) rules.pages
contexts-behind-pages rules count le tables = all-weaken (ArePagesLinked (length rules.contexts) (length rules.patterns)) (λ (table : PageRule). table.context < count) (λ table h. let b = h.0.behind in omega (arith, le, b)) rules.pages tables.pages

pub pages-have-some : (rules : RulesView) → HasLinkedTables rules → AllByRecursion (λ (table : PageRule). 1 ≤ table.per) rules.pages
pages-have-some rules tables = all-weaken (ArePagesLinked (length rules.contexts) (length rules.patterns)) (λ (table : PageRule). 1 ≤ table.per) (λ table h. h.1.0) rules.pages tables.pages

-- ---- the steps of the expansion

module _ (base : Lookups) (rules : RulesView) (grown : GrownView) (tags : List TagRule) (begun : grown ≡ start rules) (tagging : tags ≡ rules.tags) where
  after-tags : in_turn (with_tag_table base) tags grown ≡ in_turn (with_tag_table base) rules.tags (start rules)
  after-tags = ap (λ ts. in_turn (with_tag_table base) ts grown) tagging ∙ ap (in_turn (with_tag_table base) rules.tags) begun

  abbrev rest : GrownView → Result RulesView TagFault
  rest g = and_then (in_turn (with_page_table base) rules.pages g) (counted base rules.feeds)

  pub expanded-on : (tagged paged : GrownView) (pages : List PageRule) (feeds : List FeedRule) (r : Result RulesView (Refusal TagFault))
      → in_turn (with_tag_table base) tags grown ≡ Ok tagged → pages ≡ rules.pages → in_turn (with_page_table base) pages tagged ≡ Ok paged → feeds ≡ rules.feeds → Answers (counted base feeds paged) r → Answers (expand_by base rules) r
  expanded-on tagged paged pages feeds r one paging two feeding end =
      goes-on (in_turn (with_tag_table base) rules.tags (start rules)) rest tagged r (sym after-tags ∙ one)
      (goes-on (in_turn (with_page_table base) rules.pages tagged) (counted base rules.feeds) paged r (ap (λ ps. in_turn (with_page_table base) ps tagged) (sym paging) ∙ two)
      (subst (λ fs. Answers (counted base fs paged) r) feeding end))

  pub stopped-at-tags : (e : Refusal TagFault) → Answers (in_turn (with_tag_table base) tags grown) (Err e) → Answers (expand_by base rules) (Err e)
  stopped-at-tags e one = stops (in_turn (with_tag_table base) rules.tags (start rules)) rest e (subst (λ r. Answers {T = GrownView} r (Err e)) after-tags one)

  pub stopped-at-pages : (tagged : GrownView) (pages : List PageRule) (e : Refusal TagFault) → in_turn (with_tag_table base) tags grown ≡ Ok tagged → pages ≡ rules.pages → Answers (in_turn (with_page_table base) pages tagged) (Err e) → Answers (expand_by base rules) (Err e)
  stopped-at-pages tagged pages e one paging two =
      goes-on (in_turn (with_tag_table base) rules.tags (start rules)) rest tagged (Err e) (sym after-tags ∙ one)
      (stops (in_turn (with_page_table base) rules.pages tagged) (counted base rules.feeds) e (subst (λ ps. Answers {T = GrownView} (in_turn (with_page_table base) ps tagged) (Err e)) paging two))

  pub tags-ready : HasLinkedTables rules → AllByRecursion (λ (table : TagRule). table.context < length grown.growing.contexts) tags
  tags-ready tables =
      subst (λ g. AllByRecursion (λ (table : TagRule). table.context < length g.growing.contexts) tags) (sym begun)
      (subst (AllByRecursion (λ (table : TagRule). table.context < length rules.contexts)) (sym tagging) (contexts-behind-tags rules tables))

  pub pages-ready : (tagged : GrownView) (pages : List PageRule) → HasLinkedTables rules → length grown.growing.contexts ≤ length tagged.growing.contexts → pages ≡ rules.pages → AllByRecursion (λ (table : PageRule). table.context < length tagged.growing.contexts) pages
  pages-ready tagged pages tables more paging =
      subst (AllByRecursion (λ (table : PageRule). table.context < length tagged.growing.contexts)) (sym paging)
      (contexts-behind-pages rules (length tagged.growing.contexts) (subst (λ g. length g.growing.contexts ≤ length tagged.growing.contexts) begun more) tables)
