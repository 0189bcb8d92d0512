-- Tables that are read have numbers in range, and so has all that is read with them.
use Rattle.std.proofs.Common.{◌≡◌, ℕ, ◌+◌, ◌<◌, ◌≤◌, true, false, List, [], ◌∷◌, ◌++◌, length, Option, Some, None, Result, Ok, Err, IfOk, sym, ap, subst, ◌∙◌, arith, Global, String, string_bytes, string_cmp, BTreeMap}
use Rattle.std.specs.Prelude.{bytes_eq, codes}
use Rattle.std.specs.BTreeMap.{IsOrdered}
use Rattle.std.specs.List.{AllByRecursion, IsDistinct, fold}
use Rattle.std.specs.List.Sorted.{IsStrictlySortedBy}
use Rattle.std.specs.Map.{keys_of}
use Rattle.std.specs.Ordering.{is_eq}
use Rattle.std.specs.declared.cmp.Ordering.TheVariants.{Less}
use Rattle.std.proofs.lemmas.Map.Text.{is_eq-slice_cmp}
use Rattle.toml.specs.Data.{Data, Items, no_items, item, Members, as_table, get_member}
use Rattle.toml.specs.View.{members_view, table_view}
use Rattle.toml.specs.declared.value.Value.{Value}
use Rattle.hk_base.specs.Answers.{Answers}
use Rattle.hk_base.specs.Bytes.{Bytes}
use Rattle.hk_base.specs.declared.refusal.Refusal.{Refusal}
use Rattle.hk_chain.specs.Context.{ContextView}
use Rattle.hk_chain.specs.declared.chain.Step.{Step}
use Rattle.hk_chain.specs.declared.context.Order.TheVariants.{Id, Recent}
use Rattle.hk_forms.specs.IdForm.{value_of}
use Rattle.hk_pattern.specs.declared.pattern.Pattern.{Pattern}
use Rattle.hk_route.specs.declared.route.Route.{Route}
use Rattle.hk_rules_file.specs.ContextForm.{FileContext, names_in, listed, names_of, contexts_in}
use Rattle.hk_rules_file.specs.ContextNames.{keys_in}
use Rattle.hk_rules_file.specs.FeedForm.{kind_at, email_at, snapshot_at, count_or_ten, limit_at, feed_in, feed_by, feed_of, feeds_from}
use Rattle.hk_rules_file.specs.Linked.{IsCount, IsRouted, IsLinked, IsLinkedTable, AreTagsLinked, ArePagesLinked, HasLinkedTables}
use Rattle.hk_rules_file.specs.Linking.{link_steps}
use Rattle.hk_rules_file.specs.Numbering.{place_of, with_name}
use Rattle.hk_rules_file.specs.PagesForm.{pages_in, pages_by, pages_of, pages_from}
use Rattle.hk_forms.specs.RouteForm.{route_of}
use Rattle.hk_rules_file.specs.RuleForm.{optional, first_other, rules_from}
use Rattle.hk_rules_file.specs.Rules.{RulesView}
use Rattle.hk_rules_file.specs.RulesForm.{parts_with, parts_in}
use Rattle.hk_rules_file.specs.TableForm.{required, and_then, pattern_at, text_at, counted, count_at, order_at, route_at, name_or_default, place_by, context_at, numbered_steps, chain_at, is_table_key, early_fault, unless, numbered_fault}
use Rattle.hk_rules_file.specs.TagsForm.{field_at, tags_in, tags_by, tags_of, tags_from}
use Rattle.hk_rules_file.specs.declared.fault.RulesFault.{RulesFault}
use Rattle.hk_rules_file.specs.declared.rules.Rule.{Rule}
use Rattle.hk_rules_file.specs.declared.table_form.TableKind.{TableKind}
use Rattle.hk_rules_file.specs.declared.table_form.TableKind.TheVariants.{Tags, Paginate, Feed}
use Rattle.hk_rules_file.specs.declared.tables.FeedRule.{FeedRule}
use Rattle.hk_rules_file.specs.declared.tables.PageRule.{PageRule}
use Rattle.hk_rules_file.specs.declared.tables.TagRule.{TagRule}
use Rattle.hk_steps.specs.StepForm.{chain_by}
use Rattle.hk_steps.specs.declared.draft.DraftStep.{DraftStep}
use Rattle.hk_rules_file.proofs.LinkedContexts.{AreContexts, contexts-more, contexts_in-contexts, contexts-distinct, contexts-many}
use Rattle.hk_rules_file.proofs.LinkedFields.{count-within}
use Rattle.hk_rules_file.proofs.LinkedNumbers.{all-push, all-weaken, place_of-below, Below, IsGrown, grown-same, grown-more}
use Rattle.hk_rules_file.proofs.LinkedRules.{routed, chain-more, IsChain, chain-linked, rules-more, AreLinkedRules, rules_from-linked}
use Rattle.hk_rules_file.proofs.LinkedSteps.{Holds, IsReady, chain-ready, chain-short}

-- ---- what holds of values that were read

-- a result has no fault or a value of which P holds
record Gives {X F : Type 0} (P : X → Type 0) (r : Result X F) : Type 0 where
  is : IfOk r P

then-holds : {X Y F : Type 0} (P : X → Type 0) (Q : Y → Type 0) (r : Result X F) (next : X → Result Y F) → IfOk r P → ((x : X) → P x → Gives Q (next x)) → Gives Q (and_then r next)
then-holds P Q (Ok x) next h k = k x h
then-holds P Q (Err fault) next h k = record { is = tt }

then-any : {X Y F : Type 0} (Q : Y → Type 0) (r : Result X F) (next : X → Result Y F) → ((x : X) → Gives Q (next x)) → Gives Q (and_then r next)
then-any Q (Ok x) next k = k x
then-any Q (Err fault) next k = record { is = tt }

required-holds : {X F : Type 0} (P : X → Type 0) (fault : F) (o : Option X) → Holds P o → IfOk (required fault o) P
required-holds P fault (Some x) h = h
required-holds P fault None h = tt

value-holds : {X F : Type 0} (P : X → Type 0) (r : Result X F) → IfOk r P → Holds P (value_of r)
value-holds P (Ok x) h = h
value-holds P (Err fault) h = tt

unless-holds : {X F : Type 0} (P : X → Type 0) (o : Option F) (r : Result X F) → IfOk r P → IfOk (unless o r) P
unless-holds P (Some fault) r h = tt
unless-holds P None r h = h

numbered-holds : {X : Type 0} (P : X → Type 0) (kind : TableKind) (n : ℕ) (r : Result X Bytes) → IfOk r P → IfOk (numbered_fault kind n r) P
numbered-holds P kind n (Ok x) h = h
numbered-holds P kind n (Err word) h = tt

-- ---- parts of tables

route_at-routed : (ms : Members) → IfOk (route_at ms) IsRouted
route_at-routed ms = required-holds IsRouted (codes "route") (optional route_of (get_member (codes "route") ms)) (routed (get_member (codes "route") ms))

counted-within : (d : Option Data) → Holds IsCount (counted d)
counted-within None = tt
counted-within (Some d) = count-within d

count_at-within : (key : Bytes) (ms : Members) → IfOk (count_at key ms) IsCount
count_at-within key ms = required-holds IsCount key (counted (get_member key ms)) (counted-within (get_member key ms))

abbrev IsBelow : List Bytes → ℕ → Type 0
IsBelow names n = n < length names

below-holds : (names : List Bytes) (o : Option ℕ) → Below (length names) o → Holds (IsBelow names) o
below-holds names None h = tt
below-holds names (Some n) h = h

place_by-below : (names : List Bytes) (o : Option Bytes) → Holds (IsBelow names) (place_by names o)
place_by-below names None = tt
place_by-below names (Some name) = below-holds names (place_of name names) (place_of-below name names)

context_at-below : (names : List Bytes) (key : Bytes) (ms : Members) → IfOk (context_at names key ms) (IsBelow names)
context_at-below names key ms = required-holds (IsBelow names) key (place_by names (name_or_default (get_member key ms))) (place_by-below names (name_or_default (get_member key ms)))

steps-linked : (names : List Bytes) (pool : List Pattern) (o : Option (List DraftStep)) → Holds (AllByRecursion IsReady) o → Holds (λ drafts. length drafts ≤ 64) o → Holds (IsChain names pool) (numbered_steps names pool o)
steps-linked names pool None ready short = tt
steps-linked names pool (Some drafts) ready short = value-holds (IsChain names pool) (link_steps 0 names drafts pool []) (chain-linked 0 names pool drafts short ready)

chain_at-linked : (names : List Bytes) (pool : List Pattern) (ms : Members) → IfOk (chain_at names pool ms) (IsChain names pool)
chain_at-linked names pool ms =
    required-holds (IsChain names pool) (codes "compile") (numbered_steps names pool (chain_by true (get_member (codes "compile") ms)))
    (steps-linked names pool (chain_by true (get_member (codes "compile") ms)) (chain-ready true (get_member (codes "compile") ms)) (chain-short true (get_member (codes "compile") ms)))

-- ---- one table and several

-- a table of which L holds among so many patterns, and the patterns then
record IsRead {X : Type 0} (L : ℕ → X → Type 0) (pool : List Pattern) (r : X × List Pattern) : Type 0 where
  linked : L (length r.1) r.0
  grown : IsGrown pool r.1

record AreRead {X : Type 0} (L : ℕ → X → Type 0) (pool : List Pattern) (r : List X × List Pattern) : Type 0 where
  within : AllByRecursion (L (length r.1)) r.0
  grown : IsGrown pool r.1

-- more contexts and patterns
table-more : (c d p q : ℕ) → c ≤ d → p ≤ q → (chain : List Step) (route : Option Route) (context listing : ℕ) → IsLinkedTable c p chain route context listing → IsLinkedTable d q chain route context listing
table-more c d p q le lq chain route context listing h =
    let behind = h.behind in
    let listed = h.listed in
    record { linked = chain-more c d p q le lq chain h.linked; routed = h.routed; behind = omega arith; listed = omega arith }

tags-more : (c d p q : ℕ) → c ≤ d → p ≤ q → (tags : TagRule) → AreTagsLinked c p tags → AreTagsLinked d q tags
tags-more c d p q le lq tags h = table-more c d p q le lq tags.chain tags.route tags.context tags.item h

pages-more : (c d p q : ℕ) → c ≤ d → p ≤ q → (pages : PageRule) → ArePagesLinked c p pages → ArePagesLinked d q pages
pages-more c d p q le lq pages h = (table-more c d p q le lq pages.chain pages.route pages.context pages.item h.0, h.1)

-- the tables that come after those that are done and one more
reads-next : {X : Type 0} (L : ℕ → X → Type 0) → ((p q : ℕ) → p ≤ q → (x : X) → L p x → L q x) → (pool : List Pattern) (done : List X) → AllByRecursion (L (length pool)) done → (r : X × List Pattern) → IsRead L pool r
    → (rest : Result (List X × List Pattern) RulesFault) → (AllByRecursion (L (length r.1)) (done ++ r.0 ∷ []) → Gives (AreRead L r.1) rest) → Gives (AreRead L pool) rest
reads-next L more pool done h r k (Err fault) later = record { is = tt }
reads-next L more pool done h r k (Ok all) later =
    let old = all-weaken (L (length pool)) (L (length r.1)) (more (length pool) (length r.1) k.grown.long) done h in
    let rest = (later (all-push (L (length r.1)) done r.0 old k.linked)).is in
    record { is = record { within = rest.within; grown = grown-more pool r.1 all.1 k.grown rest.grown } }

-- ---- tables for tags

abbrev TagsL : List Bytes → ℕ → TagRule → Type 0
TagsL names p tags = AreTagsLinked (length names) p tags

tags_in-linked : (names : List Bytes) (pool : List Pattern) (ms : Members) → Gives (IsRead (TagsL names) pool) (tags_in names pool ms)
tags_in-linked names pool ms =
    let Q : TagRule × List Pattern → Type 0 = IsRead (TagsL names) pool in
    then-any Q (pattern_at (codes "of") ms) _ (λ of.
    then-any Q (field_at ms) _ (λ field.
    then-any Q (text_at (codes "prefix") ms) _ (λ prefix.
    then-holds (IsChain names pool) Q (chain_at names pool ms) _ (chain_at-linked names pool ms) (λ linked l.
    then-holds IsRouted Q (route_at ms) _ (route_at-routed ms) (λ route r.
    then-holds (IsBelow names) Q (context_at names (codes "context") ms) _ (context_at-below names (codes "context") ms) (λ context c.
    then-holds (IsBelow names) Q (context_at names (codes "item") ms) _ (context_at-below names (codes "item") ms) (λ listed i.
    then-any Q (order_at Id ms) _ (λ order.
    record { is = record { linked = record { linked = l.linked; routed = r; behind = c; listed = i }; grown = l.grown } }))))))))

tags_of-linked : (n : ℕ) (names : List Bytes) (pool : List Pattern) (ms : Option Members) → IfOk (tags_of n names pool ms) (IsRead (TagsL names) pool)
tags_of-linked n names pool None = tt
tags_of-linked n names pool (Some ms) =
    numbered-holds (IsRead (TagsL names) pool) Tags n (tags_by n names pool ms)
    (unless-holds (IsRead (TagsL names) pool) (early_fault Tags n (first_other (is_table_key Tags) ms)) (tags_in names pool ms) (tags_in-linked names pool ms).is)

tags_from-linked : (names : List Bytes) (ds : Items) (n : ℕ) (pool : List Pattern) (done : List TagRule) → AllByRecursion (TagsL names (length pool)) done → Gives (AreRead (TagsL names) pool) (tags_from names ds n pool done)
tags_from-linked names no_items n pool done h = record { is = record { within = h; grown = grown-same pool } }
tags_from-linked names (item d ds) n pool done h =
    then-holds (IsRead (TagsL names) pool) (AreRead (TagsL names) pool) (tags_of n names pool (as_table d)) _ (tags_of-linked n names pool (as_table d)) (λ r k.
    reads-next (TagsL names) (λ p q le x. tags-more (length names) (length names) p q (omega arith) le x) pool done h r k (tags_from names ds (n + 1) r.1 (done ++ r.0 ∷ [])) (λ all. tags_from-linked names ds (n + 1) r.1 (done ++ r.0 ∷ []) all))

-- ---- tables for numbered pages

abbrev PagesL : List Bytes → ℕ → PageRule → Type 0
PagesL names p pages = ArePagesLinked (length names) p pages

pages_in-linked : (names : List Bytes) (pool : List Pattern) (ms : Members) → Gives (IsRead (PagesL names) pool) (pages_in names pool ms)
pages_in-linked names pool ms =
    let Q : PageRule × List Pattern → Type 0 = IsRead (PagesL names) pool in
    then-any Q (pattern_at (codes "of") ms) _ (λ of.
    then-any Q (text_at (codes "prefix") ms) _ (λ prefix.
    then-holds IsCount Q (count_at (codes "per") ms) _ (count_at-within (codes "per") ms) (λ per count.
    then-any Q (text_at (codes "first") ms) _ (λ first.
    then-holds (IsChain names pool) Q (chain_at names pool ms) _ (chain_at-linked names pool ms) (λ linked l.
    then-holds IsRouted Q (route_at ms) _ (route_at-routed ms) (λ route r.
    then-holds (IsBelow names) Q (context_at names (codes "context") ms) _ (context_at-below names (codes "context") ms) (λ context c.
    then-holds (IsBelow names) Q (context_at names (codes "item") ms) _ (context_at-below names (codes "item") ms) (λ listed i.
    then-any Q (order_at Recent ms) _ (λ order.
    record { is = record { linked = (record { linked = l.linked; routed = r; behind = c; listed = i }, count); grown = l.grown } })))))))))

pages_of-linked : (n : ℕ) (names : List Bytes) (pool : List Pattern) (ms : Option Members) → IfOk (pages_of n names pool ms) (IsRead (PagesL names) pool)
pages_of-linked n names pool None = tt
pages_of-linked n names pool (Some ms) =
    numbered-holds (IsRead (PagesL names) pool) Paginate n (pages_by n names pool ms)
    (unless-holds (IsRead (PagesL names) pool) (early_fault Paginate n (first_other (is_table_key Paginate) ms)) (pages_in names pool ms) (pages_in-linked names pool ms).is)

pages_from-linked : (names : List Bytes) (ds : Items) (n : ℕ) (pool : List Pattern) (done : List PageRule) → AllByRecursion (PagesL names (length pool)) done → Gives (AreRead (PagesL names) pool) (pages_from names ds n pool done)
pages_from-linked names no_items n pool done h = record { is = record { within = h; grown = grown-same pool } }
pages_from-linked names (item d ds) n pool done h =
    then-holds (IsRead (PagesL names) pool) (AreRead (PagesL names) pool) (pages_of n names pool (as_table d)) _ (pages_of-linked n names pool (as_table d)) (λ r k.
    reads-next (PagesL names) (λ p q le x. pages-more (length names) (length names) p q (omega arith) le x) pool done h r k (pages_from names ds (n + 1) r.1 (done ++ r.0 ∷ [])) (λ all. pages_from-linked names ds (n + 1) r.1 (done ++ r.0 ∷ []) all))

-- ---- feeds

abbrev Counts : FeedRule → Type 0
Counts feed = IsCount feed.limit

ten-within : (d : Option Data) → Holds IsCount (count_or_ten d)
ten-within None = (omega arith, omega arith)
ten-within (Some d) = count-within d

limit_at-within : (ms : Members) → IfOk (limit_at ms) IsCount
limit_at-within ms = required-holds IsCount (codes "limit") (count_or_ten (get_member (codes "limit") ms)) (ten-within (get_member (codes "limit") ms))

feed_in-counts : (ms : Members) → Gives Counts (feed_in ms)
feed_in-counts ms =
    then-any Counts (kind_at ms) _ (λ kind.
    then-any Counts (text_at (codes "target") ms) _ (λ target.
    then-any Counts (pattern_at (codes "of") ms) _ (λ of.
    then-any Counts (text_at (codes "title") ms) _ (λ title.
    then-any Counts (text_at (codes "description") ms) _ (λ description.
    then-any Counts (text_at (codes "author") ms) _ (λ author.
    then-any Counts (text_at (codes "root") ms) _ (λ root.
    then-any Counts (email_at ms) _ (λ email.
    then-any Counts (snapshot_at ms) _ (λ snapshot.
    then-holds IsCount Counts (limit_at ms) _ (limit_at-within ms) (λ limit count. record { is = count }))))))))))

feed_of-counts : (n : ℕ) (ms : Option Members) → IfOk (feed_of n ms) Counts
feed_of-counts n None = tt
feed_of-counts n (Some ms) =
    numbered-holds Counts Feed n (feed_by n ms) (unless-holds Counts (early_fault Feed n (first_other (is_table_key Feed) ms)) (feed_in ms) (feed_in-counts ms).is)

feeds_from-count : (ds : Items) (n : ℕ) (done : List FeedRule) → AllByRecursion Counts done → Gives (AllByRecursion Counts) (feeds_from ds n done)
feeds_from-count no_items n done h = record { is = h }
feeds_from-count (item d ds) n done h =
    then-holds Counts (AllByRecursion Counts) (feed_of n (as_table d)) _ (feed_of-counts n (as_table d)) (λ feed k.
    feeds_from-count ds (n + 1) (done ++ feed ∷ []) (all-push Counts done feed h k))

-- ---- whole rules

record IsWhole (rules : RulesView) : Type 0 where
  linked : IsLinked rules
  tables : HasLinkedTables rules

module _ (ms : Members) (d : IsDistinct bytes_eq (keys_in ms)) where
  abbrev names : List Bytes
  names = names_of ms

  whole-linked : (c : List ContextView × List Pattern) → AreContexts names ms c → (r : List Rule × List Pattern) → AreLinkedRules names c.1 r → (t : List TagRule × List Pattern) → AreRead (TagsL names) r.1 t
      → (p : List PageRule × List Pattern) → AreRead (PagesL names) t.1 p → (f : List FeedRule) → AllByRecursion Counts f → IsWhole (record { rules = r.0; contexts = c.0; patterns = p.1; tags = t.0; pages = p.0; feeds = f })
  whole-linked c hc r hr t ht p hp f hf =
      let many = contexts-many ms c hc in
      let late : IsGrown r.1 p.1 = grown-more r.1 t.1 p.1 ht.grown hp.grown in
      let all : IsGrown c.1 p.1 = grown-more c.1 r.1 p.1 hr.grown late in
      record {
        linked = record {
          chains = rules-more (length names) (length c.0) r.1 p.1 many late r.0 hr.within;
          named = record {
            within = contexts-more (length names) (length c.0) c.1 p.1 many all c.0 hc.within;
            names = contexts-distinct names ms c d hc;
            texts = all.apart hc.texts;
          };
          routes = hr.routes;
        };
        tables = record {
          tags = all-weaken _ _ (tags-more (length names) (length c.0) (length t.1) (length p.1) many hp.grown.long) t.0 ht.within;
          pages = all-weaken _ _ (pages-more (length names) (length c.0) (length p.1) (length p.1) many (omega arith)) p.0 hp.within;
          feeds = hf;
          written = hc.written;
        };
      }

  parts_in-whole : (rules tags pages feeds : Items) → Gives IsWhole (parts_in ms rules tags pages feeds)
  parts_in-whole rules tags pages feeds =
      then-holds (AreContexts names ms) IsWhole (contexts_in names ms) _ (contexts_in-contexts names ms) (λ c hc.
      then-holds (AreLinkedRules names c.1) IsWhole (rules_from names rules 1 c.1 []) _ (rules_from-linked names rules 1 c.1 [] (tt, tt)) (λ r hr.
      then-holds (AreRead (TagsL names) r.1) IsWhole (tags_from names tags 1 r.1 []) _ (tags_from-linked names tags 1 r.1 [] tt).is (λ t ht.
      then-holds (AreRead (PagesL names) t.1) IsWhole (pages_from names pages 1 t.1 []) _ (pages_from-linked names pages 1 t.1 [] tt).is (λ p hp.
      then-holds (AllByRecursion Counts) IsWhole (feeds_from feeds 1 []) _ (feeds_from-count feeds 1 [] tt).is (λ f hf.
      record { is = whole-linked c hc r hr t ht p hp f hf })))))

abbrev Entry : Type 0
Entry = String Global × Value

keys-differ : (k : String Global) (es : List Entry) → AllByRecursion (λ y. string_cmp k y ≡ Less) (keys_of es) → AllByRecursion (λ y. bytes_eq (string_bytes k) y ≡ false) (keys_in (members_view es))
keys-differ k [] h = tt
keys-differ k (e ∷ es) h = (sym (is_eq-slice_cmp (string_bytes k) (string_bytes e.0)) ∙ ap is_eq h.0, keys-differ k es h.1)

keys-distinct : (es : List Entry) → IsStrictlySortedBy string_cmp (keys_of es) → IsDistinct bytes_eq (keys_in (members_view es))
unfolding IsDistinct IsStrictlySortedBy
keys-distinct [] h = tt
keys-distinct (e ∷ es) h = (keys-differ e.0 es h.0, keys-distinct es h.1)

answer-whole : (P : RulesView → Type 0) → ((rules : RulesView) → IsWhole rules → P rules) → (wanted : Result RulesView RulesFault) (r : Result RulesView (Refusal RulesFault)) → Answers wanted r → IfOk wanted IsWhole → IfOk r P
answer-whole P part wanted (Ok rules) is h = part rules (subst (λ w. IfOk w IsWhole) is h)
answer-whole P part wanted (Err fault) is h = tt

-- what is read of a table, whose contexts are these, and of arrays
parts-whole : (P : RulesView → Type 0) → ((rules : RulesView) → IsWhole rules → P rules) → (m : BTreeMap (String Global) Value) (rules tags pages feeds : Items) (contexts : List FileContext) (names : List Bytes) (r : Result RulesView (Refusal RulesFault)) → IsOrdered string_cmp m
    → contexts ≡ listed (table_view m) → names ≡ fold with_name [] (names_in contexts) → Answers (parts_with names contexts rules tags pages feeds) r → IfOk r P
parts-whole P part m rules tags pages feeds contexts names r ordered are called is =
    let same : parts_with names contexts rules tags pages feeds ≡ parts_in (table_view m) rules tags pages feeds =
    ap (λ ns. parts_with ns contexts rules tags pages feeds) called ∙ ap (λ cs. parts_with (fold with_name [] (names_in cs)) cs rules tags pages feeds) are in
    answer-whole P part (parts_in (table_view m) rules tags pages feeds) r (subst (λ x. Answers x r) same is)
    (parts_in-whole (table_view m) (keys-distinct m.entries ordered) rules tags pages feeds).is

pub parts-linked : (m : BTreeMap (String Global) Value) (rules tags pages feeds : Items) (contexts : List FileContext) (names : List Bytes) (r : Result RulesView (Refusal RulesFault)) → IsOrdered string_cmp m
    → contexts ≡ listed (table_view m) → names ≡ fold with_name [] (names_in contexts) → Answers (parts_with names contexts rules tags pages feeds) r → IfOk r IsLinked
parts-linked = parts-whole IsLinked (λ rules is. is.linked)

pub parts-tables : (m : BTreeMap (String Global) Value) (rules tags pages feeds : Items) (contexts : List FileContext) (names : List Bytes) (r : Result RulesView (Refusal RulesFault)) → IsOrdered string_cmp m
    → contexts ≡ listed (table_view m) → names ≡ fold with_name [] (names_in contexts) → Answers (parts_with names contexts rules tags pages feeds) r → IfOk r HasLinkedTables
parts-tables = parts-whole HasLinkedTables (λ rules is. is.tables)
