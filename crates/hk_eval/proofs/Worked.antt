-- Small renderings, run by hand: three items `a`, `b` and `t`, of which `t` is a template.
use Rattle.std.proofs.Common.{◌≡◌, refl, ℕ, suc, cond, true, false, List, [], ◌∷◌, Option, Some, None, nat_eq, codes}
use Rattle.hk_base.specs.Bytes.{Bytes}
use Rattle.hk_base.specs.Identifier.{Ident}
use Rattle.hk_chain.specs.Counts.{layout_of}
use Rattle.hk_chain.specs.declared.context.Field.{Field}
use Rattle.hk_chain.specs.declared.context.Field.TheVariants as fields
use Rattle.hk_chain.specs.declared.context.Order.{Order}
use Rattle.hk_chain.specs.declared.context.Order.TheVariants as orders
use Rattle.hk_chain.specs.declared.page.Page.{Page}
use Rattle.hk_chain.specs.declared.page.Kind.TheVariants as kinds
use Rattle.hk_chain.specs.declared.fault.Fault.TheVariants.{Missing, NoSnapshot, WrongKind, BadTemplate, NoKey, NotList, NotText, TooDeep, NoDate}
use Rattle.hk_pattern.specs.declared.pattern.Pattern.TheVariants.{HasNoVersion}
use Rattle.hk_fix.specs.Pages.{Pages, no_page, tell}
use Rattle.hk_fix.specs.Task.{used, Mark, asked, note, End, done, fault, waits, Run, run}
use Rattle.hk_meta.specs.Date.{read_day, read_time}
use Rattle.hk_meta.specs.DateFormat.{form_text}
use Rattle.std.specs.Fmt.{digits}
use Rattle.hk_meta.specs.Metadata.{Pairs}
use Rattle.hk_chain.specs.Names.{final_name}
use Rattle.hk_rules.specs.Plan.{Lookups}
use Rattle.hk_template.specs.Cut.{cut, token_at, tag_of, word_of}
use Rattle.hk_template.specs.Growing.{read_tree}
use Rattle.hk_template.specs.Tree.{Nodes, text_node, dollar_node, key_node, if_else_node, for_sep_node, partial_node, no_nodes, node}
use Rattle.hk_eval.specs.Asking.{text_page}
use Rattle.hk_eval.specs.Fields.{field_task, title_of}
use Rattle.hk_eval.specs.Lists.{list_task}
use Rattle.hk_eval.specs.Rendering.{partial_at, render}
use Rattle.hk_eval.specs.Templates.{template_task}
use Rattle.hk_eval.specs.declared.place.Place.{Place}

abbrev id_of : ℕ → Ident
id_of c = record { path = c ∷ []; version = None }

abbrev find_by : Bytes → Option ℕ
find_by [] = None
find_by (c ∷ rest) = cond (nat_eq c 97) (Some 0) (cond (nat_eq c 98) (Some 1) (cond (nat_eq c 116) (Some 2) None))

-- `s` of the first item is pair 0, and the finished pages are 1, 2 and 3
abbrev pair_by : ℕ → Bytes → Option ℕ
pair_by item [] = None
pair_by item (c ∷ rest) = cond (nat_eq c 115) (cond (nat_eq item 0) (Some 0) None) (cond (nat_eq c 95) (Some (suc item)) None)

abbrev at_item : {A : Type 0} → A → A → ℕ → A
at_item a b item = cond (nat_eq item 0) a b

-- the first two items have this metadata, the first context has these fields and the second that of metadata; the patterns
-- match no item, the first and the first two
abbrev plan_of : Pairs → Pairs → List Field → Lookups
plan_of a b fs =
    record {
      count = 3;
      layout = layout_of (1 ∷ 0 ∷ 0 ∷ []);
      id = λ item. id_of (cond (nat_eq item 0) 97 (cond (nat_eq item 1) 98 116));
      find = λ id. find_by id.path;
      chain = λ item. [];
      target_of = λ item. cond (nat_eq item 0) (Some (codes "a b.html")) None;
      resource = λ item. None;
      companion = λ item. None;
      body_start = λ item. 0;
      meta = λ item. at_item a b item;
      pair = pair_by;
      pair_name = λ pair. final_name;
      context = λ number. record { name = []; fields = cond (nat_eq number 0) fs (fields.Metadata ∷ []) };
      pattern = λ number. HasNoVersion;
      matches = λ number. cond (nat_eq number 0) [] (cond (nat_eq number 1) (0 ∷ []) (0 ∷ 1 ∷ []));
    }

abbrev own_page : Page
own_page = text_page (codes "P")

abbrev here : Place
here = record { item = 0; page = own_page; context = 0 }

abbrev k_key : Bytes
k_key = codes "k"

abbrev posts_key : Bytes
posts_key = codes "posts"

abbrev title_key : Bytes
title_key = codes "title"

abbrev titled : Bytes → Pairs
titled value = (title_key, value) ∷ []

abbrev dated : Bytes → Bytes → Pairs
dated date value = (codes "date", date) ∷ (title_key, value) ∷ []

abbrev posts : ℕ → Order → Option ℕ → Field
posts pattern order limit = fields.List posts_key pattern final_name order limit 1

-- the text `$if(k)$Y$else$N$endif$`
abbrev either : Nodes
either = node (if_else_node k_key (node (text_node (codes "Y")) no_nodes) (node (text_node (codes "N")) no_nodes)) no_nodes

-- the text `$for(posts)$$title$$sep$, $endfor$`
abbrev titles : Nodes
titles = node (for_sep_node posts_key (node (key_node title_key) no_nodes) (node (text_node (codes ", ")) no_nodes)) no_nodes

abbrev gives_text : List Mark → Bytes → Run Bytes
gives_text log bytes = record { log = log; end = done bytes }

abbrev ends_in : List Mark → End Bytes → Run Bytes
ends_in log end = record { log = log; end = end }

-- an empty text counts as one
empty-text : run (render (plan_of ((k_key, []) ∷ []) [] (fields.Metadata ∷ [])) either here) no_page ≡ gives_text [] (codes "Y")
unfolding render field_task
empty-text = refl

no-key : run (render (plan_of [] [] (fields.Metadata ∷ [])) either here) no_page ≡ gives_text [] (codes "N")
unfolding render field_task
no-key = refl

-- a flag that isn't set is no value
unset-flag : run (render (plan_of [] [] (fields.Bool k_key false ∷ [])) either here) no_page ≡ gives_text [] (codes "N")
unfolding render field_task
unset-flag = refl

set-flag : run (render (plan_of [] [] (fields.Bool k_key true ∷ [])) either here) no_page ≡ gives_text [] (codes "Y")
unfolding render field_task
set-flag = refl

-- a list is a value, which `if` doesn't make
list-without-items : run (render (plan_of [] [] (fields.List k_key 0 final_name orders.Id None 1 ∷ [])) either here) no_page ≡ gives_text [] (codes "Y")
unfolding render field_task
list-without-items = refl

list-not-made : run (render (plan_of [] [] (fields.List k_key 2 final_name orders.Id None 1 ∷ [])) either here) no_page ≡ gives_text [] (codes "Y")
unfolding render field_task
list-not-made = refl

-- the first field that has a value counts
first-counts : run (render (plan_of (titled (codes "A")) [] (fields.Const k_key (codes "x") ∷ fields.Const k_key (codes "y") ∷ [])) (node (key_node k_key) no_nodes) here) no_page ≡ gives_text [] (codes "x")
unfolding render field_task
first-counts = refl

passed-over : run (render (plan_of (titled (codes "A")) [] (fields.Bool k_key false ∷ fields.Const k_key (codes "y") ∷ [])) (node (key_node k_key) no_nodes) here) no_page ≡ gives_text [] (codes "y")
unfolding render field_task
passed-over = refl

-- a flag and a list are no text, a text is no list
flag-no-text : run (render (plan_of [] [] (fields.Bool k_key true ∷ [])) (node (key_node k_key) no_nodes) here) no_page ≡ ends_in [] (fault (NotText k_key))
unfolding render field_task
flag-no-text = refl

absent-no-key : run (render (plan_of [] [] []) (node (key_node k_key) no_nodes) here) no_page ≡ ends_in [] (fault (NoKey k_key))
unfolding render field_task
absent-no-key = refl

text-no-list : run (render (plan_of [] [] (fields.Const posts_key [] ∷ [])) titles here) no_page ≡ ends_in [] (fault (NotList posts_key))
unfolding render field_task
text-no-list = refl

absent-no-list : run (render (plan_of [] [] []) titles here) no_page ≡ ends_in [] (fault (NoKey posts_key))
unfolding render field_task
absent-no-list = refl

-- two dollar signs are one
dollar : run (render (plan_of [] [] []) (node dollar_node no_nodes) here) no_page ≡ gives_text [] (codes "$")
unfolding render
dollar = refl

abbrev both : Pages
both = tell (tell no_page 1 (text_page (codes "v"))) 2 (text_page (codes "w"))

abbrev all_asked : List Mark
all_asked = note (used 2) ∷ asked (1 ∷ 2 ∷ []) ∷ []

-- a list over no item, over one and over two
no-item : run (render (plan_of (titled (codes "A")) (titled (codes "B")) (posts 0 orders.Id None ∷ [])) titles here) no_page ≡ gives_text (note (used 0) ∷ []) []
unfolding render field_task list_task
no-item = refl

one-item : run (render (plan_of (titled (codes "A")) (titled (codes "B")) (posts 1 orders.Id None ∷ [])) titles here) both ≡ gives_text (note (used 1) ∷ asked (1 ∷ []) ∷ []) (codes "A")
unfolding render field_task list_task
one-item = refl

two-items : run (render (plan_of (titled (codes "A")) (titled (codes "B")) (posts 2 orders.Id None ∷ [])) titles here) both ≡ gives_text all_asked (codes "A, B")
unfolding render field_task list_task
two-items = refl

-- all pages are asked for at once, and kinds are tested when all are there
waits-for-both : run (render (plan_of [] [] (posts 2 orders.Id None ∷ [])) titles here) no_page ≡ ends_in all_asked (waits (1 ∷ 2 ∷ []))
unfolding render field_task list_task
waits-for-both = refl

waits-before-kinds : run (render (plan_of [] [] (posts 2 orders.Id None ∷ [])) titles here) (tell no_page 1 (record { kind = kinds.File; body = [] })) ≡ ends_in all_asked (waits (2 ∷ []))
unfolding render field_task list_task
waits-before-kinds = refl

first-other-kind : run (render (plan_of [] [] (posts 2 orders.Id None ∷ [])) titles here) (tell both 2 (record { kind = kinds.Template; body = [] })) ≡ ends_in all_asked (fault (WrongKind (id_of 98)))
unfolding render field_task list_task
first-other-kind = refl

-- the first item that saves nothing under the name; the pattern is noted, and no pair is asked for
no-snapshot : run (render (plan_of [] [] (fields.List posts_key 2 (codes "s") orders.Id None 1 ∷ [])) titles here) both ≡ ends_in (note (used 2) ∷ []) (fault (NoSnapshot (id_of 98) (codes "s")))
unfolding render field_task list_task
no-snapshot = refl

-- the order of dates
in-time : run (render (plan_of (dated (codes "2024-03-04") (codes "A")) (dated (codes "2024-01-02") (codes "B")) (posts 2 orders.Chronological None ∷ [])) titles here) both ≡ gives_text all_asked (codes "B, A")
unfolding render field_task list_task read_day read_time
in-time = refl

latest-first : run (render (plan_of (dated (codes "2024-01-02") (codes "A")) (dated (codes "2024-01-02T00:00:01") (codes "B")) (posts 2 orders.Recent None ∷ [])) titles here) both ≡ gives_text all_asked (codes "B, A")
unfolding render field_task list_task read_day read_time
latest-first = refl

-- items of one date stay as they stand, and the reverse turns them too
same-date : run (render (plan_of (dated (codes "2024-01-02") (codes "A")) (dated (codes "2024-01-02") (codes "B")) (posts 2 orders.Chronological None ∷ [])) titles here) both ≡ gives_text all_asked (codes "A, B")
unfolding render field_task list_task read_day read_time
same-date = refl

same-date-turned : run (render (plan_of (dated (codes "2024-01-02") (codes "A")) (dated (codes "2024-01-02") (codes "B")) (posts 2 orders.Recent None ∷ [])) titles here) both ≡ gives_text all_asked (codes "B, A")
unfolding render field_task list_task read_day read_time
same-date-turned = refl

-- the limit cuts after the order
cut-after-order : run (render (plan_of (dated (codes "2024-03-04") (codes "A")) (dated (codes "2024-01-02") (codes "B")) (posts 2 orders.Chronological (Some 1) ∷ [])) titles here) both ≡ gives_text all_asked (codes "B")
unfolding render field_task list_task read_day read_time
cut-after-order = refl

no-date : run (render (plan_of (dated (codes "2024-03-04") (codes "A")) (titled (codes "B")) (posts 2 orders.Recent (Some 1) ∷ [])) titles here) both ≡ ends_in all_asked (fault (NoDate (id_of 98)))
unfolding render field_task list_task read_day read_time
no-date = refl

-- fields of the place's own page and item
abbrev teased : Page
teased = text_page (codes "x<!--more-->y")

teaser-asks : run (render (plan_of [] [] (fields.Teaser k_key (codes "s") ∷ [])) (node (key_node k_key) no_nodes) here) no_page ≡ ends_in (asked (0 ∷ []) ∷ []) (waits (0 ∷ []))
unfolding render field_task
teaser-asks = refl

teaser-cuts : run (render (plan_of [] [] (fields.Teaser k_key (codes "s") ∷ [])) (node (key_node k_key) no_nodes) here) (tell no_page 0 teased) ≡ gives_text (asked (0 ∷ []) ∷ []) (codes "x")
unfolding render field_task
teaser-cuts = refl

-- without a mark a teaser is no value; its ask stays in the log
teaser-passed : run (render (plan_of [] [] (fields.Teaser k_key (codes "s") ∷ fields.Const k_key (codes "c") ∷ [])) (node (key_node k_key) no_nodes) here) (tell no_page 0 own_page) ≡ gives_text (asked (0 ∷ []) ∷ []) (codes "c")
unfolding render field_task
teaser-passed = refl

abbrev plain_fields : List Field
plain_fields = fields.Body ∷ fields.Metadata ∷ fields.Url ∷ fields.Path ∷ fields.Title ∷ []

url-escaped : run (render (plan_of [] [] plain_fields) (node (key_node (codes "url")) no_nodes) here) no_page ≡ gives_text [] (codes "/a%20b.html")
unfolding render field_task
url-escaped = refl

own-body : run (render (plan_of [] [] plain_fields) (node (key_node (codes "body")) (node (key_node (codes "path")) no_nodes)) here) no_page ≡ gives_text [] (codes "Pa")
unfolding render field_task
own-body = refl

body-no-text : run (render (plan_of [] [] plain_fields) (node (key_node (codes "body")) no_nodes) (record here { page = record { kind = kinds.File; body = [] } })) no_page ≡ ends_in [] (fault (WrongKind (id_of 97)))
unfolding render field_task
body-no-text = refl

date-printed : run (render (plan_of (dated (codes "2024-03-04") (codes "A")) [] (fields.Date k_key (codes "%Y/%m") ∷ [])) (node (key_node k_key) no_nodes) here) no_page ≡ gives_text [] (codes "2024/03")
unfolding render field_task read_day read_time form_text digits
date-printed = refl

title-cut : title_of (codes "posts/a.b.md") ≡ codes "a.b"
title-cut = refl

title-of-dot : title_of (codes "x.y/.md") ≡ codes ".md"
title-of-dot = refl

-- templates in templates
abbrev calls : Nodes
calls = node (partial_node (codes "t")) no_nodes

abbrev template_page : Bytes → Page
template_page body = record { kind = kinds.Template; body = body }

partial-waits : run (render (plan_of [] [] []) calls here) no_page ≡ ends_in (asked (3 ∷ []) ∷ []) (waits (3 ∷ []))
unfolding render template_task
partial-waits = refl

partial-renders : run (render (plan_of (titled (codes "A")) [] (fields.Metadata ∷ [])) calls here) (tell no_page 3 (template_page (codes "<$title$>"))) ≡ gives_text (asked (3 ∷ []) ∷ []) (codes "<A>")
unfolding render template_task field_task read_tree cut token_at tag_of word_of
partial-renders = refl

partial-no-template : run (render (plan_of [] [] []) calls here) (tell no_page 3 (text_page [])) ≡ ends_in (asked (3 ∷ []) ∷ []) (fault (WrongKind (id_of 116)))
unfolding render template_task
partial-no-template = refl

partial-bad : run (render (plan_of [] [] []) calls here) (tell no_page 3 (template_page (codes "a$b"))) ≡ ends_in (asked (3 ∷ []) ∷ []) (fault (BadTemplate 1))
unfolding render template_task read_tree cut token_at
partial-bad = refl

partial-missing : run (render (plan_of [] [] []) (node (partial_node (codes "z")) no_nodes) here) no_page ≡ ends_in [] (fault (Missing (id_of 122)))
unfolding render template_task
partial-missing = refl

-- where no level is left, a call is too deep before it asks
too-deep : run (partial_at (plan_of [] [] []) 0 (codes "t") here) no_page ≡ ends_in [] (fault TooDeep)
too-deep = refl
