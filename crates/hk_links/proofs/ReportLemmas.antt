-- How a report grows, link by link and page by page.
use Rattle.std.proofs.Common.{◌≡◌, ℕ, zero, suc, ◌+◌, ◌-◌, ◌<◌, ◌≤◌, ◌^◌, true, false, cond, not, List, [], ◌∷◌, ◌++◌, map, filter, min, length, get_or, take, arith, refl, sym, ap, ◌∙◌, append_assoc, append-nil, length-append, add-zero, take_all}
use Rattle.std.proofs.lemmas.List.{map-append}
use Rattle.std.proofs.lemmas.List.Elements.{filter-append, All-from_recursion}
use Rattle.std.specs.List.{All, AllByRecursion}
use Rattle.hk_base.specs.Bytes.{Bytes}
use Rattle.hk_chain.specs.declared.page.Page.{Page}
use Rattle.hk_html.specs.Relative.{links_of}
use Rattle.hk_links.specs.declared.broken.Broken.{Broken}
use Rattle.hk_links.specs.Value.{is_internal}
use Rattle.hk_links.specs.Path.{resolved}
use Rattle.hk_links.specs.Report.{Link, Report, is_tested, internal_links, page_links, site_links, is_broken, is_target, broken_of, counted, with_broken, report_on, link_report, target_at, Adds}

abbrev link_of : ℕ → Bytes → Bytes → Link
link_of number target value = record { page = number; target = target; value = value }

-- ---- one value more

pub inner_value : (number : ℕ) (target value : Bytes) → is_internal value ≡ true → internal_links number target (value ∷ []) ≡ link_of number target value ∷ []
inner_value number target value inner = rw (inner) refl

-- ---- one link more

broken-more : (targets : List Bytes) (found : List Link) (link : Link) → (report_on targets (found ++ link ∷ [])).broken ≡ (report_on targets found).broken ++ map broken_of (filter (is_broken targets) (link ∷ []))
broken-more targets found link =
    ap (map broken_of) (filter-append (is_broken targets) found (link ∷ [])) ∙ map-append broken_of (filter (is_broken targets) found) (filter (is_broken targets) (link ∷ []))

links-more : (targets : List Bytes) (found : List Link) (link : Link) → (report_on targets (found ++ link ∷ [])).links ≡ min ((report_on targets found).links + 1) (2 ^ 64 - 1)
links-more targets found link = omega (arith, length-append found (link ∷ []))

abbrev report_with : ℕ → List Broken → Report
report_with links broken = record { links = links; broken = broken }

with-fields : (report : Report) (links : ℕ) (broken : List Broken) → report.links ≡ links → report.broken ≡ broken → report ≡ record { links = links; broken = broken }
with-fields report links broken one two = ap (λ n. report_with n report.broken) one ∙ ap (λ b. report_with links b) two

-- a link that leads to a target is counted alone
pub whole_link : (targets : List Bytes) (found : List Link) (link : Link) → is_broken targets link ≡ false → report_on targets (found ++ link ∷ []) ≡ record { links = min ((report_on targets found).links + 1) (2 ^ 64 - 1); broken = (report_on targets found).broken }
whole_link targets found link whole =
    with-fields (report_on targets (found ++ link ∷ [])) _ _ (links-more targets found link) (broken-more targets found link ∙ rw (whole) (append-nil (report_on targets found).broken))

-- a broken one is counted and kept
pub broken_link : (targets : List Bytes) (found : List Link) (link : Link) → is_broken targets link ≡ true → report_on targets (found ++ link ∷ []) ≡ record { links = min ((report_on targets found).links + 1) (2 ^ 64 - 1); broken = (report_on targets found).broken ++ broken_of link ∷ [] }
broken_link targets found link broken =
    with-fields (report_on targets (found ++ link ∷ [])) _ _ (links-more targets found link) (broken-more targets found link ∙ rw (broken) refl)

-- ---- what is added

pub adds_whole : (targets : List Bytes) (number : ℕ) (target value : Bytes) (old new : Report) → is_internal value ≡ true → is_target targets (resolved target value) ≡ true → new ≡ counted old → Adds targets (internal_links number target (value ∷ [])) old new
adds_whole targets number target value old new inner leads is =
    rw (inner_value number target value inner) (λ found known. is ∙ ap counted known ∙ sym (whole_link targets found (link_of number target value) (ap not leads)))

pub adds_broken : (targets : List Bytes) (number : ℕ) (target value : Bytes) (old more new : Report) → is_internal value ≡ true → is_target targets (resolved target value) ≡ false → more ≡ counted old
    → new ≡ with_broken (record { page = number; value = value }) more → Adds targets (internal_links number target (value ∷ [])) old new
adds_broken targets number target value old more new inner lost counts is =
    rw (inner_value number target value inner) (λ found known.
    is ∙ ap (with_broken (broken_of (link_of number target value))) (counts ∙ ap counted known) ∙ sym (broken_link targets found (link_of number target value) (ap not lost)))

-- ---- one page more

pub site_more : (first place : ℕ) (targets : List Bytes) (pages : List Page) (target : Bytes) (page : Page) → place < length targets → place < length pages → site_links first (take (place + 1) targets) (take (place + 1) pages) ≡ site_links first (take place targets) (take place pages) ++ page_links (first + place) (get_or targets place target) (get_or pages place page)
site_more first place [] pages target page one two = absurd (omega arith)
site_more first place (t ∷ ts) [] target page one two = absurd (omega arith)
site_more first zero (t ∷ ts) (p ∷ ps) target page one two =
    append-nil (page_links first t p) ∙ ap (λ n. page_links n t p) (sym (add-zero first))
site_more first (suc place) (t ∷ ts) (p ∷ ps) target page one two =
    let more = site_more (first + 1) place ts ps target page (omega arith) (omega arith) in
    let number : first + 1 + place ≡ first + suc place = omega arith in
    let next : suc place + 1 ≡ suc (place + 1) = omega arith in
    rw next (ap (λ links. page_links first t p ++ links) more ∙ sym (append_assoc (page_links first t p) (site_links (first + 1) (take place ts) (take place ps)) (page_links (first + 1 + place) (get_or ts place target) (get_or ps place page))) ∙ ap (λ n. (page_links first t p ++ site_links (first + 1) (take place ts) (take place ps)) ++ page_links n (get_or ts place target) (get_or ps place page)) number)

pub site_turn : (targets : List Bytes) (pages : List Page) (place : ℕ) (page : Page) (old new : Report) → place < length targets → place < length pages → page ≡ get_or pages place page → old ≡ report_on targets (site_links 0 (take place targets) (take place pages)) → Adds targets (page_links place (target_at targets place) page) old new → new ≡ report_on targets (site_links 0 (take (place + 1) targets) (take (place + 1) pages))
site_turn targets pages place page old new one two here known adds =
    let before = site_links 0 (take place targets) (take place pages) in
    let number : place ≡ 0 + place = omega arith in
    adds before known ∙ ap (λ p. report_on targets (before ++ page_links place (target_at targets place) p)) here ∙ ap (λ n. report_on targets (before ++ page_links n (target_at targets place) (get_or pages place page))) number ∙ ap (report_on targets) (sym (site_more 0 place targets pages [] page one two))

pub site_whole : (targets : List Bytes) (pages : List Page) (count : ℕ) (report : Report) → length pages ≤ count → length targets ≤ count → report ≡ report_on targets (site_links 0 (take count targets) (take count pages)) → report ≡ link_report targets pages
site_whole targets pages count report one two known =
    known ∙ ap (λ ts. report_on targets (site_links 0 ts (take count pages))) (take_all count targets two) ∙ ap (λ ps. report_on targets (site_links 0 targets ps)) (take_all count pages one)

-- ---- the pages of a report are among the targets

abbrev IsWithin : ℕ → Broken → Type 0
IsWithin count broken = broken.page < count

abbrev AreWithin : List Bytes → ℕ → List Link → Type 0
AreWithin targets count links = AllByRecursion (IsWithin count) (map broken_of (filter (is_broken targets) links))

both-within : (count : ℕ) (xs ys : List Broken) → AllByRecursion (IsWithin count) xs → AllByRecursion (IsWithin count) ys → AllByRecursion (IsWithin count) (xs ++ ys)
both-within count [] ys one two = two
both-within count (x ∷ xs) ys one two = (one.0, both-within count xs ys one.1 two)

append-within : (targets : List Bytes) (count : ℕ) (xs ys : List Link) → AreWithin targets count xs → AreWithin targets count ys → AreWithin targets count (xs ++ ys)
append-within targets count xs ys one two =
    rw (filter-append (is_broken targets) xs ys, map-append broken_of (filter (is_broken targets) xs) (filter (is_broken targets) ys)) (both-within count _ _ one two)

link-within : (targets : List Bytes) (count : ℕ) (link : Link) (links : List Link) → link.page < count → AreWithin targets count links → AreWithin targets count (link ∷ links)
link-within targets count link links low rest =
    elim (is_broken targets link) as (λ b. AllByRecursion (IsWithin count) (map broken_of (cond b (link ∷ filter (is_broken targets) links) (filter (is_broken targets) links)))) [ true ↦ (low, rest) | false ↦ rest ]

values-within : (targets : List Bytes) (count number : ℕ) (target : Bytes) (values : List Bytes) → number < count → AreWithin targets count (internal_links number target values)
values-within targets count number target [] low = tt
values-within targets count number target (value ∷ values) low =
    elim (is_internal value) as (λ b. AreWithin targets count (map (link_of number target) (cond b (value ∷ filter is_internal values) (filter is_internal values)))) [
      | true ↦ link-within targets count (link_of number target value) (internal_links number target values) low (values-within targets count number target values low)
      | false ↦ values-within targets count number target values low
    ]

page-within : (targets : List Bytes) (count number : ℕ) (target : Bytes) (page : Page) → number < count → AreWithin targets count (page_links number target page)
page-within targets count number target page low =
    elim (is_tested target page) as (λ b. AreWithin targets count (cond b (internal_links number target (links_of page.body)) [])) [
      | true ↦ values-within targets count number target (links_of page.body) low
      | false ↦ tt
    ]

site-within : (targets : List Bytes) (count first : ℕ) (some : List Bytes) (pages : List Page) → first + length some ≤ count → AreWithin targets count (site_links first some pages)
site-within targets count first [] pages low = tt
site-within targets count first (t ∷ ts) [] low = tt
site-within targets count first (t ∷ ts) (p ∷ ps) low =
    append-within targets count (page_links first t p) (site_links (first + 1) ts ps) (page-within targets count first t p (omega arith)) (site-within targets count (first + 1) ts ps (omega arith))

pub report_within : (targets : List Bytes) (pages : List Page) → All (λ (broken : Broken). broken.page < length targets) (link_report targets pages).broken
report_within targets pages = All-from_recursion (IsWithin (length targets)) _ (site-within targets (length targets) 0 targets pages (omega arith))
