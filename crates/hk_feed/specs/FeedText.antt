-- The text of a feed. Each line ends with LF.
use Rattle.std.specs.Prelude.{ℕ, List, [], ◌∷◌, ◌++◌, Option, Some, None, codes, map}
use Rattle.std.specs.List.{flat_map}
use Rattle.std.specs.Option.{unwrap_or}
use Rattle.hk_base.specs.Bytes.{Bytes}
use Rattle.hk_fix.specs.Pages.{Pages}
use Rattle.hk_html.specs.Url.{url_of}
use Rattle.hk_meta.specs.DateFormat.{format_date}
use Rattle.hk_meta.specs.declared.date.Moment.{Moment}
use Rattle.hk_rules.specs.Plan.{Lookups}
use Rattle.hk_feed.specs.Entries.{Entry, entries}
use Rattle.hk_feed.specs.Members.{date_at}
use Rattle.hk_feed.specs.Titles.{title_at}
use Rattle.hk_feed.specs.Xml.{xml}
use Rattle.hk_rules_file.specs.declared.tables.FeedKind.{FeedKind}
use Rattle.hk_rules_file.specs.declared.tables.FeedKind.TheVariants.{Atom, Rss}
use Rattle.hk_rules_file.specs.declared.tables.FeedRule.{FeedRule}

-- a value between two marks
abbrev pub element : Bytes → Bytes → Bytes → Bytes
element open_mark value close_mark = open_mark ++ (xml value ++ close_mark)

-- the root and the URL of a target
abbrev pub link_to : Bytes → Bytes → Bytes
link_to root target = root ++ url_of target

-- the root and the URL of an item's target
abbrev pub link_of : Lookups → Bytes → ℕ → Bytes
link_of plan root item = link_to root (unwrap_or (plan.target_of item) [])

abbrev pub date_by : Bytes → Option Moment → Bytes
date_by pattern None = []
date_by pattern (Some date) = format_date date pattern

-- the date of an item, printed
abbrev pub date_text : Lookups → Bytes → ℕ → Bytes
date_text plan pattern item = date_by pattern (date_at plan item)

abbrev pub first_line : Bytes
first_line = codes "<?xml version=\"1.0\" encoding=\"utf-8\"?>\n"

abbrev pub title_line : Bytes → Bytes
title_line title = element (codes "<title>") title (codes "</title>\n")

abbrev pub slash_after : Bytes → Bytes
slash_after root = root ++ codes "/"

-- ---- Atom

abbrev pub atom_dates : Bytes
atom_dates = codes "%Y-%m-%dT%H:%M:%SZ"

abbrev pub email_text : Option Bytes → Bytes
email_text None = []
email_text (Some email) = element (codes "<email>") email (codes "</email>")

abbrev pub author_line : FeedRule → Bytes
author_line feed = element (codes "<author><name>") feed.author (codes "</name>") ++ (email_text feed.email ++ codes "</author>\n")

-- when the first entry was written, or else when time began
abbrev pub updated : Lookups → List Entry → Bytes
updated plan [] = codes "1970-01-01T00:00:00Z"
updated plan (first ∷ others) = date_text plan atom_dates first.item

abbrev pub updated_line : Bytes → Bytes
updated_line date = element (codes "<updated>") date (codes "</updated>\n")

abbrev pub href_line : Bytes → Bytes
href_line link = element (codes "<link href=\"") link (codes "\"/>\n")

abbrev pub id_line : Bytes → Bytes
id_line link = element (codes "<id>") link (codes "</id>\n")

abbrev pub self_lines : Bytes → Bytes → Bytes
self_lines root itself =
    element (codes "<link href=\"") itself (codes "\" rel=\"self\"/>\n")
    ++ (href_line (slash_after root) ++ id_line itself)

abbrev pub subtitle_line : Bytes → Bytes
subtitle_line text = element (codes "<subtitle>") text (codes "</subtitle>\n")

abbrev pub atom_head : FeedRule → Bytes
atom_head feed =
    title_line feed.title
    ++ (subtitle_line feed.description ++ (self_lines feed.root (link_to feed.root feed.target) ++ author_line feed))

abbrev pub atom_links : Bytes → Bytes
atom_links link = href_line link ++ id_line link

-- the body of the page, and the end of the entry
abbrev pub content_lines : Entry → Bytes
content_lines entry = element (codes "<content type=\"html\">") entry.page.body (codes "</content>\n</entry>\n")

abbrev pub entry_start : Bytes
entry_start = codes "<entry>\n"

abbrev pub atom_entry : Lookups → Bytes → Entry → Bytes
atom_entry plan root entry =
    entry_start ++ (title_line (title_at plan entry.item) ++ (atom_links (link_of plan root entry.item)
    ++ (updated_line (date_text plan atom_dates entry.item) ++ content_lines entry)))

abbrev pub atom_start : Bytes
atom_start = codes "<feed xmlns=\"http://www.w3.org/2005/Atom\">\n"

abbrev pub atom_end : Bytes
atom_end = codes "</feed>\n"

abbrev pub atom_text : Lookups → FeedRule → List Entry → Bytes
atom_text plan feed own =
    atom_start ++ (atom_head feed ++ (updated_line (updated plan own)
    ++ (flat_map (atom_entry plan feed.root) own ++ atom_end)))

-- ---- RSS

abbrev pub rss_dates : Bytes
rss_dates = codes "%a, %d %b %Y %H:%M:%S"

abbrev pub link_line : Bytes → Bytes
link_line link = element (codes "<link>") link (codes "</link>\n")

abbrev pub description_line : Bytes → Bytes
description_line text = element (codes "<description>") text (codes "</description>\n")

abbrev pub rss_head : FeedRule → Bytes
rss_head feed =
    title_line feed.title
    ++ (link_line (slash_after feed.root) ++ description_line feed.description)

abbrev pub rss_links : Bytes → Bytes
rss_links link = link_line link ++ element (codes "<guid>") link (codes "</guid>\n")

abbrev pub date_line : Bytes → Bytes
date_line date = element (codes "<pubDate>") date (codes " GMT</pubDate>\n")

-- the body of the page, and the end of the item
abbrev pub body_lines : Entry → Bytes
body_lines entry = element (codes "<description>") entry.page.body (codes "</description>\n</item>\n")

abbrev pub item_start : Bytes
item_start = codes "<item>\n"

abbrev pub rss_item : Lookups → Bytes → Entry → Bytes
rss_item plan root entry =
    item_start ++ (title_line (title_at plan entry.item) ++ (rss_links (link_of plan root entry.item)
    ++ (date_line (date_text plan rss_dates entry.item) ++ body_lines entry)))

abbrev pub rss_start : Bytes
rss_start = codes "<rss version=\"2.0\"><channel>\n"

abbrev pub rss_end : Bytes
rss_end = codes "</channel></rss>\n"

abbrev pub rss_text : Lookups → FeedRule → List Entry → Bytes
rss_text plan feed own =
    rss_start ++ (rss_head feed ++ (flat_map (rss_item plan feed.root) own ++ rss_end))

abbrev pub text_of_kind : Lookups → FeedRule → List Entry → FeedKind → Bytes
text_of_kind plan feed own Atom = atom_text plan feed own
text_of_kind plan feed own Rss = rss_text plan feed own

-- the text of a feed with these entries
unfoldable pub text_of : Lookups → FeedRule → List Entry → Bytes
text_of plan feed own = first_line ++ text_of_kind plan feed own feed.kind

-- the text of a feed, by the pages that are known
unfoldable pub feed_text : Lookups → Pages → FeedRule → Bytes
feed_text plan pages feed = text_of plan feed (entries plan pages feed)

-- the target of a feed with its text
abbrev pub feed_file : Lookups → Pages → FeedRule → Bytes × Bytes
feed_file plan pages feed = (feed.target, feed_text plan pages feed)

-- the target of each feed with its text, in the order of the feeds
abbrev pub feed_files : Lookups → Pages → List FeedRule → List (Bytes × Bytes)
feed_files plan pages feeds = map (feed_file plan pages) feeds
