-- The text of a store: what a build leaves, in the second version of the format.
use Rattle.std.specs.Prelude.{List, ◌++◌, codes}
use Rattle.hk_base.specs.Bytes.{Bytes}
use Rattle.hk_chain.specs.declared.page.Kind.{Kind}
use Rattle.hk_chain.specs.declared.page.Kind.TheVariants as kinds
use Rattle.hk_chain.specs.declared.page.Page.{Page}
use Rattle.hk_forms.specs.PatternText.{str, ident_text}
use Rattle.hex.specs.Hex.{encode_lower}
use Rattle.sha2.specs.Sha256.{sha256}
use Rattle.hk_store.specs.Entry.{AskView, MatchView, MarkView, asked, stored, EntryView}
use Rattle.hk_store.specs.Told.{many}

-- a digest: its bytes as hexadecimal digits on a line
abbrev pub digest_text : Bytes → Bytes
digest_text digest = encode_lower digest ++ codes "\n"

abbrev pub kind_text : Kind → Bytes
kind_text kinds.Text = codes "T\n"
kind_text kinds.Template = codes "M\n"
kind_text kinds.File = codes "F\n"

abbrev pub page_text : Page → Bytes
page_text page = kind_text page.kind ++ str page.body

abbrev pub ask_text : AskView → Bytes
ask_text ask = ident_text ask.key.id ++ (str ask.key.name ++ (digest_text ask.page ++ digest_text ask.traits))

abbrev pub match_text : MatchView → Bytes
match_text match = str match.text ++ many ident_text match.matches

abbrev pub mark_text : MarkView → Bytes
mark_text (asked asks) = codes "a\n" ++ many ask_text asks
mark_text (stored name page) = codes "s\n" ++ (str name ++ page_text page)

abbrev pub entry_text : EntryView → Bytes
entry_text entry = ident_text entry.id ++ (digest_text entry.print ++ (many match_text entry.patterns ++ many mark_text entry.marks))

-- the first line of a store, and that of the version before
abbrev pub first_line : Bytes
first_line = codes "hkstore 2\n"

abbrev pub old_line : Bytes
old_line = codes "hkstore 1\n"

abbrev pub store_text : List EntryView → Bytes
store_text entries = first_line ++ many entry_text entries

-- a text with its trailer, the digest of all before
abbrev pub sealed : Bytes → Bytes
sealed text = text ++ sha256 text
