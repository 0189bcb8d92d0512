-- What entries have to have that a store is printed of them.
use Rattle.std.specs.Prelude.{◌≡◌, ◌<◌, Bool, true, ◌||◌, List, [], ◌∷◌, ◌++◌, length, map, None, bytes_eq}
use Rattle.std.specs.List.{AllByRecursion, IsDistinct}
use Rattle.std.specs.List.Sorted.{IsStrictlySortedBy}
use Rattle.hex.specs.Hex.{IsBytes}
use Rattle.hk_base.specs.Bytes.{Bytes}
use Rattle.hk_base.specs.Identifier.{Ident, ident_cmp, ident_fault}
use Rattle.hk_chain.specs.Names.{final_name}
use Rattle.hk_chain.specs.declared.page.Page.{Page}
use Rattle.hk_fix.specs.Table.{Key, same_key}
use Rattle.hk_forms.specs.Names.{is_snapshot_name}
use Rattle.hk_store.specs.Entry.{AskView, MatchView, MarkView, asked, stored, EntryView}

-- the names of all pages
abbrev pub is_page_name : Bytes → Bool
is_page_name name = is_snapshot_name name || bytes_eq name final_name

-- ---- what the caller sees to

-- what an entry asked for and the names that it saved, in order
abbrev pub keys_of_asks : List AskView → List Key
keys_of_asks asks = map (λ ask. ask.key) asks

abbrev pub asked_keys : List MarkView → List Key
asked_keys [] = []
asked_keys (asked asks ∷ marks) = keys_of_asks asks ++ asked_keys marks
asked_keys (stored name page ∷ marks) = asked_keys marks

abbrev pub saved_names : List MarkView → List Bytes
saved_names [] = []
saved_names (asked asks ∷ marks) = saved_names marks
saved_names (stored name page ∷ marks) = name ∷ saved_names marks

-- a group asks for at least one page, and names are those of pages
abbrev pub IsMark : MarkView → Type 0
IsMark (asked asks) = (0 < length asks) × AllByRecursion (λ ask. is_page_name ask.key.name ≡ true) asks
IsMark (stored name page) = is_page_name name ≡ true

-- matches ascend, no page is asked for twice, no name saved twice, and the last mark is the save of the finished page
pub record IsEntry (entry : EntryView) : Type 0 where
  pub patterns : AllByRecursion (λ match. IsStrictlySortedBy ident_cmp match.matches) entry.patterns
  pub marks : AllByRecursion IsMark entry.marks
  pub asks : IsDistinct same_key (asked_keys entry.marks)
  pub saves : IsDistinct bytes_eq (saved_names entry.marks)
  pub last : (front : List MarkView) × (page : Page) × (entry.marks ≡ front ++ stored final_name page ∷ [])

abbrev pub ids_of : List EntryView → List Ident
ids_of entries = map (λ entry. entry.id) entries

-- the identifiers ascend
pub record IsStored (entries : List EntryView) : Type 0 where
  pub order : IsStrictlySortedBy ident_cmp (ids_of entries)
  pub each : AllByRecursion IsEntry entries

-- ---- what each value in memory has: identifiers within their limits, and digests of 32 bytes

abbrev pub IsDigest : Bytes → Type 0
IsDigest digest = (length digest ≡ 32) × IsBytes digest

abbrev pub HeldId : Ident → Type 0
HeldId id = ident_fault id.path id.version ≡ None

abbrev pub HeldAsk : AskView → Type 0
HeldAsk ask = HeldId ask.key.id × (IsDigest ask.page × IsDigest ask.traits)

abbrev pub HeldMatch : MatchView → Type 0
HeldMatch match = AllByRecursion HeldId match.matches

abbrev pub HeldMark : MarkView → Type 0
HeldMark (asked asks) = AllByRecursion HeldAsk asks
HeldMark (stored name page) = Unit {0}

abbrev pub HeldEntry : EntryView → Type 0
HeldEntry entry = HeldId entry.id × (IsDigest entry.print × (AllByRecursion HeldMatch entry.patterns × AllByRecursion HeldMark entry.marks))

abbrev pub AreHeld : List EntryView → Type 0
AreHeld entries = AllByRecursion HeldEntry entries
