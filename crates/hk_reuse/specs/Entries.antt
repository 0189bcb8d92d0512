-- The entries of a store by identifiers, and the marks of an entry.
use Rattle.std.specs.Prelude.{◌≡◌, cond, List, [], ◌∷◌, ◌++◌, map, Option, Some, None}
use Rattle.std.specs.List.{IsDistinct}
use Rattle.std.specs.Ordering.{eq_by_cmp}
use Rattle.hk_base.specs.Bytes.{Bytes}
use Rattle.hk_base.specs.Identifier.{Ident, ident_cmp}
use Rattle.hk_chain.specs.declared.page.Page.{Page}
use Rattle.hk_chain.specs.declared.page.Kind.TheVariants as kinds
use Rattle.hk_fix.specs.Table.{same_key}
use Rattle.hk_store.specs.Entry.{AskView, MarkView, asked, stored, EntryView}

abbrev pub Entries : Type 0
Entries = Ident → Option EntryView

abbrev pub no_entries : Entries
no_entries id = None

-- the first entry with an identifier
abbrev pub entries_in : List EntryView → Entries
entries_in [] id = None
entries_in (e ∷ es) id = cond (eq_by_cmp ident_cmp id e.id) (Some e) (entries_in es id)

-- all marks but the last
abbrev pub front : List MarkView → List MarkView
front [] = []
front (m ∷ []) = []
front (m ∷ n ∷ marks) = m ∷ front (n ∷ marks)

abbrev pub blank_page : Page
blank_page = record { kind = kinds.Text; body = [] }

abbrev pub page_of_mark : MarkView → Page
page_of_mark (asked views) = blank_page
page_of_mark (stored name page) = page

-- the page of the last mark: the finished page
abbrev pub last_page : List MarkView → Page
last_page [] = blank_page
last_page (m ∷ []) = page_of_mark m
last_page (m ∷ n ∷ marks) = last_page (n ∷ marks)

-- the asked pages, in order
abbrev pub asked_views : List MarkView → List AskView
asked_views [] = []
asked_views (asked views ∷ marks) = views ++ asked_views marks
asked_views (stored name page ∷ marks) = asked_views marks

-- the names of the saved pages, in order
abbrev pub saved_names : List MarkView → List Bytes
saved_names [] = []
saved_names (asked views ∷ marks) = saved_names marks
saved_names (stored name page ∷ marks) = name ∷ saved_names marks

-- no group asks for a page twice
abbrev pub AskOnce : List MarkView → Type 0
AskOnce [] = Unit {0}
AskOnce (asked views ∷ marks) = IsDistinct same_key (map (λ v. v.key) views) × AskOnce marks
AskOnce (stored name page ∷ marks) = AskOnce marks

abbrev pub IsSave : MarkView → Type 0
IsSave (asked views) = ⊥
IsSave (stored name page) = Unit {0}

-- the last mark is a save
abbrev pub LastSaves : List MarkView → Type 0
LastSaves [] = ⊥
LastSaves (m ∷ []) = IsSave m
LastSaves (m ∷ n ∷ marks) = LastSaves (n ∷ marks)

-- what every entry of a store is like, whatever build wrote it
pub record IsFormed (entry : EntryView) : Type 0 where
  pub once : AskOnce entry.marks
  pub last : LastSaves entry.marks

abbrev pub AreFormed : Entries → Type 0
AreFormed entries = (id : Ident) (e : EntryView) → entries id ≡ Some e → IsFormed e
