-- What is asked for by name: the page of one item, or the pages of several items at once.
use Rattle.std.specs.Prelude.{ℕ, Bool, true, false, List, [], ◌∷◌, Option, Some, None, Result, Ok, Err}
use Rattle.hk_base.specs.Bytes.{Bytes}
use Rattle.hk_base.specs.Identifier.{Ident}
use Rattle.hk_chain.specs.declared.page.Page.{Page}
use Rattle.hk_chain.specs.declared.page.Kind.{Kind}
use Rattle.hk_chain.specs.declared.page.Kind.TheVariants as kinds
use Rattle.hk_chain.specs.declared.fault.Fault.{Fault}
use Rattle.hk_chain.specs.declared.fault.Fault.TheVariants.{Missing, NoSnapshot, WrongKind}
use Rattle.hk_fix.specs.Task.{Task, gives, fails, asks, ◌▷◌}
use Rattle.hk_rules.specs.Plan.{Lookups}

abbrev pub text_page : Bytes → Page
text_page body = record { kind = kinds.Text; body = body }

-- the page that a chain begins with
abbrev pub no_bytes : Page
no_bytes = text_page []

abbrev pub first_page : List Page → Page
first_page [] = no_bytes
first_page (page ∷ pages) = page

abbrev pub ask_pair : Fault → Option ℕ → Task Page
ask_pair fault None = fails fault
ask_pair fault (Some pair) = asks (pair ∷ []) (λ pages. gives (first_page pages))

abbrev pub ask_item : Lookups → Ident → Bytes → Option ℕ → Task Page
ask_item plan id name None = fails (Missing id)
ask_item plan id name (Some item) = ask_pair (NoSnapshot id name) (plan.pair item name)

-- the page that the item with an identifier saves under a name
abbrev pub ask : Lookups → Ident → Bytes → Task Page
ask plan id name = ask_item plan id name (plan.find id)

abbrev pub with_pair : ℕ → Option ℕ → Result (List ℕ) ℕ → Result (List ℕ) ℕ
with_pair item None rest = Err item
with_pair item (Some pair) (Ok pairs) = Ok (pair ∷ pairs)
with_pair item (Some pair) (Err other) = Err other

-- the pairs of items with a name, or the first item that has none
abbrev pub pairs_of : Lookups → Bytes → List ℕ → Result (List ℕ) ℕ
pairs_of plan name [] = Ok []
pairs_of plan name (item ∷ items) = with_pair item (plan.pair item name) (pairs_of plan name items)

-- the pages of these pairs at once; no pair gives no page
abbrev pub ask_group : List ℕ → Task (List Page)
ask_group [] = gives []
ask_group (pair ∷ pairs) = asks (pair ∷ pairs) gives

abbrev pub ask_found : Lookups → Bytes → Result (List ℕ) ℕ → Task (List Page)
ask_found plan name (Ok pairs) = ask_group pairs
ask_found plan name (Err item) = fails (NoSnapshot (plan.id item) name)

-- the pages that items save under a name, as one group
abbrev pub ask_all : Lookups → Bytes → List ℕ → Task (List Page)
ask_all plan name items = ask_found plan name (pairs_of plan name items)

abbrev pub is_text : Kind → Bool
is_text kinds.Text = true
is_text kinds.Template = false
is_text kinds.File = false

abbrev pub text_if : Ident → Page → Bool → Task Page
text_if id page true = gives page
text_if id page false = fails (WrongKind id)

-- a page of the item with this identifier, which must be text
abbrev pub need_text : Ident → Page → Task Page
need_text id page = text_if id page (is_text page.kind)

-- the text that the item with an identifier saves under a name
abbrev pub ask_text : Lookups → Ident → Bytes → Task Page
ask_text plan id name = ask plan id name ▷ need_text id

abbrev pub other_by : ℕ → Bool → Option ℕ → Option ℕ
other_by item true rest = rest
other_by item false rest = Some item

-- the first of these items whose page isn't text
abbrev pub other_kind : List ℕ → List Page → Option ℕ
other_kind [] pages = None
other_kind (item ∷ items) [] = None
other_kind (item ∷ items) (page ∷ pages) = other_by item (is_text page.kind) (other_kind items pages)
