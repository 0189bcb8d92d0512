-- What is asked for, as deeds: the page of one item, or the pages of several items at once.
use Rattle.std.specs.Prelude.{Bool, true, false, List, [], ◌∷◌, map, Option, Some, None}
use Rattle.hk_base.specs.Bytes.{Bytes}
use Rattle.hk_base.specs.Identifier.{Ident}
use Rattle.hk_chain.specs.declared.page.Page.{Page}
use Rattle.hk_chain.specs.declared.fault.Fault.TheVariants.{WrongKind}
use Rattle.hk_fix.specs.Deed.{Answer, Deed, returns, refuses, asking, ◌then◌}
use Rattle.hk_fix.specs.Table.{Key}
use Rattle.hk_eval.specs.Asking.{no_bytes, is_text}

abbrev pub page_of : Answer → Page
page_of answer = answer.page

abbrev pub first_answer : List Answer → Page
first_answer [] = no_bytes
first_answer (x ∷ xs) = x.page

-- the page that the item with an identifier saves under a name
abbrev pub ask_deed : Ident → Bytes → Deed Page
ask_deed id name = asking (record { id = id; name = name } ∷ []) (λ xs. returns (first_answer xs))

abbrev pub keys_named : Bytes → List Ident → List Key
keys_named name ids = map (λ id. record { id = id; name = name }) ids

abbrev pub text_if_deed : Ident → Page → Bool → Deed Page
text_if_deed id page true = returns page
text_if_deed id page false = refuses (WrongKind id)

-- a page of the item with this identifier, which must be text
abbrev pub need_text_deed : Ident → Page → Deed Page
need_text_deed id page = text_if_deed id page (is_text page.kind)

-- the text that the item with an identifier saves under a name
abbrev pub ask_text_deed : Ident → Bytes → Deed Page
ask_text_deed id name = ask_deed id name then need_text_deed id

abbrev pub other_named_by : Ident → Bool → Option Ident → Option Ident
other_named_by id true rest = rest
other_named_by id false rest = Some id

-- the first of these items whose page isn't text
abbrev pub other_named : List Ident → List Answer → Option Ident
other_named [] xs = None
other_named (id ∷ ids) [] = None
other_named (id ∷ ids) (x ∷ xs) = other_named_by id (is_text x.page.kind) (other_named ids xs)
