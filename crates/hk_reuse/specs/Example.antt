-- Two items, the second of which loads the first.
use Rattle.std.specs.Prelude.{ℕ, cond, List, [], ◌∷◌, Option, Some, None, nat_eq, bytes_eq}
use Rattle.std.specs.Ordering.{eq_by_cmp}
use Rattle.hk_base.specs.Bytes.{Bytes}
use Rattle.hk_base.specs.Identifier.{Ident, ident_cmp}
use Rattle.hk_chain.specs.declared.page.Page.{Page}
use Rattle.hk_chain.specs.declared.page.Kind.{Kind}
use Rattle.hk_chain.specs.declared.page.Kind.TheVariants as kinds
use Rattle.hk_fix.specs.Deed.{Answer, Deed, returns, asking}
use Rattle.hk_fix.specs.Table.{Key, no_traits, Table}
use Rattle.hk_store.specs.Digests.{Digests}
use Rattle.hk_reuse.specs.Entries.{Entries, blank_page}
use Rattle.hk_reuse.specs.Image.{image}
use Rattle.hk_reuse.specs.Site.{Site}
use Rattle.hk_chain.specs.Names.{final_name}

abbrev pub first_id : Ident
first_id = record { path = 97 ∷ []; version = None }

abbrev pub second_id : Ident
second_id = record { path = 98 ∷ []; version = None }

abbrev pub id_at : ℕ → Ident
id_at i = cond (nat_eq i 0) first_id second_id

abbrev pub find : Ident → Option ℕ
find id = cond (eq_by_cmp ident_cmp id first_id) (Some 0) (cond (eq_by_cmp ident_cmp id second_id) (Some 1) None)

abbrev pub pair_of : Key → Option ℕ
pair_of key = cond (bytes_eq key.name final_name) (find key.id) None

-- each item has one pair, that of its finished page
abbrev pub table : Table
table =
    record {
      layout = record { items = 2; pair_item = 0 ∷ 1 ∷ []; final_pair = 0 ∷ 1 ∷ [] };
      find = find;
      traits = λ id. no_traits;
      pair = pair_of;
      key = λ p. record { id = id_at p; name = final_name };
      number = λ by. 0;
      pattern = λ n. [];
      matches = λ by. [];
    }

abbrev pub text_page : Bytes → Page
text_page body = record { kind = kinds.Text; body = body }

abbrev pub loaded : List Answer → Deed Page
loaded [] = returns blank_page
loaded (answer ∷ answers) = returns answer.page

abbrev pub load : Ident → Deed Page
load id = asking (record { id = id; name = final_name } ∷ []) loaded

-- what an item does by its text: without any it loads the other item, else it makes a page of all but the first byte
abbrev pub deed_at : ℕ → Bytes → Deed Page
deed_at i [] = load (cond (nat_eq i 0) second_id first_id)
deed_at i (byte ∷ body) = returns (text_page body)

abbrev pub text_at : Bytes → ℕ → Bytes
text_at first i = cond (nat_eq i 0) first []

-- by the text of the first item
abbrev pub site : Bytes → Site
site first = record { deeds = record { table = table; id = id_at; deed = λ i. deed_at i (text_at first i); names = λ i. [] }; patterns = 0; text = text_at first }

abbrev pub kind_code : Kind → ℕ
kind_code kinds.Text = 0
kind_code kinds.Template = 1
kind_code kinds.File = 2

-- stand-ins that tell all
abbrev pub digests : Digests
digests = record { text = λ text. text; page = λ page. kind_code page.kind ∷ page.body; traits = λ traits. [] }

-- a page by one of two recipes, and another page
abbrev pub page_text : Bytes
page_text = 49 ∷ 120 ∷ []

abbrev pub same_page_text : Bytes
same_page_text = 50 ∷ 120 ∷ []

abbrev pub other_page_text : Bytes
other_page_text = 49 ∷ 121 ∷ []

-- what a build of the first recipe leaves
abbrev pub entries : Entries
entries = image digests (site page_text)
