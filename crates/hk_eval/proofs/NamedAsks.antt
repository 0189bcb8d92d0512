-- What is asked for by names is what is asked for by numbers.
use Rattle.std.proofs.Common.{◌≡◌, refl, ap, ◌∙◌, ℕ, ◌<◌, Bool, true, false, List, [], ◌∷◌, map, Option, Some, None, Result, Ok, Err, option_map}
use Rattle.std.proofs.Math.Path.{fun_ext}
use Rattle.std.specs.List.{AllByRecursion}
use Rattle.std.specs.Option.{option_and_then}
use Rattle.hk_base.specs.Bytes.{Bytes}
use Rattle.hk_base.specs.Identifier.{Ident}
use Rattle.hk_chain.specs.declared.fault.Fault.{Fault}
use Rattle.hk_chain.specs.declared.fault.Fault.TheVariants.{NoSnapshot}
use Rattle.hk_chain.specs.declared.page.Page.{Page}
use Rattle.hk_fix.specs.Deed.{Answer, Deed, asking, matching, answers, traits_of, ask_for, interpret}
use Rattle.hk_fix.specs.DeedLaws.{interpret-then, bind-same}
use Rattle.hk_fix.specs.Table.{Key, Traits, Table, missing_by, with_pair as with_key, resolve}
use Rattle.hk_fix.specs.Task.{Task, gives, asks, notes, used, ◌▷◌}
use Rattle.hk_rules.specs.PatternText.{text_of}
use Rattle.hk_rules.specs.Plan.{Lookups}
use Rattle.hk_eval.specs.PlanTable.{IsTableOf}
use Rattle.hk_eval.specs.Asking.{first_page, ask_pair, ask_item, ask, with_pair, pairs_of, ask_found, ask_all, is_text, text_if, need_text, ask_text, other_by, other_kind}
use Rattle.hk_eval.specs.NamedAsking.{first_answer, ask_deed, keys_named, text_if_deed, need_text_deed, ask_text_deed, other_named_by, other_named}

abbrev key_of : Ident → Bytes → Key
key_of id name = record { id = id; name = name }

module _ (plan : Lookups) (items patterns : ℕ) (table : Table) (told : IsTableOf plan items patterns table) (own : Ident) where
  -- ---- one page

  abbrev pair_by : Key → Option ℕ → Option ℕ
  pair_by key o = option_and_then (λ item. plan.pair item key.name) o

  resolve-one : (key : Key) → resolve table (key ∷ []) ≡ with_key (missing_by key (plan.find key.id)) (pair_by key (plan.find key.id)) (Ok [])
  resolve-one key =
      ap (λ o. with_key (missing_by key o) (table.pair key) (Ok [])) (told.find key.id)
      ∙ ap (λ o. with_key (missing_by key (plan.find key.id)) o (Ok [])) (told.pair key)

  answer-first : (t : Traits) (xs : List Page) → first_answer (answers xs (t ∷ [])) ≡ first_page xs
  answer-first t [] = refl
  answer-first t (x ∷ xs) = refl

  one-pair : (id : Ident) (name : Bytes) (t : Traits) (o : Option ℕ) → ask_for (with_key (NoSnapshot id name) o (Ok [])) (λ xs. gives (first_answer (answers xs (t ∷ [])))) ≡ ask_pair (NoSnapshot id name) o
  one-pair id name t None = refl
  one-pair id name t (Some p) = ap (asks (p ∷ [])) (fun_ext (λ xs. ap gives (answer-first t xs)))

  one-item : (id : Ident) (name : Bytes) (t : Traits) (o : Option ℕ) → ask_for (with_key (missing_by (key_of id name) o) (pair_by (key_of id name) o) (Ok [])) (λ xs. gives (first_answer (answers xs (t ∷ [])))) ≡ ask_item plan id name o
  one-item id name t None = refl
  one-item id name t (Some item) = one-pair id name t (plan.pair item name)

  pub ask-same : (id : Ident) (name : Bytes) → interpret table own (ask_deed id name) ≡ ask plan id name
  ask-same id name =
      ap (λ r. ask_for r (λ xs. gives (first_answer (answers xs (table.traits id ∷ []))))) (resolve-one (key_of id name))
      ∙ one-item id name (table.traits id) (plan.find id)

  pub text-same : (id : Ident) (page : Page) (b : Bool) → interpret table own (text_if_deed id page b) ≡ text_if id page b
  text-same id page true = refl
  text-same id page false = refl

  pub need-text-same : (id : Ident) (page : Page) → interpret table own (need_text_deed id page) ≡ need_text id page
  need-text-same id page = text-same id page (is_text page.kind)

  pub ask-text-same : (id : Ident) (name : Bytes) → interpret table own (ask_text_deed id name) ≡ ask_text plan id name
  ask-text-same id name =
      interpret-then table own (ask_deed id name) (need_text_deed id)
      ∙ bind-same (interpret table own (ask_deed id name)) (ask plan id name) (λ page. interpret table own (need_text_deed id page)) (need_text id) (ask-same id name) (need-text-same id)

  -- ---- several pages

  abbrev IsItem : ℕ → Type 0
  IsItem item = item < items

  abbrev ids_of : List ℕ → List Ident
  ids_of is = map plan.id is

  abbrev pub group_traits : Bytes → List ℕ → List Traits
  group_traits name is = traits_of table (keys_named name (ids_of is))

  abbrev as_fault : Bytes → Result (List ℕ) ℕ → Result (List ℕ) Fault
  as_fault name (Ok ps) = Ok ps
  as_fault name (Err item) = Err (NoSnapshot (plan.id item) name)

  fault-same : (name : Bytes) (item : ℕ) (o : Option ℕ) (r : Result (List ℕ) ℕ) → with_key (NoSnapshot (plan.id item) name) o (as_fault name r) ≡ as_fault name (with_pair item o r)
  fault-same name item None r = refl
  fault-same name item (Some p) (Ok ps) = refl
  fault-same name item (Some p) (Err other) = refl

  resolve-same : (name : Bytes) (is : List ℕ) → AllByRecursion IsItem is → resolve table (keys_named name (ids_of is)) ≡ as_fault name (pairs_of plan name is)
  resolve-same name [] h = refl
  resolve-same name (i ∷ is) h =
      let key = key_of (plan.id i) name in
      let found : table.find (plan.id i) ≡ Some i = told.find (plan.id i) ∙ told.found i h.0 in
      let pair : table.pair key ≡ plan.pair i name = told.pair key ∙ ap (pair_by key) (told.found i h.0) in
      ap (λ o. with_key (missing_by key o) (table.pair key) (resolve table (keys_named name (ids_of is)))) found
      ∙ ap (λ o. with_key (NoSnapshot (plan.id i) name) o (resolve table (keys_named name (ids_of is)))) pair
      ∙ ap (with_key (NoSnapshot (plan.id i) name) (plan.pair i name)) (resolve-same name is h.1)
      ∙ fault-same name i (plan.pair i name) (pairs_of plan name is)

  module _ {B : Type 0} where
    found-same : (name : Bytes) (h g : List Page → Task B) → ((xs : List Page) → h xs ≡ g xs) → (r : Result (List ℕ) ℕ) → ask_for (as_fault name r) h ≡ ask_found plan name r ▷ g
    found-same name h g same (Err item) = refl
    found-same name h g same (Ok []) = same []
    found-same name h g same (Ok (p ∷ ps)) = ap (asks (p ∷ ps)) (fun_ext same)

    -- a group, and what follows it
    pub group-same : (name : Bytes) (is : List ℕ) → AllByRecursion IsItem is → (f : List Answer → Deed B) (g : List Page → Task B) → ((xs : List Page) → interpret table own (f (answers xs (group_traits name is))) ≡ g xs) → interpret table own (asking (keys_named name (ids_of is)) f) ≡ ask_all plan name is ▷ g
    group-same name is h f g same =
        ap (λ r. ask_for r (λ xs. interpret table own (f (answers xs (group_traits name is))))) (resolve-same name is h)
        ∙ found-same name (λ xs. interpret table own (f (answers xs (group_traits name is)))) g same (pairs_of plan name is)

    -- the items that a pattern matches, and what follows
    pub match-same : (n : ℕ) → n < patterns → (f : List Ident → Deed B) (t : Task B) → interpret table own (f (ids_of (plan.matches n))) ≡ t → interpret table own (matching (text_of (plan.pattern n)) f) ≡ notes (used n) t
    match-same n lt f t e =
        ap (λ m. notes (used m) (interpret table own (f (table.matches (text_of (plan.pattern n)))))) (told.number n lt)
        ∙ ap (λ ids. notes (used n) (interpret table own (f ids))) (told.matches n lt)
        ∙ ap (notes (used n)) e

  kind-same : (item : ℕ) (b : Bool) (o : Option ℕ) → other_named_by (plan.id item) b (option_map plan.id o) ≡ option_map plan.id (other_by item b o)
  kind-same item true o = refl
  kind-same item false o = refl

  pub other-same : (is : List ℕ) (xs : List Page) (ts : List Traits) → other_named (ids_of is) (answers xs ts) ≡ option_map plan.id (other_kind is xs)
  other-same [] xs ts = refl
  other-same (i ∷ is) [] ts = refl
  other-same (i ∷ is) (x ∷ xs) [] = ap (other_named_by (plan.id i) (is_text x.kind)) (other-same is xs []) ∙ kind-same i (is_text x.kind) (other_kind is xs)
  other-same (i ∷ is) (x ∷ xs) (t ∷ ts) = ap (other_named_by (plan.id i) (is_text x.kind)) (other-same is xs ts) ∙ kind-same i (is_text x.kind) (other_kind is xs)
