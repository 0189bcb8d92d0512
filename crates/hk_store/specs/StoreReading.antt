-- The fields of a store's text, in order, and what is wanted of each.
use Rattle.std.specs.Prelude.{◌≡◌, ℕ, ◌+◌, ◌==◌, ◌<◌, Bool, true, false, List, [], ◌++◌, length, Option, Some, None, ◌-◌, codes, bytes_eq}
use Rattle.std.specs.List.{list_any, slice_get}
use Rattle.std.specs.Ordering.{is_lt}
use Rattle.hk_base.specs.Bytes.{Bytes}
use Rattle.hk_base.specs.Identifier.{Ident, ident_cmp}
use Rattle.hk_fix.specs.Table.{Key, same_key}
use Rattle.hk_forms.specs.PatternText.{num, str, ident_text}
use Rattle.hk_store.specs.Entry.{AskView, MatchView, MarkView, asked, stored, EntryView}
use Rattle.hk_store.specs.Reading.{Outcome, field, after, given, each, ends}
use Rattle.hk_store.specs.Stored.{is_page_name, keys_of_asks, asked_keys, saved_names, ids_of, IsDigest, HeldId}
use Rattle.hk_chain.specs.Names.{final_name}
use Rattle.hk_store.specs.StoreText.{digest_text, page_text, first_line}
use Rattle.hk_store.specs.Told.{Small, Any}

abbrev pub a_count : Bytes → Outcome ℕ → Type 0
a_count = field num Small

abbrev pub some_count : Bytes → Outcome ℕ → Type 0
some_count = field num (λ n. Small n × (0 < n))

abbrev pub a_digest : Bytes → Outcome Bytes → Type 0
a_digest = field digest_text IsDigest

-- an identifier above the last one
abbrev pub is_above : Option Ident → Ident → Bool
is_above None id = true
is_above (Some last) id = is_lt (ident_cmp last id)

abbrev pub an_id_above : Option Ident → Bytes → Outcome Ident → Type 0
an_id_above last = field ident_text (λ id. HeldId id × (is_above last id ≡ true))

abbrev pub last_of : List Ident → Option Ident
last_of ids = slice_get ids (length ids - 1)

abbrev pub an_id_after : List Ident → Bytes → Outcome Ident → Type 0
an_id_after before = an_id_above (last_of before)

abbrev pub a_match : Bytes → Outcome MatchView → Type 0
a_match = after (field str Any) (λ text. after a_count (λ n. after (each n an_id_after []) (λ ids. given (record { text = text; matches = ids }))))

-- an ask for a page that isn't among those asked for so far
abbrev pub key_by : Ident → Bytes → Key
key_by id name = record { id = id; name = name }

abbrev pub a_key : List Key → Bytes → Outcome Key → Type 0
a_key earlier =
    after (field ident_text HeldId) (λ id.
    after (field str (λ name. (is_page_name name ≡ true) × (list_any (same_key (key_by id name)) earlier ≡ false))) (λ name. given (key_by id name)))

abbrev pub an_ask : List Key → Bytes → Outcome AskView → Type 0
an_ask earlier =
    after (a_key earlier) (λ key. after a_digest (λ page. after a_digest (λ traits. given (record { key = key; page = page; traits = traits }))))

-- a group, or a save under a name that isn't among those before; the last mark is the save of the finished page
abbrev pub letter_text : Bool → Bytes
letter_text true = codes "a\n"
letter_text false = codes "s\n"

abbrev pub a_group : List MarkView → Bytes → Outcome MarkView → Type 0
a_group before = after some_count (λ n. after (each n (λ group. an_ask (asked_keys before ++ keys_of_asks group)) []) (λ asks. given (asked asks)))

abbrev pub is_save_name : Bool → Bytes → Bool
is_save_name true name = bytes_eq name final_name
is_save_name false name = is_page_name name

abbrev pub FitsName : Bool → List MarkView → Bytes → Type 0
FitsName last before name = (is_save_name last name ≡ true) × (list_any (bytes_eq name) (saved_names before) ≡ false)

abbrev pub a_save : Bool → List MarkView → Bytes → Outcome MarkView → Type 0
a_save last before = after (field str (FitsName last before)) (λ name. after (field page_text Any) (λ page. given (stored name page)))

abbrev pub a_mark_by : Bool → Bool → List MarkView → Bytes → Outcome MarkView → Type 0
a_mark_by true last before = a_group before
a_mark_by false last before = a_save last before

abbrev pub a_letter : Bool → Bytes → Outcome Bool → Type 0
a_letter last = field letter_text (λ group. last ≡ true → group ≡ false)

abbrev pub a_mark_of : Bool → List MarkView → Bytes → Outcome MarkView → Type 0
a_mark_of last before = after (a_letter last) (λ group. a_mark_by group last before)

abbrev pub a_mark : ℕ → List MarkView → Bytes → Outcome MarkView → Type 0
a_mark count before = a_mark_of (length before + 1 == count) before

abbrev pub an_entry_above : Option Ident → Bytes → Outcome EntryView → Type 0
an_entry_above last =
    after (an_id_above last) (λ id.
    after a_digest (λ print.
    after a_count (λ n.
    after (each n (λ earlier. a_match) []) (λ patterns.
    after some_count (λ count.
    after (each count (a_mark count) []) (λ marks.
    given (record { id = id; print = print; patterns = patterns; marks = marks })))))))

abbrev pub an_entry : List EntryView → Bytes → Outcome EntryView → Type 0
an_entry before = an_entry_above (last_of (ids_of before))

abbrev pub a_store : Bytes → Outcome (List EntryView) → Type 0
a_store =
    after (field (λ (u : Unit {0}). first_line) Any) (λ u.
    after a_count (λ n.
    after (each n an_entry []) (λ entries.
    after ends (λ u. given entries))))
