-- Fields that are read have numbers in range, and dates' patterns of their form.
use Rattle.std.proofs.Common.{◌≡◌, ℕ, ◌≤◌, Bool, true, false, cond, ◌&&◌, List, [], ◌∷◌, length, Option, Some, None, IfSome, refl, arith, ℤ, pos, negsuc}
use Rattle.std.specs.Prelude.{bytes_eq, codes, nat_le, option_map, option_and_then}
use Rattle.std.specs.List.{AllByRecursion}
use borrow.Author.Tests.{leb-true}
use Rattle.toml.specs.Data.{Data, Items, Members, as_str, as_array, as_table, as_bool, as_integer, get_member}
use Rattle.hk_base.specs.Bytes.{Bytes}
use Rattle.hk_base.proofs.Both.{left-part, right-part}
use Rattle.hk_chain.specs.declared.context.Field.{Field}
use Rattle.hk_chain.specs.declared.context.Field.TheVariants.{Body, Metadata, Url, Path, Title, Const, Date, Bool as BoolField, Teaser, List as ListField}
use Rattle.hk_chain.specs.declared.context.Order.{Order}
use Rattle.hk_chain.specs.declared.context.Order.TheVariants.{Id}
use Rattle.hk_pattern.specs.declared.pattern.Pattern.{Pattern}
use Rattle.hk_steps.specs.FieldForm.{word_field, const_by, date_by, flag_by, teaser_by, key_by, date_pattern_by, paired, keyed_by, count_by, count_of, limit_or_none, snapshot_or_final, order_or, several, list_in, list_by, list_of, is_list_key, in_table, table_by, field_by, field_of, width, most_fields, not_wide, fits_context, fields_by, fields_at, context_fields}
use Rattle.hk_rules_file.specs.Linked.{IsCount, IsLinkedField}
use Rattle.hk_rules_file.specs.Linking.{default_fields, list_field, link_field, link_fields, next_field}
use Rattle.hk_meta.specs.DatePattern.{pattern_ok}
use Rattle.hk_forms.specs.Members.{each, fits, only, two, count_items, keys_pass}
use Rattle.hk_rules_file.specs.Numbering.{place_of, numbered}
use Rattle.hk_forms.specs.PatternForm.{pattern_of}
use Rattle.hk_steps.specs.StepForm.{context_by, snapshot_by}
use Rattle.hk_steps.specs.declared.draft.DraftField.{DraftField}
use Rattle.hk_steps.specs.declared.draft.DraftField.TheVariants.{Default, Whole, Several}
use Rattle.hk_rules_file.proofs.LinkedNumbers.{all-push, all-append, all-weaken, place_of-below, Below, IsGrown, grown-same, grown-more, numbered-grown, numbered-below}
use Rattle.hk_rules_file.proofs.LinkedSteps.{Holds, holds-either, holds-each}

-- ---- fields as they are read

abbrev IsPlainField : Field → Type 0
IsPlainField (Date key pattern) = pattern_ok pattern ≡ true
IsPlainField (ListField key of snapshot order limit context) = ⊥
IsPlainField _ = Unit {0}

abbrev IsLimit : Option ℕ → Type 0
IsLimit limit = IfSome limit IsCount

abbrev pub IsReadyField : DraftField → Type 0
IsReadyField Default = Unit {0}
IsReadyField (Whole field) = IsPlainField field
IsReadyField (Several key of snapshot order limit context) = IsLimit limit

word_field-ready : (word : Bytes) → Holds IsReadyField (word_field word)
word_field-ready word =
    holds-either IsReadyField (bytes_eq word (codes "default")) (Some Default) _ tt
    (holds-either IsReadyField (bytes_eq word (codes "body")) (Some (Whole Body)) _ tt
    (holds-either IsReadyField (bytes_eq word (codes "metadata")) (Some (Whole Metadata)) _ tt
    (holds-either IsReadyField (bytes_eq word (codes "url")) (Some (Whole Url)) _ tt
    (holds-either IsReadyField (bytes_eq word (codes "path")) (Some (Whole Path)) _ tt
    (holds-either IsReadyField (bytes_eq word (codes "title")) (Some (Whole Title)) None tt tt)))))

const-ready : (key text : Option Bytes) → Holds IsReadyField (const_by key text)
const-ready None text = tt
const-ready (Some key) None = tt
const-ready (Some key) (Some text) = tt

pattern-dated : (text : Option Bytes) → Holds (λ pattern. pattern_ok pattern ≡ true) (date_pattern_by text)
pattern-dated None = tt
pattern-dated (Some text) = elim (pattern_ok text) as (λ b. pattern_ok text ≡ b → Holds (λ pattern. pattern_ok pattern ≡ true) (cond b (Some text) None)) [
  | true ↦ λ e. e
  | false ↦ λ e. tt
] refl

date-ready : (key pattern : Option Bytes) → Holds (λ text. pattern_ok text ≡ true) pattern → Holds IsReadyField (date_by key pattern)
date-ready None pattern h = tt
date-ready (Some key) None h = tt
date-ready (Some key) (Some pattern) h = h

flag-ready : (key : Option Bytes) (flag : Option Bool) → Holds IsReadyField (flag_by key flag)
flag-ready None flag = tt
flag-ready (Some key) None = tt
flag-ready (Some key) (Some flag) = tt

teaser-ready : (key snapshot : Option Bytes) → Holds IsReadyField (teaser_by key snapshot)
teaser-ready None snapshot = tt
teaser-ready (Some key) None = tt
teaser-ready (Some key) (Some snapshot) = tt

paired-ready : (word : Bytes) (p : Data × Data) → Holds IsReadyField (paired word p)
paired-ready word p =
    holds-either IsReadyField (bytes_eq word (codes "const")) (const_by (key_by (as_str p.0)) (as_str p.1)) _ (const-ready (key_by (as_str p.0)) (as_str p.1))
    (holds-either IsReadyField (bytes_eq word (codes "date")) (date_by (key_by (as_str p.0)) (date_pattern_by (as_str p.1))) _ (date-ready (key_by (as_str p.0)) (date_pattern_by (as_str p.1)) (pattern-dated (as_str p.1)))
    (holds-either IsReadyField (bytes_eq word (codes "bool")) (flag_by (key_by (as_str p.0)) (as_bool p.1)) _ (flag-ready (key_by (as_str p.0)) (as_bool p.1))
    (holds-either IsReadyField (bytes_eq word (codes "teaser")) (teaser_by (key_by (as_str p.0)) (snapshot_by (as_str p.1))) None (teaser-ready (key_by (as_str p.0)) (snapshot_by (as_str p.1))) tt)))

keyed_by-ready : (word : Bytes) (p : Option (Data × Data)) → Holds IsReadyField (keyed_by word p)
keyed_by-ready word None = tt
keyed_by-ready word (Some p) = paired-ready word p

count_by-within : (z : Option ℤ) → Holds IsCount (count_by z)
count_by-within None = tt
count_by-within (Some (negsuc n)) = tt
count_by-within (Some (pos n)) = elim (nat_le 1 n && nat_le n 65535) as (λ b. (nat_le 1 n && nat_le n 65535) ≡ b → Holds IsCount (cond b (Some n) None)) [
  | true ↦ λ e. (leb-true 1 n (left-part (nat_le 1 n) (nat_le n 65535) e), leb-true n 65535 (right-part (nat_le 1 n) (nat_le n 65535) e))
  | false ↦ λ e. tt
] refl

-- a count that is read
pub count-within : (d : Data) → Holds IsCount (count_of d)
count-within d = count_by-within (as_integer d)

limit-of-count : (o : Option ℕ) → Holds IsCount o → Holds IsLimit (option_map Some o)
limit-of-count None h = tt
limit-of-count (Some count) h = h

limit-low : (d : Option Data) → Holds IsLimit (limit_or_none d)
limit-low None = tt
limit-low (Some d) = limit-of-count (count_of d) (count-within d)

several-ready : (key : Option Bytes) (of : Option Pattern) (snapshot : Option Bytes) (order : Option Order) (limit : Option (Option ℕ)) (context : Option Bytes) → Holds IsLimit limit → Holds IsReadyField (several key of snapshot order limit context)
several-ready None of snapshot order limit context h = tt
several-ready (Some key) None snapshot order limit context h = tt
several-ready (Some key) (Some of) None order limit context h = tt
several-ready (Some key) (Some of) (Some snapshot) None limit context h = tt
several-ready (Some key) (Some of) (Some snapshot) (Some order) None context h = tt
several-ready (Some key) (Some of) (Some snapshot) (Some order) (Some limit) None h = tt
several-ready (Some key) (Some of) (Some snapshot) (Some order) (Some limit) (Some context) h = h

list_by-ready : (fits : Bool) (ms : Members) → Holds IsReadyField (list_by fits ms)
unfolding list_in
list_by-ready false ms = tt
list_by-ready true ms = several-ready (key_by (option_and_then as_str (get_member (codes "list") ms))) (option_and_then pattern_of (get_member (codes "of") ms)) (snapshot_or_final (get_member (codes "snapshot") ms)) (order_or Id (get_member (codes "order") ms)) (limit_or_none (get_member (codes "limit") ms)) (context_by (option_and_then as_str (get_member (codes "context") ms))) (limit-low (get_member (codes "limit") ms))

in_table-ready : (one : Option (Bytes × Data)) (ms : Members) → Holds IsReadyField (in_table one ms)
unfolding list_of
in_table-ready (Some m) ms = keyed_by-ready m.0 (option_and_then two (as_array m.1))
in_table-ready None ms = list_by-ready (keys_pass is_list_key ms) ms

table_by-ready : (ms : Option Members) → Holds IsReadyField (table_by ms)
table_by-ready None = tt
table_by-ready (Some ms) = in_table-ready (only ms) ms

field_by-ready : (word : Option Bytes) (ms : Option Members) → Holds IsReadyField (field_by word ms)
field_by-ready (Some word) ms = word_field-ready word
field_by-ready None ms = table_by-ready ms

not_wide-ready : (fields : Option (List DraftField)) → Holds (AllByRecursion IsReadyField) fields → Holds (AllByRecursion IsReadyField) (not_wide fields)
not_wide-ready None h = tt
not_wide-ready (Some fields) h = holds-either (AllByRecursion IsReadyField) (fits width most_fields fields) (Some fields) None h tt

fields_by-ready : (ds : Option Items) → Holds (AllByRecursion IsReadyField) (fields_by ds)
fields_by-ready None = tt
fields_by-ready (Some ds) =
    holds-either (AllByRecursion IsReadyField) (fits_context (count_items ds)) (not_wide (each field_of ds)) None
    (not_wide-ready (each field_of ds) (holds-each IsReadyField field_of (λ d. field_by-ready (as_str d) (as_table d)) ds)) tt

fields_at-ready : (one : Option (Bytes × Data)) → Holds (AllByRecursion IsReadyField) (fields_at one)
fields_at-ready None = tt
fields_at-ready (Some m) = holds-either (AllByRecursion IsReadyField) (bytes_eq m.0 (codes "fields")) (fields_by (as_array m.1)) None (fields_by-ready (as_array m.1)) tt

-- the fields of a context that is read
pub fields-ready : (d : Data) → Holds (AllByRecursion IsReadyField) (context_fields d)
fields-ready d = fields_at-ready (option_and_then only (as_table d))

-- ---- fields with their numbers

pub field-more : (c d p q : ℕ) → c ≤ d → p ≤ q → (f : Field) → IsLinkedField c p f → IsLinkedField d q f
field-more c d p q le lq Body h = tt
field-more c d p q le lq Metadata h = tt
field-more c d p q le lq Url h = tt
field-more c d p q le lq Path h = tt
field-more c d p q le lq Title h = tt
field-more c d p q le lq (Const key text) h = tt
field-more c d p q le lq (Date key text) h = h
field-more c d p q le lq (BoolField key flag) h = tt
field-more c d p q le lq (Teaser key snapshot) h = tt
field-more c d p q le lq (ListField key of snapshot order limit context) h = let a = h.0 in let b = h.1 in (omega arith, omega arith, h.2)

plain-within : (c p : ℕ) (f : Field) → IsPlainField f → IsLinkedField c p f
plain-within c p Body h = tt
plain-within c p Metadata h = tt
plain-within c p Url h = tt
plain-within c p Path h = tt
plain-within c p Title h = tt
plain-within c p (Const key text) h = tt
plain-within c p (Date key text) h = h
plain-within c p (BoolField key flag) h = tt
plain-within c p (Teaser key snapshot) h = tt
plain-within c p (ListField key of snapshot order limit context) h = absurd h

abbrev pub FieldsWithin : ℕ → List Pattern → List Field → Type 0
FieldsWithin contexts pool fields = AllByRecursion (IsLinkedField contexts (length pool)) fields

pub default-within : (contexts : ℕ) (pool : List Pattern) → FieldsWithin contexts pool default_fields
default-within contexts pool = (tt, (tt, (tt, (tt, (tt, tt)))))

-- fields with their numbers, and the patterns then
pub record AreLinkedFields (contexts : ℕ) (pool : List Pattern) (r : List Field × List Pattern) : Type 0 where
  pub within : FieldsWithin contexts r.1 r.0
  pub grown : IsGrown pool r.1

pub fields-more : (c d : ℕ) (pool next : List Pattern) → c ≤ d → IsGrown pool next → (fields : List Field) → FieldsWithin c pool fields → FieldsWithin d next fields
fields-more c d pool next le g fields h = all-weaken (IsLinkedField c (length pool)) (IsLinkedField d (length next)) (field-more c d (length pool) (length next) le g.long) fields h

list-linked : (names : List Bytes) (pool : List Pattern) (done : List Field) (key : Bytes) (of : Pattern) (snapshot : Bytes) (order : Order) (limit : Option ℕ) (o : Option ℕ) → IsLimit limit → FieldsWithin (length names) pool done → Below (length names) o → Holds (AreLinkedFields (length names) pool) (list_field done (numbered pool of) key snapshot order limit o)
list-linked names pool done key of snapshot order limit None low h below = tt
list-linked names pool done key of snapshot order limit (Some context) low h below =
    let r = numbered pool of in
    record {
      within = all-push (IsLinkedField (length names) (length r.1)) done (ListField key r.0 snapshot order limit context) (fields-more (length names) (length names) pool r.1 (omega arith) (numbered-grown pool of) done h) (numbered-below pool of, below, low);
      grown = numbered-grown pool of;
    }

link_field-linked : (names : List Bytes) (pool : List Pattern) (done : List Field) (draft : DraftField) → IsReadyField draft → FieldsWithin (length names) pool done → Holds (AreLinkedFields (length names) pool) (link_field names pool done draft)
link_field-linked names pool done Default ready h =
    record { within = all-append (IsLinkedField (length names) (length pool)) done default_fields h (default-within (length names) pool); grown = grown-same pool }
link_field-linked names pool done (Whole field) ready h =
    record { within = all-push (IsLinkedField (length names) (length pool)) done field h (plain-within (length names) (length pool) field ready); grown = grown-same pool }
link_field-linked names pool done (Several key of snapshot order limit context) ready h =
    list-linked names pool done key of snapshot order limit (place_of context names) ready h (place_of-below context names)

fields-grown : (contexts : ℕ) (pool next : List Pattern) → IsGrown pool next → (r : Option (List Field × List Pattern)) → Holds (AreLinkedFields contexts next) r → Holds (AreLinkedFields contexts pool) r
fields-grown contexts pool next g None h = tt
fields-grown contexts pool next g (Some r) h = record { within = h.within; grown = grown-more pool next r.1 g h.grown }

fields-next : (contexts : ℕ) (pool : List Pattern) (rest : List Pattern → List Field → Option (List Field × List Pattern)) → ((q : List Pattern) (d : List Field) → FieldsWithin contexts q d → Holds (AreLinkedFields contexts q) (rest q d)) → (r : Option (List Field × List Pattern)) → Holds (AreLinkedFields contexts pool) r → Holds (AreLinkedFields contexts pool) (next_field rest r)
fields-next contexts pool rest later None h = tt
fields-next contexts pool rest later (Some r) h = fields-grown contexts pool r.1 h.grown (rest r.1 r.0) (later r.1 r.0 h.within)

pub link_fields-linked : (names : List Bytes) (drafts : List DraftField) (pool : List Pattern) (done : List Field) → AllByRecursion IsReadyField drafts → FieldsWithin (length names) pool done → Holds (AreLinkedFields (length names) pool) (link_fields names drafts pool done)
link_fields-linked names [] pool done ready h = record { within = h; grown = grown-same pool }
link_fields-linked names (draft ∷ drafts) pool done ready h =
    fields-next (length names) pool (link_fields names drafts) (λ q d k. link_fields-linked names drafts q d ready.1 k)
    (link_field names pool done draft) (link_field-linked names pool done draft ready.0 h)
