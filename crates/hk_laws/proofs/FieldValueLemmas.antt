-- Fields, orders and counts are read exactly where they are such values.
use Rattle.std.proofs.Common.{◌≡◌, ℕ, pos, negsuc, Bool, true, false, ◌&&◌, ◌||◌, nat_le, if◌then◌else◌, bytes_eq, codes, refl, sym, ap, subst, ◌∙◌, Option, Some, None, option_map, inl, inr}
use Rattle.std.specs.Prelude.{option_and_then}
use Rattle.std.specs.List.{list_all}
use Rattle.std.proofs.lemmas.Bool.{and_parts}
use Rattle.toml.specs.Data.{Data, string, integer, float, boolean, datetime, array, table, Items, Members, no_members, member, get_member, as_str, as_array, as_bool}
use Rattle.hk_base.specs.Bytes.{Bytes}
use Rattle.hk_base.specs.Key.{is_key}
use Rattle.hk_chain.specs.declared.context.Field.TheVariants.{Body, Metadata, Url, Path, Title, Const, Date, Bool as BoolField, Teaser}
use Rattle.hk_chain.specs.declared.context.Order.{Order}
use Rattle.hk_chain.specs.declared.context.Order.TheVariants.{Id, Chronological, Recent}
use Rattle.hk_forms.specs.Members.{keys_pass, two}
use Rattle.hk_forms.specs.Names.{is_context_name, is_snapshot_name}
use Rattle.hk_forms.specs.PatternForm.{pattern_of}
use Rattle.hk_meta.specs.DatePattern.{pattern_ok}
use Rattle.hk_pattern.specs.declared.pattern.Pattern.{Pattern}
use Rattle.hk_rules_file.specs.ContextNames.{keys_in}
use Rattle.hk_steps.specs.StepForm.{context_by, snapshot_by}
use Rattle.hk_chain.specs.Names.{final_name}
use Rattle.hk_steps.specs.FieldForm.{key_by, date_pattern_by, word_field, const_by, date_by, flag_by, teaser_by, paired, keyed_by, is_list_key, snapshot_or_final, order_named, order_or, count_of, limit_or_none, several as several_by, list_in, list_by, list_of, field_of}
use Rattle.hk_steps.specs.declared.draft.DraftField.{DraftField}
use Rattle.hk_steps.specs.declared.draft.DraftField.TheVariants.{Default, Whole, Several}
use Rattle.hk_laws.specs.Values.{Reads, only_at, two_items, IsAt, IsAtOr}
use Rattle.hk_laws.specs.PatternValues.{IsPattern}
use Rattle.hk_laws.specs.FieldValues.{IsOrder, by_id, chronological, recent, IsCount, count, IsLimit, at_most, IsWord, word, is_list_word, IsListTable, IsField, usual, body, metadata, url, path, title, const, date, flag, teaser, several}
use Rattle.hk_laws.proofs.ValueLemmas.{at_key, where_true, tested, of_map, le_is, is_le, is_string, is_array, is_boolean, is_two, last}
use Rattle.hk_laws.proofs.PatternValueLemmas.{reads_patterns}
use Rattle.hk_laws.proofs.StepValueLemmas.{context_is, snapshot_is, is_context, is_snapshot}

-- ---- counts and orders

count_is : (d : Data) (n : ℕ) → count_of d ≡ Some n → IsCount d n
count_is (integer (pos m)) n e =
    where_true (IsCount (integer (pos m)) n) (nat_le 1 m && nat_le m 65535) (Some m) n (λ fits is.
    let same : m ≡ n = cc in
    let tests = and_parts (nat_le 1 m) (nat_le m 65535) fits in
    subst (IsCount (integer (pos m))) same (count m (le_is 1 m tests.0) (le_is m 65535 tests.1))) e
count_is (integer (negsuc m)) n e = let no_ : ⊥ = cc in absurd no_
count_is (string s) n e = let no_ : ⊥ = cc in absurd no_
count_is (float x) n e = let no_ : ⊥ = cc in absurd no_
count_is (boolean b) n e = let no_ : ⊥ = cc in absurd no_
count_is (datetime t) n e = let no_ : ⊥ = cc in absurd no_
count_is (array ds) n e = let no_ : ⊥ = cc in absurd no_
count_is (table ms) n e = let no_ : ⊥ = cc in absurd no_

is_count : (d : Data) (n : ℕ) → IsCount d n → count_of d ≡ Some n
is_count _ _ (count n from to) = λ i. if is_le 1 n from i && is_le n 65535 to i then Some n else None

pub reads_counts : Reads count_of IsCount
reads_counts d n = (count_is d n, is_count d n)

reads_limits : Reads (λ d. option_map Some (count_of d)) IsLimit
reads_limits d l = (limit_is, is_limit d l)
  where
    limit_is : option_map Some (count_of d) ≡ Some l → IsLimit d l
    limit_is e = let is = of_map Some (count_of d) l e in subst (IsLimit d) is.2 (at_most d is.0 (count_is d is.0 is.1))

    is_limit : (d : Data) (l : Option ℕ) → IsLimit d l → option_map Some (count_of d) ≡ Some l
    is_limit _ _ (at_most d n is) = ap (option_map Some) (is_count d n is)

order_word : (text : Bytes) (order : Order) → order_named (Some text) ≡ Some order → IsOrder (string text) order
order_word text order e =
    at_key (λ k. IsOrder (string k) order) text (codes "id") _ _ order (λ f. let is : Id ≡ order = cc in subst (IsOrder (string (codes "id"))) is by_id)
    (λ e. at_key (λ k. IsOrder (string k) order) text (codes "chronological") _ _ order (λ f. let is : Chronological ≡ order = cc in subst (IsOrder (string (codes "chronological"))) is chronological)
    (λ e. at_key (λ k. IsOrder (string k) order) text (codes "recent") _ _ order (λ f. let is : Recent ≡ order = cc in subst (IsOrder (string (codes "recent"))) is recent)
    (λ f. let no_ : ⊥ = cc in absurd no_) e) e) e

order_is : (d : Data) (order : Order) → order_named (as_str d) ≡ Some order → IsOrder d order
order_is (string s) order e = order_word s order e
order_is (integer z) order e = let no_ : ⊥ = cc in absurd no_
order_is (float x) order e = let no_ : ⊥ = cc in absurd no_
order_is (boolean b) order e = let no_ : ⊥ = cc in absurd no_
order_is (datetime t) order e = let no_ : ⊥ = cc in absurd no_
order_is (array ds) order e = let no_ : ⊥ = cc in absurd no_
order_is (table ms) order e = let no_ : ⊥ = cc in absurd no_

is_order : (d : Data) (order : Order) → IsOrder d order → order_named (as_str d) ≡ Some order
is_order _ _ by_id = refl
is_order _ _ chronological = refl
is_order _ _ recent = refl

pub reads_orders : Reads (λ d. order_named (as_str d)) IsOrder
reads_orders d order = (order_is d order, is_order d order)

-- ---- words that pass

key_is : (o : Option Bytes) (key : Bytes) → key_by o ≡ Some key → (o ≡ Some key) × (is_key key ≡ true)
key_is None key e = let no_ : ⊥ = cc in absurd no_
key_is (Some text) key e = let is = tested is_key text key e in (ap Some is.1, subst (λ t. is_key t ≡ true) is.1 is.0)

pattern_is : (o : Option Bytes) (text : Bytes) → date_pattern_by o ≡ Some text → (o ≡ Some text) × (pattern_ok text ≡ true)
pattern_is None text e = let no_ : ⊥ = cc in absurd no_
pattern_is (Some own) text e = let is = tested pattern_ok own text e in (ap Some is.1, subst (λ t. pattern_ok t ≡ true) is.1 is.0)

is_key_ : (key : Bytes) → is_key key ≡ true → key_by (Some key) ≡ Some key
is_key_ key e = ap (λ b. if b then Some key else None) e

is_pattern_ : (text : Bytes) → pattern_ok text ≡ true → date_pattern_by (Some text) ≡ Some text
is_pattern_ text e = ap (λ b. if b then Some text else None) e

word_of : (passes : Bytes → Bool) (d : Data) (text : Bytes) → as_str d ≡ Some text → passes text ≡ true → IsWord passes d text
word_of passes d text at fits = subst (λ t. IsWord passes t text) (sym (is_string d text at)) (word text fits)

of_word : (passes : Bytes → Bool) (d : Data) (text : Bytes) → IsWord passes d text → (as_str d ≡ Some text) × (passes text ≡ true)
of_word passes _ _ (word text fits) = (refl, fits)

reads_keys : Reads (λ d. key_by (as_str d)) (IsWord is_key)
reads_keys d key = (λ e. let is = key_is (as_str d) key e in word_of is_key d key is.0 is.1, λ is. let at = of_word is_key d key is in ap key_by at.0 ∙ is_key_ key at.1)

reads_contexts : Reads (λ d. context_by (as_str d)) (IsWord is_context_name)
reads_contexts d name = (
  λ e. let is = context_is (as_str d) name e in word_of is_context_name d name is.0 is.1,
  λ is. let at = of_word is_context_name d name is in ap context_by at.0 ∙ is_context name at.1,
)

reads_snapshots : Reads (λ d. snapshot_by (as_str d)) (IsWord is_snapshot_name)
reads_snapshots d name = (
  λ e. let is = snapshot_is (as_str d) name e in word_of is_snapshot_name d name is.0 is.1,
  λ is. let at = of_word is_snapshot_name d name is in ap snapshot_by at.0 ∙ is_snapshot name at.1,
)

-- ---- a key and what stands beside it

abbrev Pair : Bytes → Data × Data → DraftField → Type 0
Pair name p field = IsField (only_at name (array (two_items p.0 p.1))) field

beside : (name : Bytes) (p : Data × Data) (key : Bytes) (d : Data) (field : DraftField) → as_str p.0 ≡ Some key → p.1 ≡ d → IsField (only_at name (array (two_items (string key) d))) field → Pair name p field
beside name p key d field at is row = let first = is_string p.0 key at in subst (λ ds. IsField (only_at name (array ds)) field) (sym (λ i. two_items (first i) (is i))) row

const_is : (p : Data × Data) (field : DraftField) (key text : Option Bytes) → key_by (as_str p.0) ≡ key → as_str p.1 ≡ text → const_by key text ≡ Some field → Pair (codes "const") p field
const_is p field None text at to e = let no_ : ⊥ = cc in absurd no_
const_is p field (Some key) None at to e = let no_ : ⊥ = cc in absurd no_
const_is p field (Some key) (Some text) at to e =
    let is : Whole (Const key text) ≡ field = cc in
    let k = key_is (as_str p.0) key at in
    beside (codes "const") p key (string text) field k.0 (is_string p.1 text to) (subst (IsField _) is (const key text k.1))

date_is : (p : Data × Data) (field : DraftField) (key text : Option Bytes) → key_by (as_str p.0) ≡ key → date_pattern_by (as_str p.1) ≡ text → date_by key text ≡ Some field → Pair (codes "date") p field
date_is p field None text at to e = let no_ : ⊥ = cc in absurd no_
date_is p field (Some key) None at to e = let no_ : ⊥ = cc in absurd no_
date_is p field (Some key) (Some text) at to e =
    let is : Whole (Date key text) ≡ field = cc in
    let k = key_is (as_str p.0) key at in
    let t = pattern_is (as_str p.1) text to in
    beside (codes "date") p key (string text) field k.0 (is_string p.1 text t.0) (subst (IsField _) is (date key text k.1 t.1))

flag_is : (p : Data × Data) (field : DraftField) (key : Option Bytes) (on : Option Bool) → key_by (as_str p.0) ≡ key → as_bool p.1 ≡ on → flag_by key on ≡ Some field → Pair (codes "bool") p field
flag_is p field None on at to e = let no_ : ⊥ = cc in absurd no_
flag_is p field (Some key) None at to e = let no_ : ⊥ = cc in absurd no_
flag_is p field (Some key) (Some on) at to e =
    let is : Whole (BoolField key on) ≡ field = cc in
    let k = key_is (as_str p.0) key at in
    beside (codes "bool") p key (boolean on) field k.0 (is_boolean p.1 on to) (subst (IsField _) is (flag key on k.1))

teaser_is : (p : Data × Data) (field : DraftField) (key name : Option Bytes) → key_by (as_str p.0) ≡ key → snapshot_by (as_str p.1) ≡ name → teaser_by key name ≡ Some field → Pair (codes "teaser") p field
teaser_is p field None name at to e = let no_ : ⊥ = cc in absurd no_
teaser_is p field (Some key) None at to e = let no_ : ⊥ = cc in absurd no_
teaser_is p field (Some key) (Some name) at to e =
    let is : Whole (Teaser key name) ≡ field = cc in
    let k = key_is (as_str p.0) key at in
    let s = snapshot_is (as_str p.1) name to in
    beside (codes "teaser") p key (string name) field k.0 (is_string p.1 name s.0) (subst (IsField _) is (teaser key name k.1 s.1))

pair_is : (name : Bytes) (p : Data × Data) (field : DraftField) → paired name p ≡ Some field → Pair name p field
pair_is name p field e =
    at_key (λ k. Pair k p field) name (codes "const") _ _ field (λ f. const_is p field _ _ refl refl f)
    (λ e. at_key (λ k. Pair k p field) name (codes "date") _ _ field (λ f. date_is p field _ _ refl refl f)
    (λ e. at_key (λ k. Pair k p field) name (codes "bool") _ _ field (λ f. flag_is p field _ _ refl refl f)
    (λ e. at_key (λ k. Pair k p field) name (codes "teaser") _ _ field (λ f. teaser_is p field _ _ refl refl f)
    (λ f. let no_ : ⊥ = cc in absurd no_) e) e) e) e

two_is : (name : Bytes) (ds : Items) (field : DraftField) (pair : Option (Data × Data)) → two ds ≡ pair → keyed_by name pair ≡ Some field → IsField (only_at name (array ds)) field
two_is name ds field None at e = let no_ : ⊥ = cc in absurd no_
two_is name ds field (Some p) at e = subst (λ t. IsField (only_at name (array t)) field) (sym (is_two ds p.0 p.1 at)) (pair_is name p field e)

keyed_is : (name : Bytes) (d : Data) (field : DraftField) (o : Option Items) → as_array d ≡ o → keyed_by name (option_and_then two o) ≡ Some field → IsField (only_at name d) field
keyed_is name d field None at e = let no_ : ⊥ = cc in absurd no_
keyed_is name d field (Some ds) at e = subst (λ t. IsField (only_at name t) field) (sym (is_array d ds at)) (two_is name ds field (two ds) refl e)

-- ---- lists

six : (a b c d e f : Bool) → (((a || b) || c) || ((d || e) || f)) ≡ (a || (b || (c || (d || (e || (f || false))))))
six true b c d e f = refl
six false true c d e f = refl
six false false true d e f = refl
six false false false true e f = refl
six false false false false true f = refl
six false false false false false true = refl
six false false false false false false = refl

list_word : (k : Bytes) → is_list_key k ≡ is_list_word k
unfolding is_list_key
list_word k = six (bytes_eq k (codes "list")) (bytes_eq k (codes "of")) (bytes_eq k (codes "context")) (bytes_eq k (codes "snapshot")) (bytes_eq k (codes "order")) (bytes_eq k (codes "limit"))

keys_same : (ms : Members) → keys_pass is_list_key ms ≡ list_all is_list_word (keys_in ms)
keys_same no_members = refl
keys_same (member k d ms) = λ i. list_word k i && keys_same ms i

at_is : {X : Type 0} (key : Bytes) (read : Data → Option X) (Is : Data → X → Type 0) → Reads read Is → (ms : Members) (x : X) (o : Option Data) → get_member key ms ≡ o → option_and_then read o ≡ Some x → IsAt key Is ms x
at_is key read Is reads ms x None at e = let no_ : ⊥ = cc in absurd no_
at_is key read Is reads ms x (Some d) at e = record { value = d; here = at; is = (reads d x).0 e }

is_at : {X : Type 0} (key : Bytes) (read : Data → Option X) (Is : Data → X → Type 0) → Reads read Is → (ms : Members) (x : X) → IsAt key Is ms x → option_and_then read (get_member key ms) ≡ Some x
is_at key read Is reads ms x is = ap (option_and_then read) is.here ∙ (reads is.value x).1 is.is

-- what is meant where nothing stands
abbrev or_usual : {X : Type 0} → X → (Data → Option X) → Option Data → Option X
or_usual x read None = Some x
or_usual x read (Some d) = read d

or_is : {X : Type 0} (key : Bytes) (meant : X) (read : Data → Option X) (Is : Data → X → Type 0) → Reads read Is → (ms : Members) (x : X) (o : Option Data) → get_member key ms ≡ o → or_usual meant read o ≡ Some x → IsAtOr key meant Is ms x
or_is key meant read Is reads ms x None at e = let is : x ≡ meant = cc in inr (at, is)
or_is key meant read Is reads ms x (Some d) at e = inl (record { value = d; here = at; is = (reads d x).0 e })

is_or : {X : Type 0} (key : Bytes) (meant : X) (read : Data → Option X) (Is : Data → X → Type 0) → Reads read Is → (ms : Members) (x : X) → IsAtOr key meant Is ms x → or_usual meant read (get_member key ms) ≡ Some x
is_or key meant read Is reads ms x (inl is) = ap (or_usual meant read) is.here ∙ (reads is.value x).1 is.is
is_or key meant read Is reads ms x (inr is) = ap (or_usual meant read) is.0 ∙ ap Some (sym is.1)

key_here : (o : Option Data) → key_by (option_and_then as_str o) ≡ option_and_then (λ d. key_by (as_str d)) o
key_here None = refl
key_here (Some d) = refl

context_here : (o : Option Data) → context_by (option_and_then as_str o) ≡ option_and_then (λ d. context_by (as_str d)) o
context_here None = refl
context_here (Some d) = refl

snapshot_here : (o : Option Data) → snapshot_or_final o ≡ or_usual final_name (λ d. snapshot_by (as_str d)) o
snapshot_here None = refl
snapshot_here (Some d) = refl

order_here : (o : Option Data) → order_or Id o ≡ or_usual Id (λ d. order_named (as_str d)) o
order_here None = refl
order_here (Some d) = refl

limit_here : (o : Option Data) → limit_or_none o ≡ or_usual None (λ d. option_map Some (count_of d)) o
limit_here None = refl
limit_here (Some d) = refl

-- the six values of a list
record Parts (a b : Option Bytes) (of : Option Pattern) (order : Option Order) (limit : Option (Option ℕ)) (c : Option Bytes) (field : DraftField) : Type 0 where
  pub key : Bytes
  pub choice : Pattern
  pub snapshot : Bytes
  pub by : Order
  pub most : Option ℕ
  pub context : Bytes
  pub key_is : a ≡ Some key
  pub of_is : of ≡ Some choice
  pub snapshot_is : b ≡ Some snapshot
  pub order_is : order ≡ Some by
  pub limit_is : limit ≡ Some most
  pub context_is : c ≡ Some context
  pub same : Several key choice snapshot by most context ≡ field

parts : (a : Option Bytes) (of : Option Pattern) (b : Option Bytes) (order : Option Order) (limit : Option (Option ℕ)) (c : Option Bytes) (field : DraftField) → several_by a of b order limit c ≡ Some field → Parts a b of order limit c field
parts None of b order limit c field e = let no_ : ⊥ = cc in absurd no_
parts (Some x) None b order limit c field e = let no_ : ⊥ = cc in absurd no_
parts (Some x) (Some y) None order limit c field e = let no_ : ⊥ = cc in absurd no_
parts (Some x) (Some y) (Some z) None limit c field e = let no_ : ⊥ = cc in absurd no_
parts (Some x) (Some y) (Some z) (Some u) None c field e = let no_ : ⊥ = cc in absurd no_
parts (Some x) (Some y) (Some z) (Some u) (Some v) None field e = let no_ : ⊥ = cc in absurd no_
parts (Some x) (Some y) (Some z) (Some u) (Some v) (Some w) field e =
    let is : Several x y z u v w ≡ field = cc in
    record {
      key = x;
      choice = y;
      snapshot = z;
      by = u;
      most = v;
      context = w;
      key_is = refl;
      of_is = refl;
      snapshot_is = refl;
      order_is = refl;
      limit_is = refl;
      context_is = refl;
      same = is;
    }

list_is : (ms : Members) (field : DraftField) (fits : Bool) → keys_pass is_list_key ms ≡ fits → list_by fits ms ≡ Some field → IsField (table ms) field
unfolding list_in
list_is ms field false keys e = let no_ : ⊥ = cc in absurd no_
list_is ms field true keys e =
    let p = parts _ _ _ _ _ _ field e in
    subst (IsField (table ms)) p.same (several ms p.key p.choice p.snapshot p.by p.most p.context (record {
      keys = sym (keys_same ms) ∙ keys;
      key_at = at_is (codes "list") (λ d. key_by (as_str d)) (IsWord is_key) reads_keys ms p.key (get_member (codes "list") ms) refl (sym (key_here (get_member (codes "list") ms)) ∙ p.key_is);
      of_at = at_is (codes "of") pattern_of IsPattern reads_patterns ms p.choice (get_member (codes "of") ms) refl p.of_is;
      snapshot_at = or_is (codes "snapshot") final_name (λ d. snapshot_by (as_str d)) (IsWord is_snapshot_name) reads_snapshots ms p.snapshot (get_member (codes "snapshot") ms) refl (sym (snapshot_here (get_member (codes "snapshot") ms)) ∙ p.snapshot_is);
      order_at = or_is (codes "order") Id (λ d. order_named (as_str d)) IsOrder reads_orders ms p.by (get_member (codes "order") ms) refl (sym (order_here (get_member (codes "order") ms)) ∙ p.order_is);
      limit_at = or_is (codes "limit") None (λ d. option_map Some (count_of d)) IsLimit reads_limits ms p.most (get_member (codes "limit") ms) refl (sym (limit_here (get_member (codes "limit") ms)) ∙ p.limit_is);
      context_at = at_is (codes "context") (λ d. context_by (as_str d)) (IsWord is_context_name) reads_contexts ms p.context (get_member (codes "context") ms) refl (sym (context_here (get_member (codes "context") ms)) ∙ p.context_is);
    }))

is_list : (ms : Members) (key : Bytes) (of : Pattern) (snapshot : Bytes) (order : Order) (limit : Option ℕ) (context : Bytes) → IsListTable ms key of snapshot order limit context → list_of ms ≡ Some (Several key of snapshot order limit context)
unfolding list_of list_in
is_list ms key of snapshot order limit context is =
    ap (λ b. list_by b ms) (keys_same ms ∙ is.keys)
    ∙ (λ i.
    several_by
    ((key_here (get_member (codes "list") ms) ∙ is_at (codes "list") (λ d. key_by (as_str d)) (IsWord is_key) reads_keys ms key is.key_at) i)
    (is_at (codes "of") pattern_of IsPattern reads_patterns ms of is.of_at i)
    ((snapshot_here (get_member (codes "snapshot") ms) ∙ is_or (codes "snapshot") final_name (λ d. snapshot_by (as_str d)) (IsWord is_snapshot_name) reads_snapshots ms snapshot is.snapshot_at) i)
    ((order_here (get_member (codes "order") ms) ∙ is_or (codes "order") Id (λ d. order_named (as_str d)) IsOrder reads_orders ms order is.order_at) i)
    ((limit_here (get_member (codes "limit") ms) ∙ is_or (codes "limit") None (λ d. option_map Some (count_of d)) IsLimit reads_limits ms limit is.limit_at) i)
    ((context_here (get_member (codes "context") ms) ∙ is_at (codes "context") (λ d. context_by (as_str d)) (IsWord is_context_name) reads_contexts ms context is.context_at) i))

-- ---- fields

abbrev Word : Bytes → DraftField → Type 0
Word name field = IsField (string name) field

this_word : (name : Bytes) (own field : DraftField) → Word name own → Some own ≡ Some field → Word name field
this_word name own field row e = let is : own ≡ field = cc in subst (Word name) is row

word_is : (name : Bytes) (field : DraftField) → word_field name ≡ Some field → Word name field
word_is name field e =
    at_key (λ k. Word k field) name (codes "default") _ _ field (λ f. this_word (codes "default") Default field usual f)
    (λ e. at_key (λ k. Word k field) name (codes "body") _ _ field (λ f. this_word (codes "body") (Whole Body) field body f)
    (λ e. at_key (λ k. Word k field) name (codes "metadata") _ _ field (λ f. this_word (codes "metadata") (Whole Metadata) field metadata f)
    (λ e. at_key (λ k. Word k field) name (codes "url") _ _ field (λ f. this_word (codes "url") (Whole Url) field url f)
    (λ e. at_key (λ k. Word k field) name (codes "path") _ _ field (λ f. this_word (codes "path") (Whole Path) field path f)
    (λ e. at_key (λ k. Word k field) name (codes "title") _ _ field (λ f. this_word (codes "title") (Whole Title) field title f)
    (λ f. let no_ : ⊥ = cc in absurd no_) e) e) e) e) e) e

table_is : (ms : Members) (field : DraftField) → list_of ms ≡ Some field → IsField (table ms) field
unfolding list_of
table_is ms field e = list_is ms field (keys_pass is_list_key ms) refl e

field_is : (d : Data) (field : DraftField) → field_of d ≡ Some field → IsField d field
field_is (string name) field e = word_is name field e
field_is (table (member k d no_members)) field e = keyed_is k d field (as_array d) refl e
field_is (table no_members) field e = table_is no_members field e
field_is (table (member k d (member l f ms))) field e = table_is (member k d (member l f ms)) field e
field_is (integer z) field e = let no_ : ⊥ = cc in absurd no_
field_is (float x) field e = let no_ : ⊥ = cc in absurd no_
field_is (boolean b) field e = let no_ : ⊥ = cc in absurd no_
field_is (datetime t) field e = let no_ : ⊥ = cc in absurd no_
field_is (array ds) field e = let no_ : ⊥ = cc in absurd no_

-- a table of one member is no list
one_is_none : (k : Bytes) (d : Data) (key : Bytes) (of : Pattern) → IsAt (codes "list") (IsWord is_key) (member k d no_members) key → IsAt (codes "of") IsPattern (member k d no_members) of → ⊥
one_is_none k d key of at to =
    let one = (last (codes "list") k d at.value at.here).0 in
    let more = (last (codes "of") k d to.value to.here).0 in
    let no_ : ⊥ = cc in no_

several_field : (ms : Members) (key : Bytes) (of : Pattern) (snapshot : Bytes) (order : Order) (limit : Option ℕ) (context : Bytes) → IsListTable ms key of snapshot order limit context → field_of (table ms) ≡ Some (Several key of snapshot order limit context)
several_field no_members key of snapshot order limit context is = is_list no_members key of snapshot order limit context is
several_field (member k d no_members) key of snapshot order limit context is = absurd (one_is_none k d key of is.key_at is.of_at)
several_field (member k d (member l e ms)) key of snapshot order limit context is = is_list (member k d (member l e ms)) key of snapshot order limit context is

is_field : (d : Data) (field : DraftField) → IsField d field → field_of d ≡ Some field
is_field _ _ usual = refl
is_field _ _ body = refl
is_field _ _ metadata = refl
is_field _ _ url = refl
is_field _ _ path = refl
is_field _ _ title = refl
is_field _ _ (const key text named) = ap (λ k. const_by k (Some text)) (is_key_ key named)
is_field _ _ (date key text named fits) = λ i. date_by (is_key_ key named i) (is_pattern_ text fits i)
is_field _ _ (flag key on named) = ap (λ k. flag_by k (Some on)) (is_key_ key named)
is_field _ _ (teaser key name named saved) = λ i. teaser_by (is_key_ key named i) (is_snapshot name saved i)
is_field _ _ (several ms key of snapshot order limit context is) = several_field ms key of snapshot order limit context is

pub reads_fields : Reads field_of IsField
reads_fields d field = (field_is d field, is_field d field)
