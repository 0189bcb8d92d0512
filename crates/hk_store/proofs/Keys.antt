-- Keys of pages: what a set has of them, and how one is read.
use Rattle.std.proofs.Common.{◌≡◌, refl, sym, ap, ◌∙◌, subst, arith, ◌-◌, Bool, true, false, not, cond, inl, inr, List, [], ◌∷◌, ◌++◌, append_assoc, append-nil, length, length-append, take, Option}
use Rattle.std.specs.Prelude.{◌&&◌, ◌||◌, bytes_eq, Ok, Err}
use Rattle.std.specs.BTreeSet.{BTreeSet, contains}
use Rattle.std.specs.Cmp.{tied_itself}
use Rattle.std.specs.Cmp.Lexicographic.{slice_cmp}
use Rattle.std.specs.List.{list_any}
use Rattle.std.specs.BTreeMap.{is_at}
use Rattle.std.specs.Ordering.{nat_cmp, is_eq, eq_by_cmp}
use Rattle.std.proofs.lemmas.List.Folds.{list_any-append}
use Rattle.hk_base.specs.Bytes.{Bytes}
use Rattle.hk_base.specs.Identifier.{Ident, ident_cmp}
use Rattle.hk_base.specs.IdentTies.{ident_cmp_total, idents-same}
use Rattle.hk_base.specs.Ties.{ties-same, ties-self, bytes-same, bytes-self}
use Rattle.hk_fix.specs.Table.{Key, same_key}
use Rattle.hk_forms.specs.PatternText.{str, ident_text}
use Rattle.hk_store.specs.Found.{key_text, HasKeys}
use Rattle.hk_store.specs.Reading.{after}
use Rattle.hk_store.specs.Stored.{HeldId, is_page_name}
use Rattle.hk_store.specs.StoreReading.{is_above, an_id_above, key_by, a_key}
use Rattle.hk_store.specs.Told.{Short, Any}
use Rattle.hk_store.proofs.Finding.{take-front}
use Rattle.hk_store.proofs.Numerals.{false-true}
use Rattle.hk_store.proofs.Telling.{both-told, ident-told, str-told, front-short}

-- ---- keys are told by their texts

key-told : (a b : Key) → Short (key_text a) → key_text a ≡ key_text b → a ≡ b
key-told a b short e =
    let t = both-told Any Any ident_text str a.id a.name (ident-told a.id) (str-told a.name) (b.id, b.name) (tt, tt) (tt, tt) [] []
    (subst Short (sym (append-nil (key_text a))) short) (append-nil (key_text a) ∙ (e ∙ sym (append-nil (key_text b)))) in
    ap (λ (z : Ident × Bytes). key_by z.0 z.1) t.0

first-true : (a b : Bool) → (a && b) ≡ true → a ≡ true
first-true true b e = refl
first-true false b e = e

second-true : (a b : Bool) → (a && b) ≡ true → b ≡ true
second-true true b e = e
second-true false b e = cc

two-true : (a b : Bool) → a ≡ true → b ≡ true → (a && b) ≡ true
two-true true b e f = f
two-true false b e f = e

pub keys-same : (a b : Key) → same_key a b ≡ true → a ≡ b
keys-same a b e =
    let ids = idents-same a.id b.id (first-true (eq_by_cmp ident_cmp a.id b.id) (bytes_eq a.name b.name) e) in
    let names = bytes-same a.name b.name (second-true (eq_by_cmp ident_cmp a.id b.id) (bytes_eq a.name b.name) e) in
    (λ k. key_by (ids k) (names k))

pub key-self : (a : Key) → same_key a a ≡ true
key-self a = two-true (eq_by_cmp ident_cmp a.id a.id) (bytes_eq a.name a.name) (ap is_eq (tied_itself ident_cmp_total a.id)) (bytes-self a.name)

pub same-bool : (a b : Bool) → (a ≡ true → b ≡ true) → (b ≡ true → a ≡ true) → a ≡ b
same-bool true b f g = sym (f refl)
same-bool false true f g = g refl
same-bool false false f g = refl

text-at : (key k : Key) (text : Bytes) → text ≡ key_text key → Short text → is_at (slice_cmp nat_cmp text) (key_text k) ≡ same_key k key
text-at key k text is short = same-bool (is_at (slice_cmp nat_cmp text) (key_text k)) (same_key k key)
    (λ e. let one : key ≡ k = key-told key k (subst Short is short) (sym is ∙ ties-same text (key_text k) e) in ap (λ x. same_key x key) (sym one) ∙ key-self key)
    (λ e. let one : k ≡ key = keys-same k key e in ap (λ x. is_at (slice_cmp nat_cmp text) (key_text x)) one ∙ (ap (λ t. is_at (slice_cmp nat_cmp text) t) (sym is) ∙ ties-self text))

pub or-last : (a b : Bool) → cond a true b ≡ (b || (a || false))
or-last true true = refl
or-last true false = refl
or-last false true = refl
or-last false false = refl

-- a set with one more
pub has-more : (old new : BTreeSet Bytes) (text : Bytes) (key : Key) (keys : List Key) → text ≡ key_text key → Short text → ((q : Bytes) → contains (slice_cmp nat_cmp) new q ≡ cond (is_at (slice_cmp nat_cmp text) q) true (contains (slice_cmp nat_cmp) old q)) → HasKeys old keys → HasKeys new (keys ++ key ∷ [])
has-more old new text key keys is short updates has k =
    updates (key_text k)
    ∙ ((λ i. cond (text-at key k text is short i) true (has k i))
    ∙ (or-last (same_key k key) (list_any (same_key k) keys)
    ∙ sym (list_any-append (same_key k) keys (key ∷ []))))

-- ---- a key is read

-- the bytes from the key's first to its last
pub key-slice : (bytes rest after : Bytes) (id : Ident) (name : Bytes) → bytes ≡ ident_text id ++ rest → rest ≡ str name ++ after → take (length bytes - length after) bytes ≡ key_text (key_by id name)
key-slice bytes rest after id name one two =
    let whole : bytes ≡ key_text (key_by id name) ++ after = one ∙ (ap (λ t. ident_text id ++ t) two ∙ sym (append_assoc (ident_text id) (str name) after)) in
    let long : length bytes - length after ≡ length (key_text (key_by id name)) = omega (arith, ap length whole, length-append (key_text (key_by id name)) after) in
    (λ k. take (long k) (whole k)) ∙ take-front (key_text (key_by id name)) after

module _ (keys : List Key) (bytes rest after : Bytes) (id : Ident) (name : Bytes) (held : HeldId id) (one : bytes ≡ ident_text id ++ rest) (two : rest ≡ str name ++ after) (short : Short rest) where
  other-name : (n r : Bytes) → rest ≡ str n ++ r → name ≡ n
  other-name n r e = (str-told name n tt tt after r (subst Short two short) (sym two ∙ e)).0

  pub name-bad : is_page_name name ≡ false → a_key keys bytes (Err (length rest))
  name-bad bad = inr (id, rest, (held, one), inl (refl, λ n r h e. false-true (is_page_name name) bad (ap is_page_name (other-name n r e) ∙ h.0)))

  pub name-seen : list_any (same_key (key_by id name)) keys ≡ true → a_key keys bytes (Err (length rest))
  name-seen seen = inr (id, rest, (held, one), inl (refl, λ n r h e. false-true (list_any (same_key (key_by id n)) keys) h.1 (ap (λ m. list_any (same_key (key_by id m)) keys) (sym (other-name n r e)) ∙ seen)))

  pub key-read : is_page_name name ≡ true → list_any (same_key (key_by id name)) keys ≡ false → a_key keys bytes (Ok (key_by id name, after))
  key-read good new = (id, rest, (held, one), (name, after, ((good, new), two), (refl, refl)))

pub not-of : (a b : Bool) → a ≡ not b → a ≡ false → b ≡ true
not-of a true e f = refl
not-of a false e f = let w : false ≡ true = sym f ∙ e in cc

pub not-so : (a b : Bool) → a ≡ not b → a ≡ true → b ≡ false
not-so a true e f = let w : true ≡ false = sym f ∙ e in cc
not-so a false e f = refl

-- whether a key is among those before, by what the set answers
pub was-seen : (set : BTreeSet Bytes) (keys : List Key) (key : Key) (text : Bytes) (added : Bool) → HasKeys set keys → text ≡ key_text key → added ≡ not (contains (slice_cmp nat_cmp) set text) → added ≡ false → list_any (same_key key) keys ≡ true
was-seen set keys key text added has is told e = sym (has key) ∙ (ap (contains (slice_cmp nat_cmp) set) (sym is) ∙ not-of added (contains (slice_cmp nat_cmp) set text) told e)

pub was-new : (set : BTreeSet Bytes) (keys : List Key) (key : Key) (text : Bytes) (added : Bool) → HasKeys set keys → text ≡ key_text key → added ≡ not (contains (slice_cmp nat_cmp) set text) → added ≡ true → list_any (same_key key) keys ≡ false
was-new set keys key text added has is told e = sym (has key) ∙ (ap (contains (slice_cmp nat_cmp) set) (sym is) ∙ not-so added (contains (slice_cmp nat_cmp) set text) told e)

-- an identifier that isn't above the last one
pub id-low : (last : Option Ident) (id : Ident) (bytes rest : Bytes) → Short bytes → bytes ≡ ident_text id ++ rest → is_above last id ≡ false → an_id_above last bytes (Err (length bytes))
id-low last id bytes rest short is low =
    (refl, λ x r h e. let one = (ident-told id x tt tt rest r (subst Short is short) (sym is ∙ e)).0 in false-true (is_above last id) low (ap (is_above last) one ∙ h.1))

pub key-short : (bytes rest after : Bytes) (id : Ident) (name : Bytes) → bytes ≡ ident_text id ++ rest → rest ≡ str name ++ after → Short bytes → Short (key_text (key_by id name))
key-short bytes rest after id name one two short =
    let whole : bytes ≡ key_text (key_by id name) ++ after = one ∙ (ap (λ t. ident_text id ++ t) two ∙ sym (append_assoc (ident_text id) (str name) after)) in
    front-short (key_text (key_by id name)) after (subst Short whole short)
