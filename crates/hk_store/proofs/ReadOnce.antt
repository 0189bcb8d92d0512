-- A text is read in one way, and bytes have one answer.
use Rattle.std.proofs.Common.{◌≡◌, refl, sym, ap, ◌∙◌, subst, arith, ℕ, zero, suc, ◌+◌, ◌-◌, ◌<◌, ◌==◌, cond, Bool, true, false, List, [], ◌∷◌, ◌++◌, append_assoc, append-nil, length, length-append, get_or, take, drop, Option}
use Rattle.std.specs.Prelude.{Ok, Err, Result, codes}
use Rattle.hex.specs.Hex.{encode_lower, decode_of, lower_digits}
use Rattle.hex.proofs.HexLemmas.{decode_of-encode_lower, length-encode_with}
use Rattle.sha2.specs.Sha256.{sha256}
use Rattle.sha2.proofs.Facts256.{length-sha256}
use Rattle.hk_base.specs.Bytes.{Bytes}
use Rattle.hk_base.specs.Identifier.{Ident}
use Rattle.hk_base.specs.declared.refusal.Refusal.{Refusal}
use Rattle.hk_base.specs.declared.refusal.Refusal.TheVariants.{Fault, NoMemory}
use Rattle.hk_chain.specs.declared.page.Kind.{Kind}
use Rattle.hk_chain.specs.declared.page.Kind.TheVariants as kinds
use Rattle.hk_chain.specs.declared.page.Page.{Page}
use Rattle.hk_fix.specs.Table.{Key, same_key}
use Rattle.hk_forms.specs.PatternText.{num, str, ident_text}
use Rattle.hk_store.specs.Damage.{IsRead, Answers}
use Rattle.hk_store.specs.Entry.{AskView, MatchView, MarkView, asked, stored, EntryView}
use Rattle.hk_store.specs.Reading.{Outcome, field, after, given, each, ends}
use Rattle.hk_store.specs.Stored.{keys_of_asks, asked_keys, ids_of, IsDigest, HeldId, AreHeld, IsStored}
use Rattle.hk_store.specs.StoreReading.{a_count, some_count, a_digest, an_id_above, an_id_after, last_of, a_match, a_key, an_ask, letter_text, a_letter, a_group, a_save, a_mark_by, a_mark_of, a_mark, FitsName, an_entry_above, an_entry, a_store}
use Rattle.hk_store.specs.StoreText.{digest_text, kind_text, page_text, first_line, old_line, store_text, sealed}
use Rattle.hk_store.specs.Told.{Told, Small, Short, Any, both, Both}
use Rattle.hk_store.specs.declared.damage.StoreDamage.{StoreDamage}
use Rattle.hk_store.specs.declared.damage.StoreDamage.TheVariants.{BadTrailer, BadShape, OldVersion}
use Rattle.hk_store.proofs.Letters.{letters-same}
use Rattle.hk_store.proofs.Readings.{Sure, field-sure, after-sure, given-sure, ends-sure, each-sure}
use Rattle.hk_store.proofs.Telling.{num-told, str-told, ident-told, both-told, view-told, told-as, same-length, front-short}
use Rattle.hk_store.proofs.WrittenTexts.{store-written}

-- ---- each field is told

told-less : {A : Type 0} (E : A → Type 0) (p : A → Bytes) → ((x : A) → Told Any p x) → (x : A) → Told E p x
told-less E p told x y h k r s short e = told x y tt tt r s short e

line-told : (u : Unit {0}) → Told Any (λ (v : Unit {0}). first_line) u
line-told u v h k r s short e = (refl, ap (drop 10) e)

abbrev read_of : {E : Type 0} → Result Bytes E → Bytes
read_of (Ok bytes) = bytes
read_of (Err e) = []

digest-told : (d : Bytes) → Told IsDigest digest_text d
digest-told d c h k r s short e =
    let whole : encode_lower d ++ (10 ∷ r) ≡ encode_lower c ++ (10 ∷ s) = sym (append_assoc (encode_lower d) (10 ∷ []) r) ∙ (e ∙ append_assoc (encode_lower c) (10 ∷ []) s) in
    let z = same-length (encode_lower d) (encode_lower c) (omega (arith, h.0, k.0, length-encode_with lower_digits d, length-encode_with lower_digits c)) (10 ∷ r) (10 ∷ s) whole in
    (ap read_of (sym (decode_of-encode_lower d h.1) ∙ (ap decode_of z.0 ∙ decode_of-encode_lower c k.1)), ap (drop 1) z.1)

kind_of : Bytes → Kind
kind_of text = cond (get_or text 0 0 == 84) kinds.Text (cond (get_or text 0 0 == 77) kinds.Template kinds.File)

kind-back : (kind : Kind) (rest : Bytes) → (kind_of (kind_text kind ++ rest) ≡ kind) × (drop 2 (kind_text kind ++ rest) ≡ rest)
unfolding kind_of
kind-back kinds.Text rest = (refl, refl)
kind-back kinds.Template rest = (refl, refl)
kind-back kinds.File rest = (refl, refl)

kind-told : (kind : Kind) → Told Any kind_text kind
kind-told a b h k r s short e =
    (sym (kind-back a r).0 ∙ (ap kind_of e ∙ (kind-back b s).0), sym (kind-back a r).1 ∙ (ap (drop 2) e ∙ (kind-back b s).1))

abbrev page_parts : Page → Kind × Bytes
page_parts page = (page.kind, page.body)

abbrev page_of : Kind × Bytes → Page
page_of z = record { kind = z.0; body = z.1 }

page-told : (page : Page) → Told Any page_text page
page-told page = told-as (λ i. Both Any Any (page_parts i)) Any (λ i. both kind_text str (page_parts i)) page_text (λ i. refl) (λ i h. (tt, tt)) page
    (view-told page_parts page_of (λ i. refl) (Both Any Any) (both kind_text str) page (both-told Any Any kind_text str page.kind page.body (kind-told page.kind) (str-told page.body)))

letter-told : (group : Bool) → Told Any letter_text group
letter-told a b h k r s short e = letters-same a b r s e

-- ---- each part is read in one way

count-sure : Sure a_count
count-sure = field-sure num Small num-told

some-sure : Sure some_count
some-sure = field-sure num (λ n. Small n × (0 < n)) (λ n m h k r s short e. num-told n m h.0 k.0 r s short e)

digest-sure : Sure a_digest
digest-sure = field-sure digest_text IsDigest digest-told

id-sure : (last : Option Ident) → Sure (an_id_above last)
id-sure last = field-sure ident_text _ (told-less _ ident_text ident-told)

match-sure : Sure a_match
match-sure =
    after-sure (field str Any) _ (field-sure str Any str-told) (λ text.
    after-sure a_count _ count-sure (λ n.
    after-sure (each n an_id_after []) _ (each-sure an_id_after (λ before. id-sure (last_of before)) n []) (λ ids. given-sure _)))

key-sure : (earlier : List Key) → Sure (a_key earlier)
key-sure earlier =
    after-sure (field ident_text HeldId) _ (field-sure ident_text HeldId (told-less HeldId ident_text ident-told)) (λ id.
    after-sure (field str _) _ (field-sure str _ (told-less _ str str-told)) (λ name. given-sure _))

ask-sure : (earlier : List Key) → Sure (an_ask earlier)
ask-sure earlier =
    after-sure (a_key earlier) _ (key-sure earlier) (λ key.
    after-sure a_digest _ digest-sure (λ page.
    after-sure a_digest _ digest-sure (λ traits. given-sure _)))

group-sure : (before : List MarkView) → Sure (a_group before)
group-sure before =
    after-sure some_count _ some-sure (λ n.
    after-sure (each n (λ group. an_ask (asked_keys before ++ keys_of_asks group)) []) _ (each-sure (λ group. an_ask (asked_keys before ++ keys_of_asks group)) (λ group. ask-sure (asked_keys before ++ keys_of_asks group)) n []) (λ asks. given-sure (asked asks)))

save-sure : (last : Bool) (before : List MarkView) → Sure (a_save last before)
save-sure last before =
    after-sure (field str (FitsName last before)) _ (field-sure str (FitsName last before) (told-less (FitsName last before) str str-told)) (λ name.
    after-sure (field page_text Any) _ (field-sure page_text Any page-told) (λ page. given-sure (stored name page)))

by-sure : (group last : Bool) (before : List MarkView) → Sure (a_mark_by group last before)
by-sure true last before = group-sure before
by-sure false last before = save-sure last before

mark-sure : (last : Bool) (before : List MarkView) → Sure (a_mark_of last before)
mark-sure last before = after-sure (a_letter last) _ (field-sure letter_text _ (told-less _ letter_text letter-told)) (λ group. by-sure group last before)

entry-sure : (last : Option Ident) → Sure (an_entry_above last)
entry-sure last =
    after-sure (an_id_above last) _ (id-sure last) (λ id.
    after-sure a_digest _ digest-sure (λ print.
    after-sure a_count _ count-sure (λ n.
    after-sure (each n (λ earlier. a_match) []) _ (each-sure (λ earlier. a_match) (λ earlier. match-sure) n []) (λ patterns.
    after-sure some_count _ some-sure (λ count.
    after-sure (each count (a_mark count) []) _ (each-sure (a_mark count) (λ before. mark-sure (length before + 1 == count) before) count []) (λ marks. given-sure _))))))

pub store-sure : Sure a_store
store-sure =
    after-sure (field (λ (u : Unit {0}). first_line) Any) _ (field-sure (λ (u : Unit {0}). first_line) Any line-told) (λ u.
    after-sure a_count _ count-sure (λ n.
    after-sure (each n an_entry []) _ (each-sure an_entry (λ before. entry-sure (last_of (ids_of before))) n []) (λ entries.
    after-sure ends _ ends-sure (λ v. given-sure entries))))

-- ---- bytes are sealed in one way

sealed-same : (a b : Bytes) → sealed a ≡ sealed b → a ≡ b
sealed-same a b e =
    (same-length a b (omega (arith, ap length e, length-append a (sha256 a), length-append b (sha256 b), length-sha256 a, length-sha256 b)) (sha256 a) (sha256 b) e).0

old-differs : (rest tail : Bytes) → first_line ++ rest ≡ old_line ++ tail → ⊥
old-differs rest tail e = let w : 50 ≡ 49 = ap (λ l. get_or l 8 0) e in absurd (omega (arith, w))

-- ---- bytes have one answer

module _ (bytes : Bytes) (short : Short bytes) where
  short-text : (text : Bytes) → bytes ≡ sealed text → Short text
  short-text text e = front-short text (sha256 text) (subst Short e short)

  values-same : (es fs : List EntryView) → IsRead bytes (Ok es) → IsRead bytes (Ok fs) → es ≡ fs
  values-same es fs h k =
      let texts : store_text es ≡ store_text fs = sealed-same (store_text es) (store_text fs) (sym h.1.1 ∙ k.1.1) in
      let small : Short (store_text fs) = short-text (store_text fs) k.1.1 in
      let one = subst (λ t. a_store t (Ok (es, []))) texts (store-written es h.0 h.1.0 (short-text (store_text es) h.1.1)) in
      let two = store-written fs k.0 k.1.0 small in
      ap (λ (z : List EntryView × Bytes). z.0) (store-sure.same (store_text fs) small (es, []) (fs, []) one two)

  not-old : (es : List EntryView) → IsRead bytes (Ok es) → IsRead bytes (Err OldVersion) → ⊥
  not-old es h k = old-differs _ k.0 (sealed-same (store_text es) (old_line ++ k.0) (sym h.1.1 ∙ k.1))

  not-shape : (es : List EntryView) (place : ℕ) → IsRead bytes (Ok es) → IsRead bytes (Err (BadShape place)) → ⊥
  not-shape es place h k =
      let texts : store_text es ≡ k.0 = sealed-same (store_text es) k.0 (sym h.1.1 ∙ k.1) in
      let one = subst (λ t. a_store t (Ok (es, []))) texts (store-written es h.0 h.1.0 (short-text (store_text es) h.1.1)) in
      store-sure.apart k.0 (short-text k.0 k.1) (es, []) k.3.0 one k.3.1

  old-or-shape : (place : ℕ) → IsRead bytes (Err OldVersion) → IsRead bytes (Err (BadShape place)) → ⊥
  old-or-shape place h k = k.2 h.0 (sealed-same k.0 (old_line ++ h.0) (sym k.1 ∙ h.1))

  places-same : (m n : ℕ) → IsRead bytes (Err (BadShape m)) → IsRead bytes (Err (BadShape n)) → m ≡ n
  places-same m n h k =
      let texts : h.0 ≡ k.0 = sealed-same h.0 k.0 (sym h.1 ∙ k.1) in
      let lefts : h.3.0 ≡ k.3.0 = store-sure.place k.0 (short-text k.0 k.1) h.3.0 k.3.0 (subst (λ t. a_store t (Err h.3.0)) texts h.3.1) k.3.1 in
      omega (arith, h.3.2, k.3.2, lefts, ap length texts)

  pub one-answer : (a b : Result (List EntryView) StoreDamage) → IsRead bytes a → IsRead bytes b → a ≡ b
  one-answer (Ok es) (Ok fs) h k = ap Ok (values-same es fs h k)
  one-answer (Ok es) (Err BadTrailer) h k = absurd (k (store_text es) h.1.1)
  one-answer (Ok es) (Err OldVersion) h k = absurd (not-old es h k)
  one-answer (Ok es) (Err (BadShape place)) h k = absurd (not-shape es place h k)
  one-answer (Err BadTrailer) (Ok es) h k = absurd (h (store_text es) k.1.1)
  one-answer (Err OldVersion) (Ok es) h k = absurd (not-old es k h)
  one-answer (Err (BadShape place)) (Ok es) h k = absurd (not-shape es place k h)
  one-answer (Err BadTrailer) (Err BadTrailer) h k = refl
  one-answer (Err BadTrailer) (Err OldVersion) h k = absurd (h (old_line ++ k.0) k.1)
  one-answer (Err BadTrailer) (Err (BadShape place)) h k = absurd (h k.0 k.1)
  one-answer (Err OldVersion) (Err BadTrailer) h k = absurd (k (old_line ++ h.0) h.1)
  one-answer (Err (BadShape place)) (Err BadTrailer) h k = absurd (k h.0 h.1)
  one-answer (Err OldVersion) (Err OldVersion) h k = refl
  one-answer (Err OldVersion) (Err (BadShape place)) h k = absurd (old-or-shape place h k)
  one-answer (Err (BadShape place)) (Err OldVersion) h k = absurd (old-or-shape place k h)
  one-answer (Err (BadShape m)) (Err (BadShape n)) h k = ap (λ p. Err (BadShape p)) (places-same m n h k)

-- what is answered is the one answer
pub answers-once : (bytes : Bytes) → Short bytes → (r : Result (List EntryView) (Refusal StoreDamage)) → Answers (IsRead bytes) r → (answer : Result (List EntryView) StoreDamage) → IsRead bytes answer → Answers (λ read. read ≡ answer) r
answers-once bytes short (Ok es) h answer is = one-answer bytes short (Ok es) answer h is
answers-once bytes short (Err (Fault damage)) h answer is = one-answer bytes short (Err damage) answer h is
answers-once bytes short (Err NoMemory) h answer is = tt
