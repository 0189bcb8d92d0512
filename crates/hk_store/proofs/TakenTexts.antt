-- What is read of a store's text is well formed, and the text is its own.
use Rattle.std.proofs.Common.{◌≡◌, refl, sym, ap, ◌∙◌, subst, arith, ℕ, zero, suc, ◌+◌, ◌<◌, ◌==◌, eq-eqb, Bool, true, false, List, [], ◌∷◌, ◌++◌, append_assoc, append-nil, length, length-append, map, Option}
use Rattle.std.specs.Prelude.{◌||◌, Ok, bytes_eq, codes}
use Rattle.std.proofs.lemmas.List.{map-append}
use Rattle.std.specs.List.{AllByRecursion, IsDistinct, list_any, flat_map}
use Rattle.std.specs.List.Sorted.{IsStrictlySortedBy}
use Rattle.hk_base.specs.Bytes.{Bytes}
use Rattle.hk_base.specs.Identifier.{Ident, ident_cmp}
use Rattle.hk_base.specs.Ties.{bytes-same}
use Rattle.hk_chain.specs.declared.page.Page.{Page}
use Rattle.hk_fix.specs.Table.{Key, same_key}
use Rattle.hk_forms.specs.Names.{is_snapshot_name}
use Rattle.hk_forms.specs.PatternText.{num, str, ident_text}
use Rattle.hk_store.specs.Entry.{AskView, MatchView, MarkView, asked, stored, EntryView}
use Rattle.hk_store.specs.Found.{key_text}
use Rattle.hk_store.specs.Reading.{each}
use Rattle.hk_store.specs.Stored.{is_page_name, keys_of_asks, asked_keys, saved_names, ids_of, IsMark, IsEntry, IsStored, IsDigest, HeldId, HeldAsk, HeldMatch, HeldMark, HeldEntry, AreHeld}
use Rattle.hk_chain.specs.Names.{final_name}
use Rattle.hk_store.specs.StoreReading.{is_above, last_of, an_id_above, an_id_after, a_match, a_key, an_ask, letter_text, a_group, is_save_name, a_save, a_mark_by, a_mark_of, a_mark, an_entry_above, an_entry, a_store}
use Rattle.hk_store.specs.StoreText.{digest_text, page_text, ask_text, match_text, mark_text, entry_text, first_line, store_text}
use Rattle.hk_store.specs.Told.{many}
use Rattle.hk_store.proofs.Orders.{all-both, all-first, all-second, sorted-none, ascends, distinct-none, keys-more, names-more}
use Rattle.hk_store.proofs.Stores.{join, many-join, listed, Listed}

-- ---- patterns and their matches

id-step : (before : List Ident) (bytes : Bytes) (z : Ident × Bytes) → IsStrictlySortedBy ident_cmp before → an_id_after before bytes (Ok z) → (HeldId z.0 × IsStrictlySortedBy ident_cmp (before ++ z.0 ∷ [])) × (bytes ≡ ident_text z.0 ++ z.1)
id-step before bytes z q h = ((h.0.0, ascends before z.0 q h.0.1), h.1)

abbrev Matched : MatchView → Type 0
Matched match = HeldMatch match × IsStrictlySortedBy ident_cmp match.matches

match-taken : (bytes : Bytes) (z : MatchView × Bytes) → a_match bytes (Ok z) → Matched z.0 × (bytes ≡ match_text z.0 ++ z.1)
match-taken bytes z (text, after_text, first, (n, after_count, second, (ids, rest, third, last))) =
    let w = listed an_id_after ident_text HeldId (IsStrictlySortedBy ident_cmp) id-step n after_count (ids, rest) sorted-none third in
    let body = many-join ident_text ids n after_text after_count rest w.count second.1 w.written in
    let whole = join (str text) (many ident_text ids) bytes after_text rest first.1 body in
    let at : Matched (record { text = text; matches = ids }) × (bytes ≡ match_text (record { text = text; matches = ids }) ++ rest) = ((w.members, w.whole), whole) in
    subst (λ (q : MatchView × Bytes). Matched q.0 × (bytes ≡ match_text q.0 ++ q.1)) (λ k. (last.0 k, last.1 k)) at

match-step : (before : List MatchView) (bytes : Bytes) (z : MatchView × Bytes) → Unit {0} → a_match bytes (Ok z) → (Matched z.0 × Unit {0}) × (bytes ≡ match_text z.0 ++ z.1)
match-step before bytes z q h = let m = match-taken bytes z h in ((m.0, tt), m.1)

-- ---- asks

abbrev NewKey : List Key → Key → Type 0
NewKey earlier key = HeldId key.id × ((is_page_name key.name ≡ true) × (list_any (same_key key) earlier ≡ false))

key-taken : (earlier : List Key) (bytes : Bytes) (z : Key × Bytes) → a_key earlier bytes (Ok z) → NewKey earlier z.0 × (bytes ≡ key_text z.0 ++ z.1)
key-taken earlier bytes z (id, after_id, first, (name, rest, second, last)) =
    subst (λ (q : Key × Bytes). NewKey earlier q.0 × (bytes ≡ key_text q.0 ++ q.1)) (λ k. (last.0 k, last.1 k))
    ((first.0, second.0), join (ident_text id) (str name) bytes after_id rest first.1 second.1)

abbrev Asked : AskView → Type 0
Asked ask = HeldAsk ask × (is_page_name ask.key.name ≡ true)

abbrev AskTaken : List Key → Bytes → AskView × Bytes → Type 0
AskTaken earlier bytes q = (Asked q.0 × (list_any (same_key q.0.key) earlier ≡ false)) × (bytes ≡ ask_text q.0 ++ q.1)

ask-taken : (earlier : List Key) (bytes : Bytes) (z : AskView × Bytes) → an_ask earlier bytes (Ok z) → AskTaken earlier bytes z
ask-taken earlier bytes z (key, after_key, first, (page, after_page, second, (traits, rest, third, last))) =
    let k = key-taken earlier bytes (key, after_key) first in
    let digests = join (digest_text page) (digest_text traits) after_key after_page rest second.1 third.1 in
    let whole = join (key_text key) (digest_text page ++ digest_text traits) bytes after_key rest k.1 digests in
    let text = append_assoc (ident_text key.id) (str key.name) (digest_text page ++ digest_text traits) in
    subst (AskTaken earlier bytes) (λ i. (last.0 i, last.1 i))
    ((((k.0.0, (second.0, third.0)), k.0.1.0), k.0.1.1), whole ∙ ap (λ t. t ++ rest) text)

module _ (keys : List Key) where
  abbrev Apart : List AskView → Type 0
  Apart group = IsDistinct same_key (keys ++ keys_of_asks group)

  pub more-keys : (before : List AskView) (ask : AskView) → (keys ++ keys_of_asks before) ++ ask.key ∷ [] ≡ keys ++ keys_of_asks (before ++ ask ∷ [])
  more-keys before ask = append_assoc keys (keys_of_asks before) (ask.key ∷ []) ∙ ap (λ l. keys ++ l) (sym (map-append (λ (a : AskView). a.key) before (ask ∷ [])))

  ask-step : (before : List AskView) (bytes : Bytes) (z : AskView × Bytes) → Apart before → an_ask (keys ++ keys_of_asks before) bytes (Ok z) → (Asked z.0 × Apart (before ++ z.0 ∷ [])) × (bytes ≡ ask_text z.0 ++ z.1)
  ask-step before bytes z q h =
      let a = ask-taken (keys ++ keys_of_asks before) bytes z h in
      ((a.0.0, subst (IsDistinct same_key) (more-keys before z.0) (keys-more (keys ++ keys_of_asks before) z.0.key q a.0.1)), a.1)

-- ---- marks

pub keys-grown : (before later : List MarkView) → asked_keys (before ++ later) ≡ asked_keys before ++ asked_keys later
keys-grown [] later = refl
keys-grown (asked asks ∷ before) later = ap (λ l. keys_of_asks asks ++ l) (keys-grown before later) ∙ sym (append_assoc (keys_of_asks asks) (asked_keys before) (asked_keys later))
keys-grown (stored name page ∷ before) later = keys-grown before later

pub names-grown : (before later : List MarkView) → saved_names (before ++ later) ≡ saved_names before ++ saved_names later
names-grown [] later = refl
names-grown (asked asks ∷ before) later = names-grown before later
names-grown (stored name page ∷ before) later = ap (λ l. name ∷ l) (names-grown before later)

pub group-keys : (before : List MarkView) (asks : List AskView) → asked_keys (before ++ asked asks ∷ []) ≡ asked_keys before ++ keys_of_asks asks
group-keys before asks = keys-grown before (asked asks ∷ []) ∙ ap (λ l. asked_keys before ++ l) (append-nil (keys_of_asks asks))

pub save-keys : (before : List MarkView) (name : Bytes) (page : Page) → asked_keys (before ++ stored name page ∷ []) ≡ asked_keys before
save-keys before name page = keys-grown before (stored name page ∷ []) ∙ append-nil (asked_keys before)

pub group-names : (before : List MarkView) (asks : List AskView) → saved_names (before ++ asked asks ∷ []) ≡ saved_names before
group-names before asks = names-grown before (asked asks ∷ []) ∙ append-nil (saved_names before)

pub save-names : (before : List MarkView) (name : Bytes) (page : Page) → saved_names (before ++ stored name page ∷ []) ≡ saved_names before ++ name ∷ []
save-names before name page = names-grown before (stored name page ∷ [])

or-true : (a b : Bool) → b ≡ true → (a || b) ≡ true
or-true true b e = refl
or-true false b e = e

page-name : (last : Bool) (name : Bytes) → is_save_name last name ≡ true → is_page_name name ≡ true
page-name true name e = or-true (is_snapshot_name name) (bytes_eq name final_name) e
page-name false name e = e

final-name : (last : Bool) (name : Bytes) → is_save_name last name ≡ true → last ≡ true → name ≡ final_name
final-name true name e is = bytes-same name final_name e
final-name false name e is = let w : false ≡ true = is in cc

abbrev Differ : List MarkView → Type 0
Differ marks = IsDistinct same_key (asked_keys marks) × IsDistinct bytes_eq (saved_names marks)

abbrev IsFinal : MarkView → Type 0
IsFinal mark = (page : Page) × (mark ≡ stored final_name page)

record MarkTaken (last : Bool) (before : List MarkView) (bytes : Bytes) (z : MarkView × Bytes) : Type 0 where
  fits : HeldMark z.0 × IsMark z.0
  differ : Differ (before ++ z.0 ∷ [])
  final : last ≡ true → IsFinal z.0
  written : bytes ≡ mark_text z.0 ++ z.1

module _ (last : Bool) (before : List MarkView) (bytes : Bytes) (z : MarkView × Bytes) (q : Differ before) where
  group-taken : (last ≡ true → true ≡ false) → a_group before bytes (Ok z) → MarkTaken last before (letter_text true ++ bytes) z
  group-taken single (n, after_count, first, (asks, rest, second, end)) =
      let w = listed (λ group. an_ask (asked_keys before ++ keys_of_asks group)) ask_text Asked (Apart (asked_keys before)) (ask-step (asked_keys before)) n after_count (asks, rest)
      (subst (IsDistinct same_key) (sym (append-nil (asked_keys before))) q.0) second in
      let body = many-join ask_text asks n bytes after_count rest w.count first.1 w.written in
      subst (MarkTaken last before (letter_text true ++ bytes)) (λ k. (end.0 k, end.1 k))
      (record {
        fits = (all-first HeldAsk (λ ask. is_page_name ask.key.name ≡ true) asks w.members, (omega (arith, w.count, first.0.1), all-second HeldAsk (λ ask. is_page_name ask.key.name ≡ true) asks w.members));
        differ = (subst (IsDistinct same_key) (sym (group-keys before asks)) w.whole, subst (IsDistinct bytes_eq) (sym (group-names before asks)) q.1);
        final = λ e. let w : true ≡ false = single e in cc;
        written = ap (λ l. letter_text true ++ l) body ∙ sym (append_assoc (letter_text true) (many ask_text asks) rest);
      })

  save-taken : a_save last before bytes (Ok z) → MarkTaken last before (letter_text false ++ bytes) z
  save-taken (name, after_name, first, (page, rest, second, end)) =
      let body = join (str name) (page_text page) bytes after_name rest first.1 second.1 in
      subst (MarkTaken last before (letter_text false ++ bytes)) (λ k. (end.0 k, end.1 k))
      (record {
        fits = (tt, page-name last name first.0.0);
        differ = (
          subst (IsDistinct same_key) (sym (save-keys before name page)) q.0,
          subst (IsDistinct bytes_eq) (sym (save-names before name page)) (names-more (saved_names before) name q.1 first.0.1),
        );
        final = λ e. (page, ap (λ n. stored n page) (final-name last name first.0.0 e));
        written = ap (λ l. letter_text false ++ l) body ∙ sym (append_assoc (letter_text false) (str name ++ page_text page) rest);
      })

  by-letter : (group : Bool) → (last ≡ true → group ≡ false) → a_mark_by group last before bytes (Ok z) → MarkTaken last before (letter_text group ++ bytes) z
  by-letter true single h = group-taken single h
  by-letter false single h = save-taken h

mark-taken : (last : Bool) (before : List MarkView) (bytes : Bytes) (z : MarkView × Bytes) → Differ before → a_mark_of last before bytes (Ok z) → MarkTaken last before bytes z
mark-taken last before bytes z q (group, rest, first, second) =
    subst (λ b. MarkTaken last before b z) (sym first.1) (by-letter last before rest z q group first.0 second)

abbrev EndsFinal : List MarkView → Type 0
EndsFinal marks = (front : List MarkView) × (page : Page) × (marks ≡ front ++ stored final_name page ∷ [])

record Trace (count : ℕ) (marks : List MarkView) : Type 0 where
  differ : Differ marks
  final : length marks ≡ count → EndsFinal marks

mark-step : (count : ℕ) (before : List MarkView) (bytes : Bytes) (z : MarkView × Bytes) → Trace count before → a_mark count before bytes (Ok z) → ((HeldMark z.0 × IsMark z.0) × Trace count (before ++ z.0 ∷ [])) × (bytes ≡ mark_text z.0 ++ z.1)
mark-step count before bytes z q h =
    let m = mark-taken (length before + 1 == count) before bytes z q.differ h in (
      (
        m.fits,
        record {
          differ = m.differ;
          final = λ e. let f = m.final (eq-eqb (length before + 1) count (omega (arith, e, length-append before (z.0 ∷ [])))) in
              (before, f.0, ap (λ x. before ++ x ∷ []) f.1);
        },
      ),
      m.written,
    )

-- ---- entries

abbrev Good : EntryView → Type 0
Good entry = HeldEntry entry × IsEntry entry

abbrev EntryTaken : Option Ident → Bytes → EntryView × Bytes → Type 0
EntryTaken last bytes z = (Good z.0 × (is_above last z.0.id ≡ true)) × (bytes ≡ entry_text z.0 ++ z.1)

entry-taken : (last : Option Ident) (bytes : Bytes) (z : EntryView × Bytes) → an_entry_above last bytes (Ok z) → EntryTaken last bytes z
entry-taken last bytes z (id, after_id, first, (print, after_print, second, (n, after_count, third, (patterns, after_patterns, fourth, (count, after_marks, fifth, (marks, rest, sixth, end)))))) =
    let ps = listed (λ earlier. a_match) match_text Matched (λ l. Unit {0}) match-step n after_count (patterns, after_patterns) tt fourth in
    let ms = listed (a_mark count) mark_text (λ m. HeldMark m × IsMark m) (Trace count) (mark-step count) count after_marks (marks, rest)
    (record { differ = (distinct-none same_key, distinct-none bytes_eq); final = λ e. absurd (omega (arith, e, fifth.0.1)) }) sixth in
    let later = join (many match_text patterns) (many mark_text marks) after_print after_patterns rest
    (many-join match_text patterns n after_print after_count after_patterns ps.count third.1 ps.written)
    (many-join mark_text marks count after_patterns after_marks rest ms.count fifth.1 ms.written) in
    let body = join (digest_text print) (many match_text patterns ++ many mark_text marks) after_id after_print rest second.1 later in
    let whole = join (ident_text id) (digest_text print ++ (many match_text patterns ++ many mark_text marks)) bytes after_id rest first.1 body in
    subst (EntryTaken last bytes) (λ k. (end.0 k, end.1 k)) (
      (
        (
          (first.0.0, (second.0, (all-first HeldMatch (λ m. IsStrictlySortedBy ident_cmp m.matches) patterns ps.members, all-first HeldMark IsMark marks ms.members))),
          record {
            patterns = all-second HeldMatch (λ m. IsStrictlySortedBy ident_cmp m.matches) patterns ps.members;
            marks = all-second HeldMark IsMark marks ms.members;
            asks = ms.whole.differ.0;
            saves = ms.whole.differ.1;
            last = ms.whole.final ms.count;
          },
        ),
        first.0.1,
      ),
      whole,
    )

pub ids-grown : (before : List EntryView) (entry : EntryView) (later : List EntryView) → ids_of (before ++ entry ∷ later) ≡ ids_of before ++ entry.id ∷ ids_of later
ids-grown before entry later = map-append (λ (e : EntryView). e.id) before (entry ∷ later)

entry-step : (before : List EntryView) (bytes : Bytes) (z : EntryView × Bytes) → IsStrictlySortedBy ident_cmp (ids_of before) → an_entry before bytes (Ok z) → (Good z.0 × IsStrictlySortedBy ident_cmp (ids_of (before ++ z.0 ∷ []))) × (bytes ≡ entry_text z.0 ++ z.1)
entry-step before bytes z q h =
    let e = entry-taken (last_of (ids_of before)) bytes z h in
    ((e.0.0, subst (IsStrictlySortedBy ident_cmp) (sym (ids-grown before z.0 [])) (ascends (ids_of before) z.0.id q e.0.1)), e.1)

-- what is read is a well-formed value, of which all is the text
abbrev pub StoreTaken : Bytes → List EntryView × Bytes → Type 0
StoreTaken bytes z = (AreHeld z.0 × IsStored z.0) × ((bytes ≡ store_text z.0) × (z.1 ≡ []))

pub store-taken : (bytes : Bytes) (z : List EntryView × Bytes) → a_store bytes (Ok z) → StoreTaken bytes z
store-taken bytes z (u, after_line, first, (n, after_count, second, (entries, after_entries, third, (v, rest, fourth, end)))) =
    let es = listed an_entry entry_text Good (λ l. IsStrictlySortedBy ident_cmp (ids_of l)) entry-step n after_count (entries, after_entries) sorted-none third in
    let body = many-join entry_text entries n after_line after_count after_entries es.count second.1 es.written in
    let whole = join first_line (many entry_text entries) bytes after_line after_entries first.1 body in
    subst (StoreTaken bytes) (λ k. (end.0 k, end.1 k)) (
      (all-first HeldEntry IsEntry entries es.members, record { order = es.whole; each = all-second HeldEntry IsEntry entries es.members }),
      ((whole ∙ (ap (λ r. store_text entries ++ r) fourth.1 ∙ append-nil (store_text entries))), sym fourth.0 ∙ fourth.1),
    )
