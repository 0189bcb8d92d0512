-- The text of a well-formed value is read as it.
use Rattle.std.proofs.Common.{◌≡◌, refl, sym, ap, ◌∙◌, subst, arith, ℕ, zero, suc, ◌+◌, ◌<◌, ◌≤◌, ◌==◌, Bool, true, false, List, [], ◌∷◌, ◌++◌, append_assoc, append-nil, length, length-append, map, Option}
use Rattle.std.specs.Prelude.{Ok, bytes_eq, codes}
use Rattle.std.proofs.lemmas.List.{map-append}
use Rattle.std.proofs.Common.{eqb-true}
use Rattle.std.specs.List.{AllByRecursion, IsDistinct, list_any, flat_map}
use Rattle.std.specs.List.Sorted.{IsStrictlySortedBy}
use Rattle.hk_base.specs.Bytes.{Bytes}
use Rattle.hk_base.specs.Identifier.{Ident, ident_cmp}
use Rattle.hk_base.specs.Ties.{bytes-self}
use Rattle.hk_chain.specs.declared.page.Page.{Page}
use Rattle.hk_fix.specs.Table.{Key, same_key}
use Rattle.hk_forms.specs.PatternText.{num, str, ident_text}
use Rattle.hk_store.specs.Entry.{AskView, MatchView, MarkView, asked, stored, EntryView}
use Rattle.hk_store.specs.Reading.{each}
use Rattle.hk_store.specs.Stored.{is_page_name, keys_of_asks, asked_keys, saved_names, ids_of, IsMark, IsEntry, IsStored, IsDigest, HeldId, HeldAsk, HeldMatch, HeldMark, HeldEntry, AreHeld}
use Rattle.hk_chain.specs.Names.{final_name}
use Rattle.hk_store.specs.StoreReading.{is_above, last_of, an_id_after, a_match, an_ask, letter_text, is_save_name, a_mark, an_entry_above, an_entry, a_store}
use Rattle.hk_store.specs.StoreText.{digest_text, page_text, ask_text, match_text, mark_text, entry_text, first_line, store_text}
use Rattle.hk_store.specs.Told.{Small, Short, many}
use Rattle.hk_store.proofs.Orders.{all-both, ascended, distinct-front, keys-new, names-new, last-same}
use Rattle.hk_store.proofs.Stores.{list-read}
use Rattle.hk_store.proofs.TakenTexts.{keys-grown, names-grown, ids-grown}
use Rattle.hk_store.proofs.Telling.{back-short, front-short, regroup, many-short, str-full, ident-full}

-- ---- each text has a byte

match-full : (match : MatchView) → 0 < length (match_text match)
match-full match = omega (arith, length-append (str match.text) (many ident_text match.matches), str-full match.text)

ask-full : (ask : AskView) → 0 < length (ask_text ask)
ask-full ask = omega (arith, length-append (ident_text ask.key.id) (str ask.key.name ++ (digest_text ask.page ++ digest_text ask.traits)), ident-full ask.key.id)

mark-full : (mark : MarkView) → 0 < length (mark_text mark)
mark-full (asked asks) = omega (arith, length-append (codes "a\n") (many ask_text asks))
mark-full (stored name page) = omega (arith, length-append (codes "s\n") (str name ++ page_text page))

entry-full : (entry : EntryView) → 0 < length (entry_text entry)
entry-full entry = omega (arith, length-append (ident_text entry.id) (digest_text entry.print ++ (many match_text entry.patterns ++ many mark_text entry.marks)), ident-full entry.id)

-- ---- patterns and their matches

id-written : (before : List Ident) (id : Ident) (later : List Ident) (rest : Bytes) → Short (ident_text id ++ rest) → HeldId id → IsStrictlySortedBy ident_cmp (before ++ id ∷ later) → an_id_after before (ident_text id ++ rest) (Ok (id, rest))
id-written before id later rest short h q = ((h, ascended before id later q), refl)

abbrev Matched : MatchView → Type 0
Matched match = HeldMatch match × IsStrictlySortedBy ident_cmp match.matches

match-written : (before : List MatchView) (match : MatchView) (later : List MatchView) (rest : Bytes) → Short (match_text match ++ rest) → Matched match → Unit {0} → a_match (match_text match ++ rest) (Ok (match, rest))
match-written before match later rest short h q =
    let body : Bytes = many ident_text match.matches in
    let inner : Short (body ++ rest) = back-short (str match.text) (body ++ rest) (regroup (str match.text) body rest short) in
    let ids : Bytes = flat_map ident_text match.matches in
    let members : Short (ids ++ rest) = back-short (num (length match.matches)) (ids ++ rest) (regroup (num (length match.matches)) ids rest inner) in (
      match.text,
      body ++ rest,
      (tt, append_assoc (str match.text) body rest),
      (
        length match.matches,
        ids ++ rest,
        (many-short (λ i. Unit {0}) ident_text ident-full match.matches rest inner, append_assoc (num (length match.matches)) ids rest),
        (match.matches, rest, list-read an_id_after ident_text HeldId (IsStrictlySortedBy ident_cmp) id-written match.matches rest members h.0 h.1, (refl, refl)),
      ),
    )

-- ---- asks

abbrev Asked : AskView → Type 0
Asked ask = HeldAsk ask × (is_page_name ask.key.name ≡ true)

module _ (keys : List Key) where
  abbrev Apart : List AskView → Type 0
  Apart group = IsDistinct same_key (keys ++ keys_of_asks group)

  ask-new : (before : List AskView) (ask : AskView) (later : List AskView) → Apart (before ++ ask ∷ later) → list_any (same_key ask.key) (keys ++ keys_of_asks before) ≡ false
  ask-new before ask later q =
      let grown : keys ++ keys_of_asks (before ++ ask ∷ later) ≡ (keys ++ keys_of_asks before) ++ (ask.key ∷ keys_of_asks later) =
      ap (λ l. keys ++ l) (map-append (λ (a : AskView). a.key) before (ask ∷ later)) ∙ sym (append_assoc keys (keys_of_asks before) (ask.key ∷ keys_of_asks later)) in
      keys-new (keys ++ keys_of_asks before) ask.key (keys_of_asks later) (subst (IsDistinct same_key) grown q)

  ask-written : (before : List AskView) (ask : AskView) (later : List AskView) (rest : Bytes) → Short (ask_text ask ++ rest) → Asked ask → Apart (before ++ ask ∷ later) → an_ask (keys ++ keys_of_asks before) (ask_text ask ++ rest) (Ok (ask, rest))
  ask-written before ask later rest short h q =
      let digests : Bytes = digest_text ask.page ++ digest_text ask.traits in (
        ask.key,
        digests ++ rest,
        (
          ask.key.id,
          (str ask.key.name ++ digests) ++ rest,
          (h.0.0, append_assoc (ident_text ask.key.id) (str ask.key.name ++ digests) rest),
          (ask.key.name, digests ++ rest, ((h.1, ask-new before ask later q), append_assoc (str ask.key.name) digests rest), (refl, refl)),
        ),
        (
          ask.page,
          digest_text ask.traits ++ rest,
          (h.0.1.0, append_assoc (digest_text ask.page) (digest_text ask.traits) rest),
          (ask.traits, rest, (h.0.1.1, refl), (refl, refl)),
        ),
      )

-- ---- marks

abbrev EndsFinal : List MarkView → Type 0
EndsFinal marks = (front : List MarkView) × (page : Page) × (marks ≡ front ++ stored final_name page ∷ [])

record Trace (count : ℕ) (marks : List MarkView) : Type 0 where
  asks : IsDistinct same_key (asked_keys marks)
  saves : IsDistinct bytes_eq (saved_names marks)
  long : length marks ≡ count
  final : EndsFinal marks

none-left : (later : List MarkView) → length later ≡ 0 → later ≡ []
none-left [] e = refl
none-left (m ∷ ms) e = absurd (omega (arith, e))

module _ (count : ℕ) (before : List MarkView) (mark : MarkView) (later : List MarkView) (q : Trace count (before ++ mark ∷ later)) where
  is-last : (length before + 1 == count) ≡ true → (page : Page) × (mark ≡ stored final_name page)
  is-last e =
      let place : length before + 1 ≡ count = eqb-true (length before + 1) count e in
      let none : later ≡ [] = none-left later (omega (arith, place, q.long, length-append before (mark ∷ later))) in
      let whole : before ++ mark ∷ [] ≡ q.final.0 ++ stored final_name q.final.1 ∷ [] = ap (λ l. before ++ mark ∷ l) (sym none) ∙ q.final.2 in
      (q.final.1, last-same before mark q.final.0 (stored final_name q.final.1) whole)

not-stored : (asks : List AskView) (name : Bytes) (page : Page) → asked asks ≡ stored name page → ⊥
not-stored asks name page e = cc

name-of : (n m : Bytes) (p r : Page) → stored n p ≡ stored m r → n ≡ m
name-of n m p r e = cc

group-last : (count : ℕ) (before : List MarkView) (asks : List AskView) (later : List MarkView) → Trace count (before ++ asked asks ∷ later) → (length before + 1 == count) ≡ true → true ≡ false
group-last count before asks later q e =
    let f = is-last count before (asked asks) later q e in
    absurd (not-stored asks final_name f.0 f.1)

save-last : (count : ℕ) (before : List MarkView) (name : Bytes) (page : Page) (later : List MarkView) → Trace count (before ++ stored name page ∷ later) → (length before + 1 == count) ≡ true → name ≡ final_name
save-last count before name page later q e =
    let f = is-last count before (stored name page) later q e in
    name-of name final_name page f.0 f.1

save-name : (last : Bool) (name : Bytes) → is_page_name name ≡ true → (last ≡ true → name ≡ final_name) → is_save_name last name ≡ true
save-name true name e final = ap (λ n. bytes_eq n final_name) (final refl) ∙ bytes-self final_name
save-name false name e final = e

abbrev Marked : MarkView → Type 0
Marked mark = HeldMark mark × IsMark mark

mark-written : (count : ℕ) (before : List MarkView) (mark : MarkView) (later : List MarkView) (rest : Bytes) → Short (mark_text mark ++ rest) → Marked mark → Trace count (before ++ mark ∷ later) → a_mark count before (mark_text mark ++ rest) (Ok (mark, rest))
mark-written count before (asked asks) later rest short h q =
    let body : Bytes = many ask_text asks in
    let inner : Short (body ++ rest) = back-short (codes "a\n") (body ++ rest) (regroup (codes "a\n") body rest short) in
    let members : Bytes = flat_map ask_text asks in
    let tail : Short (members ++ rest) = back-short (num (length asks)) (members ++ rest) (regroup (num (length asks)) members rest inner) in
    let keys : List Key = asked_keys before in
    let apart : IsDistinct same_key (keys ++ keys_of_asks asks) =
    distinct-front same_key (keys ++ keys_of_asks asks) (asked_keys later)
    (subst (IsDistinct same_key) (keys-grown before (asked asks ∷ later) ∙ sym (append_assoc keys (keys_of_asks asks) (asked_keys later))) q.asks) in (
      true,
      body ++ rest,
      (group-last count before asks later q, append_assoc (codes "a\n") body rest),
      (
        length asks,
        members ++ rest,
        ((many-short (λ a. Unit {0}) ask_text ask-full asks rest inner, h.1.0), append_assoc (num (length asks)) members rest),
        (
          asks,
          rest,
          list-read (λ group. an_ask (keys ++ keys_of_asks group)) ask_text Asked (Apart keys) (ask-written keys) asks rest tail
              (all-both HeldAsk (λ ask. is_page_name ask.key.name ≡ true) asks h.0 h.1.1) apart,
          (refl, refl),
        ),
      ),
    )
mark-written count before (stored name page) later rest short h q =
    let new : list_any (bytes_eq name) (saved_names before) ≡ false =
    names-new (saved_names before) name (saved_names later) (subst (IsDistinct bytes_eq) (names-grown before (stored name page ∷ later)) q.saves) in (
      false,
      (str name ++ page_text page) ++ rest,
      ((λ e. refl), append_assoc (codes "s\n") (str name ++ page_text page) rest),
      (
        name,
        page_text page ++ rest,
        ((save-name (length before + 1 == count) name h.1 (save-last count before name page later q), new), append_assoc (str name) (page_text page) rest),
        (page, rest, (tt, refl), (refl, refl)),
      ),
    )

-- ---- entries

some-marks : (marks : List MarkView) → EndsFinal marks → 0 < length marks
some-marks marks f = omega (arith, ap length f.2, length-append f.0 (stored final_name f.1 ∷ []))

abbrev Good : EntryView → Type 0
Good entry = HeldEntry entry × IsEntry entry

entry-written : (before : List EntryView) (entry : EntryView) (later : List EntryView) (rest : Bytes) → Short (entry_text entry ++ rest) → Good entry → IsStrictlySortedBy ident_cmp (ids_of (before ++ entry ∷ later)) → an_entry before (entry_text entry ++ rest) (Ok (entry, rest))
entry-written before entry later rest short h q =
    let held : HeldEntry entry = h.0 in
    let is : IsEntry entry = h.1 in
    let ps : Bytes = many match_text entry.patterns in
    let ms : Bytes = many mark_text entry.marks in
    let each_p : Bytes = flat_map match_text entry.patterns in
    let each_m : Bytes = flat_map mark_text entry.marks in
    let above = ascended (ids_of before) entry.id (ids_of later) (subst (IsStrictlySortedBy ident_cmp) (ids-grown before entry later) q) in
    let one : Short ((digest_text entry.print ++ (ps ++ ms)) ++ rest) = back-short (ident_text entry.id) ((digest_text entry.print ++ (ps ++ ms)) ++ rest) (regroup (ident_text entry.id) (digest_text entry.print ++ (ps ++ ms)) rest short) in
    let two : Short ((ps ++ ms) ++ rest) = back-short (digest_text entry.print) ((ps ++ ms) ++ rest) (regroup (digest_text entry.print) (ps ++ ms) rest one) in
    let three : Short (ps ++ (ms ++ rest)) = regroup ps ms rest two in
    let four : Short (ms ++ rest) = back-short ps (ms ++ rest) three in
    let five : Short (each_p ++ (ms ++ rest)) = back-short (num (length entry.patterns)) (each_p ++ (ms ++ rest)) (regroup (num (length entry.patterns)) each_p (ms ++ rest) three) in
    let six : Short (each_m ++ rest) = back-short (num (length entry.marks)) (each_m ++ rest) (regroup (num (length entry.marks)) each_m rest four) in (
      entry.id,
      (digest_text entry.print ++ (ps ++ ms)) ++ rest,
      ((held.0, above), append_assoc (ident_text entry.id) (digest_text entry.print ++ (ps ++ ms)) rest),
      (
        entry.print,
        (ps ++ ms) ++ rest,
        (held.1.0, append_assoc (digest_text entry.print) (ps ++ ms) rest),
        (
          length entry.patterns,
          each_p ++ (ms ++ rest),
          (many-short (λ m. Unit {0}) match_text match-full entry.patterns (ms ++ rest) three, append_assoc ps ms rest ∙ append_assoc (num (length entry.patterns)) each_p (ms ++ rest)),
          (
            entry.patterns,
            ms ++ rest,
            list-read (λ earlier. a_match) match_text Matched (λ l. Unit {0}) match-written entry.patterns (ms ++ rest) five
                (all-both HeldMatch (λ m. IsStrictlySortedBy ident_cmp m.matches) entry.patterns held.1.1.0 is.patterns) tt,
            (
              length entry.marks,
              each_m ++ rest,
              ((many-short (λ m. Unit {0}) mark_text mark-full entry.marks rest four, some-marks entry.marks is.last), append_assoc (num (length entry.marks)) each_m rest),
              (
                entry.marks,
                rest,
                list-read (a_mark (length entry.marks)) mark_text Marked (Trace (length entry.marks)) (mark-written (length entry.marks)) entry.marks rest six
                    (all-both HeldMark IsMark entry.marks held.1.1.1 is.marks)
                    (record { asks = is.asks; saves = is.saves; long = refl; final = is.last }),
                (refl, refl),
              ),
            ),
          ),
        ),
      ),
    )

-- the text of a well-formed value is read as it
pub store-written : (entries : List EntryView) → AreHeld entries → IsStored entries → Short (store_text entries) → a_store (store_text entries) (Ok (entries, []))
store-written entries held is short =
    let body : Bytes = many entry_text entries in
    let members : Bytes = flat_map entry_text entries in
    let one : Short body = back-short first_line body short in
    let two : Short members = back-short (num (length entries)) members one in
    let ended : members ++ [] ≡ members = append-nil members in (
      tt,
      body,
      (tt, refl),
      (
        length entries,
        members,
        (many-short (λ e. Unit {0}) entry_text entry-full entries [] (subst Short (sym (append-nil body)) one), refl),
        (
          entries,
          [],
          subst (λ b. each (length entries) an_entry [] b (Ok (entries, []))) ended
              (list-read an_entry entry_text Good (λ l. IsStrictlySortedBy ident_cmp (ids_of l)) entry-written entries [] (subst Short (sym ended) two)
              (all-both HeldEntry IsEntry entries held is.each) is.order),
          (tt, [], (refl, refl), (refl, refl)),
        ),
      ),
    )
