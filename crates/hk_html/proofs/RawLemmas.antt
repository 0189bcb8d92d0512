-- Raw text ends where it ended.
use Rattle.std.proofs.Common.{◌≡◌, ℕ, suc, ◌<◌, ◌≤◌, Bool, true, false, not, ◌&&◌, ◌==◌, nat_eq, [], ◌∷◌, ◌++◌, map, codes, length, drop, take, arith, refl, sym, ap, subst, ◌∙◌, inl, inr}
use Rattle.std.specs.List.{take_while, list_all, starts_with}
use Rattle.std.specs.Char.{to_ascii_lowercase}
use Rattle.std.specs.Str.{str_eq_ignore_ascii_case}
use Rattle.std.proofs.lemmas.Bool.{eqb-true, eqb-false, or_cases, and_parts, not-true, cases_lt}
use Rattle.std.proofs.lemmas.List.{append-nil, take-append-drop, length-take-le, take_all, drop_all}
use Rattle.std.proofs.lemmas.Slice.Eq.{bytes_eq-Decides}
use Rattle.std.proofs.Math.Seq.{take-append_seam}
use Rattle.hk_base.specs.Bytes.{Bytes}
use Rattle.hk_html.specs.Kind.{is_tag_byte}
use Rattle.hk_html.specs.Piece.{raw_text, has_raw_text, ends_raw_text}
use Rattle.hk_html.specs.Place.{first_place}
use Rattle.hk_html.specs.Relative.{with_roots}
use Rattle.hk_html.proofs.AgainLemmas.{run-yes, run-no}
use Rattle.hk_html.proofs.PlaceLemmas.{first_place-yes, first_place-no}
use Rattle.hk_html.proofs.FollowLemmas.{Follows, follows, plain_piece, first_place-found}

-- a run without `<` is the same run in a text that follows
run_follows : (p : ℕ → Bool) (text again : Bytes) → Follows text again → list_all (λ b. not (b == 60)) (take_while p text) ≡ true → take_while p again ≡ take_while p text
run_follows p [] again same plain = rw same
run_follows p (x ∷ xs) again same plain =
    ap (λ (t : Bytes). take_while p t) same.1
    ∙ elim (p x) as (λ b. p x ≡ b → take_while p (x ∷ same.0) ≡ take_while p (x ∷ xs)) [
      | true ↦ λ e.
          let run = run-yes p x xs e in
          let tests = and_parts (not (x == 60)) (list_all (λ b. not (b == 60)) (take_while p xs)) (rw run at plain) in
          let plain_first : x ≡ 60 → ⊥ = eqb-false x 60 (not-true (x == 60) tests.0) in
          run-yes p x same.0 e ∙ ap (λ more. x ∷ more) (run_follows p xs same.0 (same.2 (plain_piece x xs plain_first)) tests.1) ∙ sym run
      | false ↦ λ e. run-no p x same.0 e ∙ sym (run-no p x xs e)
    ] refl

lower_plain : (text : Bytes) → list_all (λ b. not (b == 60)) (map to_ascii_lowercase text) ≡ true → list_all (λ b. not (b == 60)) text ≡ true
lower_plain [] plain = refl
lower_plain (x ∷ xs) plain =
    let tests = and_parts (not (to_ascii_lowercase x == 60)) (list_all (λ b. not (b == 60)) (map to_ascii_lowercase xs)) plain in
    elim (x == 60) as (λ b. (x == 60) ≡ b → (not b && list_all (λ b. not (b == 60)) xs) ≡ true) [
      | true ↦ λ e. let x_is = eqb-true x 60 e in let bad : not (to_ascii_lowercase 60 == 60) ≡ true = rw x_is at tests.0 in cc
      | false ↦ λ e. lower_plain xs tests.1
    ] refl

-- the names before raw text have no `<`, and no name that is the same has one
name_plain : (name run : Bytes) → has_raw_text name ≡ true → str_eq_ignore_ascii_case run name ≡ true → list_all (λ b. not (b == 60)) run ≡ true
name_plain name run raw same =
    let lower : map to_ascii_lowercase run ≡ map to_ascii_lowercase name = (bytes_eq-Decides (map to_ascii_lowercase run) (map to_ascii_lowercase name)).0 same in
    lower_plain run (elim (or_cases (str_eq_ignore_ascii_case name (codes "script")) (str_eq_ignore_ascii_case name (codes "style")) raw) [
      | inl e ↦ rw (lower, (bytes_eq-Decides (map to_ascii_lowercase name) (codes "script")).0 e)
      | inr e ↦ rw (lower, (bytes_eq-Decides (map to_ascii_lowercase name) (codes "style")).0 e)
    ])

-- a text that begins with `</`
pub record Closes (text : Bytes) : Type 0 where
  pub rest : Bytes
  pub same : text ≡ 60 ∷ (47 ∷ rest)

closes : (text : Bytes) → starts_with nat_eq text (codes "</") ≡ true → Closes text
closes [] e = cc
closes (a ∷ []) e = let tests = and_parts (nat_eq 60 a) false e in cc
closes (a ∷ (b ∷ rest)) e =
    let tests = and_parts (nat_eq 60 a) (nat_eq 47 b && true) e in
    let more = and_parts (nat_eq 47 b) true tests.1 in
    record { rest = rest; same = rw (← eqb-true 60 a tests.0, ← eqb-true 47 b more.0) }

-- and one that follows it
pub record ClosesAgain (rest again : Bytes) : Type 0 where
  pub more : Bytes
  pub same : again ≡ 60 ∷ (47 ∷ more)
  pub follows : Follows rest more

closes_again : (rest again : Bytes) → Follows (60 ∷ (47 ∷ rest)) again → ClosesAgain rest again
closes_again rest again same =
    let next = same.2 refl in
    record { more = next.0; same = same.1 ∙ ap (λ ys. 60 ∷ ys) next.1; follows = next.2 refl }

run_same : (front rest again : Bytes) → take_while is_tag_byte (front ++ (60 ∷ (47 ∷ again))) ≡ take_while is_tag_byte (front ++ (60 ∷ (47 ∷ rest)))
run_same [] rest again = refl
run_same (x ∷ xs) rest again =
    elim (is_tag_byte x) as (λ b. is_tag_byte x ≡ b → take_while is_tag_byte (x ∷ (xs ++ (60 ∷ (47 ∷ again)))) ≡ take_while is_tag_byte (x ∷ (xs ++ (60 ∷ (47 ∷ rest))))) [
      | true ↦ λ e. run-yes is_tag_byte x (xs ++ (60 ∷ (47 ∷ again))) e ∙ ap (λ more. x ∷ more) (run_same xs rest again) ∙ sym (run-yes is_tag_byte x (xs ++ (60 ∷ (47 ∷ rest))) e)
      | false ↦ λ e. run-no is_tag_byte x (xs ++ (60 ∷ (47 ∷ again))) e ∙ sym (run-no is_tag_byte x (xs ++ (60 ∷ (47 ∷ rest))) e)
    ] refl

-- whether raw text ends before such a text doesn't hang on what follows
ends_same : (name : Bytes) (x : ℕ) (front rest again : Bytes) → ends_raw_text name (x ∷ (front ++ (60 ∷ (47 ∷ again)))) ≡ ends_raw_text name (x ∷ (front ++ (60 ∷ (47 ∷ rest))))
ends_same name x [] rest again =
    elim (nat_eq 60 x) as (λ b. ((b && false) && str_eq_ignore_ascii_case (take_while is_tag_byte (47 ∷ again)) name) ≡ ((b && false) && str_eq_ignore_ascii_case (take_while is_tag_byte (47 ∷ rest)) name)) [ true ↦ refl | false ↦ refl ]
ends_same name x (y ∷ front) rest again = ap (λ (run : Bytes). (nat_eq 60 x && (nat_eq 47 y && true)) && str_eq_ignore_ascii_case run name) (run_same front rest again)

place_same : (name front rest again : Bytes) → ends_raw_text name (60 ∷ (47 ∷ again)) ≡ true → first_place (ends_raw_text name) (front ++ (60 ∷ (47 ∷ rest))) ≡ length front
    → first_place (ends_raw_text name) (front ++ (60 ∷ (47 ∷ again))) ≡ length front
place_same name [] rest again ends at = first_place-found (ends_raw_text name) (60 ∷ (47 ∷ again)) ends
place_same name (x ∷ xs) rest again ends at =
    let test = ends_raw_text name in
    elim (test (x ∷ (xs ++ (60 ∷ (47 ∷ rest))))) as (λ b. test (x ∷ (xs ++ (60 ∷ (47 ∷ rest)))) ≡ b → first_place test (x ∷ (xs ++ (60 ∷ (47 ∷ again)))) ≡ suc (length xs)) [
      | true ↦ λ e. absurd (omega (arith, at, first_place-yes test x (xs ++ (60 ∷ (47 ∷ rest))) e))
      | false ↦ λ e.
          let inner : first_place test (xs ++ (60 ∷ (47 ∷ rest))) ≡ length xs = omega (arith, at, first_place-no test x (xs ++ (60 ∷ (47 ∷ rest))) e) in
          let step = first_place-no test x (xs ++ (60 ∷ (47 ∷ again))) (ends_same name x xs rest again ∙ e) in
          omega (arith, step, place_same name xs rest again ends inner)
    ] refl

place_found : (test : Bytes → Bool) (text : Bytes) → first_place test text < length text → test (drop (first_place test text) text) ≡ true
place_found test [] found = absurd (omega arith)
place_found test (x ∷ xs) found =
    elim (test (x ∷ xs)) as (λ b. test (x ∷ xs) ≡ b → test (drop (first_place test (x ∷ xs)) (x ∷ xs)) ≡ true) [
      | true ↦ λ e. rw (first_place-yes test x xs e) e
      | false ↦ λ e.
          let at = first_place-no test x xs e in
          let next : first_place test (x ∷ xs) ≡ suc (first_place test xs) = omega (arith, at) in
          rw next (place_found test xs (omega (arith, at, found)))
    ] refl

raw_text-none : (name text : Bytes) → has_raw_text name ≡ false → raw_text name text ≡ []
raw_text-none name text e = rw e

raw_text-some : (name text : Bytes) → has_raw_text name ≡ true → raw_text name text ≡ take (first_place (ends_raw_text name) text) text
raw_text-some name text e = rw e

raw_again-found : (root name text : Bytes) → has_raw_text name ≡ true → first_place (ends_raw_text name) text < length text
    → let raw = take (first_place (ends_raw_text name) text) text in raw_text name (raw ++ with_roots root (drop (length raw) text)) ≡ raw
raw_again-found root name text has found =
    let test = ends_raw_text name in
    let place = first_place test text in
    let raw = take place text in
    let size : length raw ≡ place = length-take-le place text (omega arith) in
    let left = drop (length raw) text in
    let ends : test left ≡ true = rw size (place_found test text found) in
    let tests = and_parts (starts_with nat_eq left (codes "</")) (str_eq_ignore_ascii_case (take_while is_tag_byte (drop 2 left)) name) ends in
    let close = closes left tests.0 in
    let same_name : str_eq_ignore_ascii_case (take_while is_tag_byte close.rest) name ≡ true = rw close.same at tests.1 in
    let again = closes_again close.rest (with_roots root left) (subst (λ (t : Bytes). Follows t (with_roots root left)) close.same (follows root left)) in
    let run = run_follows is_tag_byte close.rest again.more again.follows (name_plain name (take_while is_tag_byte close.rest) has same_name) in
    let ends_again : test (60 ∷ (47 ∷ again.more)) ≡ true = ap (λ (r : Bytes). str_eq_ignore_ascii_case r name) run ∙ same_name in
    let whole : raw ++ (60 ∷ (47 ∷ close.rest)) ≡ text = ap (λ (t : Bytes). raw ++ t) (sym close.same) ∙ ap (λ n. raw ++ drop n text) size ∙ take-append-drop place text in
    let at : first_place test (raw ++ (60 ∷ (47 ∷ close.rest))) ≡ length raw = ap (first_place test) whole ∙ sym size in
    let at_again : first_place test (raw ++ with_roots root left) ≡ length raw = ap (λ (t : Bytes). first_place test (raw ++ t)) again.same ∙ place_same name raw close.rest again.more ends_again at in
    raw_text-some name (raw ++ with_roots root left) has ∙ ap (λ n. take n (raw ++ with_roots root left)) at_again ∙ take-append_seam raw (with_roots root left)

raw_again-past : (root name text : Bytes) → has_raw_text name ≡ true → length text ≤ first_place (ends_raw_text name) text
    → let raw = take (first_place (ends_raw_text name) text) text in raw_text name (raw ++ with_roots root (drop (length raw) text)) ≡ raw
raw_again-past root name text has past =
    let raw = take (first_place (ends_raw_text name) text) text in
    let whole : raw ≡ text = take_all (first_place (ends_raw_text name) text) text past in
    let none : drop (length raw) text ≡ [] = drop_all (length raw) text (omega (arith, ap length whole)) in
    ap (λ (t : Bytes). raw_text name (raw ++ with_roots root t)) none ∙ ap (raw_text name) (append-nil raw ∙ whole) ∙ raw_text-some name text has

raw_again-some : (root name text : Bytes) → has_raw_text name ≡ true
    → let raw = take (first_place (ends_raw_text name) text) text in raw_text name (raw ++ with_roots root (drop (length raw) text)) ≡ raw
raw_again-some root name text has =
    elim (cases_lt (first_place (ends_raw_text name) text) (length text)) [
      | inl found ↦ raw_again-found root name text has found
      | inr past ↦ raw_again-past root name text has past
    ]

-- raw text and what follows it, read again
pub raw_again : (root name text : Bytes) → raw_text name (raw_text name text ++ with_roots root (drop (length (raw_text name text)) text)) ≡ raw_text name text
raw_again root name text =
    elim (has_raw_text name) as (λ b. has_raw_text name ≡ b → raw_text name (raw_text name text ++ with_roots root (drop (length (raw_text name text)) text)) ≡ raw_text name text) [
      | true ↦ λ has. subst (λ (raw : Bytes). raw_text name (raw ++ with_roots root (drop (length raw) text)) ≡ raw) (sym (raw_text-some name text has)) (raw_again-some root name text has)
      | false ↦ λ none. raw_text-none name (raw_text name text ++ with_roots root (drop (length (raw_text name text)) text)) none ∙ sym (raw_text-none name text none)
    ] refl
