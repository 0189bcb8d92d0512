-- A part of a tag, read again from a text of its own.
use Rattle.std.proofs.Common.{◌≡◌, ℕ, suc, ◌+◌, Bool, true, false, cond, ◌||◌, ◌&&◌, ◌==◌, [], ◌∷◌, ◌++◌, drop, take, arith, refl, sym, ap, subst, ◌∙◌, append_assoc}
use Rattle.std.specs.List.{prefix_len, take_while, list_all}
use Rattle.std.proofs.lemmas.Bool.{eqb-true, eq-eqb, not-false}
use Rattle.std.proofs.lemmas.List.{take-append-drop}
use Rattle.hk_base.specs.Bytes.{Bytes}
use Rattle.hk_html.specs.Kind.{is_white, is_attribute_byte, is_value_byte, is_quote, is_other, first, after_run}
use Rattle.hk_html.specs.Part.{Part, mark, bare, valued, value_part, named_part, attribute, first_part, part_text}
use Rattle.hk_html.proofs.FrontLemmas.{run_front, open_front, quoted_front, sign_front}

-- the text doesn't begin with a byte that passes
abbrev pub Stops : (ℕ → Bool) → Bytes → Type 0
Stops p [] = Unit {0}
Stops p (x ∷ xs) = p x ≡ false

one_more : (n : ℕ) (x : ℕ) (xs : Bytes) → take (1 + n) (x ∷ xs) ≡ x ∷ take n xs
one_more n x xs = let e : 1 + n ≡ suc n = omega arith in rw e

drop_one_more : (n : ℕ) (x : ℕ) (xs : Bytes) → drop (1 + n) (x ∷ xs) ≡ drop n xs
drop_one_more n x xs = let e : 1 + n ≡ suc n = omega arith in rw e

pub run-yes : (p : ℕ → Bool) (x : ℕ) (xs : Bytes) → p x ≡ true → take_while p (x ∷ xs) ≡ x ∷ take_while p xs
run-yes p x xs e = rw e (one_more (prefix_len p xs) x xs)

pub run-no : (p : ℕ → Bool) (x : ℕ) (xs : Bytes) → p x ≡ false → take_while p (x ∷ xs) ≡ []
run-no p x xs e = rw e

pub after-yes : (p : ℕ → Bool) (x : ℕ) (xs : Bytes) → p x ≡ true → after_run p (x ∷ xs) ≡ after_run p xs
after-yes p x xs e = rw e (drop_one_more (prefix_len p xs) x xs)

pub after-no : (p : ℕ → Bool) (x : ℕ) (xs : Bytes) → p x ≡ false → after_run p (x ∷ xs) ≡ x ∷ xs
after-no p x xs e = rw e

both : (a b : Bool) → a ≡ true → b ≡ true → (a && b) ≡ true
both a b e f = rw (e, f)

both_left : (a b : Bool) → (a && b) ≡ true → a ≡ true
both_left true b e = refl
both_left false b e = e

both_right : (a b : Bool) → (a && b) ≡ true → b ≡ true
both_right true b e = e
both_right false b e = cc

pub list_all-run : (p : ℕ → Bool) (text : Bytes) → list_all p (take_while p text) ≡ true
list_all-run p [] = refl
list_all-run p (x ∷ xs) =
    elim (p x) as (λ b. p x ≡ b → list_all p (take_while p (x ∷ xs)) ≡ true) [
      | true ↦ λ e. rw (run-yes p x xs e) (both (p x) (list_all p (take_while p xs)) e (list_all-run p xs))
      | false ↦ λ e. rw (run-no p x xs e)
    ] refl

pub Stops-after : (p : ℕ → Bool) (text : Bytes) → Stops p (after_run p text)
Stops-after p [] = tt
Stops-after p (x ∷ xs) =
    elim (p x) as (λ b. p x ≡ b → Stops p (after_run p (x ∷ xs))) [
      | true ↦ λ e. rw (after-yes p x xs e) (Stops-after p xs)
      | false ↦ λ e. rw (after-no p x xs e) e
    ] refl

pub run_again : (p : ℕ → Bool) (run rest : Bytes) → list_all p run ≡ true → Stops p rest → take_while p (run ++ rest) ≡ run
run_again p [] [] all stop = refl
run_again p [] (y ∷ ys) all stop = run-no p y ys stop
run_again p (x ∷ xs) rest all stop = run-yes p x (xs ++ rest) (both_left (p x) (list_all p xs) all) ∙ ap (λ more. x ∷ more) (run_again p xs rest (both_right (p x) (list_all p xs) all) stop)

pub after_again : (p : ℕ → Bool) (run rest : Bytes) → list_all p run ≡ true → Stops p rest → after_run p (run ++ rest) ≡ rest
after_again p [] [] all stop = refl
after_again p [] (y ∷ ys) all stop = after-no p y ys stop
after_again p (x ∷ xs) rest all stop = after-yes p x (xs ++ rest) (both_left (p x) (list_all p xs) all) ∙ after_again p xs rest (both_right (p x) (list_all p xs) all) stop

-- only the first byte of what follows matters
pub Stops-longer : (p : ℕ → Bool) (text : Bytes) (f : ℕ) (more : Bytes) → Stops p (text ++ (f ∷ [])) → Stops p (text ++ (f ∷ more))
Stops-longer p [] f more stop = stop
Stops-longer p (x ∷ xs) f more stop = stop

pub Stops-shorter : (p : ℕ → Bool) (text : Bytes) (f : ℕ) (more : Bytes) → Stops p (text ++ (f ∷ more)) → Stops p (text ++ (f ∷ []))
Stops-shorter p [] f more stop = stop
Stops-shorter p (x ∷ xs) f more stop = stop

pub first-longer : (text : Bytes) (f : ℕ) (more : Bytes) → first (text ++ (f ∷ more)) ≡ first (text ++ (f ∷ []))
first-longer [] f more = refl
first-longer (x ∷ xs) f more = refl

white_ends_name : (x : ℕ) → is_white x ≡ true → is_attribute_byte x ≡ false
white_ends_name x e = rw e

white_stops : (white : Bytes) (f : ℕ) (more : Bytes) → list_all is_white white ≡ true → is_attribute_byte f ≡ false → Stops is_attribute_byte (white ++ (f ∷ more))
white_stops [] f more all stop = stop
white_stops (x ∷ xs) f more all stop = white_ends_name x (both_left (is_white x) (list_all is_white xs) all)

-- a part, and the byte that follows it
pub data IsPart : Part → ℕ → Type 0 where
  marks : (b f : ℕ) → (is_white b || b == 47) ≡ true → IsPart (mark b) f
  bares : (x : ℕ) (name white : Bytes) (f : ℕ) → (is_white x || x == 47) ≡ false → list_all is_attribute_byte name ≡ true → list_all is_white white ≡ true
      → Stops is_attribute_byte (white ++ (f ∷ [])) → is_white f ≡ false → (f == 61) ≡ false → IsPart (bare ((x ∷ name) ++ white)) f
  quotes : (x : ℕ) (name white gap : Bytes) (q : ℕ) (value : Bytes) (f : ℕ) → (is_white x || x == 47) ≡ false → list_all is_attribute_byte name ≡ true → list_all is_white white ≡ true
      → list_all is_white gap ≡ true → is_white q ≡ false → is_quote q ≡ true → list_all (is_other q) value ≡ true
      → IsPart (valued (x ∷ name) ((white ++ 61 ∷ gap) ++ q ∷ []) value (q ∷ [])) f
  opens : (x : ℕ) (name white gap value : Bytes) (f : ℕ) → (is_white x || x == 47) ≡ false → list_all is_attribute_byte name ≡ true → list_all is_white white ≡ true
      → list_all is_white gap ≡ true → Stops is_white (value ++ (f ∷ [])) → is_quote (first (value ++ (f ∷ []))) ≡ false → list_all is_value_byte value ≡ true → is_value_byte f ≡ false
      → IsPart (valued (x ∷ name) (white ++ 61 ∷ gap) value []) f

attribute_again : (x : ℕ) (name white rest : Bytes) → list_all is_attribute_byte name ≡ true → list_all is_white white ≡ true → Stops is_attribute_byte (white ++ rest) → Stops is_white rest
    → attribute x (name ++ (white ++ rest)) ≡ named_part (x ∷ name) white rest
attribute_again x name white rest names whites ends stop =
    let run = run_again is_attribute_byte name (white ++ rest) names ends in
    let after = after_again is_attribute_byte name (white ++ rest) names ends in
    let gap = run_again is_white white rest whites stop in
    let left = after_again is_white white rest whites stop in
    rw (run, after, gap, left)

named_again-bare : (name white : Bytes) (f : ℕ) (more : Bytes) → (f == 61) ≡ false → named_part name white (f ∷ more) ≡ bare (name ++ white)
named_again-bare name white f more e = rw e

named_again-sign : (name white gap rest : Bytes) → list_all is_white gap ≡ true → Stops is_white rest → named_part name white (61 ∷ (gap ++ rest)) ≡ value_part name (white ++ 61 ∷ gap) rest
named_again-sign name white gap rest whites stop = rw (run_again is_white gap rest whites stop, after_again is_white gap rest whites stop)

same_is_no_other : (q : ℕ) → is_other q q ≡ false
same_is_no_other q = rw (eq-eqb q q refl)

value_again-quoted : (name between : Bytes) (q : ℕ) (value rest : Bytes) → is_quote q ≡ true → list_all (is_other q) value ≡ true
    → value_part name between (q ∷ (value ++ (q ∷ rest))) ≡ valued name (between ++ q ∷ []) value (q ∷ [])
value_again-quoted name between q value rest quote others =
    rw (quote, run_again (is_other q) value (q ∷ rest) others (same_is_no_other q), after_again (is_other q) value (q ∷ rest) others (same_is_no_other q))

value_again-open : (name between value : Bytes) (f : ℕ) (more : Bytes) → is_quote (first (value ++ (f ∷ more))) ≡ false → list_all is_value_byte value ≡ true → is_value_byte f ≡ false
    → value_part name between (value ++ (f ∷ more)) ≡ valued name between value []
value_again-open name between value f more quote values stop = rw (quote, run_again is_value_byte value (f ∷ more) values stop)

part_again-attribute : (x : ℕ) (xs : Bytes) (part : Part) → (is_white x || x == 47) ≡ false → attribute x xs ≡ part → first_part x xs ≡ part
part_again-attribute x xs part other same = rw other same

named_text : (x : ℕ) (name white rest : Bytes) (part : Part) → (is_white x || x == 47) ≡ false → attribute x (name ++ (white ++ rest)) ≡ part → first_part x ((name ++ white) ++ rest) ≡ part
named_text x name white rest part other same = part_again-attribute x ((name ++ white) ++ rest) part other (ap (attribute x) (append_assoc name white rest) ∙ same)

quoted_text : (name white gap : Bytes) (sign q : ℕ) (value close rest : Bytes) → (name ++ (((white ++ (sign ∷ gap)) ++ (q ∷ [])) ++ (value ++ close))) ++ rest ≡ name ++ (white ++ (sign ∷ (gap ++ (q ∷ (value ++ (close ++ rest))))))
quoted_text name white gap sign q value close rest = simp append_assoc

open_text : (name white gap : Bytes) (sign : ℕ) (value rest : Bytes) → (name ++ ((white ++ (sign ∷ gap)) ++ (value ++ []))) ++ rest ≡ name ++ (white ++ (sign ∷ (gap ++ (value ++ rest))))
open_text name white gap sign value rest = simp append_assoc

-- a part is read again, whatever comes after that byte
pub part_again : {part : Part} {f : ℕ} (more : Bytes) → IsPart part f → first_part (first (part_text part ++ (f ∷ more))) (drop 1 (part_text part ++ (f ∷ more))) ≡ part
part_again more (marks b f e) = rw e
part_again more (bares x name white f other names whites ends stop sign) =
    named_text x name white (f ∷ more) (bare ((x ∷ name) ++ white)) other
    (attribute_again x name white (f ∷ more) names whites (Stops-longer is_attribute_byte white f more ends) stop ∙ named_again-bare (x ∷ name) white f more sign)
part_again more (quotes x name white gap q value f other names whites gaps nonwhite quote others) =
    part_again-attribute x ((name ++ (((white ++ (61 ∷ gap)) ++ (q ∷ [])) ++ (value ++ (q ∷ [])))) ++ (f ∷ more)) (valued (x ∷ name) ((white ++ 61 ∷ gap) ++ q ∷ []) value (q ∷ [])) other
    (ap (attribute x) (quoted_text name white gap 61 q value (q ∷ []) (f ∷ more))
    ∙ attribute_again x name white (61 ∷ (gap ++ (q ∷ (value ++ (q ∷ (f ∷ more)))))) names whites (white_stops white 61 _ whites refl) refl
    ∙ named_again-sign (x ∷ name) white gap (q ∷ (value ++ (q ∷ (f ∷ more)))) gaps nonwhite
    ∙ value_again-quoted (x ∷ name) (white ++ 61 ∷ gap) q value (f ∷ more) quote others)
part_again more (opens x name white gap value f other names whites gaps starts quote values stop) =
    part_again-attribute x ((name ++ ((white ++ (61 ∷ gap)) ++ (value ++ []))) ++ (f ∷ more)) (valued (x ∷ name) (white ++ 61 ∷ gap) value []) other
    (ap (attribute x) (open_text name white gap 61 value (f ∷ more))
    ∙ attribute_again x name white (61 ∷ (gap ++ (value ++ (f ∷ more)))) names whites (white_stops white 61 _ whites refl) refl
    ∙ named_again-sign (x ∷ name) white gap (value ++ (f ∷ more)) gaps (Stops-longer is_white value f more starts)
    ∙ value_again-open (x ∷ name) (white ++ 61 ∷ gap) value f more (rw (first-longer value f more) quote) values stop)

bare_front : (name white text : Bytes) → name ++ (white ++ text) ≡ (name ++ white) ++ text
bare_front name white text = sym (append_assoc name white text)

-- what is left after a part, and that the part is one before the byte that follows
pub record Cuts (text : Bytes) (part : Part) : Type 0 where
  pub rest : Bytes
  pub same : text ≡ part_text part ++ rest
  pub is_part : (f : ℕ) (more : Bytes) → rest ≡ f ∷ more → IsPart part f

close_is : (q : ℕ) (text : Bytes) (f : ℕ) (more : Bytes) → Stops (is_other q) text → drop 1 text ≡ f ∷ more → take 1 text ≡ q ∷ []
close_is q [] f more stop e = cc
close_is q (a ∷ left) f more stop e = ap (λ b. b ∷ []) (eqb-true a q (not-false (a == q) stop))

value_cut : (x : ℕ) (name white gap text : Bytes) → (is_white x || x == 47) ≡ false → list_all is_attribute_byte name ≡ true → list_all is_white white ≡ true → list_all is_white gap ≡ true → Stops is_white text
    → Cuts ((x ∷ name) ++ ((white ++ 61 ∷ gap) ++ text)) (value_part (x ∷ name) (white ++ 61 ∷ gap) text)
value_cut x name white gap [] other names whites gaps stop = record {
  rest = [];
  same = open_front (x ∷ name) (white ++ 61 ∷ gap) [] [] [] refl;
  is_part = λ f more e. cc;
}
value_cut x name white gap (q ∷ qs) other names whites gaps stop =
    let between = white ++ 61 ∷ gap in
    elim (is_quote q) as (λ b. is_quote q ≡ b → Cuts ((x ∷ name) ++ (between ++ (q ∷ qs))) (cond b
    (valued (x ∷ name) (between ++ q ∷ []) (take_while (is_other q) qs) (take 1 (after_run (is_other q) qs)))
    (valued (x ∷ name) between (take_while is_value_byte (q ∷ qs)) []))) [
      | true ↦ λ quote. record {
        rest = drop 1 (after_run (is_other q) qs);
        same = quoted_front (x ∷ name) between q qs (take_while (is_other q) qs) (take 1 (after_run (is_other q) qs)) (drop 1 (after_run (is_other q) qs))
            (rw (take-append-drop 1 (after_run (is_other q) qs)) (run_front (is_other q) qs));
        is_part = λ f more e.
            let close = close_is q (after_run (is_other q) qs) f more (Stops-after (is_other q) qs) e in
            rw close (quotes x name white gap q (take_while (is_other q) qs) f other names whites gaps stop quote (list_all-run (is_other q) qs));
      }
      | false ↦ λ quote. record {
        rest = after_run is_value_byte (q ∷ qs);
        same = open_front (x ∷ name) between (q ∷ qs) (take_while is_value_byte (q ∷ qs)) (after_run is_value_byte (q ∷ qs)) (run_front is_value_byte (q ∷ qs));
        is_part = λ f more e.
            let value = take_while is_value_byte (q ∷ qs) in
            let whole : q ∷ qs ≡ value ++ (f ∷ more) = run_front is_value_byte (q ∷ qs) ∙ ap (λ rest. value ++ rest) e in
            let starts : Stops is_white (value ++ (f ∷ more)) = subst (λ (text : Bytes). Stops is_white text) whole stop in
            let none : is_quote (first (value ++ (f ∷ []))) ≡ false = ap is_quote (sym (first-longer value f more)) ∙ ap (λ (text : Bytes). is_quote (first text)) (sym whole) ∙ quote in
            let ends : is_value_byte f ≡ false = subst (λ (text : Bytes). Stops is_value_byte text) e (Stops-after is_value_byte (q ∷ qs)) in
            opens x name white gap value f other names whites gaps (Stops-shorter is_white value f more starts) none (list_all-run is_value_byte (q ∷ qs)) ends;
      }
    ] refl

named_cut : (x : ℕ) (name white text : Bytes) → (is_white x || x == 47) ≡ false → list_all is_attribute_byte name ≡ true → list_all is_white white ≡ true → Stops is_attribute_byte (white ++ text) → Stops is_white text
    → Cuts ((x ∷ name) ++ (white ++ text)) (named_part (x ∷ name) white text)
named_cut x name white [] other names whites ends stop = record { rest = []; same = bare_front (x ∷ name) white []; is_part = λ f more e. cc }
named_cut x name white (y ∷ ys) other names whites ends stop =
    elim (y == 61) as (λ b. (y == 61) ≡ b → Cuts ((x ∷ name) ++ (white ++ (y ∷ ys))) (cond b
    (value_part (x ∷ name) (white ++ 61 ∷ take_while is_white ys) (after_run is_white ys))
    (bare ((x ∷ name) ++ white)))) [
      | true ↦ λ sign.
          let cut = value_cut x name white (take_while is_white ys) (after_run is_white ys) other names whites (list_all-run is_white ys) (Stops-after is_white ys) in
          record {
            rest = cut.rest;
            same = sign_front (x ∷ name) white y ys (take_while is_white ys) (after_run is_white ys) (eqb-true y 61 sign) (run_front is_white ys) ∙ cut.same;
            is_part = cut.is_part;
          }
      | false ↦ λ sign. record {
        rest = y ∷ ys;
        same = bare_front (x ∷ name) white (y ∷ ys);
        is_part = λ f more e.
            let same : y ≡ f = cc in
            subst (λ (g : ℕ). IsPart (bare ((x ∷ name) ++ white)) g) same
            (bares x name white y other names whites (Stops-shorter is_attribute_byte white y ys ends) stop sign);
      }
    ] refl

attribute_cut : (x : ℕ) (xs : Bytes) → (is_white x || x == 47) ≡ false → Cuts (x ∷ xs) (attribute x xs)
attribute_cut x xs other =
    let after = after_run is_attribute_byte xs in
    let ends = subst (λ (text : Bytes). Stops is_attribute_byte text) (run_front is_white after) (Stops-after is_attribute_byte xs) in
    let cut = named_cut x (take_while is_attribute_byte xs) (take_while is_white after) (after_run is_white after) other (list_all-run is_attribute_byte xs) (list_all-run is_white after) ends (Stops-after is_white after) in
    record {
      rest = cut.rest;
      same = ap (λ more. x ∷ more) (run_front is_attribute_byte xs ∙ ap (λ more. take_while is_attribute_byte xs ++ more) (run_front is_white after)) ∙ cut.same;
      is_part = cut.is_part;
    }

-- the part with which a text begins
pub part_cut : (x : ℕ) (xs : Bytes) → Cuts (x ∷ xs) (first_part x xs)
part_cut x xs =
    elim (is_white x || x == 47) as (λ b. (is_white x || x == 47) ≡ b → Cuts (x ∷ xs) (cond b (mark x) (attribute x xs))) [
      | true ↦ λ white. record { rest = xs; same = refl; is_part = λ f more e. marks x f white }
      | false ↦ λ other. attribute_cut x xs other
    ] refl
