-- The parts that a tag is cut into are those that fit, and no others.
use Rattle.std.proofs.Common.{◌≡◌, ℕ, zero, suc, ◌<◌, ◌≤◌, Bool, true, false, not, ◌||◌, ◌&&◌, ◌==◌, List, [], ◌∷◌, ◌++◌, Some, length, drop, arith, refl, sym, ap, subst, ◌∙◌, inl, inr, append_assoc}
use Rattle.std.specs.List.{list_all}
use Rattle.std.specs.Option.{option_map}
use Rattle.std.proofs.lemmas.Bool.{eqb-true, eqb-false, ne_eqb}
use Rattle.std.proofs.Math.Seq.{drop-append_seam}
use Rattle.hk_base.specs.Bytes.{Bytes}
use Rattle.hk_html.specs.Kind.{is_white, is_attribute_byte, is_value_byte, is_quote, is_other, first}
use Rattle.hk_html.specs.Part.{Part, mark, bare, valued, first_part, part_text, parts_of, parts_text}
use Rattle.hk_html.proofs.AgainLemmas.{Stops, Stops-longer, Stops-shorter, IsPart, marks, bares, quotes, opens, part_again, part_cut}
use Rattle.hk_html.proofs.JoinLemmas.{one_before, shorter}
use Rattle.hk_html.proofs.PartsLemmas.{parts_of-ahead, parts_of-more, first_part-some}
use Rattle.hk_laws.specs.Runs.{is_of, is_outside, BeginsOther}
use Rattle.hk_laws.specs.Tags.{is_white_byte, is_tag_name_byte, is_attribute_name_byte, is_open_value_byte, is_quote_mark, IsAttributeName, IsBare, IsSigned, IsQuoted, IsUnquoted, FitsPart, FitsParts}
use Rattle.hk_laws.proofs.KindLemmas.{white_same, slash_same, tag_same, attribute_same, value_same, quote_same, other_same, sign_same, all_same, stops, longest}

outside_parts : (a b c : Bool) → not ((a || b) || c) ≡ true → ((a || b) ≡ false) × (c ≡ false)
outside_parts true b c e = cc
outside_parts false true c e = cc
outside_parts false false true e = cc
outside_parts false false false e = (refl, refl)

outside_of : (a b c : Bool) → (a || b) ≡ false → c ≡ false → not ((a || b) || c) ≡ true
outside_of true b c e f = cc
outside_of false true c e f = cc
outside_of false false true e f = cc
outside_of false false false e f = refl

-- the first byte of a name
name_first : (x : ℕ) → is_tag_name_byte x ≡ true → ((is_white x || x == 47) ≡ false) × ((x == 62) ≡ false)
name_first x e = outside_parts (is_white x) (x == 47) (x == 62) (sym (tag_same x) ∙ e)

first_name : (x : ℕ) → (is_white x || x == 47) ≡ false → (x ≡ 62 → ⊥) → is_tag_name_byte x ≡ true
first_name x other end = tag_same x ∙ outside_of (is_white x) (x == 47) (x == 62) other (ne_eqb x 62 end)

unquoted_first : (value : Bytes) (f : ℕ) (more : Bytes) → BeginsOther is_quote_mark (value ++ (f ∷ more)) → is_quote (first (value ++ (f ∷ []))) ≡ false
unquoted_first [] f more plain = sym (quote_same f) ∙ plain
unquoted_first (x ∷ xs) f more plain = sym (quote_same x) ∙ plain

first_unquoted : (value : Bytes) (f : ℕ) (more : Bytes) → is_quote (first (value ++ (f ∷ []))) ≡ false → BeginsOther is_quote_mark (value ++ (f ∷ more))
first_unquoted [] f more e = quote_same f ∙ e
first_unquoted (x ∷ xs) f more e = quote_same x ∙ e

bare_is_part : (text : Bytes) (f : ℕ) (more : Bytes) → IsBare text (f ∷ more) → IsPart (bare text) f
bare_is_part text f more is =
    let named = is.named in
    let text_is : (named.head ∷ named.more) ++ is.white ≡ text = sym (is.spelled ∙ ap (λ (n : Bytes). n ++ is.white) named.spelled) in
    let other = name_first named.head named.begins in
    subst (λ (t : Bytes). IsPart (bare t) f) text_is
    (bares named.head named.more is.white f other.0
    (all_same is_attribute_name_byte is_attribute_byte named.more attribute_same named.longest.passes)
    (all_same is_white_byte is_white is.white white_same is.spaced.passes)
    (Stops-shorter is_attribute_byte is.white f more (stops is_attribute_name_byte is_attribute_byte (is.white ++ (f ∷ more)) attribute_same named.longest.ended))
    (sym (white_same f) ∙ is.spaced.ended)
    (sym (sign_same f) ∙ is.unsigned))

quoted_is_part : (name between value close : Bytes) (f : ℕ) (more : Bytes) → IsQuoted name between value close (f ∷ more) → IsPart (valued name between value close) f
quoted_is_part name between value close f more is =
    let signed = is.signed in
    let named = signed.named in
    let q = is.quote in
    let between_is : (signed.before ++ 61 ∷ signed.after) ++ q ∷ [] ≡ between = sym (is.spelled ∙ ap (λ (s : Bytes). s ++ q ∷ []) signed.spelled) in
    let part_is : valued (named.head ∷ named.more) ((signed.before ++ 61 ∷ signed.after) ++ q ∷ []) value (q ∷ []) ≡ valued name between value close = (λ i. valued (sym named.spelled i) (between_is i) value (sym is.closed i)) in
    let other = name_first named.head named.begins in
    subst (λ (part : Part). IsPart part f) part_is
    (quotes named.head named.more signed.before signed.after q value f other.0
    (all_same is_attribute_name_byte is_attribute_byte named.more attribute_same named.longest.passes)
    (all_same is_white_byte is_white signed.before white_same signed.white)
    (all_same is_white_byte is_white signed.after white_same signed.spaced.passes)
    (sym (white_same q) ∙ signed.spaced.ended)
    (sym (quote_same q) ∙ is.kind)
    (all_same (is_outside (q ∷ [])) (is_other q) value (other_same q) is.inside))

open_is_part : (name between value close : Bytes) (f : ℕ) (more : Bytes) → IsUnquoted name between value close (f ∷ more) → IsPart (valued name between value close) f
open_is_part name between value close f more is =
    let signed = is.signed in
    let named = signed.named in
    let between_is : signed.before ++ 61 ∷ signed.after ≡ between = sym signed.spelled in
    let part_is : valued (named.head ∷ named.more) (signed.before ++ 61 ∷ signed.after) value [] ≡ valued name between value close = (λ i. valued (sym named.spelled i) (between_is i) value (sym is.closed i)) in
    let other = name_first named.head named.begins in
    subst (λ (part : Part). IsPart part f) part_is
    (opens named.head named.more signed.before signed.after value f other.0
    (all_same is_attribute_name_byte is_attribute_byte named.more attribute_same named.longest.passes)
    (all_same is_white_byte is_white signed.before white_same signed.white)
    (all_same is_white_byte is_white signed.after white_same signed.spaced.passes)
    (Stops-shorter is_white value f more (stops is_white_byte is_white (value ++ (f ∷ more)) white_same signed.spaced.ended))
    (unquoted_first value f more is.plain)
    (all_same is_open_value_byte is_value_byte value value_same is.longest.passes)
    (sym (value_same f) ∙ is.longest.ended))

-- a part that fits before a byte is one that a scan reads before it
pub fits_is_part : (part : Part) (f : ℕ) (more : Bytes) → FitsPart part (f ∷ more) → IsPart part f
fits_is_part (mark b) f more fits = marks b f (sym (slash_same b) ∙ fits)
fits_is_part (bare text) f more fits = bare_is_part text f more fits
fits_is_part (valued name between value close) f more (inl is) = quoted_is_part name between value close f more is
fits_is_part (valued name between value close) f more (inr is) = open_is_part name between value close f more is

-- white before a sign isn't the name
white_ends : (x : ℕ) → is_white x ≡ true → is_attribute_byte x ≡ false
white_ends x e = rw e

sign_stops : (white rest : Bytes) → list_all is_white white ≡ true → Stops is_attribute_byte (white ++ (61 ∷ rest))
sign_stops [] rest all = refl
sign_stops (x ∷ xs) rest all =
    elim (is_white x) as (λ b. is_white x ≡ b → (b && list_all is_white xs) ≡ true → is_attribute_byte x ≡ false) [
      | true ↦ λ e _. white_ends x e
      | false ↦ λ e none. cc
    ] refl all

name_before : (x : ℕ) (name rest : Bytes) → (is_white x || x == 47) ≡ false → (x ≡ 62 → ⊥) → list_all is_attribute_byte name ≡ true → Stops is_attribute_byte rest → IsAttributeName (x ∷ name) rest
name_before x name rest other end names stop = record {
  head = x;
  more = name;
  spelled = refl;
  begins = first_name x other end;
  longest = longest is_attribute_name_byte is_attribute_byte name rest attribute_same names stop;
}

signed_before : (x : ℕ) (name white gap rest : Bytes) → (is_white x || x == 47) ≡ false → (x ≡ 62 → ⊥) → list_all is_attribute_byte name ≡ true → list_all is_white white ≡ true → list_all is_white gap ≡ true → Stops is_white rest
    → IsSigned (x ∷ name) (white ++ 61 ∷ gap) rest
signed_before x name white gap rest other end names whites gaps stop = record {
  before = white;
  after = gap;
  spelled = refl;
  named = name_before x name ((white ++ 61 ∷ gap) ++ rest) other end names
      (subst (λ (t : Bytes). Stops is_attribute_byte t) (sym (append_assoc white (61 ∷ gap) rest)) (sign_stops white (gap ++ rest) whites));
  white = all_same is_white is_white_byte white (λ b. sym (white_same b)) whites;
  spaced = longest is_white_byte is_white gap rest white_same gaps stop;
}

-- and the other way round
pub part_fits : {part : Part} {f : ℕ} (more : Bytes) → IsPart part f → (first (part_text part) ≡ 62 → ⊥) → FitsPart part (f ∷ more)
part_fits more (marks b f e) end = slash_same b ∙ e
part_fits more (bares x name white f other names whites ends stop sign) end = record {
  name = x ∷ name;
  white = white;
  spelled = refl;
  named = name_before x name (white ++ (f ∷ more)) other end names (Stops-longer is_attribute_byte white f more ends);
  spaced = longest is_white_byte is_white white (f ∷ more) white_same whites stop;
  unsigned = sign_same f ∙ sign;
}
part_fits more (quotes x name white gap q value f other names whites gaps nonwhite quote others) end = inl (record {
  quote = q;
  sign = white ++ 61 ∷ gap;
  spelled = refl;
  signed = signed_before x name white gap (q ∷ (value ++ ((q ∷ []) ++ (f ∷ more)))) other end names whites gaps nonwhite;
  kind = quote_same q ∙ quote;
  inside = all_same (is_other q) (is_outside (q ∷ [])) value (λ b. sym (other_same q b)) others;
  closed = refl;
})
part_fits more (opens x name white gap value f other names whites gaps starts quote values stop) end = inr (record {
  signed = signed_before x name white gap (value ++ (f ∷ more)) other end names whites gaps (Stops-longer is_white value f more starts);
  plain = first_unquoted value f more quote;
  longest = longest is_open_value_byte is_value_byte value (f ∷ more) value_same values stop;
  closed = refl;
})

-- a part has a first byte, which isn't the end of a tag
pub record IsHeaded (part : Part) : Type 0 where
  pub head : ℕ
  pub more : Bytes
  pub text : part_text part ≡ head ∷ more
  pub other : head ≡ 62 → ⊥

named_headed : (name left rest : Bytes) → IsAttributeName name rest → (part : Part) → part_text part ≡ name ++ left → IsHeaded part
named_headed name left rest named part e = record {
  head = named.head;
  more = named.more ++ left;
  text = e ∙ ap (λ (n : Bytes). n ++ left) named.spelled;
  other = eqb-false named.head 62 (name_first named.head named.begins).1;
}

pub headed : (part : Part) (rest : Bytes) → FitsPart part rest → IsHeaded part
headed (mark b) rest fits = record {
  head = b;
  more = [];
  text = refl;
  other = λ e. let bad : is_of (32 ∷ 9 ∷ 10 ∷ 13 ∷ 12 ∷ 47 ∷ []) 62 ≡ true = subst (λ n. is_of (32 ∷ 9 ∷ 10 ∷ 13 ∷ 12 ∷ 47 ∷ []) n ≡ true) e fits in cc;
}
headed (bare text) rest fits = named_headed fits.name fits.white (fits.white ++ rest) fits.named (bare text) fits.spelled
headed (valued name between value close) rest (inl is) = named_headed name (between ++ (value ++ close)) _ is.signed.named (valued name between value close) refl
headed (valued name between value close) rest (inr is) = named_headed name (between ++ (value ++ close)) _ is.signed.named (valued name between value close) refl

-- parts before an end have a first byte
pub record Starts (text : Bytes) : Type 0 where
  pub head : ℕ
  pub more : Bytes
  pub same : text ≡ head ∷ more

pub starts : (front : Bytes) (f : ℕ) (more : Bytes) → Starts (front ++ (f ∷ more))
starts [] f more = record { head = f; more = more; same = refl }
starts (x ∷ xs) f more = record { head = x; more = xs ++ (f ∷ more); same = refl }

parts_step : (part : Part) (parts : List Part) (rest : Bytes) → IsHeaded part
    → first_part (first (part_text part ++ rest)) (drop 1 (part_text part ++ rest)) ≡ part → parts_of rest ≡ Some parts → parts_of (part_text part ++ rest) ≡ Some (part ∷ parts)
parts_step part parts rest head again inner =
    let text = part_text part ++ rest in
    let text_is : text ≡ head.head ∷ (head.more ++ rest) = ap (λ (t : Bytes). t ++ rest) head.text in
    let some : 0 < length text = omega (arith, ap length text_is) in
    let first_is : first text ≡ head.head = ap first text_is in
    parts_of-ahead text some (λ e. head.other (sym first_is ∙ e))
    ∙ ap (λ (p : Part). option_map (λ (more : List Part). p ∷ more) (parts_of (drop (length (part_text p)) text))) again
    ∙ ap (λ (t : Bytes). option_map (λ (more : List Part). part ∷ more) (parts_of t)) (drop-append_seam (part_text part) rest)
    ∙ ap (option_map (λ (more : List Part). part ∷ more)) inner

-- parts that fit before `>` are read
pub parts_read : (parts : List Part) (more : Bytes) → FitsParts parts (62 ∷ more) → parts_of (parts_text parts ++ (62 ∷ more)) ≡ Some parts
parts_read [] more fits = refl
parts_read (part ∷ parts) more fits =
    let rest = parts_text parts ++ (62 ∷ more) in
    let start = starts (parts_text parts) 62 more in
    let is = fits_is_part part start.head start.more (subst (λ (t : Bytes). FitsPart part t) start.same fits.0) in
    let again : first_part (first (part_text part ++ rest)) (drop 1 (part_text part ++ rest)) ≡ part =
    subst (λ (t : Bytes). first_part (first (part_text part ++ t)) (drop 1 (part_text part ++ t)) ≡ part) (sym start.same) (part_again start.more is) in
    ap parts_of (append_assoc (part_text part) (parts_text parts) (62 ∷ more))
    ∙ parts_step part parts rest (headed part rest fits.0) again (parts_read parts more fits.1)

-- parts that were read, with what comes after their `>`
pub record ReadParts (text : Bytes) (parts : List Part) : Type 0 where
  pub more : Bytes
  pub same : text ≡ parts_text parts ++ (62 ∷ more)
  pub fits : FitsParts parts (62 ∷ more)

first_of_front : (part : Part) (x : ℕ) (xs rest : Bytes) → x ∷ xs ≡ part_text part ++ rest → 0 < length (part_text part) → first (part_text part) ≡ x
first_of_front part x xs rest same some = go (part_text part) same some
  where
    go : (text : Bytes) → x ∷ xs ≡ text ++ rest → 0 < length text → first text ≡ x
    go [] e none = absurd (omega arith)
    go (y ∷ ys) e more = cc

read_one : (x : ℕ) (xs : Bytes) (parts : List Part) (rest : Bytes) → (x ≡ 62 → ⊥) → x ∷ xs ≡ part_text (first_part x xs) ++ rest
    → ((f : ℕ) (more : Bytes) → rest ≡ f ∷ more → IsPart (first_part x xs) f) → ReadParts rest parts → ReadParts (x ∷ xs) (first_part x xs ∷ parts)
read_one x xs parts rest other same is inner =
    let part = first_part x xs in
    let start = starts (parts_text parts) 62 inner.more in
    let some : 0 < length (part_text part) = omega (arith, first_part-some x xs) in
    let head : first (part_text part) ≡ x = first_of_front part x xs rest same some in
    let fits : FitsPart part (start.head ∷ start.more) = part_fits start.more (is start.head start.more (inner.same ∙ start.same)) (λ e. other (sym head ∙ e)) in
    record {
      more = inner.more;
      same = same ∙ ap (λ (t : Bytes). part_text part ++ t) inner.same ∙ sym (append_assoc (part_text part) (parts_text parts) (62 ∷ inner.more));
      fits = (subst (λ (t : Bytes). FitsPart part t) (sym start.same) fits, inner.fits);
    }

read_within : (fuel : ℕ) (text : Bytes) (parts : List Part) → length text ≤ fuel → parts_of text ≡ Some parts → ReadParts text parts
read_within fuel [] parts short found = cc
read_within zero (x ∷ xs) parts short found = absurd (omega arith)
read_within (suc fuel) (x ∷ xs) parts short found =
    elim (x == 62) as (λ b. (x == 62) ≡ b → ReadParts (x ∷ xs) parts) [
      | true ↦ λ end.
          let none : Some [] ≡ Some parts = rw end at found in
          let same : [] ≡ parts = cc in
          let x_is = eqb-true x 62 end in
          subst (λ (all : List Part). ReadParts (x ∷ xs) all) same (record { more = xs; same = ap (λ n. n ∷ xs) x_is; fits = tt })
      | false ↦ λ more.
          let other = eqb-false x 62 more in
          let part = first_part x xs in
          let cut = part_cut x xs in
          let size = length (part_text part) in
          let some : 0 < size = omega (arith, first_part-some x xs) in
          let step = one_before (parts_of (drop size (x ∷ xs))) part parts (sym (parts_of-more x xs other) ∙ found) in
          let left : drop size (x ∷ xs) ≡ cut.rest = ap (drop size) cut.same ∙ drop-append_seam (part_text part) cut.rest in
          let inner = read_within fuel (drop size (x ∷ xs)) step.0 (shorter (x ∷ xs) size fuel short some) step.1 in
          subst (λ (all : List Part). ReadParts (x ∷ xs) all) (sym step.2)
          (read_one x xs step.0 cut.rest other cut.same cut.is_part (subst (λ (t : Bytes). ReadParts t step.0) left inner))
    ] refl

-- parts that are read fit before their `>`
pub read_parts : (text : Bytes) (parts : List Part) → parts_of text ≡ Some parts → ReadParts text parts
read_parts text parts found = read_within (length text) text parts (omega arith) found
