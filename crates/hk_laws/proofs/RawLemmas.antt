-- The raw text after a tag is the one that fits, and no other.
use Rattle.std.proofs.Common.{◌≡◌, true, false, ◌&&◌, nat_eq, codes, [], ◌∷◌, ◌++◌, take, drop, refl, sym, ap, subst, ◌∙◌, Decides}
use Rattle.std.specs.List.{starts_with, take_while}
use Rattle.std.specs.Str.{str_eq_ignore_ascii_case}
use Rattle.std.proofs.lemmas.Bool.{eqb-true, and_parts}
use Rattle.std.proofs.lemmas.Bool.Decides.{Decides-or}
use Rattle.std.proofs.lemmas.List.{take-append-drop}
use Rattle.std.proofs.Math.Seq.{take-append_seam}
use Rattle.hk_base.specs.Bytes.{Bytes}
use Rattle.hk_html.specs.Kind.{is_tag_byte, after_run}
use Rattle.hk_html.specs.Piece.{raw_text, has_raw_text, ends_raw_text}
use Rattle.hk_html.specs.Place.{first_place}
use Rattle.hk_html.proofs.FrontLemmas.{run_front}
use Rattle.hk_html.proofs.AgainLemmas.{run_again, list_all-run, Stops-after}
use Rattle.hk_laws.specs.Tags.{is_tag_name_byte}
use Rattle.hk_laws.specs.Cuttings.{IsEndTag, HasRawText, IsRawText}
use Rattle.hk_laws.proofs.LetterLemmas.{same_letters}
use Rattle.hk_laws.proofs.KindLemmas.{tag_same, all_same, stops, longest}
use Rattle.hk_laws.proofs.FirstLemmas.{place_first, place_is_first}

pub record Closes (text : Bytes) : Type 0 where
  pub rest : Bytes
  pub same : text ≡ 60 ∷ (47 ∷ rest)

closes : (text : Bytes) → starts_with nat_eq text (codes "</") ≡ true → Closes text
closes [] e = cc
closes (a ∷ []) e = let tests = and_parts (nat_eq 60 a) false e in cc
closes (a ∷ (b ∷ rest)) e =
    let tests = and_parts (nat_eq 60 a) (nat_eq 47 b && true) e in
    let more = and_parts (nat_eq 47 b) true tests.1 in
    record { rest = rest; same = rw (← eqb-true 60 a tests.0, ← eqb-true 47 b more.0) }

end_tag : (name rest : Bytes) → str_eq_ignore_ascii_case (take_while is_tag_byte rest) name ≡ true → IsEndTag name (60 ∷ (47 ∷ rest))
end_tag name rest same = record {
  again = take_while is_tag_byte rest;
  rest = after_run is_tag_byte rest;
  spelled = ap (λ (t : Bytes). 60 ∷ (47 ∷ t)) (run_front is_tag_byte rest);
  longest = longest is_tag_name_byte is_tag_byte (take_while is_tag_byte rest) (after_run is_tag_byte rest) tag_same (list_all-run is_tag_byte rest) (Stops-after is_tag_byte rest);
  same = (same_letters (take_while is_tag_byte rest) name).0 same;
}

tested_end : (name text : Bytes) → ends_raw_text name text ≡ true → IsEndTag name text
tested_end name text e =
    let tests = and_parts (starts_with nat_eq text (codes "</")) (str_eq_ignore_ascii_case (take_while is_tag_byte (drop 2 text)) name) e in
    let close = closes text tests.0 in
    let same : str_eq_ignore_ascii_case (take_while is_tag_byte close.rest) name ≡ true = rw close.same at tests.1 in
    subst (λ (t : Bytes). IsEndTag name t) (sym close.same) (end_tag name close.rest same)

end_tested : (name text : Bytes) → IsEndTag name text → ends_raw_text name text ≡ true
end_tested name text end =
    let run : take_while is_tag_byte (end.again ++ end.rest) ≡ end.again =
    run_again is_tag_byte end.again end.rest (all_same is_tag_name_byte is_tag_byte end.again tag_same end.longest.passes) (stops is_tag_name_byte is_tag_byte end.rest tag_same end.longest.ended) in
    ap (ends_raw_text name) end.spelled
    ∙ ap (λ (n : Bytes). str_eq_ignore_ascii_case n name) run
    ∙ (same_letters end.again name).1 end.same

-- the test tells end tags
pub tells_end : (name text : Bytes) → Decides (ends_raw_text name text) (IsEndTag name text)
tells_end name text = (tested_end name text, end_tested name text)

pub tells_raw : (name : Bytes) → Decides (has_raw_text name) (HasRawText name)
tells_raw name =
    Decides-or (str_eq_ignore_ascii_case name (codes "script")) (str_eq_ignore_ascii_case name (codes "style"))
    (same_letters name (codes "script")) (same_letters name (codes "style"))

raw_some : (name text : Bytes) → has_raw_text name ≡ true → raw_text name text ≡ take (first_place (ends_raw_text name) text) text
raw_some name text e = rw e

raw_none : (name text : Bytes) → has_raw_text name ≡ false → raw_text name text ≡ []
raw_none name text e = rw e

-- raw text with what comes after it
pub record ReadRaw (name text : Bytes) : Type 0 where
  pub rest : Bytes
  pub same : text ≡ raw_text name text ++ rest
  pub fits : IsRawText name (raw_text name text) rest

-- the raw text that is read fits
pub read_raw : (name text : Bytes) → ReadRaw name text
read_raw name text =
    elim (has_raw_text name) as (λ b. has_raw_text name ≡ b → ReadRaw name text) [
      | true ↦ λ has.
          let place = first_place (ends_raw_text name) text in
          let raw_is = raw_some name text has in
          record {
            rest = drop place text;
            same = sym (take-append-drop place text) ∙ ap (λ (t : Bytes). t ++ drop place text) (sym raw_is);
            fits = subst (λ (raw : Bytes). IsRawText name raw (drop place text)) (sym raw_is)
                (record { some = λ _. place_is_first (ends_raw_text name) (IsEndTag name) (tells_end name) text; none = λ none. absurd (none ((tells_raw name).0 has)) });
          }
      | false ↦ λ no_raw.
          let raw_is = raw_none name text no_raw in
          record {
            rest = text;
            same = ap (λ (t : Bytes). t ++ text) (sym raw_is);
            fits = record { some = λ some. let yes_ = (tells_raw name).1 some in cc; none = λ _. raw_is };
          }
    ] refl

-- raw text that fits is read
pub raw_read : (name raw rest : Bytes) → IsRawText name raw rest → raw_text name (raw ++ rest) ≡ raw
raw_read name raw rest is =
    elim (has_raw_text name) as (λ b. has_raw_text name ≡ b → raw_text name (raw ++ rest) ≡ raw) [
      | true ↦ λ has.
          let place = place_first (ends_raw_text name) (IsEndTag name) (tells_end name) raw rest (is.some ((tells_raw name).0 has)) in
          raw_some name (raw ++ rest) has ∙ ap (λ n. take n (raw ++ rest)) place ∙ take-append_seam raw rest
      | false ↦ λ none.
          raw_none name (raw ++ rest) none ∙ sym (is.none (λ some. let yes_ = (tells_raw name).1 some in cc))
    ] refl
