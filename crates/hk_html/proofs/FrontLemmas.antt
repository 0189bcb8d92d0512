-- What is read of a text is its front.
use Rattle.std.proofs.Common.{◌≡◌, ℕ, ◌<◌, ◌≤◌, Bool, true, false, cond, ◌||◌, ◌==◌, [], ◌∷◌, ◌++◌, length, drop, take, arith, refl, sym, ap, ◌∙◌, append_assoc}
use Rattle.std.specs.List.{prefix_len, take_while}
use Rattle.std.proofs.lemmas.Bool.{eqb-true, ne_eqb}
use Rattle.std.proofs.lemmas.List.{take-append-drop, length-append}
use Rattle.hk_base.specs.Bytes.{Bytes}
use Rattle.hk_html.specs.Kind.{is_white, is_attribute_byte, is_value_byte, is_quote, is_other, first, after_run}
use Rattle.hk_html.specs.Part.{part_text, mark, bare, valued, value_part, named_part, attribute, first_part}

-- the text begins with the front
pub record BeginsWith (text front : Bytes) : Type 0 where
  pub rest : Bytes
  pub same : text ≡ front ++ rest

pub run_front : (p : ℕ → Bool) (text : Bytes) → text ≡ take_while p text ++ after_run p text
run_front p text = sym (take-append-drop (prefix_len p text) text)

pub quoted_front : (name between : Bytes) (q : ℕ) (qs value close rest : Bytes) → qs ≡ value ++ (close ++ rest)
    → name ++ (between ++ (q ∷ qs)) ≡ (name ++ ((between ++ (q ∷ [])) ++ (value ++ close))) ++ rest
quoted_front name between q qs value close rest e = rw e (simp append_assoc)

pub open_front : (name between text value rest : Bytes) → text ≡ value ++ rest → name ++ (between ++ text) ≡ (name ++ (between ++ (value ++ []))) ++ rest
open_front name between text value rest e = rw e (simp append_assoc)

value_front : (name between text : Bytes) → BeginsWith (name ++ (between ++ text)) (part_text (value_part name between text))
value_front name between [] = record { rest = []; same = open_front name between [] [] [] refl }
value_front name between (q ∷ qs) =
    elim (is_quote q) as (λ b. BeginsWith (name ++ (between ++ (q ∷ qs))) (part_text (cond b
    (valued name (between ++ q ∷ []) (take_while (is_other q) qs) (take 1 (after_run (is_other q) qs)))
    (valued name between (take_while is_value_byte (q ∷ qs)) [])))) [
      | true ↦ record {
        rest = drop 1 (after_run (is_other q) qs);
        same = quoted_front name between q qs (take_while (is_other q) qs) (take 1 (after_run (is_other q) qs)) (drop 1 (after_run (is_other q) qs))
            (rw (take-append-drop 1 (after_run (is_other q) qs)) (run_front (is_other q) qs));
      }
      | false ↦ record { rest = after_run is_value_byte (q ∷ qs); same = open_front name between (q ∷ qs) _ _ (run_front is_value_byte (q ∷ qs)) }
    ]

pub sign_front : (name white : Bytes) (x : ℕ) (xs gap rest : Bytes) → x ≡ 61 → xs ≡ gap ++ rest
    → name ++ (white ++ (x ∷ xs)) ≡ name ++ ((white ++ (61 ∷ gap)) ++ rest)
sign_front name white x xs gap rest e cut = rw (e, cut) (simp append_assoc)

named_front : (name white text : Bytes) → BeginsWith (name ++ (white ++ text)) (part_text (named_part name white text))
named_front name white [] = record { rest = []; same = simp append_assoc }
named_front name white (x ∷ xs) =
    elim (x == 61) as (λ b. (x == 61) ≡ b → BeginsWith (name ++ (white ++ (x ∷ xs))) (part_text (cond b
    (value_part name (white ++ 61 ∷ take_while is_white xs) (after_run is_white xs))
    (bare (name ++ white))))) [
      | true ↦ λ sign.
          let front = value_front name (white ++ 61 ∷ take_while is_white xs) (after_run is_white xs) in
          record { rest = front.rest; same = sign_front name white x xs _ _ (eqb-true x 61 sign) (run_front is_white xs) ∙ front.same }
      | false ↦ λ _. record { rest = x ∷ xs; same = simp append_assoc }
    ] refl

attribute_front : (x : ℕ) (xs : Bytes) → BeginsWith (x ∷ xs) (part_text (attribute x xs))
attribute_front x xs =
    let after = after_run is_attribute_byte xs in
    let front = named_front (x ∷ take_while is_attribute_byte xs) (take_while is_white after) (after_run is_white after) in
    record { rest = front.rest; same = rw (← run_front is_white after, ← run_front is_attribute_byte xs) at front.same }

-- what is left after the part of a tag with which a text begins
pub part_front : (x : ℕ) (xs : Bytes) → BeginsWith (x ∷ xs) (part_text (first_part x xs))
part_front x xs =
    elim (is_white x || x == 47) as (λ b. BeginsWith (x ∷ xs) (part_text (cond b (mark x) (attribute x xs)))) [
      | true ↦ record { rest = xs; same = refl }
      | false ↦ attribute_front x xs
    ]

pub part_front_of : (text : Bytes) → 0 < length text → BeginsWith text (part_text (first_part (first text) (drop 1 text)))
part_front_of [] some = absurd (omega arith)
part_front_of (x ∷ xs) some = part_front x xs

pub front_fits : {text front : Bytes} → BeginsWith text front → length front ≤ length text
front_fits {text} {front} begins = omega (arith, ap length begins.same, length-append front begins.rest)

not_mark : (x : ℕ) → is_white x ≡ false → (x ≡ 47 → ⊥) → (is_white x || x == 47) ≡ false
not_mark x white slash = let e = ne_eqb x 47 slash in rw (white, e)

pub first_part-attribute : (x : ℕ) (xs : Bytes) → is_white x ≡ false → (x ≡ 47 → ⊥) → first_part x xs ≡ attribute x xs
first_part-attribute x xs white slash = rw (not_mark x white slash)
