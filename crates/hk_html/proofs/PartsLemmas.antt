-- The parts of a tag, one after the other.
use Rattle.std.proofs.Common.{◌≡◌, ℕ, zero, suc, ◌<◌, ◌≤◌, true, false, cond, ◌||◌, ◌==◌, List, [], ◌∷◌, ◌++◌, Option, Some, None, length, drop, take, arith, refl, sym, ap, ◌∙◌, append_assoc}
use Rattle.std.specs.List.{flat_map, take_while}
use Rattle.std.specs.Option.{option_map}
use Rattle.std.proofs.lemmas.Bool.{ne_eqb}
use Rattle.std.proofs.lemmas.List.{append-nil, take_all, drop_all, flat_map_more, length-append}
use Rattle.hk_base.specs.Bytes.{Bytes}
use Rattle.hk_html.specs.declared.scan.Scan.{Scan}
use Rattle.hk_html.specs.Kind.{is_white, is_attribute_byte, is_value_byte, is_quote, is_other, first, after_run}
use Rattle.hk_html.specs.Part.{Part, mark, bare, valued, value_part, named_part, attribute, first_part, part_text, parts_after, parts_of, part_links, part_with_root}
use Rattle.hk_html.specs.Scan.{ReadsPart, ReadsParts, ReadsTag, ahead, part_ahead, written, link_values}
use Rattle.hk_html.proofs.ReadsLemmas.{Reads-ahead, Reads-same, Reads-trans}

value_part-some : (x : ℕ) (name between text : Bytes) → length (part_text (value_part (x ∷ name) between text)) ≡ suc (length (drop 1 (part_text (value_part (x ∷ name) between text))))
value_part-some x name between text =
    elim (is_quote (first text)) as (λ b. let part = cond b
    (valued (x ∷ name) (between ++ first text ∷ []) (take_while (is_other (first text)) (drop 1 text)) (take 1 (after_run (is_other (first text)) (drop 1 text))))
    (valued (x ∷ name) between (take_while is_value_byte text) []) in
    length (part_text part) ≡ suc (length (drop 1 (part_text part)))) [ true ↦ refl | false ↦ refl ]

named_part-some : (x : ℕ) (name white text : Bytes) → length (part_text (named_part (x ∷ name) white text)) ≡ suc (length (drop 1 (part_text (named_part (x ∷ name) white text))))
named_part-some x name white text =
    elim (first text == 61) as (λ b. let part = cond b
    (value_part (x ∷ name) (white ++ 61 ∷ take_while is_white (drop 1 text)) (after_run is_white (drop 1 text)))
    (bare ((x ∷ name) ++ white)) in
    length (part_text part) ≡ suc (length (drop 1 (part_text part)))) [
      | true ↦ value_part-some x name (white ++ 61 ∷ take_while is_white (drop 1 text)) (after_run is_white (drop 1 text))
      | false ↦ refl
    ]

-- a part has at least one byte
pub first_part-some : (x : ℕ) (xs : Bytes) → length (part_text (first_part x xs)) ≡ suc (length (drop 1 (part_text (first_part x xs))))
first_part-some x xs =
    elim (is_white x || x == 47) as (λ b. let part = cond b (mark x) (attribute x xs) in
    length (part_text part) ≡ suc (length (drop 1 (part_text part)))) [
      | true ↦ refl
      | false ↦ named_part-some x (take_while is_attribute_byte xs) (take_while is_white (after_run is_attribute_byte xs)) (after_run is_white (after_run is_attribute_byte xs))
    ]

parts_after-drop : (skip : ℕ) (text : Bytes) → parts_after skip text ≡ parts_of (drop skip text)
parts_after-drop zero text = refl
parts_after-drop (suc skip) [] = refl
parts_after-drop (suc skip) (x ∷ xs) = parts_after-drop skip xs

pub parts_of-end : (xs : Bytes) → parts_of (62 ∷ xs) ≡ Some []
parts_of-end xs = refl

pub parts_of-more : (x : ℕ) (xs : Bytes) → (x ≡ 62 → ⊥) → parts_of (x ∷ xs) ≡ option_map (λ parts. first_part x xs ∷ parts) (parts_of (drop (length (part_text (first_part x xs))) (x ∷ xs)))
parts_of-more x xs more =
    let other = ne_eqb x 62 more in
    rw (other, first_part-some x xs) (rw (parts_after-drop (length (drop 1 (part_text (first_part x xs)))) xs))

pub parts_of-ahead : (text : Bytes) → 0 < length text → (first text ≡ 62 → ⊥) → parts_of text ≡ option_map (λ parts. first_part (first text) (drop 1 text) ∷ parts) (parts_of (drop (length (part_text (first_part (first text) (drop 1 text)))) text))
parts_of-ahead [] some more = absurd (omega arith)
parts_of-ahead (x ∷ xs) some more = parts_of-more x xs more

parts_of-at_end : (text : Bytes) → 0 < length text → first text ≡ 62 → parts_of text ≡ Some []
parts_of-at_end [] some end = absurd (omega arith)
parts_of-at_end (x ∷ xs) some end = let e : x ≡ 62 = end in rw e

-- the parts that were read so far, before those ahead
pub record PartsRead (old now : Scan) : Type 0 where
  pub parts : List Part
  pub reads : ReadsParts old now parts
  pub left : parts_of (ahead old) ≡ option_map (λ more. parts ++ more) (parts_of (ahead now))

after_none : (o : Option (List Part)) → o ≡ option_map (λ more. [] ++ more) o
after_none None = refl
after_none (Some parts) = refl

after_one : (done : List Part) (part : Part) (o : Option (List Part)) → option_map (λ more. done ++ more) (option_map (λ more. part ∷ more) o) ≡ option_map (λ more. (done ++ part ∷ []) ++ more) o
after_one done part None = refl
after_one done part (Some parts) = ap Some (sym (append_assoc done (part ∷ []) parts))

pub PartsRead-none : (scan : Scan) → PartsRead scan scan
PartsRead-none scan = record {
  parts = [];
  reads = record {
    body = refl;
    at = omega arith;
    text = λ root. sym (append-nil (written root scan));
    found = sym (append-nil (link_values scan.links.items));
    kept = take_all (length scan.links.items) scan.links.items (omega arith);
  };
  left = after_none (parts_of (ahead scan));
}

flat_map_push : {X A : Type 0} (f : X → List A) (xs : List X) (x : X) → flat_map f xs ++ f x ≡ flat_map f (xs ++ x ∷ [])
flat_map_push f xs x = flat_map_more f [] xs x

pub PartsRead-more : (old now new : Scan) → PartsRead old now → 0 < length (ahead now) → (first (ahead now) ≡ 62 → ⊥) → ReadsPart now new (part_ahead now) → PartsRead old new
PartsRead-more old now new so_far some more one =
    let part = part_ahead now in
    let done = so_far.parts in
    let step = parts_of-ahead (ahead now) some more in
    let next = Reads-ahead now new _ _ _ one in
    record {
      parts = done ++ part ∷ [];
      reads = Reads-same _ _ _ (Reads-trans so_far.reads one)
          (sym (length-append (flat_map part_text done) (part_text part)) ∙ ap length (flat_map_push part_text done part))
          (λ root. flat_map_push (part_with_root root) done part)
          (flat_map_push part_links done part);
      left = so_far.left ∙ rw (step, ← next) (after_one done part (parts_of (ahead new)));
    }

pub ReadsTag-finished : (old now : Scan) → PartsRead old now → 0 < length (ahead now) → first (ahead now) ≡ 62 → ReadsTag old now true
ReadsTag-finished old now so_far some end =
    let last = parts_of-at_end (ahead now) some end in
    (so_far.parts, so_far.left ∙ rw (last, append-nil so_far.parts), so_far.reads, some, end)

pub ReadsTag-unfinished : (old now : Scan) → PartsRead old now → length now.body.now ≤ now.at → ReadsTag old now false
ReadsTag-unfinished old now so_far past =
    let nothing : ahead now ≡ [] = drop_all now.at now.body.now past in
    (so_far.left ∙ rw nothing, so_far.reads.body, so_far.reads.kept)
