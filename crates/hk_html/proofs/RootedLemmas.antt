-- The parts of a tag with a root in its URLs, read again.
use Rattle.std.proofs.Common.{◌≡◌, ℕ, zero, suc, ◌<◌, ◌≤◌, Bool, true, false, cond, ◌||◌, ◌&&◌, ◌==◌, if◌then◌else◌, List, [], ◌∷◌, ◌++◌, map, Some, codes, replicate, length, drop, take, arith, refl, sym, ap, subst, ◌∙◌, append_assoc, inl, inr}
use Rattle.std.specs.List.{take_while, list_all, join_with_byte}
use Rattle.std.proofs.lemmas.Bool.{eqb-true, eqb-false, or_cases}
use Rattle.std.proofs.lemmas.List.{length-append}
use Rattle.std.proofs.Math.Seq.{drop-append_seam}
use Rattle.hk_base.specs.Bytes.{Bytes}
use Rattle.hk_html.specs.Kind.{is_white, is_attribute_byte, is_value_byte, is_quote, is_other, first, after_run}
use Rattle.hk_html.specs.Part.{Part, mark, bare, valued, value_part, named_part, attribute, first_part, part_text, parts_of, parts_text, is_link, is_rooted, with_root}
use Rattle.hk_html.specs.Root.{root_at}
use Rattle.hk_html.proofs.AgainLemmas.{IsPart, marks, bares, quotes, opens, Stops, part_cut, part_again}
use Rattle.hk_html.proofs.JoinLemmas.{one_before, shorter}
use Rattle.hk_html.proofs.PartsLemmas.{parts_of-more, parts_of-ahead, first_part-some}

-- what may stand before a root URL
pub record IsRoot (root : Bytes) : Type 0 where
  pub more : Bytes
  pub same : root ≡ 46 ∷ more
  pub values : list_all is_value_byte root ≡ true
  pub unquoted : (q : ℕ) → is_quote q ≡ true → list_all (is_other q) root ≡ true

quote_is : (q : ℕ) (P : ℕ → Type 0) → is_quote q ≡ true → P 34 → P 39 → P q
quote_is q P quote double single =
    elim (or_cases (q == 34) (q == 39) quote) [
      | inl e ↦ subst P (sym (eqb-true q 34 e)) double
      | inr e ↦ subst P (sym (eqb-true q 39 e)) single
    ]

joined_all : (p : ℕ → Bool) (level : ℕ) → p 46 ≡ true → p 47 ≡ true → list_all p (join_with_byte 47 (replicate (suc level) (codes ".."))) ≡ true
joined_all p zero dot slash = rw (dot)
joined_all p (suc level) dot slash = rw (dot, slash) (joined_all p level dot slash)

starts : (level : ℕ) → root_at (suc level) ≡ 46 ∷ drop 1 (root_at (suc level))
starts zero = refl
starts (suc level) = refl

pub IsRoot-root_at : (level : ℕ) → IsRoot (root_at level)
IsRoot-root_at zero = record { more = []; same = refl; values = refl; unquoted = λ q quote. quote_is q (λ q. list_all (is_other q) (codes ".") ≡ true) quote refl refl }
IsRoot-root_at (suc level) = record {
  more = drop 1 (root_at (suc level));
  same = starts level;
  values = joined_all is_value_byte level refl refl;
  unquoted = λ q quote. joined_all (is_other q) level (quote_is q (λ q. is_other q 46 ≡ true) quote refl refl) (quote_is q (λ q. is_other q 47 ≡ true) quote refl refl);
}

list_all-append : (p : ℕ → Bool) (xs ys : Bytes) → list_all p xs ≡ true → list_all p ys ≡ true → list_all p (xs ++ ys) ≡ true
list_all-append p [] ys one two = two
list_all-append p (x ∷ xs) ys one two =
    elim (p x) as (λ b. (b && list_all p xs) ≡ true → (b && list_all p (xs ++ ys)) ≡ true) [
      | true ↦ λ more. list_all-append p xs ys more two
      | false ↦ λ more. cc
    ] one

-- a part with the root in its URL
abbrev pub rooted_part : Bytes → Part → Part
rooted_part root (mark b) = mark b
rooted_part root (bare text) = bare text
rooted_part root (valued name between value close) = valued name between (if is_link name then with_root root value else value) close

abbrev pub rooted_parts : Bytes → List Part → List Part
rooted_parts root parts = map (rooted_part root) parts

-- one or the other value
either_value : (P : Bytes → Type 0) (link rooted : Bool) (root value : Bytes) → P value → P (root ++ value) → P (if link then (if rooted then root ++ value else value) else value)
either_value P true true root value plain longer = longer
either_value P true false root value plain longer = plain
either_value P false rooted root value plain longer = plain

root_starts : (p : ℕ → Bool) (root value more : Bytes) → root ≡ 46 ∷ more → p 46 ≡ false → (f : ℕ) → Stops p ((root ++ value) ++ (f ∷ []))
root_starts p root value more same dot f = rw same dot

root_unquoted : (root value more : Bytes) → root ≡ 46 ∷ more → (f : ℕ) → is_quote (first ((root ++ value) ++ (f ∷ []))) ≡ false
root_unquoted root value more same f = rw same

pub IsPart-rooted : (root : Bytes) → IsRoot root → {part : Part} {f : ℕ} → IsPart part f → IsPart (rooted_part root part) f
IsPart-rooted root is_root (marks b f e) = marks b f e
IsPart-rooted root is_root (bares x name white f other names whites ends stop sign) = bares x name white f other names whites ends stop sign
IsPart-rooted root is_root (quotes x name white gap q value f other names whites gaps nonwhite quote others) =
    either_value (λ value. IsPart (valued (x ∷ name) ((white ++ 61 ∷ gap) ++ q ∷ []) value (q ∷ [])) f) (is_link (x ∷ name)) (is_rooted value) root value
    (quotes x name white gap q value f other names whites gaps nonwhite quote others)
    (quotes x name white gap q (root ++ value) f other names whites gaps nonwhite quote (list_all-append (is_other q) root value (is_root.unquoted q quote) others))
IsPart-rooted root is_root (opens x name white gap value f other names whites gaps starts quote values stop) =
    either_value (λ value. IsPart (valued (x ∷ name) (white ++ 61 ∷ gap) value []) f) (is_link (x ∷ name)) (is_rooted value) root value
    (opens x name white gap value f other names whites gaps starts quote values stop)
    (opens x name white gap (root ++ value) f other names whites gaps (root_starts is_white root value is_root.more is_root.same refl f)
    (root_unquoted root value is_root.more is_root.same f) (list_all-append is_value_byte root value is_root.values values) stop)

value_head : (root : Bytes) (x : ℕ) (name between text : Bytes) → let part = rooted_part root (value_part (x ∷ name) between text) in part_text part ≡ x ∷ drop 1 (part_text part)
value_head root x name between text =
    elim (is_quote (first text)) as (λ b. let part = rooted_part root (cond b
    (valued (x ∷ name) (between ++ first text ∷ []) (take_while (is_other (first text)) (drop 1 text)) (take 1 (after_run (is_other (first text)) (drop 1 text))))
    (valued (x ∷ name) between (take_while is_value_byte text) [])) in part_text part ≡ x ∷ drop 1 (part_text part)) [ true ↦ refl | false ↦ refl ]

named_head : (root : Bytes) (x : ℕ) (name white text : Bytes) → let part = rooted_part root (named_part (x ∷ name) white text) in part_text part ≡ x ∷ drop 1 (part_text part)
named_head root x name white text =
    elim (first text == 61) as (λ b. let part = rooted_part root (cond b
    (value_part (x ∷ name) (white ++ 61 ∷ take_while is_white (drop 1 text)) (after_run is_white (drop 1 text)))
    (bare ((x ∷ name) ++ white))) in part_text part ≡ x ∷ drop 1 (part_text part)) [
      | true ↦ value_head root x name (white ++ 61 ∷ take_while is_white (drop 1 text)) (after_run is_white (drop 1 text))
      | false ↦ refl
    ]

-- a part begins with the same byte as before
pub part_head : (root : Bytes) (x : ℕ) (xs : Bytes) → let part = rooted_part root (first_part x xs) in part_text part ≡ x ∷ drop 1 (part_text part)
part_head root x xs =
    elim (is_white x || x == 47) as (λ b. let part = rooted_part root (cond b (mark x) (attribute x xs)) in part_text part ≡ x ∷ drop 1 (part_text part)) [
      | true ↦ refl
      | false ↦ named_head root x (take_while is_attribute_byte xs) (take_while is_white (after_run is_attribute_byte xs)) (after_run is_white (after_run is_attribute_byte xs))
    ]

parts_of-joined : (part : Part) (x : ℕ) (text rest : Bytes) (more : List Part) → part_text part ≡ x ∷ text → (x ≡ 62 → ⊥)
    → first_part (first (part_text part ++ rest)) (drop 1 (part_text part ++ rest)) ≡ part → parts_of rest ≡ Some more → parts_of (part_text part ++ rest) ≡ Some (part ∷ more)
parts_of-joined part x text rest more head ongoing again found =
    let some : 0 < length (part_text part ++ rest) = omega (arith, ap length head, length-append (part_text part) rest) in
    let begins : first (part_text part ++ rest) ≡ x = rw head in
    let step = parts_of-ahead (part_text part ++ rest) some (λ e. ongoing (sym begins ∙ e)) in
    step ∙ rw (again, drop-append_seam (part_text part) rest, found)

pub some_text : (text : Bytes) (parts : List Part) → parts_of text ≡ Some parts → (f : ℕ) × (more : Bytes) × (text ≡ f ∷ more)
some_text [] parts found = cc
some_text (f ∷ more) parts found = (f, more, refl)

headed : (f : ℕ) (part parts rest text : Bytes) → part ≡ f ∷ text → (part ++ parts) ++ rest ≡ f ∷ drop 1 ((part ++ parts) ++ rest)
headed f part parts rest text e = rw e

-- the parts begin with the same byte as before
pub parts_head : (root : Bytes) (f : ℕ) (text : Bytes) (parts : List Part) (rest : Bytes) → parts_of (f ∷ text) ≡ Some parts
    → parts_text (rooted_parts root parts) ++ (62 ∷ rest) ≡ f ∷ drop 1 (parts_text (rooted_parts root parts) ++ (62 ∷ rest))
parts_head root f text parts rest found =
    elim (f == 62) as (λ b. (f == 62) ≡ b → parts_text (rooted_parts root parts) ++ (62 ∷ rest) ≡ f ∷ drop 1 (parts_text (rooted_parts root parts) ++ (62 ∷ rest))) [
      | true ↦ λ end.
          let none : Some [] ≡ Some parts = rw end at found in
          let same : [] ≡ parts = cc in
          subst (λ (all : List Part). parts_text (rooted_parts root all) ++ (62 ∷ rest) ≡ f ∷ drop 1 (parts_text (rooted_parts root all) ++ (62 ∷ rest))) same
          (ap (λ x. x ∷ rest) (sym (eqb-true f 62 end)))
      | false ↦ λ ongoing.
          let part = first_part f text in
          let step = one_before (parts_of (drop (length (part_text part)) (f ∷ text))) part parts (sym (parts_of-more f text (eqb-false f 62 ongoing)) ∙ found) in
          subst (λ (all : List Part). parts_text (rooted_parts root all) ++ (62 ∷ rest) ≡ f ∷ drop 1 (parts_text (rooted_parts root all) ++ (62 ∷ rest))) (sym step.2)
          (headed f (part_text (rooted_part root part)) (parts_text (rooted_parts root step.0)) (62 ∷ rest) (drop 1 (part_text (rooted_part root part))) (part_head root f text))
    ] refl

again_within : (root : Bytes) → IsRoot root → (fuel : ℕ) (text : Bytes) (parts : List Part) → length text ≤ fuel → parts_of text ≡ Some parts → (rest : Bytes)
    → parts_of (parts_text (rooted_parts root parts) ++ (62 ∷ rest)) ≡ Some (rooted_parts root parts)
again_within root is_root fuel [] parts short found rest = cc
again_within root is_root zero (x ∷ xs) parts short found rest = absurd (omega arith)
again_within root is_root (suc fuel) (x ∷ xs) parts short found rest =
    elim (x == 62) as (λ b. (x == 62) ≡ b → parts_of (parts_text (rooted_parts root parts) ++ (62 ∷ rest)) ≡ Some (rooted_parts root parts)) [
      | true ↦ λ end.
          let none : Some [] ≡ Some parts = rw end at found in
          let same : [] ≡ parts = cc in
          subst (λ (all : List Part). parts_of (parts_text (rooted_parts root all) ++ (62 ∷ rest)) ≡ Some (rooted_parts root all)) same refl
      | false ↦ λ ongoing.
          let part = first_part x xs in
          let rooted = rooted_part root part in
          let size = length (part_text part) in
          let some : 0 < size = omega (arith, first_part-some x xs) in
          let step = one_before (parts_of (drop size (x ∷ xs))) part parts (sym (parts_of-more x xs (eqb-false x 62 ongoing)) ∙ found) in
          let cut = part_cut x xs in
          let left : drop size (x ∷ xs) ≡ cut.rest = ap (drop size) cut.same ∙ drop-append_seam (part_text part) cut.rest in
          let next = some_text (drop size (x ∷ xs)) step.0 step.1 in
          let is_part = IsPart-rooted root is_root (cut.is_part next.0 next.1 (sym left ∙ next.2)) in
          let after = parts_text (rooted_parts root step.0) ++ (62 ∷ rest) in
          let head : after ≡ next.0 ∷ drop 1 after = parts_head root next.0 next.1 step.0 rest (ap parts_of (sym next.2) ∙ step.1) in
          let same = subst (λ (t : Bytes). first_part (first (part_text rooted ++ t)) (drop 1 (part_text rooted ++ t)) ≡ rooted) (sym head) (part_again (drop 1 after) is_part) in
          let more = again_within root is_root fuel (drop size (x ∷ xs)) step.0 (shorter (x ∷ xs) size fuel short some) step.1 rest in
          subst (λ (all : List Part). parts_of (parts_text (rooted_parts root all) ++ (62 ∷ rest)) ≡ Some (rooted_parts root all)) (sym step.2)
          (ap parts_of (append_assoc (part_text rooted) (parts_text (rooted_parts root step.0)) (62 ∷ rest))
          ∙ parts_of-joined rooted x (drop 1 (part_text rooted)) after (rooted_parts root step.0) (part_head root x xs) (eqb-false x 62 ongoing) same more)
    ] refl

-- finished parts are read again, whatever comes after their `>`
pub parts_again : (root : Bytes) → IsRoot root → (text : Bytes) (parts : List Part) → parts_of text ≡ Some parts → (rest : Bytes)
    → parts_of (parts_text (rooted_parts root parts) ++ (62 ∷ rest)) ≡ Some (rooted_parts root parts)
parts_again root is_root text parts found rest = again_within root is_root (length text) text parts (omega arith) found rest
