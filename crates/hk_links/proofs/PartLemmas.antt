-- What changes of parts do to their texts.
use Rattle.std.proofs.Common.{◌≡◌, ◌-◌, ◌<◌, ◌==◌, true, false, List, [], ◌∷◌, ◌++◌, length, take, drop, get_or, refl, sym, ap, ◌∙◌, append-nil, arith}
use Rattle.std.proofs.lemmas.List.{map-append, length-map}
use Rattle.std.specs.List.{fold, flat_map, join_with_byte, take-map}
use Rattle.std.proofs.lemmas.List.Sums.{fold-append}
use Rattle.hk_base.specs.Bytes.{Bytes}
use Rattle.hk_base.specs.Identifier.{parts}
use Rattle.hk_links.specs.declared.path.Part.{Part}
use Rattle.hk_links.specs.Parts.{joined_text, part_text, part_texts, slash_and_text}
use Rattle.hk_links.specs.Path.{but_last, last_of, folder, step, with_index, reached, resolved_path}

pub texts_push : (all : List Part) (part : Part) → part_texts (all ++ part ∷ []) ≡ part_texts all ++ part_text part ∷ []
texts_push all part = map-append part_text all (part ∷ [])

pub texts_pop : (all : List Part) → part_texts (take (length all - 1) all) ≡ but_last (part_texts all)
texts_pop all = sym (take-map part_text (length all - 1) all) ∙ ap (λ n. take (n - 1) (part_texts all)) (sym (length-map all part_text))

-- one part at a time
pub step_more : (start seen : List Bytes) (part : Bytes) → fold step start (seen ++ part ∷ []) ≡ step (fold step start seen) part
step_more start seen part = fold-append step start seen (part ∷ [])

pub last_more : (seen : List Bytes) (part : Bytes) → last_of (seen ++ part ∷ []) ≡ part
last_more [] part = refl
last_more (x ∷ []) part = refl
last_more (x ∷ y ∷ more) part = last_more (y ∷ more) part

-- what a loop over the parts of a path has reached, and at its end
pub reached_more : (start seen old new : List Bytes) (part : Bytes) → old ≡ fold step start seen → new ≡ step old part → new ≡ fold step start (seen ++ part ∷ [])
reached_more start seen old new part known next = next ∙ ap (λ texts. step texts part) known ∙ sym (step_more start seen part)

pub reached_whole : (start texts seen : List Bytes) (last path : Bytes) → texts ≡ fold step start seen → last ≡ last_of seen → seen ≡ parts path → with_index last texts ≡ reached start path
reached_whole start texts seen last path one two whole =
    ap (with_index last) one ∙ ap (λ l. with_index l (fold step start seen)) two ∙ ap (λ all. with_index (last_of all) (fold step start all)) whole

joined-rest : (part : Part) (rest : List Part) → join_with_byte 47 (part_texts (part ∷ rest)) ≡ part_text part ++ flat_map slash_and_text rest
joined-rest part [] = sym (append-nil (part_text part))
joined-rest part (next ∷ rest) = ap (λ more. part_text part ++ 47 ∷ more) (joined-rest next rest)

-- the parts joined by `/`
pub joined_whole : (all : List Part) → joined_text all ≡ join_with_byte 47 (part_texts all)
joined_whole [] = refl
joined_whole (part ∷ rest) = sym (joined-rest part rest)

-- ---- where a path leads

pub resolved_empty : (target path : Bytes) → length path ≡ 0 → resolved_path target path ≡ target
resolved_empty target [] e = refl
resolved_empty target (x ∷ xs) e = absurd (omega arith)

pub resolved_rooted : (target path : Bytes) → 0 < length path → (get_or path 0 0 == 47) ≡ true → resolved_path target path ≡ join_with_byte 47 (reached [] (drop 1 path))
resolved_rooted target [] some slash = absurd (omega arith)
resolved_rooted target (x ∷ xs) some slash = rw (slash) refl

pub resolved_within : (target path : Bytes) → 0 < length path → (get_or path 0 0 == 47) ≡ false → resolved_path target path ≡ join_with_byte 47 (reached (folder target) path)
resolved_within target [] some other = absurd (omega arith)
resolved_within target (x ∷ xs) some other = rw (other) refl
