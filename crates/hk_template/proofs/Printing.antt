-- A printable tree is the tree of its text, and every tree of a text is printable.
use Rattle.std.proofs.Common.{◌≡◌, Bool, true, false, if◌then◌else◌, ◌&&◌, not, List, [], ◌∷◌, ◌++◌, map, refl, ap, sym, ◌∙◌, codes, append-nil, flat_map}
use Rattle.std.specs.List.{list_all}
use Rattle.hk_base.specs.Bytes.{Bytes}
use Rattle.hk_template.specs.Token.{Token, text, dollar, tag, word_text, is_run, is_text, is_token, token_text, begins_with_text, texts_apart}
use Rattle.hk_template.specs.Tree.{Nodes, nodes_tokens, Plain, plain_text, plain_dollar, plain_tag, is_blank, trim_start, trim_end, trim_start_if, trim_end_if, text_if_any, dashed, trimmed}
use Rattle.hk_template.specs.Template.{IsTemplate, IsPrintable, is_plain_text, is_plain_token, begins_with_plain_text, plain_texts_apart, plain_spelling, tree_text}
use Rattle.hk_template.proofs.Bools.{first_true, second_true, both_true, not_true, no_false}
use Rattle.hk_template.proofs.Tags.{no_dollar}

abbrev undashed : Plain → Token
undashed (plain_text bytes) = text bytes
undashed plain_dollar = dollar
undashed (plain_tag word) = tag false word false

undashed_text : (p : Plain) → plain_spelling p ≡ token_text (undashed p)
undashed_text (plain_text bytes) = refl
undashed_text plain_dollar = refl
undashed_text (plain_tag word) = ap (λ t. 36 ∷ (t ++ codes "$")) (sym (append-nil (word_text word)))

undashed_spelled : (ps : List Plain) → flat_map plain_spelling ps ≡ flat_map token_text (map undashed ps)
undashed_spelled [] = refl
undashed_spelled (p ∷ ps) = ap (λ t. t ++ flat_map plain_spelling ps) (undashed_text p) ∙ ap (λ t. token_text (undashed p) ++ t) (undashed_spelled ps)

undashed_token : (p : Plain) → is_token (undashed p) ≡ is_plain_token p
undashed_token (plain_text bytes) = refl
undashed_token plain_dollar = refl
undashed_token (plain_tag word) = refl

undashed_proper : (ps : List Plain) → list_all is_plain_token ps ≡ true → list_all is_token (map undashed ps) ≡ true
undashed_proper [] h = refl
undashed_proper (p ∷ ps) h = both_true (is_token (undashed p)) _ (undashed_token p ∙ first_true (is_plain_token p) _ h) (undashed_proper ps (second_true (is_plain_token p) _ h))

undashed_kind : (p : Plain) → is_text (undashed p) ≡ is_plain_text p
undashed_kind (plain_text bytes) = refl
undashed_kind plain_dollar = refl
undashed_kind (plain_tag word) = refl

undashed_begin : (ps : List Plain) → begins_with_text (map undashed ps) ≡ begins_with_plain_text ps
undashed_begin [] = refl
undashed_begin (p ∷ ps) = undashed_kind p

undashed_apart : (ps : List Plain) → plain_texts_apart ps ≡ true → texts_apart (map undashed ps) ≡ true
undashed_apart [] h = refl
undashed_apart (p ∷ ps) h = both_true (not (is_text (undashed p) && begins_with_text (map undashed ps))) _
    (ap (λ a. not (a && begins_with_text (map undashed ps))) (undashed_kind p) ∙ ap (λ b. not (is_plain_text p && b)) (undashed_begin ps) ∙ first_true (not (is_plain_text p && begins_with_plain_text ps)) _ h)
    (undashed_apart ps (second_true (not (is_plain_text p && begins_with_plain_text ps)) _ h))

no_dash : (ps : List Plain) → dashed (map undashed ps) ≡ false
no_dash [] = refl
no_dash (plain_text bytes ∷ ps) = refl
no_dash (plain_dollar ∷ ps) = refl
no_dash (plain_tag word ∷ ps) = refl

text_kept : (bytes : Bytes) (ps : List Plain) → is_run bytes ≡ true → text_if_any bytes ps ≡ plain_text bytes ∷ ps
text_kept [] ps h = no_false h
text_kept (c ∷ cs) ps h = refl

undashed_trimmed : (ps : List Plain) → list_all is_plain_token ps ≡ true → trimmed false (map undashed ps) ≡ ps
undashed_trimmed [] h = refl
undashed_trimmed (plain_text bytes ∷ ps) h =
    ap (λ d. text_if_any (trim_end_if d bytes) (trimmed false (map undashed ps))) (no_dash ps)
    ∙ ap (text_if_any bytes) (undashed_trimmed ps (second_true (is_run bytes) _ h))
    ∙ text_kept bytes ps (first_true (is_run bytes) _ h)
undashed_trimmed (plain_dollar ∷ ps) h = ap (λ rest. plain_dollar ∷ rest) (undashed_trimmed ps h)
undashed_trimmed (plain_tag word ∷ ps) h = ap (λ rest. plain_tag word ∷ rest) (undashed_trimmed ps (second_true _ _ h))

-- a printable tree is the tree of its text
pub printed : (tree : Nodes) → IsPrintable tree → IsTemplate (tree_text tree) tree
printed tree h = record {
  tokens = map undashed (nodes_tokens tree);
  spelled = undashed_spelled (nodes_tokens tree);
  proper = undashed_proper (nodes_tokens tree) h.proper;
  apart = undashed_apart (nodes_tokens tree) h.apart;
  built = undashed_trimmed (nodes_tokens tree) h.proper;
  shallow = h.shallow;
}

start_kept : (b : Bytes) → list_all no_dollar b ≡ true → list_all no_dollar (trim_start b) ≡ true
start_kept [] h = refl
start_kept (c ∷ cs) h = by_test (is_blank c) (start_kept cs (second_true (no_dollar c) _ h))
  where
    by_test : (b : Bool) → list_all no_dollar (trim_start cs) ≡ true → list_all no_dollar (if b then trim_start cs else c ∷ cs) ≡ true
    by_test true later = later
    by_test false later = h

end_kept : (b : Bytes) → list_all no_dollar b ≡ true → list_all no_dollar (trim_end b) ≡ true
end_kept [] h = refl
end_kept (c ∷ cs) h = by_test (list_all is_blank (c ∷ cs)) (end_kept cs (second_true (no_dollar c) _ h))
  where
    by_test : (b : Bool) → list_all no_dollar (trim_end cs) ≡ true → list_all no_dollar (if b then [] else c ∷ trim_end cs) ≡ true
    by_test true later = refl
    by_test false later = both_true (no_dollar c) _ (first_true (no_dollar c) _ h) later

start_if_kept : (after : Bool) (b : Bytes) → list_all no_dollar b ≡ true → list_all no_dollar (trim_start_if after b) ≡ true
start_if_kept true b h = start_kept b h
start_if_kept false b h = h

end_if_kept : (left : Bool) (b : Bytes) → list_all no_dollar b ≡ true → list_all no_dollar (trim_end_if left b) ≡ true
end_if_kept true b h = end_kept b h
end_if_kept false b h = h

run_bytes : (b : Bytes) → is_run b ≡ true → list_all no_dollar b ≡ true
run_bytes [] h = refl
run_bytes (c ∷ cs) h = h

if_any_proper : (b : Bytes) (ps : List Plain) → list_all no_dollar b ≡ true → list_all is_plain_token ps ≡ true → list_all is_plain_token (text_if_any b ps) ≡ true
if_any_proper [] ps h g = g
if_any_proper (c ∷ cs) ps h g = both_true (is_run (c ∷ cs)) _ h g

trimmed_proper : (after : Bool) (ts : List Token) → list_all is_token ts ≡ true → list_all is_plain_token (trimmed after ts) ≡ true
trimmed_proper after [] h = refl
trimmed_proper after (text bytes ∷ ts) h = if_any_proper (trim_end_if (dashed ts) (trim_start_if after bytes)) (trimmed false ts) (end_if_kept (dashed ts) (trim_start_if after bytes) (start_if_kept after bytes (run_bytes bytes (first_true (is_run bytes) _ h)))) (trimmed_proper false ts (second_true (is_run bytes) _ h))
trimmed_proper after (dollar ∷ ts) h = trimmed_proper false ts h
trimmed_proper after (tag left word right ∷ ts) h = both_true _ _ (first_true _ _ h) (trimmed_proper right ts (second_true _ _ h))

trimmed_begin : (after : Bool) (ts : List Token) → begins_with_text ts ≡ false → begins_with_plain_text (trimmed after ts) ≡ false
trimmed_begin after [] h = refl
trimmed_begin after (text bytes ∷ ts) h = no_false (sym h)
trimmed_begin after (dollar ∷ ts) h = refl
trimmed_begin after (tag left word right ∷ ts) h = refl

if_any_apart : (b : Bytes) (ps : List Plain) → begins_with_plain_text ps ≡ false → plain_texts_apart ps ≡ true → plain_texts_apart (text_if_any b ps) ≡ true
if_any_apart [] ps h g = g
if_any_apart (c ∷ cs) ps h g = both_true (not (begins_with_plain_text ps)) _ (ap not h) g

trimmed_apart : (after : Bool) (ts : List Token) → texts_apart ts ≡ true → plain_texts_apart (trimmed after ts) ≡ true
trimmed_apart after [] h = refl
trimmed_apart after (text bytes ∷ ts) h = if_any_apart (trim_end_if (dashed ts) (trim_start_if after bytes)) (trimmed false ts) (trimmed_begin false ts (not_true _ (first_true _ _ h))) (trimmed_apart false ts (second_true _ _ h))
trimmed_apart after (dollar ∷ ts) h = trimmed_apart false ts h
trimmed_apart after (tag left word right ∷ ts) h = trimmed_apart right ts h

-- every tree of a text is printable
pub printable : (bytes : Bytes) (tree : Nodes) → IsTemplate bytes tree → IsPrintable tree
printable bytes tree h = record {
  proper = sym (ap (list_all is_plain_token) h.built) ∙ trimmed_proper false h.tokens h.proper;
  apart = sym (ap plain_texts_apart h.built) ∙ trimmed_apart false h.tokens h.apart;
  shallow = h.shallow;
}
