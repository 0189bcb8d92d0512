-- Tokens one list after the other, and how a text that goes on from them is cut.
use Rattle.std.proofs.Common.{◌≡◌, Bool, true, false, not, ◌&&◌, List, [], ◌∷◌, ◌++◌, refl, ap, sym, ◌∙◌, append_assoc}
use Rattle.std.specs.List.{flat_map, list_all}
use Rattle.std.proofs.lemmas.Grind.{flat_map-append}
use Rattle.std.proofs.lemmas.List.Folds.{list_all-append}
use Rattle.hk_base.specs.Bytes.{Bytes}
use Rattle.hk_template.specs.Token.{Token, text, dollar, tag, token_text, is_token, is_text, begins_with_text, texts_apart}
use Rattle.hk_template.specs.Cut.{cut}
use Rattle.hk_template.proofs.Bools.{no_false, first_true, second_true, both_true, not_true}
use Rattle.hk_template.proofs.Cutting.{ends_run, token_found, cut_found}

-- the text of tokens
abbrev pub text_of : List Token → Bytes
text_of ts = flat_map token_text ts

pub text_of-append : (a b : List Token) → text_of (a ++ b) ≡ text_of a ++ text_of b
text_of-append a b = flat_map-append token_text a b

abbrev pub all_proper : List Token → Bool
all_proper ts = list_all is_token ts

pub proper_both : (a b : List Token) → all_proper a ≡ true → all_proper b ≡ true → all_proper (a ++ b) ≡ true
proper_both a b h g = list_all-append is_token a b ∙ both_true (all_proper a) (all_proper b) h g

pub proper_front : (a b : List Token) → all_proper (a ++ b) ≡ true → all_proper a ≡ true
proper_front a b h = first_true (all_proper a) (all_proper b) (sym (list_all-append is_token a b) ∙ h)

pub proper_back : (a b : List Token) → all_proper (a ++ b) ≡ true → all_proper b ≡ true
proper_back a b h = second_true (all_proper a) (all_proper b) (sym (list_all-append is_token a b) ∙ h)

apart_of : (x y z : Bool) → (not (x && y) && z) ≡ true → (not (x && y) ≡ true) × (z ≡ true)
apart_of x y z h = (first_true (not (x && y)) z h, second_true (not (x && y)) z h)

no_text_after : (x y : Bool) → y ≡ false → not (x && y) ≡ true
no_text_after true y e = ap not e
no_text_after false y e = refl

pub apart_both : (a b : List Token) → texts_apart a ≡ true → texts_apart b ≡ true → begins_with_text b ≡ false → texts_apart (a ++ b) ≡ true
apart_both [] b h g e = g
apart_both (t ∷ []) b h g e = both_true (not (is_text t && begins_with_text b)) (texts_apart b) (no_text_after (is_text t) (begins_with_text b) e) g
apart_both (t ∷ (u ∷ a)) b h g e =
    let parts = apart_of (is_text t) (is_text u) (texts_apart (u ∷ a)) h in
    both_true (not (is_text t && is_text u)) (texts_apart (u ∷ (a ++ b))) parts.0 (apart_both (u ∷ a) b parts.1 g e)

pub apart_front : (a b : List Token) → texts_apart (a ++ b) ≡ true → texts_apart a ≡ true
apart_front [] b h = refl
apart_front (t ∷ []) b h = both_true (not (is_text t && false)) true (no_text_after (is_text t) false refl) refl
apart_front (t ∷ (u ∷ a)) b h =
    let parts = apart_of (is_text t) (is_text u) (texts_apart (u ∷ (a ++ b))) h in
    both_true (not (is_text t && is_text u)) (texts_apart (u ∷ a)) parts.0 (apart_front (u ∷ a) b parts.1)

pub apart_back : (a b : List Token) → texts_apart (a ++ b) ≡ true → texts_apart b ≡ true
apart_back [] b h = h
apart_back (t ∷ a) b h = apart_back a b (second_true (not (is_text t && begins_with_text (a ++ b))) (texts_apart (a ++ b)) h)

-- a token that is no text begins with a dollar sign
starts_dollar : (t : Token) (rest : Bytes) → is_text t ≡ false → ends_run (token_text t ++ rest) ≡ true
starts_dollar (text bytes) rest e = no_false (sym e)
starts_dollar dollar rest e = refl
starts_dollar (tag left word right) rest e = refl

edge_before : (b : Token) (bs : List Token) (t : Token) (more : Bytes) → texts_apart (b ∷ bs) ≡ true → is_text t ≡ false → is_text b ≡ true → ends_run (text_of bs ++ (token_text t ++ more)) ≡ true
edge_before b [] t more h e is = starts_dollar t more e
edge_before b (x ∷ xs) t more h e is =
    let parts = apart_of (is_text b) (is_text x) (texts_apart (x ∷ xs)) h in
    let none : not (true && is_text x) ≡ true = ap (λ y. not (y && is_text x)) (sym is) ∙ parts.0 in
    let other : is_text x ≡ false = not_true (is_text x) none in
    ap ends_run (append_assoc (token_text x) (text_of xs) (token_text t ++ more)) ∙ starts_dollar x (text_of xs ++ (token_text t ++ more)) other

-- tokens, one that is no text, and any bytes are cut into those tokens and what the bytes give
pub cut_on_from : (before : List Token) (t : Token) (more : Bytes) → all_proper before ≡ true → texts_apart before ≡ true → is_token t ≡ true → is_text t ≡ false
    → cut (text_of before ++ (token_text t ++ more)) ≡ (before ++ (t ∷ (cut more).0), (cut more).1)
cut_on_from [] t more h a p e = cut_found (token_text t ++ more) t more (token_found t more p (λ is. no_false (sym e ∙ is)))
cut_on_from (b ∷ bs) t more h a p e =
    let rest = text_of bs ++ (token_text t ++ more) in
    let inner = cut_on_from bs t more (second_true (is_token b) (all_proper bs) h) (apart_back (b ∷ []) bs a) p e in
    let found = token_found b rest (first_true (is_token b) (all_proper bs) h) (edge_before b bs t more a e) in
    ap cut (append_assoc (token_text b) (text_of bs) (token_text t ++ more))
    ∙ cut_found (token_text b ++ rest) b rest found
    ∙ (λ i. let c = inner i in (b ∷ c.0, c.1))
