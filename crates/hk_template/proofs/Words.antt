-- A word is read back from its text, and what is read is spelled so.
use Rattle.std.proofs.Common.{◌≡◌, Bool, true, false, if◌then◌else◌, refl, ◌∙◌, codes, bytes_eq, Option, Some, None, IfSome}
use Rattle.std.specs.List.{list_all}
use Rattle.hk_base.specs.Bytes.{Bytes}
use Rattle.hk_base.specs.Key.{is_key_byte, is_key, begins_with_letter, ends_with_dash}
use Rattle.hk_template.specs.Key.{is_word, is_bare_key, is_partial_path}
use Rattle.hk_template.specs.Token.{Word, key, if_, else_, endif, for_, sep, endfor, partial, word_text, is_proper}
use Rattle.hk_template.specs.Cut.{after_front, between, first_word, fixed_word, word_if, word_of}
use Rattle.hk_template.proofs.Bools.{first_true, second_true, not_true, or_first, or_second, bytes_equal}
use Rattle.hk_template.proofs.Fronts.{between_finds, between_sound, no_front}

abbrev pub Spells : Bytes → Word → Type 0
Spells bytes word = (bytes ≡ word_text word) × (is_proper word ≡ true)

first_sound : (bytes : Bytes) (a b : Option Word) → IfSome a (Spells bytes) → IfSome b (Spells bytes) → IfSome (first_word a b) (Spells bytes)
first_sound bytes (Some word) b h g = h
first_sound bytes None b h g = g

if_sound : (bytes : Bytes) (word : Word) (other : Option Word) → is_proper word ≡ true → IfSome other (Spells bytes) → IfSome (if bytes_eq bytes (word_text word) then Some word else other) (Spells bytes)
if_sound bytes word other p h = by_test (bytes_eq bytes (word_text word)) refl
  where
    by_test : (b : Bool) → bytes_eq bytes (word_text word) ≡ b → IfSome (if b then Some word else other) (Spells bytes)
    by_test true e = (bytes_equal _ _ e, p)
    by_test false e = h

fixed_sound : (bytes : Bytes) → IfSome (fixed_word bytes) (Spells bytes)
fixed_sound bytes = if_sound bytes else_ _ refl (if_sound bytes endif _ refl (if_sound bytes sep _ refl (if_sound bytes endfor None refl tt)))

word_if_sound : (bytes : Bytes) (make : Bytes → Word) (test : Bytes → Bool) (r : Option Bytes) → ((k : Bytes) → is_proper (make k) ≡ test k) → IfSome r (λ k. bytes ≡ word_text (make k)) → IfSome (word_if make test r) (Spells bytes)
word_if_sound bytes make test None p h = tt
word_if_sound bytes make test (Some k) p h = by_test (test k) refl
  where
    by_test : (b : Bool) → test k ≡ b → IfSome (if b then Some (make k) else None) (Spells bytes)
    by_test true e = (h, p k ∙ e)
    by_test false e = tt

pub word_sound : (bytes : Bytes) → IfSome (word_of bytes) (Spells bytes)
unfolding word_of
word_sound bytes =
    first_sound bytes _ _ (fixed_sound bytes)
    (first_sound bytes _ _ (word_if_sound bytes if_ is_key _ (λ k. refl) (between_sound (codes "if(") (codes ")") bytes))
    (first_sound bytes _ _ (word_if_sound bytes for_ is_key _ (λ k. refl) (between_sound (codes "for(") (codes ")") bytes))
    (first_sound bytes _ _ (word_if_sound bytes partial is_partial_path _ (λ k. refl) (between_sound (codes "partial(\"") (codes "\")") bytes))
    (word_if_sound bytes key is_bare_key (Some bytes) (λ k. refl) refl))))

pub key_bytes : (k : Bytes) → is_key k ≡ true → list_all is_key_byte k ≡ true
key_bytes k h = first_true _ _ (second_true (begins_with_letter k) _ h)

pub key_end : (k : Bytes) → is_key k ≡ true → ends_with_dash k ≡ false
key_end k h = not_true _ (first_true _ _ (second_true (list_all is_key_byte k) _ (second_true (begins_with_letter k) _ h)))

pub key_begin : (k : Bytes) → is_key k ≡ true → begins_with_letter k ≡ true
key_begin k h = first_true _ _ h

no_between : (front end k : Bytes) → after_front front k ≡ None → between front end k ≡ None
no_between front end k e = rw e refl

key_found : (k : Bytes) → is_key k ≡ true → is_word k ≡ false → word_of k ≡ Some (key k)
unfolding word_of
key_found k h w =
    let all : list_all is_key_byte k ≡ true = key_bytes k h in
    let a : bytes_eq k (codes "if") ≡ false = or_first _ _ w in
    let w1 = or_second (bytes_eq k (codes "if")) _ w in
    let f1 : bytes_eq k (codes "for") ≡ false = or_first _ _ w1 in
    let w2 = or_second (bytes_eq k (codes "for")) _ w1 in
    let f2 : bytes_eq k (codes "partial") ≡ false = or_first _ _ w2 in
    let w3 = or_second (bytes_eq k (codes "partial")) _ w2 in
    let e1 : bytes_eq k (codes "else") ≡ false = or_first _ _ w3 in
    let w4 = or_second (bytes_eq k (codes "else")) _ w3 in
    let e2 : bytes_eq k (codes "sep") ≡ false = or_first _ _ w4 in
    let w5 = or_second (bytes_eq k (codes "sep")) _ w4 in
    let e3 : bytes_eq k (codes "endif") ≡ false = or_first _ _ w5 in
    let w6 = or_second (bytes_eq k (codes "endif")) _ w5 in
    let e4 : bytes_eq k (codes "endfor") ≡ false = or_first _ _ w6 in
    let b1 : between (codes "if(") (codes ")") k ≡ None = no_between (codes "if(") (codes ")") k (no_front (codes "if(") k (λ rest. refl) all) in
    let b2 : between (codes "for(") (codes ")") k ≡ None = no_between (codes "for(") (codes ")") k (no_front (codes "for(") k (λ rest. refl) all) in
    let b3 : between (codes "partial(\"") (codes "\")") k ≡ None = no_between (codes "partial(\"") (codes "\")") k (no_front (codes "partial(\"") k (λ rest. refl) all) in
    rw (e1, e2, e3, e4) (rw (b1, b2, b3) (rw (h, a, f1, f2) refl))

pub word_found : (word : Word) → is_proper word ≡ true → word_of (word_text word) ≡ Some word
unfolding word_of
word_found (key k) h = key_found k (first_true _ _ h) (not_true _ (second_true (is_key k) _ h))
word_found (if_ k) h = rw (between_finds (codes "if(") (codes ")") k, h) refl
word_found else_ h = refl
word_found endif h = refl
word_found (for_ k) h = rw (between_finds (codes "for(") (codes ")") k, h) refl
word_found sep h = refl
word_found endfor h = refl
word_found (partial path) h = rw (between_finds (codes "partial(\"") (codes "\")") path, h) refl
