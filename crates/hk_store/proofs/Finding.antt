-- What stands at the beginning of bytes, from its parts.
use Rattle.std.proofs.Common.{◌≡◌, refl, sym, ap, ◌∙◌, subst, arith, ℕ, ◌+◌, ◌≤◌, ◌==◌, true, false, not, [], ◌∷◌, ◌++◌, append_assoc, length, length-append, take, drop, take-append-drop, cond, Option, Some, None, ne_eqb, nat_lt, lt-ltb}
use Rattle.std.specs.Prelude.{Result, Ok, Err, position}
use Rattle.std.specs.Result.{is_err, OnOk}
use Rattle.std.specs.Fmt.{decimal}
use Rattle.std.specs.List.{position_or_len}
use Rattle.hex.specs.Hex.{encode_lower, decode_of, decode_sized, lower_digits}
use Rattle.hex.proofs.HexLemmas.{decode_of-encode_lower, length-encode_with, decode_sized-twice}
use Rattle.hk_base.specs.Bytes.{Bytes}
use Rattle.hk_base.specs.Identifier.{Ident, read_ident, unless}
use Rattle.hk_base.specs.declared.identifier.IdentFault.{IdentFault}
use Rattle.hk_forms.specs.PatternText.{num, str, opt, ident_text}
use Rattle.hk_store.specs.Found.{Finds}
use Rattle.hk_store.specs.Stored.{HeldId, IsDigest}
use Rattle.hk_store.specs.StoreText.{digest_text}
use Rattle.hk_store.specs.Told.{Told, Small, Short, Any, both, Both}
use Rattle.hk_store.proofs.Telling.{back-short, num-same, str-short, str-told, opt-told, decimal-plain, Plain}

-- ---- a line

place-of-feed : (line r : Bytes) → Plain line → position_or_len (λ b. b == 10) (line ++ 10 ∷ r) ≡ length line
place-of-feed [] r h = refl
place-of-feed (c ∷ line) r h =
    ap (λ b. cond (not b) (1 + position_or_len (λ b. b == 10) (line ++ 10 ∷ r)) 0) (ne_eqb c 10 (λ e. absurd (omega (arith, e, h.0))))
    ∙ ap (λ n. 1 + n) (place-of-feed line r h.1)
    ∙ (omega arith)

pub first-feed : (line r : Bytes) → Plain line → position (λ b. b == 10) (line ++ 10 ∷ r) ≡ Some (length line)
first-feed line r h =
    ap (λ n. cond (nat_lt n (length (line ++ 10 ∷ r))) (Some n) None) (place-of-feed line r h)
    ∙ ap (λ b. cond b (Some (length line)) None) (lt-ltb (length line) (length (line ++ 10 ∷ r)) (omega (arith, length-append line (10 ∷ r))))

-- ---- two parts

module _ {A B : Type 0} (p : A → Bytes) (q : B → Bytes) (D : A → Type 0) (E : B → Type 0) (bytes : Bytes) where
  pub first-none : Finds p D bytes None → Finds (both p q) (Both D E) bytes None
  first-none none z rest h e = none z.0 (q z.1 ++ rest) h.0 (e ∙ append_assoc (p z.0) (q z.1) rest)

  pub second-none : (a : A) (mid : Bytes) → Told D p a → Short bytes → D a → bytes ≡ p a ++ mid → Finds q E mid None → Finds (both p q) (Both D E) bytes None
  second-none a mid told short d is none z rest h e =
      let t = told z.0 d h.0 mid (q z.1 ++ rest) (subst Short is short) (sym is ∙ (e ∙ append_assoc (p z.0) (q z.1) rest)) in
      none z.1 rest h.1 t.1

  pub both-some : (a : A) (mid : Bytes) (b : B) (rest : Bytes) → bytes ≡ p a ++ mid → mid ≡ q b ++ rest → bytes ≡ both p q (a, b) ++ rest
  both-some a mid b rest e f = e ∙ (ap (λ v. p a ++ v) f ∙ sym (append_assoc (p a) (q b) rest))

-- ---- a number, and a text after its length

pub take-front : (a b : Bytes) → take (length a) (a ++ b) ≡ a
take-front [] b = refl
take-front (x ∷ a) b = ap (λ l. x ∷ l) (take-front a b)

drop-front : (a b : Bytes) → drop (length a) (a ++ b) ≡ b
drop-front [] b = refl
drop-front (x ∷ a) b = drop-front a b

some-same : (a b : ℕ) → Some a ≡ Some b → a ≡ b
some-same a b e = cc

pub num-cut : (bytes r : Bytes) (n end : ℕ) → position (λ b. b == 10) bytes ≡ Some end → bytes ≡ num n ++ r → (take end bytes ≡ decimal n) × (drop end bytes ≡ 10 ∷ r)
num-cut bytes r n end at e =
    let whole : bytes ≡ decimal n ++ (10 ∷ r) = e ∙ append_assoc (decimal n) (10 ∷ []) r in
    let ends : end ≡ length (decimal n) = some-same end (length (decimal n)) (sym at ∙ (ap (position (λ b. b == 10)) whole ∙ first-feed (decimal n) r (decimal-plain n))) in
    ((λ k. take (ends k) (whole k)) ∙ take-front (decimal n) (10 ∷ r), (λ k. drop (ends k) (whole k)) ∙ drop-front (decimal n) (10 ∷ r))

pub num-none : (bytes r : Bytes) (n : ℕ) → position (λ b. b == 10) bytes ≡ None → bytes ≡ num n ++ r → ⊥
num-none bytes r n at e =
    let whole : bytes ≡ decimal n ++ (10 ∷ r) = e ∙ append_assoc (decimal n) (10 ∷ []) r in
    let w : Some (length (decimal n)) ≡ None = sym (first-feed (decimal n) r (decimal-plain n)) ∙ (sym (ap (position (λ b. b == 10)) whole) ∙ at) in
    cc

pub str-cut : (bytes rest b r : Bytes) (n : ℕ) → Short bytes → Small n → bytes ≡ num n ++ rest → bytes ≡ str b ++ r → (n ≡ length b) × (rest ≡ b ++ (10 ∷ r))
str-cut bytes rest b r n short small is e =
    let t = num-same n (length b) small (str-short b r (subst Short e short)) rest ((b ++ 10 ∷ []) ++ r) (sym is ∙ (e ∙ append_assoc (num (length b)) (b ++ 10 ∷ []) r)) in
    (t.0, t.1 ∙ append_assoc b (10 ∷ []) r)

pub drop-cut : (rest b r : Bytes) (n : ℕ) → n ≡ length b → rest ≡ b ++ (10 ∷ r) → drop n rest ≡ 10 ∷ r
drop-cut rest b r n e is = (λ k. drop (e k) (is k)) ∙ drop-front b (10 ∷ r)

-- ---- an identifier and a digest

pub digest-short : (d rest bytes : Bytes) → IsDigest d → bytes ≡ digest_text d ++ rest → 64 ≤ length bytes
digest-short d rest bytes h e = omega (arith, h.0, ap length e, length-append (digest_text d) rest, length-append (encode_lower d) (10 ∷ []), length-encode_with lower_digits d)

pub digest-cut : (d rest bytes : Bytes) → IsDigest d → bytes ≡ digest_text d ++ rest → (take 64 bytes ≡ encode_lower d) × (drop 64 bytes ≡ 10 ∷ rest)
digest-cut d rest bytes h e =
    let long : 64 ≡ length (encode_lower d) = omega (arith, h.0, length-encode_with lower_digits d) in
    let whole : bytes ≡ encode_lower d ++ (10 ∷ rest) = e ∙ append_assoc (encode_lower d) (10 ∷ []) rest in
    ((λ k. take (long k) (whole k)) ∙ take-front (encode_lower d) (10 ∷ rest), (λ k. drop (long k) (whole k)) ∙ drop-front (encode_lower d) (10 ∷ rest))

-- digits of a digest are read as it
pub digits-read : (digits d : Bytes) → length digits ≡ 64 → IsDigest d → digits ≡ encode_lower d → decode_sized digits 32 ≡ Ok d
digits-read digits d long h e = decode_sized-twice digits 32 (omega (arith, long)) ∙ (ap decode_of e ∙ decode_of-encode_lower d h.1)

pub digest-whole : (digits back d rest bytes : Bytes) → digits ≡ take 64 bytes → back ≡ drop 64 bytes → digits ≡ encode_lower d → back ≡ 10 ∷ rest → bytes ≡ digest_text d ++ rest
digest-whole digits back d rest bytes front behind is next =
    sym (take-append-drop 64 bytes) ∙ ((λ k. sym front k ++ sym behind k) ∙ ((λ k. is k ++ next k) ∙ sym (append_assoc (encode_lower d) (10 ∷ []) rest)))

ident-parts : (id : Ident) (path : Bytes) (mid rest bytes : Bytes) → Short bytes → bytes ≡ str path ++ mid → bytes ≡ ident_text id ++ rest → (path ≡ id.path) × (mid ≡ opt id.version ++ rest)
ident-parts id path mid rest bytes short is e = str-told path id.path tt tt mid (opt id.version ++ rest) (subst Short is short) (sym is ∙ (e ∙ append_assoc (str id.path) (opt id.version) rest))

pub ident-none : (path mid bytes : Bytes) → Short bytes → bytes ≡ str path ++ mid → Finds opt Any mid None → (id : Ident) (rest : Bytes) → HeldId id → bytes ≡ ident_text id ++ rest → ⊥
ident-none path mid bytes short is none id rest h e = none id.version rest tt (ident-parts id path mid rest bytes short is e).1

pub ident-fault : (path : Bytes) (version : Option Bytes) (mid after bytes : Bytes) (fault : IdentFault) → Short bytes → bytes ≡ str path ++ mid → mid ≡ opt version ++ after → read_ident path version ≡ Err fault → (id : Ident) (rest : Bytes) → HeldId id → bytes ≡ ident_text id ++ rest → ⊥
ident-fault path version mid after bytes fault short is then bad id rest h e =
    let first = ident-parts id path mid rest bytes short is e in
    let second = opt-told version id.version tt tt after rest (subst Short then (back-short (str path) mid (subst Short is short))) (sym then ∙ first.1) in
    let good : read_ident path version ≡ Ok id = (λ k. read_ident (first.0 k) (second.0 k)) ∙ ap (λ f. unless f id) h in
    let w : Ok id ≡ Err fault = sym good ∙ bad in
    cc

pub at-ok : {T E : Type 0} (r : Result T E) (P : Type 0) → is_err r ≡ false → OnOk r P → P
at-ok (Ok x) P e h = h
at-ok (Err f) P e h = let w : true ≡ false = e in cc
