-- The names of the contexts of pages differ from all others.
use Rattle.std.proofs.Common.{◌≡◌, ◌∙◌, Bool, true, false, List, [], ◌∷◌, ◌++◌, Option, Some, None, Ok, refl, sym, ap, subst, inl, inr}
use Rattle.std.specs.Prelude.{◌||◌, ◌&&◌, ◌⊎◌, bytes_eq, codes, is_some, length, nat_le}
use Rattle.std.specs.BTreeSet.{insert_key}
use Rattle.std.specs.Cmp.{tied_itself}
use Rattle.std.specs.List.{list_all, list_any}
use Rattle.std.specs.Ordering.{is_eq, match_ordering}
use Rattle.std.specs.declared.cmp.Ordering.TheVariants.{Less, Equal, Greater}
use Rattle.hk_base.proofs.Both.{left-part, right-part, not-both}
use Rattle.hk_base.specs.Bytes.{Bytes}
use Rattle.hk_base.specs.IdentTies.{ident_cmp_total}
use Rattle.hk_base.specs.Identifier.{Ident, ident_cmp, ident_fault, unless}
use Rattle.hk_base.specs.Ties.{bytes-same}
use Rattle.hk_base.specs.declared.identifier.IdentFault.{IdentFault}
use Rattle.hk_forms.specs.IdForm.{value_of}
use Rattle.hk_forms.specs.Names.{is_name_byte, is_context_name}
use Rattle.hk_rules.specs.Plan.{Lookups}
use Rattle.hk_rules_file.specs.TableForm.{required, and_then}
use Rattle.hk_tags.specs.Expanding.{is_ident, is_taken, unless_taken, page_ident}
use Rattle.hk_tags.specs.declared.tag_fault.TagFault.TheVariants.{BadPath}

abbrev pub plain_ident : Bytes → Ident
plain_ident path = record { path = path; version = None }

context-plain : (name : Bytes) → is_context_name name ≡ true → list_all is_name_byte name ≡ true
context-plain name h = right-part (nat_le 1 (length name) && nat_le (length name) 64) (list_all is_name_byte name) h

-- no name of a context has an `@`
no-sign : {A : Type 0} (own path : Bytes) → list_all is_name_byte (own ++ 64 ∷ path) ≡ true → A
no-sign [] path h = not-both (is_name_byte 64) (left-part (is_name_byte 64) (list_all is_name_byte path) h) refl
no-sign (b ∷ own) path h = no-sign own path (right-part (is_name_byte b) (list_all is_name_byte (own ++ 64 ∷ path)) h)

-- so what stands after the first `@` is known
same-behind : (a b p q : Bytes) → list_all is_name_byte a ≡ true → list_all is_name_byte b ≡ true → a ++ 64 ∷ p ≡ b ++ 64 ∷ q → p ≡ q
same-behind [] [] p q f g e = cc
same-behind [] (d ∷ b) p q f g e = let first : 64 ≡ d = cc in not-both (is_name_byte d) (left-part (is_name_byte d) (list_all is_name_byte b) g) (subst (λ x. is_name_byte x ≡ false) first refl)
same-behind (c ∷ a) [] p q f g e = let first : c ≡ 64 = cc in not-both (is_name_byte c) (left-part (is_name_byte c) (list_all is_name_byte a) f) (subst (λ x. is_name_byte x ≡ false) (sym first) refl)
same-behind (c ∷ a) (d ∷ b) p q f g e = let rest : a ++ 64 ∷ p ≡ b ++ 64 ∷ q = cc in same-behind a b p q (right-part (is_name_byte c) (list_all is_name_byte a) f) (right-part (is_name_byte d) (list_all is_name_byte b) g) rest

differs : (x y : Bytes) → (x ≡ y → ⊥) → bytes_eq x y ≡ false
differs x y h = elim (bytes_eq x y) as (λ b. bytes_eq x y ≡ b → b ≡ false) [
  | true ↦ λ e. absurd (h (bytes-same x y e))
  | false ↦ λ e. refl
] refl

-- the name of the context of a page that was made
pub record IsPageName (made : List Ident) (name : Bytes) : Type 0 where
  pub own : Bytes
  pub path : Bytes
  pub formed : is_context_name own ≡ true
  pub is : name ≡ own ++ (codes "@" ++ path)
  pub there : list_any (is_ident (plain_ident path)) made ≡ true

abbrev pub IsKnown : List Ident → Bytes → Type 0
IsKnown made name = (is_context_name name ≡ true) ⊎ IsPageName made name

pub known-differs : (made : List Ident) (own path : Bytes) → is_context_name own ≡ true → list_any (is_ident (plain_ident path)) made ≡ false → (x : Bytes) → IsKnown made x → bytes_eq x (own ++ (codes "@" ++ path)) ≡ false
known-differs made own path formed free x known = elim known [
  | inl f ↦ differs x (own ++ 64 ∷ path) (λ e. no-sign own path (subst (λ n. list_all is_name_byte n ≡ true) e (context-plain x f)))
  | inr p ↦ differs x (own ++ 64 ∷ path) (λ e.
      let same : p.path ≡ path = same-behind p.own own p.path path (context-plain p.own p.formed) (context-plain own formed) (sym p.is ∙ e) in
      not-both (list_any (is_ident (plain_ident path)) made) (subst (λ q. list_any (is_ident (plain_ident q)) made ≡ true) same p.there) free)
]

-- ---- identifiers that were made

any-insert : (p : Ident → Bool) (ks : List Ident) (k : Ident) → list_any p ks ≡ true → list_any p (insert_key ident_cmp ks k) ≡ true
any-insert p [] k h = not-both (list_any p []) h refl
any-insert p (x ∷ xs) k h = elim (ident_cmp k x) as (λ o. list_any p (match_ordering o (k ∷ x ∷ xs) (x ∷ xs) (x ∷ insert_key ident_cmp xs k)) ≡ true) [
  | Less ↦ behind (p k) (list_any p (x ∷ xs)) h
  | Equal ↦ h
  | Greater ↦ either (p x) (list_any p xs) (list_any p (insert_key ident_cmp xs k)) h (any-insert p xs k)
]
  where
    behind : (a b : Bool) → b ≡ true → (a || b) ≡ true
    behind true b e = refl
    behind false b e = e

    either : (a b c : Bool) → (a || b) ≡ true → (b ≡ true → c ≡ true) → (a || c) ≡ true
    either true b c e f = refl
    either false b c e f = f e

own-insert : (id : Ident) (ks : List Ident) → list_any (is_ident id) (insert_key ident_cmp ks id) ≡ true
own-insert id [] = ap (λ o. is_eq o || false) (tied_itself ident_cmp_total id)
own-insert id (x ∷ xs) = elim (ident_cmp id x) as (λ o. ident_cmp id x ≡ o → list_any (is_ident id) (match_ordering o (id ∷ x ∷ xs) (x ∷ xs) (x ∷ insert_key ident_cmp xs id)) ≡ true) [
  | Less ↦ λ e. ap (λ o. is_eq o || list_any (is_ident id) (x ∷ xs)) (tied_itself ident_cmp_total id)
  | Equal ↦ λ e. ap (λ o. is_eq o || list_any (is_ident id) xs) e
  | Greater ↦ λ e. ap (λ o. is_eq o || list_any (is_ident id) (insert_key ident_cmp xs id)) e ∙ own-insert id xs
] refl

pub known-more : (made : List Ident) (id : Ident) (name : Bytes) → IsKnown made name → IsKnown (insert_key ident_cmp made id) name
known-more made id name known = elim known [
  | inl f ↦ inl f
  | inr p ↦ inr (record { own = p.own; path = p.path; formed = p.formed; is = p.is; there = any-insert (is_ident (plain_ident p.path)) made id p.there })
]

pub known-new : (made : List Ident) (own path : Bytes) → is_context_name own ≡ true → IsKnown (insert_key ident_cmp made (plain_ident path)) (own ++ (codes "@" ++ path))
known-new made own path formed = inr (record { own = own; path = path; formed = formed; is = refl; there = own-insert (plain_ident path) made })

-- ---- the identifier of a page

right-false : (a b : Bool) → (a || b) ≡ false → b ≡ false
right-false true b e = cc
right-false false b e = e

untaken : (taken : Bool) (i id : Ident) → unless_taken taken i ≡ Ok id → (id ≡ i) × (taken ≡ false)
untaken true i id e = cc
untaken false i id e = let same : i ≡ id = cc in (sym same, refl)

pub record IsPageIdent (made : List Ident) (path : Bytes) (id : Ident) : Type 0 where
  pub is : id ≡ plain_ident path
  pub free : list_any (is_ident (plain_ident path)) made ≡ false

pub page_ident-of : (base : Lookups) (made : List Ident) (path : Bytes) (id : Ident) → page_ident base made path ≡ Ok id → IsPageIdent made path id
page_ident-of base made path id e = by (ident_fault path None) e
  where
    by : (o : Option IdentFault) → and_then (required (BadPath path) (value_of (unless o (plain_ident path)))) (λ i. unless_taken (is_taken base made i) i) ≡ Ok id → IsPageIdent made path id
    by None h = let u = untaken (is_taken base made (plain_ident path)) (plain_ident path) id h in record { is = u.0; free = right-false (is_some (base.find (plain_ident path))) (list_any (is_ident (plain_ident path)) made) u.1 }
    by (Some f) h = cc
