-- The sets of bytes are the kinds by which a scan tells bytes apart.
use Rattle.std.proofs.Common.{◌≡◌, ℕ, Bool, true, false, not, ◌||◌, ◌==◌, [], ◌∷◌, refl, sym, ap, subst, ◌∙◌}
use Rattle.std.specs.List.{list_all}
use Rattle.hk_base.specs.Bytes.{Bytes}
use Rattle.hk_html.specs.Kind.{is_white, is_tag_byte, is_attribute_byte, is_value_byte, is_quote, is_other}
use Rattle.hk_html.proofs.AgainLemmas.{Stops}
use Rattle.hk_laws.specs.Runs.{is_of, is_outside, BeginsOther, IsLongest}
use Rattle.hk_laws.specs.Tags.{is_white_byte, is_tag_name_byte, is_attribute_name_byte, is_open_value_byte, is_quote_mark}

or_none : (a : Bool) → (a || false) ≡ a
or_none true = refl
or_none false = refl

or_assoc : (a b c : Bool) → ((a || b) || c) ≡ (a || (b || c))
or_assoc true b c = refl
or_assoc false b c = refl

two : (a b : Bool) → (a || (b || false)) ≡ (a || b)
two a b = simp or_none

five : (a b c d e : Bool) → (a || (b || (c || (d || (e || false))))) ≡ ((((a || b) || c) || d) || e)
five a b c d e = simp (or_none, or_assoc)

six : (a b c d e f : Bool) → (a || (b || (c || (d || (e || (f || false)))))) ≡ (((((a || b) || c) || d) || e) || f)
six a b c d e f = simp (or_none, or_assoc)

seven : (a b c d e f g : Bool) → (a || (b || (c || (d || (e || (f || (g || false))))))) ≡ ((((((a || b) || c) || d) || e) || f) || g)
seven a b c d e f g = simp (or_none, or_assoc)

eight : (a b c d e f g h : Bool) → (a || (b || (c || (d || (e || (f || (g || (h || false)))))))) ≡ (((((((a || b) || c) || d) || e) || f) || g) || h)
eight a b c d e f g h = simp (or_none, or_assoc)

pub white_same : (b : ℕ) → is_white_byte b ≡ is_white b
white_same b = five (b == 32) (b == 9) (b == 10) (b == 13) (b == 12)

pub slash_same : (b : ℕ) → (b == 32 || (b == 9 || (b == 10 || (b == 13 || (b == 12 || (b == 47 || false)))))) ≡ (is_white b || b == 47)
slash_same b = six (b == 32) (b == 9) (b == 10) (b == 13) (b == 12) (b == 47)

pub tag_same : (b : ℕ) → is_tag_name_byte b ≡ is_tag_byte b
tag_same b = ap not (seven (b == 32) (b == 9) (b == 10) (b == 13) (b == 12) (b == 47) (b == 62))

pub attribute_same : (b : ℕ) → is_attribute_name_byte b ≡ is_attribute_byte b
attribute_same b = ap not (eight (b == 32) (b == 9) (b == 10) (b == 13) (b == 12) (b == 47) (b == 62) (b == 61))

pub value_same : (b : ℕ) → is_open_value_byte b ≡ is_value_byte b
value_same b = ap not (six (b == 32) (b == 9) (b == 10) (b == 13) (b == 12) (b == 62))

pub quote_same : (b : ℕ) → is_quote_mark b ≡ is_quote b
quote_same b = two (b == 34) (b == 39)

pub other_same : (q b : ℕ) → is_outside (q ∷ []) b ≡ is_other q b
other_same q b = ap not (or_none (b == q))

pub sign_same : (b : ℕ) → is_of (61 ∷ []) b ≡ (b == 61)
sign_same b = or_none (b == 61)

pub all_same : (p q : ℕ → Bool) (run : Bytes) → ((b : ℕ) → p b ≡ q b) → list_all p run ≡ true → list_all q run ≡ true
all_same p q run same all = subst (λ (r : ℕ → Bool). list_all r run ≡ true) (λ i b. same b i) all

pub stops : (p q : ℕ → Bool) (text : Bytes) → ((b : ℕ) → p b ≡ q b) → BeginsOther p text → Stops q text
stops p q [] same other = tt
stops p q (x ∷ xs) same other = sym (same x) ∙ other

pub stopped : (p q : ℕ → Bool) (text : Bytes) → ((b : ℕ) → p b ≡ q b) → Stops q text → BeginsOther p text
stopped p q [] same stop = tt
stopped p q (x ∷ xs) same stop = same x ∙ stop

-- the longest run of one kind is that of a kind alike
pub longest : (p q : ℕ → Bool) (run rest : Bytes) → ((b : ℕ) → p b ≡ q b) → list_all q run ≡ true → Stops q rest → IsLongest p run rest
longest p q run rest same all stop = record {
  passes = all_same q p run (λ b. sym (same b)) all;
  ended = stopped p q rest same stop;
}
