-- Texts that the order of bytes does not tell apart are the same.
use Rattle.std.proofs.Common.{◌≡◌, true, refl, sym, ap, subst, ◌∙◌}
use Rattle.std.specs.Prelude.{T, bytes_eq}
use Rattle.std.specs.Ordering.{nat_cmp, is_eq, eq_by_cmp}
use Rattle.std.specs.Cmp.{tied_itself}
use Rattle.std.specs.Cmp.Lexicographic.{slice_cmp, nat_list_cmp_total, nat_list_eq_equiv}
use Rattle.std.specs.FinMap.{nat_cmp-IsAntisymmetric, slice_cmp-IsAntisymmetric, IsAntisymmetric}
use Rattle.std.specs.declared.cmp.Ordering.{Ordering}
use Rattle.std.specs.declared.cmp.Ordering.TheVariants.{Less, Equal, Greater}
use Rattle.std.proofs.lemmas.Map.Text.{is_eq-slice_cmp}
use Rattle.hk_base.specs.Bytes.{Bytes}

pub only_equal_tie : IsAntisymmetric (slice_cmp nat_cmp)
only_equal_tie = slice_cmp-IsAntisymmetric nat_cmp-IsAntisymmetric

pub is-equal : (o : Ordering) → is_eq o ≡ true → o ≡ Equal
is-equal Less p = absurd (subst T (sym p) tt)
is-equal Equal p = refl
is-equal Greater p = absurd (subst T (sym p) tt)

pub ties-same : (x y : Bytes) → eq_by_cmp (slice_cmp nat_cmp) x y ≡ true → x ≡ y
ties-same x y e = only_equal_tie x y (is-equal _ e)

pub ties-self : (x : Bytes) → eq_by_cmp (slice_cmp nat_cmp) x x ≡ true
ties-self x = ap is_eq (tied_itself nat_list_cmp_total x)

-- the two tests of texts agree
pub same_test : (q x : Bytes) → eq_by_cmp (slice_cmp nat_cmp) q x ≡ bytes_eq x q
same_test q x = is_eq-slice_cmp q x ∙ nat_list_eq_equiv.symm q x

pub bytes-same : (x y : Bytes) → bytes_eq x y ≡ true → x ≡ y
bytes-same x y e = sym (ties-same y x (same_test y x ∙ e))

pub bytes-self : (x : Bytes) → bytes_eq x x ≡ true
bytes-self x = sym (same_test x x) ∙ ties-self x

-- texts that tie are written alike
pub tied_writes : {W : Type 0} (writes : Bytes → W) (x y : Bytes) → eq_by_cmp (slice_cmp nat_cmp) x y ≡ true → writes x ≡ writes y
tied_writes writes x y e = ap writes (ties-same x y e)
