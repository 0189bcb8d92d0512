-- Identifiers that their order does not tell apart are the same.
use Rattle.std.proofs.Common.{◌≡◌, true, Option, Some, None, refl, ap, subst, ◌∙◌}
use Rattle.std.specs.Prelude.{T}
use Rattle.std.specs.Ordering.{nat_cmp, is_lt, is_gt, eq_by_cmp, ordering_then}
use Rattle.std.specs.Option.{option_cmp}
use Rattle.std.specs.Cmp.{IsTotalOrder, then_total, on_total}
use Rattle.std.specs.Cmp.Lexicographic.{slice_cmp, nat_list_cmp_total, options_total}
use Rattle.std.specs.declared.cmp.Ordering.{Ordering}
use Rattle.std.specs.declared.cmp.Ordering.TheVariants.{Less, Equal, Greater}
use Rattle.hk_base.specs.Bytes.{Bytes}
use Rattle.hk_base.specs.Identifier.{Ident, ident_cmp}
use Rattle.hk_base.specs.Ties.{only_equal_tie, is-equal}

pub ident_cmp_total : IsTotalOrder ident_cmp
ident_cmp_total = then_total (on_total (λ id. id.path) nat_list_cmp_total) (on_total (λ id. id.version) (options_total nat_list_cmp_total))

first-tie : (a b : Ordering) → ordering_then a b ≡ Equal → a ≡ Equal
first-tie Less b e = e
first-tie Equal b e = refl
first-tie Greater b e = e

second-tie : (a b : Ordering) → ordering_then a b ≡ Equal → b ≡ Equal
second-tie Less b e = absurd (subst T (ap is_lt e) tt)
second-tie Equal b e = e
second-tie Greater b e = absurd (subst T (ap is_gt e) tt)

version-tie : (a b : Option Bytes) → option_cmp (slice_cmp nat_cmp) a b ≡ Equal → a ≡ b
version-tie None None e = refl
version-tie None (Some b) e = absurd (subst T (ap is_lt e) tt)
version-tie (Some a) None e = absurd (subst T (ap is_gt e) tt)
version-tie (Some a) (Some b) e = ap Some (only_equal_tie a b e)

ident : Bytes → Option Bytes → Ident
ident path version = record { path = path; version = version }

pub only_equal_ident_tie : (x y : Ident) → ident_cmp x y ≡ Equal → x ≡ y
unfolding ident
only_equal_ident_tie x y e = ap (λ p. ident p x.version) (only_equal_tie _ _ (first-tie _ _ e)) ∙ ap (ident y.path) (version-tie _ _ (second-tie _ _ e))

pub idents-same : (x y : Ident) → eq_by_cmp ident_cmp x y ≡ true → x ≡ y
idents-same x y e = only_equal_ident_tie x y (is-equal _ e)

-- identifiers that tie are written alike
pub tied_ident_writes : {W : Type 0} (writes : Ident → W) (x y : Ident) → eq_by_cmp ident_cmp x y ≡ true → writes x ≡ writes y
tied_ident_writes writes x y e = ap writes (idents-same x y e)
