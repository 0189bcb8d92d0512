-- The mark at the last dot so far is where the extension begins.
use Rattle.std.proofs.Common.{◌≡◌, ℕ, ◌+◌, ◌<◌, ◌≤◌, Bool, true, false, ◌==◌, not, cond, [], ◌∷◌, Option, Some, None, IfSome, refl, sym, ap, ◌∙◌, arith, length, drop, get_or, drop-cons, add-one, suc, drop_of_length-le}
use Rattle.std.specs.Prelude.{◌||◌, ◌&&◌}
use borrow.Author.Tests.{eqb-true}
use Rattle.hk_base.specs.Bytes.{Bytes}
use Rattle.hk_base.proofs.Both.{not-both}
use Rattle.hk_route.specs.Rewriting.{has_slash, later_by, extension_at, mark_after}

-- the mark where an extension begins in the bytes that are left, or else the one so far, unless a slash comes
pub found_by : ℕ → Option ℕ → Bool → Option ℕ → Option ℕ
found_by at mark slash (Some n) = Some (at + n)
found_by at mark slash None = cond slash None mark

abbrev pub found_in : ℕ → Option ℕ → Bool → Bytes → Option ℕ
found_in at mark first rest = found_by at mark (has_slash rest) (extension_at first rest)

pub found-none : (at : ℕ) (mark : Option ℕ) (first : Bool) → found_in at mark first [] ≡ mark
unfolding found_by
found-none at mark first = refl

pub found-all : (rest : Bytes) → found_in 0 None true rest ≡ extension_at true rest
unfolding found_by
found-all rest = by (has_slash rest) (extension_at true rest)
  where
    by : (slash : Bool) (o : Option ℕ) → found_by 0 None slash o ≡ o
    by slash (Some n) = ap Some (omega arith)
    by true None = refl
    by false None = refl

-- one more byte
pub found-next : (at : ℕ) (mark : Option ℕ) (first : Bool) (c : ℕ) (cs : Bytes) → found_in (at + 1) (mark_after mark at first c) (c == 47) cs ≡ found_in at mark first (c ∷ cs)
unfolding found_by
found-next at mark first c cs = by (c == 47) (c == 46) (has_slash cs) (extension_at (c == 47) cs) apart
  where
    apart : (c == 47) ≡ true → (c == 46) ≡ false
    apart e = ap (λ x. x == 46) (eqb-true c 47 e)

    by : (s d slash : Bool) (o : Option ℕ) → (s ≡ true → d ≡ false)
        → found_by (at + 1) (cond s None (cond (d && not first) (Some at) mark)) slash o ≡ found_by at mark (s || slash) (later_by o (d && not first && not slash))
    by s d slash (Some n) f = ap Some (omega arith)
    by true true slash None f = not-both true refl (f refl)
    by true false true None f = refl
    by true false false None f = refl
    by false d true None f = dotted d
      where
        dotted : (d : Bool) → found_by (at + 1) (cond (d && not first) (Some at) mark) true None ≡ found_by at mark true (later_by None (d && not first && false))
        dotted d = elim (d && not first) as (λ b. found_by (at + 1) (cond b (Some at) mark) true None ≡ found_by at mark true (later_by None (b && false))) [ true ↦ refl | false ↦ refl ]
    by false d false None f = elim (d && not first) as (λ b. found_by (at + 1) (cond b (Some at) mark) false None ≡ found_by at mark false (later_by None (b && true))) [ true ↦ ap Some (omega arith) | false ↦ refl ]

pub found-turn : (at : ℕ) (mark : Option ℕ) (first : Bool) (path : Bytes) → at < length path
    → found_in (at + 1) (mark_after mark at first (get_or path at 0)) (get_or path at 0 == 47) (drop (at + 1) path) ≡ found_in at mark first (drop at path)
found-turn at mark first path below =
    ap (λ n. found_in (at + 1) (mark_after mark at first (get_or path at 0)) (get_or path at 0 == 47) (drop n path)) (add-one at) ∙ found-next at mark first (get_or path at 0) (drop (suc at) path) ∙ ap (found_in at mark first) (sym (drop-cons path at 0 below))

-- the mark stays within the bytes so far
pub mark-within : (at : ℕ) (mark : Option ℕ) (first : Bool) (c : ℕ) → IfSome mark (λ n. n ≤ at) → IfSome (mark_after mark at first c) (λ n. n ≤ at + 1)
mark-within at mark first c h = by (c == 47) (c == 46 && not first) mark h
  where
    by : (s d : Bool) (mark : Option ℕ) → IfSome mark (λ n. n ≤ at) → IfSome (cond s None (cond d (Some at) mark)) (λ n. n ≤ at + 1)
    by true d mark h = tt
    by false true mark h = omega arith
    by false false None h = tt
    by false false (Some n) h = omega arith

pub found-end : (at : ℕ) (mark : Option ℕ) (first : Bool) (path : Bytes) → length path ≤ at → found_in at mark first (drop at path) ≡ mark
found-end at mark first path end = ap (found_in at mark first) (drop_of_length-le path end) ∙ found-none at mark first
