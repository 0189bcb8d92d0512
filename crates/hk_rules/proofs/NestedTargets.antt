-- No target of a plan stands above another.
use Rattle.std.proofs.Common.{◌≡◌, ℕ, zero, suc, ◌+◌, ◌<◌, ◌≤◌, Bool, true, false, cond, List, [], ◌∷◌, ◌++◌, length, take, get_or, nat_eq, Option, Some, None, refl, sym, ap, subst, ◌∙◌, arith, fold, find, zip, filter_map, length-append, slice_index}
use Rattle.std.specs.Prelude.{bytes_eq}
use Rattle.std.specs.List.{AllByRecursion, range_with_len, cons_option}
use Rattle.std.proofs.lemmas.List.FromFn.{length-range_with_len, get_or-range_with_len}
use Rattle.hk_base.specs.Bytes.{Bytes}
use Rattle.hk_base.specs.Ties.{bytes-self}
use Rattle.hk_base.proofs.Both.{not-both}
use Rattle.hk_rules.specs.Clashes.{site_by, site_of, sites, site_at, clash_by, lesser, clash_above, lesser_above, nested_in, same_clash, nested_clash, clash_fault}
use Rattle.hk_rules.specs.Plan.{no_item, target_at}
use Rattle.hk_rules.specs.PlanView.{PlanView}
use Rattle.hk_rules.specs.Universe.{Claim}
use Rattle.hk_rules.specs.declared.site.Clash.{Clash}
use Rattle.hk_rules.specs.declared.site.Site.{Site}
use Rattle.hk_rules.proofs.LinkedPlans.{find-none}
use Rattle.hk_rules.proofs.Outcome.{none-lesser, none-clash, none-fault}
use Rattle.hk_rules.proofs.PairNumbers.{all-at}

-- where a fold ends without a clash, no step of it gave one
fold-none : {X : Type 0} (Q : X → Type 0) (f : Option Clash → X → Option Clash) → ((best : Option Clash) (x : X) → f best x ≡ None → (best ≡ None) × Q x) → (best : Option Clash) (xs : List X) → fold f best xs ≡ None → (best ≡ None) × AllByRecursion Q xs
fold-none Q f step best [] e = (e, tt)
fold-none Q f step best (x ∷ xs) e =
    let later = fold-none Q f step (f best x) xs e in
    let here = step best x later.0 in
    (here.0, (here.1, later.1))

abbrev Places : (Bytes → Option Site) → Site → Type 0
Places at inner = AllByRecursion (λ place. clash_above at inner place ≡ None) (range_with_len 0 (length inner.target))

nested-none : (at : Bytes → Option Site) (all : List Site) → nested_clash at all ≡ None → AllByRecursion (Places at) all
nested-none at all e =
    (fold-none (Places at) (nested_in at) (λ best inner. fold-none (λ place. clash_above at inner place ≡ None) (lesser_above at inner) (λ o place. none-lesser o (clash_above at inner place)) best (range_with_len 0 (length inner.target))) None all e).1

-- no site has the path before a slash of a target
above-none : (all : List Site) (inner : Site) (place : ℕ) → Places (site_at all) inner → place < length inner.target → slice_index inner.target place ≡ 47 → AllByRecursion (λ site. bytes_eq site.target (take place inner.target) ≡ false) all
above-none all inner place h lt slash =
    let free = all-at (λ place. clash_above (site_at all) inner place ≡ None) (range_with_len 0 (length inner.target)) place 0 h (omega (arith, length-range_with_len 0 (length inner.target))) in
    let here : clash_above (site_at all) inner place ≡ None = subst (λ (k : ℕ). clash_above (site_at all) inner k ≡ None) (get_or-range_with_len 0 (length inner.target) place 0 lt ∙ omega arith) free in
    let open_at : clash_by inner (site_at all (take place inner.target)) ≡ None = subst (λ b. cond (nat_eq b 47) (clash_by inner (site_at all (take place inner.target))) None ≡ None) slash here in
    find-none (λ site. bytes_eq site.target (take place inner.target)) all (none-clash inner (site_at all (take place inner.target)) open_at)

front : (t rest : Bytes) → take (length t) (t ++ rest) ≡ t
front [] rest = refl
front (b ∷ t) rest = ap (λ bs. b ∷ bs) (front t rest)

slash-at : (t rest : Bytes) → slice_index (t ++ 47 ∷ rest) (length t) ≡ 47
slash-at [] rest = refl
slash-at (b ∷ t) rest = slash-at t rest

-- no site has the path before a slash of another's target
apart : (all : List Site) (inner : Site) (t rest : Bytes) → Places (site_at all) inner → inner.target ≡ t ++ 47 ∷ rest → AllByRecursion (λ site. bytes_eq site.target t ≡ false) all
apart all inner t rest h under =
    let long : length t < length inner.target = omega (arith, ap length under, length-append t (47 ∷ rest)) in
    let slash : slice_index inner.target (length t) ≡ 47 = ap (λ bs. slice_index bs (length t)) under ∙ slash-at t rest in
    let same : take (length t) inner.target ≡ t = ap (take (length t)) under ∙ front t (47 ∷ rest) in
    subst (λ bs. AllByRecursion (λ site. bytes_eq site.target bs ≡ false) all) same (above-none all inner (length t) h long slash)

nested-fault : (all : List Site) → clash_fault all ≡ None → AllByRecursion (Places (site_at all)) all
unfolding clash_fault
nested-fault all e = nested-none (site_at all) all (none-fault (same_clash all) (nested_clash (site_at all) all) e).1

-- among sites that don't clash no target followed by a slash is a prefix of another
pub sites-apart : (all : List Site) (i j : ℕ) (d : Site) (rest : Bytes) → clash_fault all ≡ None → i < length all → j < length all → (get_or all j d).target ≡ (get_or all i d).target ++ 47 ∷ rest → ⊥
sites-apart all i j d rest e li lj under =
    let t = (get_or all i d).target in
    let places = all-at (Places (site_at all)) all j d (nested-fault all e) lj in
    let free = all-at (λ site. bytes_eq site.target t ≡ false) all i d (apart all (get_or all j d) t rest places under) li in
    not-both (bytes_eq t t) (bytes-self t) free

cons-rest : {X : Type 0} (P : X → Type 0) (o : Option X) (xs : List X) → AllByRecursion P (cons_option o xs) → AllByRecursion P xs
cons-rest P None xs h = h
cons-rest P (Some x) xs h = h.1

-- the site of an item that has a target
pub sites-at : (P : Site → Type 0) (items : List Claim) (targets : List (Option Bytes)) (i : ℕ) (d : Claim) (t : Bytes) → AllByRecursion P (sites items targets) → length targets ≡ length items → i < length items → get_or targets i None ≡ Some t → P (record { target = t; id = (get_or items i d).0 })
sites-at P [] targets i d t h same lt e = absurd (omega arith)
sites-at P (x ∷ items) [] i d t h same lt e = absurd (omega arith)
sites-at P (x ∷ items) (o ∷ targets) zero d t h same lt e = (subst (λ p. AllByRecursion P (cons_option (site_by x p) (sites items targets))) e h).0
sites-at P (x ∷ items) (o ∷ targets) (suc i) d t h same lt e = sites-at P items targets i d t (cons-rest P (site_by x o) (sites items targets) h) (omega arith) (omega arith) e

-- in a plan whose targets don't clash no target followed by a slash is a prefix of another
pub targets-apart : (plan : PlanView) (i j : ℕ) (t rest : Bytes) → clash_fault (sites plan.items plan.targets) ≡ None → length plan.targets ≡ length plan.items → i < length plan.items → j < length plan.items → target_at plan i ≡ Some t → target_at plan j ≡ Some (t ++ 47 ∷ rest) → ⊥
targets-apart plan i j t rest e same li lj at_i at_j =
    let all = sites plan.items plan.targets in
    let places = sites-at (Places (site_at all)) plan.items plan.targets j no_item (t ++ 47 ∷ rest) (nested-fault all e) same lj at_j in
    let inner : Site = record { target = t ++ 47 ∷ rest; id = (get_or plan.items j no_item).0 } in
    let free = sites-at (λ site. bytes_eq site.target t ≡ false) plan.items plan.targets i no_item t (apart all inner t rest places refl) same li at_i in
    not-both (bytes_eq t t) (bytes-self t) free
