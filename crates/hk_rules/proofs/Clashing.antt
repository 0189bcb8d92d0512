-- Sites and their clashes, one site after another.
use Rattle.std.proofs.Common.{◌≡◌, ℕ, suc, zero, ◌+◌, ◌<◌, ◌≤◌, true, false, cond, List, [], ◌∷◌, ◌++◌, length, take, drop, get_or, Option, Some, None, refl, sym, ap, subst, ◌∙◌, drop-cons, add-one, arith, zero-add}
use Rattle.std.specs.Prelude.{bytes_eq, fold, filter_map, zip}
use Rattle.std.specs.List.{range_with_len}
use Rattle.std.specs.Option.{option_or, option_to_list, is_some}
use Rattle.std.proofs.lemmas.List.{take_more, take_all, map-id}
use Rattle.std.proofs.lemmas.List.Elements.{filter_map-append}
use Rattle.std.proofs.lemmas.List.Folds.{find-append}
use Rattle.std.proofs.lemmas.List.FromFn.{map-range_with_len_more}
use Rattle.std.proofs.lemmas.Grind.{fold-append}
use Rattle.hk_base.specs.Bytes.{Bytes}
use Rattle.hk_base.specs.Ties.{bytes-same}
use Rattle.hk_rules.specs.Universe.{Claim}
use Rattle.hk_rules.specs.Clashes.{site_of, site_by, sites, site_at, same_after, lesser, clash_by, same_clash, nested_clash, fault_by, clash_fault}
use Rattle.hk_rules.specs.declared.site.Site.{Site}
use Rattle.hk_rules.specs.declared.site.Clash.{Clash}

length-zip : {A B : Type 0} (xs : List A) (ys : List B) → length ys ≡ length xs → length (zip xs ys) ≡ length ys
length-zip [] [] e = refl
length-zip [] (y ∷ ys) e = absurd (omega arith)
length-zip (x ∷ xs) [] e = absurd (omega arith)
length-zip (x ∷ xs) (y ∷ ys) e = let tail : length ys ≡ length xs = omega arith in ap suc (length-zip xs ys tail)

get_or-zip : {A B : Type 0} (xs : List A) (ys : List B) (i : ℕ) (d : A) (e : B) → length ys ≡ length xs → get_or (zip xs ys) i (d, e) ≡ (get_or xs i d, get_or ys i e)
get_or-zip [] [] i d e h = refl
get_or-zip [] (y ∷ ys) i d e h = absurd (omega arith)
get_or-zip (x ∷ xs) [] i d e h = absurd (omega arith)
get_or-zip (x ∷ xs) (y ∷ ys) zero d e h = refl
get_or-zip (x ∷ xs) (y ∷ ys) (suc i) d e h = let tail : length ys ≡ length xs = omega arith in get_or-zip xs ys i d e tail

one-site : (item : Claim) (target : Option Bytes) → option_to_list (site_by item target) ≡ filter_map site_of ((item, target) ∷ [])
one-site item None = refl
one-site item (Some target) = refl

-- one more item
pub sites-turn : (items : List Claim) (targets : List (Option Bytes)) (i : ℕ) (item : Claim) (target : Option Bytes) (old new : List Site) → length targets ≡ length items → i < length targets → item ≡ get_or items i item → target ≡ get_or targets i target → old ≡ filter_map site_of (take i (zip items targets)) → new ≡ old ++ option_to_list (site_by item target) → new ≡ filter_map site_of (take (i + 1) (zip items targets))
sites-turn items targets i item target old new same h item-at target-at so_far put =
    let zs = zip items targets in
    let within : i < length (zip items targets) = subst (λ n. i < n) (sym (length-zip items targets same)) h in
    put
    ∙ ap (λ o. o ++ option_to_list (site_by item target)) so_far
    ∙ ap (λ s. filter_map site_of (take i zs) ++ s) (one-site item target)
    ∙ sym (ap (filter_map site_of) (take_more zs i (item, target) within)
    ∙ filter_map-append site_of (take i zs) (get_or zs i (item, target) ∷ [])
    ∙ ap (λ p. filter_map site_of (take i zs) ++ filter_map site_of (p ∷ [])) (get_or-zip items targets i item target same ∙ λ k. (sym item-at k, sym target-at k)))

pub sites-end : (items : List Claim) (targets : List (Option Bytes)) (i : ℕ) (old : List Site) → length targets ≡ length items → length targets ≤ i → old ≡ filter_map site_of (take i (zip items targets)) → old ≡ sites items targets
sites-end items targets i old same h so_far =
    so_far ∙ ap (filter_map site_of) (take_all i (zip items targets) (subst (λ n. n ≤ i) (sym (length-zip items targets same)) h))

-- a site is known from then on
pub know-turn : (target key path : Bytes) (site value : Site) (at : Bytes → Option Site) (new : Option Site) → key ≡ target → value ≡ site → is_some (at target) ≡ false → new ≡ cond (bytes_eq key path) (Some value) (at path) → new ≡ option_or (at path) (cond (bytes_eq target path) (Some site) None)
know-turn target key path site value at new k v free update =
    update
    ∙ ap (λ t. cond (bytes_eq t path) (Some value) (at path)) k
    ∙ ap (λ s. cond (bytes_eq target path) (Some s) (at path)) v
    ∙ elim (bytes_eq target path) as (λ b. bytes_eq target path ≡ b → cond b (Some site) (at path) ≡ option_or (at path) (cond b (Some site) None)) [
      | true ↦ λ t. sym (ap (λ o. option_or o (Some site)) (empty (at path) (ap (λ q. is_some (at q)) (sym (bytes-same target path t)) ∙ free)))
      | false ↦ λ t. whole (at path)
    ] refl
  where
    empty : (o : Option Site) → is_some o ≡ false → o ≡ None
    empty None e = refl
    empty (Some x) e = cc

    whole : (o : Option Site) → o ≡ option_or o None
    whole None = refl
    whole (Some x) = refl

-- one more site among those that are known
pub site_at-turn : (all : List Site) (i : ℕ) (site : Site) (path : Bytes) (old new : Option Site) → i < length all → site ≡ get_or all i site → old ≡ site_at (take i all) path → new ≡ option_or old (cond (bytes_eq site.target path) (Some site) None) → new ≡ site_at (take (i + 1) all) path
site_at-turn all i site path old new h is so_far put =
    put
    ∙ ap (λ o. option_or o (site_at (site ∷ []) path)) so_far
    ∙ sym (find-append (λ s. bytes_eq s.target path) (take i all) (site ∷ []))
    ∙ ap (λ s. site_at (take i all ++ s ∷ []) path) is
    ∙ ap (λ xs. site_at xs path) (sym (take_more all i site h))

-- and among those that were compared
pub same-turn : (all : List Site) (i : ℕ) (site : Site) (at : Bytes → Option Site) (best clash next total : Option Clash) → i < length all → site ≡ get_or all i site → ((path : Bytes) → at path ≡ site_at (take i all) path) → clash ≡ clash_by site (at site.target) → next ≡ lesser best clash → same_after (take i all) best (drop i all) ≡ total → same_after (take (i + 1) all) next (drop (i + 1) all) ≡ total
same-turn all i site at best clash next total h is known found less so_far =
    ap (λ xs. same_after xs next (drop (i + 1) all)) (take_more all i site h ∙ ap (λ s. take i all ++ s ∷ []) (sym is))
    ∙ ap (λ n. same_after (take i all ++ site ∷ []) n (drop (i + 1) all)) (less ∙ ap (lesser best) (found ∙ ap (clash_by site) (known site.target)))
    ∙ ap (λ xs. same_after (take i all) best xs) (ap (λ s. s ∷ drop (i + 1) all) is ∙ rest)
    ∙ so_far
  where
    rest : get_or all i site ∷ drop (i + 1) all ≡ drop i all
    rest = sym (drop-cons all i site h ∙ ap (λ n. get_or all i site ∷ drop n all) (sym (add-one i)))

-- one more place
pub range-turn : {A : Type 0} (f : A → ℕ → A) (a : A) (n : ℕ) → fold f a (range_with_len 0 (n + 1)) ≡ f (fold f a (range_with_len 0 n)) n
range-turn f a n =
    ap (fold f a) (sym (map-id (range_with_len 0 (n + 1))) ∙ map-range_with_len_more (λ k. k) 0 n n (zero-add n) ∙ ap (λ r. r ++ n ∷ []) (map-id (range_with_len 0 n)))
    ∙ fold-append f a (range_with_len 0 n) (n ∷ [])

pub clash_fault-by : (all : List Site) (at : Bytes → Option Site) (same nested : Option Clash) → ((path : Bytes) → at path ≡ site_at all path) → same ≡ same_clash all → nested ≡ nested_clash at all → fault_by same nested ≡ clash_fault all
unfolding clash_fault
clash_fault-by all at same nested known s n =
    ap (λ x. fault_by x nested) s ∙ ap (fault_by (same_clash all)) (n ∙ λ i. nested_clash (λ path. known path i) all)
