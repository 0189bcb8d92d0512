-- The contexts' names ascend, and are those by which numbers are found.
use Rattle.std.proofs.Common.{◌≡◌, inl, inr, suc, Bool, true, false, cond, List, [], ◌∷◌, ◌++◌, refl, sym, ap, subst, ◌∙◌, append_assoc, append-nil, Some, None, option_map, Result, Ok, IfOk}
use Rattle.std.specs.Prelude.{bytes_eq}
use Rattle.std.specs.Cmp.Lexicographic.{slice_cmp, nat_list_cmp_total}
use Rattle.std.specs.List.{AllByRecursion, fold}
use Rattle.std.specs.List.Sorted.{IsStrictlySortedBy}
use Rattle.std.specs.Ordering.{nat_cmp, is_lt, ordering_reverse}
use Rattle.std.specs.declared.cmp.Ordering.{Ordering}
use Rattle.std.specs.declared.cmp.Ordering.TheVariants.{Less, Equal, Greater}
use Rattle.toml.specs.Data.{Members}
use Rattle.hk_base.specs.Bytes.{Bytes}
use Rattle.hk_base.specs.Ties.{only_equal_tie, bytes-same, bytes-self}
use Rattle.hk_base.proofs.Both.{not-both}
use Rattle.hk_chain.specs.Context.{ContextView}
use Rattle.hk_pattern.specs.declared.pattern.Pattern.{Pattern}
use Rattle.hk_rules_file.specs.ContextForm.{FileContext, built_in, name_in, names_in, written_in, is_early, with_built_in, listed, most_contexts, names_of, contexts_in}
use Rattle.hk_rules_file.specs.ContextNames.{keys_in, AreAscending, IsAmong, AreNames, NamesTellContexts}
use Rattle.hk_rules_file.specs.Numbering.{place_of, with_name, with_name_by}
use Rattle.hk_rules_file.specs.declared.fault.RulesFault.{RulesFault}
use Rattle.hk_steps.specs.StepForm.{default_name}
use Rattle.hk_rules_file.proofs.LinkedContexts.{all_names, written-keys, all-placed, IsOther, AreContexts, contexts_in-contexts}
use Rattle.hk_rules_file.proofs.LinkedNumbers.{all-weaken}

abbrev R : Bytes → Bytes → Ordering
R = slice_cmp nat_cmp

abbrev Before : Bytes → Bytes → Type 0
Before x y = R x y ≡ Less

-- ---- the names ascend

lt-less : (o : Ordering) → is_lt o ≡ true → o ≡ Less
lt-less Less e = refl
lt-less Equal e = cc
lt-less Greater e = cc

early-before : (x : Bytes) → is_early x ≡ true → Before x default_name
unfolding is_early
early-before x e = lt-less (R x default_name) e

late-by : (y : Bytes) (o : Ordering) → R y default_name ≡ o → is_lt o ≡ false → IsOther y → Before default_name y
late-by y Less e late other = absurd (not-both (is_lt Less) refl late)
late-by y Equal e late other = absurd (not-both (bytes_eq y default_name) (subst (λ x. bytes_eq y x ≡ true) (only_equal_tie y default_name e) (bytes-self y)) other)
late-by y Greater e late other = nat_list_cmp_total.antisymm default_name y ∙ ap ordering_reverse e

late-after : (y : Bytes) → is_early y ≡ false → IsOther y → Before default_name y
unfolding is_early
late-after y late other = late-by y (R y default_name) refl late other

placed-ascends : (cs : List FileContext) → AreAscending (names_in cs) → AllByRecursion IsOther (names_in cs) → AreAscending (names_in (with_built_in cs))
unfolding IsStrictlySortedBy
placed-ascends [] h others = (tt, tt)
placed-ascends (c ∷ cs) h others = (elim (is_early (name_in c)) as (λ b. is_early (name_in c) ≡ b → AreAscending (names_in (cond b (c ∷ with_built_in cs) (built_in ∷ c ∷ cs)))) [
  | true ↦ λ e. (all-placed (Before (name_in c)) (early-before (name_in c) e) cs h.0, placed-ascends cs h.1 others.1)
  | false ↦ λ e.
      let after = late-after (name_in c) e others.0 in
      ((after, all-weaken (Before (name_in c)) (Before default_name) (λ x k. nat_list_cmp_total.trans default_name (name_in c) x after k) (names_in cs) h.0), h)
]) refl

all_names-ascend : (ms : Members) → AreAscending (keys_in ms) → AllByRecursion IsOther (keys_in ms) → AreAscending (all_names ms)
unfolding listed
all_names-ascend ms h others =
    let keys = sym (written-keys most_contexts ms) in
    placed-ascends (written_in most_contexts ms) (subst AreAscending keys h) (subst (AllByRecursion IsOther) keys others)

-- ---- which names they are

-- what is among the first is among the others
abbrev AreAmong : List Bytes → List Bytes → Type 0
AreAmong xs ys = AllByRecursion (IsAmong ys) xs

among-same : (xs : List Bytes) → AreAmong xs xs
among-same [] = tt
among-same (x ∷ xs) = (inl refl, all-weaken (IsAmong xs) (IsAmong (x ∷ xs)) (λ y h. inr h) xs (among-same xs))

placed-here : (cs : List FileContext) → AreAmong (default_name ∷ names_in cs) (names_in (with_built_in cs))
placed-here [] = (inl refl, tt)
placed-here (c ∷ cs) = elim (is_early (name_in c)) as (λ b. AreAmong (default_name ∷ name_in c ∷ names_in cs) (names_in (cond b (c ∷ with_built_in cs) (built_in ∷ c ∷ cs)))) [
  | true ↦
      let rest = placed-here cs in
      (inr rest.0, (inl refl, all-weaken (IsAmong (names_in (with_built_in cs))) (IsAmong (name_in c ∷ names_in (with_built_in cs))) (λ x h. inr h) (names_in cs) rest.1))
  | false ↦ among-same (default_name ∷ name_in c ∷ names_in cs)
]

placed-each : (cs : List FileContext) → AreAmong (names_in (with_built_in cs)) (default_name ∷ names_in cs)
placed-each cs = all-placed (IsAmong (default_name ∷ names_in cs)) (inl refl) cs (among-same (default_name ∷ names_in cs)).1

all_names-are : (ms : Members) → AreAscending (keys_in ms) → AllByRecursion IsOther (keys_in ms) → AreNames ms (all_names ms)
unfolding listed
all_names-are ms h others =
    let cs = written_in most_contexts ms in
    let keys = written-keys most_contexts ms in
    record {
      ascend = all_names-ascend ms h others;
      each = subst (λ names. AreAmong (names_in (with_built_in cs)) (default_name ∷ names)) keys (placed-each cs);
      here = subst (λ names. AreAmong (default_name ∷ names) (names_in (with_built_in cs))) keys (placed-here cs);
    }

-- ---- the names by which numbers are found

misses-by : (x text : Bytes) (xs : List Bytes) (b : Bool) → b ≡ false → place_of text xs ≡ None → cond b (Some 0) (option_map suc (place_of text xs)) ≡ None
misses-by x text xs true e h = absurd (not-both true refl e)
misses-by x text xs false e h = ap (option_map suc) h

-- a text that differs from all has no place
no-place : (text : Bytes) (xs : List Bytes) → AllByRecursion (λ x. bytes_eq x text ≡ false) xs → place_of text xs ≡ None
no-place text [] h = refl
no-place text (x ∷ xs) h = misses-by x text xs (bytes_eq x text) h.0 (no-place text xs h.1)

before-differs : (x y : Bytes) → Before x y → bytes_eq x y ≡ false
before-differs x y h = elim (bytes_eq x y) as (λ b. bytes_eq x y ≡ b → b ≡ false) [
  | true ↦ λ e. absurd (less-itself (subst (λ z. R x z ≡ Less) (sym (bytes-same x y e)) h))
  | false ↦ λ e. refl
] refl
  where
    turned : (o : Ordering) → o ≡ ordering_reverse o → o ≡ Less → ⊥
    turned Less e l = cc
    turned Equal e l = cc
    turned Greater e l = cc

    less-itself : R x x ≡ Less → ⊥
    less-itself l = turned (R x x) (nat_list_cmp_total.antisymm x x) l

new-name : (names : List Bytes) (name : Bytes) → AllByRecursion (λ x. Before x name) names → with_name names name ≡ names ++ name ∷ []
new-name names name h = ap (λ o. with_name_by o names name) (no-place name names (all-weaken (λ x. Before x name) (λ x. bytes_eq x name ≡ false) (λ x k. before-differs x name k) names h))

-- each of these stands before all of those
abbrev AllBefore : List Bytes → List Bytes → Type 0
AllBefore xs ys = AllByRecursion (λ x. AllByRecursion (Before x) ys) xs

heads-before : (xs : List Bytes) (y : Bytes) (ys : List Bytes) → AllBefore xs (y ∷ ys) → AllByRecursion (λ x. Before x y) xs
heads-before [] y ys h = tt
heads-before (x ∷ xs) y ys h = (h.0.0, heads-before xs y ys h.1)

tails-before : (xs : List Bytes) (y : Bytes) (ys : List Bytes) → AllBefore xs (y ∷ ys) → AllByRecursion (Before y) ys → AllBefore (xs ++ y ∷ []) ys
tails-before [] y ys h k = (k, tt)
tails-before (x ∷ xs) y ys h k = (h.0.1, tails-before xs y ys h.1 k)

-- names that ascend are all new
new-names : (added names : List Bytes) → AreAscending added → AllBefore names added → fold with_name names added ≡ names ++ added
unfolding IsStrictlySortedBy
new-names [] names h before = sym (append-nil names)
new-names (name ∷ added) names h before =
    ap (λ ns. fold with_name ns added) (new-name names name (heads-before names name added before))
    ∙ new-names added (names ++ name ∷ []) h.1 (tails-before names name added before h.0)
    ∙ append_assoc names (name ∷ []) added

contexts-read : (ms : Members) (r : Result (List ContextView × List Pattern) RulesFault) (read : List ContextView × List Pattern) → IfOk r (AreContexts (names_of ms) ms) → r ≡ Ok read → AreContexts (names_of ms) ms read
contexts-read ms r read h e = subst (λ x. IfOk x (AreContexts (names_of ms) ms)) e h

pub names_tell_contexts : NamesTellContexts
names_tell_contexts ms read h e =
    let are = contexts-read ms (contexts_in (names_of ms) ms) read (contexts_in-contexts (names_of ms) ms) e in
    let names = all_names-are ms h are.others in
    (subst (AreNames ms) (sym are.named) names, new-names (all_names ms) [] names.ascend tt ∙ sym are.named)
