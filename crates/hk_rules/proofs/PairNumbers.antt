-- The pairs of a plan's items, and their names.
use Rattle.std.proofs.Common.{◌≡◌, ◌≢◌, ℕ, zero, suc, ◌+◌, ◌-◌, ◌<◌, ◌≤◌, Bool, true, false, cond, List, [], ◌∷◌, ◌++◌, length, map, get_or, filter_map, Option, Some, None, option_map, refl, sym, ap, subst, ◌∙◌, arith, length-append}
use Rattle.std.specs.Prelude.{bytes_eq}
use Rattle.std.specs.List.{AllByRecursion, IsDistinct, position_from, range_with_len, cons_option}
use Rattle.std.proofs.lemmas.List.{get_or-map, get_or_append_left, length-map}
use Rattle.hk_base.specs.Bytes.{Bytes}
use Rattle.hk_base.specs.Ties.{bytes-same, bytes-self}
use Rattle.hk_chain.specs.Layout.{pairs, item_of, final_of}
use Rattle.hk_chain.specs.Counts.{layout_of}
use Rattle.hk_chain.specs.Snapshots.{AreSnapshots}
use Rattle.hk_chain.specs.declared.chain.Step.{Step}
use Rattle.hk_chain.specs.declared.chain.Step.TheVariants.{Body, Str, Copy, TemplateBody, Make, Load, Concat, Apply, SelfApply, Save, Relativize}
use Rattle.hk_chain.proofs.Spans.{layout-low, layout-final, layout-own, layout-near, layout-snapshots}
use Rattle.hk_rules_file.specs.Linked.{IsLinkedChain}
use Rattle.hk_rules.specs.LinkedPlan.{IsLinkedPlan, save_count, snapshots_of}
use Rattle.hk_rules.specs.Pairs.{saved, saves, page_names, count_of, counts, layout, place_of_save, pair_at, name_at, name_before}
use Rattle.hk_chain.specs.Names.{final_name}
use Rattle.hk_rules.specs.Plan.{no_item, chain_at, last_pair, pair_of, pair_owner, pair_name_of}
use Rattle.hk_rules.specs.PlanView.{PlanView}

-- ---- lists

pub all-at : {X : Type 0} (P : X → Type 0) (xs : List X) (i : ℕ) (d : X) → AllByRecursion P xs → i < length xs → P (get_or xs i d)
all-at P [] i d h lt = absurd (omega arith)
all-at P (x ∷ xs) zero d h lt = h.0
all-at P (x ∷ xs) (suc i) d h lt = all-at P xs i d h.1 (omega arith)

-- what is found at a place
pub position-at : {X : Type 0} (t : X → Bool) (n : ℕ) (xs : List X) (m : ℕ) → position_from t n xs ≡ Some m → (k : ℕ) × (m ≡ n + k) × (k < length xs) × ((d : X) → t (get_or xs k d) ≡ true)
position-at t n [] m e = cc
position-at {X} t n (x ∷ xs) m e =
    elim (t x) as (λ b. t x ≡ b → cond b (Some n) (position_from t (n + 1) xs) ≡ Some m → (k : ℕ) × (m ≡ n + k) × (k < length (x ∷ xs)) × ((d : X) → t (get_or (x ∷ xs) k d) ≡ true)) [
      | true ↦ λ h f. let same : n ≡ m = cc in (0, omega arith, omega arith, λ d. h)
      | false ↦ λ h f. let r = position-at t (n + 1) xs m f in (suc r.0, omega (arith, r.1), omega (arith, r.2), λ d. r.3 d)
    ] refl e

-- each of texts that differ is found at its own place
pub position-distinct : (xs : List Bytes) (k : ℕ) (d : Bytes) (n : ℕ) → IsDistinct bytes_eq xs → k < length xs → position_from (λ own. bytes_eq own (get_or xs k d)) n xs ≡ Some (n + k)
unfolding IsDistinct
position-distinct [] k d n h lt = absurd (omega arith)
position-distinct (x ∷ xs) zero d n h lt =
    let place : n ≡ n + 0 = omega arith in
    ap (λ b. cond b (Some n) (position_from (λ own. bytes_eq own x) (n + 1) xs)) (bytes-self x) ∙ ap Some place
position-distinct (x ∷ xs) (suc k) d n h lt =
    let place : (n + 1) + k ≡ n + suc k = omega arith in
    let within : k < length xs = omega arith in
    ap (λ b. cond b (Some n) (position_from (λ own. bytes_eq own (get_or xs k d)) (n + 1) xs)) (all-at (λ y. bytes_eq x y ≡ false) xs k d h.0 within)
    ∙ position-distinct xs k d (n + 1) h.1 within
    ∙ ap Some place

some-of : {X Y : Type 0} (f : X → Y) (o : Option X) (y : Y) → option_map f o ≡ Some y → (x : X) × (o ≡ Some x) × (f x ≡ y)
some-of f None y e = cc
some-of f (Some x) y e = (x, refl, cc)

-- ---- names

-- the names of a linked chain's pages differ
pub chain-names : (contexts patterns : ℕ) (steps : List Step) → IsLinkedChain contexts patterns steps → IsDistinct bytes_eq (page_names steps)
chain-names contexts patterns steps h = h.names

-- a chain of a linked plan
pub linked-chain : (plan : PlanView) (i : ℕ) → IsLinkedPlan plan → i < length plan.items → IsLinkedChain (length plan.contexts) (length plan.patterns) (chain_at plan i)
linked-chain plan i h lt = all-at (λ item. IsLinkedChain (length plan.contexts) (length plan.patterns) item.1.rule.chain) plan.items i no_item h.chains lt

plan-names : (plan : PlanView) (i : ℕ) → IsLinkedPlan plan → i < length plan.items → IsDistinct bytes_eq (page_names (chain_at plan i))
plan-names plan i h lt = chain-names (length plan.contexts) (length plan.patterns) (chain_at plan i) (linked-chain plan i h lt)

length-names : (steps : List Step) → length (page_names steps) ≡ length (saves steps) + 1
length-names steps = length-append (saves steps) (final_name ∷ [])

-- a name at a place, the last one after all others
name-or : (xs : List Bytes) (y : Bytes) (k : ℕ) (d : Bytes) → k ≤ length xs → get_or (xs ++ y ∷ []) k d ≡ get_or xs k y
name-or [] y zero d le = refl
name-or [] y (suc k) d le = absurd (omega arith)
name-or (x ∷ xs) y zero d le = refl
name-or (x ∷ xs) y (suc k) d le = name-or xs y k d (omega arith)

-- ---- an item's pairs

counted : (plan : PlanView) (i : ℕ) → i < length plan.items → i < length (counts plan.items)
counted plan i lt = omega (arith, length-map plan.items count_of)

count-at : (plan : PlanView) (i : ℕ) → i < length plan.items → get_or (counts plan.items) i 0 ≡ save_count plan i
count-at plan i lt = get_or-map count_of plan.items i no_item 0 lt

pub saves-low : (plan : PlanView) (i : ℕ) → i < length plan.items → save_count plan i ≤ last_pair plan i
saves-low plan i lt = omega (arith, layout-low (counts plan.items) i (counted plan i lt), count-at plan i lt)

pub last-within : (plan : PlanView) (i : ℕ) → i < length plan.items → last_pair plan i < pairs (layout plan.items)
last-within plan i lt = layout-final (counts plan.items) i (counted plan i lt)

-- the pairs of an item's saves are its pairs but the last, in order
pub plan-snapshots : (plan : PlanView) (i : ℕ) → i < length plan.items → AreSnapshots (layout plan.items) i (snapshots_of plan i)
plan-snapshots plan i lt = subst (λ n. AreSnapshots (layout plan.items) i (range_with_len (last_pair plan i - n) n)) (count-at plan i lt) (layout-snapshots (counts plan.items) i (counted plan i lt))

-- where a name's pair stands among the item's
record IsPlaced (plan : PlanView) (i : ℕ) (name : Bytes) (p : ℕ) : Type 0 where
  place : ℕ
  within : place ≤ save_count plan i
  is : p ≡ last_pair plan i - (save_count plan i - place)
  named : (d : Bytes) → get_or (page_names (chain_at plan i)) place d ≡ name

placed : (plan : PlanView) (i : ℕ) (name : Bytes) (p : ℕ) → pair_of plan i name ≡ Some p → IsPlaced plan i name p
placed plan i name p e =
    let o = some-of (λ place. last_pair plan i - (save_count plan i - place)) (place_of_save (chain_at plan i) name) p e in
    let at = position-at (λ own. bytes_eq own name) 0 (page_names (chain_at plan i)) o.0 o.1 in
    let same : o.0 ≡ at.0 = omega (arith, at.1) in
    record {
      place = at.0;
      within = omega (arith, at.2, length-names (chain_at plan i));
      is = sym o.2 ∙ ap (λ place. last_pair plan i - (save_count plan i - place)) same;
      named = λ d. bytes-same (get_or (page_names (chain_at plan i)) at.0 d) name (at.3 d);
    }

-- the pair that a name has is the item's
pub pair_of-own : (plan : PlanView) (i : ℕ) (name : Bytes) (p : ℕ) → i < length plan.items → pair_of plan i name ≡ Some p → (p < pairs (layout plan.items)) × (item_of (layout plan.items) p ≡ i)
pair_of-own plan i name p lt e =
    let at = placed plan i name p e in
    let is = at.is in
    let within = at.within in
    let low = saves-low plan i lt in
    let last = last-within plan i lt in
    (omega arith, layout-own (counts plan.items) i p (counted plan i lt) (omega arith) (omega (arith, count-at plan i lt)))

place-pair : (plan : PlanView) (i k : ℕ) (name : Bytes) → IsLinkedPlan plan → i < length plan.items → k ≤ save_count plan i → (d : Bytes) → get_or (page_names (chain_at plan i)) k d ≡ name → pair_of plan i name ≡ Some (last_pair plan i - (save_count plan i - k))
place-pair plan i k name h lt le d is =
    let names = page_names (chain_at plan i) in
    let within : k < length names = omega (arith, length-names (chain_at plan i)) in
    let found : place_of_save (chain_at plan i) (get_or names k d) ≡ Some (0 + k) = position-distinct names k d 0 (plan-names plan i h lt) within in
    let place : 0 + k ≡ k = omega arith in
    ap (λ o. option_map (λ place. last_pair plan i - (save_count plan i - place)) o) (ap (place_of_save (chain_at plan i)) (sym is) ∙ found ∙ ap Some place)

-- the pair of the save at a place
pub pair_of-saved : (plan : PlanView) (i k : ℕ) (d : Bytes) → IsLinkedPlan plan → i < length plan.items → k < save_count plan i → pair_of plan i (get_or (saves (chain_at plan i)) k d) ≡ Some ((last_pair plan i - save_count plan i) + k)
pair_of-saved plan i k d h lt below =
    let low = saves-low plan i lt in
    let there : last_pair plan i - (save_count plan i - k) ≡ (last_pair plan i - save_count plan i) + k = omega arith in
    place-pair plan i k (get_or (saves (chain_at plan i)) k d) h lt (omega arith) d (get_or_append_left (saves (chain_at plan i)) (final_name ∷ []) d k below) ∙ ap Some there

-- the pair of the finished page
pub pair_of-final : (plan : PlanView) (i : ℕ) → IsLinkedPlan plan → i < length plan.items → pair_of plan i final_name ≡ Some (last_pair plan i)
pair_of-final plan i h lt =
    let there : last_pair plan i - (save_count plan i - save_count plan i) ≡ last_pair plan i = omega arith in
    place-pair plan i (save_count plan i) final_name h lt (omega arith) [] (name-or (saves (chain_at plan i)) final_name (save_count plan i) [] (omega arith) ∙ past (saves (chain_at plan i))) ∙ ap Some there
  where
    past : (xs : List Bytes) → get_or xs (length xs) final_name ≡ final_name
    past [] = refl
    past (x ∷ xs) = past xs

numbers : (xs : List Bytes) (f : Bytes → Option ℕ) (a : ℕ) → ((k : ℕ) → k < length xs → f (get_or xs k []) ≡ Some (a + k)) → map f xs ≡ map Some (range_with_len a (length xs))
numbers [] f a h = refl
numbers (x ∷ xs) f a h =
    let first : a + 0 ≡ a = omega arith in
    ap (λ o. o ∷ map f xs) (h 0 (omega arith) ∙ ap Some first)
    ∙ ap (λ os. Some a ∷ os) (numbers xs f (a + 1) (λ k lt. let next : a + suc k ≡ (a + 1) + k = omega arith in h (suc k) (omega arith) ∙ ap Some next))

-- the pairs of an item's saves, one after another
pub pairs_of-saves : (plan : PlanView) (i : ℕ) → IsLinkedPlan plan → i < length plan.items → map (pair_of plan i) (saves (chain_at plan i)) ≡ map Some (snapshots_of plan i)
pairs_of-saves plan i h lt = numbers (saves (chain_at plan i)) (pair_of plan i) (last_pair plan i - save_count plan i) (λ k below. pair_of-saved plan i k [] h lt below)

-- ---- names of pairs

-- the name of a name's pair
pub pair_name-of : (plan : PlanView) (i : ℕ) (name : Bytes) (p : ℕ) → i < length plan.items → pair_of plan i name ≡ Some p → pair_name_of plan p ≡ name
pair_name-of plan i name p lt e =
    let at = placed plan i name p e in
    let is = at.is in
    let within = at.within in
    let low = saves-low plan i lt in
    let own = pair_of-own plan i name p lt e in
    let back : save_count plan i - (last_pair plan i - p) ≡ at.place = omega arith in
    subst (λ (j : ℕ). name_before (last_pair plan j) (chain_at plan j) p ≡ name) (sym own.1)
    (ap (name_at (chain_at plan i)) back ∙ sym (name-or (saves (chain_at plan i)) final_name at.place [] within) ∙ at.named [])

-- the pair of a pair's name
pub pair_of-name : (plan : PlanView) (p : ℕ) → IsLinkedPlan plan → p < pairs (layout plan.items) → pair_of plan (pair_owner plan p) (pair_name_of plan p) ≡ Some p
pair_of-name plan p h lt =
    let i = pair_owner plan p in
    let near = layout-near (counts plan.items) i p lt refl in
    let item : i < length plan.items = omega (arith, near.0, length-map plan.items count_of) in
    let count = count-at plan i item in
    let low = saves-low plan i item in
    let high : p ≤ last_pair plan i = near.1 in
    let under : last_pair plan i ≤ p + save_count plan i = omega (arith, near.2) in
    let k : ℕ = save_count plan i - (last_pair plan i - p) in
    let back : last_pair plan i - (save_count plan i - k) ≡ p = omega arith in
    place-pair plan i k (pair_name_of plan p) h item (omega arith) [] (name-or (saves (chain_at plan i)) final_name k [] (omega arith)) ∙ ap Some back
