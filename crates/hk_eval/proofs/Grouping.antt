-- Groups of pages: which items they are of, and what their runs come to.
use Rattle.std.proofs.Common.{◌≡◌, refl, sym, ap, ◌∙◌, subst, arith, ℕ, zero, suc, ◌<◌, Bool, true, false, cond, List, [], ◌∷◌, append-nil, get_or, length, map, Option, Some, None, is_none, is_some, Result, Ok, Err}
use Rattle.std.specs.List.{AllByRecursion}
use Rattle.hk_base.specs.Bytes.{Bytes}
use Rattle.hk_chain.specs.declared.page.Page.{Page}
use Rattle.hk_chain.specs.Facts.{FactsView}
use Rattle.hk_fix.specs.Pages.{Pages, lacking, all_pages, with_page}
use Rattle.hk_fix.specs.Task.{Task, ◌▷◌, Mark, asked, waits, run, onward, answered}
use Rattle.hk_rules.specs.Plan.{Lookups}
use Rattle.hk_eval.specs.Asking.{with_pair, pairs_of, ask_group, is_text, other_by, other_kind}
use Rattle.hk_eval.specs.Groups.{told_page}
use Rattle.hk_eval.specs.Noted.{with_group, noted}
use Rattle.hk_eval.specs.Told.{AllTold}

-- the pairs of some items

pub with-ok : (i : ℕ) (o : Option ℕ) (r : Result (List ℕ) ℕ) (ps : List ℕ) → with_pair i o r ≡ Ok ps → (p : ℕ) × (rest : List ℕ) × (o ≡ Some p) × (r ≡ Ok rest) × (ps ≡ p ∷ rest)
with-ok i None r ps e = cc
with-ok i (Some p) (Ok rest) ps e = (p, rest, refl, refl, cc)
with-ok i (Some p) (Err other) ps e = cc

-- an item that has no pair, and one whose page is no text, are among the items

pub lacks-in : (P : ℕ → Type 0) (plan : Lookups) (name : Bytes) (items : List ℕ) (i : ℕ) → AllByRecursion P items → pairs_of plan name items ≡ Err i → P i
lacks-in P plan name [] i h e = cc
lacks-in P plan name (j ∷ items) i h e = at (plan.pair j name) (pairs_of plan name items) refl e (λ w. lacks-in P plan name items i h.1 w)
  where
    at : (o : Option ℕ) (r : Result (List ℕ) ℕ) → pairs_of plan name items ≡ r → with_pair j o r ≡ Err i → (pairs_of plan name items ≡ Err i → P i) → P i
    at None r q w rec = let s : j ≡ i = cc in subst P s h.0
    at (Some p) (Ok ps) q w rec = cc
    at (Some p) (Err other) q w rec = rec (q ∙ (let s : other ≡ i = cc in ap Err s))

pub other-in : (P : ℕ → Type 0) (items : List ℕ) (pages : List Page) (i : ℕ) → AllByRecursion P items → other_kind items pages ≡ Some i → P i
other-in P [] pages i h e = cc
other-in P (j ∷ items) [] i h e = cc
other-in P (j ∷ items) (page ∷ pages) i h e = at (is_text page.kind) e (λ w. other-in P items pages i h.1 w)
  where
    at : (b : Bool) → other_by j b (other_kind items pages) ≡ Some i → (other_kind items pages ≡ Some i → P i) → P i
    at true w rec = rec w
    at false w rec = let s : j ≡ i = cc in subst P s h.0

pub pairs-length : (plan : Lookups) (name : Bytes) (items ps : List ℕ) → pairs_of plan name items ≡ Ok ps → length items ≡ length ps
pairs-length plan name [] ps e = let s : [] ≡ ps = cc in ap length s
pairs-length plan name (j ∷ items) ps e =
    let w = with-ok j (plan.pair j name) (pairs_of plan name items) ps e in
    omega (arith, pairs-length plan name items w.1 w.3, ap length w.4)

-- what is told of a group

pub empty-list : (l : List ℕ) → length l ≡ 0 → l ≡ []
empty-list [] e = refl
empty-list (x ∷ l) e = absurd (omega arith)

pub all-told : (k : Pages) (ps : List ℕ) → lacking k ps ≡ [] → all_pages k ps ≡ Some (map (told_page k) ps)
all-told k [] e = refl
all-told k (p ∷ ps) e = at (k p) refl e (λ w. all-told k ps w)
  where
    at : (o : Option Page) → k p ≡ o → cond (is_none o) (p ∷ lacking k ps) (lacking k ps) ≡ [] → (lacking k ps ≡ [] → all_pages k ps ≡ Some (map (told_page k) ps)) → with_page (k p) (all_pages k ps) ≡ Some (map (told_page k) (p ∷ ps))
    at None q w rec = cc
    at (Some x) q w rec = rw (rec w, q) refl

some-told : (k : Pages) (ps : List ℕ) (xs : List Page) → all_pages k ps ≡ Some xs → lacking k ps ≡ []
some-told k [] xs e = refl
some-told k (p ∷ ps) xs e = at (k p) (all_pages k ps) refl refl e (λ ys w. some-told k ps ys w)
  where
    at : (o : Option Page) (q : Option (List Page)) → k p ≡ o → all_pages k ps ≡ q → with_page o q ≡ Some xs → ((ys : List Page) → all_pages k ps ≡ Some ys → lacking k ps ≡ []) → lacking k (p ∷ ps) ≡ []
    at None q a b w rec = cc
    at (Some x) None a b w rec = cc
    at (Some x) (Some ys) a b w rec = rw a (rec ys b)

none-told : (k : Pages) (ps : List ℕ) → 0 < length (lacking k ps) → all_pages k ps ≡ None
none-told k ps lt = at (all_pages k ps) refl
  where
    at : (o : Option (List Page)) → all_pages k ps ≡ o → o ≡ None
    at None e = refl
    at (Some xs) e = let z : length (lacking k ps) ≡ 0 = ap length (some-told k ps xs e) in absurd (omega arith)

-- the marks of a group
abbrev pub group_log : List ℕ → List Mark
group_log [] = []
group_log (p ∷ ps) = asked (p ∷ ps) ∷ []

pub group-runs : {A : Type 0} (k : Pages) (ps : List ℕ) (f : List Page → Task A) → lacking k ps ≡ [] → run (ask_group ps ▷ f) k ≡ onward (group_log ps) (run (f (map (told_page k) ps)) k)
group-runs k [] f e = refl
group-runs k (p ∷ ps) f e = ap (answered (p ∷ ps) (lacking k (p ∷ ps)) (λ xs. run (f xs) k)) (all-told k (p ∷ ps) e)

pub group-waits : {A : Type 0} (k : Pages) (ps : List ℕ) (f : List Page → Task A) → 0 < length (lacking k ps) → (run (ask_group ps ▷ f) k).end ≡ waits (lacking k ps)
group-waits k [] f lt = absurd (omega arith)
group-waits k (p ∷ ps) f lt = ap (λ o. (answered (p ∷ ps) (lacking k (p ∷ ps)) (λ xs. run (f xs) k) o).end) (none-told k (p ∷ ps) lt)

with-nothing : (f : FactsView) → with_group f [] ≡ f
with-nothing f = λ i. record { asks = append-nil f.asks i; patterns = f.patterns; trace = append-nil f.trace i }

pub group-noted : (f : FactsView) (ps : List ℕ) → noted f (group_log ps) ≡ with_group f ps
group-noted f [] = sym (with-nothing f)
group-noted f (p ∷ ps) = refl

-- where none lacks, all are told
pub told-all : (k : Pages) (ps : List ℕ) → lacking k ps ≡ [] → AllTold k ps
told-all k [] e = tt
told-all k (p ∷ ps) e = at (k p) refl e (λ w. told-all k ps w)
  where
    at : (o : Option Page) → k p ≡ o → cond (is_none o) (p ∷ lacking k ps) (lacking k ps) ≡ [] → (lacking k ps ≡ [] → AllTold k ps) → AllTold k (p ∷ ps)
    at None q w rec = cc
    at (Some x) q w rec = (ap is_some q, rec w)

pub told-at : (k : Pages) (ps : List ℕ) (i p : ℕ) → AllTold k ps → i < length ps → p ≡ get_or ps i p → is_some (k p) ≡ true
told-at k [] i p all lt at = absurd (omega arith)
told-at k (q ∷ ps) zero p all lt at = ap (λ x. is_some (k x)) at ∙ all.0
told-at k (q ∷ ps) (suc i) p all lt at = told-at k ps i p all.1 (omega arith) at
