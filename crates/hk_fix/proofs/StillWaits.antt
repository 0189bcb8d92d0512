-- A run that waits, under more pages that still lack a pair of the wait.
use Rattle.std.proofs.Common.{◌≡◌, refl, sym, ap, ◌∙◌, ℕ, ◌<◌, Bool, true, false, cond, List, [], ◌∷◌, Option, Some, None, is_none, Contains, filter}
use Rattle.hk_chain.specs.declared.page.Page.{Page}
use Rattle.hk_chain.specs.Layout.{Shape}
use Rattle.hk_fix.specs.Pages.{Pages, Extends, lacking}
use Rattle.hk_fix.specs.Task.{Mark, End, done, fault, waits, Run}
use Rattle.hk_fix.specs.Run.{asks_of, lacked, IsRun}
use Rattle.hk_fix.proofs.Orders.{clash, filter-none}
use Rattle.std.proofs.lemmas.List.Elements.{All-contains, All-from_recursion}

fails-too : (a b : Bool) → (a ≡ true → b ≡ true) → b ≡ false → a ≡ false
fails-too true b h e = clash b e (h refl)
fails-too false b h e = refl

-- a filter that keeps less makes one before it needless
filter-twice : (f g : ℕ → Bool) → ((p : ℕ) → g p ≡ true → f p ≡ true) → (xs : List ℕ) → filter g (filter f xs) ≡ filter g xs
filter-twice f g h [] = refl
filter-twice f g h (x ∷ xs) =
    elim (f x) as (λ b. f x ≡ b → filter g (cond b (x ∷ filter f xs) (filter f xs)) ≡ cond (g x) (x ∷ filter g xs) (filter g xs)) [
      | true ↦ λ t. ap (λ (l : List ℕ). cond (g x) (x ∷ l) l) (filter-twice f g h xs)
      | false ↦ λ t. rw (fails-too (g x) (f x) (h x) t) (filter-twice f g h xs)
    ] refl

unknown : (o n : Option Page) → ((x : Page) → o ≡ Some x → n ≡ Some x) → is_none n ≡ true → is_none o ≡ true
unknown None n h e = refl
unknown (Some x) n h e = clash (is_none n) (ap is_none (h x refl)) e

-- an end that lacks something waits for it
wait-of : (e : End Page) (l : List ℕ) → lacked e ≡ l → (l ≡ [] → ⊥) → e ≡ waits l
wait-of (done x) l q some = absurd (some (sym q))
wait-of (fault f) l q some = absurd (some (sym q))
wait-of (waits ps) l q some = ap waits q

lacks-some : (m : Pages) (l : List ℕ) (p : ℕ) → Contains l p → m p ≡ None → lacking m l ≡ [] → ⊥
lacks-some m l p c none e =
    clash (is_none (m p)) (All-contains (λ q. is_none (m q) ≡ false) l p (All-from_recursion (λ q. is_none (m q) ≡ false) l (filter-none (λ q. is_none (m q)) l e)) c) (ap is_none none)

pub waits-on : (lay : Shape) (run : ℕ → Pages → Run Page) → IsRun lay run → (i : ℕ) (k m : Pages) (l : List ℕ) (p : ℕ) → i < lay.items → (run i k).end ≡ waits l → Extends k m → Contains l p → m p ≡ None → (run i m).end ≡ waits (lacking m l)
waits-on lay run laws i k m l p lt e ext c none =
    let was : lacking k (asks_of (run i k).log) ≡ l = laws.waiting i k lt ∙ ap lacked e in
    let twice : lacking m (lacking k (asks_of (run i k).log)) ≡ lacking m (asks_of (run i k).log) = filter-twice (λ q. is_none (k q)) (λ q. is_none (m q)) (λ q. unknown (k q) (m q) (ext q)) (asks_of (run i k).log) in
    let log : (run i m).log ≡ (run i k).log = laws.still i k m l p lt e ext c none in
    wait-of (run i m).end (lacking m l)
    (sym (laws.waiting i m lt) ∙ (ap (λ (g : List Mark). lacking m (asks_of g)) log ∙ (sym twice ∙ ap (lacking m) was)))
    (lacks-some m l p c none)
