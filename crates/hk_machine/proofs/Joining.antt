-- Bodies joined one after another.
use Rattle.std.proofs.Common.{◌≡◌, sym, ap, ◌∙◌, arith, ℕ, suc, ◌+◌, ◌<◌, Bool, true, List, ◌∷◌, ◌++◌, append_assoc, drop, drop-cons, length, map, get_or}
use Rattle.hk_base.specs.Bytes.{Bytes}
use Rattle.hk_chain.specs.declared.page.Page.{Page}
use Rattle.hk_eval.specs.Asking.{is_text, other_by, other_kind}
use Rattle.hk_machine.specs.Groups.{bodies}

pub rest-from : (xs : List ℕ) (i d : ℕ) → i < length xs → drop i xs ≡ get_or xs i d ∷ drop (i + 1) xs
rest-from xs i d lt = let e : i + 1 ≡ suc i = omega arith in rw e (drop-cons xs i d lt)

-- one more page, which is text
module _ (f : ℕ → Page) (items pairs : List ℕ) (i p : ℕ) (old more : Bytes) (b : Bool) (same : length items ≡ length pairs) (lt : i < length pairs) (at : p ≡ get_or pairs i p) (is : b ≡ is_text (f p).kind) (text : b ≡ true) where
  pairs-left : drop i pairs ≡ p ∷ drop (i + 1) pairs
  pairs-left = rest-from pairs i p lt ∙ ap (λ q. q ∷ drop (i + 1) pairs) (sym at)

  items-left : drop i items ≡ get_or items i 0 ∷ drop (i + 1) items
  items-left = rest-from items i 0 (omega arith)

  pub join-turn : (bodies (map f pairs) ≡ old ++ bodies (map f (drop i pairs))) × (other_kind items (map f pairs) ≡ other_kind (drop i items) (map f (drop i pairs))) → more ≡ old ++ (f p).body
      → (bodies (map f pairs) ≡ more ++ bodies (map f (drop (i + 1) pairs))) × (other_kind items (map f pairs) ≡ other_kind (drop (i + 1) items) (map f (drop (i + 1) pairs)))
  join-turn was put = (
    was.0 ∙ (ap (λ l. old ++ bodies (map f l)) pairs-left ∙ (sym (append_assoc old (f p).body (bodies (map f (drop (i + 1) pairs)))) ∙ ap (λ l. l ++ bodies (map f (drop (i + 1) pairs))) (sym put))),
    was.1 ∙ (ap (λ l. other_kind l (map f (drop i pairs))) items-left ∙ (ap (λ l. other_kind (get_or items i 0 ∷ drop (i + 1) items) (map f l)) pairs-left
        ∙ ap (λ t. other_by (get_or items i 0) t (other_kind (drop (i + 1) items) (map f (drop (i + 1) pairs)))) (sym is ∙ text))),
  )
