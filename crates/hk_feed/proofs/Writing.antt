-- Texts and lists that are written one part after another.
use Rattle.std.proofs.Common.{◌≡◌, sym, ap, ◌∙◌, ℕ, ◌+◌, ◌<◌, ◌≤◌, List, [], ◌∷◌, ◌++◌, append_assoc, append-nil, drop, drop_of_length-le, length, get_or, map}
use Rattle.std.specs.List.{flat_map}
use Rattle.hk_feed.proofs.Lists.{rest-from}

-- a text after another
pub written-then : (old between new x y : List ℕ) → between ≡ old ++ x → new ≡ between ++ y → new ≡ old ++ (x ++ y)
written-then old between new x y a b = b ∙ (ap (λ l. l ++ y) a ∙ append_assoc old x y)

-- what is written of one more item
pub written-turn : {X : Type 0} (f : X → List ℕ) (xs : List X) (i : ℕ) (x : X) (old new total : List ℕ) → i < length xs → x ≡ get_or xs i x → new ≡ old ++ f x → old ++ flat_map f (drop i xs) ≡ total → new ++ flat_map f (drop (i + 1) xs) ≡ total
written-turn f xs i x old new total lt at more was =
    ap (λ l. l ++ flat_map f (drop (i + 1) xs)) more
    ∙ (append_assoc old (f x) (flat_map f (drop (i + 1) xs)) ∙ (ap (λ l. old ++ flat_map f l) (sym (rest-from xs i x lt at)) ∙ was))

-- what one more item gives
pub mapped-turn : {X Y : Type 0} (f : X → Y) (xs : List X) (i : ℕ) (x : X) (old new total : List Y) → i < length xs → x ≡ get_or xs i x → new ≡ old ++ f x ∷ [] → old ++ map f (drop i xs) ≡ total → new ++ map f (drop (i + 1) xs) ≡ total
mapped-turn f xs i x old new total lt at more was =
    ap (λ l. l ++ map f (drop (i + 1) xs)) more
    ∙ (append_assoc old (f x ∷ []) (map f (drop (i + 1) xs)) ∙ (ap (λ l. old ++ map f l) (sym (rest-from xs i x lt at)) ∙ was))

pub mapped-end : {X Y : Type 0} (f : X → Y) (xs : List X) (i : ℕ) (old total : List Y) → length xs ≤ i → old ++ map f (drop i xs) ≡ total → old ≡ total
mapped-end f xs i old total over was = sym (append-nil old) ∙ (ap (λ l. old ++ map f l) (sym (drop_of_length-le xs over)) ∙ was)
