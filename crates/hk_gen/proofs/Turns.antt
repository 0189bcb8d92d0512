-- One post more, and the other files behind the posts.
use Rattle.std.proofs.Common.{◌≡◌, ◌+◌, ◌++◌, ℕ, suc, List, ◌∙◌, ap, refl, arith, [], ◌∷◌, map}
use Rattle.std.specs.List.{range_with_len}
use Rattle.std.proofs.lemmas.List.{append_assoc}
use Rattle.std.proofs.lemmas.List.FromFn.{map-range_with_len_more}
use Rattle.hk_gen.specs.Random.{before, after_draws}
use Rattle.hk_gen.specs.Posts.{post}

pub before-next : (number place : ℕ) → before number (place + 1) ≡ after_draws (before number place)
unfolding before
before-next number place = let e : place + 1 ≡ suc place = omega arith in rw e refl

pub posts-next : (number place : ℕ) → map (post number) (range_with_len 0 (place + 1)) ≡ map (post number) (range_with_len 0 place) ++ post number place ∷ []
posts-next number place = map-range_with_len_more (post number) 0 place place (omega arith)

pub three-more : {A : Type 0} (front posts : List A) (a b c x y z : A) → front ≡ posts → a ≡ x → b ≡ y → c ≡ z
    → ((front ++ a ∷ []) ++ b ∷ []) ++ c ∷ [] ≡ posts ++ x ∷ y ∷ z ∷ []
three-more front posts a b c x y z e f g h =
    (λ i. ((e i ++ f i ∷ []) ++ g i ∷ []) ++ h i ∷ [])
    ∙ (ap (λ xs. xs ++ z ∷ []) (append_assoc posts (x ∷ []) (y ∷ [])) ∙ append_assoc posts (x ∷ y ∷ []) (z ∷ []))
