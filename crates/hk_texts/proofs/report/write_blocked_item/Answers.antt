use Rattle.std.proofs.Common.{◌≡◌, ◌∙◌, ap, List, ℕ, ◌++◌, append_assoc}
use Rattle.hk_texts.proofs.report.write_blocked_item.Goals as goal

five-parts : (old a b c d e v x y z all : List ℕ) → v ≡ old ++ a → x ≡ v ++ b → y ≡ x ++ c → z ≡ y ++ d → all ≡ z ++ e → all ≡ old ++ (a ++ (b ++ (c ++ (d ++ e))))
five-parts old a b c d e v x y z all f g h i j =
    j ∙ ap (λ l. l ++ e) (i ∙ ap (λ l. l ++ d) (h ∙ ap (λ l. l ++ c) (g ∙ ap (λ l. l ++ b) f)))
    ∙ append_assoc (((old ++ a) ++ b) ++ c) d e ∙ append_assoc ((old ++ a) ++ b) c (d ++ e) ∙ append_assoc (old ++ a) b (c ++ (d ++ e)) ∙ append_assoc old a (b ++ (c ++ (d ++ e)))

pub returns : goal.returns
returns c = five-parts _ _ _ _ _ _ _ _ _ _ _ c.in_ok-append.ensures c.in_ok-write_item.ensures c.in_ok-append-2.ensures c.in_ok-write_pairs.ensures c.in_ok-append-3.ensures
