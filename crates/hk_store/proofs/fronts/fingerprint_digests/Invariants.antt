use Rattle.std.proofs.Common.{◌≡◌, ◌<◌, ℕ, [], length, get_or}
use Rattle.std.specs.List.{AllByRecursion}
use Rattle.hk_rules.specs.Recipe.{recipe_of}
use Rattle.hk_store.specs.Fronts.{IsFront}
use Rattle.hk_store.specs.RecipeText.{recipe_text}
use Rattle.hk_store.specs.Traits.{sha_digests}
use Rattle.hk_store.proofs.fronts.fingerprint_digests.Given as goal

-- the digests of the items so far, and hashes of fronts
abbrev pub invariant-loop-number : goal.invariant-loop-number
invariant-loop-number l =
    record {
      count : length l.digests.items ≡ l.number;
      each : (item : ℕ) → item < l.number → get_or l.digests.items item [] ≡ sha_digests.text (recipe_text (recipe_of l.plan item));
      kept : AllByRecursion (IsFront l.plan) l.fronts.items;
    }
