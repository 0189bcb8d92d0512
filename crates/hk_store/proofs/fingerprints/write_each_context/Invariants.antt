use Rattle.std.proofs.Common.{◌≡◌, ◌++◌, map, drop}
use Rattle.std.specs.List.{flat_map}
use Rattle.hk_rules.specs.Plan.{lookups}
use Rattle.hk_rules.specs.Recipe.{named_context}
use Rattle.hk_store.specs.RecipeText.{context_text}
use Rattle.hk_store.proofs.fingerprints.write_each_context.Given as goal

-- the text so far and that of the rest are all
abbrev pub invariant-loop-number : goal.invariant-loop-number
invariant-loop-number l = l.out.items ++ flat_map context_text (map (named_context (lookups l.plan)) (drop l.number-index l.numbers)) ≡ l.fn.out.items ++ flat_map context_text (map (named_context (lookups l.plan)) l.numbers)
