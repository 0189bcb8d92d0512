-- The pairs of several items, as the calls that make them answer, and the pages that are told for them.
use Rattle.std.specs.Prelude.{ℕ, List, ◌++◌, Result, Ok, Err}
use Rattle.std.specs.Option.{unwrap_or}
use Rattle.hk_chain.specs.declared.page.Page.{Page}
use Rattle.hk_fix.specs.Pages.{Pages}
use Rattle.hk_eval.specs.Asking.{no_bytes}
use Rattle.hk_eval.specs.declared.group.Group.{Group}
use Rattle.hk_eval.specs.declared.group.Group.TheVariants.{Pairs, Lacks}

abbrev pub group_of : Group → Result (List ℕ) ℕ
group_of (Pairs pairs) = Ok pairs.items
group_of (Lacks item) = Err item

-- the page of a pair that is told
abbrev pub told_page : Pages → ℕ → Page
told_page k pair = unwrap_or (k pair) no_bytes

-- what was found so far, and then this
abbrev pub after_pairs : List ℕ → Result (List ℕ) ℕ → Result (List ℕ) ℕ
after_pairs found (Ok pairs) = Ok (found ++ pairs)
after_pairs found (Err item) = Err item
