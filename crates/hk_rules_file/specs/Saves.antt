-- The names under which a chain saves its page.
use Rattle.std.specs.Prelude.{List, [], ◌∷◌, ◌++◌, filter_map, Option, Some, None}
use Rattle.hk_base.specs.Bytes.{Bytes}
use Rattle.hk_chain.specs.declared.chain.Step.{Step}
use Rattle.hk_chain.specs.declared.chain.Step.TheVariants.{Save}
use Rattle.hk_chain.specs.Names.{final_name}

-- the name under which a step saves the page
abbrev pub saved : Step → Option Bytes
saved (Save name) = Some name
saved _ = None

-- the names under which a chain saves its page on its way
abbrev pub saves : List Step → List Bytes
saves steps = filter_map saved steps

-- the names of a chain's pages in order, the finished one last
abbrev pub page_names : List Step → List Bytes
page_names steps = saves steps ++ final_name ∷ []
