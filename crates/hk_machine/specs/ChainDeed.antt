-- What an item's compiler does, whatever the numbers of a plan: its chain as a deed, by its identifier and its recipe.
use Rattle.std.specs.Prelude.{List, [], ◌∷◌, drop, Option, Some, None}
use Rattle.std.specs.List.{flat_map}
use Rattle.std.specs.Option.{unwrap_or}
use Rattle.hk_base.specs.Bytes.{Bytes}
use Rattle.hk_base.specs.Identifier.{Ident}
use Rattle.hk_chain.specs.declared.fault.Fault.TheVariants.{BadTemplate, WrongKind}
use Rattle.hk_chain.specs.declared.page.Kind.TheVariants as kinds
use Rattle.hk_chain.specs.declared.page.Page.{Page}
use Rattle.hk_fix.specs.Deed.{Answer, Deed, returns, refuses, asking, matching, saving, ◌then◌}
use Rattle.hk_chain.specs.Names.{final_name}
use Rattle.hk_rules.specs.Recipe as recipes
use Rattle.hk_rules.specs.Recipe.{NamedStep, Recipe, own_header}
use Rattle.hk_template.specs.Fault.{first_fault}
use Rattle.hk_template.specs.Place.{fault_place}
use Rattle.hk_template.specs.Tree.{Nodes}
use Rattle.hk_template.specs.declared.fault.TemplateFault.{TemplateFault}
use Rattle.hk_eval.specs.Asking.{text_page, no_bytes}
use Rattle.hk_eval.specs.NamedAsking.{keys_named, need_text_deed, ask_text_deed, other_named}
use Rattle.hk_eval.specs.NamedRendering.{tree_deed, template_deed, render_deed}
use Rattle.hk_eval.specs.NamedValue.{NamedPlace}
use Rattle.hk_machine.specs.Chain.{relative_page}

-- what the item's file holds; an item that is created has none
abbrev pub own_file : Recipe → Bytes
own_file recipe = unwrap_or recipe.resource []

-- and what stands in it after its header
abbrev pub own_body : Recipe → Bytes
own_body recipe = drop (own_header recipe).body_start (own_file recipe)

-- the item with its page, in the context with a name
abbrev pub own_place : Ident → Recipe → Bytes → Page → NamedPlace
own_place id recipe context page = record { id = id; page = page; traits = record { target = recipe.target; meta = (own_header recipe).meta }; context = context }

abbrev pub checked_deed : Bytes → Option TemplateFault → Deed Page
checked_deed body None = returns (record { kind = kinds.Template; body = body })
checked_deed body (Some fault) = refuses (BadTemplate (fault_place fault))

abbrev pub joined_deed_by : List Answer → Option Ident → Deed Page
joined_deed_by xs None = returns (text_page (flat_map (λ x. x.page.body) xs))
joined_deed_by xs (Some id) = refuses (WrongKind id)

-- the bodies of items' pages in order, each of which must be text
abbrev pub joined_deed : List Ident → List Answer → Deed Page
joined_deed ids xs = joined_deed_by xs (other_named ids xs)

abbrev pub text_of_page : Bytes → Deed Page
text_of_page bytes = returns (text_page bytes)

-- the page of a rendering of the item's own page, which is text, in the context with a name
abbrev pub rendered_deed : Ident → Recipe → Bytes → Page → Nodes → Deed Page
rendered_deed id recipe context page tree = render_deed recipe.contexts tree (own_place id recipe context page) then text_of_page

-- what a step makes of the current page
abbrev pub step_deed : Ident → Recipe → NamedStep → Page → Deed Page
step_deed id recipe recipes.body page = returns (text_page (own_body recipe))
step_deed id recipe recipes.string page = returns (text_page (own_file recipe))
step_deed id recipe recipes.copy page = returns (record { kind = kinds.File; body = own_file recipe })
step_deed id recipe recipes.template page = checked_deed (own_body recipe) (first_fault (own_body recipe))
step_deed id recipe (recipes.make text) page = returns (text_page text)
step_deed id recipe (recipes.load other name) page = ask_text_deed other name
step_deed id recipe (recipes.concat by) page = matching by (λ ids. asking (keys_named final_name ids) (joined_deed ids))
step_deed id recipe (recipes.apply other context) page = need_text_deed id page then (λ text. template_deed other then rendered_deed id recipe context text)
step_deed id recipe (recipes.apply_self context) page = need_text_deed id page then (λ text. tree_deed text.body then rendered_deed id recipe context text)
step_deed id recipe (recipes.save name) page = saving name page (returns page)
step_deed id recipe recipes.relativize page = need_text_deed id page then (λ text. returns (relative_page text recipe.target))

abbrev pub steps_deed : Ident → Recipe → List NamedStep → Page → Deed Page
steps_deed id recipe [] page = returns page
steps_deed id recipe (step ∷ steps) page = step_deed id recipe step page then steps_deed id recipe steps

-- what the compiler of an item with this identifier and this recipe does
unfoldable pub chain_deed : Ident → Recipe → Deed Page
chain_deed id recipe = steps_deed id recipe recipe.steps no_bytes

-- the names under which it saves on its way
abbrev pub saved_name : NamedStep → Option Bytes
saved_name (recipes.save name) = Some name
saved_name _ = None
