-- The run of an item's chain: each step makes a page of the current one.
use Rattle.std.specs.Prelude.{ℕ, List, [], ◌∷◌, Option, Some, None, drop}
use Rattle.std.specs.List.{flat_map}
use Rattle.std.specs.Option.{unwrap_or}
use Rattle.hk_base.specs.Bytes.{Bytes}
use Rattle.hk_chain.specs.declared.chain.Step.{Step}
use Rattle.hk_chain.specs.declared.chain.Step.TheVariants.{Body, Str, Copy, TemplateBody, Make, Load, Concat, Apply, SelfApply, Save, Relativize}
use Rattle.hk_chain.specs.declared.page.Page.{Page}
use Rattle.hk_chain.specs.declared.page.Kind.TheVariants as kinds
use Rattle.hk_chain.specs.declared.fault.Fault.TheVariants.{BadTemplate, WrongKind}
use Rattle.hk_fix.specs.Task.{Task, gives, fails, notes, used, saved, ◌▷◌}
use Rattle.hk_html.specs.Root.{root_of}
use Rattle.hk_html.specs.Relative.{with_roots}
use Rattle.hk_chain.specs.Names.{final_name}
use Rattle.hk_rules.specs.Plan.{Lookups}
use Rattle.hk_template.specs.Fault.{first_fault}
use Rattle.hk_template.specs.Place.{fault_place}
use Rattle.hk_template.specs.declared.fault.TemplateFault.{TemplateFault}
use Rattle.hk_eval.specs.Asking.{text_page, no_bytes, ask_all, ask_text, need_text, other_kind}
use Rattle.hk_machine.specs.Applying.{apply_task, self_task}

-- what an item's file holds; an item that is created has none, and no rule gives it a step that reads one
abbrev pub file_of : Lookups → ℕ → Bytes
file_of plan item = unwrap_or (plan.resource item) []

abbrev pub body_of : Lookups → ℕ → Bytes
body_of plan item = drop (plan.body_start item) (file_of plan item)

abbrev pub template_by : Bytes → Option TemplateFault → Task Page
template_by body None = gives (record { kind = kinds.Template; body = body })
template_by body (Some fault) = fails (BadTemplate (fault_place fault))

-- a text that must be a template
abbrev pub template_of : Bytes → Task Page
template_of body = template_by body (first_fault body)

abbrev pub joined_by : Lookups → List Page → Option ℕ → Task Page
joined_by plan pages None = gives (text_page (flat_map (λ page. page.body) pages))
joined_by plan pages (Some item) = fails (WrongKind (plan.id item))

-- the bodies of the items' pages in order, each of which must be text
abbrev pub joined_pages : Lookups → List ℕ → List Page → Task Page
joined_pages plan items pages = joined_by plan pages (other_kind items pages)

abbrev pub concat_task : Lookups → List ℕ → Task Page
concat_task plan items = ask_all plan final_name items ▷ joined_pages plan items

-- a page under a name of its chain's, which is a pair
abbrev pub save_task : Page → Option ℕ → Task Page
save_task page None = gives page
save_task page (Some pair) = notes (saved pair page) (gives page)

abbrev pub relative_page : Page → Option Bytes → Page
relative_page page None = page
relative_page page (Some target) = text_page (with_roots (root_of target) page.body)

-- what a step of an item's chain makes of the current page
abbrev pub step_task : Lookups → ℕ → Step → Page → Task Page
step_task plan item Body page = gives (text_page (body_of plan item))
step_task plan item Str page = gives (text_page (file_of plan item))
step_task plan item Copy page = gives (record { kind = kinds.File; body = file_of plan item })
step_task plan item TemplateBody page = template_of (body_of plan item)
step_task plan item (Make text) page = gives (text_page text)
step_task plan item (Load id name) page = ask_text plan id name
step_task plan item (Concat pattern) page = notes (used pattern) (concat_task plan (plan.matches pattern))
step_task plan item (Apply id context) page = apply_task plan item id context page
step_task plan item (SelfApply context) page = self_task plan item context page
step_task plan item (Save name) page = save_task page (plan.pair item name)
step_task plan item Relativize page = need_text (plan.id item) page ▷ (λ text. gives (relative_page text (plan.target_of item)))

abbrev pub steps_task : Lookups → ℕ → List Step → Page → Task Page
steps_task plan item [] page = gives page
steps_task plan item (step ∷ steps) page = step_task plan item step page ▷ steps_task plan item steps

-- an item's chain, from its first step on
unfoldable pub chain_task : Lookups → ℕ → Task Page
chain_task plan item = steps_task plan item (plan.chain item) no_bytes
