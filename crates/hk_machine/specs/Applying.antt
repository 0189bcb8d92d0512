-- The steps that render, by a plan's numbers.
use Rattle.std.specs.Prelude.{ℕ}
use Rattle.hk_base.specs.Bytes.{Bytes}
use Rattle.hk_base.specs.Identifier.{Ident}
use Rattle.hk_chain.specs.declared.page.Page.{Page}
use Rattle.hk_fix.specs.Task.{Task, gives, ◌▷◌}
use Rattle.hk_rules.specs.Plan.{Lookups}
use Rattle.hk_template.specs.Tree.{Nodes}
use Rattle.hk_eval.specs.Asking.{text_page, need_text}
use Rattle.hk_eval.specs.Rendering.{render}
use Rattle.hk_eval.specs.Templates.{tree_task, template_task}

abbrev pub page_with : Bytes → Task Page
page_with bytes = gives (text_page bytes)

-- the page of a rendering of an item's own page in a context
abbrev pub rendered_task : Lookups → ℕ → ℕ → Page → Nodes → Task Page
rendered_task plan item context page tree = render plan tree (record { item = item; page = page; context = context }) ▷ page_with

-- by another item's template; the current page must be text
abbrev pub apply_task : Lookups → ℕ → Ident → ℕ → Page → Task Page
apply_task plan item id context page = need_text (plan.id item) page ▷ (λ text. template_task plan id ▷ rendered_task plan item context text)

-- by the page's own body, which must be a template
abbrev pub self_task : Lookups → ℕ → ℕ → Page → Task Page
self_task plan item context page = need_text (plan.id item) page ▷ (λ text. tree_task text.body ▷ rendered_task plan item context text)
