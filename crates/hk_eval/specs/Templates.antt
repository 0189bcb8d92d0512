-- Templates of items.
use Rattle.std.specs.Prelude.{◌≡◌, Result, Ok, Err}
use Rattle.hk_base.specs.Bytes.{Bytes}
use Rattle.hk_base.specs.Identifier.{Ident}
use Rattle.hk_chain.specs.declared.page.Page.{Page}
use Rattle.hk_chain.specs.declared.page.Kind.{Kind}
use Rattle.hk_chain.specs.declared.page.Kind.TheVariants as kinds
use Rattle.hk_chain.specs.declared.fault.Fault.TheVariants.{BadTemplate, WrongKind}
use Rattle.hk_fix.specs.Task.{Task, gives, fails, ◌▷◌}
use Rattle.hk_chain.specs.Names.{final_name}
use Rattle.hk_rules.specs.Plan.{Lookups}
use Rattle.hk_template.specs.Growing.{read_tree}
use Rattle.hk_template.specs.Place.{fault_place}
use Rattle.hk_template.specs.Template.{IsPrintable}
use Rattle.hk_template.specs.Tree.{Nodes}
use Rattle.hk_template.specs.declared.fault.TemplateFault.{TemplateFault}
use Rattle.hk_eval.specs.Asking.{ask}

-- the text has this tree, which can be printed
abbrev pub IsTreeOf : Bytes → Nodes → Type 0
IsTreeOf text tree = (read_tree text ≡ Ok tree) × IsPrintable tree

abbrev pub tree_by : Result Nodes TemplateFault → Task Nodes
tree_by (Ok tree) = gives tree
tree_by (Err fault) = fails (BadTemplate (fault_place fault))

-- the tree of a text that must be a template
abbrev pub tree_task : Bytes → Task Nodes
tree_task text = tree_by (read_tree text)

abbrev pub template_by : Ident → Kind → Bytes → Task Nodes
template_by id kinds.Text body = fails (WrongKind id)
template_by id kinds.Template body = tree_task body
template_by id kinds.File body = fails (WrongKind id)

-- the tree of a page of the item with this identifier, which must be a template
abbrev pub need_template : Ident → Page → Task Nodes
need_template id page = template_by id page.kind page.body

-- the template that the item with an identifier ends with
unfoldable pub template_task : Lookups → Ident → Task Nodes
template_task plan id = ask plan id final_name ▷ need_template id
