-- What reading a template answers, and the laws of the grammar.
use Rattle.std.specs.Prelude.{◌≡◌, Result, Ok, Err, Some, None}
use Rattle.hk_base.specs.Bytes.{Bytes}
use Rattle.hk_base.specs.declared.refusal.Refusal.{Refusal}
use Rattle.hk_base.specs.declared.refusal.Refusal.TheVariants.{Fault, NoMemory}
use Rattle.hk_template.specs.declared.fault.TemplateFault.{TemplateFault}
use Rattle.hk_template.specs.declared.template.Template.{Template}
use Rattle.hk_template.specs.Tree.{Nodes}
use Rattle.hk_template.specs.Template.{IsTemplate, IsPrintable, tree_text}
use Rattle.hk_template.specs.Fault.{first_fault}
use Rattle.hk_template.specs.Growing.{read_tree}

-- the text's only tree
pub record IsOnlyTree (bytes : Bytes) (tree : Nodes) : Type 0 where
  pub grammar : IsTemplate bytes tree
  pub only : (other : Nodes) → IsTemplate bytes other → other ≡ tree
  pub printable : IsPrintable tree
  pub faultless : first_fault bytes ≡ None

-- a text without a tree, and its first fault
pub record IsFaulty (bytes : Bytes) (fault : TemplateFault) : Type 0 where
  pub no_tree : (tree : Nodes) → IsTemplate bytes tree → ⊥
  pub first : first_fault bytes ≡ Some fault

-- the one tree of a text, or its first fault where it has no tree, or want of memory
abbrev pub Parses : Bytes → Result Template (Refusal TemplateFault) → Type 0
Parses bytes (Ok t) = IsOnlyTree bytes t
Parses bytes (Err (Fault fault)) = IsFaulty bytes fault
Parses bytes (Err NoMemory) = Unit {0}

-- a text has at most one tree
abbrev pub OneTree : Type 0
OneTree = (bytes : Bytes) (a b : Nodes) → IsTemplate bytes a → IsTemplate bytes b → a ≡ b

-- what is printed is read again
abbrev pub ReadsAgain : Type 0
ReadsAgain = (tree : Nodes) → IsPrintable tree → IsTemplate (tree_text tree) tree

-- a text has a tree, or a fault and no tree
abbrev pub TreeOrFault : Type 0
TreeOrFault = (bytes : Bytes) → (first_fault bytes ≡ None → (tree : Nodes) × IsTemplate bytes tree) × ((fault : TemplateFault) → first_fault bytes ≡ Some fault → (tree : Nodes) → IsTemplate bytes tree → ⊥)

-- the grammar as a function: what it gives is the tree or the first fault
abbrev pub AsFunction : Type 0
AsFunction = (bytes : Bytes) → ((tree : Nodes) → IsTemplate bytes tree → read_tree bytes ≡ Ok tree) × ((tree : Nodes) → read_tree bytes ≡ Ok tree → IsTemplate bytes tree) × ((fault : TemplateFault) → first_fault bytes ≡ Some fault → read_tree bytes ≡ Err fault) × ((fault : TemplateFault) → read_tree bytes ≡ Err fault → first_fault bytes ≡ Some fault)
