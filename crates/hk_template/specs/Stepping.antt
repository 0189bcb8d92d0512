-- What the parser's steps answer.
use Rattle.std.specs.Prelude.{ℕ, ◌≡◌, true, false, nat_lt, length, Result, Ok, Err}
use Rattle.hk_base.specs.Bytes.{Bytes}
use Rattle.hk_base.specs.declared.refusal.Refusal.{Refusal}
use Rattle.hk_base.specs.declared.refusal.Refusal.TheVariants.{Fault, NoMemory}
use Rattle.hk_template.specs.declared.fault.TemplateFault.{TemplateFault}
use Rattle.hk_template.specs.declared.fault.TemplateFault.TheVariants.{TooDeep}
use Rattle.hk_template.specs.declared.frame.Head.{Head as Begun}
use Rattle.hk_template.specs.declared.template.Template.{Template}
use Rattle.hk_template.specs.Tree.{Nodes, no_nodes}
use Rattle.hk_template.specs.Growing.{State}
use Rattle.hk_template.specs.ParserViews.{head_view}

-- the wanted state is the new one, or the wanted fault is answered
abbrev pub Steps : {S A : Type 0} → Result S TemplateFault → S → Result A (Refusal TemplateFault) → Type 0
Steps wanted new (Ok done) = wanted ≡ Ok new
Steps wanted new (Err (Fault fault)) = wanted ≡ Err fault
Steps wanted new (Err NoMemory) = Unit {0}

-- the wanted tree or fault is answered
abbrev pub Grows : Result Nodes TemplateFault → Result Template (Refusal TemplateFault) → Type 0
Grows wanted (Ok t) = wanted ≡ Ok t
Grows wanted (Err (Fault fault)) = wanted ≡ Err fault
Grows wanted (Err NoMemory) = Unit {0}

-- where fewer than 64 forms are open, the head of one more form is answered, and the list inside it has no nodes
abbrev pub Begins : ℕ → Bytes → State → State → Result Begun (Refusal TemplateFault) → Type 0
Begins p k old new (Ok begun) = (nat_lt (length old.forms) 64 ≡ true) × (head_view begun ≡ record { place = p; key = k; outer = old.nodes }) × (new ≡ record { nodes = no_nodes; forms = old.forms })
Begins p k old new (Err (Fault fault)) = (nat_lt (length old.forms) 64 ≡ false) × (fault ≡ TooDeep p)
Begins p k old new (Err NoMemory) = Unit {0}
