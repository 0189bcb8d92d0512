-- The laws of the grammar hold.
use Rattle.hk_template.proofs.Cutting
use Rattle.hk_template.proofs.Grammar
use Rattle.hk_template.proofs.laws.grammar_laws.Goals as goal

pub returns-clause-one_tree : goal.returns-clause-one_tree
returns-clause-one_tree c = Grammar.one_tree

pub returns-clause-tree_or_fault : goal.returns-clause-tree_or_fault
returns-clause-tree_or_fault c = Grammar.tree_or_fault

pub returns-clause-reads_again : goal.returns-clause-reads_again
returns-clause-reads_again c = Grammar.reads_again

pub returns-clause-as_function : goal.returns-clause-as_function
returns-clause-as_function c = Grammar.as_function

pub returns-clause-cuts_all : goal.returns-clause-cuts_all
returns-clause-cuts_all c = Cutting.cuts_all
