-- What grows from a text is its one tree, or its first fault where it has none.
use Rattle.std.proofs.Common.{◌≡◌, ℕ, ◌+◌, ◌≤◌, Bool, true, false, List, [], ◌∷◌, length, refl, ap, sym, subst, ◌∙◌, Some, None, Result, Ok, Err, IfOk}
use Rattle.std.specs.Result.{result_ok, result_err}
use Rattle.hk_base.specs.Bytes.{Bytes}
use Rattle.hk_template.specs.declared.fault.TemplateFault.{TemplateFault}
use Rattle.hk_template.specs.Token.{Token, text, dollar, tag, token_text}
use Rattle.hk_template.specs.Tree.{Nodes, nodes_tokens, nodes_depth, dollar_node, text_if_any, trimmed, dashed, trim_start_if}
use Rattle.hk_template.specs.Cut.{Cuts, cut}
use Rattle.hk_template.specs.Template.{IsTemplate, IsPrintable, tree_text}
use Rattle.hk_template.specs.Fault.{first_fault}
use Rattle.hk_template.specs.Growing.{State, Waiting, waits, waits_if, flushed, with_node, word_step, grown_from, grown_on, read_tree, start}
use Rattle.hk_template.specs.Parsing.{IsOnlyTree, IsFaulty, Parses, OneTree, ReadsAgain, TreeOrFault, AsFunction}
use Rattle.hk_template.specs.Stepping.{Grows}
use Rattle.hk_template.specs.declared.template.Template.{Template}
use Rattle.hk_base.specs.declared.refusal.Refusal.{Refusal}
use Rattle.hk_base.specs.declared.refusal.Refusal.TheVariants.{Fault, NoMemory}
use Rattle.hk_template.proofs.Growth.{grow, grow_tree, grow_tokens}
use Rattle.hk_template.proofs.Shallow.{grow_shallow}
use Rattle.hk_template.proofs.Steps.{grown_trimmed, grown_fault, no_run}
use Rattle.hk_template.proofs.Cutting.{Spelled, cut_spelled, spelled_cut}
use Rattle.hk_template.proofs.Printing.{printed, printable}

abbrev beginning : Waiting
beginning = waits [] false start

-- the tree of tokens from the start
from_start : (ts : List Token) → result_ok (grown_from 0 beginning ts true) ≡ result_ok (grow start (trimmed false ts))
from_start ts = grown_trimmed 0 beginning ts ∙ ap (λ b. result_ok (grow start (text_if_any b (trimmed false ts)))) (no_run (dashed ts))

ok_of : (r : Result Nodes TemplateFault) (tree : Nodes) → result_ok r ≡ Some tree → r ≡ Ok tree
ok_of (Ok other) tree e = let same : other ≡ tree = cc in ap Ok same
ok_of (Err fault) tree e = let no : ⊥ = cc in absurd no

-- a tree of a text grows from it
pub complete : (bytes : Bytes) (tree : Nodes) → IsTemplate bytes tree → read_tree bytes ≡ Ok tree
unfolding read_tree
complete bytes tree h =
    let whole : cut bytes ≡ (h.tokens, true) = ap cut h.spelled ∙ spelled_cut h.tokens h.proper h.apart in
    let P : Cuts → Type 0 = λ c. grown_from 0 beginning c.0 c.1 ≡ Ok tree in
    subst P (sym whole) (ok_of _ tree (from_start h.tokens ∙ ap (λ ps. result_ok (grow start ps)) h.built ∙ ap result_ok (grow_tree tree h.shallow)))

abbrev Never : Result Nodes TemplateFault → Type 0
Never r = IfOk r (λ _. ⊥)

never_on : (right : Bool) (r : Result State TemplateFault) (f : Waiting → Result Nodes TemplateFault) → ((w : Waiting) → Never (f w)) → Never (grown_on f (waits_if right r))
never_on right (Ok st) f h = h (waits [] right st)
never_on right (Err fault) f h = tt

-- no tree grows where no token stands
never : (p : ℕ) (w : Waiting) (ts : List Token) → Never (grown_from p w ts false)
never p w [] = tt
never p w (text bytes ∷ ts) = never (p + length (token_text (text bytes))) (waits (trim_start_if w.after bytes) false (flushed false w)) ts
never p w (dollar ∷ ts) = never (p + length (token_text dollar)) (waits [] false (with_node dollar_node (flushed false w))) ts
never p w (tag left word right ∷ ts) = never_on right (word_step p word (flushed left w)) _ (λ next. never (p + length (token_text (tag left word right))) next ts)

whole_if : (ts : List Token) (whole : Bool) (tree : Nodes) → grown_from 0 beginning ts whole ≡ Ok tree → whole ≡ true
whole_if ts true tree e = refl
whole_if ts false tree e = absurd (let P : Result Nodes TemplateFault → Type 0 = λ r. Never r in subst P e (never 0 beginning ts))

-- what grows from a text is a tree of it
pub sound : (bytes : Bytes) (tree : Nodes) → read_tree bytes ≡ Ok tree → IsTemplate bytes tree
unfolding read_tree
sound bytes tree e =
    let ts : List Token = (cut bytes).0 in
    let whole : (cut bytes).1 ≡ true = whole_if ts (cut bytes).1 tree e in
    let s : Spelled bytes ts = cut_spelled bytes whole in
    let grew : grow start (trimmed false ts) ≡ Ok tree = ok_of _ tree (sym (from_start ts) ∙ ap (λ b. result_ok (grown_from 0 beginning ts b)) (sym whole) ∙ ap result_ok e) in
    let T : Result Nodes TemplateFault → Type 0 = λ r. IfOk r (λ t. nodes_tokens t ≡ trimmed false ts) in
    let D : Result Nodes TemplateFault → Type 0 = λ r. IfOk r (λ t. nodes_depth t ≤ 64) in
    record {
      tokens = ts;
      spelled = s.spelled;
      proper = s.proper;
      apart = s.apart;
      built = sym (subst T grew (grow_tokens start (trimmed false ts)));
      shallow = subst D grew (grow_shallow (trimmed false ts));
    }

-- the fault of what grows is the first one
pub faults : (bytes : Bytes) → result_err (read_tree bytes) ≡ first_fault bytes
unfolding read_tree first_fault
faults bytes = grown_fault 0 beginning (cut bytes).0 (cut bytes).1

pub one_tree : OneTree
one_tree bytes a b h g = let x : read_tree bytes ≡ Ok a = complete bytes a h in let y : read_tree bytes ≡ Ok b = complete bytes b g in cc

pub reads_again : ReadsAgain
reads_again = printed

pub only_tree : (bytes : Bytes) (tree : Nodes) → read_tree bytes ≡ Ok tree → IsOnlyTree bytes tree
only_tree bytes tree e = record {
  grammar = sound bytes tree e;
  only = λ other h. one_tree bytes other tree h (sound bytes tree e);
  printable = printable bytes tree (sound bytes tree e);
  faultless = sym (faults bytes) ∙ ap result_err e;
}

pub faulty : (bytes : Bytes) (fault : TemplateFault) → read_tree bytes ≡ Err fault → IsFaulty bytes fault
faulty bytes fault e = record {
  no_tree = λ tree h. let x : read_tree bytes ≡ Ok tree = complete bytes tree h in let no : ⊥ = cc in no;
  first = sym (faults bytes) ∙ ap result_err e;
}

tree_or_fault_by : (bytes : Bytes) (r : Result Nodes TemplateFault) → read_tree bytes ≡ r → (first_fault bytes ≡ None → (tree : Nodes) × IsTemplate bytes tree) × ((fault : TemplateFault) → first_fault bytes ≡ Some fault → (tree : Nodes) → IsTemplate bytes tree → ⊥)
tree_or_fault_by bytes (Ok tree) e = (λ _. (tree, sound bytes tree e), λ fault f other h. let x : first_fault bytes ≡ None = sym (faults bytes) ∙ ap result_err e in let no : ⊥ = cc in no)
tree_or_fault_by bytes (Err fault) e = (λ f. let x : first_fault bytes ≡ Some fault = sym (faults bytes) ∙ ap result_err e in absurd (let no : ⊥ = cc in no), λ other f tree h. (faulty bytes fault e).no_tree tree h)

pub tree_or_fault : TreeOrFault
tree_or_fault bytes = tree_or_fault_by bytes (read_tree bytes) refl

-- what grows is what reading answers
pub parsed : (bytes : Bytes) (r : Result Template (Refusal TemplateFault)) → Grows (read_tree bytes) r → Parses bytes r
parsed bytes (Ok t) e = only_tree bytes t e
parsed bytes (Err (Fault fault)) e = faulty bytes fault e
parsed bytes (Err NoMemory) e = tt

-- a printable tree is the one tree of its text
pub again : (bytes : Bytes) (tree : Nodes) → bytes ≡ tree_text tree → IsPrintable tree → IsOnlyTree bytes tree
again bytes tree e h = only_tree bytes tree (complete bytes tree (let P : Bytes → Type 0 = λ t. IsTemplate t tree in subst P (sym e) (printed tree h)))

fault_of_first : (bytes : Bytes) (fault : TemplateFault) (r : Result Nodes TemplateFault) → read_tree bytes ≡ r → first_fault bytes ≡ Some fault → r ≡ Err fault
fault_of_first bytes fault (Ok tree) e f = let x : first_fault bytes ≡ None = sym (faults bytes) ∙ ap result_err e in let no : ⊥ = cc in absurd no
fault_of_first bytes fault (Err other) e f = let x : first_fault bytes ≡ Some other = sym (faults bytes) ∙ ap result_err e in let same : other ≡ fault = cc in ap Err same

pub as_function : AsFunction
as_function bytes = (complete bytes, sound bytes, λ fault f. fault_of_first bytes fault (read_tree bytes) refl f, λ fault e. (faulty bytes fault e).first)
