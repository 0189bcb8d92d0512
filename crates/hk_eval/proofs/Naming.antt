-- The templates that trees name, and frames whose places are a plan's.
use Rattle.std.proofs.Common.{◌≡◌, refl, sym, ap, ◌∙◌, subst, arith, ℕ, zero, suc, ◌+◌, ◌<◌, Bool, true, false, ◌&&◌, List, [], ◌∷◌, ◌++◌, length, get_or, Option, Some, None}
use Rattle.std.specs.List.{AllByRecursion, list_all}
use Rattle.std.proofs.lemmas.List.Folds.{list_all-append}
use Rattle.hk_base.specs.Bytes.{Bytes}
use Rattle.hk_rules.specs.PlanView.{PlanView}
use Rattle.hk_template.specs.Key.{is_partial_path}
use Rattle.hk_template.specs.Template.{IsPrintable, is_plain_token}
use Rattle.hk_template.specs.Token.{else_, endif, endfor, sep, if_, for_, partial}
use Rattle.hk_template.specs.Tree.{Node, Nodes, text_node, dollar_node, key_node, if_node, if_else_node, for_node, for_sep_node, partial_node, no_nodes, node, node_tokens, nodes_tokens, Plain, plain_tag}
use Rattle.hk_eval.specs.Blocks.{block_nodes, if_of, for_of, nodes_from, nodes_or_none}
use Rattle.hk_eval.specs.Making.{Repeats}
use Rattle.hk_eval.specs.Within.{NameTemplates, NamesTemplate, IsPlaceOf, IsRepeatOf, IsFrameOf, AreFramesOf}
use Rattle.hk_eval.specs.declared.frame.Frame.{Frame}
use Rattle.hk_eval.specs.declared.frame.Repeat.{Repeat}
use Rattle.hk_eval.specs.declared.place.Place.{Place}

left-true : (a b : Bool) → (a && b) ≡ true → a ≡ true
left-true true b h = refl
left-true false b h = h

right-true : (a b : Bool) → (a && b) ≡ true → b ≡ true
right-true true b h = h
right-true false b h = cc

abbrev Proper : List Plain → Type 0
Proper ps = list_all is_plain_token ps ≡ true

front : (a b : List Plain) → Proper (a ++ b) → Proper a
front a b h = left-true (list_all is_plain_token a) (list_all is_plain_token b) (sym (list_all-append is_plain_token a b) ∙ h)

back : (a b : List Plain) → Proper (a ++ b) → Proper b
back a b h = right-true (list_all is_plain_token a) (list_all is_plain_token b) (sym (list_all-append is_plain_token a b) ∙ h)

later : (p : Plain) (ps : List Plain) → Proper (p ∷ ps) → Proper ps
later p ps h = right-true (is_plain_token p) (list_all is_plain_token ps) h

mutual
  node_names : (n : Node) → Proper (node_tokens n) → NamesTemplate n
  node_names (text_node bytes) h = tt
  node_names dollar_node h = tt
  node_names (key_node k) h = tt
  node_names (if_node k first) h = nodes_name first (front (nodes_tokens first) (plain_tag endif ∷ []) (later (plain_tag (if_ k)) (nodes_tokens first ++ plain_tag endif ∷ []) h))
  node_names (if_else_node k first second) h =
      let rest : List Plain = nodes_tokens second ++ plain_tag endif ∷ [] in
      let both : Proper (nodes_tokens first ++ plain_tag else_ ∷ rest) = later (plain_tag (if_ k)) (nodes_tokens first ++ plain_tag else_ ∷ rest) h in (
        nodes_name first (front (nodes_tokens first) (plain_tag else_ ∷ rest) both),
        nodes_name second (front (nodes_tokens second) (plain_tag endif ∷ []) (later (plain_tag else_) rest (back (nodes_tokens first) (plain_tag else_ ∷ rest) both))),
      )
  node_names (for_node k first) h = nodes_name first (front (nodes_tokens first) (plain_tag endfor ∷ []) (later (plain_tag (for_ k)) (nodes_tokens first ++ plain_tag endfor ∷ []) h))
  node_names (for_sep_node k first second) h =
      let rest : List Plain = nodes_tokens second ++ plain_tag endfor ∷ [] in
      let both : Proper (nodes_tokens first ++ plain_tag sep ∷ rest) = later (plain_tag (for_ k)) (nodes_tokens first ++ plain_tag sep ∷ rest) h in (
        nodes_name first (front (nodes_tokens first) (plain_tag sep ∷ rest) both),
        nodes_name second (front (nodes_tokens second) (plain_tag endfor ∷ []) (later (plain_tag sep) rest (back (nodes_tokens first) (plain_tag sep ∷ rest) both))),
      )
  node_names (partial_node path) h = left-true (is_partial_path path) true h

  nodes_name : (ns : Nodes) → Proper (nodes_tokens ns) → NameTemplates ns
  nodes_name no_nodes h = tt
  nodes_name (node n ns) h = (node_names n (front (node_tokens n) (nodes_tokens ns) h), nodes_name ns (back (node_tokens n) (nodes_tokens ns) h))

-- a tree that can be printed names only paths that can stand in a template
pub printable-names : (tree : Nodes) → IsPrintable tree → NameTemplates tree
printable-names tree h = nodes_name tree h.proper

-- those of a part of a tree
pub names-from : (at : ℕ) (ns : Nodes) → NameTemplates ns → NameTemplates (nodes_from at ns)
names-from zero ns h = h
names-from (suc at) no_nodes h = tt
names-from (suc at) (node n ns) h = names-from at ns h.1

pub names-at : (at : ℕ) (ns : Nodes) (n : Node) (rest : Nodes) → NameTemplates ns → nodes_from at ns ≡ node n rest → NamesTemplate n
names-at at ns n rest h e = let w : NameTemplates (node n rest) = subst NameTemplates e (names-from at ns h) in w.0

pub names-if : (key : Bytes) (first : Nodes) (second : Option Nodes) → NamesTemplate (if_of key first second) → NameTemplates first × NameTemplates (nodes_or_none second)
names-if key first None h = (h, tt)
names-if key first (Some second) h = h

pub names-for : (key : Bytes) (each : Nodes) (between : Option Nodes) → NamesTemplate (for_of key each between) → NameTemplates each × NameTemplates (nodes_or_none between)
names-for key each None h = (h, tt)
names-for key each (Some between) h = h

pub repeat-within : (plan : PlanView) (r : Repeat) (each between : Nodes) (levels : ℕ) (here : Place) → Repeats r each between levels here → NameTemplates each → NameTemplates between → IsPlaceOf plan here → IsRepeatOf plan r
repeat-within plan r each between levels here s a b p =
    (subst NameTemplates (sym s.nodes) a, subst NameTemplates (sym s.apart) b, subst (IsPlaceOf plan) (sym s.at) p)

-- one frame more, and the last frame
module _ {A : Type 0} (P : A → Type 0) where
  pub all-snoc : (xs : List A) (x : A) → AllByRecursion P xs → P x → AllByRecursion P (xs ++ x ∷ [])
  all-snoc [] x h p = (p, tt)
  all-snoc (y ∷ xs) x h p = (h.0, all-snoc xs x h.1 p)

  pub all-front : (xs : List A) (x : A) → AllByRecursion P (xs ++ x ∷ []) → AllByRecursion P xs
  all-front [] x h = tt
  all-front (y ∷ xs) x h = (h.0, all-front xs x h.1)

  pub all-last : (xs : List A) (x : A) → AllByRecursion P (xs ++ x ∷ []) → P x
  all-last [] x h = h.0
  all-last (y ∷ xs) x h = all-last xs x h.1

  pub all-at : (xs : List A) (i : ℕ) (x : A) → i < length xs → x ≡ get_or xs i x → AllByRecursion P xs → P x
  all-at [] i x lt e h = absurd (omega arith)
  all-at (y ∷ xs) zero x lt e h = subst P (sym e) h.0
  all-at (y ∷ xs) (suc i) x lt e h = all-at xs i x (omega arith) e h.1
