-- What tasks come to that ask for a group or for one page, once that is told.
use Rattle.std.proofs.Common.{◌≡◌, refl, sym, ap, ◌∙◌, subst, ℕ, ◌<◌, false, List, [], ◌∷◌, append-nil, length, map, Option, Some, None, Result, Ok, Err}
use Rattle.hk_base.specs.Bytes.{Bytes}
use Rattle.hk_base.specs.Identifier.{Ident}
use Rattle.hk_chain.specs.Facts.{FactsView}
use Rattle.hk_chain.specs.declared.fault.Fault.{Fault}
use Rattle.hk_chain.specs.declared.fault.Fault.TheVariants.{Missing, NoSnapshot}
use Rattle.hk_chain.specs.declared.page.Kind.{Kind}
use Rattle.hk_chain.specs.declared.page.Kind.TheVariants as kinds
use Rattle.hk_chain.specs.declared.page.Page.{Page}
use Rattle.hk_fix.specs.Pages.{Pages, lacking}
use Rattle.hk_fix.specs.Run.{is_wait}
use Rattle.hk_fix.specs.Task.{Task, notes, used, ◌▷◌, Mark, asked, note, End, done, fault, waits, Run, run, onward}
use Rattle.hk_chain.specs.Names.{final_name}
use Rattle.hk_rules.specs.Plan.{Lookups}
use Rattle.hk_template.specs.Growing.{read_tree}
use Rattle.hk_template.specs.Tree.{Nodes}
use Rattle.hk_template.specs.declared.fault.TemplateFault.{TemplateFault}
use Rattle.hk_eval.specs.Asking.{first_page, ask_pair, ask_item, pairs_of, ask_group, ask_found, other_kind}
use Rattle.hk_eval.specs.Groups.{told_page}
use Rattle.hk_eval.specs.Lists.{places_of, ordered, limited_task, places_by, places_task, list_task}
use Rattle.hk_eval.specs.Noted.{noted, with_group, with_pattern}
use Rattle.hk_eval.specs.Replies.{Comes}
use Rattle.hk_eval.specs.Templates.{tree_by, template_by, need_template, template_task}
use Rattle.hk_eval.specs.Value.{Listing}
use Rattle.hk_eval.specs.declared.place.Place.{Place}
use Rattle.hk_eval.proofs.Grouping.{group_log, group-runs, group-waits, group-noted}

-- a run that doesn't wait, whose marks were noted
pub comes-noted : {A : Type 0} (k : Pages) (t : Task A) (old new : FactsView) (log : List Mark) (e : End A) → run t k ≡ record { log = log; end = e } → is_wait e ≡ false → new ≡ noted old log → Comes k t old e new
comes-noted k t old new log (done x) is over noted = (log, is, noted)
comes-noted {A} k t old new log (fault e) is over noted = ap (λ (r : Run A). r.end) is
comes-noted k t old new log (waits ps) is over noted = cc

-- ---- tasks that never wait

limited-over : (plan : Lookups) (limit : Option ℕ) (r : Result (List Place) ℕ) (k : Pages) → is_wait (run (limited_task plan limit r) k).end ≡ false
limited-over plan limit (Ok places) k = refl
limited-over plan limit (Err item) k = refl

places-over : (plan : Lookups) (l : Listing) (places : List Place) (o : Option ℕ) (k : Pages) → is_wait (run (places_by plan l places o) k).end ≡ false
places-over plan l places None k = limited-over plan l.limit (ordered plan l.order places) k
places-over plan l places (Some item) k = refl

tree-over : (r : Result Nodes TemplateFault) (k : Pages) → is_wait (run (tree_by r) k).end ≡ false
tree-over (Ok tree) k = refl
tree-over (Err bad) k = refl

kind-over : (id : Ident) (kind : Kind) (body : Bytes) (k : Pages) → is_wait (run (template_by id kind body) k).end ≡ false
kind-over id kinds.Text body k = refl
kind-over id kinds.Template body k = tree-over (read_tree body) k
kind-over id kinds.File body k = refl

-- ---- a list whose pages are told

module _ (plan : Lookups) (k : Pages) (l : Listing) (items ps : List ℕ) (old : FactsView) where
  pub list-made : (one new : FactsView) (e : End (List Place)) → lacking k ps ≡ [] → run (places_task plan l items (map (told_page k) ps)) k ≡ record { log = []; end = e } → one ≡ with_pattern old l.pattern → new ≡ with_group one ps → Comes k (notes (used l.pattern) (ask_group ps ▷ places_task plan l items)) old e new
  list-made one new e none is p g =
      let log : List Mark = note (used l.pattern) ∷ group_log ps in
      let runs : run (notes (used l.pattern) (ask_group ps ▷ places_task plan l items)) k ≡ record { log = log; end = e } =
      ap (onward (note (used l.pattern) ∷ [])) (group-runs k ps (places_task plan l items) none ∙ ap (onward (group_log ps)) is)
      ∙ ap (λ m. record { log = note (used l.pattern) ∷ m; end = e }) (append-nil (group_log ps)) in
      let over : is_wait e ≡ false = ap (λ (r : Run (List Place)). is_wait r.end) (sym is) ∙ places-over plan l (places_of l.context items (map (told_page k) ps)) (other_kind items (map (told_page k) ps)) k in
      comes-noted k (notes (used l.pattern) (ask_group ps ▷ places_task plan l items)) old new log e runs over (g ∙ (ap (λ f. with_group f ps) p ∙ sym (group-noted (with_pattern old l.pattern) ps)))

  pub list-waits : (lacks : List ℕ) → lacks ≡ lacking k ps → 0 < length lacks → Comes k (notes (used l.pattern) (ask_group ps ▷ places_task plan l items)) old (waits lacks) old
  list-waits lacks e lt = (group-waits k ps (places_task plan l items) (subst (λ (x : List ℕ). 0 < length x) e lt) ∙ ap waits (sym e), refl)

-- ---- a template whose page is told

module _ (k : Pages) (id : Ident) (missing : Fault) (p : ℕ) (old : FactsView) where
  pub template-made : (x : Page) (new : FactsView) (e : End Nodes) → k p ≡ Some x → run (need_template id x) k ≡ record { log = []; end = e } → new ≡ with_group old (p ∷ []) → Comes k (ask_pair missing (Some p) ▷ need_template id) old e new
  template-made x new e at is noted =
      let f : List Page → Run Nodes = λ xs. run (need_template id (first_page xs)) k in
      let runs : run (ask_pair missing (Some p) ▷ need_template id) k ≡ record { log = asked (p ∷ []) ∷ []; end = e } = rw at (ap (onward (asked (p ∷ []) ∷ [])) is) in
      comes-noted k (ask_pair missing (Some p) ▷ need_template id) old new (asked (p ∷ []) ∷ []) e runs (ap (λ (r : Run Nodes). is_wait r.end) (sym is) ∙ kind-over id x.kind x.body k) noted

  pub template-waits : k p ≡ None → Comes k (ask_pair missing (Some p) ▷ need_template id) old (waits (p ∷ [])) old
  template-waits at = (rw at refl, refl)

-- ---- the pairs that are asked for

-- the pairs of a list's items are known
pub list-pairs : (plan : Lookups) (l : Listing) (items ps : List ℕ) → items ≡ plan.matches l.pattern → pairs_of plan l.snapshot items ≡ Ok ps → list_task plan l ≡ notes (used l.pattern) (ask_group ps ▷ places_task plan l items)
unfolding list_task
list-pairs plan l items ps e p =
    ap (λ is. notes (used l.pattern) (ask_found plan l.snapshot (pairs_of plan l.snapshot is) ▷ places_task plan l is)) (sym e)
    ∙ ap (λ r. notes (used l.pattern) (ask_found plan l.snapshot r ▷ places_task plan l items)) p

-- an item has no such pair
pub list-lacks : (plan : Lookups) (l : Listing) (items : List ℕ) (i : ℕ) (k : Pages) → items ≡ plan.matches l.pattern → pairs_of plan l.snapshot items ≡ Err i → (run (list_task plan l) k).end ≡ fault (NoSnapshot (plan.id i) l.snapshot)
unfolding list_task
list-lacks plan l items i k e p =
    ap (λ is. (run (notes (used l.pattern) (ask_found plan l.snapshot (pairs_of plan l.snapshot is) ▷ places_task plan l is)) k).end) (sym e)
    ∙ ap (λ r. (run (notes (used l.pattern) (ask_found plan l.snapshot r ▷ places_task plan l items)) k).end) p

module _ (plan : Lookups) (id : Ident) where
  -- the pair of a template is known
  pub template-pair : (item p : ℕ) → plan.find id ≡ Some item → plan.pair item final_name ≡ Some p → template_task plan id ≡ ask_pair (NoSnapshot id final_name) (Some p) ▷ need_template id
  unfolding template_task
  template-pair item p f e = ap (λ o. ask_item plan id final_name o ▷ need_template id) f ∙ ap (λ o. ask_pair (NoSnapshot id final_name) o ▷ need_template id) e

  -- there is no such item, or it has no such pair
  pub template-missing : (k : Pages) → plan.find id ≡ None → (run (template_task plan id) k).end ≡ fault (Missing id)
  unfolding template_task
  template-missing k f = ap (λ o. (run (ask_item plan id final_name o ▷ need_template id) k).end) f

  pub template-lacks : (item : ℕ) (k : Pages) → plan.find id ≡ Some item → plan.pair item final_name ≡ None → (run (template_task plan id) k).end ≡ fault (NoSnapshot id final_name)
  unfolding template_task
  template-lacks item k f e = ap (λ o. (run (ask_item plan id final_name o ▷ need_template id) k).end) f ∙ ap (λ o. (run (ask_pair (NoSnapshot id final_name) o ▷ need_template id) k).end) e
