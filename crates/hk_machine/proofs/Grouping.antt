-- Pages that are joined_pages.
use Rattle.std.proofs.Common.{◌≡◌, sym, ap, ◌∙◌, subst, ℕ, ◌<◌, List, [], ◌∷◌, append-nil, length, map, Option, Some, None, Ok, Err}
use Rattle.hk_base.specs.Bytes.{Bytes}
use Rattle.hk_chain.specs.declared.page.Page.{Page}
use Rattle.hk_chain.specs.declared.fault.Fault.TheVariants.{WrongKind}
use Rattle.hk_chain.specs.Facts.{FactsView}
use Rattle.hk_fix.specs.Pages.{Pages, lacking}
use Rattle.hk_fix.specs.Task.{notes, used, ◌▷◌, note, done, fault, waits, Run, run, onward}
use Rattle.hk_rules.specs.Plan.{Lookups}
use Rattle.hk_eval.specs.Asking.{text_page, ask_group, other_kind}
use Rattle.hk_eval.specs.Groups.{told_page}
use Rattle.hk_eval.specs.Laws.{quiet-bind, quiet-group}
use Rattle.hk_eval.specs.Noted.{with_group, with_pattern}
use Rattle.hk_eval.specs.Quiet.{Quiet}
use Rattle.hk_eval.proofs.Grouping.{group_log, group-runs, group-waits, group-noted}
use Rattle.hk_machine.specs.Acting.{Given}
use Rattle.hk_machine.specs.Chain.{joined_by, joined_pages}
use Rattle.hk_machine.specs.Groups.{bodies, joined_of}
use Rattle.hk_machine.specs.Laws.{quiet-joined}

-- a pattern's items whose pages are told

module _ (plan : Lookups) (k : Pages) (n : ℕ) (items ps : List ℕ) where
  pub concat-quiet : Quiet (notes (used n) (ask_group ps ▷ joined_pages plan items))
  concat-quiet = quiet-bind (joined_pages plan items) (ask_group ps) (quiet-group ps) (λ xs. quiet-joined plan xs (other_kind items xs))

  pub concat-waits : (l : List ℕ) → l ≡ lacking k ps → 0 < length l → (run (notes (used n) (ask_group ps ▷ joined_pages plan items)) k).end ≡ waits l
  concat-waits l e lt = group-waits k ps (joined_pages plan items) (subst (λ (x : List ℕ). 0 < length x) e lt) ∙ ap waits (sym e)

  module _ (none : lacking k ps ≡ []) where
    pub concat-given : (body : Bytes) (old one new : FactsView) → Ok body ≡ joined_of (map (told_page k) ps) (other_kind items (map (told_page k) ps)) → one ≡ with_pattern old n → new ≡ with_group one ps → Given k (notes (used n) (ask_group ps ▷ joined_pages plan items)) old (text_page body) new
    concat-given body old one new e p g =
        record {
          log = note (used n) ∷ group_log ps;
          quiet = concat-quiet;
          notes = g ∙ (ap (λ f. with_group f ps) p ∙ sym (group-noted (with_pattern old n) ps));
          is = ap (onward (note (used n) ∷ [])) (group-runs k ps (joined_pages plan items) none ∙ ap (onward (group_log ps)) (at (other_kind items (map (told_page k) ps)) e)) ∙ ap (λ l. (let r : Run Page = record { log = note (used n) ∷ l; end = done (text_page body) } in r)) (append-nil (group_log ps));
        }
      where
        at : (o : Option ℕ) → Ok body ≡ joined_of (map (told_page k) ps) o → run (joined_by plan (map (told_page k) ps) o) k ≡ (let r : Run Page = record { log = []; end = done (text_page body) } in r)
        at None w = let s : bodies (map (told_page k) ps) ≡ body = cc in ap (λ b. (let r : Run Page = record { log = []; end = done (text_page b) } in r)) s
        at (Some i) w = cc

    pub concat-fails : (i : ℕ) → Err i ≡ joined_of (map (told_page k) ps) (other_kind items (map (told_page k) ps)) → (run (notes (used n) (ask_group ps ▷ joined_pages plan items)) k).end ≡ fault (WrongKind (plan.id i))
    concat-fails i e = ap (λ (r : Run Page). r.end) (group-runs k ps (joined_pages plan items) none) ∙ at (other_kind items (map (told_page k) ps)) e
      where
        at : (o : Option ℕ) → Err i ≡ joined_of (map (told_page k) ps) o → (run (joined_by plan (map (told_page k) ps) o) k).end ≡ fault (WrongKind (plan.id i))
        at None w = cc
        at (Some j) w = let s : j ≡ i = cc in ap (λ x. fault (WrongKind (plan.id x))) s

    pub other-is : (i : ℕ) → Err i ≡ joined_of (map (told_page k) ps) (other_kind items (map (told_page k) ps)) → other_kind items (map (told_page k) ps) ≡ Some i
    other-is i e = at (other_kind items (map (told_page k) ps)) e
      where
        at : (o : Option ℕ) → Err i ≡ joined_of (map (told_page k) ps) o → o ≡ Some i
        at None w = cc
        at (Some j) w = let s : j ≡ i = cc in ap Some s
