-- An item whose entry is its own is kept where nothing that it asked for changed.
use Rattle.std.proofs.Common.{◌≡◌, refl, sym, ap, ◌∙◌, ℕ, ◌<◌, Bool, true, false, cond, ◌&&◌, List, [], ◌∷◌, ◌++◌, Option, Some, None, bytes_eq, lt-ltb}
use Rattle.std.specs.List.{list_all}
use Rattle.std.proofs.lemmas.List.Folds.{list_all-append}
use Rattle.hk_base.specs.Identifier.{Ident}
use Rattle.hk_chain.specs.declared.page.Page.{Page}
use Rattle.hk_fix.specs.Pages.{Pages, lacking, with_page, all_pages}
use Rattle.hk_fix.specs.Task.{gives, run, answered}
use Rattle.hk_fix.specs.Deeds.{pair_or}
use Rattle.hk_fix.specs.Table.{Table}
use Rattle.hk_store.specs.Digests.{Digests}
use Rattle.hk_store.specs.Entry.{AskView, MarkView, asked as recorded, stored, EntryView}
use Rattle.hk_reuse.specs.Entries.{Entries, front, last_page, asked_views, LastSaves}
use Rattle.hk_reuse.specs.Fits.{ask_fits, mark_fits, is_own}
use Rattle.hk_reuse.specs.Kept.{is_through, kept_among, has_digest, is_unchanged, asks_unchanged}
use Rattle.hk_reuse.specs.Replay.{broke, same_pages, asked_pairs, attempt}
use Rattle.hk_reuse.specs.Site.{pair_named, Items}

both-first : (a b c d : Bool) → ((a && b) && (c && d)) ≡ ((a && c) && (b && d))
both-first true true true d = refl
both-first true true false d = refl
both-first true false true d = refl
both-first true false false d = refl
both-first false b c d = refl

all-both : {A : Type 0} (f g : A → Bool) (xs : List A) → list_all (λ x. f x && g x) xs ≡ (list_all f xs && list_all g xs)
all-both f g [] = refl
all-both f g (x ∷ xs) = ap (λ b. (f x && g x) && b) (all-both f g xs) ∙ both-first (f x) (g x) (list_all f xs) (list_all g xs)

module _ (dig : Digests) (table : Table) (k : Pages) where
  abbrev is_same : AskView → Bool
  is_same v = has_digest dig (k (pair_or table v.key)) v.page

  abbrev answers_same : List AskView → Option (List Page) → Bool
  answers_same views None = false
  answers_same views (Some xs) = same_pages dig xs views

  -- the pages of a group are there with the recorded digests
  group-same : (views : List AskView) → answers_same views (all_pages k (asked_pairs table views)) ≡ list_all is_same views
  group-same [] = refl
  group-same (v ∷ views) = at (k (pair_or table v.key)) (all_pages k (asked_pairs table views)) (group-same views)
    where
      none : (b : Bool) → false ≡ b → false ≡ (true && b)
      none b e = e

      at : (o : Option Page) (q : Option (List Page)) → answers_same views q ≡ list_all is_same views → answers_same (v ∷ views) (with_page o q) ≡ (has_digest dig o v.page && list_all is_same views)
      at None q e = refl
      at (Some x) None e = last (bytes_eq (dig.page x) v.page) (list_all is_same views) e
        where
          last : (a b : Bool) → false ≡ b → false ≡ (a && b)
          last true b e = e
          last false b e = refl
      at (Some x) (Some xs) e = ap (λ b. bytes_eq (dig.page x) v.page && b) e

  module _ (own : Ident) (x : Page) where
    through-if : (kept : List ℕ) (marks : List MarkView) (b : Bool)
        → is_through (run (cond b (attempt dig table own x kept marks) (gives (broke kept))) k).end ≡ (b && is_through (run (attempt dig table own x kept marks) k).end)
    through-if kept marks true = refl
    through-if kept marks false = refl

    through-group : (kept : List ℕ) (marks : List MarkView) (views : List AskView) (ps : List ℕ) (o : Option (List Page))
        → is_through (answered ps (lacking k ps) (λ xs. run (cond (same_pages dig xs views) (attempt dig table own x kept marks) (gives (broke kept))) k) o).end
        ≡ (answers_same views o && is_through (run (attempt dig table own x kept marks) k).end)
    through-group kept marks views ps None = refl
    through-group kept marks views ps (Some xs) = through-if kept marks (same_pages dig xs views)

    goes-through : (marks : List MarkView) (kept : List ℕ)
        → (list_all (mark_fits dig table) marks && is_through (run (attempt dig table own x kept marks) k).end) ≡ list_all (is_unchanged dig table k) (asked_views marks)
    goes-through [] kept = refl
    goes-through (recorded views ∷ marks) kept =
        let fit = list_all (ask_fits dig table) views in
        let rest = list_all (mark_fits dig table) marks in
        let through = is_through (run (attempt dig table own x kept marks) k).end in
        ap (λ b. (fit && rest) && b) (through-group kept marks views (asked_pairs table views) (all_pages k (asked_pairs table views)) ∙ ap (λ b. b && through) (group-same views))
        ∙ (both-first fit rest (list_all is_same views) through
        ∙ (ap (λ b. b && (rest && through)) (sym (all-both (ask_fits dig table) is_same views))
        ∙ (ap (λ b. list_all (is_unchanged dig table k) views && b) (goes-through marks kept) ∙ sym (list_all-append (is_unchanged dig table k) views (asked_views marks)))))
    goes-through (stored name page ∷ marks) kept = goes-through marks (pair_named table own name ∷ kept)

-- the last mark asks for nothing
front-asks : (marks : List MarkView) → LastSaves marks → asked_views marks ≡ asked_views (front marks)
front-asks [] h = absurd h
front-asks (recorded views ∷ []) h = absurd h
front-asks (stored name page ∷ []) h = refl
front-asks (recorded views ∷ m ∷ marks) h = ap (λ l. views ++ l) (front-asks (m ∷ marks) h)
front-asks (stored name page ∷ m ∷ marks) h = front-asks (m ∷ marks) h

front-fits : (dig : Digests) (table : Table) (marks : List MarkView) → LastSaves marks → list_all (mark_fits dig table) marks ≡ list_all (mark_fits dig table) (front marks)
front-fits dig table [] h = absurd h
front-fits dig table (recorded views ∷ []) h = absurd h
front-fits dig table (stored name page ∷ []) h = refl
front-fits dig table (m ∷ n ∷ marks) h = ap (λ b. mark_fits dig table m && b) (front-fits dig table (n ∷ marks) h)

pub kept-if_unchanged : (dig : Digests) (items : Items) (entries : Entries) (k : Pages) (i : ℕ) (e : EntryView) → i < items.table.layout.items
    → entries (items.id i) ≡ Some e → LastSaves e.marks → is_own dig items i e ≡ true → kept_among dig items k entries i ≡ asks_unchanged dig items.table k e
kept-if_unchanged dig items entries k i e lt had last own =
    rw (lt-ltb i items.table.layout.items lt, had, own, front-fits dig items.table e.marks last, front-asks e.marks last)
    (goes-through dig items.table k (items.id i) (last_page e.marks) (front e.marks) [])
