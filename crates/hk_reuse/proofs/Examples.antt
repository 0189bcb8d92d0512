-- The two items are a site, whatever the text of the first, and two of these sites are apart.
use Rattle.std.proofs.Common.{◌≡◌, ◌≢◌, refl, sym, ap, ◌∙◌, subst, arith, ℕ, zero, suc, ◌<◌, ◌≤◌, Bool, true, false, cond, List, [], ◌∷◌, Option, Some, None, is_some, bytes_eq}
use Rattle.std.specs.List.{AllByRecursion, IsDistinct}
use Rattle.std.specs.Ordering.{eq_by_cmp}
use Rattle.hk_base.specs.Bytes.{Bytes}
use Rattle.hk_base.specs.Identifier.{Ident, ident_cmp}
use Rattle.hk_base.specs.IdentTies.{idents-same}
use Rattle.hk_base.specs.Ties.{bytes-same}
use Rattle.hk_chain.specs.declared.page.Page.{Page}
use Rattle.hk_chain.specs.declared.page.Kind.{Kind}
use Rattle.hk_chain.specs.declared.page.Kind.TheVariants as kinds
use Rattle.hk_chain.specs.Layout.{IsShape, item_of, final_of}
use Rattle.hk_chain.specs.Snapshots.{AreSnapshots}
use Rattle.hk_fix.specs.Deed.{answers, interpret, IsProper}
use Rattle.hk_fix.specs.Pages.{Pages, lacking, with_page}
use Rattle.hk_fix.specs.Run.{patterns_of}
use Rattle.hk_fix.specs.Task.{run, answered}
use Rattle.hk_fix.specs.Deeds.{on_way}
use Rattle.hk_fix.specs.Fix.{fix, status, waiting}
use Rattle.hk_fix.specs.Table.{Key, no_traits, IsTable}
use Rattle.hk_reuse.specs.Example.{loaded, first_id, second_id, id_at, find, pair_of, table, text_page, deed_at, text_at, site, kind_code, digests, page_text, same_page_text, other_page_text, entries}
use Rattle.hk_reuse.specs.Kept.{outdated}
use Rattle.hk_reuse.specs.Rebuilt.{rebuilt, reendings, ArePlansApart}
use Rattle.hk_reuse.specs.Site.{clean_run, IsSite, UsesItsOwn}
use Rattle.hk_chain.specs.Names.{final_name}

shape : IsShape table.layout
shape =
    record {
      in_items = λ p lt. items p lt;
      in_order = λ p q le lt. order p q le lt;
      finals = refl;
      in_pairs = λ i lt. finals i lt;
      own_final = λ i lt. owns i lt;
      final_last = λ p lt. last p lt;
    }
  where
    items : (p : ℕ) → p < 2 → item_of table.layout p < 2
    items zero lt = omega arith
    items (suc zero) lt = omega arith
    items (suc (suc p)) lt = absurd (omega (arith, lt))

    order : (p q : ℕ) → p ≤ q → q < 2 → item_of table.layout p ≤ item_of table.layout q
    order zero zero le lt = omega arith
    order zero (suc zero) le lt = omega arith
    order (suc zero) zero le lt = absurd (omega (arith, le))
    order (suc zero) (suc zero) le lt = omega arith
    order (suc (suc p)) q le lt = absurd (omega (arith, le, lt))
    order p (suc (suc q)) le lt = absurd (omega (arith, lt))

    finals : (i : ℕ) → i < 2 → final_of table.layout i < 2
    finals zero lt = omega arith
    finals (suc zero) lt = omega arith
    finals (suc (suc i)) lt = absurd (omega (arith, lt))

    owns : (i : ℕ) → i < 2 → item_of table.layout (final_of table.layout i) ≡ i
    owns zero lt = refl
    owns (suc zero) lt = refl
    owns (suc (suc i)) lt = absurd (omega (arith, lt))

    last : (p : ℕ) → p < 2 → p ≤ final_of table.layout (item_of table.layout p)
    last zero lt = omega arith
    last (suc zero) lt = omega arith
    last (suc (suc p)) lt = absurd (omega (arith, lt))

found-at : (id : Ident) (p : ℕ) → find id ≡ Some p → (p < 2) × (id_at p ≡ id)
found-at id p e = at (eq_by_cmp ident_cmp id first_id) refl (eq_by_cmp ident_cmp id second_id) refl e
  where
    at : (b : Bool) → eq_by_cmp ident_cmp id first_id ≡ b → (c : Bool) → eq_by_cmp ident_cmp id second_id ≡ c → cond b (Some 0) (cond c (Some 1) None) ≡ Some p → (p < 2) × (id_at p ≡ id)
    at true u c w h = let z : 0 ≡ p = cc in subst (λ n. (n < 2) × (id_at n ≡ id)) z (omega arith, sym (idents-same id first_id u))
    at false u true w h = let z : 1 ≡ p = cc in subst (λ n. (n < 2) × (id_at n ≡ id)) z (omega arith, sym (idents-same id second_id w))
    at false u false w h = cc

numbered : (i : ℕ) → i < 2 → find (id_at i) ≡ Some i
numbered zero lt = refl
numbered (suc zero) lt = refl
numbered (suc (suc i)) lt = absurd (omega (arith, lt))

paired : (key : Key) (p : ℕ) → pair_of key ≡ Some p → (key.name ≡ final_name) × (find key.id ≡ Some p)
paired key p e = at (bytes_eq key.name final_name) refl e
  where
    at : (b : Bool) → bytes_eq key.name final_name ≡ b → cond b (find key.id) None ≡ Some p → (key.name ≡ final_name) × (find key.id ≡ Some p)
    at true u h = (bytes-same key.name final_name u, h)
    at false u h = cc

is-table : IsTable table
is-table =
    record {
      keyed = λ key p e. let w = paired key p e in let i : id_at p ≡ key.id = (found-at key.id p w.1).1 in ap (λ q. record { id = q; name = final_name }) i ∙ ap (λ n. record { id = key.id; name = n }) (sym w.0);
      within = λ key p e. (found-at key.id p (paired key p e).1).0;
      item = λ key p e. ap is_some (paired key p e).1;
      placed = λ p lt. placed p lt;
    }
  where
    placed : (p : ℕ) → p < 2 → pair_of (record { id = id_at p; name = final_name }) ≡ Some p
    placed zero lt = refl
    placed (suc zero) lt = refl
    placed (suc (suc p)) lt = absurd (omega (arith, lt))

pub is-site : (first : Bytes) → IsSite (site first)
unfolding IsDistinct
is-site first =
    record {
      shape = shape;
      proper = record {
        table = is-table;
        found = found-at;
        proper = λ i lt. by-text i (text_at first i);
        owned = λ i lt. tt;
        in_order = λ i lt. order i lt;
      };
      numbered = numbered;
    }
  where
    answered : (answers : List _) → IsProper table [] (loaded answers)
    answered [] = tt
    answered (answer ∷ answers) = tt

    by-text : (i : ℕ) (text : Bytes) → IsProper table [] (deed_at i text)
    by-text i [] = ((tt, tt), answered)
    by-text i (byte ∷ body) = tt

    nothing : (i : ℕ) → i < 2 → (p : ℕ) → p < 2 → item_of table.layout p ≡ i → p ≢ final_of table.layout i → ⊥
    nothing zero lt zero less of ne = ne refl
    nothing zero lt (suc zero) less of ne = cc
    nothing (suc zero) lt zero less of ne = cc
    nothing (suc zero) lt (suc zero) less of ne = ne refl
    nothing (suc (suc i)) lt p less of ne = omega (arith, lt)
    nothing i lt (suc (suc p)) less of ne = omega (arith, less)

    order : (i : ℕ) → i < 2 → AreSnapshots table.layout i (on_way (site first).deeds i)
    order zero lt = record { own = tt; rising = tt; all = λ p less of ne. absurd (nothing 0 lt p less of ne) }
    order (suc zero) lt = record { own = tt; rising = tt; all = λ p less of ne. absurd (nothing 1 lt p less of ne) }
    order (suc (suc i)) lt = absurd (omega (arith, lt))

-- the stand-ins tell pages and deeds
kinds-same : (a b : Kind) → kind_code a ≡ kind_code b → a ≡ b
kinds-same kinds.Text kinds.Text e = refl
kinds-same kinds.Text kinds.Template e = cc
kinds-same kinds.Text kinds.File e = cc
kinds-same kinds.Template kinds.Text e = cc
kinds-same kinds.Template kinds.Template e = refl
kinds-same kinds.Template kinds.File e = cc
kinds-same kinds.File kinds.Text e = cc
kinds-same kinds.File kinds.Template e = cc
kinds-same kinds.File kinds.File e = refl

pages-same : (x y : Page) → bytes_eq (digests.page x) (digests.page y) ≡ true → x ≡ y
pages-same x y e =
    let both : kind_code x.kind ∷ x.body ≡ kind_code y.kind ∷ y.body = bytes-same (digests.page x) (digests.page y) e in
    let code : kind_code x.kind ≡ kind_code y.kind = cc in
    let body : x.body ≡ y.body = cc in
    ap (λ kind. record { kind = kind; body = x.body }) (kinds-same x.kind y.kind code) ∙ ap (λ text. record { kind = y.kind; body = text }) body

same-number : (i j : ℕ) → i < 2 → j < 2 → id_at i ≡ id_at j → i ≡ j
same-number i j lt less e = let both : Some i ≡ Some j = sym (numbered i lt) ∙ (ap find e ∙ numbered j less) in cc

pub are-apart : (a b : Bytes) → ArePlansApart digests (site a) (site b)
are-apart a b =
    record {
      was = is-site a;
      now = is-site b;
      apart = record {
        texts = λ i j lt less one e. bytes-same (text_at a i) (text_at b j) e;
        traits = λ id f g e. refl;
        pages = λ p q y x one f g e. pages-same x y e;
      };
      told = λ i j lt less one e. ap (deed_at i) e ∙ ap (λ n. deed_at n (text_at b j)) (same-number i j lt less one);
    }

pub uses-own : (first : Bytes) → UsesItsOwn (site first)
uses-own first = record { finals = λ i lt. finals i lt; patterns = λ i k lt. patterns i k lt first }
  where
    finals : (i : ℕ) → i < 2 → table.key (final_of table.layout i) ≡ record { id = id_at i; name = final_name }
    finals zero lt = refl
    finals (suc zero) lt = refl
    finals (suc (suc i)) lt = absurd (omega (arith, lt))

    patterns : (i : ℕ) (k : Pages) → i < 2 → (text : Bytes) → AllByRecursion (λ n. n < 0) (patterns_of (clean_run (site text) i k).log)
    patterns zero k lt [] = at (k 1)
      where
        at : (o : Option Page)
            → AllByRecursion (λ n. n < 0) (patterns_of (answered (1 ∷ []) (lacking k (1 ∷ [])) (λ xs. run (interpret table first_id (loaded (answers xs (no_traits ∷ [])))) k) (with_page o (Some []))).log)
        at None = tt
        at (Some x) = tt
    patterns zero k lt (byte ∷ body) = tt
    patterns (suc zero) k lt text = at (k 0)
      where
        at : (o : Option Page)
            → AllByRecursion (λ n. n < 0) (patterns_of (answered (0 ∷ []) (lacking k (0 ∷ [])) (λ xs. run (interpret table second_id (loaded (answers xs (no_traits ∷ [])))) k) (with_page o (Some []))).log)
        at None = tt
        at (Some x) = tt
    patterns (suc (suc i)) k lt text = absurd (omega (arith, lt))

-- built again as it was, nothing is out of date
pub nothing-changed : outdated digests (site page_text) entries ≡ []
unfolding fix status
nothing-changed = refl

-- with another page both items are, and the second gets the new page
pub other-page : (outdated digests (site other_page_text) entries ≡ 0 ∷ 1 ∷ []) × (rebuilt digests (site other_page_text) entries 1 ≡ Some (text_page (121 ∷ [])))
unfolding fix status
other-page = (refl, refl)

-- with another recipe and the same page only the first is
pub same-page : outdated digests (site same_page_text) entries ≡ 0 ∷ []
unfolding fix status
same-page = refl

-- where the first now loads the second, both wait, though the stored pages agree with one another
pub new-cycle : (outdated digests (site []) entries ≡ 0 ∷ 1 ∷ []) × (reendings digests (site []) entries 0 ≡ waiting (1 ∷ [])) × (reendings digests (site []) entries 1 ≡ waiting (0 ∷ []))
unfolding fix status
new-cycle = (refl, refl, refl)
