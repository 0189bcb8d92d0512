-- What holds of items holds of them in their order, and of one whose date is wanting.
use Rattle.std.proofs.Common.{◌≡◌, ℕ, zero, suc, ◌+◌, ◌*◌, ◌<◌, true, false, cond, List, [], ◌∷◌, ◌++◌, length, map, take, drop, Option, Some, None, Result, Ok, Err, sym, subst}
use Rattle.std.specs.Prelude.{reverse}
use Rattle.std.specs.List.{AllByRecursion, range_with_len}
use Rattle.std.proofs.lemmas.List.{reverse-append}
use Rattle.hk_chain.specs.declared.context.Order.{Order}
use Rattle.hk_chain.specs.declared.context.Order.TheVariants as orders
use Rattle.hk_meta.specs.declared.date.Moment.{Moment}
use Rattle.hk_rules.specs.Plan.{Lookups}
use Rattle.hk_rules_file.specs.declared.tables.PageRule.{PageRule}
use Rattle.hk_chain.specs.Sorting.{put_by}
use Rattle.hk_tags.specs.Dates.{Dated, with_date, dated, is_earlier, by_date, item_in, chronological, reversed, ordered}
use Rattle.hk_tags.specs.Expanding.{dated_pages}
use Rattle.hk_tags.specs.Listings.{ArePagesWithin}
use Rattle.hk_tags.specs.Members.{is_member, members, date_at}
use Rattle.hk_tags.specs.Pages.{PageView, page_at, count_of_pieces, pages_of_items, pages_by, piece_pages}
use Rattle.hk_tags.proofs.Filters.{filter-all}

module _ (P : ℕ → Type 0) where
  all-append : (xs ys : List ℕ) → AllByRecursion P xs → AllByRecursion P ys → AllByRecursion P (xs ++ ys)
  all-append [] ys a b = b
  all-append (x ∷ xs) ys a b = (a.0, all-append xs ys a.1 b)

  all-reverse : (xs : List ℕ) → AllByRecursion P xs → AllByRecursion P (reverse xs)
  all-reverse [] a = tt
  all-reverse (x ∷ xs) a = subst (AllByRecursion P) (sym (reverse-append (x ∷ []) xs)) (all-append (reverse xs) (x ∷ []) (all-reverse xs a.1) (a.0, tt))

  all-take : (n : ℕ) (xs : List ℕ) → AllByRecursion P xs → AllByRecursion P (take n xs)
  all-take zero xs a = tt
  all-take (suc n) [] a = tt
  all-take (suc n) (x ∷ xs) a = (a.0, all-take n xs a.1)

  all-drop : (n : ℕ) (xs : List ℕ) → AllByRecursion P xs → AllByRecursion P (drop n xs)
  all-drop zero xs a = a
  all-drop (suc n) [] a = tt
  all-drop (suc n) (x ∷ xs) a = all-drop n xs a.1

  abbrev AllDated : List Dated → Type 0
  AllDated ds = AllByRecursion (λ (d : Dated). P d.item) ds

  all-put : (d : Dated) (ds : List Dated) → P d.item → AllDated ds → AllDated (put_by is_earlier d ds)
  all-put d [] p a = (p, tt)
  all-put d (e ∷ ds) p a = elim (is_earlier e d) as (λ b. AllDated (cond b (e ∷ put_by is_earlier d ds) (d ∷ e ∷ ds))) [
    | true ↦ (a.0, all-put d ds p a.1)
    | false ↦ (p, a)
  ]

  all-by_date : (ds : List Dated) → AllDated ds → AllDated (by_date ds)
  all-by_date [] a = tt
  all-by_date (d ∷ ds) a = all-put d (by_date ds) a.0 (all-by_date ds a.1)

  all-undated : (ds : List Dated) → AllDated ds → AllByRecursion P (map item_in ds)
  all-undated [] a = tt
  all-undated (d ∷ ds) a = (a.0, all-undated ds a.1)

  -- what holds of all items of a result, or of the one that it names
  abbrev pub AllGiven : Result (List ℕ) ℕ → Type 0
  AllGiven (Ok xs) = AllByRecursion P xs
  AllGiven (Err i) = P i

  abbrev AllDatedGiven : Result (List Dated) ℕ → Type 0
  AllDatedGiven (Ok ds) = AllDated ds
  AllDatedGiven (Err i) = P i

  all-with : (item : ℕ) (o : Option Moment) (r : Result (List Dated) ℕ) → P item → AllDatedGiven r → AllDatedGiven (with_date item o r)
  all-with item None r a b = a
  all-with item (Some date) (Ok ds) a b = (a, b)
  all-with item (Some date) (Err i) a b = b

  all-dated : (plan : Lookups) (xs : List ℕ) → AllByRecursion P xs → AllDatedGiven (dated plan xs)
  all-dated plan [] a = tt
  all-dated plan (x ∷ xs) a = all-with x (date_at plan x) (dated plan xs) a.0 (all-dated plan xs a.1)

  all-chronological : (r : Result (List Dated) ℕ) → AllDatedGiven r → AllGiven (chronological r)
  all-chronological (Ok ds) a = all-undated (by_date ds) (all-by_date ds a)
  all-chronological (Err i) a = a

  all-reversed : (r : Result (List ℕ) ℕ) → AllGiven r → AllGiven (reversed r)
  all-reversed (Ok xs) a = all-reverse xs a
  all-reversed (Err i) a = a

  pub all-ordered : (plan : Lookups) (order : Order) (xs : List ℕ) → AllByRecursion P xs → AllGiven (ordered plan order xs)
  all-ordered plan orders.Id xs a = a
  all-ordered plan orders.Chronological xs a = all-chronological (dated plan xs) (all-dated plan xs a)
  all-ordered plan orders.Recent xs a = all-reversed (chronological (dated plan xs)) (all-chronological (dated plan xs) (all-dated plan xs a))

  -- an item whose date is wanting
  pub lacking-one : (plan : Lookups) (order : Order) (xs : List ℕ) (i : ℕ) → AllByRecursion P xs → Err i ≡ ordered plan order xs → P i
  lacking-one plan order xs i a e = subst AllGiven (sym e) (all-ordered plan order xs a)

pages-from : (count : ℕ) (table : PageRule) (items : List ℕ) (n a : ℕ) → AllByRecursion (λ item. item < count) items → ArePagesWithin count (map (page_at table items) (range_with_len a n))
pages-from count table items zero a h = tt
pages-from count table items (suc n) a h =
    (all-take (λ item. item < count) table.per (drop (a * table.per) items) (all-drop (λ item. item < count) (a * table.per) items h), pages-from count table items n (a + 1) h)

-- the items of pages are those of the plan
pub piece_pages-within : (base : Lookups) (table : PageRule) (pages : List PageView) → dated_pages base (piece_pages base table) ≡ Ok pages → ArePagesWithin base.count pages
unfolding piece_pages
piece_pages-within base table pages e =
    at (ordered base table.order (members base table.of)) (all-ordered (λ item. item < base.count) base table.order (members base table.of) (filter-all (is_member base table.of) (λ item. item < base.count) base.count (λ q lt. lt))) e
  where
    at : (r : Result (List ℕ) ℕ) → AllGiven (λ item. item < base.count) r → dated_pages base (pages_by table r) ≡ Ok pages → ArePagesWithin base.count pages
    at (Ok items) h e =
        let same : pages_of_items table items ≡ pages = cc in
        subst (ArePagesWithin base.count) same (pages-from base.count table items (count_of_pieces table.per (length items)) 0 h)
    at (Err i) h e = cc
