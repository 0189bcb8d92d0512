-- What makes the entries of a plan's items those of a store.
use Rattle.std.specs.Prelude.{◌≡◌, ℕ, ◌<◌, true}
use Rattle.std.specs.List.Sorted.{IsStrictlySortedBy}
use Rattle.std.specs.declared.cmp.Ordering.TheVariants.{Less}
use Rattle.hk_base.specs.Bytes.{Bytes}
use Rattle.hk_base.specs.Identifier.{ident_cmp}
use Rattle.hk_chain.specs.Layout.{IsShape, pairs, item_of, final_of}
use Rattle.hk_store.specs.Stored.{is_page_name}
use Rattle.hk_reuse.specs.Site.{Items, AreItems}
use Rattle.hk_chain.specs.Names.{final_name}

-- the identifiers ascend, and so do the matches of a pattern; the key of a pair has the identifier of its item and the name
-- of a page, that of a finished page for an item's last pair
pub record AreStorable (items : Items) : Type 0 where
  pub shape : IsShape items.table.layout
  pub numbers : AreItems items
  pub ascend : (i j : ℕ) → i < j → j < items.table.layout.items → ident_cmp (items.id i) (items.id j) ≡ Less
  pub matches : (by : Bytes) → IsStrictlySortedBy ident_cmp (items.table.matches by)
  pub owners : (p : ℕ) → p < pairs items.table.layout → (items.table.key p).id ≡ items.id (item_of items.table.layout p)
  pub names : (p : ℕ) → p < pairs items.table.layout → is_page_name (items.table.key p).name ≡ true
  pub finals : (i : ℕ) → i < items.table.layout.items → (items.table.key (final_of items.table.layout i)).name ≡ final_name
