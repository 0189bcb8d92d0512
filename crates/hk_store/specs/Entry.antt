-- What the store has for an item: what its run asked for and saved, by identifiers, names and digests.
use Rattle.std.specs.Prelude.{List}
use Rattle.hk_base.specs.Bytes.{Bytes}
use Rattle.hk_base.specs.Identifier.{Ident}
use Rattle.hk_chain.specs.declared.page.Page.{Page}
use Rattle.hk_fix.specs.Table.{Key}

-- an asked page, with its digest and that of its item's traits
pub record AskView : Type 0 where
  pub key : Key
  pub page : Bytes
  pub traits : Bytes

-- the text of a recorded pattern, and the items that it matched
pub record MatchView : Type 0 where
  pub text : Bytes
  pub matches : List Ident

-- a group of pages that were asked for at once, or a page that was saved under a name
pub data MarkView : Type 0 where
  asked : List AskView → MarkView
  stored : Bytes → Page → MarkView

pub record EntryView : Type 0 where
  pub id : Ident
  pub print : Bytes
  pub patterns : List MatchView
  pub marks : List MarkView
