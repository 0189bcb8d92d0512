-- Digests of fingerprints, pages and traits.
use Rattle.hk_base.specs.Bytes.{Bytes}
use Rattle.hk_chain.specs.declared.page.Page.{Page}
use Rattle.hk_fix.specs.Table.{Traits}

pub record Digests : Type 0 where
  pub text : Bytes → Bytes
  pub page : Page → Bytes
  pub traits : Traits → Bytes
