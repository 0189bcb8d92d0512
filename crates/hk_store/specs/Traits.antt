-- The digests by SHA-256.
use Rattle.std.specs.Prelude.{◌++◌}
use Rattle.hk_base.specs.Bytes.{Bytes}
use Rattle.hk_fix.specs.Table.{Traits}
use Rattle.hk_forms.specs.PatternText.{str, opt}
use Rattle.sha2.specs.Sha256.{sha256}
use Rattle.hk_store.specs.Digests.{Digests}
use Rattle.hk_store.specs.StoreText.{page_text}
use Rattle.hk_store.specs.Told.{many, both}

-- what others may read of an item besides its pages: its target, and its keys with their values
abbrev pub traits_text : Traits → Bytes
traits_text traits = opt traits.target ++ many (both str str) traits.meta

unfoldable pub sha_digests : Digests
sha_digests = record { text = sha256; page = λ page. sha256 (page_text page); traits = λ traits. sha256 (traits_text traits) }
