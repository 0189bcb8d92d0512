-- What the writing of a site leaves and counts.
use Rattle.std.specs.Prelude.{◌≡◌, List, Option, Some, length}
use Rattle.std.specs.FinMap.{from_entries, keys}
use Rattle.hk_base.specs.Bytes.{Bytes, Files}
use Rattle.hk_writer.specs.declared.writer.Counts.{Counts}
use Rattle.hk_writer.specs.Writing.{removals, writings}

-- the folder holds exactly the pages, and the counts are of the files before that were written and removed
pub record IsWritten (pages : List (Bytes × Bytes)) (before : Files) (left : Option Files) (counts : Counts) : Type 0 where
  pub exactly : left ≡ Some (from_entries pages)
  pub written : counts.written ≡ length (writings pages before)
  pub removed : counts.removed ≡ length (removals pages (keys before))
