-- What the clearing of the cache comes to.
use Rattle.std.specs.Prelude.{◌≡◌, ℕ, ◌+◌, IfSome, Result, Ok, Err, length}
use Rattle.std.specs.FinMap.{keys}
use Rattle.hk_base.specs.Bytes.{Bytes}
use Rattle.hk_base.specs.declared.refusal.NoMemory.{NoMemory as NoMemory-data}
use Rattle.hk_outside.specs.Causes.{Rose}
use Rattle.hk_texts.specs.Printed.{removed_line, store_unremoved_line}
use Rattle.hk_app.specs.declared.ended.Ended.{Ended}
use Rattle.hk_app.specs.declared.status.Status.{Status}
use Rattle.hk_app.specs.declared.status.Status.TheVariants.{Ok as Done, StoreFault}
use Rattle.hk_app.specs.Standing.{IsCleared, LostSome}
use Rattle.hk_app.specs.World.{Folder}

-- it holds nothing, and its files are counted with those before; or a call failed
abbrev pub ClearedAs : ℕ → Folder → Folder → Status → Bytes → Type 0
ClearedAs before old new Done text = IsCleared old new × IfSome old.files (λ k. text ≡ removed_line (before + length (keys k)))
ClearedAs before old new StoreFault text = Rose old.faults new.faults × (LostSome old new × (text ≡ store_unremoved_line))
ClearedAs before old new status text = ⊥

abbrev pub ClearsCache : ℕ → Folder → Folder → Result Ended NoMemory-data → Type 0
ClearsCache before old new (Ok e) = ClearedAs before old new e.status e.text
ClearsCache before old new (Err e) = LostSome old new
