use Rattle.std.proofs.Common.{◌≡◌, drop}
use Rattle.hk_app.specs.FolderReading.{rules_path, found_at}
use Rattle.hk_app.proofs.reading.rules_text.Given as goal

abbrev pub invariant-loop-path : goal.invariant-loop-path
invariant-loop-path l = found_at rules_path (drop l.path-index l.files) ≡ found_at rules_path l.files
