-- The workers of a build.
use Rattle.std.proofs.Common.{◌≡◌, List, Some, ◌⊎◌, inl, inr}
use Rattle.hk_base.specs.Bytes.{Bytes}
use Rattle.hk_words.specs.Words.{HasWorkers, command}
use Rattle.hk_words.specs.declared.commands.BuildOptions.{BuildOptions}
use Rattle.hk_words.specs.declared.commands.Command.TheVariants.{Build, Rebuild}
use Rattle.hk_words.proofs.Workers.{command-workers}

pub build-workers : (words : List Bytes) (o : BuildOptions) → (command words ≡ Some (Build o)) ⊎ (command words ≡ Some (Rebuild o)) → HasWorkers (Build o)
build-workers words o (inl h) = command-workers words (Build o) h
build-workers words o (inr h) = command-workers words (Rebuild o) h
