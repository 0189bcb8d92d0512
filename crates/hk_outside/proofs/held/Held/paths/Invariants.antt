use Rattle.std.proofs.Common.{◌≡◌, ◌++◌, map}
use Rattle.hk_outside.proofs.held.Held.paths.Given as goal

-- the paths so far, and those that are left, are all of them
abbrev pub invariant-loop-path : goal.invariant-loop-path
invariant-loop-path l = l.paths.items ++ map (λ k. k.items) l.path-iterator ≡ map (λ k. k.items) l.initial.path-iterator
