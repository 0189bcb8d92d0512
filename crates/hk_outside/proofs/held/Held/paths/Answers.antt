use Rattle.std.proofs.Common.{◌++◌, map, sym, ap, ◌∙◌, append-nil}
use Rattle.std.specs.Map.Iter.{deref}
use Rattle.std.proofs.lemmas.Map.Iter.{rest_all}
use Rattle.std.specs.FinMap.{keys}
use Rattle.hk_outside.proofs.HeldLemmas.{keys-files_of}
use Rattle.hk_outside.proofs.held.Held.paths.Goals as goal

pub returns : goal.returns
returns c =
    let done = rest_all deref _ _ _ c.in-None.is c.next.ensures.steps in
    sym (append-nil c.loop-path.paths.items) ∙ ap (λ ks. c.loop-path.paths.items ++ map (λ k. k.items) ks) (sym done) ∙ c.loop-path.invariant
    ∙ ap (map (λ k. k.items)) (c.into_iter-path-iterator.ensures.into_iter_gives ∙ c.keys-path-items.ensures.rest) ∙ sym (keys-files_of c.self.inside.map.entries c.len.ensures.ordered) ∙ ap keys c.self.view_is
