use Rattle.std.proofs.Common.{ap, ◌∙◌}
use Rattle.std.specs.FinMap.{insert}
use Rattle.hk_outside.specs.Held.{files_of}
use Rattle.hk_outside.proofs.HeldLemmas.{files_of-insert_entry}
use Rattle.hk_outside.proofs.held.Held.put.Goals as goal

pub returns : goal.returns
returns c =
    let old = c.self.inside.map.entries in
    let key = c.in_ok-key.key in
    let value = c.in_ok-value.value in
    ap files_of c.in_ok-insert.ensures.entries ∙ files_of-insert_entry old key value ∙ ap (λ p. insert (files_of old) p value.items) c.in_ok-key.ensures.items ∙ ap (insert (files_of old) c.args.path.now) c.in_ok-value.ensures.items ∙ ap (λ m. insert m c.args.path.now c.args.bytes.now) c.self.view_is
