use Rattle.std.proofs.Common.{ap, ◌∙◌}
use Rattle.hk_meta.specs.Metadata.{value_of}
use Rattle.hk_meta.proofs.Entries.{add_absent-put, absent-from_map}
use Rattle.hk_meta.proofs.metadata.Metadata.add_absent.Goals as goal

pub returns-in_ok-put : goal.returns-in_ok-put
returns-in_ok-put c =
    let found = c.get.ensures.value ∙ ap (λ key. value_of key c.args.self.now) c.deref.ensures.value in
    c.in_ok-put.ensures
    ∙ add_absent-put c.args.key.items c.args.value.items c.args.self.now
    (absent-from_map (λ v. v.now) c.get.result (value_of c.args.key.items c.args.self.now) found c.if-is_none.ensures)
