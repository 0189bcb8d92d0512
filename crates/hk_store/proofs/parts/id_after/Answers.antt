use Rattle.std.proofs.Common.{sym, subst, rules}
use Rattle.std.specs.Option.{option_map}
use Rattle.hk_forms.specs.PatternText.{ident_text}
use Rattle.hk_store.specs.Found.{Finds}
use Rattle.hk_store.specs.Stored.{HeldId}
use Rattle.hk_store.specs.Told.{Short}
use Rattle.hk_store.proofs.Keys.{id-low}
use Rattle.hk_store.proofs.parts.id_after.Goals as goal

pub returns : goal.returns
returns c =
    let first = subst (λ o. Finds ident_text HeldId c.args.bytes.now (option_map (λ p. (p.0, p.1.now)) o)) c.in-Some.is c.in_ok-id.ensures in
    let short : Short c.args.bytes.now = search rules in
    id-low (option_map (λ id. id.now) c.args.last) c.in-Some.id c.args.bytes.now c.in-Some.rest.now short first.1 (sym c.if-is_above.ensures)
