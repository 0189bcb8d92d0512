use Rattle.std.proofs.Common.{sym, ap, ◌∙◌, arith, set, true}
use Rattle.hk_rules.proofs.Flagging.{found-within, flagged-found, flagged-none}
use Rattle.hk_rules.proofs.matching.flag_item.Goals as goal

pub index_mut-requires : goal.index_mut-requires
index_mut-requires c =
    let within = found-within c.args.id.now 0 c.args.items.now c.in-Some.item (sym c.item_with.ensures ∙ c.in-Some.is) in
    omega (arith, within.1, c.requires.flagged, c.item.view_is)

pub returns-in-Some : goal.returns-in-Some
returns-in-Some c =
    ap (λ n. set c.args.flags.now.items n true) c.item.view_is
    ∙ flagged-found c.args.id.now c.args.items.now c.args.flags.now.items c.in-Some.item c.requires.sorted c.requires.flagged (sym c.item_with.ensures ∙ c.in-Some.is)

pub returns-in_default : goal.returns-in_default
returns-in_default c = flagged-none c.args.id.now c.args.items.now c.args.flags.now.items c.requires.flagged (sym c.item_with.ensures ∙ c.in_default.is)
