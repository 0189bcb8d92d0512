use Rattle.std.proofs.Common.{rules, ◌∷◌, Some, sym, ap, ◌∙◌}
use Rattle.atomic_table.specs.Table.{rest}
use Rattle.hk_lock.proofs.turn_lock.TurnLock.take.Goals as goal

pub exchange-requires : goal.exchange-requires
exchange-requires g c = let taken = c.win.ensures.taken in let e = ap (λ m. m.1) taken.1 in (search rules, (Some taken.0, e ∙ ap (λ cs. (0, Some taken.0) ∷ cs) (sym (ap rest e))))
