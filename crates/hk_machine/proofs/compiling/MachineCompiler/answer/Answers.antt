use Rattle.std.proofs.Common.{sym, subst, Contains}
use Rattle.hk_machine.specs.Machine.{MachineView}
use Rattle.hk_machine.proofs.Using.{answer-keeps, answer-room, answer-come}
use Rattle.hk_machine.proofs.compiling.MachineCompiler.answer.Goals as goal

pub invariant_of-self : goal.invariant_of-self
invariant_of-self c =
    let m = c.self.inside in
    let i = c.self.invariant in
    let has : Contains m.way.awaits c.args.pair = subst (λ (v : MachineView). Contains v.awaits c.args.pair) (sym c.self.view_is) c.requires in (
      i.0,
      i.1,
      λ e n. answer-keeps m.plan m.item m.way c.args.pair c.args.page c.answer.new.self c.take_out.new.self c.use_pair.new.pairs i.3 has c.answer.ensures.pages c.answer.ensures.kept c.take_out.ensures c.use_pair.ensures.added (i.2 e n),
      answer-room m.plan m.item m.way c.args.pair c.args.page c.answer.new.self c.take_out.new.self c.use_pair.new.pairs i.3 has c.answer.ensures.pages c.answer.ensures.kept c.take_out.ensures c.use_pair.ensures.added c.use_pair.ensures.room,
      answer-come m.plan m.item m.way c.args.pair c.args.page c.answer.new.self c.take_out.new.self c.use_pair.new.pairs i.3 has c.answer.ensures.pages c.answer.ensures.kept c.take_out.ensures c.use_pair.ensures.added i.4,
    )
