use Rattle.std.proofs.Common.{◌≡◌, sym, rules, true}
use Rattle.hk_eval.specs.Asking.{is_text}
use Rattle.hk_eval.specs.Told.{told_pages}
use Rattle.hk_machine.proofs.Asked.{load-given}
use Rattle.hk_machine.proofs.loading.loaded.Goals as goal

pub returns-clause-acts : goal.returns-clause-acts
returns-clause-acts c = λ plan page. load-given (told_pages c.args.told.now) c.args.pair c.in-Some.page.now c.in_ok-try_clone.field-0 c.args.id.now c.args.notes.now c.note_group.new.self (sym c.in-Some.ensures) (let h : is_text c.in-Some.page.now.kind ≡ true = search rules in h) c.in_ok-note_group.ensures c.in_ok-try_clone.ensures
