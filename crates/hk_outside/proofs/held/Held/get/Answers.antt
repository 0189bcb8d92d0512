use Rattle.std.proofs.Common.{sym, ap, ◌∙◌, Some}
use Rattle.std.specs.Option.{option_map}
use Rattle.std.specs.FinMap.{get}
use Rattle.hk_outside.proofs.HeldLemmas.{get-files_of}
use Rattle.hk_outside.proofs.held.Held.get.Goals as goal

pub returns-in-Some : goal.returns-in-Some
returns-in-Some c = ap Some c.as_slice.ensures.value ∙ ap (option_map (λ v. v.items)) c.in-Some.ensures.value ∙ sym (get-files_of c.self.inside.map.entries c.args.path.now) ∙ ap (λ m. get m c.args.path.now) c.self.view_is

pub returns-in-None : goal.returns-in-None
returns-in-None c = ap (option_map (λ v. v.items)) c.in-None.ensures.value ∙ sym (get-files_of c.self.inside.map.entries c.args.path.now) ∙ ap (λ m. get m c.args.path.now) c.self.view_is
