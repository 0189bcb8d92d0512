use Rattle.std.proofs.Common.{◌∙◌, reverse}
use Rattle.hk_fix.specs.declared.event.Event.TheVariants.{Saved, Done}
use Rattle.hk_fix.proofs.KnownBy.{snapshot-by_event, final-by_event}
use Rattle.hk_fix.proofs.Waits.{stands-reverse}
use Rattle.hk_fix.proofs.confluence.known_by_events.Goals as goal

pub returns-clause-snapshots : goal.returns-clause-snapshots
returns-clause-snapshots c = λ lay run seeds given h lawful p lt free ne. snapshot-by_event lay run seeds given.shape given.laws given.sown (reverse h) lawful p lt free ne ∙ stands-reverse (Saved p) h

pub returns-clause-finals : goal.returns-clause-finals
returns-clause-finals c = λ lay run seeds given h lawful i lt free. final-by_event lay run seeds given.shape given.laws given.sown (reverse h) lawful i lt free ∙ stands-reverse (Done i) h
