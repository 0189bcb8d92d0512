use Rattle.hk_sites.proofs.HeldIds.{plan-held}
use Rattle.hk_sites.proofs.Lawful.{left-stored, left-held, left-listed}
use Rattle.hk_sites.proofs.ShaDigests.{sha-sound}
use Rattle.hk_sites.proofs.leaving.builds_of_plans_leave_stores.Goals as goal

pub returns-clause-stored : goal.returns-clause-stored
returns-clause-stored c = λ dig plan entries made formed. left-stored dig plan made entries formed

pub returns-clause-found : goal.returns-clause-found
returns-clause-found c = λ dig plan entries made. left-listed dig plan made entries

pub returns-clause-held : goal.returns-clause-held
returns-clause-held c = λ dig rules files plan entries e made formed sound. left-held dig plan made entries formed sound (plan-held rules files plan e)

pub returns-clause-digests : goal.returns-clause-digests
returns-clause-digests c = sha-sound
