use Rattle.std.proofs.Common.{refl}
use Rattle.hk_sites.proofs.HeldIds.{plan-held}
use Rattle.hk_sites.proofs.Lawful.{left-held, left-listed, left-stored}
use Rattle.hk_sites.proofs.ShaDigests.{sha-sound}
use Rattle.hk_store.specs.Traits.{sha_digests}
use Rattle.hk_build.proofs.Replayed.{planned-made}
use Rattle.hk_build.proofs.leaving.images_are_stores.Goals as goal

pub returns-clause-stored : goal.returns-clause-stored
returns-clause-stored c = λ plan entries is formed. left-stored sha_digests plan (planned-made plan is) entries formed

pub returns-clause-held : goal.returns-clause-held
returns-clause-held c = λ plan entries is formed. left-held sha_digests plan (planned-made plan is) entries formed sha-sound (plan-held is.rules is.files plan is.made)

pub returns-clause-found : goal.returns-clause-found
returns-clause-found c = λ plan entries is. left-listed sha_digests plan (planned-made plan is) entries

pub returns-clause-clean : goal.returns-clause-clean
returns-clause-clean c = λ plan. refl
