use Rattle.std.proofs.Common.{◌≡◌, Some, All, sym, ◌∙◌, subst, Option}
use Rattle.hk_lock.specs.View.{IsSeatFor}
use Rattle.hk_ready.specs.View.{IsPassFor}
use Rattle.hk_sched.specs.Lawful.{Key}
use Rattle.hk_workers.proofs.pool.worked.Goals as goal

pub run_jobs-requires-clause-jobs : goal.run_jobs-requires-clause-jobs
run_jobs-requires-clause-jobs g c κs within =
    subst (λ (key : Option (Key g.row.K-M-Common.Denot)). All (λ j. IsSeatFor c.in_ok-desk.desk.lock key j.seat × IsPassFor c.in_ok-desk.desk.ready.id key j.pass) c.in_ok-jobs.jobs.items) c.in_ok-desk.ensures.key c.in_ok-jobs.ensures.jobs

pub gather-memory-requires-clause-ends : goal.gather-memory-requires-clause-ends
gather-memory-requires-clause-ends g c =
    let same : c.hire.new.seat.view.key ≡ Some c.args.about.now.value = c.in_ok-jobs.ensures.seat.1 ∙ c.in_ok-desk.ensures.key in
    subst (λ (key : Option (Key g.row.K-M-Common.Denot)). All (λ e. IsSeatFor c.in_ok-desk.desk.lock key e.seat) c.in_ok-ends.ends.items) (sym same) c.in_ok-ends.ensures.1
