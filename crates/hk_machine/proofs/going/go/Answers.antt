use Rattle.std.proofs.Common.{refl, sym, ap, ◌∙◌, subst, arith, ◌+◌, ◌≤◌}
use Rattle.hk_fix.specs.Calls.{Goes}
use Rattle.hk_rules.specs.Plan.{lookups}
use Rattle.hk_machine.specs.Acting.{Stops, saves_by}
use Rattle.hk_machine.specs.Keeping.{Keeps, HasRoom, HasCome}
use Rattle.hk_machine.specs.Machine.{plan_shape, plan_run, way_meaning}
use Rattle.hk_eval.specs.Told.{told_pages}
use Rattle.hk_machine.specs.Working.{left}
use Rattle.hk_machine.specs.declared.act.Stop.{Stop}
use Rattle.hk_machine.specs.declared.way.Way.{Way}
use Rattle.hk_machine.proofs.Answering.{no-room, save-goes, save-keeps, ask-untold, ask-distinct, ask-goes, ask-keeps, ask-room, done-goes, fail-goes}
use Rattle.hk_machine.proofs.Refused.{keeps-come, come-same, come-settled}
use Rattle.hk_machine.proofs.going.go.Goals as goal

pub wait-requires : goal.wait-requires
wait-requires c =
    let p = c.args.plan.now in
    let old = c.args.way.now in
    let s = subst (λ (x : Stop). Stops (told_pages old.told) (left (lookups p) c.args.item old.work) old.work.notes x (left (lookups p) c.args.item c.work_on.new.work) c.work_on.new.work.notes c.work_on.new.work.page) c.in-Asks.is c.in_ok-pair.ensures.stops in
    record {
      untold = ask-untold p c.args.item c.requires.plan c.requires.item old c.requires.keeps c.requires.closed c.requires.going c.work_on.new.work c.settle.new.last c.settle.new.used c.in_ok-settle.ensures.last c.in_ok-settle.ensures.used s.0 c.in-Asks.pairs s.1 s.2;
      distinct = ask-distinct p c.args.item c.requires.plan c.requires.item old c.requires.keeps c.requires.closed c.requires.going c.work_on.new.work c.settle.new.last c.settle.new.used c.in_ok-settle.ensures.last c.in_ok-settle.ensures.used s.0 c.in-Asks.pairs s.1 s.2;
    }

pub returns-in_ok-polled-in-Saves-clause-goes : goal.returns-in_ok-polled-in-Saves-clause-goes
returns-in_ok-polled-in-Saves-clause-goes c =
    let p = c.args.plan.now in
    let old = c.args.way.now in
    let s = subst (λ (x : Stop). Stops (told_pages old.told) (left (lookups p) c.args.item old.work) old.work.notes x (left (lookups p) c.args.item c.work_on.new.work) c.work_on.new.work.notes c.work_on.new.work.page) c.in-Saves.is c.in_ok-pair.ensures.stops in
    subst (λ (w : Way). Goes plan_shape plan_run (way_meaning p c.args.item old) c.in_ok-polled-in-Saves.polled (way_meaning p c.args.item w)) (sym c.in_ok-polled-in-Saves.ensures.gone)
    (save-goes p c.args.item c.requires.plan c.requires.item old c.requires.keeps c.requires.closed c.requires.going c.work_on.new.work c.settle.new.last c.settle.new.used c.in_ok-settle.ensures.last c.in_ok-settle.ensures.used c.in-Saves.pair s c.in_ok-polled-in-Saves.polled c.in_ok-polled-in-Saves.ensures.polled)

pub returns-in_ok-polled-in-Saves-clause-keeps : goal.returns-in_ok-polled-in-Saves-clause-keeps
returns-in_ok-polled-in-Saves-clause-keeps c = λ going.
    let p = c.args.plan.now in
    let old = c.args.way.now in
    let s = subst (λ (x : Stop). Stops (told_pages old.told) (left (lookups p) c.args.item old.work) old.work.notes x (left (lookups p) c.args.item c.work_on.new.work) c.work_on.new.work.notes c.work_on.new.work.page) c.in-Saves.is c.in_ok-pair.ensures.stops in
    let more : old.work.at + 1 ≤ c.work_on.new.work.at = subst (λ (x : Stop). old.work.at + saves_by x ≤ c.work_on.new.work.at) c.in-Saves.is c.in_ok-pair.ensures.moves in
    subst (λ (w : Way). Keeps p c.args.item w) (sym c.in_ok-polled-in-Saves.ensures.gone)
    (save-keeps p c.args.item c.requires.plan c.requires.item old c.requires.keeps c.requires.closed c.requires.going c.work_on.new.work c.settle.new.last c.settle.new.used c.in_ok-settle.ensures.last c.in_ok-settle.ensures.used c.in-Saves.pair s c.in_ok-pair.ensures.within more)

pub returns-in_ok-polled-in-Saves-clause-room : goal.returns-in_ok-polled-in-Saves-clause-room
returns-in_ok-polled-in-Saves-clause-room c = no-room c.args.plan.now c.args.item c.requires.plan c.requires.item c.give.new.way (ap (λ (w : Way). w.awaits) c.in_ok-polled-in-Saves.ensures.gone ∙ c.requires.closed)

pub returns-in_ok-polled-in-Asks-clause-goes : goal.returns-in_ok-polled-in-Asks-clause-goes
returns-in_ok-polled-in-Asks-clause-goes c =
    let p = c.args.plan.now in
    let old = c.args.way.now in
    let s = subst (λ (x : Stop). Stops (told_pages old.told) (left (lookups p) c.args.item old.work) old.work.notes x (left (lookups p) c.args.item c.work_on.new.work) c.work_on.new.work.notes c.work_on.new.work.page) c.in-Asks.is c.in_ok-pair.ensures.stops in
    subst (λ (w : Way). Goes plan_shape plan_run (way_meaning p c.args.item old) c.in_ok-polled-in-Asks.polled (way_meaning p c.args.item w)) (sym c.in_ok-polled-in-Asks.ensures.gone)
    (ask-goes p c.args.item c.requires.plan c.requires.item old c.requires.keeps c.requires.closed c.requires.going c.work_on.new.work c.settle.new.last c.settle.new.used c.in_ok-settle.ensures.last c.in_ok-settle.ensures.used s.0 c.in-Asks.pairs s.1 s.2 c.wait.new.way.told c.wait.new.way.used c.wait.ensures.pages c.wait.ensures.used c.in_ok-polled-in-Asks.polled c.in_ok-polled-in-Asks.ensures.polled)

pub returns-in_ok-polled-in-Asks-clause-keeps : goal.returns-in_ok-polled-in-Asks-clause-keeps
returns-in_ok-polled-in-Asks-clause-keeps c = λ going.
    let p = c.args.plan.now in
    let old = c.args.way.now in
    let s = subst (λ (x : Stop). Stops (told_pages old.told) (left (lookups p) c.args.item old.work) old.work.notes x (left (lookups p) c.args.item c.work_on.new.work) c.work_on.new.work.notes c.work_on.new.work.page) c.in-Asks.is c.in_ok-pair.ensures.stops in
    let more : old.work.at + 0 ≤ c.work_on.new.work.at = subst (λ (x : Stop). old.work.at + saves_by x ≤ c.work_on.new.work.at) c.in-Asks.is c.in_ok-pair.ensures.moves in
    subst (λ (w : Way). Keeps p c.args.item w) (sym c.in_ok-polled-in-Asks.ensures.gone)
    (ask-keeps p c.args.item c.requires.plan c.requires.item old c.requires.keeps c.requires.closed c.requires.going c.work_on.new.work c.settle.new.last c.settle.new.used c.in_ok-settle.ensures.last c.in_ok-settle.ensures.used s.0 c.in-Asks.pairs s.1 s.2 c.wait.new.way.told c.wait.new.way.used c.wait.ensures.pages c.wait.ensures.used c.in_ok-pair.ensures.within (omega arith))

pub returns-in_ok-polled-in-Asks-clause-room : goal.returns-in_ok-polled-in-Asks-clause-room
returns-in_ok-polled-in-Asks-clause-room c =
    let p = c.args.plan.now in
    let old = c.args.way.now in
    let s = subst (λ (x : Stop). Stops (told_pages old.told) (left (lookups p) c.args.item old.work) old.work.notes x (left (lookups p) c.args.item c.work_on.new.work) c.work_on.new.work.notes c.work_on.new.work.page) c.in-Asks.is c.in_ok-pair.ensures.stops in
    subst (λ (w : Way). HasRoom w) (sym c.in_ok-polled-in-Asks.ensures.gone)
    (ask-room p c.args.item c.requires.plan c.requires.item old c.requires.keeps c.requires.closed c.requires.going c.work_on.new.work c.settle.new.last c.settle.new.used c.in_ok-settle.ensures.last c.in_ok-settle.ensures.used s.0 c.in-Asks.pairs s.1 s.2 c.wait.new.way.told c.wait.new.way.used c.wait.ensures.pages c.wait.ensures.used c.in_ok-polled-in-Asks.ensures.listed c.in_ok-polled-in-Asks.ensures.room)

pub returns-in_ok-polled-in-Done-clause-goes : goal.returns-in_ok-polled-in-Done-clause-goes
returns-in_ok-polled-in-Done-clause-goes c =
    let p = c.args.plan.now in
    let old = c.args.way.now in
    let s = subst (λ (x : Stop). Stops (told_pages old.told) (left (lookups p) c.args.item old.work) old.work.notes x (left (lookups p) c.args.item c.work_on.new.work) c.work_on.new.work.notes c.work_on.new.work.page) c.in-Done.is c.in_ok-pair.ensures.stops in
    subst (λ (w : Way). Goes plan_shape plan_run (way_meaning p c.args.item old) c.in_ok-polled-in-Done.polled (way_meaning p c.args.item w)) (sym c.in_ok-polled-in-Done.ensures.gone)
    (done-goes p c.args.item c.requires.plan c.requires.item old c.requires.keeps c.requires.closed c.requires.going c.work_on.new.work c.settle.new.last c.settle.new.used c.in_ok-settle.ensures.last c.in_ok-settle.ensures.used s.0 s.1 c.finish.new.way.work.notes c.in_ok-polled-in-Done.polled c.in_ok-polled-in-Done.ensures.polled)

pub returns-in_ok-polled-in-Done-clause-room : goal.returns-in_ok-polled-in-Done-clause-room
returns-in_ok-polled-in-Done-clause-room c = no-room c.args.plan.now c.args.item c.requires.plan c.requires.item c.finish.new.way (ap (λ (w : Way). w.awaits) c.in_ok-polled-in-Done.ensures.gone ∙ c.requires.closed)

pub returns-in-Fails-clause-goes : goal.returns-in-Fails-clause-goes
returns-in-Fails-clause-goes c =
    let p = c.args.plan.now in
    let old = c.args.way.now in
    let s = subst (λ (x : Stop). Stops (told_pages old.told) (left (lookups p) c.args.item old.work) old.work.notes x (left (lookups p) c.args.item c.work_on.new.work) c.work_on.new.work.notes c.work_on.new.work.page) c.in-Fails.is c.in_ok-pair.ensures.stops in
    fail-goes p c.args.item c.requires.plan c.requires.item old c.requires.keeps c.requires.closed c.requires.going c.work_on.new.work c.settle.new.last c.settle.new.used c.in_ok-settle.ensures.last c.in_ok-settle.ensures.used c.in-Fails.fault s.0 s.1

pub returns-in-Fails-clause-room : goal.returns-in-Fails-clause-room
returns-in-Fails-clause-room c = no-room c.args.plan.now c.args.item c.requires.plan c.requires.item _ c.requires.closed

pub returns-in_err-pair-clause-come : goal.returns-in_err-pair-clause-come
returns-in_err-pair-clause-come c =
    let p = c.args.plan.now in
    let old = c.args.way.now in
    come-settled (lookups p) c.args.item old _ (keeps-come p c.args.item old c.requires.keeps) (λ q. refl) refl c.in_ok-settle.ensures.last c.in_ok-settle.ensures.used

pub returns-in_err-polled-in-Saves-clause-come : goal.returns-in_err-polled-in-Saves-clause-come
returns-in_err-polled-in-Saves-clause-come c =
    let p = c.args.plan.now in
    let old = c.args.way.now in
    let has = keeps-come p c.args.item old c.requires.keeps in
    let mid : Way = record { work = c.work_on.new.work; told = old.told; awaits = old.awaits; given = old.given; last = c.settle.new.last; used = c.settle.new.used; is_ended = old.is_ended } in
    let come : HasCome (lookups p) c.args.item mid = come-settled (lookups p) c.args.item old mid has (λ q. refl) refl c.in_ok-settle.ensures.last c.in_ok-settle.ensures.used in
    come-same (lookups p) c.args.item mid c.give.new.way come c.in_err-polled-in-Saves.ensures.stays.told c.in_err-polled-in-Saves.ensures.stays.given c.in_err-polled-in-Saves.ensures.uses.last c.in_err-polled-in-Saves.ensures.uses.used

pub returns-in_err-polled-in-Asks-clause-come : goal.returns-in_err-polled-in-Asks-clause-come
returns-in_err-polled-in-Asks-clause-come c =
    let p = c.args.plan.now in
    let old = c.args.way.now in
    let has = keeps-come p c.args.item old c.requires.keeps in
    let mid : Way = record { work = c.work_on.new.work; told = old.told; awaits = old.awaits; given = old.given; last = c.settle.new.last; used = c.settle.new.used; is_ended = old.is_ended } in
    let come : HasCome (lookups p) c.args.item mid = come-settled (lookups p) c.args.item old mid has (λ q. refl) refl c.in_ok-settle.ensures.last c.in_ok-settle.ensures.used in
    come-same (lookups p) c.args.item mid c.wait.new.way come c.in_err-polled-in-Asks.ensures.stays.told c.in_err-polled-in-Asks.ensures.stays.given c.in_err-polled-in-Asks.ensures.uses.last c.in_err-polled-in-Asks.ensures.uses.used

pub returns-in_err-polled-in-Done-clause-come : goal.returns-in_err-polled-in-Done-clause-come
returns-in_err-polled-in-Done-clause-come c =
    let p = c.args.plan.now in
    let old = c.args.way.now in
    let has = keeps-come p c.args.item old c.requires.keeps in
    let mid : Way = record { work = c.work_on.new.work; told = old.told; awaits = old.awaits; given = old.given; last = c.settle.new.last; used = c.settle.new.used; is_ended = old.is_ended } in
    let come : HasCome (lookups p) c.args.item mid = come-settled (lookups p) c.args.item old mid has (λ q. refl) refl c.in_ok-settle.ensures.last c.in_ok-settle.ensures.used in
    come-same (lookups p) c.args.item mid c.finish.new.way come c.in_err-polled-in-Done.ensures.stays.told c.in_err-polled-in-Done.ensures.stays.given c.in_err-polled-in-Done.ensures.uses.last c.in_err-polled-in-Done.ensures.uses.used

pub returns-in_ok-polled-in-Saves-clause-come : goal.returns-in_ok-polled-in-Saves-clause-come
returns-in_ok-polled-in-Saves-clause-come c = keeps-come c.args.plan.now c.args.item c.give.new.way (returns-in_ok-polled-in-Saves-clause-keeps c (ap (λ (w : Way). w.is_ended) c.in_ok-polled-in-Saves.ensures.gone ∙ c.requires.going))

pub returns-in_ok-polled-in-Asks-clause-come : goal.returns-in_ok-polled-in-Asks-clause-come
returns-in_ok-polled-in-Asks-clause-come c = keeps-come c.args.plan.now c.args.item c.wait.new.way (returns-in_ok-polled-in-Asks-clause-keeps c (ap (λ (w : Way). w.is_ended) c.in_ok-polled-in-Asks.ensures.gone ∙ c.requires.going))

pub returns-in_ok-polled-in-Done-clause-come : goal.returns-in_ok-polled-in-Done-clause-come
returns-in_ok-polled-in-Done-clause-come c =
    let p = c.args.plan.now in
    let old = c.args.way.now in
    let has = keeps-come p c.args.item old c.requires.keeps in
    let mid : Way = record { work = c.work_on.new.work; told = old.told; awaits = old.awaits; given = old.given; last = c.settle.new.last; used = c.settle.new.used; is_ended = old.is_ended } in
    let come : HasCome (lookups p) c.args.item mid = come-settled (lookups p) c.args.item old mid has (λ q. refl) refl c.in_ok-settle.ensures.last c.in_ok-settle.ensures.used in
    let gone = c.in_ok-polled-in-Done.ensures.gone in
    come-same (lookups p) c.args.item mid c.finish.new.way come (λ q. ap (λ (w : Way). told_pages w.told q) gone) (ap (λ (w : Way). w.given) gone) (ap (λ (w : Way). w.last) gone) (ap (λ (w : Way). w.used.items) gone)

pub returns-in-Fails-clause-come : goal.returns-in-Fails-clause-come
returns-in-Fails-clause-come c =
    let p = c.args.plan.now in
    let old = c.args.way.now in
    come-settled (lookups p) c.args.item old _ (keeps-come p c.args.item old c.requires.keeps) (λ q. refl) refl c.in_ok-settle.ensures.last c.in_ok-settle.ensures.used
