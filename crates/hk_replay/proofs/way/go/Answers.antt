use Rattle.std.proofs.Common.{refl, subst, Option}
use Rattle.hk_fix.specs.declared.polled.Polled.{Polled}
use Rattle.hk_replay.specs.declared.way.Way.{Way}
use Rattle.hk_replay.specs.Keeping.{Keeps}
use Rattle.hk_replay.specs.Turning.{Turns}
use Rattle.hk_replay.proofs.Holding.{settled-keeps}
use Rattle.hk_replay.proofs.Answering.{stays-then, err-map, err-both, on-err, keeps-used, used-same, used-stays}
use Rattle.hk_replay.proofs.way.go.Goals as goal

pub go_on-requires-clause-keeps : goal.go_on-requires-clause-keeps
go_on-requires-clause-keeps g c = settled-keeps g.M.Compiler.meaning g.M.Compiler.shape g.M.Compiler.run c.args.records.now c.args.way.now c.requires.keeps c.settle.new.last c.settle.new.used c.in_ok-settle.ensures.last c.in_ok-settle.ensures.used

pub go_record-requires-clause-keeps : goal.go_record-requires-clause-keeps
go_record-requires-clause-keeps g c = settled-keeps g.M.Compiler.meaning g.M.Compiler.shape g.M.Compiler.run c.args.records.now c.args.way.now c.requires.keeps c.settle.new.last c.settle.new.used c.in_ok-settle.ensures.last c.in_ok-settle.ensures.used

pub returns-in-None-clause-stays : goal.returns-in-None-clause-stays
returns-in-None-clause-stays g c =
    let meaning = g.M.Compiler.meaning in
    let w = c.args.way.now in
    let mid = c.go_record.new.way in
    let settled : Way g.row.M.Denot = record { inner = w.inner; told = w.told; awaits = w.awaits; used = c.settle.new.used; given = w.given; last = c.settle.new.last; at = w.at; kept = w.kept; is_broken = w.is_broken; is_ended = w.is_ended } in
    let turns = subst (λ (o : Option Polled). Turns meaning g.M.Compiler.shape g.M.Compiler.run c.args.records.now settled o mid) c.in-None.is c.in_ok-polled.ensures.turns in
    err-map c.go_on-in-None.result (stays-then meaning c.args.records.now w settled mid c.go_on-in-None.new.way refl refl refl (λ q. refl) refl turns.0 turns.1 turns.3) c.go_on-in-None.ensures.stays

-- what was used, where a poll wants memory
pub returns-in_err-settle-clause-used : goal.returns-in_err-settle-clause-used
returns-in_err-settle-clause-used g c = on-err c.from_residual.result (used-same g.M.Compiler.meaning g.M.Compiler.run c.args.records.now c.args.way.now c.settle.new.last c.settle.new.used c.in_err-settle.ensures.same.0 c.in_err-settle.ensures.same.1 (keeps-used g.M.Compiler.meaning g.M.Compiler.run c.args.records.now c.args.way.now c.requires.keeps))

pub returns-then-way-clause-used : goal.returns-then-way-clause-used
returns-then-way-clause-used g c =
    let meaning = g.M.Compiler.meaning in
    let run = g.M.Compiler.run in
    let w = c.args.way.now in
    let records = c.args.records.now in
    let settled : Way g.row.M.Denot = record { inner = w.inner; told = w.told; awaits = w.awaits; used = c.settle.new.used; given = w.given; last = c.settle.new.last; at = w.at; kept = w.kept; is_broken = w.is_broken; is_ended = w.is_ended } in
    let keeps : Keeps meaning run records settled = settled-keeps meaning g.M.Compiler.shape run records w c.requires.keeps c.settle.new.last c.settle.new.used c.in_ok-settle.ensures.last c.in_ok-settle.ensures.used in
    err-both c.go_on.result (λ s u. used-stays meaning run records settled c.go_on.new.way s u (keeps-used meaning run records settled keeps)) c.go_on.ensures.stays c.go_on.ensures.uses

pub returns-in_err-polled-clause-used : goal.returns-in_err-polled-clause-used
returns-in_err-polled-clause-used g c =
    let meaning = g.M.Compiler.meaning in
    let run = g.M.Compiler.run in
    let w = c.args.way.now in
    let records = c.args.records.now in
    let settled : Way g.row.M.Denot = record { inner = w.inner; told = w.told; awaits = w.awaits; used = c.settle.new.used; given = w.given; last = c.settle.new.last; at = w.at; kept = w.kept; is_broken = w.is_broken; is_ended = w.is_ended } in
    let keeps : Keeps meaning run records settled = settled-keeps meaning g.M.Compiler.shape run records w c.requires.keeps c.settle.new.last c.settle.new.used c.in_ok-settle.ensures.last c.in_ok-settle.ensures.used in
    on-err c.from_residual-in_err-polled.result (used-stays meaning run records settled c.go_record.new.way c.in_err-polled.ensures.stays c.in_err-polled.ensures.uses (keeps-used meaning run records settled keeps))

pub returns-in-None-clause-used : goal.returns-in-None-clause-used
returns-in-None-clause-used g c =
    let meaning = g.M.Compiler.meaning in
    let run = g.M.Compiler.run in
    let records = c.args.records.now in
    let mid = c.go_record.new.way in
    err-both c.go_on-in-None.result (λ s u. used-stays meaning run records mid c.go_on-in-None.new.way s u (keeps-used meaning run records mid c.in_ok-polled.ensures.keeps)) c.go_on-in-None.ensures.stays c.go_on-in-None.ensures.uses
