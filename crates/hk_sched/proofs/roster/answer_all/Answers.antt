use Rattle.std.proofs.Common.{◌≡◌, ◌∙◌, ap, sym, length, arith, true}
use Rattle.hk_fix.specs.Facts.{is_in}
use Rattle.hk_fix.specs.Meaning.{Meaning}
use Rattle.hk_chain.specs.Kept.{at_place}
use Rattle.hk_sched.proofs.Answering.{none-told, one-more, fewer-await, told-all, first-in, none-lacking, still-first, empty-of, some-of}
use Rattle.hk_sched.proofs.roster.answer_all.Goals as goal

pub loop-open-init : goal.loop-open-init
loop-open-init g c = none-told (at_place c.args.known.now) (g.M.Compiler.meaning c.args.machine)

pub returns-then-is_empty : goal.returns-then-is_empty
returns-then-is_empty g c =
    told-all (at_place c.args.known.now) (g.M.Compiler.meaning c.args.machine) (g.M.Compiler.meaning c.loop-open.machine) c.loop-open.invariant
    (sym c.open_pairs-open.ensures ∙ empty-of c.open_pairs-open.result.now c.if-is_empty.ensures)

pub page_of-requires : goal.page_of-requires
page_of-requires g c =
    let here : is_in (g.M.Compiler.meaning c.loop-open.machine).awaits c.index-open-0.result ≡ true =
    rw (← c.open_pairs-open.ensures) (first-in c.open_pairs-open.result.now c.index-open-0.result (some-of c.open_pairs-open.result.now c.if-is_empty.ensures) c.index-open-0.is) in
    none-lacking (at_place c.args.known.now) (g.M.Compiler.meaning c.args.machine).awaits c.requires c.index-open-0.result (still-first (at_place c.args.known.now) (g.M.Compiler.meaning c.args.machine) (g.M.Compiler.meaning c.loop-open.machine) c.loop-open.invariant c.index-open-0.result here)

pub loop-open-preserved : goal.loop-open-preserved
loop-open-preserved g c =
    let here : is_in (g.M.Compiler.meaning c.loop-open.machine).awaits c.index-open-0.result ≡ true =
    rw (← c.open_pairs-open.ensures) (first-in c.open_pairs-open.result.now c.index-open-0.result (some-of c.open_pairs-open.result.now c.if-is_empty.ensures) c.index-open-0.is) in
    rw c.answer.ensures (one-more (at_place c.args.known.now) (g.M.Compiler.meaning c.args.machine) (g.M.Compiler.meaning c.loop-open.machine) c.loop-open.invariant c.index-open-0.result c.in-Ok.page here c.in-Ok.ensures)

pub loop-open-smaller : goal.loop-open-smaller
loop-open-smaller g c =
    let here : is_in (g.M.Compiler.meaning c.loop-open.machine).awaits c.index-open-0.result ≡ true =
    rw (← c.open_pairs-open.ensures) (first-in c.open_pairs-open.result.now c.index-open-0.result (some-of c.open_pairs-open.result.now c.if-is_empty.ensures) c.index-open-0.is) in
    let less = fewer-await (at_place c.args.known.now) (g.M.Compiler.meaning c.args.machine) (g.M.Compiler.meaning c.loop-open.machine) c.loop-open.invariant c.index-open-0.result c.in-Ok.page here in
    let same = ap (λ (m : Meaning g.row.M-Common.Denot). length m.awaits) c.answer.ensures in
    omega (arith, less, same)
