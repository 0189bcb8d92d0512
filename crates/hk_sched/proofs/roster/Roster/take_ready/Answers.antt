use Rattle.std.proofs.Common.{refl, map, arith, subst, Ok}
use Rattle.hk_sched.specs.Standings.{RosterView}
use Rattle.hk_sched.specs.Places.{standing}
use Rattle.hk_sched.specs.declared.turn.Ready.TheVariants as ready
use Rattle.hk_sched.specs.Turns.{Takes, TakesReady, ToldOne}
use Rattle.hk_sched.proofs.Rosters.{many-stacks}
use Rattle.hk_sched.proofs.Taking.{woken-held, woken-lacks, out-fits, told-fits, fresh-begin, begin-fits, begin-takes}
use Rattle.hk_sched.proofs.roster.Roster.take_ready.Goals as goal

pub invariant_of-self : goal.invariant_of-self
invariant_of-self g c =
    begin-fits g.M.Compiler.meaning c.self.inside.known.items (map standing c.self.inside.places.items) c.self.inside.cursors.items c.self.inside.stacks c.self.invariant c.begin.result _ _ (rw c.in_default.ensures.1 at c.begin.ensures)

pub returns-in_default : goal.returns-in_default
returns-in_default g c =
    subst (λ (r : RosterView g.row.M.Denot). Takes g.M.Compiler.meaning r (Ok c.begin.result) (record { known = c.self.inside.known.items; places = map standing c.begin.new.places.items })) c.self.view_is
    (begin-takes g.M.Compiler.meaning c.self.inside.known.items (map standing c.self.inside.places.items) c.self.inside.cursors.items c.self.inside.stacks c.self.invariant c.begin.result _ _ (rw c.in_default.ensures.1 at c.begin.ensures) c.in_default.ensures.0)

pub resume-requires : goal.resume-requires
resume-requires g c =
    rw c.deref.ensures.value (woken-held g.M.Compiler.meaning c.self.inside.known.items (map standing c.self.inside.places.items) c.self.inside.cursors.items c.self.inside.stacks c.self.invariant c.in-Some.item c.in-Some.ensures.1)

pub invariant_of-self-in-Ok : goal.invariant_of-self-in-Ok
invariant_of-self-in-Ok g c =
    let many = many-stacks g.M.Compiler.meaning c.self.inside.known.items (map standing c.self.inside.places.items) c.self.inside.cursors.items c.self.inside.stacks c.self.invariant in
    rw (c.in-Ok.ensures.3, c.in-Some.ensures.2)
    (out-fits g.M.Compiler.meaning c.self.inside.known.items (map standing c.self.inside.places.items) c.self.inside.cursors.items c.self.inside.stacks c.self.invariant c.in-Some.item (omega (arith, c.in-Some.ensures.0, many)))

pub returns-in-Ok : goal.returns-in-Ok
returns-in-Ok g c =
    let many = many-stacks g.M.Compiler.meaning c.self.inside.known.items (map standing c.self.inside.places.items) c.self.inside.cursors.items c.self.inside.stacks c.self.invariant in
    subst (λ (r : RosterView g.row.M.Denot). TakesReady g.M.Compiler.meaning r (ready.Woken c.in-Ok.machine) (record { known = c.self.inside.known.items; places = map standing c.resume.new.places.items })) c.self.view_is (
      c.in-Some.item,
      c.in-Ok.ensures.0,
      omega (arith, c.in-Some.ensures.0, many),
      c.in-Ok.ensures.1,
      woken-lacks g.M.Compiler.meaning c.self.inside.known.items (map standing c.self.inside.places.items) c.self.inside.cursors.items c.self.inside.stacks c.self.invariant c.in-Some.item c.in-Ok.ensures.0 c.in-Some.ensures.1 c.in-Ok.ensures.1,
      rw c.deref.ensures.value at c.in-Ok.ensures.2,
      rw c.in-Ok.ensures.3 refl,
    )

pub invariant_of-self-in-Err : goal.invariant_of-self-in-Err
invariant_of-self-in-Err g c =
    let many = many-stacks g.M.Compiler.meaning c.self.inside.known.items (map standing c.self.inside.places.items) c.self.inside.cursors.items c.self.inside.stacks c.self.invariant in
    let lacks = woken-lacks g.M.Compiler.meaning c.self.inside.known.items (map standing c.self.inside.places.items) c.self.inside.cursors.items c.self.inside.stacks c.self.invariant c.in-Some.item c.in-Err.ensures.0 c.in-Some.ensures.1 c.in-Err.ensures.2 in
    rw (c.in-Err.ensures.4, c.push.ensures, c.in-Some.ensures.2, c.item.view_is)
    (told-fits g.M.Compiler.meaning c.self.inside.known.items (map standing c.self.inside.places.items) c.self.inside.cursors.items c.self.inside.stacks c.self.invariant c.in-Some.item c.in-Err.ensures.0 c.in-Err.ensures.1 (omega (arith, c.in-Some.ensures.0, many))
    c.in-Err.ensures.2 lacks (rw c.deref.ensures.value at c.in-Err.ensures.3))

pub returns-in-Err : goal.returns-in-Err
returns-in-Err g c =
    let many = many-stacks g.M.Compiler.meaning c.self.inside.known.items (map standing c.self.inside.places.items) c.self.inside.cursors.items c.self.inside.stacks c.self.invariant in
    subst (λ (r : RosterView g.row.M.Denot). ToldOne g.M.Compiler.meaning r (record { known = c.self.inside.known.items; places = map standing c.resume.new.places.items })) c.self.view_is (
      c.in-Some.item,
      c.in-Err.ensures.0,
      c.in-Err.ensures.1,
      omega (arith, c.in-Some.ensures.0, many),
      c.in-Err.ensures.2,
      woken-lacks g.M.Compiler.meaning c.self.inside.known.items (map standing c.self.inside.places.items) c.self.inside.cursors.items c.self.inside.stacks c.self.invariant c.in-Some.item c.in-Err.ensures.0 c.in-Some.ensures.1 c.in-Err.ensures.2,
      rw c.deref.ensures.value at c.in-Err.ensures.3,
      rw c.in-Err.ensures.4 refl,
    )

pub begin-requires-clause-fresh : goal.begin-requires-clause-fresh
begin-requires-clause-fresh g c =
    rw c.in_default.ensures.1 (fresh-begin g.M.Compiler.meaning c.self.inside.known.items (map standing c.self.inside.places.items) c.self.inside.cursors.items c.self.inside.stacks c.self.invariant)
