use Rattle.std.proofs.Common.{◌≡◌, sym, ap, subst, arith}
use Rattle.hk_fix.proofs.Orders.{clash}
use Rattle.hk_replay.specs.Keeping.{HeldView, Keeps, over_shape, over_run, way_meaning}
use Rattle.hk_replay.specs.Replays.{AreRecords}
use Rattle.hk_replay.specs.declared.record.Records.{Records}
use Rattle.hk_replay.proofs.Answering.{goes-same, keeps-used}
use Rattle.hk_replay.proofs.replay.ReplayCompiler.poll.Goals as goal

pub invariant_of-self : goal.invariant_of-self
invariant_of-self g c =
    let meaning = g.M.Compiler.meaning in
    let shape = g.M.Compiler.shape in
    let run = g.M.Compiler.run in
    let r = c.self.inside in
    let i = c.self.invariant in
    let new = c.go.new.way in
    let same = goes-same (over_shape shape) (over_run run) (way_meaning meaning c.get.result.now r.way) (way_meaning meaning c.get.result.now new) c.in-Ok.polled c.in-Ok.ensures.goes in
    let common : (meaning new.inner).common ≡ (meaning r.way.inner).common = ap (λ (h : HeldView g.row.M-Common.Denot). h.inner) same.0 in
    let item : (meaning new.inner).item ≡ (meaning r.way.inner).item = same.1 in
    let keeps : Keeps meaning run r.records new = subst (λ (x : Records). Keeps meaning run x new) c.get.ensures c.in-Ok.ensures.keeps in
    record {
      valid_now = subst g.M.Compiler.valid (sym common) i.valid_now;
      fit = subst (λ x. AreRecords (shape x) r.records) (sym common) i.fit;
      item = omega (arith, i.item, item, ap (λ x. (shape x).items) common);
      keeps = λ s. keeps;
      room = λ s. c.in-Ok.ensures.room;
      nothing = λ s. clash r.is_spent c.if-self.false s;
      used = keeps-used meaning run r.records new keeps;
    }
