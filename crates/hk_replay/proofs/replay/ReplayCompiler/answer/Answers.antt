use Rattle.std.proofs.Common.{◌≡◌, refl, sym, ap, ◌∙◌, subst, arith, ℕ, Bool, true, false, cond, not, ◌&&◌, List, [], filter, nat_eq, Contains}
use Rattle.std.specs.List.{AllByRecursion}
use Rattle.hk_fix.specs.Meaning.{Meaning, told_page}
use Rattle.hk_fix.proofs.Orders.{clash}
use Rattle.hk_fix.proofs.Steps.{contains-in}
use Rattle.hk_reuse.proofs.Lists.{all-at}
use Rattle.hk_fix.specs.Pages.{tell}
use Rattle.hk_replay.specs.Going.{both}
use Rattle.hk_replay.specs.Keeping.{ReplayView, meaning_of, open_of}
use Rattle.hk_replay.specs.Replays.{AreRecords}
use Rattle.hk_eval.specs.Told.{told_pages, is_listed}
use Rattle.hk_replay.proofs.Answering.{not-spent, keeps-used, answer-keeps, answer-room, each-other, open-now, told-either, told-inner}
use Rattle.hk_replay.proofs.replay.ReplayCompiler.answer.Goals as goal

pub invariant_of-self : goal.invariant_of-self
invariant_of-self g c =
    let meaning = g.M.Compiler.meaning in
    let shape = g.M.Compiler.shape in
    let run = g.M.Compiler.run in
    let r = c.self.inside in
    let w = r.way in
    let i = c.self.invariant in
    let m = meaning w.inner in
    let broken : w.is_broken ≡ true = c.if-self.true in
    let has : Contains (cond (w.is_broken && not r.is_spent) m.awaits w.awaits) c.args.pair = subst (λ (v : ReplayView g.row.M.Denot). Contains (meaning_of meaning v).awaits c.args.pair) (sym c.self.view_is) c.requires in
    let open_ : (r.is_spent ≡ false) → Contains (open_of meaning w) c.args.pair = λ e. subst (λ (l : List ℕ). Contains l c.args.pair) (open-now w.is_broken r.is_spent m.awaits w.awaits e) has in
    let e : meaning c.answer.new.self ≡ told_page m c.args.pair c.args.page = c.answer.ensures in
    let common : (meaning c.answer.new.self).common ≡ m.common = ap (λ (n : Meaning g.row.M-Common.Denot). n.common) e in
    let item : (meaning c.answer.new.self).item ≡ m.item = ap (λ (n : Meaning g.row.M-Common.Denot). n.item) e in
    let given : (meaning c.answer.new.self).given ≡ m.given = ap (λ (n : Meaning g.row.M-Common.Denot). n.given) e in
    let ended : (meaning c.answer.new.self).has_ended ≡ m.has_ended = ap (λ (n : Meaning g.row.M-Common.Denot). n.has_ended) e in
    let pages : (q : ℕ) → both (meaning c.answer.new.self).told (told_pages w.told) q ≡ tell (both m.told (told_pages w.told)) c.args.pair c.args.page q = λ q. ap (λ (n : Meaning g.row.M-Common.Denot). both n.told (told_pages w.told) q) e ∙ told-inner m.told (told_pages w.told) c.args.pair c.args.page q in
    let out : cond w.is_broken (meaning c.answer.new.self).awaits w.awaits ≡ filter (λ q. not (nat_eq c.args.pair q)) (open_of meaning w) = ap (λ (b : Bool). cond b (meaning c.answer.new.self).awaits w.awaits) broken ∙ (ap (λ (n : Meaning g.row.M-Common.Denot). n.awaits) e ∙ ap (λ (b : Bool). filter (λ q. not (nat_eq c.args.pair q)) (cond b m.awaits w.awaits)) (sym broken)) in
    let live : r.is_spent ≡ false = not-spent w.is_broken r.is_spent m.awaits w.awaits c.args.pair has i.nothing in
    record {
      valid_now = subst g.M.Compiler.valid (sym common) i.valid_now;
      fit = subst (λ x. AreRecords (shape x) r.records) (sym common) i.fit;
      item = omega (arith, i.item, item, ap (λ x. (shape x).items) common);
      keeps = λ s. answer-keeps meaning shape run r.records w c.args.pair c.args.page c.answer.new.self w.told w.awaits c.use_pair.new.pairs common item given ended pages (i.room s) (open_ s) (c.laws.ensures.lawful m.common i.valid_now) i.item (i.keeps s) c.use_pair.ensures.added (λ b. clash w.is_broken b broken) ((i.keeps s).own);
      room = λ s. answer-room meaning shape run r.records w c.args.pair c.args.page c.answer.new.self w.told w.awaits c.use_pair.new.pairs common item given ended pages (i.room s) (open_ s) c.use_pair.ensures.added c.use_pair.ensures.room out (λ b. clash w.is_broken b broken);
      nothing = i.nothing;
      used = keeps-used meaning run r.records _ (answer-keeps meaning shape run r.records w c.args.pair c.args.page c.answer.new.self w.told w.awaits c.use_pair.new.pairs common item given ended pages (i.room live) (open_ live) (c.laws.ensures.lawful m.common i.valid_now) i.item (i.keeps live) c.use_pair.ensures.added (λ b. clash w.is_broken b broken) ((i.keeps live).own));
    }

pub answer-requires-else-self : goal.answer-requires-else-self
answer-requires-else-self g c =
    let meaning = g.M.Compiler.meaning in
    let r = c.self.inside in
    let w = r.way in
    let i = c.self.invariant in
    let m = meaning w.inner in
    let whole : w.is_broken ≡ false = c.if-self.false in
    let has : Contains (cond (w.is_broken && not r.is_spent) m.awaits w.awaits) c.args.pair = subst (λ (v : ReplayView g.row.M.Denot). Contains (meaning_of meaning v).awaits c.args.pair) (sym c.self.view_is) c.requires in
    let own : Contains w.awaits c.args.pair = subst (λ (b : Bool). Contains (cond (b && not r.is_spent) m.awaits w.awaits) c.args.pair) whole has in
    elim r.is_spent as (λ b. r.is_spent ≡ b → is_listed w.told c.args.pair ≡ true) [
      | false ↦ λ e. all-at (λ p. is_listed w.told p ≡ true) w.awaits c.args.pair ((i.room e).listed whole) (contains-in w.awaits c.args.pair own)
      | true ↦ λ e. let no : Contains [] c.args.pair = subst (λ (l : List ℕ). Contains l c.args.pair) (i.nothing e) own in let z : false ≡ true = contains-in [] c.args.pair no in cc
    ] refl

pub invariant_of-self-else-self : goal.invariant_of-self-else-self
invariant_of-self-else-self g c =
    let meaning = g.M.Compiler.meaning in
    let shape = g.M.Compiler.shape in
    let run = g.M.Compiler.run in
    let r = c.self.inside in
    let w = r.way in
    let i = c.self.invariant in
    let m = meaning w.inner in
    let whole : w.is_broken ≡ false = c.if-self.false in
    let has : Contains (cond (w.is_broken && not r.is_spent) m.awaits w.awaits) c.args.pair = subst (λ (v : ReplayView g.row.M.Denot). Contains (meaning_of meaning v).awaits c.args.pair) (sym c.self.view_is) c.requires in
    let own : Contains w.awaits c.args.pair = subst (λ (b : Bool). Contains (cond (b && not r.is_spent) m.awaits w.awaits) c.args.pair) whole has in
    let open_ : Contains (open_of meaning w) c.args.pair = subst (λ (b : Bool). Contains (cond b m.awaits w.awaits) c.args.pair) (sym whole) own in
    let told2 = c.answer-else-self.new.self in
    let out : cond w.is_broken m.awaits c.take_out.new.self ≡ filter (λ q. not (nat_eq c.args.pair q)) (open_of meaning w) = ap (λ (b : Bool). cond b m.awaits c.take_out.new.self) whole ∙ (c.take_out.ensures ∙ ap (λ (b : Bool). filter (λ q. not (nat_eq c.args.pair q)) (cond b m.awaits w.awaits)) (sym whole)) in
    let listed : (s : r.is_spent ≡ false) → AllByRecursion (λ p. is_listed told2 p ≡ true) c.take_out.new.self = λ s. subst (AllByRecursion (λ p. is_listed told2 p ≡ true)) (sym c.take_out.ensures) (each-other c.args.pair (λ q. is_listed w.told q ≡ true) (λ q. is_listed told2 q ≡ true) (λ q e h. c.answer-else-self.ensures.kept q h) w.awaits ((i.room s).listed whole)) in
    let pages : (s : r.is_spent ≡ false) → (q : ℕ) → both m.told (told_pages told2) q ≡ tell (both m.told (told_pages w.told)) c.args.pair c.args.page q = λ s q. told-either m.told (told_pages w.told) (told_pages told2) c.args.pair c.args.page ((i.keeps s).early whole).told c.answer-else-self.ensures.pages q in
    let live : r.is_spent ≡ false = not-spent w.is_broken r.is_spent m.awaits w.awaits c.args.pair has i.nothing in
    record {
      valid_now = i.valid_now;
      fit = i.fit;
      item = i.item;
      keeps = λ s. answer-keeps meaning shape run r.records w c.args.pair c.args.page w.inner told2 c.take_out.new.self c.use_pair.new.pairs refl refl refl refl (pages s) (i.room s) open_ (c.laws.ensures.lawful m.common i.valid_now) i.item (i.keeps s) c.use_pair.ensures.added (i.keeps s).early (λ b. clash w.is_broken whole b);
      room = λ s. answer-room meaning shape run r.records w c.args.pair c.args.page w.inner told2 c.take_out.new.self c.use_pair.new.pairs refl refl refl refl (pages s) (i.room s) open_ c.use_pair.ensures.added c.use_pair.ensures.room out (λ b. listed s);
      nothing = λ s. c.take_out.ensures ∙ ap (filter (λ q. not (nat_eq c.args.pair q))) (i.nothing s);
      used = keeps-used meaning run r.records _ (answer-keeps meaning shape run r.records w c.args.pair c.args.page w.inner told2 c.take_out.new.self c.use_pair.new.pairs refl refl refl refl (pages live) (i.room live) open_ (c.laws.ensures.lawful m.common i.valid_now) i.item (i.keeps live) c.use_pair.ensures.added (i.keeps live).early (λ b. clash w.is_broken whole b));
    }
