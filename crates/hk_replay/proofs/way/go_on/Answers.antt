use Rattle.std.proofs.Common.{◌≡◌, refl, ap, ◌∙◌, subst, arith, ℕ, ◌+◌, ◌≤◌, Bool, cond, [], List, length, take}
use Rattle.std.specs.BTreeSet.{contains}
use Rattle.std.specs.Ordering.{nat_cmp}
use Rattle.std.specs.Vec.{vec_capacity}
use Rattle.hk_fix.specs.Facts.{is_in}
use Rattle.hk_fix.specs.declared.polled.Polled.{Polled}
use Rattle.hk_fix.specs.declared.polled.Polled.TheVariants as polled
use Rattle.hk_fix.specs.Run.{Save, IsRun}
use Rattle.hk_reuse.proofs.Over.{IsRunOf, inner-laws}
use Rattle.hk_replay.specs.declared.record.Step.{Step}
use Rattle.hk_replay.specs.Going.{InnerGoes, SameKnown}
use Rattle.hk_replay.specs.Keeping.{front_of}
use Rattle.hk_replay.specs.Merging.{broken_facts}
use Rattle.hk_replay.specs.Replays.{record_at, steps_of, kept_by, over}
use Rattle.hk_eval.specs.Told.{told_pages}
use Rattle.hk_replay.specs.Lawful.{run-of}
use Rattle.hk_replay.proofs.Holding.{saved-goes-2, saved-keeps-2, asks-goes-2, asks-keeps-2, asks-room-2, done-goes-2, failed-goes-2, ended-keeps-2, no-room}
use Rattle.hk_replay.proofs.way.go_on.Goals as goal

pub returns-in-Saved-clause-goes : goal.returns-in-Saved-clause-goes
returns-in-Saved-clause-goes g c =
    let shape = g.M.Compiler.shape in
    let run = g.M.Compiler.run in
    let meaning = g.M.Compiler.meaning in
    let w = c.args.way.now in
    let records = c.args.records.now in
    let m = meaning w.inner in
    let k = told_pages w.told in
    let keeps = c.requires.keeps in
    let broken = c.requires.broken in
    let inner2 = c.go_inner.new.inner in
    let n = meaning inner2 in
    let known : SameKnown k m n = c.go_inner.ensures.same in
    let front : take w.at c.steps_of-steps.result.now ≡ front_of meaning records w = ap (take w.at) (c.steps_of-steps.ensures ∙ ap (λ (i : ℕ). steps_of (record_at records i)) c.item.ensures) in
    let goes : InnerGoes run k shape (is_in (kept_by [] (front_of meaning records w))) m (polled.Saved c.in-Saved.pair c.in-Saved.page) n = subst (λ (h : ℕ → Bool). InnerGoes run k shape h m (polled.Saved c.in-Saved.pair c.in-Saved.page) n) (keeps.kept broken) (subst (λ (p : Polled). InnerGoes run k shape (contains nat_cmp w.kept) m p n) c.in-Saved.is c.in_ok-pair.ensures.goes) in
    let s : Save = record { pair = c.in-Saved.pair; page = c.in-Saved.page } in
    saved-goes-2 meaning shape run records w keeps broken c.requires.settled c.requires.closed inner2 known s goes c.in-Saved.pair c.in-Saved.page refl

pub returns-in-Saved-clause-keeps : goal.returns-in-Saved-clause-keeps
returns-in-Saved-clause-keeps g c =
    let shape = g.M.Compiler.shape in
    let run = g.M.Compiler.run in
    let meaning = g.M.Compiler.meaning in
    let w = c.args.way.now in
    let records = c.args.records.now in
    let m = meaning w.inner in
    let k = told_pages w.told in
    let keeps = c.requires.keeps in
    let broken = c.requires.broken in
    let inner2 = c.go_inner.new.inner in
    let n = meaning inner2 in
    let known : SameKnown k m n = c.go_inner.ensures.same in
    let front : take w.at c.steps_of-steps.result.now ≡ front_of meaning records w = ap (take w.at) (c.steps_of-steps.ensures ∙ ap (λ (i : ℕ). steps_of (record_at records i)) c.item.ensures) in
    let goes : InnerGoes run k shape (is_in (kept_by [] (front_of meaning records w))) m (polled.Saved c.in-Saved.pair c.in-Saved.page) n = subst (λ (h : ℕ → Bool). InnerGoes run k shape h m (polled.Saved c.in-Saved.pair c.in-Saved.page) n) (keeps.kept broken) (subst (λ (p : Polled). InnerGoes run k shape (contains nat_cmp w.kept) m p n) c.in-Saved.is c.in_ok-pair.ensures.goes) in
    let s : Save = record { pair = c.in-Saved.pair; page = c.in-Saved.page } in
    saved-keeps-2 meaning shape run records w keeps broken c.requires.settled c.requires.closed inner2 known s goes c.requires.going

pub returns-in-Saved-clause-room : goal.returns-in-Saved-clause-room
returns-in-Saved-clause-room g c =
    let shape = g.M.Compiler.shape in
    let run = g.M.Compiler.run in
    let meaning = g.M.Compiler.meaning in
    let w = c.args.way.now in
    let records = c.args.records.now in
    let m = meaning w.inner in
    let k = told_pages w.told in
    let keeps = c.requires.keeps in
    let broken = c.requires.broken in
    let inner2 = c.go_inner.new.inner in
    let n = meaning inner2 in
    let known : SameKnown k m n = c.go_inner.ensures.same in
    let front : take w.at c.steps_of-steps.result.now ≡ front_of meaning records w = ap (take w.at) (c.steps_of-steps.ensures ∙ ap (λ (i : ℕ). steps_of (record_at records i)) c.item.ensures) in
    let goes : InnerGoes run k shape (is_in (kept_by [] (front_of meaning records w))) m (polled.Saved c.in-Saved.pair c.in-Saved.page) n = subst (λ (h : ℕ → Bool). InnerGoes run k shape h m (polled.Saved c.in-Saved.pair c.in-Saved.page) n) (keeps.kept broken) (subst (λ (p : Polled). InnerGoes run k shape (contains nat_cmp w.kept) m p n) c.in-Saved.is c.in_ok-pair.ensures.goes) in
    let s : Save = record { pair = c.in-Saved.pair; page = c.in-Saved.page } in
    let open_ : cond w.is_broken n.awaits w.awaits ≡ [] = ap (λ b. cond b n.awaits w.awaits) broken ∙ goes.closed in
    no-room meaning _ open_ (λ b. keeps.own broken)

pub returns-in_ok-reserve-in-Ask-clause-goes : goal.returns-in_ok-reserve-in-Ask-clause-goes
returns-in_ok-reserve-in-Ask-clause-goes g c =
    let shape = g.M.Compiler.shape in
    let run = g.M.Compiler.run in
    let meaning = g.M.Compiler.meaning in
    let w = c.args.way.now in
    let records = c.args.records.now in
    let m = meaning w.inner in
    let k = told_pages w.told in
    let keeps = c.requires.keeps in
    let broken = c.requires.broken in
    let inner2 = c.go_inner.new.inner in
    let n = meaning inner2 in
    let known : SameKnown k m n = c.go_inner.ensures.same in
    let front : take w.at c.steps_of-steps.result.now ≡ front_of meaning records w = ap (take w.at) (c.steps_of-steps.ensures ∙ ap (λ (i : ℕ). steps_of (record_at records i)) c.item.ensures) in
    let goes : InnerGoes run k shape (is_in (kept_by [] (front_of meaning records w))) m polled.Ask n = subst (λ (h : ℕ → Bool). InnerGoes run k shape h m polled.Ask n) (keeps.kept broken) (subst (λ (p : Polled). InnerGoes run k shape (contains nat_cmp w.kept) m p n) c.in-Ask.is c.in_ok-pair.ensures.goes) in
    let same : c.reserve.new.self.items ≡ w.used.items = c.reserve.ensures.items in
    asks-goes-2 meaning shape run records w keeps broken c.requires.settled c.requires.closed inner2 known goes.0 c.reserve.new.self goes.1

pub returns-in_ok-reserve-in-Ask-clause-keeps : goal.returns-in_ok-reserve-in-Ask-clause-keeps
returns-in_ok-reserve-in-Ask-clause-keeps g c =
    let shape = g.M.Compiler.shape in
    let run = g.M.Compiler.run in
    let meaning = g.M.Compiler.meaning in
    let w = c.args.way.now in
    let records = c.args.records.now in
    let m = meaning w.inner in
    let k = told_pages w.told in
    let keeps = c.requires.keeps in
    let broken = c.requires.broken in
    let inner2 = c.go_inner.new.inner in
    let n = meaning inner2 in
    let known : SameKnown k m n = c.go_inner.ensures.same in
    let front : take w.at c.steps_of-steps.result.now ≡ front_of meaning records w = ap (take w.at) (c.steps_of-steps.ensures ∙ ap (λ (i : ℕ). steps_of (record_at records i)) c.item.ensures) in
    let goes : InnerGoes run k shape (is_in (kept_by [] (front_of meaning records w))) m polled.Ask n = subst (λ (h : ℕ → Bool). InnerGoes run k shape h m polled.Ask n) (keeps.kept broken) (subst (λ (p : Polled). InnerGoes run k shape (contains nat_cmp w.kept) m p n) c.in-Ask.is c.in_ok-pair.ensures.goes) in
    let same : c.reserve.new.self.items ≡ w.used.items = c.reserve.ensures.items in
    asks-keeps-2 meaning shape run records w keeps broken c.requires.settled c.requires.closed inner2 known goes.0 c.reserve.new.self same goes.2

pub returns-in_ok-reserve-in-Ask-clause-room : goal.returns-in_ok-reserve-in-Ask-clause-room
returns-in_ok-reserve-in-Ask-clause-room g c =
    let shape = g.M.Compiler.shape in
    let run = g.M.Compiler.run in
    let meaning = g.M.Compiler.meaning in
    let w = c.args.way.now in
    let records = c.args.records.now in
    let m = meaning w.inner in
    let k = told_pages w.told in
    let keeps = c.requires.keeps in
    let broken = c.requires.broken in
    let inner2 = c.go_inner.new.inner in
    let n = meaning inner2 in
    let known : SameKnown k m n = c.go_inner.ensures.same in
    let front : take w.at c.steps_of-steps.result.now ≡ front_of meaning records w = ap (take w.at) (c.steps_of-steps.ensures ∙ ap (λ (i : ℕ). steps_of (record_at records i)) c.item.ensures) in
    let goes : InnerGoes run k shape (is_in (kept_by [] (front_of meaning records w))) m polled.Ask n = subst (λ (h : ℕ → Bool). InnerGoes run k shape h m polled.Ask n) (keeps.kept broken) (subst (λ (p : Polled). InnerGoes run k shape (contains nat_cmp w.kept) m p n) c.in-Ask.is c.in_ok-pair.ensures.goes) in
    let same : c.reserve.new.self.items ≡ w.used.items = c.reserve.ensures.items in
    let inner_laws : IsRun (shape m.common) (run m.common) = c.laws.ensures.lawful m.common c.requires.valid in
    let law : IsRunOf (shape m.common) m.item (over records (run m.common) m.item) = run-of (shape m.common) (run m.common) inner_laws records c.requires.fit m.item c.requires.item in
    let room : length w.used.items + length n.awaits ≤ vec_capacity c.reserve.new.self = omega (arith, c.in_ok-reserve-in-Ask.ensures.ok, ap length c.open_pairs.ensures) in
    asks-room-2 meaning shape run records w keeps broken c.requires.settled c.requires.closed inner2 known goes.0 law c.reserve.new.self goes.1 same room

pub returns-in_ok-facts-in-Done-clause-goes : goal.returns-in_ok-facts-in-Done-clause-goes
returns-in_ok-facts-in-Done-clause-goes g c =
    let shape = g.M.Compiler.shape in
    let run = g.M.Compiler.run in
    let meaning = g.M.Compiler.meaning in
    let w = c.args.way.now in
    let records = c.args.records.now in
    let m = meaning w.inner in
    let k = told_pages w.told in
    let keeps = c.requires.keeps in
    let broken = c.requires.broken in
    let inner2 = c.go_inner.new.inner in
    let n = meaning inner2 in
    let known : SameKnown k m n = c.go_inner.ensures.same in
    let front : take w.at c.steps_of-steps.result.now ≡ front_of meaning records w = ap (take w.at) (c.steps_of-steps.ensures ∙ ap (λ (i : ℕ). steps_of (record_at records i)) c.item.ensures) in
    let goes : InnerGoes run k shape (is_in (kept_by [] (front_of meaning records w))) m (polled.Done c.in-Done.page c.in-Done.facts) n = subst (λ (h : ℕ → Bool). InnerGoes run k shape h m (polled.Done c.in-Done.page c.in-Done.facts) n) (keeps.kept broken) (subst (λ (p : Polled). InnerGoes run k shape (contains nat_cmp w.kept) m p n) c.in-Done.is c.in_ok-pair.ensures.goes) in
    let inner_laws : IsRun (shape m.common) (run m.common) = c.laws.ensures.lawful m.common c.requires.valid in
    let law : IsRunOf (shape m.common) m.item (over records (run m.common) m.item) = run-of (shape m.common) (run m.common) inner_laws records c.requires.fit m.item c.requires.item in
    let facts : c.in_ok-facts-in-Done.facts ≡ broken_facts (is_in (kept_by [] (front_of meaning records w))) (front_of meaning records w) c.in-Done.facts = c.in_ok-facts-in-Done.ensures ∙ (ap (λ (l : List Step). broken_facts (contains nat_cmp w.kept) l c.in-Done.facts) front ∙ ap (λ (h : ℕ → Bool). broken_facts h (front_of meaning records w) c.in-Done.facts) (keeps.kept broken)) in
    done-goes-2 meaning shape run records w keeps broken c.requires.settled c.requires.closed inner2 known goes.0 law (inner-laws (shape m.common) (run m.common) inner_laws m.item c.requires.item) c.in-Done.page c.in-Done.facts c.in_ok-facts-in-Done.facts goes.1 goes.2 facts goes.3

pub returns-in_ok-facts-in-Done-clause-keeps : goal.returns-in_ok-facts-in-Done-clause-keeps
returns-in_ok-facts-in-Done-clause-keeps g c =
    let shape = g.M.Compiler.shape in
    let run = g.M.Compiler.run in
    let meaning = g.M.Compiler.meaning in
    let w = c.args.way.now in
    let records = c.args.records.now in
    let m = meaning w.inner in
    let k = told_pages w.told in
    let keeps = c.requires.keeps in
    let broken = c.requires.broken in
    let inner2 = c.go_inner.new.inner in
    let n = meaning inner2 in
    let known : SameKnown k m n = c.go_inner.ensures.same in
    let front : take w.at c.steps_of-steps.result.now ≡ front_of meaning records w = ap (take w.at) (c.steps_of-steps.ensures ∙ ap (λ (i : ℕ). steps_of (record_at records i)) c.item.ensures) in
    let goes : InnerGoes run k shape (is_in (kept_by [] (front_of meaning records w))) m (polled.Done c.in-Done.page c.in-Done.facts) n = subst (λ (h : ℕ → Bool). InnerGoes run k shape h m (polled.Done c.in-Done.page c.in-Done.facts) n) (keeps.kept broken) (subst (λ (p : Polled). InnerGoes run k shape (contains nat_cmp w.kept) m p n) c.in-Done.is c.in_ok-pair.ensures.goes) in
    let inner_laws : IsRun (shape m.common) (run m.common) = c.laws.ensures.lawful m.common c.requires.valid in
    let law : IsRunOf (shape m.common) m.item (over records (run m.common) m.item) = run-of (shape m.common) (run m.common) inner_laws records c.requires.fit m.item c.requires.item in
    ended-keeps-2 meaning shape run records w keeps broken c.requires.settled c.requires.closed inner2 known goes.0

pub returns-in_ok-facts-in-Done-clause-room : goal.returns-in_ok-facts-in-Done-clause-room
returns-in_ok-facts-in-Done-clause-room g c =
    let shape = g.M.Compiler.shape in
    let run = g.M.Compiler.run in
    let meaning = g.M.Compiler.meaning in
    let w = c.args.way.now in
    let records = c.args.records.now in
    let m = meaning w.inner in
    let k = told_pages w.told in
    let keeps = c.requires.keeps in
    let broken = c.requires.broken in
    let inner2 = c.go_inner.new.inner in
    let n = meaning inner2 in
    let known : SameKnown k m n = c.go_inner.ensures.same in
    let front : take w.at c.steps_of-steps.result.now ≡ front_of meaning records w = ap (take w.at) (c.steps_of-steps.ensures ∙ ap (λ (i : ℕ). steps_of (record_at records i)) c.item.ensures) in
    let goes : InnerGoes run k shape (is_in (kept_by [] (front_of meaning records w))) m (polled.Done c.in-Done.page c.in-Done.facts) n = subst (λ (h : ℕ → Bool). InnerGoes run k shape h m (polled.Done c.in-Done.page c.in-Done.facts) n) (keeps.kept broken) (subst (λ (p : Polled). InnerGoes run k shape (contains nat_cmp w.kept) m p n) c.in-Done.is c.in_ok-pair.ensures.goes) in
    let inner_laws : IsRun (shape m.common) (run m.common) = c.laws.ensures.lawful m.common c.requires.valid in
    let law : IsRunOf (shape m.common) m.item (over records (run m.common) m.item) = run-of (shape m.common) (run m.common) inner_laws records c.requires.fit m.item c.requires.item in
    let open_ : cond w.is_broken n.awaits w.awaits ≡ [] = ap (λ b. cond b n.awaits w.awaits) broken ∙ goes.3 in
    no-room meaning _ open_ (λ b. keeps.own broken)

pub returns-in-Failed-clause-goes : goal.returns-in-Failed-clause-goes
returns-in-Failed-clause-goes g c =
    let shape = g.M.Compiler.shape in
    let run = g.M.Compiler.run in
    let meaning = g.M.Compiler.meaning in
    let w = c.args.way.now in
    let records = c.args.records.now in
    let m = meaning w.inner in
    let k = told_pages w.told in
    let keeps = c.requires.keeps in
    let broken = c.requires.broken in
    let inner2 = c.go_inner.new.inner in
    let n = meaning inner2 in
    let known : SameKnown k m n = c.go_inner.ensures.same in
    let front : take w.at c.steps_of-steps.result.now ≡ front_of meaning records w = ap (take w.at) (c.steps_of-steps.ensures ∙ ap (λ (i : ℕ). steps_of (record_at records i)) c.item.ensures) in
    let goes : InnerGoes run k shape (is_in (kept_by [] (front_of meaning records w))) m (polled.Failed c.in-Failed.fault) n = subst (λ (h : ℕ → Bool). InnerGoes run k shape h m (polled.Failed c.in-Failed.fault) n) (keeps.kept broken) (subst (λ (p : Polled). InnerGoes run k shape (contains nat_cmp w.kept) m p n) c.in-Failed.is c.in_ok-pair.ensures.goes) in
    failed-goes-2 meaning shape run records w keeps broken c.requires.settled c.requires.closed inner2 known goes.0 c.in-Failed.fault goes.1 goes.2

pub returns-in-Failed-clause-keeps : goal.returns-in-Failed-clause-keeps
returns-in-Failed-clause-keeps g c =
    let shape = g.M.Compiler.shape in
    let run = g.M.Compiler.run in
    let meaning = g.M.Compiler.meaning in
    let w = c.args.way.now in
    let records = c.args.records.now in
    let m = meaning w.inner in
    let k = told_pages w.told in
    let keeps = c.requires.keeps in
    let broken = c.requires.broken in
    let inner2 = c.go_inner.new.inner in
    let n = meaning inner2 in
    let known : SameKnown k m n = c.go_inner.ensures.same in
    let front : take w.at c.steps_of-steps.result.now ≡ front_of meaning records w = ap (take w.at) (c.steps_of-steps.ensures ∙ ap (λ (i : ℕ). steps_of (record_at records i)) c.item.ensures) in
    let goes : InnerGoes run k shape (is_in (kept_by [] (front_of meaning records w))) m (polled.Failed c.in-Failed.fault) n = subst (λ (h : ℕ → Bool). InnerGoes run k shape h m (polled.Failed c.in-Failed.fault) n) (keeps.kept broken) (subst (λ (p : Polled). InnerGoes run k shape (contains nat_cmp w.kept) m p n) c.in-Failed.is c.in_ok-pair.ensures.goes) in
    ended-keeps-2 meaning shape run records w keeps broken c.requires.settled c.requires.closed inner2 known goes.0

pub returns-in-Failed-clause-room : goal.returns-in-Failed-clause-room
returns-in-Failed-clause-room g c =
    let shape = g.M.Compiler.shape in
    let run = g.M.Compiler.run in
    let meaning = g.M.Compiler.meaning in
    let w = c.args.way.now in
    let records = c.args.records.now in
    let m = meaning w.inner in
    let k = told_pages w.told in
    let keeps = c.requires.keeps in
    let broken = c.requires.broken in
    let inner2 = c.go_inner.new.inner in
    let n = meaning inner2 in
    let known : SameKnown k m n = c.go_inner.ensures.same in
    let front : take w.at c.steps_of-steps.result.now ≡ front_of meaning records w = ap (take w.at) (c.steps_of-steps.ensures ∙ ap (λ (i : ℕ). steps_of (record_at records i)) c.item.ensures) in
    let goes : InnerGoes run k shape (is_in (kept_by [] (front_of meaning records w))) m (polled.Failed c.in-Failed.fault) n = subst (λ (h : ℕ → Bool). InnerGoes run k shape h m (polled.Failed c.in-Failed.fault) n) (keeps.kept broken) (subst (λ (p : Polled). InnerGoes run k shape (contains nat_cmp w.kept) m p n) c.in-Failed.is c.in_ok-pair.ensures.goes) in
    let open_ : cond w.is_broken n.awaits w.awaits ≡ [] = ap (λ b. cond b n.awaits w.awaits) broken ∙ goes.2 in
    no-room meaning _ open_ (λ b. keeps.own broken)
