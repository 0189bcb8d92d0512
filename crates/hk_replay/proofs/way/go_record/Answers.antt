use Rattle.std.proofs.Common.{◌≡◌, sym, ap, ◌∙◌, subst, arith, ℕ, ◌+◌, ◌≤◌, cond, true, [], List, option_copied, Some, None, length, take, Vec}
use Rattle.std.specs.List.{AllByRecursion}
use Rattle.std.specs.BTreeSet.{contains}
use Rattle.std.specs.Ordering.{nat_cmp}
use Rattle.std.specs.Vec.{vec_capacity}
use Rattle.std.specs.declared.alloc.Global.{Global}
use Rattle.hk_chain.specs.declared.numbers.PairNo.{PairNo}
use Rattle.hk_fix.specs.Facts.{is_in}
use Rattle.hk_replay.specs.Keeping.{Keeps, HasRoom}
use Rattle.hk_replay.specs.declared.way.Way.{Way}
use Rattle.hk_chain.specs.declared.page.Page.{Page}
use Rattle.hk_fix.specs.declared.polled.Polled.TheVariants as polled
use Rattle.hk_fix.specs.Run.{saves_of}
use Rattle.hk_replay.specs.Turning.{Turns}
use Rattle.hk_reuse.proofs.Over.{IsRunOf}
use Rattle.hk_replay.specs.declared.look.Found.{Found}
use Rattle.hk_replay.specs.declared.look.Found.TheVariants as found
use Rattle.hk_replay.specs.declared.record.Record.{Record}
use Rattle.hk_replay.specs.declared.record.Step.{Step}
use Rattle.hk_replay.specs.Finding.{Finds}
use Rattle.hk_replay.specs.Merging.{through_facts}
use Rattle.hk_replay.specs.Replays.{record_at, passed, kept_by, over, IsRecordBy}
use Rattle.hk_eval.specs.Told.{ToldView, told_pages, is_listed}
use Rattle.hk_replay.specs.Lawful.{run-of}
use Rattle.hk_replay.proofs.Holding.{saved-turns, saved-keeps, asks-untold, asks-distinct, asks-turns, asks-keeps, asks-room, through-turns, through-keeps, breaks-keeps, no-room}
use Rattle.hk_replay.proofs.way.go_record.Goals as goal

-- with the pages that are waited for
abbrev asking : {M : Type 0} → Way M → ToldView → Vec PairNo Global → ℕ → List ℕ → Way M
asking w told more at l = record { inner = w.inner; told = told; awaits = l; used = more; given = w.given; last = w.last; at = at; kept = w.kept; is_broken = w.is_broken; is_ended = w.is_ended }

pub of-requires : goal.of-requires
of-requires g c =
    let shape = g.M.Compiler.shape in
    let run = g.M.Compiler.run in
    let meaning = g.M.Compiler.meaning in
    let w = c.args.way.now in
    let records = c.args.records.now in
    let m = meaning w.inner in
    let k = told_pages w.told in
    let at : ℕ = c.look.new.at in
    let r : Record = c.in-Some.found.now in
    let is : record_at records m.item ≡ Some r = ap (record_at records) (sym c.item.ensures) ∙ (sym c.record_of.ensures ∙ ap option_copied c.in-Some.is) in
    let steps : c.as_slice.result.now ≡ r.steps.items = c.as_slice.ensures.value in
    let quiet : saves_of (passed (take at r.steps.items)) ≡ saves_of (passed (take w.at r.steps.items)) = subst (λ (l : List Step). saves_of (passed (take at l)) ≡ saves_of (passed (take w.at l))) steps c.in_ok-pair.ensures.quiet in
    let finds : Finds k r.steps.items at (found.Asks c.in-Asks.pairs) = subst (λ (l : List Step). Finds k l at (found.Asks c.in-Asks.pairs)) steps (subst (λ (f : Found). Finds k c.as_slice.result.now at f) c.in-Asks.is c.in_ok-pair.ensures.found) in
    let law : IsRunOf (shape m.common) m.item (over records (run m.common) m.item) = run-of (shape m.common) (run m.common) (c.laws.ensures.lawful m.common c.requires.valid) records c.requires.fit m.item c.requires.item in
    asks-distinct meaning shape run records w c.requires.keeps c.requires.whole r is law at c.in-Asks.pairs finds quiet c.requires.settled

pub reserve-requires : goal.reserve-requires
reserve-requires g c =
    let shape = g.M.Compiler.shape in
    let run = g.M.Compiler.run in
    let meaning = g.M.Compiler.meaning in
    let w = c.args.way.now in
    let records = c.args.records.now in
    let m = meaning w.inner in
    let k = told_pages w.told in
    let keeps = c.requires.keeps in
    let whole = c.requires.whole in
    let at : ℕ = c.look.new.at in
    let r : Record = c.in-Some.found.now in
    let is : record_at records m.item ≡ Some r = ap (record_at records) (sym c.item.ensures) ∙ (sym c.record_of.ensures ∙ ap option_copied c.in-Some.is) in
    let steps : c.as_slice.result.now ≡ r.steps.items = c.as_slice.ensures.value in
    let quiet : saves_of (passed (take at r.steps.items)) ≡ saves_of (passed (take w.at r.steps.items)) = subst (λ (l : List Step). saves_of (passed (take at l)) ≡ saves_of (passed (take w.at l))) steps c.in_ok-pair.ensures.quiet in
    let finds : Finds k r.steps.items at (found.Asks c.in-Asks.pairs) = subst (λ (l : List Step). Finds k l at (found.Asks c.in-Asks.pairs)) steps (subst (λ (f : Found). Finds k c.as_slice.result.now at f) c.in-Asks.is c.in_ok-pair.ensures.found) in
    let law : IsRunOf (shape m.common) m.item (over records (run m.common) m.item) = run-of (shape m.common) (run m.common) (c.laws.ensures.lawful m.common c.requires.valid) records c.requires.fit m.item c.requires.item in
    let untold : AllByRecursion (λ p. k p ≡ None) c.in-Asks.pairs.items = asks-untold meaning shape run records w keeps whole r is law at c.in-Asks.pairs finds quiet c.requires.settled in
    subst (AllByRecursion (λ p. k p ≡ None)) (sym c.as_slice-in-Asks.ensures.value) untold

pub returns-in-Saves-clause-turns : goal.returns-in-Saves-clause-turns
returns-in-Saves-clause-turns g c =
    let shape = g.M.Compiler.shape in
    let run = g.M.Compiler.run in
    let meaning = g.M.Compiler.meaning in
    let w = c.args.way.now in
    let records = c.args.records.now in
    let m = meaning w.inner in
    let k = told_pages w.told in
    let keeps = c.requires.keeps in
    let whole = c.requires.whole in
    let at : ℕ = c.look.new.at in
    let r : Record = c.in-Some.found.now in
    let is : record_at records m.item ≡ Some r = ap (record_at records) (sym c.item.ensures) ∙ (sym c.record_of.ensures ∙ ap option_copied c.in-Some.is) in
    let steps : c.as_slice.result.now ≡ r.steps.items = c.as_slice.ensures.value in
    let quiet : saves_of (passed (take at r.steps.items)) ≡ saves_of (passed (take w.at r.steps.items)) = subst (λ (l : List Step). saves_of (passed (take at l)) ≡ saves_of (passed (take w.at l))) steps c.in_ok-pair.ensures.quiet in
    let finds : Finds k r.steps.items at (found.Saves c.in-Saves.pair c.in-Saves.page) = subst (λ (l : List Step). Finds k l at (found.Saves c.in-Saves.pair c.in-Saves.page)) steps (subst (λ (f : Found). Finds k c.as_slice.result.now at f) c.in-Saves.is c.in_ok-pair.ensures.found) in
    saved-turns meaning shape run records w keeps whole r is at c.in-Saves.pair c.in-Saves.page finds quiet c.requires.settled

pub returns-in-Saves-clause-keeps : goal.returns-in-Saves-clause-keeps
returns-in-Saves-clause-keeps g c =
    let shape = g.M.Compiler.shape in
    let run = g.M.Compiler.run in
    let meaning = g.M.Compiler.meaning in
    let w = c.args.way.now in
    let records = c.args.records.now in
    let m = meaning w.inner in
    let k = told_pages w.told in
    let keeps = c.requires.keeps in
    let whole = c.requires.whole in
    let at : ℕ = c.look.new.at in
    let r : Record = c.in-Some.found.now in
    let is : record_at records m.item ≡ Some r = ap (record_at records) (sym c.item.ensures) ∙ (sym c.record_of.ensures ∙ ap option_copied c.in-Some.is) in
    let steps : c.as_slice.result.now ≡ r.steps.items = c.as_slice.ensures.value in
    let quiet : saves_of (passed (take at r.steps.items)) ≡ saves_of (passed (take w.at r.steps.items)) = subst (λ (l : List Step). saves_of (passed (take at l)) ≡ saves_of (passed (take w.at l))) steps c.in_ok-pair.ensures.quiet in
    let finds : Finds k r.steps.items at (found.Saves c.in-Saves.pair c.in-Saves.page) = subst (λ (l : List Step). Finds k l at (found.Saves c.in-Saves.pair c.in-Saves.page)) steps (subst (λ (f : Found). Finds k c.as_slice.result.now at f) c.in-Saves.is c.in_ok-pair.ensures.found) in
    saved-keeps meaning shape run records w keeps whole r is at c.in-Saves.pair c.in-Saves.page finds quiet c.requires.settled

pub returns-in-Saves-clause-room : goal.returns-in-Saves-clause-room
returns-in-Saves-clause-room g c =
    let shape = g.M.Compiler.shape in
    let run = g.M.Compiler.run in
    let meaning = g.M.Compiler.meaning in
    let w = c.args.way.now in
    let records = c.args.records.now in
    let m = meaning w.inner in
    let k = told_pages w.told in
    let keeps = c.requires.keeps in
    let whole = c.requires.whole in
    let at : ℕ = c.look.new.at in
    let r : Record = c.in-Some.found.now in
    let is : record_at records m.item ≡ Some r = ap (record_at records) (sym c.item.ensures) ∙ (sym c.record_of.ensures ∙ ap option_copied c.in-Some.is) in
    let steps : c.as_slice.result.now ≡ r.steps.items = c.as_slice.ensures.value in
    let quiet : saves_of (passed (take at r.steps.items)) ≡ saves_of (passed (take w.at r.steps.items)) = subst (λ (l : List Step). saves_of (passed (take at l)) ≡ saves_of (passed (take w.at l))) steps c.in_ok-pair.ensures.quiet in
    let open_ : cond w.is_broken m.awaits w.awaits ≡ [] = ap (λ b. cond b m.awaits w.awaits) whole ∙ c.requires.closed in
    no-room meaning _ open_ (λ b. c.requires.closed)

pub returns-in_ok-reserve-in-Asks-2-clause-turns : goal.returns-in_ok-reserve-in-Asks-2-clause-turns
returns-in_ok-reserve-in-Asks-2-clause-turns g c =
    let shape = g.M.Compiler.shape in
    let run = g.M.Compiler.run in
    let meaning = g.M.Compiler.meaning in
    let w = c.args.way.now in
    let records = c.args.records.now in
    let m = meaning w.inner in
    let k = told_pages w.told in
    let keeps = c.requires.keeps in
    let whole = c.requires.whole in
    let at : ℕ = c.look.new.at in
    let r : Record = c.in-Some.found.now in
    let is : record_at records m.item ≡ Some r = ap (record_at records) (sym c.item.ensures) ∙ (sym c.record_of.ensures ∙ ap option_copied c.in-Some.is) in
    let steps : c.as_slice.result.now ≡ r.steps.items = c.as_slice.ensures.value in
    let quiet : saves_of (passed (take at r.steps.items)) ≡ saves_of (passed (take w.at r.steps.items)) = subst (λ (l : List Step). saves_of (passed (take at l)) ≡ saves_of (passed (take w.at l))) steps c.in_ok-pair.ensures.quiet in
    let finds : Finds k r.steps.items at (found.Asks c.in-Asks.pairs) = subst (λ (l : List Step). Finds k l at (found.Asks c.in-Asks.pairs)) steps (subst (λ (f : Found). Finds k c.as_slice.result.now at f) c.in-Asks.is c.in_ok-pair.ensures.found) in
    let law : IsRunOf (shape m.common) m.item (over records (run m.common) m.item) = run-of (shape m.common) (run m.common) (c.laws.ensures.lawful m.common c.requires.valid) records c.requires.fit m.item c.requires.item in
    let same : c.reserve-in-Asks.new.self.items ≡ w.used.items = c.reserve-in-Asks.ensures.items in
    let pages : (q : ℕ) → told_pages c.reserve.new.self q ≡ told_pages w.told q = c.reserve.ensures.pages in
    subst (λ (l : List ℕ). Turns meaning shape run records w (Some polled.Ask) (asking w c.reserve.new.self c.reserve-in-Asks.new.self at l)) (sym c.of.ensures) (asks-turns meaning shape run records w keeps whole r is law at c.in-Asks.pairs finds quiet c.requires.settled c.reserve.new.self c.reserve-in-Asks.new.self pages same)

pub returns-in_ok-reserve-in-Asks-2-clause-keeps : goal.returns-in_ok-reserve-in-Asks-2-clause-keeps
returns-in_ok-reserve-in-Asks-2-clause-keeps g c =
    let shape = g.M.Compiler.shape in
    let run = g.M.Compiler.run in
    let meaning = g.M.Compiler.meaning in
    let w = c.args.way.now in
    let records = c.args.records.now in
    let m = meaning w.inner in
    let k = told_pages w.told in
    let keeps = c.requires.keeps in
    let whole = c.requires.whole in
    let at : ℕ = c.look.new.at in
    let r : Record = c.in-Some.found.now in
    let is : record_at records m.item ≡ Some r = ap (record_at records) (sym c.item.ensures) ∙ (sym c.record_of.ensures ∙ ap option_copied c.in-Some.is) in
    let steps : c.as_slice.result.now ≡ r.steps.items = c.as_slice.ensures.value in
    let quiet : saves_of (passed (take at r.steps.items)) ≡ saves_of (passed (take w.at r.steps.items)) = subst (λ (l : List Step). saves_of (passed (take at l)) ≡ saves_of (passed (take w.at l))) steps c.in_ok-pair.ensures.quiet in
    let finds : Finds k r.steps.items at (found.Asks c.in-Asks.pairs) = subst (λ (l : List Step). Finds k l at (found.Asks c.in-Asks.pairs)) steps (subst (λ (f : Found). Finds k c.as_slice.result.now at f) c.in-Asks.is c.in_ok-pair.ensures.found) in
    let law : IsRunOf (shape m.common) m.item (over records (run m.common) m.item) = run-of (shape m.common) (run m.common) (c.laws.ensures.lawful m.common c.requires.valid) records c.requires.fit m.item c.requires.item in
    let same : c.reserve-in-Asks.new.self.items ≡ w.used.items = c.reserve-in-Asks.ensures.items in
    let pages : (q : ℕ) → told_pages c.reserve.new.self q ≡ told_pages w.told q = c.reserve.ensures.pages in
    subst (λ (l : List ℕ). Keeps meaning run records (asking w c.reserve.new.self c.reserve-in-Asks.new.self at l)) (sym c.of.ensures) (asks-keeps meaning shape run records w keeps whole r is law at c.in-Asks.pairs finds quiet c.requires.settled c.reserve.new.self c.reserve-in-Asks.new.self pages same (omega (arith, finds.1.1.within)))

pub returns-in_ok-reserve-in-Asks-2-clause-room : goal.returns-in_ok-reserve-in-Asks-2-clause-room
returns-in_ok-reserve-in-Asks-2-clause-room g c =
    let shape = g.M.Compiler.shape in
    let run = g.M.Compiler.run in
    let meaning = g.M.Compiler.meaning in
    let w = c.args.way.now in
    let records = c.args.records.now in
    let m = meaning w.inner in
    let k = told_pages w.told in
    let keeps = c.requires.keeps in
    let whole = c.requires.whole in
    let at : ℕ = c.look.new.at in
    let r : Record = c.in-Some.found.now in
    let is : record_at records m.item ≡ Some r = ap (record_at records) (sym c.item.ensures) ∙ (sym c.record_of.ensures ∙ ap option_copied c.in-Some.is) in
    let steps : c.as_slice.result.now ≡ r.steps.items = c.as_slice.ensures.value in
    let quiet : saves_of (passed (take at r.steps.items)) ≡ saves_of (passed (take w.at r.steps.items)) = subst (λ (l : List Step). saves_of (passed (take at l)) ≡ saves_of (passed (take w.at l))) steps c.in_ok-pair.ensures.quiet in
    let finds : Finds k r.steps.items at (found.Asks c.in-Asks.pairs) = subst (λ (l : List Step). Finds k l at (found.Asks c.in-Asks.pairs)) steps (subst (λ (f : Found). Finds k c.as_slice.result.now at f) c.in-Asks.is c.in_ok-pair.ensures.found) in
    let law : IsRunOf (shape m.common) m.item (over records (run m.common) m.item) = run-of (shape m.common) (run m.common) (c.laws.ensures.lawful m.common c.requires.valid) records c.requires.fit m.item c.requires.item in
    let same : c.reserve-in-Asks.new.self.items ≡ w.used.items = c.reserve-in-Asks.ensures.items in
    let pages : (q : ℕ) → told_pages c.reserve.new.self q ≡ told_pages w.told q = c.reserve.ensures.pages in
    let listed : AllByRecursion (λ p. is_listed c.reserve.new.self p ≡ true) c.in-Asks.pairs.items = subst (AllByRecursion (λ p. is_listed c.reserve.new.self p ≡ true)) c.as_slice-in-Asks.ensures.value c.in_ok-reserve-in-Asks.ensures.listed in
    let room : length w.used.items + length c.in-Asks.pairs.items ≤ vec_capacity c.reserve-in-Asks.new.self = omega (arith, c.in_ok-reserve-in-Asks-2.ensures.ok, c.len.ensures) in
    subst (λ (l : List ℕ). HasRoom meaning (asking w c.reserve.new.self c.reserve-in-Asks.new.self at l)) (sym c.of.ensures) (asks-room meaning shape run records w keeps whole r is law at c.in-Asks.pairs finds quiet c.requires.settled c.reserve.new.self c.reserve-in-Asks.new.self pages same listed room)

pub returns-in_ok-kept-in-Breaks-clause-room : goal.returns-in_ok-kept-in-Breaks-clause-room
returns-in_ok-kept-in-Breaks-clause-room g c =
    let shape = g.M.Compiler.shape in
    let run = g.M.Compiler.run in
    let meaning = g.M.Compiler.meaning in
    let w = c.args.way.now in
    let records = c.args.records.now in
    let m = meaning w.inner in
    let k = told_pages w.told in
    let keeps = c.requires.keeps in
    let whole = c.requires.whole in
    let at : ℕ = c.look.new.at in
    let r : Record = c.in-Some.found.now in
    let is : record_at records m.item ≡ Some r = ap (record_at records) (sym c.item.ensures) ∙ (sym c.record_of.ensures ∙ ap option_copied c.in-Some.is) in
    let steps : c.as_slice.result.now ≡ r.steps.items = c.as_slice.ensures.value in
    let quiet : saves_of (passed (take at r.steps.items)) ≡ saves_of (passed (take w.at r.steps.items)) = subst (λ (l : List Step). saves_of (passed (take at l)) ≡ saves_of (passed (take w.at l))) steps c.in_ok-pair.ensures.quiet in
    let open_ : m.awaits ≡ [] = (keeps.early whole).closed in
    no-room meaning _ open_ (λ b. c.requires.closed)

pub returns-in_ok-facts-in-Through-clause-turns : goal.returns-in_ok-facts-in-Through-clause-turns
returns-in_ok-facts-in-Through-clause-turns g c =
    let shape = g.M.Compiler.shape in
    let run = g.M.Compiler.run in
    let meaning = g.M.Compiler.meaning in
    let w = c.args.way.now in
    let records = c.args.records.now in
    let m = meaning w.inner in
    let k = told_pages w.told in
    let keeps = c.requires.keeps in
    let whole = c.requires.whole in
    let at : ℕ = c.look.new.at in
    let r : Record = c.in-Some.found.now in
    let is : record_at records m.item ≡ Some r = ap (record_at records) (sym c.item.ensures) ∙ (sym c.record_of.ensures ∙ ap option_copied c.in-Some.is) in
    let steps : c.as_slice.result.now ≡ r.steps.items = c.as_slice.ensures.value in
    let quiet : saves_of (passed (take at r.steps.items)) ≡ saves_of (passed (take w.at r.steps.items)) = subst (λ (l : List Step). saves_of (passed (take at l)) ≡ saves_of (passed (take w.at l))) steps c.in_ok-pair.ensures.quiet in
    let finds : Finds k r.steps.items at found.Through = subst (λ (l : List Step). Finds k l at found.Through) steps (subst (λ (f : Found). Finds k c.as_slice.result.now at f) c.in-Through.is c.in_ok-pair.ensures.found) in
    let law : IsRunOf (shape m.common) m.item (over records (run m.common) m.item) = run-of (shape m.common) (run m.common) (c.laws.ensures.lawful m.common c.requires.valid) records c.requires.fit m.item c.requires.item in
    let by : IsRecordBy (shape m.common) m.item (Some r) = subst (IsRecordBy (shape m.common) m.item) is (c.requires.fit m.item c.requires.item) in
    let page : c.in_ok-page-in-Through.page ≡ r.page = c.in_ok-page-in-Through.ensures in
    let facts : c.in_ok-facts-in-Through.facts ≡ through_facts r = c.in_ok-facts-in-Through.ensures in
    subst (λ (x : Page). Turns meaning shape run records w (Some (polled.Done x c.in_ok-facts-in-Through.facts)) (record { inner = w.inner; told = w.told; awaits = w.awaits; used = w.used; given = w.given; last = w.last; at = at; kept = w.kept; is_broken = w.is_broken; is_ended = true })) (sym page) (through-turns meaning shape run records w keeps whole r is law by.last at finds quiet c.requires.settled c.in_ok-facts-in-Through.facts facts)

pub returns-in_ok-facts-in-Through-clause-keeps : goal.returns-in_ok-facts-in-Through-clause-keeps
returns-in_ok-facts-in-Through-clause-keeps g c =
    let shape = g.M.Compiler.shape in
    let run = g.M.Compiler.run in
    let meaning = g.M.Compiler.meaning in
    let w = c.args.way.now in
    let records = c.args.records.now in
    let m = meaning w.inner in
    let k = told_pages w.told in
    let keeps = c.requires.keeps in
    let whole = c.requires.whole in
    let at : ℕ = c.look.new.at in
    let r : Record = c.in-Some.found.now in
    let is : record_at records m.item ≡ Some r = ap (record_at records) (sym c.item.ensures) ∙ (sym c.record_of.ensures ∙ ap option_copied c.in-Some.is) in
    let steps : c.as_slice.result.now ≡ r.steps.items = c.as_slice.ensures.value in
    let quiet : saves_of (passed (take at r.steps.items)) ≡ saves_of (passed (take w.at r.steps.items)) = subst (λ (l : List Step). saves_of (passed (take at l)) ≡ saves_of (passed (take w.at l))) steps c.in_ok-pair.ensures.quiet in
    let finds : Finds k r.steps.items at found.Through = subst (λ (l : List Step). Finds k l at found.Through) steps (subst (λ (f : Found). Finds k c.as_slice.result.now at f) c.in-Through.is c.in_ok-pair.ensures.found) in
    let law : IsRunOf (shape m.common) m.item (over records (run m.common) m.item) = run-of (shape m.common) (run m.common) (c.laws.ensures.lawful m.common c.requires.valid) records c.requires.fit m.item c.requires.item in
    let by : IsRecordBy (shape m.common) m.item (Some r) = subst (IsRecordBy (shape m.common) m.item) is (c.requires.fit m.item c.requires.item) in
    through-keeps meaning shape run records w keeps whole r is law by.last at finds quiet c.requires.settled

pub returns-in_ok-facts-in-Through-clause-room : goal.returns-in_ok-facts-in-Through-clause-room
returns-in_ok-facts-in-Through-clause-room g c =
    let meaning = g.M.Compiler.meaning in
    let w = c.args.way.now in
    let open_ : cond w.is_broken (meaning w.inner).awaits w.awaits ≡ [] = ap (λ b. cond b (meaning w.inner).awaits w.awaits) c.requires.whole ∙ c.requires.closed in
    no-room meaning _ open_ (λ b. c.requires.closed)

pub returns-in_ok-kept-in-Breaks-clause-keeps : goal.returns-in_ok-kept-in-Breaks-clause-keeps
returns-in_ok-kept-in-Breaks-clause-keeps g c =
    let shape = g.M.Compiler.shape in
    let run = g.M.Compiler.run in
    let meaning = g.M.Compiler.meaning in
    let w = c.args.way.now in
    let records = c.args.records.now in
    let m = meaning w.inner in
    let k = told_pages w.told in
    let at : ℕ = c.look.new.at in
    let r : Record = c.in-Some.found.now in
    let is : record_at records m.item ≡ Some r = ap (record_at records) (sym c.item.ensures) ∙ (sym c.record_of.ensures ∙ ap option_copied c.in-Some.is) in
    let steps : c.as_slice.result.now ≡ r.steps.items = c.as_slice.ensures.value in
    let quiet : saves_of (passed (take at r.steps.items)) ≡ saves_of (passed (take w.at r.steps.items)) = subst (λ (l : List Step). saves_of (passed (take at l)) ≡ saves_of (passed (take w.at l))) steps c.in_ok-pair.ensures.quiet in
    let finds : Finds k r.steps.items at found.Breaks = subst (λ (l : List Step). Finds k l at found.Breaks) steps (subst (λ (f : Found). Finds k c.as_slice.result.now at f) c.in-Breaks.is c.in_ok-pair.ensures.found) in
    let kept : contains nat_cmp c.in_ok-kept-in-Breaks.kept ≡ is_in (kept_by [] (take (at + 1) r.steps.items)) = c.in_ok-kept-in-Breaks.ensures ∙ ap (λ (l : List Step). is_in (kept_by [] (take (at + 1) l))) c.as_slice-in-Breaks.ensures.value in
    breaks-keeps meaning shape run records w c.requires.keeps c.requires.whole r is at finds quiet c.in_ok-kept-in-Breaks.kept kept c.requires.closed
