use Rattle.std.proofs.Common.{◌≡◌, sym, ◌∙◌, subst, rules, ◌<◌, Bool, true, false, [], length, nat_eq, ℕ}
use Rattle.std.specs.BTreeSet.{contains}
use Rattle.std.specs.Ordering.{nat_cmp}
use Rattle.hk_fix.specs.Calls.{Goes}
use Rattle.hk_fix.specs.declared.polled.Polled.TheVariants.{Saved, Ask, Done, Failed}
use Rattle.hk_fix.specs.Run.{IsRun}
use Rattle.hk_replay.specs.Going.{tell_all}
use Rattle.hk_eval.specs.Told.{told_pages}
use Rattle.hk_replay.proofs.Passing.{no-members, not-none}
use Rattle.hk_replay.proofs.Polling.{item-in, by-ok, gives-saved, passes-saved, less-saved, done-inner, failed-inner, ask-untold, asks-inner, goes-on, less-asked}
use Rattle.hk_replay.proofs.inner.go_inner.Goals as goal

pub returns-then-not-is_kept-clause-goes : goal.returns-then-not-is_kept-clause-goes
returns-then-not-is_kept-clause-goes g c =
    let shape = g.M.Compiler.shape in
    let run = g.M.Compiler.run in
    let k = told_pages c.args.told.now in
    let kept : ℕ → Bool = contains nat_cmp c.args.kept.now in
    let m = g.M.Compiler.meaning c.args.inner.now in
    let now = g.M.Compiler.meaning c.loop-pair.inner in
    let later = g.M.Compiler.meaning c.poll.new.self in
    let b = c.loop-pair.invariant in
    let laws : IsRun (shape now.common) (run now.common) = c.laws.ensures.lawful now.common (subst g.M.Compiler.valid (sym b.same.common) c.requires.valid) in
    let lt : now.item < (shape now.common).items = item-in shape run k kept m now b c.requires.item in
    let p = c.in-Saved.pair in
    let goes : Goes shape run now (Saved p c.in-Saved.page) later = by-ok shape run now later c.poll.result c.in_ok-pair.field-0 (Saved p c.in-Saved.page) c.in_ok-pair.was c.in-Saved.is c.poll.ensures in
    let out : kept p ≡ false = sym c.is_kept.ensures ∙ search rules in
    gives-saved shape run k kept m now b laws lt p c.in-Saved.page later goes out

pub loop-pair-smaller-in-Saved : goal.loop-pair-smaller-in-Saved
loop-pair-smaller-in-Saved g c =
    let shape = g.M.Compiler.shape in
    let run = g.M.Compiler.run in
    let k = told_pages c.args.told.now in
    let kept : ℕ → Bool = contains nat_cmp c.args.kept.now in
    let m = g.M.Compiler.meaning c.args.inner.now in
    let now = g.M.Compiler.meaning c.loop-pair.inner in
    let later = g.M.Compiler.meaning c.poll.new.self in
    let b = c.loop-pair.invariant in
    let laws : IsRun (shape now.common) (run now.common) = c.laws.ensures.lawful now.common (subst g.M.Compiler.valid (sym b.same.common) c.requires.valid) in
    let lt : now.item < (shape now.common).items = item-in shape run k kept m now b c.requires.item in
    let p = c.in-Saved.pair in
    let goes : Goes shape run now (Saved p c.in-Saved.page) later = by-ok shape run now later c.poll.result c.in_ok-pair.field-0 (Saved p c.in-Saved.page) c.in_ok-pair.was c.in-Saved.is c.poll.ensures in
    less-saved shape run k kept m now b laws lt p c.in-Saved.page later goes

pub loop-pair-preserved-in-Saved : goal.loop-pair-preserved-in-Saved
loop-pair-preserved-in-Saved g c =
    let shape = g.M.Compiler.shape in
    let run = g.M.Compiler.run in
    let k = told_pages c.args.told.now in
    let kept : ℕ → Bool = contains nat_cmp c.args.kept.now in
    let m = g.M.Compiler.meaning c.args.inner.now in
    let now = g.M.Compiler.meaning c.loop-pair.inner in
    let later = g.M.Compiler.meaning c.poll.new.self in
    let b = c.loop-pair.invariant in
    let laws : IsRun (shape now.common) (run now.common) = c.laws.ensures.lawful now.common (subst g.M.Compiler.valid (sym b.same.common) c.requires.valid) in
    let lt : now.item < (shape now.common).items = item-in shape run k kept m now b c.requires.item in
    let p = c.in-Saved.pair in
    let goes : Goes shape run now (Saved p c.in-Saved.page) later = by-ok shape run now later c.poll.result c.in_ok-pair.field-0 (Saved p c.in-Saved.page) c.in_ok-pair.was c.in-Saved.is c.poll.ensures in
    let there : kept p ≡ true = sym c.is_kept.ensures ∙ search rules in
    passes-saved shape run k kept m now b laws lt p c.in-Saved.page later goes there

pub tell-requires-clause-untold : goal.tell-requires-clause-untold
tell-requires-clause-untold g c =
    let shape = g.M.Compiler.shape in
    let run = g.M.Compiler.run in
    let k = told_pages c.args.told.now in
    let kept : ℕ → Bool = contains nat_cmp c.args.kept.now in
    let m = g.M.Compiler.meaning c.args.inner.now in
    let now = g.M.Compiler.meaning c.loop-pair.inner in
    let later = g.M.Compiler.meaning c.poll.new.self in
    let b = c.loop-pair.invariant in
    let laws : IsRun (shape now.common) (run now.common) = c.laws.ensures.lawful now.common (subst g.M.Compiler.valid (sym b.same.common) c.requires.valid) in
    let lt : now.item < (shape now.common).items = item-in shape run k kept m now b c.requires.item in
    let goes : Goes shape run now Ask later = by-ok shape run now later c.poll.result c.in_ok-pair.field-0 Ask c.in_ok-pair.was c.in-Ask.is c.poll.ensures in
    ask-untold shape run k kept m now b laws lt later goes

pub returns-then-not-is_empty-clause-goes : goal.returns-then-not-is_empty-clause-goes
returns-then-not-is_empty-clause-goes g c =
    let shape = g.M.Compiler.shape in
    let run = g.M.Compiler.run in
    let k = told_pages c.args.told.now in
    let kept : ℕ → Bool = contains nat_cmp c.args.kept.now in
    let m = g.M.Compiler.meaning c.args.inner.now in
    let now = g.M.Compiler.meaning c.loop-pair.inner in
    let later = g.M.Compiler.meaning c.poll.new.self in
    let b = c.loop-pair.invariant in
    let laws : IsRun (shape now.common) (run now.common) = c.laws.ensures.lawful now.common (subst g.M.Compiler.valid (sym b.same.common) c.requires.valid) in
    let lt : now.item < (shape now.common).items = item-in shape run k kept m now b c.requires.item in
    let goes : Goes shape run now Ask later = by-ok shape run now later c.poll.result c.in_ok-pair.field-0 Ask c.in_ok-pair.was c.in-Ask.is c.poll.ensures in
    let end_ = g.M.Compiler.meaning c.tell.new.inner in
    let told : end_ ≡ tell_all k later later.awaits = c.in_ok-tell-in-Ask.ensures.told in
    let some : nat_eq (length end_.awaits) 0 ≡ false = search rules in
    asks-inner shape run k kept m now b laws lt later goes end_ told c.tell.ensures.same (not-none end_.awaits some)

pub loop-pair-smaller : goal.loop-pair-smaller
loop-pair-smaller g c =
    let shape = g.M.Compiler.shape in
    let run = g.M.Compiler.run in
    let k = told_pages c.args.told.now in
    let kept : ℕ → Bool = contains nat_cmp c.args.kept.now in
    let m = g.M.Compiler.meaning c.args.inner.now in
    let now = g.M.Compiler.meaning c.loop-pair.inner in
    let later = g.M.Compiler.meaning c.poll.new.self in
    let b = c.loop-pair.invariant in
    let laws : IsRun (shape now.common) (run now.common) = c.laws.ensures.lawful now.common (subst g.M.Compiler.valid (sym b.same.common) c.requires.valid) in
    let lt : now.item < (shape now.common).items = item-in shape run k kept m now b c.requires.item in
    let goes : Goes shape run now Ask later = by-ok shape run now later c.poll.result c.in_ok-pair.field-0 Ask c.in_ok-pair.was c.in-Ask.is c.poll.ensures in
    let end_ = g.M.Compiler.meaning c.tell.new.inner in
    let told : end_ ≡ tell_all k later later.awaits = c.in_ok-tell-in-Ask.ensures.told in
    let none : end_.awaits ≡ [] = no-members end_.awaits (search rules) in
    less-asked shape run k kept m now b laws lt later goes end_ told c.tell.ensures.same none

pub loop-pair-preserved : goal.loop-pair-preserved
loop-pair-preserved g c =
    let shape = g.M.Compiler.shape in
    let run = g.M.Compiler.run in
    let k = told_pages c.args.told.now in
    let kept : ℕ → Bool = contains nat_cmp c.args.kept.now in
    let m = g.M.Compiler.meaning c.args.inner.now in
    let now = g.M.Compiler.meaning c.loop-pair.inner in
    let later = g.M.Compiler.meaning c.poll.new.self in
    let b = c.loop-pair.invariant in
    let laws : IsRun (shape now.common) (run now.common) = c.laws.ensures.lawful now.common (subst g.M.Compiler.valid (sym b.same.common) c.requires.valid) in
    let lt : now.item < (shape now.common).items = item-in shape run k kept m now b c.requires.item in
    let goes : Goes shape run now Ask later = by-ok shape run now later c.poll.result c.in_ok-pair.field-0 Ask c.in_ok-pair.was c.in-Ask.is c.poll.ensures in
    let end_ = g.M.Compiler.meaning c.tell.new.inner in
    let told : end_ ≡ tell_all k later later.awaits = c.in_ok-tell-in-Ask.ensures.told in
    let none : end_.awaits ≡ [] = no-members end_.awaits (search rules) in
    goes-on shape run k kept m now b laws lt later goes end_ told c.tell.ensures.same none

pub returns-in-Done-clause-goes : goal.returns-in-Done-clause-goes
returns-in-Done-clause-goes g c =
    let shape = g.M.Compiler.shape in
    let run = g.M.Compiler.run in
    let k = told_pages c.args.told.now in
    let kept : ℕ → Bool = contains nat_cmp c.args.kept.now in
    let m = g.M.Compiler.meaning c.args.inner.now in
    let now = g.M.Compiler.meaning c.loop-pair.inner in
    let later = g.M.Compiler.meaning c.poll.new.self in
    let b = c.loop-pair.invariant in
    let laws : IsRun (shape now.common) (run now.common) = c.laws.ensures.lawful now.common (subst g.M.Compiler.valid (sym b.same.common) c.requires.valid) in
    let lt : now.item < (shape now.common).items = item-in shape run k kept m now b c.requires.item in
    let goes : Goes shape run now (Done c.in-Done.page c.in-Done.facts) later = by-ok shape run now later c.poll.result c.in_ok-pair.field-0 (Done c.in-Done.page c.in-Done.facts) c.in_ok-pair.was c.in-Done.is c.poll.ensures in
    done-inner shape run k kept m now b laws lt c.in-Done.page c.in-Done.facts later goes

pub returns-in-Failed-clause-goes : goal.returns-in-Failed-clause-goes
returns-in-Failed-clause-goes g c =
    let shape = g.M.Compiler.shape in
    let run = g.M.Compiler.run in
    let k = told_pages c.args.told.now in
    let kept : ℕ → Bool = contains nat_cmp c.args.kept.now in
    let m = g.M.Compiler.meaning c.args.inner.now in
    let now = g.M.Compiler.meaning c.loop-pair.inner in
    let later = g.M.Compiler.meaning c.poll.new.self in
    let b = c.loop-pair.invariant in
    let laws : IsRun (shape now.common) (run now.common) = c.laws.ensures.lawful now.common (subst g.M.Compiler.valid (sym b.same.common) c.requires.valid) in
    let lt : now.item < (shape now.common).items = item-in shape run k kept m now b c.requires.item in
    let goes : Goes shape run now (Failed c.in-Failed.fault) later = by-ok shape run now later c.poll.result c.in_ok-pair.field-0 (Failed c.in-Failed.fault) c.in_ok-pair.was c.in-Failed.is c.poll.ensures in
    failed-inner shape run k kept m now b laws lt c.in-Failed.fault later goes
