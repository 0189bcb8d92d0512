use Rattle.std.proofs.Common.{◌≡◌, ◌+◌, ◌-◌, rules, sym, List, [], ◌∷◌, ◌++◌, append-nil, subst, arith, Bor, Vec, Global}
use Rattle.std.proofs.lemmas.Result.{err_from_is_err_and}
use Rattle.hk_base.specs.Bytes.{Bytes}
use Rattle.hk_fix.specs.Table.{Key}
use Rattle.hk_store.specs.Entry.{AskView}
use Rattle.hk_store.specs.Found.{HasKeys}
use Rattle.hk_store.specs.Reading.{each}
use Rattle.hk_store.specs.Stored.{keys_of_asks}
use Rattle.hk_store.specs.StoreReading.{an_ask}
use Rattle.hk_store.proofs.Readings.{each-more, err-each}
use Rattle.hk_store.proofs.TakenTexts.{more-keys}
use Rattle.hk_store.proofs.parts.asks_at.Goals as goal

pub returns-in_err-ask-clause-asks : goal.returns-in_err-ask-clause-asks
returns-in_err-ask-clause-asks c keys has =
    let p = err_from_is_err_and c.from_residual.result c.from_residual.ensures.1 in
    rw (p.1, p.2) (err-each (λ group. an_ask (keys ++ keys_of_asks group)) c.args.count c.loop-done._done c.loop-done.asks.items c.loop-done.rest.now c.args.bytes.now (λ (q : AskView × Bor Bytes). (q.0, q.1.now)) (λ (q : Vec AskView Global × Bor Bytes). (q.0.items, q.1.now)) _ c.loop-done-test.true (c.loop-done.invariant.gives keys has)
    (c.in_err-ask.ensures.ask (keys ++ keys_of_asks c.loop-done.asks.items) (c.loop-done.invariant.seen keys has)))

pub loop-done-init : goal.loop-done-init
loop-done-init c =
    let none : c.new-asks.result.items ≡ [] = search rules in
    let whole : c.args.count - 0 ≡ c.args.count = omega arith in
    record {
      few = omega arith;
      gives = λ keys has o g. subst (λ n. each n (λ group. an_ask (keys ++ keys_of_asks group)) [] c.args.bytes.now o) whole
          (subst (λ (l : List AskView). each (c.args.count - 0) (λ group. an_ask (keys ++ keys_of_asks group)) l c.args.bytes.now o) none g);
      seen = λ keys has. subst (λ (l : List AskView). HasKeys c.args.seen.now (keys ++ keys_of_asks l)) (sym none) (subst (HasKeys c.args.seen.now) (sym (append-nil keys)) has);
    }

pub loop-done-preserved : goal.loop-done-preserved
loop-done-preserved c =
    record {
      few = omega (arith, c.loop-done-test.true);
      gives = λ keys has o g. c.loop-done.invariant.gives keys has o (each-more (λ group. an_ask (keys ++ keys_of_asks group)) c.args.count c.loop-done._done c.loop-done.asks.items c.loop-done.rest.now c.in_ok-ask.ask c.in_ok-ask.next.now c.loop-done-test.true
          (c.in_ok-ask.ensures.ask (keys ++ keys_of_asks c.loop-done.asks.items) (c.loop-done.invariant.seen keys has)) o
          (subst (λ (l : List AskView). each (c.args.count - (c.loop-done._done + 1)) (λ group. an_ask (keys ++ keys_of_asks group)) l c.in_ok-ask.next.now o) c.in_ok-push.ensures.items g));
      seen = λ keys has. subst (λ (l : List AskView). HasKeys c.ask_at.new.seen (keys ++ keys_of_asks l)) (sym c.in_ok-push.ensures.items)
          (subst (HasKeys c.ask_at.new.seen) (more-keys keys c.loop-done.asks.items c.in_ok-ask.ask)
          (c.in_ok-ask.ensures.seen (keys ++ keys_of_asks c.loop-done.asks.items) (c.loop-done.invariant.seen keys has)));
    }
