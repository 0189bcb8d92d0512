use Rattle.std.proofs.Common.{arith, sym, ◌++◌}
use Rattle.std.specs.List.{flat_map}
use Rattle.std.proofs.lemmas.Option.{slice_get_within}
use Rattle.hk_forms.specs.PatternText.{str}
use Rattle.hk_store.specs.Told.{both}
use Rattle.hk_store.proofs.Pairs.{pair-told, pair-room, past-end, pairs-end}
use Rattle.hk_store.proofs.digests.write_pairs.Goals as goal

pub loop-key-preserved : goal.loop-key-preserved
loop-key-preserved c =
    let meta = c.args.meta.now in
    let place = c.loop-key.place in
    let key = c.in-Some.key.now in
    let value = c.in-Some.value.now in
    let all = c.args.out.now.items ++ flat_map (both str str) meta in
    let there = sym c.in-Some.ensures.value in
    record {
      few = omega (arith, slice_get_within meta place (key, value) there);
      room = pair-room meta place key value c.loop-key.out.items c.write_str.new.out.items c.write_str-in-Some.new.out.items all there c.in_ok-write_str.ensures c.in_ok-write_str-2.ensures c.loop-key.invariant.room;
      told = pair-told meta place key value c.loop-key.out.items c.write_str.new.out.items c.write_str-in-Some.new.out.items all there c.in_ok-write_str.ensures c.in_ok-write_str-2.ensures c.loop-key.invariant.told;
    }

pub returns-clause-count : goal.returns-clause-count
returns-clause-count c = omega (arith, c.loop-key.invariant.few, past-end c.args.meta.now c.loop-key.place (sym c.in_default.ensures.value))

pub returns-clause-written : goal.returns-clause-written
returns-clause-written c = pairs-end c.args.meta.now c.loop-key.place c.loop-key.out.items (c.args.out.now.items ++ flat_map (both str str) c.args.meta.now) (past-end c.args.meta.now c.loop-key.place (sym c.in_default.ensures.value)) c.loop-key.invariant.told
