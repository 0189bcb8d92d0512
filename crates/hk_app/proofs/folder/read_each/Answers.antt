use Rattle.std.proofs.Common.{◌≡◌, rules, ap, ◌∙◌, ◌++◌, arith, subst, IfSome, Some, None, refl}
use Rattle.std.specs.Option.{option_map}
use Rattle.std.specs.Map.Iter.{deref}
use Rattle.std.proofs.lemmas.Map.Iter.{rest_more}
use Rattle.std.specs.FinMap.{get}
use Rattle.hk_base.specs.Bytes.{ascends, paths_of}
use Rattle.hk_base.proofs.Ascending.{ascending-one, ascending-none, ascends-sorted}
use Rattle.hk_app.proofs.FolderReads.{one_read, none_read, reads-init}
use Rattle.hk_app.proofs.folder.read_each.Goals as goal

pub loop-path-init : goal.loop-path-init
loop-path-init g c =
    let all = c.into_iter-path-iterator.ensures.into_iter_gives ∙ c.iter-path-items.ensures.rest in
    record {
      each = reads-init (g.S.Tree.files c.args.source.now) _ _ _ c.new-files.ensures.items all;
      ascending = ap (λ es. ascends (paths_of es ++ c.into_iter-path-iterator.result)) c.new-files.ensures.items ∙ ap ascends all ∙ ascends-sorted c.args.paths.now.keys c.iter-path-items.ensures.ordered;
      same = refl;
      later = omega arith;
    }

pub loop-path-preserved : goal.loop-path-preserved
loop-path-preserved g c =
    let step = rest_more deref _ _ _ _ c.in-Some.is c.next.ensures.steps in
    let found : IfSome (g.S.Tree.files c.loop-path.source) (λ m. None ≡ get m c.in-Some.path.now) = subst (λ o. IfSome (g.S.Tree.files c.loop-path.source) (λ m. option_map (λ v. v.items) o ≡ get m c.in-Some.path.now)) c.in_default.is (rw c.as_slice.ensures at c.in_ok-bytes.ensures.found) in
    record {
      each = none_read (g.S.Tree.files c.args.source.now) (g.S.Tree.files c.loop-path.source) c.loop-path.files.items c.loop-path.path-iterator c.next.new.self c.args.paths.now.keys c.in-Some.path.now c.loop-path.invariant.each c.loop-path.invariant.same step found;
      ascending = ascending-none c.loop-path.files.items c.loop-path.path-iterator c.next.new.self c.in-Some.path.now step c.loop-path.invariant.ascending;
      same = search rules;
      later = omega arith;
    }

pub loop-path-preserved-in_ok-push : goal.loop-path-preserved-in_ok-push
loop-path-preserved-in_ok-push g c =
    let step = rest_more deref _ _ _ _ c.in-Some.is c.next.ensures.steps in
    let found : IfSome (g.S.Tree.files c.loop-path.source) (λ m. Some c.in-Some-2.bytes.items ≡ get m c.in-Some.path.now) = subst (λ o. IfSome (g.S.Tree.files c.loop-path.source) (λ m. option_map (λ v. v.items) o ≡ get m c.in-Some.path.now)) c.in-Some-2.is (rw c.as_slice.ensures at c.in_ok-bytes.ensures.found) in
    record {
      each = one_read _ _ _ _ _ _ _ _ _ _ _ c.loop-path.invariant.each c.loop-path.invariant.same step found c.in_ok-push.ensures.items (c.in_ok-from_slice.ensures ∙ c.as_slice-in-Some-2.ensures) c.from_vec.ensures;
      ascending = ascending-one c.loop-path.files.items _ c.loop-path.path-iterator c.next.new.self c.in-Some.path.now _ _ step c.in_ok-push.ensures.items (c.in_ok-from_slice.ensures ∙ c.as_slice-in-Some-2.ensures) c.loop-path.invariant.ascending;
      same = search rules;
      later = omega arith;
    }
