-- A pattern chooses by what the patterns in it choose.
use Rattle.std.proofs.Common.{◌≡◌, sym, ap, ◌∙◌, map, not, subst, true, false, refl}
use Rattle.std.specs.Prelude.{IfOk, ◌&&◌, ◌||◌}
use Rattle.std.specs.List.{list_all, list_any}
use Rattle.std.proofs.lemmas.Simd.{splat_is_map}
use Rattle.hk_rules.specs.Flags.{is_chosen, is_item, merged}
use Rattle.hk_rules.proofs.Flagging.{chosen-ids, chosen-and, chosen-or, chosen-not, all-turn, any-turn, as-many}
use Rattle.hk_rules.proofs.matching.+flagging.Goals as goal

pub flags_of-returns-in-Ids : goal.flags_of-returns-in-Ids
flags_of-returns-in-Ids t c =
    subst (λ flags. IfOk c.flags_of_listed.result (λ v. v.items ≡ flags))
    (ap (λ ids. map (λ item. list_any (λ id. is_item id item) ids) c.args.items.now) c.as_slice.ensures ∙ chosen-ids c.in-Ids.ids c.args.items.now ∙ ap (λ p. map (is_chosen p) c.args.items.now) (sym c.in-Ids.is))
    c.flags_of_listed.ensures

pub flags_of-returns-in-And : goal.flags_of-returns-in-And
flags_of-returns-in-And t c =
    subst (λ flags. IfOk c.flags_of_all.result (λ v. v.items ≡ flags))
    (ap (λ ps. map (λ item. list_all (λ p. is_chosen p item) ps) c.args.items.now) c.as_slice-in-And.ensures ∙ chosen-and c.in-And.patterns c.args.items.now ∙ ap (λ p. map (is_chosen p) c.args.items.now) (sym c.in-And.is))
    c.flags_of_all.ensures

pub flags_of-returns-in-Or : goal.flags_of-returns-in-Or
flags_of-returns-in-Or t c =
    subst (λ flags. IfOk c.flags_of_any.result (λ v. v.items ≡ flags))
    (ap (λ ps. map (λ item. list_any (λ p. is_chosen p item) ps) c.args.items.now) c.as_slice-in-Or.ensures ∙ chosen-or c.in-Or.patterns c.args.items.now ∙ ap (λ p. map (is_chosen p) c.args.items.now) (sym c.in-Or.is))
    c.flags_of_any.ensures

pub flags_of-returns-in_ok-flags-in-Not : goal.flags_of-returns-in_ok-flags-in-Not
flags_of-returns-in_ok-flags-in-Not t c =
    subst (λ flags. IfOk c.turned.result (λ v. v.items ≡ flags))
    (ap (map not) (c.deref.ensures.value ∙ c.in_ok-flags-in-Not.ensures ∙ ap (λ p. map (is_chosen p) c.args.items.now) c.get.ensures) ∙ chosen-not c.in-Not.pattern c.args.items.now ∙ ap (λ p. map (is_chosen p) c.args.items.now) (sym c.in-Not.is))
    c.turned.ensures

pub flags_of_all-loop-pattern-init : goal.flags_of_all-loop-pattern-init
flags_of_all-loop-pattern-init t c = c.in_ok-flags.ensures.items_if_clones_equal (λ y e. e) ∙ splat_is_map c.args.items.now _ true refl

pub flags_of_all-loop-pattern-preserved : goal.flags_of_all-loop-pattern-preserved
flags_of_all-loop-pattern-preserved t c =
    all-turn is_chosen c.args.items.now c.args.patterns.now c.loop-pattern.pattern-index c.pattern-item.result c.loop-pattern.flags.items c.in_ok-more.more.items c.in_ok-flags-2.flags.items c.loop-pattern-test.true c.pattern-item.is c.loop-pattern.invariant c.in_ok-more.ensures
    (c.in_ok-flags-2.ensures ∙ λ k. merged (λ a b. a && b) (c.deref.ensures.value k) (c.deref-in-loop-pattern.ensures.value k))

pub flags_of_any-loop-pattern-init : goal.flags_of_any-loop-pattern-init
flags_of_any-loop-pattern-init t c = c.in_ok-flags.ensures.items_if_clones_equal (λ y e. e) ∙ splat_is_map c.args.items.now _ false refl

pub flags_of_any-loop-pattern-preserved : goal.flags_of_any-loop-pattern-preserved
flags_of_any-loop-pattern-preserved t c =
    any-turn is_chosen c.args.items.now c.args.patterns.now c.loop-pattern.pattern-index c.pattern-item.result c.loop-pattern.flags.items c.in_ok-more.more.items c.in_ok-flags-2.flags.items c.loop-pattern-test.true c.pattern-item.is c.loop-pattern.invariant c.in_ok-more.ensures
    (c.in_ok-flags-2.ensures ∙ λ k. merged (λ a b. a || b) (c.deref.ensures.value k) (c.deref-in-loop-pattern.ensures.value k))

pub flags_of_any-either-requires : goal.flags_of_any-either-requires
flags_of_any-either-requires t c = as-many c.args.items.now _ _ c.deref.result.now c.deref-in-loop-pattern.result.now (c.deref.ensures.value ∙ c.loop-pattern.invariant) (c.deref-in-loop-pattern.ensures.value ∙ c.in_ok-more.ensures)

pub flags_of_all-both-requires : goal.flags_of_all-both-requires
flags_of_all-both-requires t c = as-many c.args.items.now _ _ c.deref.result.now c.deref-in-loop-pattern.result.now (c.deref.ensures.value ∙ c.loop-pattern.invariant) (c.deref-in-loop-pattern.ensures.value ∙ c.in_ok-more.ensures)
