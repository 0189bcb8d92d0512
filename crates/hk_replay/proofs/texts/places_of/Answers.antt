use Rattle.std.proofs.Common.{◌≡◌, sym, ap, ◌∙◌, arith, ℕ, ◌+◌, ◌-◌, drop, List, Vec}
use Rattle.std.specs.Prelude.{bytes_eq}
use Rattle.std.specs.BTreeMap.{insert_entry}
use Rattle.std.specs.Cmp.Lexicographic.{slice_cmp}
use Rattle.std.specs.List.{position_from}
use Rattle.std.specs.Ordering.{nat_cmp}
use Rattle.std.specs.declared.alloc.Global.{Global}
use Rattle.hk_base.specs.Bytes.{Bytes}
use Rattle.hk_replay.proofs.FirstPlaces.{first-turn}
use Rattle.hk_replay.proofs.texts.places_of.Goals as goal

pub loop-at-preserved : goal.loop-at-preserved
loop-at-preserved c =
    let texts : List Bytes = c.args.texts.now in
    let at = c.loop-at.at in
    let back : (at - 1) + 1 ≡ at = omega (arith, c.loop-at-test.true) in (
      omega (arith, c.loop-at.invariant.0),
      first-turn texts (at - 1) c.index-texts-at.result c.loop-at.places.entries c.insert.new.self.entries c.in_ok-text.text (omega (arith, c.loop-at.invariant.0, c.loop-at-test.true)) c.index-texts-at.is (c.in_ok-text.ensures.items ∙ c.as_slice.ensures)
          (c.in_ok-insert.ensures.entries ∙ ap (insert_entry (λ (x y : Vec ℕ Global). slice_cmp nat_cmp x.items y.items) c.loop-at.places.entries c.in_ok-text.text) c.in_ok-number.ensures)
          (λ q. c.loop-at.invariant.1 q ∙ ap (λ (n : ℕ). position_from (λ own. bytes_eq own q) n (drop n texts)) (sym back)),
    )

pub returns : goal.returns
returns c =
    let zero : c.loop-at.at ≡ 0 = omega (arith, c.loop-at-test.false) in
    λ q. c.loop-at.invariant.1 q ∙ ap (λ (n : ℕ). position_from (λ own. bytes_eq own q) n (drop n c.args.texts.now)) zero
