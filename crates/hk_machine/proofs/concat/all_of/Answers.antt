use Rattle.std.proofs.Common.{◌≡◌, refl, sym, ap, ◌∙◌, subst, arith, ◌<◌, [], length, Ok, Err, map}
use Rattle.hk_chain.specs.declared.page.Page.{Page}
use Rattle.hk_chain.specs.declared.fault.Fault.TheVariants.{WrongKind}
use Rattle.hk_fix.specs.Pages.{Pages, lacking}
use Rattle.hk_fix.specs.Task.{Task, fault, notes, used, ◌▷◌}
use Rattle.hk_rules.specs.Plan.{lookups}
use Rattle.hk_machine.specs.Acting.{Given}
use Rattle.hk_eval.specs.Asking.{ask_group, other_kind, text_page}
use Rattle.hk_eval.specs.Groups.{told_page}
use Rattle.hk_machine.specs.Chain.{joined_pages}
use Rattle.hk_machine.specs.Groups.{joining_of, joined_of}
use Rattle.hk_eval.specs.Told.{told_pages}
use Rattle.hk_eval.proofs.Grouping.{other-in, empty-list, told-all}
use Rattle.hk_machine.proofs.Grouping.{concat-quiet, concat-waits, concat-given, concat-fails, other-is}
use Rattle.hk_machine.proofs.concat.all_of.Goals as goal

pub returns-then-not-is_empty-clause-acts : goal.returns-then-not-is_empty-clause-acts
returns-then-not-is_empty-clause-acts c = λ page.
    let some : 0 < length c.in_ok-lacks.lacks.items = grind arith in (
      concat-quiet (lookups c.args.plan.now) (told_pages c.args.told.now) c.args.pattern c.args.items.now c.args.pairs.now,
      concat-waits (lookups c.args.plan.now) (told_pages c.args.told.now) c.args.pattern c.args.items.now c.args.pairs.now c.in_ok-lacks.lacks.items c.in_ok-lacks.ensures some,
      refl,
    )

pub returns-in-Bodies-clause-acts : goal.returns-in-Bodies-clause-acts
returns-in-Bodies-clause-acts c = λ page.
    let k : Pages = told_pages c.args.told.now in
    let t : Task Page = notes (used c.args.pattern) (ask_group c.args.pairs.now ▷ joined_pages (lookups c.args.plan.now) c.args.items.now) in
    let z : length c.in_ok-lacks.lacks.items ≡ 0 = grind arith in
    let none : lacking k c.args.pairs.now ≡ [] = sym c.in_ok-lacks.ensures ∙ empty-list c.in_ok-lacks.lacks.items z in
    let join : Ok c.in-Bodies.bytes.items ≡ joined_of (map (told_page k) c.args.pairs.now) (other_kind c.args.items.now (map (told_page k) c.args.pairs.now)) = ap joining_of (sym c.in-Bodies.is) ∙ c.in_ok-bytes.ensures in
    subst (λ (p : Page). Given k t c.args.notes.now p c.note_group.new.self) (sym (c.in_ok-text_of-in-Bodies.ensures ∙ ap text_page c.from_vec-text.ensures))
    (concat-given (lookups c.args.plan.now) k c.args.pattern c.args.items.now c.args.pairs.now none c.in-Bodies.bytes.items c.args.notes.now c.note_pattern.new.self c.note_group.new.self join c.in_ok-note_pattern-in-Bodies.ensures c.in_ok-note_group-in-Bodies.ensures)

pub id-requires : goal.id-requires
id-requires c =
    let k : Pages = told_pages c.args.told.now in
    let z : length c.in_ok-lacks.lacks.items ≡ 0 = grind arith in
    let none : lacking k c.args.pairs.now ≡ [] = sym c.in_ok-lacks.ensures ∙ empty-list c.in_ok-lacks.lacks.items z in
    let join : Err c.in-Other.item ≡ joined_of (map (told_page k) c.args.pairs.now) (other_kind c.args.items.now (map (told_page k) c.args.pairs.now)) = ap joining_of (sym c.in-Other.is) ∙ c.in_ok-bytes.ensures in
    other-in (λ i. i < length c.args.plan.now.items) c.args.items.now (map (told_page k) c.args.pairs.now) c.in-Other.item c.requires.items (other-is (lookups c.args.plan.now) k c.args.pattern c.args.items.now c.args.pairs.now none c.in-Other.item join)

pub returns-clause-acts : goal.returns-clause-acts
returns-clause-acts c = λ page.
    let k : Pages = told_pages c.args.told.now in
    let z : length c.in_ok-lacks.lacks.items ≡ 0 = grind arith in
    let none : lacking k c.args.pairs.now ≡ [] = sym c.in_ok-lacks.ensures ∙ empty-list c.in_ok-lacks.lacks.items z in
    let join : Err c.in-Other.item ≡ joined_of (map (told_page k) c.args.pairs.now) (other_kind c.args.items.now (map (told_page k) c.args.pairs.now)) = ap joining_of (sym c.in-Other.is) ∙ c.in_ok-bytes.ensures in (
      concat-quiet (lookups c.args.plan.now) k c.args.pattern c.args.items.now c.args.pairs.now,
      concat-fails (lookups c.args.plan.now) k c.args.pattern c.args.items.now c.args.pairs.now none c.in-Other.item join ∙ ap (λ id. fault (WrongKind id)) (sym (c.in_ok-copy-in-Other.ensures ∙ c.id.ensures)),
    )

pub join-requires-clause-told : goal.join-requires-clause-told
join-requires-clause-told c =
    let z : length c.in_ok-lacks.lacks.items ≡ 0 = grind arith in
    told-all (told_pages c.args.told.now) c.args.pairs.now (sym c.in_ok-lacks.ensures ∙ empty-list c.in_ok-lacks.lacks.items z)
