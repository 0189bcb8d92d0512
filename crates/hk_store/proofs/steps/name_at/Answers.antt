use Rattle.std.proofs.Common.{◌≡◌, refl, sym, ◌∙◌, subst, not, [], ◌∷◌, ◌++◌}
use Rattle.std.specs.BTreeSet.{contains}
use Rattle.std.specs.Cmp.Lexicographic.{slice_cmp}
use Rattle.std.specs.Ordering.{nat_cmp}
use Rattle.std.specs.Prelude.{Ok}
use Rattle.hk_forms.specs.PatternText.{str}
use Rattle.hk_store.specs.Found.{HasNames}
use Rattle.hk_store.specs.Reading.{field}
use Rattle.hk_store.specs.Stored.{saved_names}
use Rattle.hk_store.specs.StoreReading.{FitsName}
use Rattle.hk_store.proofs.SavedNames.{has-name, name-seen, name-new, unfit-name, used-name}
use Rattle.hk_store.proofs.steps.name_at.Goals as goal

pub returns-then-not-is_save_name-clause-name : goal.returns-then-not-is_save_name-clause-name
returns-then-not-is_save_name-clause-name c before has =
    unfit-name c.args.last before c.args.bytes.now c.in-Some.rest.now c.in-Some.name.now c.in-Some.ensures.found.1 c.in-Some.ensures.short (sym c.if-not-is_save_name.ensures)

pub returns-then-not-branch-clause-name : goal.returns-then-not-branch-clause-name
returns-then-not-branch-clause-name c before has =
    let added = subst (λ t. c.in_ok-insert.field-0 ≡ not (contains (slice_cmp nat_cmp) c.args.seen.now t)) c.in_ok-text.ensures c.in_ok-insert.ensures.added in
    used-name c.args.last before c.args.bytes.now c.in-Some.rest.now c.in-Some.name.now c.in-Some.ensures.found.1 c.in-Some.ensures.short
    (name-seen c.args.seen.now (saved_names before) c.in-Some.name.now c.in_ok-insert.field-0 has added c.if-not-branch.true)

pub returns-clause-name : goal.returns-clause-name
returns-clause-name c before has =
    let added = subst (λ t. c.in_ok-insert.field-0 ≡ not (contains (slice_cmp nat_cmp) c.args.seen.now t)) c.in_ok-text.ensures c.in_ok-insert.ensures.added in
    subst (λ n. field str (FitsName c.args.last before) c.args.bytes.now (Ok (n, c.in-Some.rest.now))) (sym c.in_ok-name.ensures)
    ((sym c.if-not-is_save_name.ensures, name-new c.args.seen.now (saved_names before) c.in-Some.name.now c.in_ok-insert.field-0 has added c.if-not-branch.false), c.in-Some.ensures.found.1)

pub returns-clause-seen : goal.returns-clause-seen
returns-clause-seen c names has =
    subst (λ n. HasNames c.insert.new.self (names ++ n ∷ [])) (c.in_ok-text.ensures ∙ sym c.in_ok-name.ensures)
    (has-name c.args.seen.now c.insert.new.self c.in_ok-text.text names c.in_ok-insert.ensures.updates.0 has)

pub returns-in_default-clause-name : goal.returns-in_default-clause-name
returns-in_default-clause-name c before has = (refl, λ n r h e. c.in_default.ensures.found n r tt e)
