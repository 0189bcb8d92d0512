use Rattle.std.proofs.Common.{sym, ◌∙◌, subst, rules, [], ◌∷◌, ◌++◌}
use Rattle.std.specs.Prelude.{Ok}
use Rattle.std.specs.Option.{option_map}
use Rattle.hk_forms.specs.PatternText.{ident_text}
use Rattle.hk_store.specs.Found.{Finds, HasKeys}
use Rattle.hk_store.specs.Stored.{HeldId}
use Rattle.hk_store.specs.StoreReading.{key_by, a_key}
use Rattle.hk_store.specs.Told.{Short}
use Rattle.hk_store.proofs.Keys.{has-more, key-slice, name-bad, name-seen, key-read, was-seen, was-new, key-short}
use Rattle.hk_store.proofs.parts.key_at.Goals as goal

pub returns-then-not-is_page_name-clause-key : goal.returns-then-not-is_page_name-clause-key
returns-then-not-is_page_name-clause-key c keys has =
    let first = subst (λ o. Finds ident_text HeldId c.args.bytes.now (option_map (λ p. (p.0, p.1.now)) o)) c.in-Some.is c.in_ok-id.ensures in
    name-bad keys c.args.bytes.now c.in-Some.rest.now c.in-Some-str_in.after.now c.in-Some.id c.in-Some-str_in.name.now first.0 first.1 c.in-Some-str_in.ensures.found.1 c.in-Some-str_in.ensures.short (sym c.if-not-is_page_name.ensures)

pub returns-then-not-branch-clause-key : goal.returns-then-not-branch-clause-key
returns-then-not-branch-clause-key c keys has =
    let first = subst (λ o. Finds ident_text HeldId c.args.bytes.now (option_map (λ p. (p.0, p.1.now)) o)) c.in-Some.is c.in_ok-id.ensures in
    let key = key_by c.in-Some.id c.in-Some-str_in.name.now in
    let slice = key-slice c.args.bytes.now c.in-Some.rest.now c.in-Some-str_in.after.now c.in-Some.id c.in-Some-str_in.name.now first.1 c.in-Some-str_in.ensures.found.1 in
    let is = c.in_ok-text.ensures ∙ slice in
    name-seen keys c.args.bytes.now c.in-Some.rest.now c.in-Some-str_in.after.now c.in-Some.id c.in-Some-str_in.name.now first.0 first.1 c.in-Some-str_in.ensures.found.1 c.in-Some-str_in.ensures.short
    (was-seen c.args.seen.now keys key c.in_ok-text.text c.in_ok-insert.field-0 has is c.in_ok-insert.ensures.added c.if-not-branch.true)

pub returns-clause-key : goal.returns-clause-key
returns-clause-key c keys has =
    let first = subst (λ o. Finds ident_text HeldId c.args.bytes.now (option_map (λ p. (p.0, p.1.now)) o)) c.in-Some.is c.in_ok-id.ensures in
    let key = key_by c.in-Some.id c.in-Some-str_in.name.now in
    let slice = key-slice c.args.bytes.now c.in-Some.rest.now c.in-Some-str_in.after.now c.in-Some.id c.in-Some-str_in.name.now first.1 c.in-Some-str_in.ensures.found.1 in
    let is = c.in_ok-text.ensures ∙ slice in
    subst (λ n. a_key keys c.args.bytes.now (Ok (key_by c.in-Some.id n, c.in-Some-str_in.after.now))) (sym c.in_ok-name.ensures)
    (key-read keys c.args.bytes.now c.in-Some.rest.now c.in-Some-str_in.after.now c.in-Some.id c.in-Some-str_in.name.now first.0 first.1 c.in-Some-str_in.ensures.found.1 c.in-Some-str_in.ensures.short
    (sym c.if-not-is_page_name.ensures)
    (was-new c.args.seen.now keys key c.in_ok-text.text c.in_ok-insert.field-0 has is c.in_ok-insert.ensures.added c.if-not-branch.false))

pub returns-clause-seen : goal.returns-clause-seen
returns-clause-seen c keys has =
    let first = subst (λ o. Finds ident_text HeldId c.args.bytes.now (option_map (λ p. (p.0, p.1.now)) o)) c.in-Some.is c.in_ok-id.ensures in
    let key = key_by c.in-Some.id c.in-Some-str_in.name.now in
    let slice = key-slice c.args.bytes.now c.in-Some.rest.now c.in-Some-str_in.after.now c.in-Some.id c.in-Some-str_in.name.now first.1 c.in-Some-str_in.ensures.found.1 in
    let is = c.in_ok-text.ensures ∙ slice in
    let short : Short c.args.bytes.now = search rules in
    subst (λ n. HasKeys c.insert.new.self (keys ++ key_by c.in-Some.id n ∷ [])) (sym c.in_ok-name.ensures)
    (has-more c.args.seen.now c.insert.new.self c.in_ok-text.text key keys is (subst Short (sym is) (key-short c.args.bytes.now c.in-Some.rest.now c.in-Some-str_in.after.now c.in-Some.id c.in-Some-str_in.name.now first.1 c.in-Some-str_in.ensures.found.1 short)) c.in_ok-insert.ensures.updates.0 has)
