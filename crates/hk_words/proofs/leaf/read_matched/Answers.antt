-- What clap answers, by `proofs/Reading.antt`.
use Rattle.std.proofs.Common.{◌≡◌, ◌∙◌, ap, sym, subst, map, false, rules, tests, inl, inr}
use Rattle.std.specs.Prelude.{string_bytes}
use Rattle.std.specs.List.{list_any}
use Rattle.std.proofs.lemmas.Iterator.{YieldsList-from_slice}
use Rattle.std.proofs.lemmas.Iterator.Search.{any_from_yields_List}
use Rattle.clap.proofs.WalkLemmas.{list_any-map}
use denote.Enum.Bare.{sameb}
use Rattle.clap.specs.Words.{HasKind, fault_of, found_of, is_simple, is_simple_and_free, kind_of, matches_of}
use Rattle.clap.specs.contracts.error.kind.ErrorKind.{the_type}
use Rattle.clap.specs.declared.error.kind.ErrorKind.{ErrorKind}
use Rattle.clap.specs.declared.error.kind.ErrorKind.TheVariants.{OutOfMemory}
use Rattle.hk_words.specs.Leaf.{app}
use Rattle.hk_words.proofs.Clap.{HasNoDashes, app_is_free, app_is_simple, is_dashes}
use Rattle.hk_words.proofs.Reading.{handed, taken, untaken}
use Rattle.hk_words.proofs.Dashes.{dashes_refused}
use Rattle.hk_words.proofs.leaf.read_matched.Goals as goal

pub returns-then-any : goal.returns-then-any
returns-then-any c =
    let words = map string_bytes c.args.words.now in
    let tested : c.any.result ≡ list_any is_dashes words =
    any_from_yields_List (λ s. is_dashes (string_bytes s)) _ _ c.any.result c.any.ensures.ran (YieldsList-from_slice c.args.words.now cc) (λ x b q k. search (rules, tests))
    ∙ list_any-map is_dashes string_bytes c.args.words.now in
    dashes_refused words (sym tested ∙ c.if-any.true)

pub returns-in-Ok-try_get_matches_from : goal.returns-in-Ok-try_get_matches_from
returns-in-Ok-try_get_matches_from c =
    let words = map string_bytes c.args.words.now in
    let none : HasNoDashes words =
    sym (any_from_yields_List (λ s. is_dashes (string_bytes s)) _ _ c.any.result c.any.ensures.ran (YieldsList-from_slice c.args.words.now cc) (λ x b q k. search (rules, tests))
    ∙ list_any-map is_dashes string_bytes c.args.words.now) ∙ c.if-any.false in
    let is = c.in-Ok.ensures in
    let m = c.in-Ok-try_get_matches_from in
    let no_fault = ap (λ a. fault_of a words) (sym is) ∙ m.ensures.kinds (ap is_simple_and_free is ∙ app_is_free) in
    let rows = (m.ensures.matches (ap is_simple is ∙ app_is_simple)).0 ∙ ap (λ a. matches_of a words) is in
    handed words (taken words none no_fault) (found_of m.matches) rows c.get_str.result c.get_str-in-Ok-try_get_matches_from.result c.get_str-in-Ok-try_get_matches_from-2.result c.get_flag.result
    c.get_str.ensures c.get_flag.ensures.value c.get_flag.ensures.other c.get_str-in-Ok-try_get_matches_from.ensures c.get_str-in-Ok-try_get_matches_from-2.ensures

other_kind : (k : ErrorKind) → false ≡ sameb the_type k OutOfMemory → k ≡ OutOfMemory → ⊥
other_kind k e same = let bad : false ≡ sameb the_type OutOfMemory OutOfMemory = subst (λ x. false ≡ sameb the_type x OutOfMemory) same e in cc

pub returns : goal.returns
returns c =
    let words = map string_bytes c.args.words.now in
    let none : HasNoDashes words =
    sym (any_from_yields_List (λ s. is_dashes (string_bytes s)) _ _ c.any.result c.any.ensures.ran (YieldsList-from_slice c.args.words.now cc) (λ x b q k. search (rules, tests))
    ∙ list_any-map is_dashes string_bytes c.args.words.now) ∙ c.if-any.false in
    let is = c.in-Ok.ensures in
    let kinds : HasKind (fault_of app words) c.in-Err.error = subst (λ a. HasKind (fault_of a words) c.in-Err.error) is (c.in-Err.ensures.kinds (ap is_simple_and_free is ∙ app_is_free)) in
    elim kinds [
      | inl memory ↦ absurd (other_kind c.kind.result c.if-eq.ensures (c.kind.ensures ∙ memory))
      | inr among ↦ untaken words none (kind_of c.in-Err.error) among
    ]
