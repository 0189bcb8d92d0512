-- Claims, rule after rule, up to the most items that a site may have.
use borrow.Author.Tests.{lt-ltb, ltb-true}
use Rattle.std.proofs.Common.{◌≡◌, ◌<◌, ◌≤◌, true, false, cond, List, [], ◌∷◌, ◌++◌, length, Option, Some, None, refl, sym, ap, subst, ◌∙◌, arith, nat_lt}
use Rattle.std.specs.Prelude.{fold}
use Rattle.std.specs.Map.{lookup}
use Rattle.std.specs.Option.{is_some}
use Rattle.std.specs.BTreeMap.{insert_entry, is_at}
use Rattle.std.specs.Ordering.{match_ordering}
use Rattle.std.specs.declared.cmp.Ordering.TheVariants.{Less, Equal, Greater}
use Rattle.std.proofs.lemmas.Grind.{fold-append}
use Rattle.hk_base.specs.Bytes.{Bytes}
use Rattle.hk_base.specs.Identifier.{Ident, ident_cmp}
use Rattle.hk_base.proofs.Both.{not-both}
use Rattle.hk_rules.specs.Universe.{Claim, claimed, claimed_all, claims_of, Enough, same, many}
use Rattle.hk_rules_file.specs.declared.rules.Rule.{Rule}
use Rattle.hk_rules.specs.declared.owner.Owner.{Owner}
use Rattle.hk_rules.specs.declared.source_file.SourceFile.{SourceFile}

insert-long : (es : List Claim) (k : Ident) (v : Owner) → length es ≤ length (insert_entry ident_cmp es k v)
insert-long [] k v = omega arith
insert-long (e ∷ es) k v =
    let rest = insert-long es k v in
    elim (ident_cmp k e.0) as (λ o. length (e ∷ es) ≤ length (match_ordering o ((k, v) ∷ e ∷ es) ((e.0, v) ∷ es) (e ∷ insert_entry ident_cmp es k v))) [
      | Less ↦ omega arith
      | Equal ↦ omega arith
      | Greater ↦ omega (arith, rest)
    ]

claimed-long : (es : List Claim) (c : Option Claim) → length es ≤ length (claimed es c)
claimed-long es None = omega arith
claimed-long es (Some c) =
    elim (is_some (lookup (is_at (ident_cmp c.0)) es)) as (λ b. length es ≤ length (cond b es (insert_entry ident_cmp es c.0 c.1))) [
      | true ↦ omega arith
      | false ↦ insert-long es c.0 c.1
    ]

fold-long : (es : List Claim) (cs : List (Option Claim)) → length es ≤ length (fold claimed es cs)
fold-long es [] = omega arith
fold-long es (c ∷ cs) = omega (arith, claimed-long es c, fold-long (claimed es c) cs)

over : (es es' us : List Claim) (sources : List (Bytes × SourceFile)) (rule : Rule) → es' ≡ es → 65535 < length es → Enough es us → Enough es' (claimed_all sources us rule)
over es es' us sources rule e h (same s) =
    many (subst (λ xs. 65535 < length xs) (sym e) h) (omega (arith, subst (λ xs. 65535 < length xs) s h, fold-long us (claims_of sources rule)))
over es es' us sources rule e h (many l k) =
    many (subst (λ xs. 65535 < length xs) (sym e) h) (omega (arith, k, fold-long us (claims_of sources rule)))

under : (es es' us : List Claim) (sources : List (Bytes × SourceFile)) (rule : Rule) → es' ≡ claimed_all sources es rule → nat_lt 65535 (length es) ≡ false → Enough es us → Enough es' (claimed_all sources us rule)
under es es' us sources rule e h (same s) = same (e ∙ ap (λ xs. claimed_all sources xs rule) s)
under es es' us sources rule e h (many l k) = not-both _ (lt-ltb _ _ l) h

-- one more rule
pub enough-turn : (sources : List (Bytes × SourceFile)) (es es' : List Claim) (rules : List Rule) (rule : Rule) → Enough es (fold (claimed_all sources) [] rules) → es' ≡ cond (nat_lt 65535 (length es)) es (claimed_all sources es rule) → Enough es' (fold (claimed_all sources) [] (rules ++ rule ∷ []))
enough-turn sources es es' rules rule so_far put =
    let us = fold (claimed_all sources) [] rules in
    subst (Enough es') (sym (fold-append (claimed_all sources) [] rules (rule ∷ [])))
    (elim (nat_lt 65535 (length es)) as (λ b. nat_lt 65535 (length es) ≡ b → es' ≡ cond b es (claimed_all sources es rule) → Enough es' (claimed_all sources us rule)) [
      | true ↦ λ t e. over es es' us sources rule e (ltb-true _ _ t) so_far
      | false ↦ λ t e. under es es' us sources rule e t so_far
    ] refl put)
