-- What a pattern matches, by its kind.
use Rattle.std.proofs.Common.{◌≡◌, Bool, not, List, [], ◌∷◌, map, Option, Some, is_some, refl, sym, ap, ◌∙◌}
use Rattle.std.specs.Prelude.{◌||◌}
use Rattle.std.specs.List.{list_all, list_any}
use Rattle.std.proofs.lemmas.List.Folds.{list_all-map}
use Rattle.hk_base.specs.Bytes.{Bytes}
use Rattle.hk_base.specs.Identifier.{Ident}
use Rattle.hk_pattern.specs.declared.pattern.Pattern.{Pattern, Pattern-F, fold-roll-Pattern}
use Rattle.hk_pattern.specs.declared.pattern.Pattern.TheVariants.{Glob, Ids, And, Or, Not, HasVersion, HasNoVersion, rolls-Glob, rolls-Ids, rolls-And, rolls-Or, rolls-Not, rolls-HasVersion, rolls-HasNoVersion}
use Rattle.hk_pattern.specs.Glob.{covers, pieces}
use Rattle.hk_pattern.specs.Pattern.{Test, test_of, matches, is_id, same_version}

list_any-map : {X : Type 0} (p : X → Bool) → {Y : Type 0} (h : Y → X) (ys : List Y) → list_any p (map h ys) ≡ list_any (λ y. p (h y)) ys
list_any-map p h [] = refl
list_any-map p h (y ∷ ys) = ap (λ b. p (h y) || b) (list_any-map p h ys)

module _ (path : Bytes) (version : Option Bytes) where
  pub matches-glob : (glob : Bytes) → matches (Glob glob) path version ≡ covers (pieces glob) path
  matches-glob glob = ap (λ p. matches p path version) (sym (rolls-Glob glob)) ∙ ap (λ (t : Test). t path version) (fold-roll-Pattern Test test_of (Pattern-F.Glob glob))

  pub matches-ids : (ids : List Ident) → matches (Ids ids) path version ≡ list_any (is_id path version) ids
  matches-ids ids = ap (λ p. matches p path version) (sym (rolls-Ids ids)) ∙ ap (λ (t : Test). t path version) (fold-roll-Pattern Test test_of (Pattern-F.Ids ids))

  pub matches-and : (ps : List Pattern) → matches (And ps) path version ≡ list_all (λ p. matches p path version) ps
  matches-and ps = ap (λ p. matches p path version) (sym (rolls-And ps)) ∙ ap (λ (t : Test). t path version) (fold-roll-Pattern Test test_of (Pattern-F.And ps))
      ∙ list_all-map (λ (t : Test). t path version) matches ps

  pub matches-or : (ps : List Pattern) → matches (Or ps) path version ≡ list_any (λ p. matches p path version) ps
  matches-or ps = ap (λ p. matches p path version) (sym (rolls-Or ps)) ∙ ap (λ (t : Test). t path version) (fold-roll-Pattern Test test_of (Pattern-F.Or ps))
      ∙ list_any-map (λ (t : Test). t path version) matches ps

  pub matches-not : (p : Pattern) → matches (Not p) path version ≡ not (matches p path version)
  matches-not p = ap (λ p. matches p path version) (sym (rolls-Not p)) ∙ ap (λ (t : Test). t path version) (fold-roll-Pattern Test test_of (Pattern-F.Not p))

  pub matches-has_version : (own : Bytes) → matches (HasVersion own) path version ≡ same_version (Some own) version
  matches-has_version own = ap (λ p. matches p path version) (sym (rolls-HasVersion own)) ∙ ap (λ (t : Test). t path version) (fold-roll-Pattern Test test_of (Pattern-F.HasVersion own))

  pub matches-has_no_version : matches HasNoVersion path version ≡ not (is_some version)
  matches-has_no_version = ap (λ p. matches p path version) (sym rolls-HasNoVersion) ∙ ap (λ (t : Test). t path version) (fold-roll-Pattern Test test_of Pattern-F.HasNoVersion)
