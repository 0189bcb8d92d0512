-- Wrong readings of values of the rules file break the laws.
use Rattle.std.proofs.Common.{◌≡◌, ℕ, pos, Bool, true, false, codes, refl, arith, length, subst, List, [], ◌∷◌, ◌<◌, inl, inr}
use Rattle.toml.specs.Data.{Data, string, integer, boolean}
use Rattle.hk_base.specs.Bytes.{Bytes}
use Rattle.hk_chain.specs.declared.context.Order.{Order}
use Rattle.hk_chain.specs.declared.context.Order.TheVariants.{Chronological}
use Rattle.hk_pattern.specs.declared.pattern.Pattern.{Pattern}
use Rattle.hk_route.specs.declared.route.Route.{Route}
use Rattle.hk_steps.specs.declared.draft.DraftStep.{DraftStep}
use Rattle.hk_laws.specs.FirstUses.{AreByFirstUse}
use Rattle.hk_laws.specs.FieldValues.{IsOrder, by_id, chronological, recent, IsCount, count}
use Rattle.hk_laws.specs.PatternValues.{PatternRow, bare_glob, glob, ids, all, any, other, has_version, no_version}
use Rattle.hk_laws.specs.RouteValues.{RouteRow, same, first, dotted, extension, constant, gsub, where_, compose}
use Rattle.hk_laws.specs.StepValues.{IsStep, body, whole, copy, template, relativize, make, load, load_saved, concat, apply, apply_in, self, save}
use Rattle.hk_laws.specs.Values.{only_at, HasTwo, in_order, turned}
use Rattle.hk_laws.specs.WrongDefinitions.{FalseIsNoVersion, DotIsExtension, BodyOfCreated, NoneIsCount, RecentIsChronological, NoSteps, UnusedPattern, TurnedPatterns}

no_row : (Inner : Data → Pattern → Type 0) (d : Data) (p : Pattern) → PatternRow Inner d p → d ≡ only_at (codes "no_version") (boolean false) → ⊥
no_row Inner _ _ (bare_glob text short) e = let no_ : ⊥ = cc in no_
no_row Inner _ _ (glob text short) e = let no_ : ⊥ = cc in no_
no_row Inner _ _ (ids ds xs are) e = let no_ : ⊥ = cc in no_
no_row Inner _ _ (all ds ps are) e = let no_ : ⊥ = cc in no_
no_row Inner _ _ (any ds ps are) e = let no_ : ⊥ = cc in no_
no_row Inner _ _ (other d p is) e = let no_ : ⊥ = cc in no_
no_row Inner _ _ (has_version version fits) e = let no_ : ⊥ = cc in no_
no_row Inner _ _ no_version e = let no_ : ⊥ = cc in no_

pub false_is_no_version : FalseIsNoVersion
false_is_no_version read e laws = no_row _ _ _ ((laws _ _).0 e) refl

no_two : (one two : Bytes) (d e t : Data) → HasTwo one two d e t → t ≡ only_at (codes "extension") (string (codes ".")) → ⊥
no_two one two d e _ in_order is = let no_ : ⊥ = cc in no_
no_two one two d e _ turned is = let no_ : ⊥ = cc in no_

no_route : (Choice : Data → Pattern → Type 0) (Inner : Data → Route → Type 0) (d : Data) (r : Route) → RouteRow Choice Inner d r → d ≡ only_at (codes "extension") (string (codes ".")) → ⊥
no_route Choice Inner _ _ same e = let no_ : ⊥ = cc in no_
no_route Choice Inner _ _ (first ds rs are) e = let no_ : ⊥ = cc in no_
no_route Choice Inner _ _ (dotted b bs) e = let no_ : ⊥ = cc in no_
no_route Choice Inner _ _ (extension b bs no_dot) e = let is : b ≡ 46 = cc in no_dot is
no_route Choice Inner _ _ (constant path) e = let no_ : ⊥ = cc in no_
no_route Choice Inner _ _ (gsub b bs new) e = let no_ : ⊥ = cc in no_
no_route Choice Inner _ _ (where_ t d f p r has at to) e = no_two (codes "use") (codes "when") f d t has e
no_route Choice Inner _ _ (compose ds rs are) e = let no_ : ⊥ = cc in no_

pub dot_is_extension : DotIsExtension
dot_is_extension read route e laws = no_route _ _ _ _ ((laws _ _).0 e) refl

no_string : (one two : Bytes) (d e t : Data) (word : Bytes) → HasTwo one two d e t → t ≡ string word → ⊥
no_string one two d e _ word in_order is = let no_ : ⊥ = cc in no_
no_string one two d e _ word turned is = let no_ : ⊥ = cc in no_

no_step : (created : Bool) (d : Data) (s : DraftStep) → IsStep created d s → created ≡ true → d ≡ string (codes "body") → ⊥
no_step _ _ _ body is e = let no_ : ⊥ = cc in no_
no_step _ _ _ whole is e = let no_ : ⊥ = cc in no_
no_step _ _ _ copy is e = let no_ : ⊥ = cc in no_
no_step _ _ _ template is e = let no_ : ⊥ = cc in no_
no_step _ _ _ (relativize created) is e = let no_ : ⊥ = cc in no_
no_step _ _ _ (make created text) is e = let no_ : ⊥ = cc in no_
no_step _ _ _ (load created d id at) is e = let no_ : ⊥ = cc in no_
no_step _ _ _ (load_saved created t d id name has at named) is e = no_string (codes "load") (codes "snapshot") d (string name) t (codes "body") has e
no_step _ _ _ (concat created d p at) is e = let no_ : ⊥ = cc in no_
no_step _ _ _ (apply created d id at) is e = let no_ : ⊥ = cc in no_
no_step _ _ _ (apply_in created t d id name has at named) is e = no_string (codes "apply") (codes "context") d (string name) t (codes "body") has e
no_step _ _ _ (self created name named) is e = let no_ : ⊥ = cc in no_
no_step _ _ _ (save created name named) is e = let no_ : ⊥ = cc in no_

pub body_of_created : BodyOfCreated
body_of_created read step e laws = no_step true _ _ ((laws _ _).0 e) refl refl

no_count : (d : Data) (n : ℕ) → IsCount d n → d ≡ integer (pos 0) → ⊥
no_count _ _ (count n from to) e = let is : n ≡ 0 = cc in absurd (omega arith)

pub none_is_count : NoneIsCount
none_is_count read n e laws = no_count _ _ ((laws _ _).0 e) refl

no_order : (d : Data) (order : Order) → IsOrder d order → d ≡ string (codes "recent") → order ≡ Chronological → ⊥
no_order _ _ by_id e is = let no_ : ⊥ = cc in no_
no_order _ _ chronological e is = let no_ : ⊥ = cc in no_
no_order _ _ recent e is = let no_ : ⊥ = cc in no_

pub recent_is_chronological : RecentIsChronological
recent_is_chronological read e laws = no_order _ _ ((laws _ _).0 e) refl refl

pub unused_pattern : UnusedPattern
unused_pattern read bytes rules e none one laws =
    let no_number : 0 ≡ length rules.patterns = subst (λ (ns : List ℕ). AreByFirstUse 0 ns (length rules.patterns)) none (laws bytes rules e) in
    absurd (omega (arith, no_number, one))

no_second : (n : ℕ) → AreByFirstUse 0 (1 ∷ (0 ∷ [])) n → ⊥
no_second n (inl is) = let less : 1 < 0 = is.0 in absurd (omega (arith, less))
no_second n (inr is) = let same : 1 ≡ 0 = is.0 in absurd (omega (arith, same))

pub turned_patterns : TurnedPatterns
turned_patterns read bytes rules e numbers laws = no_second (length rules.patterns) (subst (λ (ns : List ℕ). AreByFirstUse 0 ns (length rules.patterns)) numbers (laws bytes rules e))

pub no_steps : NoSteps
no_steps read e laws = let some = ((laws _ _).0 e).some in absurd (omega (arith, some))
