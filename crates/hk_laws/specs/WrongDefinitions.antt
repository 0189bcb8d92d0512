-- Wrong definitions, by what they make of one text, break the laws.
use Rattle.std.specs.Prelude.{◌≡◌, ℕ, pos, true, false, List, [], ◌∷◌, Option, Some, codes, length, Result, Ok, None}
use Rattle.toml.specs.Data.{Data, string, integer, boolean, array, no_items}
use Rattle.hk_base.specs.Bytes.{Bytes}
use Rattle.hk_chain.specs.declared.context.Order.{Order}
use Rattle.hk_chain.specs.declared.context.Order.TheVariants.{Chronological}
use Rattle.hk_html.specs.Piece.{Piece, tag, other}
use Rattle.hk_pattern.specs.declared.pattern.Pattern.{Pattern, HasNoVersion}
use Rattle.hk_route.specs.declared.route.Route.{Route}
use Rattle.hk_rules_file.specs.Rules.{RulesView}
use Rattle.hk_rules_file.specs.declared.fault.RulesFault.{RulesFault}
use Rattle.hk_steps.specs.declared.draft.DraftStep.{DraftStep}
use Rattle.hk_template.specs.declared.fault.TemplateFault.{TemplateFault}
use Rattle.hk_template.specs.declared.fault.TemplateFault.TheVariants.{Unclosed}
use Rattle.hk_laws.specs.Cuttings.{CutsEach}
use Rattle.hk_laws.specs.FirstUses.{used_numbers, NumbersByFirstUse}
use Rattle.hk_laws.specs.Links.{LinksOfEach}
use Rattle.hk_laws.specs.FieldValues.{IsCount, IsOrder}
use Rattle.hk_laws.specs.ListValues.{IsChain}
use Rattle.hk_laws.specs.PatternValues.{IsPattern}
use Rattle.hk_laws.specs.RouteValues.{IsRoute}
use Rattle.hk_laws.specs.StepValues.{IsStep}
use Rattle.hk_laws.specs.Templates.{FindsFaults, MissesNoFault}
use Rattle.hk_laws.specs.Values.{Reads, only_at}

-- a scanner for which nothing is a tag, one for which comments aren't comments, and one without raw text
abbrev pub NoTags : Type 0
NoTags = (scan : Bytes → List Piece) → scan (codes "<a>") ≡ other 60 ∷ (other 97 ∷ (other 62 ∷ [])) → CutsEach scan → ⊥

abbrev pub NoComments : Type 0
NoComments = (scan : Bytes → List Piece) → scan (codes "<!--") ≡ other 60 ∷ (other 33 ∷ (other 45 ∷ (other 45 ∷ []))) → CutsEach scan → ⊥

abbrev pub NoRawText : Type 0
NoRawText = (scan : Bytes → List Piece) → scan (codes "<script>x") ≡ tag (codes "<script") [] [] ∷ (other 120 ∷ []) → CutsEach scan → ⊥

-- links without those in `src`, and links for which case matters
abbrev pub SrcIsNoLink : Type 0
SrcIsNoLink = (links : Bytes → List Bytes) → links (codes "<a src=x>") ≡ [] → LinksOfEach links → ⊥

abbrev pub CaseMatters : Type 0
CaseMatters = (links : Bytes → List Bytes) → links (codes "<a SRC=x>") ≡ [] → LinksOfEach links → ⊥

-- a first fault whose place is 0
abbrev pub PlacesZero : Type 0
PlacesZero = (find : Bytes → Option TemplateFault) → find (codes "a$if(x)$") ≡ Some (Unclosed 0) → FindsFaults find → ⊥

-- a first fault that is never found
abbrev pub NoFaults : Type 0
NoFaults = (find : Bytes → Option TemplateFault) → find (codes "$if(x)$") ≡ None → MissesNoFault find → ⊥

-- readings of single values of the rules file: `false` taken for no version, an extension of a dot alone, a step that needs a
-- file in a rule that creates its paths, a limit of 0, one order for another, and a chain without a step
abbrev pub FalseIsNoVersion : Type 0
FalseIsNoVersion = (read : Data → Option Pattern) → read (only_at (codes "no_version") (boolean false)) ≡ Some HasNoVersion → Reads read IsPattern → ⊥

abbrev pub DotIsExtension : Type 0
DotIsExtension = (read : Data → Option Route) (route : Route) → read (only_at (codes "extension") (string (codes "."))) ≡ Some route → Reads read IsRoute → ⊥

abbrev pub BodyOfCreated : Type 0
BodyOfCreated = (read : Data → Option DraftStep) (step : DraftStep) → read (string (codes "body")) ≡ Some step → Reads read (IsStep true) → ⊥

abbrev pub NoneIsCount : Type 0
NoneIsCount = (read : Data → Option ℕ) (n : ℕ) → read (integer (pos 0)) ≡ Some n → Reads read IsCount → ⊥

abbrev pub RecentIsChronological : Type 0
RecentIsChronological = (read : Data → Option Order) → read (string (codes "recent")) ≡ Some Chronological → Reads read IsOrder → ⊥

abbrev pub NoSteps : Type 0
NoSteps = (read : Data → Option (List DraftStep)) → read (array no_items) ≡ Some [] → Reads read (IsChain false) → ⊥

-- readings of whole rules files: a pattern that nothing uses, and the second pattern before the first
abbrev pub UnusedPattern : Type 0
UnusedPattern =
    (read : Bytes → Result RulesView RulesFault) (bytes : Bytes) (rules : RulesView) → read bytes ≡ Ok rules → used_numbers rules ≡ [] → length rules.patterns ≡ 1
    → NumbersByFirstUse read → ⊥

abbrev pub TurnedPatterns : Type 0
TurnedPatterns = (read : Bytes → Result RulesView RulesFault) (bytes : Bytes) (rules : RulesView) → read bytes ≡ Ok rules → used_numbers rules ≡ 1 ∷ (0 ∷ []) → NumbersByFirstUse read → ⊥
