-- What reading the source comes to.
use Rattle.std.specs.Prelude.{◌≡◌, IfSome, Ok}
use Rattle.hk_base.specs.Bytes.{Bytes}
use Rattle.hk_build.specs.Planned.{IsPlanned}
use Rattle.hk_outside.specs.Causes.{Rose}
use Rattle.hk_rules_file.specs.Linked.{HasLinkedTables, IsLinked}
use Rattle.hk_rules_file.specs.Rules.{RulesView}
use Rattle.hk_rules_file.specs.RulesForm.{rules_of}
use Rattle.hk_rules.specs.PlanView.{PlanView}
use Rattle.hk_app.specs.declared.status.Status.{Status}
use Rattle.hk_app.specs.declared.status.Status.TheVariants.{BadRules, BadSite, ReadFault}
use Rattle.hk_app.specs.declared.reading.Gathered.{Gathered}
use Rattle.hk_app.specs.declared.reading.Gathered.TheVariants.{Refused, Planned}
use Rattle.hk_app.specs.FolderReading.{Reading, planned, reading}
use Rattle.hk_texts.specs.Printed.{read_fault_line}
use Rattle.hk_app.specs.Promise.{IsBadRules, IsBadSite, IsPlanOf}
use Rattle.hk_app.specs.World.{Folder}

-- rules that were read of some text
pub record AreRead (rules : RulesView) : Type 0 where
  pub text : Bytes
  pub read : rules_of text ≡ Ok rules
  pub linked : IsLinked rules
  pub tables : HasLinkedTables rules

-- a status and a text that refuse what was read
abbrev pub RefusesReading : Reading → Status → Bytes → Type 0
RefusesReading r BadRules text = IsBadRules text r
RefusesReading r BadSite text = IsBadSite text r
RefusesReading r status text = ⊥

abbrev pub ReadsAs : Reading → Gathered → Type 0
ReadsAs r (Refused e) = RefusesReading r e.status e.text
ReadsAs r (Planned plan) = (r ≡ planned plan) × IsPlanned plan

-- a status and a text that refuse a folder, or the reading of it
abbrev pub RefusesFolder : Folder → Folder → Status → Bytes → Type 0
RefusesFolder old new ReadFault text = Rose old.faults new.faults × (text ≡ read_fault_line)
RefusesFolder old new BadRules text = IfSome old.files (λ m. IsBadRules text (reading m))
RefusesFolder old new BadSite text = IfSome old.files (λ m. IsBadSite text (reading m))
RefusesFolder old new status text = ⊥

abbrev pub Gathers : Folder → Folder → Gathered → Type 0
Gathers old new (Refused e) = RefusesFolder old new e.status e.text
Gathers old new (Planned plan) = IsPlanned plan × IfSome old.files (λ m. IsPlanOf m plan)
