-- Where a fault stands.
use Rattle.std.specs.Prelude.{ℕ}
use Rattle.hk_template.specs.declared.fault.TemplateFault.{TemplateFault}
use Rattle.hk_template.specs.declared.fault.TemplateFault.TheVariants.{BadForm, Unclosed, TooDeep}

abbrev pub fault_place : TemplateFault → ℕ
fault_place (BadForm place) = place
fault_place (Unclosed place) = place
fault_place (TooDeep place) = place
