-- The exit code of each status.
use Rattle.std.specs.Prelude.{ℕ}
use Rattle.hk_app.specs.declared.status.Status.{Status}
use Rattle.hk_app.specs.declared.status.Status.TheVariants.{Ok, Report, Usage, BadRules, BadSite, ReadFault, WriteFault, StoreFault, OutFault, NoMemory, BadLinks}

abbrev pub code_of : Status → ℕ
code_of Ok = 0
code_of Report = 1
code_of Usage = 2
code_of BadRules = 3
code_of BadSite = 4
code_of ReadFault = 5
code_of WriteFault = 6
code_of StoreFault = 7
code_of OutFault = 8
code_of NoMemory = 9
code_of BadLinks = 10
