-- The metadata of items, and where their bodies start.
use Rattle.std.specs.Prelude.{◌≡◌, ℕ, [], ◌++◌, Option, Some, None, Result, Ok, Err}
use Rattle.hk_base.specs.declared.refusal.Refusal.{Refusal}
use Rattle.hk_base.specs.declared.refusal.Refusal.TheVariants.{Fault, NoMemory}
use Rattle.hk_base.specs.Bytes.{Bytes}
use Rattle.hk_meta.specs.Metadata.{Pairs, merge}
use Rattle.hk_meta.specs.Header as header
use Rattle.hk_meta.specs.declared.answer.Split.{Split}
use Rattle.hk_meta.specs.declared.answer.HeaderFault.{HeaderFault}
use Rattle.hk_meta.specs.declared.answer.HeaderFault.TheVariants.{Unclosed, BadLine}
use Rattle.hk_rules.specs.Outcomes.{after}
use Rattle.hk_rules.specs.Resource.{companion_ending}
use Rattle.hk_rules.specs.Universe.{Claim}
use Rattle.hk_rules.specs.declared.source_file.SourceFile.{SourceFile}
use Rattle.hk_rules.specs.declared.plan_fault.PlanFault.{PlanFault}
use Rattle.hk_rules.specs.declared.plan_fault.PlanFault.TheVariants.{BadHeader}

abbrev pub line_of : HeaderFault → ℕ
line_of (Unclosed line) = line
line_of (BadLine line) = line

-- a refused header is the fault of the file at this path
abbrev pub at_path : {T : Type 0} → Bytes → Result T HeaderFault → Result T PlanFault
at_path path (Ok value) = Ok value
at_path path (Err fault) = Err (BadHeader path (line_of fault))

-- the metadata of the header, and after it what the companion adds
abbrev pub merged : Split → Pairs → Result Split PlanFault
merged split companion = Ok (record { meta = merge split.meta companion; body_start = split.body_start })

abbrev pub with_companion : Bytes → Option Bytes → Split → Result Split PlanFault
with_companion path None split = Ok split
with_companion path (Some text) split = after (at_path (path ++ companion_ending) (header.read_companion text)) (merged split)

abbrev pub header_in : Bytes → Option SourceFile → Result Split PlanFault
header_in path None = Ok (record { meta = []; body_start = 0 })
header_in path (Some source) = after (at_path path (header.split source.text)) (with_companion path source.companion)

-- the header of an item; a created item has none
abbrev pub header_of : Claim → Result Split PlanFault
header_of item = header_in item.0.path item.1.source

-- a refusal of a header as one of the plan, or want of memory
abbrev pub IsAtPath : Bytes → Refusal HeaderFault → Refusal PlanFault → Type 0
IsAtPath path refusal NoMemory = Unit {0}
IsAtPath path NoMemory (Fault fault) = ⊥
IsAtPath path (Fault cause) (Fault fault) = fault ≡ BadHeader path (line_of cause)
