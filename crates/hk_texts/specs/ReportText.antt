-- The text of a report. Each line ends with LF.
use Rattle.std.specs.Prelude.{ℕ, ◌<◌, List, [], ◌∷◌, ◌++◌, length, codes, All}
use Rattle.std.specs.List.{flat_map}
use Rattle.std.specs.Fmt.{decimal}
use Rattle.hk_base.specs.Bytes.{Bytes}
use Rattle.hk_base.specs.Identifier.{print_ident}
use Rattle.hk_chain.specs.Layout.{item_of}
use Rattle.hk_chain.specs.declared.fault.Fault.{Fault}
use Rattle.hk_chain.specs.declared.fault.Fault.TheVariants.{Missing, NoSnapshot, WrongKind, BadTemplate, NoKey, NotList, NotText, TooDeep, NoDate}
use Rattle.hk_fix.specs.Fix.{Ending, finished, faulted, waiting}
use Rattle.hk_fix.specs.Report.{ReportView, ending_at}
use Rattle.hk_rules.specs.Plan.{Lookups}
use Rattle.hk_texts.specs.Printed.{end_of_line}

abbrev pub fault_text : Fault → Bytes
fault_text (Missing id) = codes "missing " ++ print_ident id
fault_text (NoSnapshot id name) = codes "no snapshot " ++ (name ++ (codes " of " ++ print_ident id))
fault_text (WrongKind id) = codes "wrong kind of " ++ print_ident id
fault_text (BadTemplate place) = codes "bad template at " ++ decimal place
fault_text (NoKey key) = codes "no key " ++ key
fault_text (NotList key) = codes "no list " ++ key
fault_text (NotText key) = codes "no text " ++ key
fault_text TooDeep = codes "partials too deep"
fault_text (NoDate id) = codes "no date of " ++ print_ident id

-- the fault of an item that failed
abbrev pub failure_text : Ending → Bytes
failure_text (finished facts) = []
failure_text (faulted fault) = fault_text fault
failure_text (waiting pairs) = []

module _ (plan : Lookups) where
  abbrev pub item_text : ℕ → Bytes
  item_text item = print_ident (plan.id item)

  abbrev pub failed_line : List Ending → ℕ → Bytes
  failed_line endings item = codes "failed " ++ (item_text item ++ (codes ": " ++ (failure_text (ending_at endings item) ++ end_of_line)))

  -- the members, and the first once more
  abbrev pub cycle_text : List ℕ → Bytes
  cycle_text [] = []
  cycle_text (first ∷ items) = item_text first ++ (flat_map (λ item. codes " -> " ++ item_text item) items ++ (codes " -> " ++ item_text first))

  abbrev pub cycle_line : List ℕ → Bytes
  cycle_line items = codes "cycle " ++ (cycle_text items ++ end_of_line)

  abbrev pub pair_text : ℕ → Bytes
  pair_text pair = item_text (item_of plan.layout pair) ++ (codes " at " ++ plan.pair_name pair)

  abbrev pub pairs_text : List ℕ → Bytes
  pairs_text [] = []
  pairs_text (first ∷ others) = pair_text first ++ flat_map (λ pair. codes ", " ++ pair_text pair) others

  abbrev pub blocked_line : ℕ × List ℕ → Bytes
  blocked_line blocked = codes "blocked " ++ (item_text blocked.0 ++ (codes ": waits for " ++ (pairs_text blocked.1 ++ end_of_line)))

abbrev pub counts_line : ReportView → Bytes
counts_line report = codes "failed " ++ (decimal (length report.failed) ++ (codes ", cycles " ++ (decimal (length report.cycles) ++ (codes ", blocked " ++ (decimal (length report.blocked) ++ end_of_line)))))

-- a report on items that ended so
abbrev pub report_text : Lookups → List Ending → ReportView → Bytes
report_text plan endings report =
    flat_map (failed_line plan endings) report.failed ++ (flat_map (cycle_line plan) report.cycles ++ (flat_map (blocked_line plan) report.blocked ++ counts_line report))

-- the numbers of a blocked item and of the pairs that it waits for
abbrev pub IsBlockedWithin : ℕ → ℕ → ℕ × List ℕ → Type 0
IsBlockedWithin items pairs blocked = (blocked.0 < items) × All (λ pair. pair < pairs) blocked.1

-- the numbers in a report are those of a plan's items and pairs
pub record IsReportWithin (items pairs : ℕ) (report : ReportView) : Type 0 where
  pub failed : All (λ item. item < items) report.failed
  pub cycles : All (All (λ item. item < items)) report.cycles
  pub blocked : All (IsBlockedWithin items pairs) report.blocked
