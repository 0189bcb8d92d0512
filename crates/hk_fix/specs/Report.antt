-- What a run's end leaves to report: failed items, cycles of waiting items, and all other items that wait.
use Rattle.std.specs.Prelude.{◌≡◌, ℕ, zero, suc, Bool, true, false, cond, ◌&&◌, not, List, [], ◌∷◌, ◌++◌, length, map, Option, Some, None, nat_eq, nat_le, filter, ◌<◌, All}
use Rattle.std.specs.List.{list_all, slice_get, slice_index_or}
use Rattle.hk_chain.specs.Kept.{at_place}
use Rattle.hk_chain.specs.Layout.{Shape, item_of, pairs}
use Rattle.hk_fix.specs.Facts.{is_in}
use Rattle.hk_fix.specs.Fix.{Ending, finished, faulted, waiting, Blocks}

-- a waiting item leads to the item of the first pair that it waits for
abbrev pub lead_of : Shape → Ending → Option ℕ
lead_of lay (finished facts) = None
lead_of lay (faulted e) = None
lead_of lay (waiting []) = None
lead_of lay (waiting (p ∷ ps)) = Some (item_of lay p)

abbrev pub trail_by : Option ℕ → (ℕ → List ℕ) → List ℕ
trail_by None rest = []
trail_by (Some j) rest = j ∷ rest j

-- the items that follow an item, at most n
abbrev pub trail : List (Option ℕ) → ℕ → ℕ → List ℕ
trail leads zero i = []
trail leads (suc n) i = trail_by (at_place leads i) (trail leads n)

-- what stands before i in a list
abbrev pub before : ℕ → List ℕ → List ℕ
before i [] = []
before i (j ∷ js) = cond (nat_eq i j) [] (j ∷ before i js)

module _ (leads : List (Option ℕ)) where
  -- all that follows an item
  abbrev pub followers : ℕ → List ℕ
  followers i = trail leads (length leads) i

  abbrev pub on_cycle : ℕ → Bool
  on_cycle i = is_in (followers i) i

  -- no item that follows is less
  abbrev pub is_least : ℕ → Bool
  is_least i = list_all (nat_le i) (followers i)

  -- an item and those that follow until it comes again
  abbrev pub members : ℕ → List ℕ
  members i = i ∷ before i (followers i)

-- the numbers below n
abbrev pub upto : ℕ → List ℕ
upto zero = []
upto (suc n) = upto n ++ n ∷ []

abbrev pub is_faulted : Option Ending → Bool
is_faulted None = false
is_faulted (Some (finished facts)) = false
is_faulted (Some (faulted e)) = true
is_faulted (Some (waiting ps)) = false

abbrev pub is_waiting : Option Ending → Bool
is_waiting None = false
is_waiting (Some (finished facts)) = false
is_waiting (Some (faulted e)) = false
is_waiting (Some (waiting ps)) = true

abbrev pub waits_of : Option Ending → List ℕ
waits_of None = []
waits_of (Some (finished facts)) = []
waits_of (Some (faulted e)) = []
waits_of (Some (waiting ps)) = ps

pub record ReportView : Type 0 where
  pub failed : List ℕ
  pub cycles : List (List ℕ)
  pub blocked : List (ℕ × List ℕ)

-- the failed items, in order
abbrev pub failed_of : List Ending → List ℕ
failed_of outcomes = filter (λ i. is_faulted (slice_get outcomes i)) (upto (length outcomes))

-- each cycle from its least member, in the order of these
abbrev pub cycles_of : List (Option ℕ) → List (List ℕ)
cycles_of leads = map (members leads) (filter (λ i. on_cycle leads i && is_least leads i) (upto (length leads)))

-- the waiting items on no cycle, in order, with their pairs
abbrev pub blocked_of : List (Option ℕ) → List Ending → List (ℕ × List ℕ)
blocked_of leads outcomes =
    map (λ i. (i, waits_of (slice_get outcomes i))) (filter (λ i. not (on_cycle leads i) && is_waiting (slice_get outcomes i)) (upto (length outcomes)))

abbrev pub report_of : Shape → List Ending → ReportView
report_of lay outcomes =
    let leads : List (Option ℕ) = map (lead_of lay) outcomes in
    record { failed = failed_of outcomes; cycles = cycles_of leads; blocked = blocked_of leads outcomes }

-- there is nothing to report
abbrev pub IsEmptyReport : ReportView → Type 0
IsEmptyReport r = (r.failed ≡ []) × (r.cycles ≡ []) × (r.blocked ≡ [])

abbrev pub ending_at : List Ending → ℕ → Ending
ending_at outcomes i = slice_index_or outcomes i (waiting [])

abbrev pub WaitsFor : Shape → List Ending → Ending → Type 0
WaitsFor lay outcomes (finished facts) = Unit {0}
WaitsFor lay outcomes (faulted e) = Unit {0}
WaitsFor lay outcomes (waiting ps) = Blocks lay (ending_at outcomes) ps

-- each item has an outcome, and each that waits does so for pairs, at least one, of items that aren't done
pub record CanReport (lay : Shape) (outcomes : List Ending) : Type 0 where
  pub count : length outcomes ≡ lay.items
  pub blocks : All (WaitsFor lay outcomes) outcomes

-- the first pair that an item waits for is one of the layout
abbrev pub FirstIn : Shape → Ending → Type 0
FirstIn lay (finished facts) = Unit {0}
FirstIn lay (faulted e) = Unit {0}
FirstIn lay (waiting []) = Unit {0}
FirstIn lay (waiting (p ∷ ps)) = p < pairs lay
