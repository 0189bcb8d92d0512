-- The one command of clap that reads the words after the name, and what its matches give.
use Rattle.std.specs.Prelude.{true, List, [], ◌∷◌, Option, Some, None, if◌then◌else◌, codes}
use Rattle.std.specs.Borrow.{Bor}
use Rattle.clap.specs.Words.{App, Rule, new_app, new_rule, with_rule}
use Rattle.clap.specs.Simple.{on_top}
use Rattle.clap.specs.declared.builder.ArgAction.TheVariants.{Set, SetTrue}
use Rattle.hk_base.specs.Bytes.{Bytes}
use Rattle.hk_words.specs.declared.leaf.Matched.{Matched}
use Rattle.hk_words.specs.Given.{Given}

abbrev pub workers_rule : Rule
workers_rule = record (new_rule (codes "workers")) {
  long = Some (codes "workers");
  action = Some Set;
}

abbrev pub trace_rule : Rule
trace_rule = record (new_rule (codes "trace")) {
  long = Some (codes "trace");
  action = Some SetTrue;
}

abbrev pub app : App
app = with_rule (with_rule (with_rule (with_rule
    (on_top (λ s. record s { no_binary_name = true; disable_help_flag = true; disable_version_flag = true }) (new_app (codes "words")))
    workers_rule) trace_rule) (new_rule (codes "number"))) (new_rule (codes "count"))

abbrev pub listed : Option (Bor Bytes) → List Bytes
listed None = []
listed (Some text) = text.now ∷ []

abbrev pub operands_of : Option (Bor Bytes) → Option (Bor Bytes) → List Bytes
operands_of None count = []
operands_of (Some number) count = number.now ∷ listed count

-- what the matches give
abbrev pub given_by : Matched → Given
given_by m = record {
  workers = listed m.workers;
  traces = if m.trace then codes "--trace" ∷ [] else [];
  operands = operands_of m.number m.count;
}
