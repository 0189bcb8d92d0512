-- The contexts of a file that the entries of its list stand for.
use Rattle.std.specs.Prelude.{List, map}
use Rattle.toml.specs.View.{view}
use Rattle.hk_rules_file.specs.ContextForm.{FileContext, built_in, written}
use Rattle.hk_rules_file.specs.declared.context_form.Entry.{Entry}
use Rattle.hk_rules_file.specs.declared.context_form.Entry.TheVariants.{BuiltIn, Written}

abbrev pub context_at : Entry → FileContext
context_at BuiltIn = built_in
context_at (Written name room value) = written name.now room (view value.now)

abbrev pub contexts_at : List Entry → List FileContext
contexts_at entries = map context_at entries
