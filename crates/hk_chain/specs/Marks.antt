-- The marks of a trace as plain data.
use Rattle.hk_chain.specs.declared.facts.Mark.{Mark}
use Rattle.hk_chain.specs.declared.facts.Mark.TheVariants.{Asked, Saved}
use Rattle.hk_chain.specs.Facts.{TraceMark, group, save}

abbrev pub mark_view : Mark → TraceMark
mark_view (Asked pairs) = group pairs.items
mark_view (Saved pair) = save pair
