use Rattle.std.proofs.Common.{◌≡◌, ◌++◌, drop}
use Rattle.std.specs.List.{flat_map}
use Rattle.hk_store.specs.StoreText.{ask_text}
use Rattle.hk_store.proofs.print.write_each_ask.Given as goal

-- the text so far and that of the rest are all
abbrev pub invariant-loop-ask : goal.invariant-loop-ask
invariant-loop-ask l = l.out.items ++ flat_map ask_text (drop l.ask-index l.asks) ≡ l.fn.out.items ++ flat_map ask_text l.asks
