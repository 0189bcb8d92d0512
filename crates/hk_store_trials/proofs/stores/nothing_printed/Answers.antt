use Rattle.std.proofs.Common.{[], rules, subst}
use Rattle.std.specs.List.Sorted.{IsStrictlySortedBy}
use Rattle.hk_store.specs.Stored.{IsStored}
use Rattle.hk_store_trials.proofs.stores.nothing_printed.Goals as goal

none-stored : IsStored []
unfolding IsStrictlySortedBy
none-stored = record { order = tt; each = tt }

pub print_store-requires : goal.print_store-requires
print_store-requires c = subst IsStored (search rules) none-stored
