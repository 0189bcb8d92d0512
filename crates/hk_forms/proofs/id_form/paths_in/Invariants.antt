use Rattle.std.proofs.Common.{◌≡◌, drop}
use Rattle.toml.specs.View.{items_view}
use Rattle.hk_forms.specs.Members.{each}
use Rattle.hk_forms.specs.IdForm.{path_of}
use Rattle.hk_forms.proofs.Tables.{prepend}
use Rattle.hk_forms.proofs.id_form.paths_in.Given as goal

-- the identifiers so far and those of the rest are all
abbrev pub invariant-loop-item : goal.invariant-loop-item
invariant-loop-item l = prepend l.ids (each path_of (items_view (drop l.item-index l.items))) ≡ each path_of (items_view l.items)
