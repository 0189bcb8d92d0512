-- Targets that can't both be written.
use Rattle.std.specs.Prelude.{ℕ, Bool, List, [], ◌∷◌, ◌++◌, ◌==◌, length, take, fold, filter_map, zip, slice_index, Option, Some, None, bytes_eq, if◌then◌else◌}
use Rattle.std.specs.List.{find, range_with_len}
use Rattle.std.specs.Ordering.{nat_cmp, is_lt, ordering_then}
use Rattle.std.specs.Cmp.Lexicographic.{slice_cmp}
use Rattle.std.specs.declared.cmp.Ordering.{Ordering}
use Rattle.hk_base.specs.Bytes.{Bytes}
use Rattle.hk_rules.specs.Universe.{Claim}
use Rattle.hk_rules.specs.declared.site.Site.{Site}
use Rattle.hk_rules.specs.declared.site.Clash.{Clash}
use Rattle.hk_rules.specs.declared.plan_fault.PlanFault.{PlanFault}
use Rattle.hk_rules.specs.declared.plan_fault.PlanFault.TheVariants.{SameTarget, NestedTarget}

abbrev pub site_by : Claim → Option Bytes → Option Site
site_by item None = None
site_by item (Some target) = Some (record { target = target; id = item.0 })

abbrev pub site_of : Claim × Option Bytes → Option Site
site_of p = site_by p.0 p.1

-- the items that have a target, in item order
abbrev pub sites : List Claim → List (Option Bytes) → List Site
sites items targets = filter_map site_of (zip items targets)

-- the first site of a target
abbrev pub site_at : List Site → Bytes → Option Site
site_at sites path = find (λ site. bytes_eq site.target path) sites

abbrev pub clash_by : Site → Option Site → Option Clash
clash_by second None = None
clash_by second (Some first) = Some (record { first = first; second = second })

-- clashes in the order of their first targets, then of their second ones
abbrev pub clash_cmp : Clash → Clash → Ordering
clash_cmp a b = ordering_then (slice_cmp nat_cmp a.first.target b.first.target) (slice_cmp nat_cmp a.second.target b.second.target)

abbrev pub is_less : Clash → Clash → Bool
is_less a b = is_lt (clash_cmp a b)

-- the lesser of two clashes, the earlier one where they tie
abbrev pub lesser : Option Clash → Option Clash → Option Clash
lesser best None = best
lesser None (Some clash) = Some clash
lesser (Some best) (Some clash) = if is_less clash best then Some clash else Some best

-- the least clash of a site with an earlier one of the same target
abbrev pub same_after : List Site → Option Clash → List Site → Option Clash
same_after earlier best [] = best
same_after earlier best (site ∷ later) =
    same_after (earlier ++ site ∷ []) (lesser best (clash_by site (site_at earlier site.target))) later

abbrev pub same_clash : List Site → Option Clash
same_clash all = same_after [] None all

-- the clash of a site with the one at what stands before a slash of its target
abbrev pub clash_above : (Bytes → Option Site) → Site → ℕ → Option Clash
clash_above at inner place = if slice_index inner.target place == 47 then clash_by inner (at (take place inner.target)) else None

abbrev pub lesser_above : (Bytes → Option Site) → Site → Option Clash → ℕ → Option Clash
lesser_above at inner best place = lesser best (clash_above at inner place)

abbrev pub nested_in : (Bytes → Option Site) → Option Clash → Site → Option Clash
nested_in at best inner = fold (lesser_above at inner) best (range_with_len 0 (length inner.target))

-- the least clash of a site with one that lies above it
abbrev pub nested_clash : (Bytes → Option Site) → List Site → Option Clash
nested_clash at all = fold (nested_in at) None all

abbrev pub same_fault : Clash → PlanFault
same_fault clash = SameTarget clash.first.target clash.first.id clash.second.id

abbrev pub nested_fault : Clash → PlanFault
nested_fault clash = NestedTarget clash.first.target clash.second.target clash.first.id clash.second.id

abbrev pub fault_by : Option Clash → Option Clash → Option PlanFault
fault_by (Some same) nested = Some (same_fault same)
fault_by None (Some nested) = Some (nested_fault nested)
fault_by None None = None

-- two items with one target, or else a target above another
unfoldable pub clash_fault : List Site → Option PlanFault
clash_fault all = fault_by (same_clash all) (nested_clash (site_at all) all)
