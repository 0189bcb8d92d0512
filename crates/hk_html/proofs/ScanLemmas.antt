-- What one step of a scan reads.
use Rattle.std.proofs.Common.{◌≡◌, ℕ, ◌+◌, ◌≤◌, List, [], ◌∷◌, ◌++◌, drop, take, sym, ◌∙◌, append_assoc}
use Rattle.std.specs.List.{slice_range}
use Rattle.std.proofs.lemmas.List.{flat_map_more, append-nil, map_push}
use Rattle.hk_html.specs.declared.scan.Link.{Link}
use Rattle.hk_html.specs.Part.{with_root}
use Rattle.hk_html.specs.Scan.{link_with_root, links_with_root, link_values}
use Rattle.hk_html.proofs.SliceLemmas.{slice_range-add, slice_range-none, slice_range-from}

pub written_skip : (done body : List ℕ) (from at count : ℕ) → from ≤ at → done ++ slice_range body from (at + count) ≡ (done ++ slice_range body from at) ++ take count (drop at body)
written_skip done body from at count order =
    rw (slice_range-add body from at count order) (sym (append_assoc done _ _))

pub written_link : (root body : List ℕ) (links : List Link) (link : Link) (from at before value : ℕ) → from ≤ at → link.before.now ≡ slice_range body from (at + before)
    → link.value.now ≡ slice_range body (at + before) (at + before + value)
    → links_with_root root (links ++ link ∷ []) ++ slice_range body (at + before + value) (at + before + value)
    ≡ (links_with_root root links ++ slice_range body from at) ++ (take before (drop at body) ++ with_root root (take value (drop before (drop at body))))
written_link root body links link from at before value order first second =
    let more = sym (flat_map_more (link_with_root root) [] links link) in
    rw (slice_range-none body (at + before + value), append-nil (links_with_root root (links ++ link ∷ [])))
    (more ∙ rw (first, second, slice_range-from body at before value, slice_range-add body from at before order)
    (simp append_assoc))

pub values_link : (body : List ℕ) (links : List Link) (link : Link) (at before value : ℕ) → link.value.now ≡ slice_range body (at + before) (at + before + value)
    → link_values (links ++ link ∷ []) ≡ link_values links ++ take value (drop before (drop at body)) ∷ []
values_link body links link at before value second =
    map_push (λ (link : Link). link.value.now) links link ∙ rw (second, slice_range-from body at before value)
