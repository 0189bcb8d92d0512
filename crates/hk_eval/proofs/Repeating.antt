-- The places of a list, one after another.
use Rattle.std.proofs.Common.{◌≡◌, refl, sym, ap, ◌∙◌, subst, arith, ℕ, zero, suc, ◌+◌, ◌<◌, ◌≤◌, List, [], ◌∷◌, ◌++◌, append_assoc, append-nil, length, drop, get_or, drop-cons, add-one}
use Rattle.std.proofs.Math.Path.{fun_ext}
use Rattle.std.proofs.Math.ListN.{drop_of_length-le}
use Rattle.hk_base.specs.Bytes.{Bytes}
use Rattle.hk_fix.specs.Task.{Task, gives, ◌▷◌}
use Rattle.hk_fix.specs.TaskLaws.{bind_assoc}
use Rattle.hk_rules.specs.Plan.{Lookups}
use Rattle.hk_eval.specs.Rendering.{each_place, each_after}
use Rattle.hk_eval.specs.Rest.{onto, after_sep, after_first, stage_rest, each_of, between_of, frame_rest, rest}
use Rattle.hk_eval.specs.declared.frame.Frame.{Frame}
use Rattle.hk_eval.specs.declared.frame.Frame.TheVariants as frames
use Rattle.hk_eval.specs.declared.frame.Places.{Places}
use Rattle.hk_eval.specs.declared.frame.Repeat.{Repeat}
use Rattle.hk_eval.specs.declared.frame.Stage.{Stage}
use Rattle.hk_eval.specs.declared.frame.Stage.TheVariants.{First, Second, Third, Later}
use Rattle.hk_eval.specs.declared.place.Place.{Place}
use Rattle.hk_eval.proofs.Stacks.{rest-snoc, rest-two, onto-then, onto-bind, onto-onto}

module _ (each : Place → Task Bytes) (between : Task Bytes) where
  after-bytes : (b : Bytes) (p : Place) (ps : List Place) (out : Bytes) → onto out (each_after each b (p ∷ ps)) ≡ after_sep each b (p ∷ ps) (out ++ b)
  after-bytes b p ps out =
      onto-bind out (each p) (λ x. each_after each b ps ▷ (λ y. gives (b ++ (x ++ y))))
      ∙ ap (λ h. each p ▷ h) (fun_ext (λ x.
      onto-bind out (each_after each b ps) (λ y. gives (b ++ (x ++ y)))
      ∙ ap (λ h. each_after each b ps ▷ h) (fun_ext (λ y. ap gives (sym (append_assoc out b (x ++ y)) ∙ sym (append_assoc (out ++ b) x y))))))

  first-after : (p : Place) (ps : List Place) (out : Bytes) → onto out (each_place each between (p ∷ ps)) ≡ each p ▷ (λ x. after_first each between ps (out ++ x))
  first-after p [] out = refl
  first-after p (q ∷ qs) out =
      onto-bind out (each p) (λ x. between ▷ (λ b. onto x (each_after each b (q ∷ qs))))
      ∙ ap (λ h. each p ▷ h) (fun_ext (λ x.
      onto-bind out between (λ b. onto x (each_after each b (q ∷ qs)))
      ∙ ap (λ h. between ▷ h) (fun_ext (λ b. onto-onto out x (each_after each b (q ∷ qs)) ∙ after-bytes b q qs (out ++ x)))))

  -- with no place left the list is over
  stage-end : (stage : Stage) (out : Bytes) → stage_rest each between stage [] out ≡ gives out
  stage-end First out = ap gives (append-nil out)
  stage-end Second out = refl
  stage-end (Third start) out = refl
  stage-end (Later b) out = ap gives (append-nil out)

drop-front : (out b : Bytes) → drop (length out) (out ++ b) ≡ b
drop-front [] b = refl
drop-front (x ∷ out) b = drop-front out b

-- the places from one on
pub places-at : (ps : Places) (p : Place) → ps.next < length ps.places.items → p ≡ get_or ps.places.items ps.next p → drop ps.next ps.places.items ≡ p ∷ drop (ps.next + 1) ps.places.items
places-at ps p lt e = let one : ps.next + 1 ≡ suc ps.next = omega arith in drop-cons ps.places.items ps.next p lt ∙ (ap (λ q. q ∷ drop (suc ps.next) ps.places.items) (sym e) ∙ ap (λ n. p ∷ drop n ps.places.items) (sym one))

module _ (plan : Lookups) (fs : List Frame) (ps : Places) (r : Repeat) where
  abbrev E : Place → Task Bytes
  E = each_of plan r

  abbrev B : Task Bytes
  B = between_of plan r

  abbrev over : Places
  over = record ps { next = ps.next + 1 }

  pub list-end : (stage : Stage) (out : Bytes) → length ps.places.items ≤ ps.next → rest plan (fs ++ frames.List ps stage r ∷ []) out ≡ rest plan fs out
  list-end stage out le =
      rest-snoc plan fs (frames.List ps stage r) out
      ∙ (ap (λ qs. stage_rest E B stage qs out ▷ rest plan fs) (drop_of_length-le ps.places.items le) ∙ ap (λ w. w ▷ rest plan fs) (stage-end E B stage out))

  -- what stands between two places is next
  pub list-between : (p : Place) → drop ps.next ps.places.items ≡ p ∷ drop (ps.next + 1) ps.places.items → (f : Frame) (out : Bytes) → frame_rest plan f out ≡ onto out (between_of plan r)
      → rest plan (fs ++ frames.List ps Second r ∷ []) out ≡ rest plan ((fs ++ frames.List ps (Third (length out)) r ∷ []) ++ f ∷ []) out
  list-between p is f out e =
      let qs : List Place = drop (ps.next + 1) ps.places.items in
      rest-snoc plan fs (frames.List ps Second r) out
      ∙ (ap (λ l. after_first E B l out ▷ rest plan fs) is
      ∙ (ap (λ w. w ▷ rest plan fs) (ap (λ h. B ▷ h) (fun_ext (λ b. ap (λ c. after_sep E c (p ∷ qs) (out ++ b)) (sym (drop-front out b)) ∙ ap (λ l. after_sep E (drop (length out) (out ++ b)) l (out ++ b)) (sym is))))
      ∙ (bind_assoc B (λ b. after_sep E (drop (length out) (out ++ b)) (drop ps.next ps.places.items) (out ++ b)) (rest plan fs)
      ∙ (sym (onto-then out B (λ x. after_sep E (drop (length out) x) (drop ps.next ps.places.items) x ▷ rest plan fs))
      ∙ (ap (λ w. w ▷ (λ x. after_sep E (drop (length out) x) (drop ps.next ps.places.items) x ▷ rest plan fs)) (sym e)
      ∙ sym (rest-two plan fs (frames.List ps (Third (length out)) r) f out))))))

  -- a place is next
  module _ (p : Place) (is : drop ps.next ps.places.items ≡ p ∷ drop (ps.next + 1) ps.places.items) where
    abbrev later : List Place
    later = drop (ps.next + 1) ps.places.items

    pub list-first : (out : Bytes) → rest plan (fs ++ frames.List ps First r ∷ []) out ≡ onto out (each_of plan r p) ▷ (λ x. frame_rest plan (frames.List (record ps { next = ps.next + 1 }) Second r) x ▷ rest plan fs)
    list-first out =
        rest-snoc plan fs (frames.List ps First r) out
        ∙ (ap (λ l. onto out (each_place E B l) ▷ rest plan fs) is
        ∙ (ap (λ w. w ▷ rest plan fs) (first-after E B p later out)
        ∙ (bind_assoc (E p) (λ x. after_first E B later (out ++ x)) (rest plan fs)
        ∙ sym (onto-then out (E p) (λ x. after_first E B later x ▷ rest plan fs)))))

    pub list-third : (start : ℕ) (b out : Bytes) → b ≡ drop start out → rest plan (fs ++ frames.List ps (Third start) r ∷ []) out ≡ onto out (each_of plan r p) ▷ (λ x. frame_rest plan (frames.List (record ps { next = ps.next + 1 }) (Later b) r) x ▷ rest plan fs)
    list-third start b out e =
        rest-snoc plan fs (frames.List ps (Third start) r) out
        ∙ (ap (λ l. after_sep E (drop start out) l out ▷ rest plan fs) is
        ∙ (ap (λ c. after_sep E c (p ∷ later) out ▷ rest plan fs) (sym e)
        ∙ (bind_assoc (E p) (λ x. onto (out ++ x) (each_after E b later)) (rest plan fs)
        ∙ sym (onto-then out (E p) (λ x. onto x (each_after E b later) ▷ rest plan fs)))))

    pub list-later : (b out : Bytes) → rest plan (fs ++ frames.List ps (Later b) r ∷ []) out ≡ onto (out ++ b) (each_of plan r p) ▷ (λ x. frame_rest plan (frames.List (record ps { next = ps.next + 1 }) (Later b) r) x ▷ rest plan fs)
    list-later b out =
        rest-snoc plan fs (frames.List ps (Later b) r) out
        ∙ (ap (λ l. onto out (each_after E b l) ▷ rest plan fs) is
        ∙ (ap (λ w. w ▷ rest plan fs) (after-bytes E B b p later out)
        ∙ (bind_assoc (E p) (λ x. onto ((out ++ b) ++ x) (each_after E b later)) (rest plan fs)
        ∙ sym (onto-then (out ++ b) (E p) (λ x. onto x (each_after E b later) ▷ rest plan fs)))))

next-at : (qs : List Place) (i : ℕ) → i < length qs → (p : Place) × (drop i qs ≡ p ∷ drop (suc i) qs)
next-at [] i h = absurd (omega arith)
next-at (q ∷ qs) zero h = (q, refl)
next-at (q ∷ qs) (suc i) h = next-at qs i (omega arith)

-- the place that comes next, where there is one
pub next-place : (ps : Places) → ps.next < length ps.places.items → (p : Place) × (drop ps.next ps.places.items ≡ p ∷ drop (ps.next + 1) ps.places.items)
next-place ps lt =
    let w = next-at ps.places.items ps.next lt in
    let one : suc ps.next ≡ ps.next + 1 = omega arith in
    (w.0, w.1 ∙ ap (λ n. w.0 ∷ drop n ps.places.items) one)
