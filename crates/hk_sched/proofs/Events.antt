-- A board has room for what may still come.
use Rattle.std.proofs.Common.{◌≡◌, refl, ◌∙◌, ℕ, ◌+◌, ◌*◌, ◌<◌, ◌≤◌, false, List, [], ◌∷◌, ◌++◌, length, map, Option, Some, None, is_some, arith, slice_set, length-set}
use Rattle.std.specs.List.{sum_by}
use Rattle.std.proofs.lemmas.List.Sums.{sum_by-set, sum_by-cons, get_or-le-sum_by}
use Rattle.hk_chain.specs.declared.page.Page.{Page}
use Rattle.hk_chain.specs.Facts.{FactsView}
use Rattle.hk_chain.specs.Kept.{KeptView, at_place}
use Rattle.hk_chain.specs.Layout.{Shape}
use Rattle.hk_fix.specs.declared.event.Event.{Event}
use Rattle.hk_sched.specs.Standings.{RosterView, Standing, unbegun, nowhere, standing_at, first_standing}
use Rattle.hk_sched.specs.Board.{to_come, to_save, events_left}
use Rattle.hk_sched.specs.Boards.{IsBoard}
use Rattle.hk_sched.proofs.Listing.{length-more}

few-first : (X : Type 0) (fs : List (Option FactsView)) → sum_by (to_come {X = X}) (map first_standing fs) ≤ 2 * length fs
few-first X [] = omega arith
few-first X (None ∷ fs) = omega (arith, sum_by-cons (to_come {X = X}) unbegun (map first_standing fs), few-first X fs)
few-first X (Some f ∷ fs) = omega (arith, sum_by-cons (to_come {X = X}) (first_standing (Some f)) (map first_standing fs), few-first X fs)

few-pages : (pages : List (Option Page)) → sum_by to_save pages ≤ length pages
few-pages [] = omega arith
few-pages (None ∷ os) = omega (arith, sum_by-cons to_save None os, few-pages os)
few-pages (Some x ∷ os) = omega (arith, sum_by-cons to_save (Some x) os, few-pages os)

pub first-events : (X : Type 0) (kept : KeptView) → events_left {X = X} kept.pages (map first_standing kept.facts) ≤ 2 * length kept.facts + length kept.pages
first-events X kept = omega (arith, few-first X kept.facts, few-pages kept.pages)

module _ {X : Type 0} where
  left-moved : (known : List (Option Page)) (places : List (Standing X)) (i : ℕ) (s : Standing X) → i < length places → events_left known (slice_set places i s) + to_come (standing_at places i) ≡ events_left known places + to_come s
  left-moved known places i s lt = omega (arith, sum_by-set to_come places i s nowhere lt)

  left-known : (known : List (Option Page)) (places : List (Standing X)) (p : ℕ) (x : Page) → p < length known → events_left (slice_set known p (Some x)) places + to_save (at_place known p) ≡ events_left known places
  left-known known places p x lt = omega (arith, sum_by-set to_save known p (Some x) None lt)

  pub some-left : (known : List (Option Page)) (places : List (Standing X)) (i : ℕ) → i < length places → to_come (standing_at places i) ≤ events_left known places
  some-left known places i lt = omega (arith, get_or-le-sum_by to_come places i nowhere lt)

  pub page-left : (known : List (Option Page)) (places : List (Standing X)) (p : ℕ) → p < length known → to_save (at_place known p) ≤ events_left known places
  page-left known places p lt = omega (arith, get_or-le-sum_by to_save known p None lt)

  module _ (lay : Shape) (r : RosterView X) (h : List Event) (room capacity : ℕ) (is : IsBoard lay r h room capacity) where
    pub moved-fits : (i : ℕ) (s : Standing X) → i < length r.places → to_come s ≤ to_come (standing_at r.places i) → IsBoard lay (record r { places = slice_set r.places i s }) h room capacity
    moved-fits i s lt less =
        record {
          layout = is.layout;
          pairs_known = is.pairs_known;
          items_placed = length-set r.places i s ∙ is.items_placed;
          events = omega (arith, is.events, less, left-moved r.known r.places i s lt);
          endings = is.endings;
        }

    pub event-fits : (i : ℕ) (s : Standing X) (e : Event) → i < length r.places → to_come s + 1 ≤ to_come (standing_at r.places i) → IsBoard lay (record r { places = slice_set r.places i s }) (h ++ e ∷ []) room capacity
    event-fits i s e lt less =
        record {
          layout = is.layout;
          pairs_known = is.pairs_known;
          items_placed = length-set r.places i s ∙ is.items_placed;
          events = omega (arith, is.events, less, left-moved r.known r.places i s lt, length-more h e);
          endings = is.endings;
        }

    pub known-fits : (p : ℕ) (x : Page) → p < length r.known → IsBoard lay (record r { known = slice_set r.known p (Some x) }) h room capacity
    known-fits p x lt =
        record {
          layout = is.layout;
          pairs_known = length-set r.known p (Some x) ∙ is.pairs_known;
          items_placed = is.items_placed;
          events = omega (arith, is.events, left-known r.known r.places p x lt);
          endings = is.endings;
        }

    pub save-fits : (p : ℕ) (x : Page) (e : Event) → p < length r.known → is_some (at_place r.known p) ≡ false → IsBoard lay (record r { known = slice_set r.known p (Some x) }) (h ++ e ∷ []) room capacity
    save-fits p x e lt none =
        record {
          layout = is.layout;
          pairs_known = length-set r.known p (Some x) ∙ is.pairs_known;
          items_placed = is.items_placed;
          events = omega (arith, is.events, left-known r.known r.places p x lt, one, length-more h e);
          endings = is.endings;
        }
      where
        one : to_save (at_place r.known p) ≡ 1
        one = rw none refl

    pub done-fits : (i : ℕ) (s : Standing X) (e : Event) (p : ℕ) (x : Page) → i < length r.places → to_come s + 1 ≤ to_come (standing_at r.places i) → p < length r.known
        → IsBoard lay (record r { known = slice_set r.known p (Some x); places = slice_set r.places i s }) (h ++ e ∷ []) room capacity
    done-fits i s e p x lt less below =
        record {
          layout = is.layout;
          pairs_known = length-set r.known p (Some x) ∙ is.pairs_known;
          items_placed = length-set r.places i s ∙ is.items_placed;
          events = omega (arith, is.events, less, left-moved r.known r.places i s lt, left-known r.known (slice_set r.places i s) p x below, length-more h e);
          endings = is.endings;
        }
