-- A compiler that is polled as far as it goes, and the turns of a run on one thread.
use Rattle.std.proofs.Common.{◌≡◌, refl, sym, ap, ◌∙◌, subst, ℕ, ◌<◌, ◌≤◌, le_trans, lt_of_le_of_lt, lt_of_lt_of_le, arith, inl, inr, [], length, All, Some}
use Rattle.hk_chain.specs.declared.page.Page.{Page}
use Rattle.hk_chain.specs.declared.fault.Fault.{Fault}
use Rattle.hk_chain.specs.Facts.{FactsView}
use Rattle.hk_chain.specs.Kept.{at_place}
use Rattle.hk_chain.specs.Layout.{Shape, pairs}
use Rattle.hk_fix.specs.declared.polled.Polled.{Polled}
use Rattle.hk_fix.specs.declared.polled.Polled.TheVariants as polled
use Rattle.hk_fix.specs.Calls.{Goes}
use Rattle.hk_fix.specs.Meaning.{Meaning}
use Rattle.hk_fix.specs.Pages.{Pages, lacking}
use Rattle.hk_fix.specs.Task.{Run}
use Rattle.hk_sched.specs.declared.turn.Turn.{Turn}
use Rattle.hk_sched.specs.declared.turn.Turn.TheVariants as turn
use Rattle.hk_sched.specs.Standings.{held, all_told}
use Rattle.hk_sched.specs.Board.{BoardView, with_place, after_save, after_done, after_fail, Admits}
use Rattle.hk_sched.specs.Lawful.{Key, IsKey, MayPoll, IsLawful, IsTurn, MayAsk, InHand}
use Rattle.hk_sched.specs.Progress.{TakesAny, Starts, CanStart, potential, HasPlayed}
use Rattle.hk_sched.proofs.Allowing.{fresh-machine, in-hand, hand-admits}
use Rattle.hk_sched.proofs.Completes.{hands-lawful}
use Rattle.hk_sched.proofs.Fuels.{fuel_at, fuel-save, spent-save, spent-turn}
use Rattle.hk_sched.proofs.Hands.{awaits-within}
use Rattle.hk_sched.proofs.Keeps.{lawful-save, lawful-done, lawful-fail}
use Rattle.hk_sched.proofs.Polls.{hand-save, hand-ask, hand-done, hand-fail, ask-value, ask-parks, fresh-hand}
use Rattle.hk_sched.proofs.Works.{fuel-told, parks-spent, done-spent, fail-spent, out-turn}

module _ {X C : Type 0} (meaning : X → Meaning C) (shape : C → Shape) (run : C → ℕ → Pages → Run Page) (key : Key C) (is : IsKey run shape key) where
  -- how far it has come: from a board and a compiler at first to those now
  pub record Playing (b0 : BoardView X C) (m0 : Meaning C) (b : BoardView X C) (m : Meaning C) : Type 0 where
    pub lawful : IsLawful run meaning key b
    pub may : MayPoll run key m
    pub spent : potential meaning b ≤ potential meaning b0
    pub hand : InHand run meaning key b0 m0 → InHand run meaning key b m

  pub at-first : (b : BoardView X C) (m : Meaning C) → IsLawful run meaning key b → MayPoll run key m → Playing b m b m
  at-first b m l may = record { lawful = l; may = may; spent = omega arith; hand = λ h. h }

  module _ (b0 : BoardView X C) (m0 : Meaning C) (b : BoardView X C) (m : Meaning C) (now : Playing b0 m0 b m) where
    l : IsLawful run meaning key b
    l = now.lawful

    was : (p : Polled) (n : Meaning C) → Goes shape run m p n → Admits run b n → InHand run meaning key b m
    was p n g a = in-hand meaning shape run key is b l m now.may.machine now.may.closed now.may.going p n g a

    -- what isn't admitted wasn't in hand
    pub dropped : (p : Polled) (n : Meaning C) → Goes shape run m p n → (Admits run b n → ⊥) → HasPlayed meaning run key b0 m0 b
    dropped p n g lacks = record { lawful = l; spent = now.spent; less = λ h. absurd (lacks (hand-admits meaning shape run key is b p m n (now.hand h) g)) }

    module _ (p : ℕ) (page : Page) (n : Meaning C) (g : Goes shape run m (polled.Saved p page) n) (a : Admits run b n) where
      pub saved-below : p < length b.known
      saved-below = (let w = hand-save meaning shape run key is b l m (was (polled.Saved p page) n g a) p page g.0 in omega (arith, w.0.in_range, l.pages))

      pub saved : Playing b0 m0 (after_save b p page) n
      saved =
          let w = hand-save meaning shape run key is b l m (was (polled.Saved p page) n g a) p page g.0 in
          record {
            lawful = lawful-save meaning shape run key is b p page l w.0;
            may = rw g.1 (record { machine = w.1.machine; going = w.1.going; closed = w.1.closed });
            spent = le_trans (spent-save meaning b p page saved-below) now.spent;
            hand = λ h. rw g.1 w.1;
          }

      pub saved-smaller : fuel_at (pairs (shape n.common)) n.told n.given < fuel_at (pairs (shape m.common)) m.told m.given
      saved-smaller =
          subst (λ (d : Meaning C). fuel_at (pairs (shape d.common)) d.told d.given < fuel_at (pairs (shape m.common)) m.told m.given) (sym g.1)
          (fuel-save shape run key is m (record { pair = p; page = page }) now.may.machine g.0)

    module _ (n : Meaning C) (g : Goes shape run m polled.Ask n) (a : Admits run b n) where
      may-ask : MayAsk run meaning key b n
      may-ask = subst (MayAsk run meaning key b) (sym g.2) (hand-ask meaning shape run key is b l m (was polled.Ask n g a) n.awaits g.0 g.1)

      pub asks-within : All (λ p. p < length b.known) n.awaits
      asks-within = λ k d lt. (let w = awaits-within shape run key is n may-ask.machine k d lt in omega (arith, w, l.pages))

      pub answered : lacking (at_place b.known) n.awaits ≡ [] → Playing b0 m0 b (all_told (at_place b.known) n)
      answered none =
          let w = ask-value meaning shape run key is b l n may-ask none in
          record {
            lawful = l;
            may = record { machine = w.machine; going = w.going; closed = w.closed };
            spent = now.spent;
            hand = λ h. w;
          }

      pub answered-smaller : lacking (at_place b.known) n.awaits ≡ []
          → fuel_at (pairs (shape n.common)) (all_told (at_place b.known) n).told n.given < fuel_at (pairs (shape m.common)) m.told m.given
      answered-smaller none =
          let same : fuel_at (pairs (shape n.common)) n.told n.given ≡ fuel_at (pairs (shape m.common)) m.told m.given = ap (λ (d : Meaning C). fuel_at (pairs (shape d.common)) d.told d.given) g.2 in
          lt_of_lt_of_le (fuel-told meaning shape run key is b l n may-ask.machine may-ask.some none) (omega (arith, same))

    pub parked : (x : X) → Goes shape run m polled.Ask (meaning x) → Admits run b (meaning x) → (lacking (at_place b.known) (meaning x).awaits ≡ [] → ⊥) → HasPlayed meaning run key b0 m0 (with_place b (meaning x).item (held x))
    parked x g a lacks =
        let may : MayAsk run meaning key b (meaning x) = may-ask (meaning x) g a in
        let less = lt_of_lt_of_le (parks-spent meaning shape run key is b l x may.is_out lacks) now.spent in
        record { lawful = ask-parks meaning shape run key is b l x may; spent = omega (arith, less); less = λ h. less }

    pub done : (page : Page) (facts : FactsView) (n : Meaning C) → Goes shape run m (polled.Done page facts) n → Admits run b n → HasPlayed meaning run key b0 m0 (after_done b n.item page facts)
    done page facts n g a =
        let hand = was (polled.Done page facts) n g a in
        let item : n.item ≡ m.item = ap (λ (d : Meaning C). d.item) g.3 in
        let less = lt_of_lt_of_le (done-spent meaning shape run key is b l m.item hand.machine.in_range hand.is_out page facts) now.spent in
        rw item (record {
          lawful = lawful-done meaning shape run key is b m.item page facts l (hand-done meaning shape run key is b l m hand page facts g.0 g.1 g.2);
          spent = omega (arith, less);
          less = λ h. less;
        })

    pub failed : (f : Fault) (n : Meaning C) → Goes shape run m (polled.Failed f) n → Admits run b n → HasPlayed meaning run key b0 m0 (after_fail b n.item f)
    failed f n g a =
        let hand = was (polled.Failed f) n g a in
        let item : n.item ≡ m.item = ap (λ (d : Meaning C). d.item) g.2 in
        let less = lt_of_lt_of_le (fail-spent meaning shape run key is b l m.item hand.machine.in_range hand.is_out f) now.spent in
        rw item (record {
          lawful = lawful-fail meaning shape run key is b m.item f l (hand-fail meaning shape run key is b l m hand f g.0 g.1);
          spent = omega (arith, less);
          less = λ h. less;
        })

  -- turns

  pub turn-lawful : (b n : BoardView X C) (t : Turn X) → IsLawful run meaning key b → TakesAny meaning b (Some t) n → IsLawful run meaning key n × IsTurn run meaning key t
  turn-lawful b n t l (inl h) = hands-lawful meaning shape run key is b l t n h
  turn-lawful b n (turn.Fresh i) l (inr h) = (subst (IsLawful run meaning key) (sym h.2) l, out-turn meaning shape run key is b l i h.1.0)
  turn-lawful b n (turn.Woken x) l (inr h) = absurd h

  pub turn-starts : (t : Turn X) → IsTurn run meaning key t → CanStart key.lay t
  turn-starts (turn.Fresh i) w = w.0
  turn-starts (turn.Woken x) w = tt

  pub start-polls : (t : Turn X) (m : Meaning C) → IsTurn run meaning key t → Starts meaning key.common t m → MayPoll run key m
  start-polls (turn.Fresh i) m w s = rw s (record { machine = fresh-machine shape run key i w.0 w.1; going = refl; closed = refl })
  start-polls (turn.Woken x) m w s = rw s w

  -- less is left to happen after a turn
  pub turn-less : (b n : BoardView X C) (t : Turn X) (m : Meaning C) (d : BoardView X C) → IsLawful run meaning key b → TakesAny meaning b (Some t) n → Starts meaning key.common t m → HasPlayed meaning run key n m d → potential meaning d < potential meaning b
  turn-less b n t m d l (inl h) s w = lt_of_le_of_lt w.spent (spent-turn meaning b n t h)
  turn-less b n (turn.Fresh i) m d l (inr h) s w =
      let free = out-turn meaning shape run key is b l i h.1.0 in
      let hand : InHand run meaning key n m = rw (s, h.2) (fresh-hand meaning shape run key is b i free.0 free.1 h.1.0) in
      subst (λ (c : BoardView X C). potential meaning d < potential meaning c) h.2 (w.less hand)
  turn-less b n (turn.Woken x) m d l (inr h) s w = absurd h

  -- one turn of a run for a maker whose compilers have the key's common value
  module _ (c : C) (b0 b n : BoardView X C) (t : Turn X) (first : IsLawful run meaning key b0) (common : b0.common ≡ c) (l : IsLawful run meaning key b) (h : TakesAny meaning b (Some t) n) where
    common-is : key.common ≡ c
    common-is = sym first.common ∙ common

    pub can-start : CanStart (shape c) t
    can-start = subst (λ (lay : Shape). CanStart lay t) (is.layout ∙ ap shape common-is) (turn-starts t (turn-lawful b n t l h).1)

    module _ (m : Meaning C) (s : Starts meaning c t m) where
      starts : Starts meaning key.common t m
      starts = subst (λ (d : C). Starts meaning d t m) (sym common-is) s

      pub can-play : IsLawful run meaning key n × MayPoll run key m
      can-play = (let w = turn-lawful b n t l h in (w.0, start-polls t m w.1 starts))

      pub played-less : (d : BoardView X C) → HasPlayed meaning run key n m d → potential meaning d < potential meaning b
      played-less d w = turn-less b n t m d l h starts w
