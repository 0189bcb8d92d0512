-- What a poll answered may go to a board that admits the compiler.
use Rattle.std.proofs.Common.{◌≡◌, refl, sym, ap, ◌∙◌, subst, ℕ, ◌-◌, ◌<◌, false, [], length, arith}
use Rattle.hk_chain.specs.declared.page.Page.{Page}
use Rattle.hk_chain.specs.Kept.{at_place}
use Rattle.hk_chain.specs.Layout.{Shape}
use Rattle.hk_fix.specs.declared.polled.Polled.{Polled}
use Rattle.hk_fix.specs.declared.polled.Polled.TheVariants as polled
use Rattle.hk_fix.specs.Calls.{to_give, Goes}
use Rattle.hk_fix.specs.Fix.{seeded}
use Rattle.hk_fix.specs.Meaning.{Meaning, fresh}
use Rattle.hk_fix.specs.Pages.{Pages, lacking}
use Rattle.hk_fix.specs.Task.{Run}
use Rattle.hk_sched.specs.Standings.{all_told}
use Rattle.hk_sched.specs.Board.{BoardView, Admits}
use Rattle.hk_sched.specs.Lawful.{Key, sown, used_saves, IsKey, IsMachine, IsLawful, MayAsk, InHand, Allows}
use Rattle.hk_sched.proofs.Answering.{none-lacking}
use Rattle.hk_sched.proofs.Hands.{told-machine, known-within}
use Rattle.hk_sched.proofs.Polls.{hand-save, hand-ask, hand-done, hand-fail}
use Rattle.hk_sched.proofs.Saves.{get-length}

module _ {C : Type 0} (shape : C → Shape) (run : C → ℕ → Pages → Run Page) (key : Key C) where
  pub fresh-machine : (i : ℕ) → i < key.lay.items → seeded (sown key) i ≡ false → IsMachine run key (fresh key.common i)
  fresh-machine i lt free = record { common = refl; in_range = lt; unseeded = free; told = λ q x e. cc; few = omega arith; asks = λ h. absurd (omega arith) }

  pub polled-machine : (p : Polled) (m n : Meaning C) → IsMachine run key m → m.awaits ≡ [] → m.has_ended ≡ false → Goes shape run m p n → IsMachine run key n
  polled-machine (polled.Saved pair page) m n lawful closed going g =
      rw g.1
      (record {
        common = lawful.common;
        in_range = lawful.in_range;
        unseeded = lawful.unseeded;
        told = lawful.told;
        few = omega (arith, get-length (to_give run m) m.given (record { pair = pair; page = page }) g.0);
        asks = λ lt. absurd (omega (arith, lt, ap length closed));
      })
  polled-machine polled.Ask m n lawful closed going g =
      subst (IsMachine run key) (sym g.2)
      (record {
        common = lawful.common;
        in_range = lawful.in_range;
        unseeded = lawful.unseeded;
        told = lawful.told;
        few = lawful.few;
        asks = λ lt. record { going = going; quiet = refl; gave = g.0; stops = g.1 };
      })
  polled-machine (polled.Done page facts) m n lawful closed going g =
      subst (IsMachine run key) (sym g.3)
      (record {
        common = lawful.common;
        in_range = lawful.in_range;
        unseeded = lawful.unseeded;
        told = lawful.told;
        few = lawful.few;
        asks = λ lt. absurd (omega (arith, lt, ap length closed));
      })
  polled-machine (polled.Failed f) m n lawful closed going g =
      subst (IsMachine run key) (sym g.2)
      (record {
        common = lawful.common;
        in_range = lawful.in_range;
        unseeded = lawful.unseeded;
        told = lawful.told;
        few = lawful.few;
        asks = λ lt. absurd (omega (arith, lt, ap length closed));
      })

-- a poll leaves the item, what was told and what is to be given, and uses what was given before
pub polled-same : {C : Type 0} (shape : C → Shape) (run : C → ℕ → Pages → Run Page) (p : Polled) (m n : Meaning C) → Goes shape run m p n → (n.item ≡ m.item) × (n.told ≡ m.told) × (to_give run n ≡ to_give run m) × (used_saves n ≡ m.given)
polled-same {C} shape run (polled.Saved pair page) m n g = (ap (λ (d : Meaning C). d.item) g.1, ap (λ (d : Meaning C). d.told) g.1, ap (to_give run) g.1, rw g.1 (omega arith))
polled-same {C} shape run polled.Ask m n g = (ap (λ (d : Meaning C). d.item) g.2, ap (λ (d : Meaning C). d.told) g.2, ap (to_give run) g.2, ap used_saves g.2 ∙ (let z : m.given - 0 ≡ m.given = omega arith in z))
polled-same {C} shape run (polled.Done page facts) m n g = (ap (λ (d : Meaning C). d.item) g.3, ap (λ (d : Meaning C). d.told) g.3, ap (to_give run) g.3, ap used_saves g.3 ∙ (let z : m.given - 0 ≡ m.given = omega arith in z))
polled-same {C} shape run (polled.Failed f) m n g = (ap (λ (d : Meaning C). d.item) g.2, ap (λ (d : Meaning C). d.told) g.2, ap (to_give run) g.2, ap used_saves g.2 ∙ (let z : m.given - 0 ≡ m.given = omega arith in z))

module _ {X C : Type 0} (meaning : X → Meaning C) (shape : C → Shape) (run : C → ℕ → Pages → Run Page) (key : Key C) (is : IsKey run shape key) where
  pub told-again : (b : BoardView X C) (m : Meaning C) → IsLawful run meaning key b → IsMachine run key m → lacking (at_place b.known) m.awaits ≡ [] → IsMachine run key (all_told (at_place b.known) m)
  told-again b m l lawful none = told-machine shape run key is m lawful (at_place b.known) (known-within shape run key is meaning b l) m.awaits (λ p h. h) (none-lacking (at_place b.known) m.awaits none)

  module _ (b : BoardView X C) (l : IsLawful run meaning key b) (m : Meaning C) (lawful : IsMachine run key m) (closed : m.awaits ≡ []) (going : m.has_ended ≡ false) where
    -- it was in hand before the poll
    pub in-hand : (p : Polled) (n : Meaning C) → Goes shape run m p n → Admits run b n → InHand run meaning key b m
    in-hand p n g a =
        let w = polled-same shape run p m n g in
        record {
          is_out = rw (← w.0) a.is-out;
          machine = lawful;
          closed = closed;
          going = going;
          backed = record {
            told = λ q h. a.backed.told q (rw w.1 h);
            gave = λ q h. a.backed.gave q (rw (w.2, w.3) h);
          };
        }

    pub allowed : (p : Polled) (n : Meaning C) → Goes shape run m p n → Admits run b n → Allows run meaning key b p n
    allowed (polled.Saved pair page) n g a = (hand-save meaning shape run key is b l m (in-hand (polled.Saved pair page) n g a) pair page g.0).0
    allowed polled.Ask n g a = subst (MayAsk run meaning key b) (sym g.2) (hand-ask meaning shape run key is b l m (in-hand polled.Ask n g a) n.awaits g.0 g.1)
    allowed (polled.Done page facts) n g a =
        let item : n.item ≡ m.item = ap (λ (d : Meaning C). d.item) g.3 in
        rw item (hand-done meaning shape run key is b l m (in-hand (polled.Done page facts) n g a) page facts g.0 g.1 g.2)
    allowed (polled.Failed f) n g a =
        let item : n.item ≡ m.item = ap (λ (d : Meaning C). d.item) g.2 in
        rw item (hand-fail meaning shape run key is b l m (in-hand (polled.Failed f) n g a) f g.0 g.1)

  -- what was in hand is admitted after its poll
  pub hand-admits : (b : BoardView X C) (p : Polled) (m n : Meaning C) → InHand run meaning key b m → Goes shape run m p n → Admits run b n
  hand-admits b p m n hand g =
      let w = polled-same shape run p m n g in
      record {
        is-out = rw w.0 hand.is_out;
        backed = record {
          told = λ q h. hand.backed.told q (rw w.1 at h);
          gave = λ q h. hand.backed.gave q (rw (w.2, w.3) at h);
        };
      }
