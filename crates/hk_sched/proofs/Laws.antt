-- The laws of boards and polls for one key.
use Rattle.std.proofs.Common.{refl, ap, ◌∙◌, ℕ, arith}
use Rattle.hk_chain.specs.declared.page.Page.{Page}
use Rattle.hk_chain.specs.Layout.{Shape}
use Rattle.hk_fix.specs.declared.polled.Polled.TheVariants as polled
use Rattle.hk_fix.specs.Meaning.{Meaning}
use Rattle.hk_fix.specs.Pages.{Pages}
use Rattle.hk_fix.specs.Task.{Run}
use Rattle.hk_sched.specs.Lawful.{Key, IsKey}
use Rattle.hk_sched.specs.BoardLaws.{BoardLaws, PollLaws}
use Rattle.hk_sched.proofs.Allowing.{fresh-machine, polled-machine, allowed}
use Rattle.hk_sched.proofs.Completes.{hands-lawful, told-lawful, put-lawful, is-run_of}
use Rattle.hk_sched.proofs.Hands.{awaits-within}
use Rattle.hk_sched.proofs.Keeps.{lawful-save, lawful-done, lawful-fail}
use Rattle.hk_sched.proofs.Polls.{ask-value, ask-parks}
use Rattle.hk_sched.proofs.Works.{lawful-open, out-turn}

module _ {X C : Type 0} (meaning : X → Meaning C) (shape : C → Shape) (run : C → ℕ → Pages → Run Page) (key : Key C) (is : IsKey run shape key) where
  pub board-laws : BoardLaws run meaning key
  board-laws =
      record {
        opens = λ kept. lawful-open meaning shape run key is kept;
        hands_out = λ b n t l h. hands-lawful meaning shape run key is b l t n h;
        tells = λ b n l t. told-lawful meaning shape run key is b l n t;
        puts_back = λ b t l w. put-lawful meaning shape run key is b l t w;
        saves = λ b p page l may. (omega (arith, may.in_range, l.pages), lawful-save meaning shape run key is b p page l may);
        parks = λ b x l may. (λ k d lt. (let w = awaits-within shape run key is (meaning x) may.machine k d lt in omega (arith, w, l.pages)), ask-parks meaning shape run key is b l x may);
        finishes = λ b i page facts l may. lawful-done meaning shape run key is b i page facts l may;
        fails = λ b i f l may. lawful-fail meaning shape run key is b i f l may;
        begins_anew = λ b i l at. out-turn meaning shape run key is b l i at;
        closes = λ b l ready outs. is-run_of meaning shape run key is b l ready outs;
      }

  pub poll-laws : PollLaws run meaning key shape
  poll-laws =
      record {
        makes = λ i lt free. record { machine = fresh-machine shape run key i lt free; going = refl; closed = refl };
        polls = λ p m n may g. polled-machine shape run key p m n may.machine may.closed may.going g;
        allows = λ b p m n l may g a. allowed meaning shape run key is b l m may.machine may.closed may.going p n g a;
        goes_on = λ p page m n may g. record {
          machine = polled-machine shape run key (polled.Saved p page) m n may.machine may.closed may.going g;
          going = ap (λ (d : Meaning C). d.has_ended) g.1 ∙ may.going;
          closed = ap (λ (d : Meaning C). d.awaits) g.1 ∙ may.closed;
        };
        answers = λ b m l may none. (let w = ask-value meaning shape run key is b l m may none in record { machine = w.machine; going = w.going; closed = w.closed });
      }
