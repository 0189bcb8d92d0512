-- An inner compiler that goes on, and is told what is told already.
use Rattle.std.specs.Prelude.{◌≡◌, ℕ, ◌≤◌, Bool, false, cond, List, [], ◌∷◌, ◌++◌, length, take, Option, Some, None}
use Rattle.hk_chain.specs.declared.page.Page.{Page}
use Rattle.hk_chain.specs.Layout.{Shape}
use Rattle.hk_fix.specs.declared.polled.Polled.{Polled}
use Rattle.hk_fix.specs.declared.polled.Polled.TheVariants.{Saved, Ask, Done, Failed}
use Rattle.hk_fix.specs.Pages.{Pages}
use Rattle.hk_fix.specs.Task.{done, fault, waits, Run}
use Rattle.hk_fix.specs.Run.{Save, saves_of}
use Rattle.hk_fix.specs.Facts.{facts_of, whole_log}
use Rattle.hk_fix.specs.Fix.{or_else}
use Rattle.hk_fix.specs.Meaning.{Meaning, told_page}

-- saves without those of some pairs
abbrev pub drop_saves : (ℕ → Bool) → List Save → List Save
drop_saves kept [] = []
drop_saves kept (s ∷ ss) = cond (kept s.pair) (drop_saves kept ss) (s ∷ drop_saves kept ss)

-- what the inner compiler was told, and what was told before
abbrev pub both : Pages → Pages → Pages
both told k q = or_else (told q) (k q)

module _ {C : Type 0} where
  abbrev pub tell_by : Meaning C → ℕ → Option Page → Meaning C
  tell_by m p None = m
  tell_by m p (Some x) = told_page m p x

  -- after each of these pairs was answered where its page is known
  abbrev pub tell_all : Pages → Meaning C → List ℕ → Meaning C
  tell_all k m [] = m
  tell_all k m (p ∷ ps) = tell_all k (tell_by m p (k p)) ps

  -- the same compiler, and the same pages are known to both
  pub record SameKnown (k : Pages) (m n : Meaning C) : Type 0 where
    pub common : n.common ≡ m.common
    pub item : n.item ≡ m.item
    pub known : (q : ℕ) → both n.told k q ≡ both m.told k q

  module _ (run : C → ℕ → Pages → Run Page) (k : Pages) where
    -- the run of its item under all that is known
    abbrev pub known_run : Meaning C → Run Page
    known_run m = run m.common m.item (both m.told k)

    abbrev pub all_saves : Meaning C → List Save
    all_saves m = saves_of (known_run m).log

    -- between two polls
    pub record Between (kept : ℕ → Bool) (m n : Meaning C) : Type 0 where
      pub same : SameKnown k m n
      pub few : n.given ≤ length (all_saves m)
      pub dropped : drop_saves kept (take n.given (all_saves m)) ≡ drop_saves kept (take m.given (all_saves m))
      pub closed : n.awaits ≡ []
      pub going : n.has_ended ≡ false

    -- all its saves were given, and those since the last answer are of these pairs
    pub record Quiet (kept : ℕ → Bool) (m n : Meaning C) : Type 0 where
      pub few : n.given ≤ length (all_saves m)
      pub all : length (all_saves m) ≤ n.given
      pub dropped : drop_saves kept (take n.given (all_saves m)) ≡ drop_saves kept (take m.given (all_saves m))

    pub record Gives (kept : ℕ → Bool) (m n : Meaning C) (s : Save) : Type 0 where
      pub few : n.given ≤ length (all_saves m)
      pub dropped : drop_saves kept (take n.given (all_saves m)) ≡ drop_saves kept (take m.given (all_saves m)) ++ s ∷ []
      pub closed : n.awaits ≡ []
      pub going : n.has_ended ≡ false

    abbrev pub InnerGoes : (C → Shape) → (ℕ → Bool) → Meaning C → Polled → Meaning C → Type 0
    InnerGoes shape kept m (Saved p x) n = Gives kept m n (record { pair = p; page = x })
    InnerGoes shape kept m Ask n = Quiet kept m n × ((known_run m).end ≡ waits n.awaits) × (n.has_ended ≡ false)
    InnerGoes shape kept m (Done x facts) n = Quiet kept m n × ((known_run m).end ≡ done x) × (facts ≡ facts_of (whole_log (shape m.common) m.item (known_run m))) × (n.awaits ≡ [])
    InnerGoes shape kept m (Failed f) n = Quiet kept m n × ((known_run m).end ≡ fault f) × (n.awaits ≡ [])
