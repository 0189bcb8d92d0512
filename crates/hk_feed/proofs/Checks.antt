-- Feeds that are checked one after another.
use Rattle.std.proofs.Common.{◌≡◌, refl, sym, ap, ◌∙◌, subst, ℕ, ◌+◌, ◌<◌, ◌≤◌, List, [], ◌∷◌, ◌++◌, take, drop, drop_of_length-le, length, get_or, Option, Some, None, Err}
use Rattle.std.specs.Option.{option_or}
use Rattle.std.proofs.lemmas.List.{take_more}
use Rattle.hk_base.specs.declared.refusal.Refusal.{Refusal}
use Rattle.hk_base.specs.declared.refusal.Refusal.TheVariants.{Fault, NoMemory}
use Rattle.hk_rules.specs.Outcomes.{Passes}
use Rattle.hk_rules.specs.Plan.{Lookups}
use Rattle.hk_feed.specs.FeedFaults.{feed_fault, later_fault}
use Rattle.hk_rules_file.specs.declared.tables.FeedRule.{FeedRule}
use Rattle.hk_feed.specs.declared.feed_fault.FeedFault.{FeedFault}
use Rattle.hk_feed.proofs.Lists.{rest-from}

-- a check that refuses, and what comes after it
pub refused-first : (one rest : Option FeedFault) (e : Refusal FeedFault) → Passes {T = Unit {0}} one (Err e) → Passes {T = Unit {0}} (option_or one rest) (Err e)
refused-first one rest (Fault f) h = ap (λ o. option_or o rest) h
refused-first one rest NoMemory h = tt

module _ (plan : Lookups) (feeds : List FeedRule) (i : ℕ) (feed : FeedRule) (lt : i < length feeds) (at : feed ≡ get_or feeds i feed) (was : later_fault plan (take i feeds) (drop i feeds) ≡ later_fault plan [] feeds) where
  -- the fault of this feed, or else of those after it
  here : option_or (feed_fault plan (take i feeds) feed) (later_fault plan (take i feeds ++ feed ∷ []) (drop (i + 1) feeds)) ≡ later_fault plan [] feeds
  here = ap (later_fault plan (take i feeds)) (sym (rest-from feeds i feed lt at)) ∙ was

  pub checked-turn : feed_fault plan (take i feeds) feed ≡ None → later_fault plan (take (i + 1) feeds) (drop (i + 1) feeds) ≡ later_fault plan [] feeds
  checked-turn none =
      ap (λ l. later_fault plan l (drop (i + 1) feeds)) (take_more feeds i feed lt ∙ ap (λ f. take i feeds ++ f ∷ []) (sym at))
      ∙ (sym (ap (λ o. option_or o (later_fault plan (take i feeds ++ feed ∷ []) (drop (i + 1) feeds))) none) ∙ here)

  pub checked-stop : (e : Refusal FeedFault) → Passes {T = Unit {0}} (feed_fault plan (take i feeds) feed) (Err e) → Passes {T = Unit {0}} (later_fault plan [] feeds) (Err e)
  checked-stop e h =
      subst (λ o. Passes {T = Unit {0}} o (Err e)) here (refused-first (feed_fault plan (take i feeds) feed) (later_fault plan (take i feeds ++ feed ∷ []) (drop (i + 1) feeds)) e h)

pub checked-end : (plan : Lookups) (feeds : List FeedRule) (i : ℕ) → length feeds ≤ i → later_fault plan (take i feeds) (drop i feeds) ≡ later_fault plan [] feeds → later_fault plan [] feeds ≡ None
checked-end plan feeds i over was = sym was ∙ ap (later_fault plan (take i feeds)) (drop_of_length-le feeds over)
