-- What a suspended compiler is, as plain data.
use Rattle.std.specs.Prelude.{ℕ, Bool, false, not, List, [], nat_eq, filter}
use Rattle.hk_chain.specs.declared.page.Page.{Page}
use Rattle.hk_fix.specs.Pages.{Pages, no_page, tell}

pub record Meaning (Common : Type 0) : Type 0 where
  pub common : Common
  pub item : ℕ
  -- the pages that it was answered
  pub told : Pages
  -- how many pages it has given on its way
  pub given : ℕ
  -- the asked pairs that weren't answered
  pub awaits : List ℕ
  -- a poll answered the finished page or a fault
  pub has_ended : Bool
  -- the last answer of a poll was a page on the way, which doesn't count as used yet
  pub just_saved : Bool
  -- a poll answered want of memory
  pub is_spent : Bool

module _ {Common : Type 0} where
  abbrev pub fresh : Common → ℕ → Meaning Common
  fresh c i = record { common = c; item = i; told = no_page; given = 0; awaits = []; has_ended = false; just_saved = false; is_spent = false }

  -- after a page was answered for an open pair
  abbrev pub told_page : Meaning Common → ℕ → Page → Meaning Common
  told_page m p x = record m { told = tell m.told p x; awaits = filter (λ q. not (nat_eq p q)) m.awaits }
