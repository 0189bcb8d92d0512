-- A feed without a fault has what it needs.
use Rattle.std.proofs.Common.{◌≡◌, refl, sym, ap, ◌∙◌, ℕ, Bool, true, false, cond, not, List, [], ◌∷◌, ◌++◌, append_assoc, append-nil, map, Option, Some, None, All}
use Rattle.std.specs.Prelude.{is_some, is_none, option_map}
use Rattle.std.specs.List.{AllByRecursion, cons_option, find}
use Rattle.std.specs.Option.{option_or}
use Rattle.std.proofs.lemmas.List.Elements.{All-from_recursion}
use Rattle.hk_base.specs.Bytes.{Bytes}
use Rattle.hk_base.specs.Identifier.{is_path}
use Rattle.hk_meta.specs.declared.date.Moment.{Moment}
use Rattle.hk_rules.specs.Plan.{Lookups}
use Rattle.hk_feed.specs.Accepted.{IsAccepted}
use Rattle.hk_feed.specs.FeedFaults.{is_taken, target_fault, lacks_snapshot, lacks_date, no_snapshot, no_date, snapshot_fault, date_fault, feed_fault, later_fault, feeds_fault}
use Rattle.hk_feed.specs.Members.{members, date_at}
use Rattle.hk_feed.specs.Recent.{Dated, dated_by, dated, item_in}
use Rattle.hk_rules_file.specs.declared.tables.FeedRule.{FeedRule}
use Rattle.hk_feed.specs.declared.feed_fault.FeedFault.{FeedFault}
use Rattle.hk_feed.specs.declared.feed_fault.FeedFault.TheVariants.{BadTarget, Taken}

pub none-first : {X : Type 0} (a b : Option X) → option_or a b ≡ None → a ≡ None
none-first None b e = refl
none-first (Some x) b e = cc

pub none-second : {X : Type 0} (a b : Option X) → option_or a b ≡ None → b ≡ None
none-second None b e = e
none-second (Some x) b e = cc

some-is-none : {Y A : Type 0} (y : Y) → Some y ≡ None → A
some-is-none y e = absurd (cc)

-- what isn't found passes no test
unfound : {X Y : Type 0} (f : X → Y) (p : X → Bool) (xs : List X) → option_map f (find p xs) ≡ None → AllByRecursion (λ x. p x ≡ false) xs
unfound f p [] e = tt
unfound f p (x ∷ xs) e = elim (p x) as (λ b. p x ≡ b → option_map f (cond b (Some x) (find p xs)) ≡ None → (p x ≡ false) × AllByRecursion (λ y. p y ≡ false) xs) [
  | true ↦ λ q w. some-is-none (f x) w
  | false ↦ λ q w. (q, unfound f p xs w)
] refl e

some-if : {X : Type 0} (o : Option X) → is_none o ≡ false → is_some o ≡ true
some-if None e = cc
some-if (Some x) e = refl

all-saved : (plan : Lookups) (name : Bytes) (items : List ℕ) → AllByRecursion (λ item. lacks_snapshot plan name item ≡ false) items → AllByRecursion (λ item. is_some (plan.pair item name) ≡ true) items
all-saved plan name [] h = tt
all-saved plan name (item ∷ items) h = (some-if (plan.pair item name) h.0, all-saved plan name items h.1)

one-dated : (item : ℕ) (date : Option Moment) (ds : List Dated) → is_none date ≡ false → map item_in (cons_option (dated_by item date) ds) ≡ item ∷ map item_in ds
one-dated item None ds e = cc
one-dated item (Some date) ds e = refl

all-dated : (plan : Lookups) (items : List ℕ) → AllByRecursion (λ item. lacks_date plan item ≡ false) items → map item_in (dated plan items) ≡ items
all-dated plan [] h = refl
all-dated plan (item ∷ items) h = one-dated item (date_at plan item) (dated plan items) h.0 ∙ ap (λ l. item ∷ l) (all-dated plan items h.1)

path-of : (feed : FeedRule) (a b : Bool) → cond (not a) (Some (BadTarget feed.target)) (cond b (Some (Taken feed.target)) None) ≡ None → a ≡ true
path-of feed true b e = refl
path-of feed false b e = cc

free-of : (feed : FeedRule) (a b : Bool) → cond (not a) (Some (BadTarget feed.target)) (cond b (Some (Taken feed.target)) None) ≡ None → b ≡ false
free-of feed true true e = cc
free-of feed true false e = refl
free-of feed false b e = cc

one-accepted : (plan : Lookups) (earlier : List FeedRule) (feed : FeedRule) → feed_fault plan earlier feed ≡ None → IsAccepted plan earlier feed
one-accepted plan earlier feed e =
    let items : List ℕ = members plan feed in
    let target = none-first (target_fault plan earlier feed) (option_or (snapshot_fault plan feed.snapshot items) (date_fault plan items)) e in
    let rest = none-second (target_fault plan earlier feed) (option_or (snapshot_fault plan feed.snapshot items) (date_fault plan items)) e in
    record {
      path = path-of feed (is_path feed.target) (is_taken plan earlier feed.target) target;
      free = free-of feed (is_path feed.target) (is_taken plan earlier feed.target) target;
      saved = All-from_recursion (λ item. is_some (plan.pair item feed.snapshot) ≡ true) items
          (all-saved plan feed.snapshot items (unfound (no_snapshot plan feed.snapshot) (lacks_snapshot plan feed.snapshot) items (none-first (snapshot_fault plan feed.snapshot items) (date_fault plan items) rest)));
      whole = all-dated plan items (unfound (no_date plan) (lacks_date plan) items (none-second (snapshot_fault plan feed.snapshot items) (date_fault plan items) rest));
    }

-- no feed has a fault, after those before it
each-none : (plan : Lookups) (first before later : List FeedRule) (feed : FeedRule) → later_fault plan first (before ++ feed ∷ later) ≡ None → feed_fault plan (first ++ before) feed ≡ None
each-none plan first [] later feed e =
    ap (λ l. feed_fault plan l feed) (append-nil first) ∙ none-first (feed_fault plan first feed) (later_fault plan (first ++ feed ∷ []) later) e
each-none plan first (f ∷ before) later feed e =
    ap (λ l. feed_fault plan l feed) (sym (append_assoc first (f ∷ []) before))
    ∙ each-none plan (first ++ f ∷ []) before later feed (none-second (feed_fault plan first f) (later_fault plan (first ++ f ∷ []) (before ++ feed ∷ later)) e)

pub all-accepted : (plan : Lookups) (earlier later : List FeedRule) (feed : FeedRule) → feeds_fault plan (earlier ++ feed ∷ later) ≡ None → IsAccepted plan earlier feed
unfolding feeds_fault
all-accepted plan earlier later feed e = one-accepted plan earlier feed (each-none plan [] earlier later feed e)
