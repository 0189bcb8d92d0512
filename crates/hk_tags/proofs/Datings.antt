-- Items with their dates, one after another.
use Rattle.std.proofs.Common.{◌≡◌, refl, sym, ap, ◌∙◌, ℕ, List, [], ◌∷◌, ◌++◌, append_assoc, Some, Result, Ok, Err}
use Rattle.hk_meta.specs.declared.date.Moment.{Moment}
use Rattle.hk_rules.specs.Plan.{Lookups}
use Rattle.hk_tags.specs.Dates.{Dated, with_date, dated}
use Rattle.hk_tags.specs.Members.{date_at}

-- those that were found, and these
abbrev pub after_dates : List Dated → Result (List Dated) ℕ → Result (List Dated) ℕ
after_dates found (Ok ds) = Ok (found ++ ds)
after_dates found (Err item) = Err item

pub dates-turn : (old new : List Dated) (item : ℕ) (date : Moment) (r : Result (List Dated) ℕ) → new ≡ old ++ record { date = date; item = item } ∷ [] → after_dates old (with_date item (Some date) r) ≡ after_dates new r
dates-turn old new item date (Ok ds) e = ap Ok (sym (append_assoc old (record { date = date; item = item } ∷ []) ds) ∙ ap (λ l. l ++ ds) (sym e))
dates-turn old new item date (Err other) e = refl

-- one more date
pub dates-step : (plan : Lookups) (all : List ℕ) (old new : List Dated) (left rest : List ℕ) (item : ℕ) (date : Moment) → dated plan all ≡ after_dates old (dated plan left) → left ≡ item ∷ rest → date_at plan item ≡ Some date → new ≡ old ++ record { date = date; item = item } ∷ [] → dated plan all ≡ after_dates new (dated plan rest)
dates-step plan all old new left rest item date was step at more =
    was ∙ (ap (λ l. after_dates old (dated plan l)) step ∙ (ap (λ o. after_dates old (with_date item o (dated plan rest))) at ∙ dates-turn old new item date (dated plan rest) more))
