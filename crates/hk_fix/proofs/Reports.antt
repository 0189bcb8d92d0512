-- Lists of what is reported, item after item.
use Rattle.std.proofs.Common.{◌≡◌, refl, sym, ap, ◌∙◌, subst, arith, ℕ, suc, ◌+◌, ◌<◌, Bool, true, false, cond, ◌&&◌, not, inl, inr, List, [], ◌∷◌, ◌++◌, append-nil, length, map, filter, get_or, Option, Some, None, nat_lt, ltb-true, ltb-false, All}
use Rattle.std.specs.List.{slice_get}
use Rattle.std.specs.Option.{option_map}
use Rattle.std.proofs.lemmas.List.{length-map, map-append, get_or-map, get_or_past}
use Rattle.std.proofs.lemmas.List.Elements.{filter-append}
use Rattle.std.proofs.lemmas.Option.{slice_get-map, slice_get_read}
use Rattle.hk_chain.specs.Layout.{Shape, IsShape, pairs, item_of}
use Rattle.hk_fix.specs.declared.results.Outcome.{Outcome}
use Rattle.hk_fix.specs.declared.results.Outcome.TheVariants.{Done, Failed, Waiting}
use Rattle.hk_fix.specs.Fix.{Ending, finished, faulted, waiting}
use Rattle.hk_fix.specs.Outcomes.{outcome_view}
use Rattle.hk_fix.specs.Report.{lead_of, on_cycle, is_least, upto, is_waiting, WaitsFor, CanReport, FirstIn}
use denote.Enum.Bare.{sameb}
use Rattle.hk_fix.specs.contracts.cycles.Place.{the_type}
use Rattle.hk_fix.specs.declared.cycles.Place.{Place}
use Rattle.hk_fix.specs.declared.cycles.Place.TheVariants.{Off, Member, First}
use Rattle.hk_fix.specs.Walks.{LeadsIn, place_by, place_on_cycle}
use Rattle.hk_fix.proofs.Orders.{decide}

upto-next : (n : ℕ) → upto (n + 1) ≡ upto n ++ n ∷ []
upto-next n = let e : n + 1 ≡ suc n = omega arith in rw e refl

pub filter-next : (test : ℕ → Bool) (n : ℕ) → filter test (upto (n + 1)) ≡ filter test (upto n) ++ cond (test n) (n ∷ []) []
filter-next test n = ap (filter test) (upto-next n) ∙ filter-append test (upto n) (n ∷ [])

pub filter-more : (test : ℕ → Bool) (n : ℕ) (xs : List ℕ) → test n ≡ true → xs ≡ filter test (upto n) → xs ++ n ∷ [] ≡ filter test (upto (n + 1))
filter-more test n xs t e = ap (λ l. l ++ n ∷ []) e ∙ sym (filter-next test n ∙ rw t refl)

pub filter-same : (test : ℕ → Bool) (n : ℕ) (xs : List ℕ) → test n ≡ false → xs ≡ filter test (upto n) → xs ≡ filter test (upto (n + 1))
filter-same test n xs t e = e ∙ sym (filter-next test n ∙ (rw t refl ∙ append-nil (filter test (upto n))))

module _ {A : Type 0} where
  pub map-more : (f : ℕ → A) (test : ℕ → Bool) (n : ℕ) (xs : List A) (x : A) → test n ≡ true → x ≡ f n → xs ≡ map f (filter test (upto n)) → xs ++ x ∷ [] ≡ map f (filter test (upto (n + 1)))
  map-more f test n xs x t same e =
      ap (λ l. l ++ x ∷ []) e ∙ (ap (λ y. map f (filter test (upto n)) ++ y ∷ []) same
      ∙ sym (ap (map f) (filter-next test n ∙ rw t refl) ∙ map-append f (filter test (upto n)) (n ∷ [])))

  pub map-same : (f : ℕ → A) (test : ℕ → Bool) (n : ℕ) (xs : List A) → test n ≡ false → xs ≡ map f (filter test (upto n)) → xs ≡ map f (filter test (upto (n + 1)))
  map-same f test n xs t e = e ∙ sym (ap (map f) (filter-next test n ∙ (rw t refl ∙ append-nil (filter test (upto n)))))

-- the outcome at a place, as it is seen
pub view-at : (xs : List Outcome) (i : ℕ) (x : Outcome) → i < length xs → x ≡ get_or xs i x → slice_get (map outcome_view xs) i ≡ Some (outcome_view x)
view-at xs i x lt e = slice_get-map outcome_view xs i ∙ ap (option_map outcome_view) (slice_get_read xs (length xs) i x refl lt e)

off-by : (on least : Bool) → place_by on least ≡ Off → on ≡ false
off-by true true e = cc
off-by true false e = cc
off-by false least e = refl

on-by : (on least : Bool) → (place_by on least ≡ Off → ⊥) → on ≡ true
on-by true least h = refl
on-by false least h = absurd (h refl)

pub off-is : (x : Place) → sameb the_type x Off ≡ true → x ≡ Off
off-is Off e = refl
off-is Member e = cc
off-is First e = cc

pub off-not : (x : Place) → sameb the_type x Off ≡ false → x ≡ Off → ⊥
off-not Off e s = cc
off-not Member e s = cc
off-not First e s = cc

-- what `blocked` tests of an item
abbrev pub blocks_test : List (Option ℕ) → List Outcome → ℕ → Bool
blocks_test leads outcomes i = not (on_cycle leads i) && is_waiting (slice_get (map outcome_view outcomes) i)

pub blocks-on : (leads : List (Option ℕ)) (outcomes : List Outcome) (i : ℕ) (o : Outcome) (pairs : _) → on_cycle leads i ≡ false → slice_get (map outcome_view outcomes) i ≡ Some (outcome_view o) → o ≡ Waiting pairs → blocks_test leads outcomes i ≡ true
blocks-on leads outcomes i o pairs off at e = rw (off, at, e) refl

not-waiting : (o : Outcome) → ((x : _) → o ≡ Waiting x → ⊥) → is_waiting (Some (outcome_view o)) ≡ false
not-waiting (Done f) h = refl
not-waiting (Failed e) h = refl
not-waiting (Waiting ps) h = absurd (h ps refl)

pub blocks-other : (leads : List (Option ℕ)) (outcomes : List Outcome) (i : ℕ) (o : Outcome) → on_cycle leads i ≡ false → slice_get (map outcome_view outcomes) i ≡ Some (outcome_view o) → ((x : _) → o ≡ Waiting x → ⊥) → blocks_test leads outcomes i ≡ false
blocks-other leads outcomes i o off at h = rw (off, at) (not-waiting o h)

pub blocks-cycle : (leads : List (Option ℕ)) (outcomes : List Outcome) (i : ℕ) → on_cycle leads i ≡ true → blocks_test leads outcomes i ≡ false
blocks-cycle leads outcomes i on = rw on refl

pub off-cycle-of : (leads : List (Option ℕ)) (i : ℕ) (x : Place) → x ≡ place_on_cycle leads i → x ≡ Off → on_cycle leads i ≡ false
off-cycle-of leads i x e o = off-by (on_cycle leads i) (is_least leads i) (sym e ∙ o)

pub on-cycle-of : (leads : List (Option ℕ)) (i : ℕ) (x : Place) → x ≡ place_on_cycle leads i → (x ≡ Off → ⊥) → on_cycle leads i ≡ true
on-cycle-of leads i x e o = on-by (on_cycle leads i) (is_least leads i) (λ s. o (e ∙ s))

-- reports that are empty

lead-in : (lay : Shape) (e : Ending) (w : ℕ) → IsShape lay → FirstIn lay e → lead_of lay e ≡ Some w → w < lay.items
lead-in lay (finished f) w s h e = cc
lead-in lay (faulted x) w s h e = cc
lead-in lay (waiting []) w s h e = cc
lead-in lay (waiting (p ∷ ps)) w s h e = let q : item_of lay p ≡ w = cc in rw (← q) (s.in_items p h)

first-in : (lay : Shape) (outcomes : List Ending) (e : Ending) → WaitsFor lay outcomes e → FirstIn lay e
first-in lay outcomes (finished f) h = tt
first-in lay outcomes (faulted x) h = tt
first-in lay outcomes (waiting []) h = tt
first-in lay outcomes (waiting (p ∷ ps)) h = (h.each 0 p (omega arith)).0

pub firsts-in : (lay : Shape) (outcomes : List Outcome) → CanReport lay (map outcome_view outcomes) → All (λ o. FirstIn lay (outcome_view o)) outcomes
firsts-in lay outcomes can k d lt =
    let e : get_or (map outcome_view outcomes) k (waiting []) ≡ outcome_view (get_or outcomes k d) = get_or-map outcome_view outcomes k d (waiting []) lt in
    first-in lay (map outcome_view outcomes) (outcome_view (get_or outcomes k d))
    (subst (WaitsFor lay (map outcome_view outcomes)) e (can.blocks k (waiting []) (omega (arith, length-map outcomes outcome_view, lt))))

pub leads-in : (lay : Shape) (outcomes : List Outcome) → IsShape lay → length outcomes ≡ lay.items → All (λ o. FirstIn lay (outcome_view o)) outcomes → LeadsIn (map (λ o. lead_of lay (outcome_view o)) outcomes)
leads-in lay outcomes s count firsts q w e =
    elim (decide (nat_lt q (length outcomes))) [
      | inl t ↦ omega (arith, length-map outcomes (λ o. lead_of lay (outcome_view o)), count, inside (ltb-true q (length outcomes) t))
      | inr f ↦ let none : get_or (map (λ o. lead_of lay (outcome_view o)) outcomes) q None ≡ None = get_or_past (map (λ o. lead_of lay (outcome_view o)) outcomes) q None (omega (arith, length-map outcomes (λ o. lead_of lay (outcome_view o)), ltb-false q (length outcomes) f)) in cc
    ]
  where
    the_first : (xs : List Outcome) (n : ℕ) → n < length xs → Outcome
    the_first [] n lt = absurd (omega arith)
    the_first (x ∷ xs) n lt = x

    inside : q < length outcomes → w < lay.items
    inside lt =
        let d : Outcome = the_first outcomes q lt in
        let at : get_or (map (λ o. lead_of lay (outcome_view o)) outcomes) q None ≡ lead_of lay (outcome_view (get_or outcomes q d)) = get_or-map (λ o. lead_of lay (outcome_view o)) outcomes q d None lt in
        lead-in lay (outcome_view (get_or outcomes q d)) w s (firsts q d lt) (sym at ∙ e)
