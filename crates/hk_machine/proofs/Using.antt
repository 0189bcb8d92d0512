-- What a machine has used, and an answer that comes in.
use Rattle.std.proofs.Common.{◌≡◌, refl, sym, ap, ◌∙◌, subst, arith, ℕ, suc, ◌+◌, ◌-◌, ◌≤◌, Bool, true, false, cond, ◌||◌, not, inl, inr, List, [], ◌∷◌, ◌++◌, length, length-append, map, take, filter, Option, Some, None, is_some, nat_eq, eqb-true, option_to_list, Contains, Vec}
use Rattle.std.proofs.Math.Path.{fun_ext}
use Rattle.std.specs.List.{AllByRecursion}
use Rattle.std.specs.Vec.{vec_capacity}
use Rattle.std.specs.declared.alloc.Global.{Global}
use Rattle.hk_chain.specs.declared.page.Page.{Page}
use Rattle.hk_chain.specs.declared.numbers.PairNo.{PairNo}
use Rattle.hk_fix.specs.Calls.{Lists}
use Rattle.hk_fix.specs.Facts.{is_in}
use Rattle.hk_fix.specs.Meaning.{told_page}
use Rattle.hk_fix.specs.Pages.{Pages, tell}
use Rattle.hk_fix.specs.Run.{Save, saves_of}
use Rattle.hk_fix.specs.Task.{Task, Run, run}
use Rattle.hk_fix.proofs.Orders.{or_cases, or_right}
use Rattle.hk_fix.proofs.Trails.{or_left}
use Rattle.hk_fix.proofs.Steps.{contains-in, in-contains}
use Rattle.hk_rules.specs.Plan.{lookups}
use Rattle.hk_rules.specs.PlanView.{PlanView}
use Rattle.hk_machine.specs.Chain.{chain_task}
use Rattle.hk_machine.specs.Keeping.{Keeps, HasRoom, HasCome}
use Rattle.hk_machine.specs.Machine.{plan_run, view_of, meaning_of}
use Rattle.hk_eval.specs.Told.{ToldView, told_pages, is_listed}
use Rattle.hk_machine.specs.Working.{left}
use Rattle.hk_machine.specs.declared.way.Way.{Way}
use Rattle.hk_machine.proofs.Coming.{came-run, came-answered}
use Rattle.hk_eval.proofs.Running.{saves-append}

abbrev pair_of : Save → ℕ
pair_of s = s.pair

first-pairs : (saves rest : List Save) (past last : List ℕ) → map pair_of saves ≡ past ++ last → map pair_of (take (length past) (saves ++ rest)) ≡ past
first-pairs saves rest [] last e = refl
first-pairs [] rest (p ∷ past) last e = cc
first-pairs (s ∷ saves) rest (p ∷ past) last e =
    let head : s.pair ≡ p = cc in
    let tail : map pair_of saves ≡ past ++ last = cc in
    rw head (ap (λ l. p ∷ l) (first-pairs saves rest past last tail))

length-map-pairs : (saves : List Save) → length (map pair_of saves) ≡ length saves
length-map-pairs [] = refl
length-map-pairs (s ∷ saves) = ap suc (length-map-pairs saves)

less-one : (last : Option ℕ) (n : ℕ) → (n + length (option_to_list last)) - cond (is_some last) 1 0 ≡ n
less-one None n = omega arith
less-one (Some p) n = omega arith

module _ (plan : PlanView) (item : ℕ) where
  abbrev T : Task Page
  T = chain_task (lookups plan) item

  -- the pairs that were given before the last poll
  given-pairs : (way : Way) (has : HasCome (lookups plan) item way) → map pair_of (take (way.given - cond (is_some way.last) 1 0) (saves_of (run (chain_task (lookups plan) item) (told_pages way.told)).log)) ≡ has.came.past
  given-pairs way has =
      let k : Pages = told_pages way.told in
      let came = has.came in
      let all : saves_of (run T k).log ≡ saves_of came.log ++ saves_of (run has.rest k).log = ap (λ (r : Run Page). saves_of r.log) (came-run T k has.rest has.facts way.given way.last way.used.items came) ∙ saves-append came.log (run has.rest k).log in
      let count : way.given ≡ length came.past + length (option_to_list way.last) = came.count ∙ (sym (length-map-pairs (saves_of came.log)) ∙ (ap length came.saves ∙ length-append came.past (option_to_list way.last))) in
      let few : way.given - cond (is_some way.last) 1 0 ≡ length came.past = ap (λ n. n - cond (is_some way.last) 1 0) count ∙ less-one way.last (length came.past) in
      ap (λ l. map pair_of (take (way.given - cond (is_some way.last) 1 0) l)) all ∙ (ap (λ n. map pair_of (take n (saves_of came.log ++ saves_of (run has.rest k).log))) few ∙ first-pairs (saves_of came.log) (saves_of (run has.rest k).log) came.past (option_to_list way.last) came.saves)

  pub used-lists : (way : Way) (spent : Bool) → HasCome (lookups plan) item way → Lists plan_run (meaning_of (view_of plan item way spent)) way.used.items
  used-lists way spent has p =
      let past : List ℕ = has.came.past in
      let same : map pair_of (take (way.given - cond (is_some way.last) 1 0) (saves_of (run T (told_pages way.told)).log)) ≡ past = given-pairs way has in (
        λ c. elim (or_cases (is_some (told_pages way.told p)) (is_in past p) (sym (has.came.used p) ∙ contains-in way.used.items p c)) [
          | inl t ↦ inl t
          | inr t ↦ inr (subst (λ (l : List ℕ). Contains l p) (sym same) (in-contains past p t))
        ],
        λ d. in-contains way.used.items p (has.came.used p ∙ elim d [
          | inl t ↦ or_left (is_some (told_pages way.told p)) (is_in past p) t
          | inr t ↦ or_right (is_some (told_pages way.told p)) (is_in past p) (contains-in past p (subst (λ (l : List ℕ). Contains l p) same t))
        ]),
      )

  -- a page is answered
  module _ (way : Way) (pair : ℕ) (page : Page) (told : ToldView) (awaits : List ℕ) (used : Vec PairNo Global) (room : HasRoom way) (open_ : Contains way.awaits pair) (pages : (q : ℕ) → told_pages told q ≡ tell (told_pages way.told) pair page q) (listed : (q : ℕ) → is_listed way.told q ≡ true → is_listed told q ≡ true) (out : awaits ≡ filter (λ q. not (nat_eq pair q)) way.awaits) (put : used.items ≡ way.used.items ++ pair ∷ []) where
    abbrev answered_way : Way
    answered_way = record { work = way.work; told = told; awaits = awaits; given = way.given; last = way.last; used = used; is_ended = way.is_ended }

    untold : told_pages way.told pair ≡ None
    untold = at way.awaits room.untold (contains-in way.awaits pair open_)
      where
        at : (ps : List ℕ) → AllByRecursion (λ p. told_pages way.told p ≡ None) ps → is_in ps pair ≡ true → told_pages way.told pair ≡ None
        at [] h e = cc
        at (p ∷ ps) h e = elim (or_cases (nat_eq pair p) (is_in ps pair) e) [
          | inl t ↦ subst (λ (q : ℕ). told_pages way.told q ≡ None) (sym (eqb-true pair p t)) h.0
          | inr t ↦ at ps h.1 t
        ]

    pub answer-keeps : Keeps plan item way → Keeps plan item answered_way
    answer-keeps keeps =
        record {
          came = came-answered T (told_pages way.told) (told_pages told) (left (lookups plan) item way.work) way.work.notes way.given way.last way.used.items used.items pair page untold pages put keeps.came;
          within = keeps.within;
          bound = keeps.bound;
        }

    pub answer-come : HasCome (lookups plan) item way → HasCome (lookups plan) item answered_way
    answer-come has =
        record {
          rest = has.rest;
          facts = has.facts;
          came = came-answered T (told_pages way.told) (told_pages told) has.rest has.facts way.given way.last way.used.items used.items pair page untold pages put has.came;
        }

    pub answer-meaning : (spent : Bool) → meaning_of (view_of plan item answered_way spent) ≡ told_page (meaning_of (view_of plan item way spent)) pair page
    answer-meaning spent =
        let f : told_pages told ≡ tell (told_pages way.told) pair page = fun_ext pages in
        λ i. record { common = plan; item = item; told = f i; given = way.given; awaits = out i; has_ended = way.is_ended; just_saved = is_some way.last; is_spent = spent }

    abbrev others : List ℕ → List ℕ
    others ps = filter (λ q. not (nat_eq pair q)) ps

    -- what holds of a member that isn't the pair
    each-other : (Q R : ℕ → Type 0) → ((q : ℕ) → nat_eq pair q ≡ false → Q q → R q) → (ps : List ℕ) → AllByRecursion Q ps → AllByRecursion R (filter (λ q. not (nat_eq pair q)) ps)
    each-other Q R f [] h = tt
    each-other Q R f (p ∷ ps) h =
        elim (nat_eq pair p) as (λ b. nat_eq pair p ≡ b → AllByRecursion R (cond (not b) (p ∷ others ps) (others ps))) [
          | true ↦ λ e. each-other Q R f ps h.1
          | false ↦ λ e. (f p e h.0, each-other Q R f ps h.1)
        ] refl

    no-more : (ps : List ℕ) → length (filter (λ q. not (nat_eq pair q)) ps) ≤ length ps
    no-more [] = omega arith
    no-more (p ∷ ps) = elim (nat_eq pair p) as (λ b. length (cond (not b) (p ∷ others ps) (others ps)) ≤ length (p ∷ ps)) [ true ↦ omega (arith, no-more ps) | false ↦ omega (arith, no-more ps) ]

    one-less : (ps : List ℕ) → is_in ps pair ≡ true → length (filter (λ q. not (nat_eq pair q)) ps) + 1 ≤ length ps
    one-less [] e = cc
    one-less (p ∷ ps) e =
        elim (nat_eq pair p) as (λ b. nat_eq pair p ≡ b → length (cond (not b) (p ∷ others ps) (others ps)) + 1 ≤ length (p ∷ ps)) [
          | true ↦ λ t. omega (arith, no-more ps)
          | false ↦ λ t. let i : is_in ps pair ≡ true = sym (ap (λ b. b || is_in ps pair) t) ∙ e in omega (arith, one-less ps i)
        ] refl

    pub answer-room : vec_capacity way.used ≤ vec_capacity used → HasRoom answered_way
    answer-room more =
        record {
          listed = subst (AllByRecursion (λ q. is_listed told q ≡ true)) (sym out) (each-other (λ q. is_listed way.told q ≡ true) (λ q. is_listed told q ≡ true) (λ q e h. listed q h) way.awaits room.listed);
          untold = subst (AllByRecursion (λ q. told_pages told q ≡ None)) (sym out) (each-other (λ q. told_pages way.told q ≡ None) (λ q. told_pages told q ≡ None) (λ q e h. pages q ∙ (ap (λ b. cond b (Some page) (told_pages way.told q)) e ∙ h)) way.awaits room.untold);
          room = λ some.
              let less : length (others way.awaits) + 1 ≤ length way.awaits = one-less way.awaits (contains-in way.awaits pair open_) in
              let fits : length way.used.items + length way.awaits ≤ vec_capacity way.used = room.room (omega arith) in
              omega (arith, ap length out, ap length put, length-append way.used.items (pair ∷ []));
        }
