-- Entries held against a plan: loops over names, texts and marks, and what a plan's table tells.
use Rattle.std.proofs.Common.{◌≡◌, refl, sym, ap, ◌∙◌, arith, ℕ, zero, suc, ◌+◌, ◌-◌, ◌<◌, ◌≤◌, Bool, true, false, cond, ◌&&◌, List, [], ◌∷◌, ◌++◌, length, map, take, drop, drop_of_length-le, get_or, Option, Some, None, option_map, option_copied, nat_eq, nat_lt, eqb-true, eq-eqb, Bor, Result, Ok, Err, IfOk}
use Rattle.std.specs.Prelude.{bytes_eq, slice_set}
use Rattle.std.specs.Cmp.Lexicographic.{pointwise}
use Rattle.std.specs.List.{position_from, cons_option}
use Rattle.std.specs.Ordering.{eq_by_cmp}
use Rattle.std.specs.Option.{option_and_then, unwrap_or}
use Rattle.std.proofs.lemmas.List.{take_more, drop_more, map-append, get_or-map, length-map}
use Rattle.hk_base.specs.Bytes.{Bytes}
use Rattle.hk_base.specs.declared.text.Text.{Text}
use Rattle.hk_base.specs.Identifier.{Ident, ident_cmp}
use Rattle.hk_chain.specs.Layout.{Shape}
use Rattle.hk_chain.specs.declared.chain.Step.{Step}
use Rattle.hk_chain.specs.declared.chain.Step.TheVariants as steps
use Rattle.hk_fix.specs.Table.{Key, Traits, no_traits}
use Rattle.hk_eval.specs.PlanTable.{table_of, traits_at, pattern_texts, number_of}
use Rattle.hk_rules.specs.Pairs.{saved, saves, count_of}
use Rattle.hk_rules.specs.Plan.{find_in, pair_of, id_at, chain_at, pattern_at, matches_in, lookups}
use Rattle.hk_rules.specs.PatternText.{text_of}
use Rattle.hk_pattern.specs.declared.pattern.Pattern.{Pattern}
use Rattle.hk_pattern.specs.declared.pattern.Pattern.TheVariants.{HasNoVersion}
use Rattle.hk_rules.specs.PlanView.{PlanView}
use Rattle.hk_rules.proofs.ItemNumbers.{find_in-item}
use Rattle.hk_rules.proofs.PairNumbers.{position-at}
use Rattle.hk_store.specs.Entry.{MatchView, MarkView}
use Rattle.hk_store.specs.Marks.{mark_view}
use Rattle.hk_store.specs.declared.entry.MarkRecord.{MarkRecord}
use Rattle.hk_store.specs.declared.entry.SaveRecord.{SaveRecord}
use Rattle.hk_store.specs.declared.entry.MarkRecord.TheVariants.{Asks, Save}
use Rattle.std.specs.Cmp.{tied_itself}
use Rattle.std.specs.Ordering.{is_eq}
use Rattle.hk_base.specs.IdentTies.{ident_cmp_total, idents-same}
use Rattle.hk_eval.proofs.PlanNames.{found-at}
use Rattle.hk_rules.specs.Plan.{no_item}
use Rattle.hk_rules.specs.PlanView.{IsPlan}
use Rattle.hk_store.specs.Entry.{EntryView}
use Rattle.hk_store.specs.Traits.{sha_digests}
use Rattle.hk_reuse.specs.Entries.{entries_in}
use Rattle.hk_reuse.specs.Site.{Items}
use Rattle.hk_replay.specs.declared.record.Record.{Record}
use Rattle.hk_replay.specs.Adding.{view_at, AddsRecord}
use Rattle.hk_replay.specs.Numbered.{record_view, numbered_by}
use Rattle.hk_reuse.specs.Fits.{pattern_fits}
use Rattle.hk_replay.specs.PlanItems.{items_of}
use Rattle.hk_reuse.specs.Entries.{front, last_page, page_of_mark, blank_page, saved_names}

-- ---- what a plan's table tells

module _ (plan : PlanView) (id : Ident) (name : Bytes) where
  abbrev key : Key
  key = record { id = id; name = name }

  pub found-below : (item : ℕ) → (lookups plan).find id ≡ Some item → item < length plan.items
  unfolding lookups
  found-below item e = (find_in-item plan.items id item e).0

  pub pair-none : (lookups plan).find id ≡ None → (table_of plan).pair (record { id = id; name = name }) ≡ None
  unfolding table_of lookups
  pair-none e = ap (option_and_then (λ item. pair_of plan item name)) e

  pub pair-some : (item : ℕ) → (lookups plan).find id ≡ Some item → (table_of plan).pair (record { id = id; name = name }) ≡ (lookups plan).pair item name
  unfolding table_of lookups
  pair-some item e = ap (option_and_then (λ i. pair_of plan i name)) e

  pub traits-some : (item : ℕ) → (lookups plan).find id ≡ Some item → (table_of plan).traits id ≡ traits_at plan item
  unfolding table_of lookups
  traits-some item e = ap (λ o. unwrap_or (option_map (traits_at plan) o) no_traits) e

pub layout-items : (plan : PlanView) → (lookups plan).layout.items ≡ length plan.items
unfolding lookups
layout-items plan = length-map plan.items count_of

pub layout-same : (plan : PlanView) → (table_of plan).layout ≡ (lookups plan).layout
unfolding table_of lookups
layout-same plan = refl

pub table-items : (plan : PlanView) → (table_of plan).layout.items ≡ length plan.items
table-items plan = ap (λ (l : Shape). l.items) (layout-same plan) ∙ layout-items plan

pub id-same : (plan : PlanView) (item : ℕ) → (lookups plan).id item ≡ id_at plan item
unfolding lookups
id-same plan item = refl

pub pattern-same : (plan : PlanView) (n : ℕ) → (lookups plan).pattern n ≡ pattern_at plan n
unfolding lookups
pattern-same plan n = refl

pub matches-same : (plan : PlanView) (n : ℕ) → (lookups plan).matches n ≡ matches_in plan.items (pattern_at plan n)
unfolding lookups
matches-same plan n = refl

pub traits-now : (plan : PlanView) (item : ℕ) → (let t : Traits = record { target = (lookups plan).target_of item; meta = (lookups plan).meta item } in t) ≡ traits_at plan item
unfolding lookups
traits-now plan item = refl

pub copied-map : {A : Type 0} (o : Option (Bor A)) → option_copied o ≡ option_map (λ t. t.now) o
copied-map None = refl
copied-map (Some b) = refl

-- ---- lists

pub position-here : {A : Type 0} (t : A → Bool) (n : ℕ) (xs : List A) (i : ℕ) (x : A) → i < length xs → x ≡ get_or xs i x → t x ≡ true → position_from t n (drop i xs) ≡ Some n
position-here t n xs i x lt here hit = ap (position_from t n) (drop_more xs i x lt ∙ ap (λ y. y ∷ drop (i + 1) xs) (sym here)) ∙ ap (λ b. cond b (Some n) (position_from t (n + 1) (drop (i + 1) xs))) hit

pub pointwise-turn : {A B D : Type 0} (E : B → D → Bool) (f : A → B) (xs : List A) (ys : List D) (i : ℕ) (x : A) (y : D) → i < length xs → i < length ys → x ≡ get_or xs i x → y ≡ get_or ys i y → pointwise E (map f (drop i xs)) (drop i ys) ≡ (E (f x) y && pointwise E (map f (drop (i + 1) xs)) (drop (i + 1) ys))
pointwise-turn E f xs ys i x y lt less here there =
    ap (λ l. pointwise E (map f l) (drop i ys)) (drop_more xs i x lt ∙ ap (λ z. z ∷ drop (i + 1) xs) (sym here))
    ∙ ap (pointwise E (f x ∷ map f (drop (i + 1) xs))) (drop_more ys i y less ∙ ap (λ z. z ∷ drop (i + 1) ys) (sym there))

pub map-turn : {A B : Type 0} (f : A → B) (xs : List A) (i : ℕ) (x : A) → i < length xs → x ≡ get_or xs i x → map f (take (i + 1) xs) ≡ map f (take i xs) ++ f x ∷ []
map-turn f xs i x lt here = ap (map f) (take_more xs i x lt ∙ ap (λ y. take i xs ++ y ∷ []) (sym here)) ∙ map-append f (take i xs) (x ∷ [])

-- the same, with a default
pub map-more : {A B : Type 0} (f : A → B) (xs : List A) (i : ℕ) (d : A) → i < length xs → map f (take (i + 1) xs) ≡ map f (take i xs) ++ f (get_or xs i d) ∷ []
map-more f xs i d lt = ap (map f) (take_more xs i d lt) ∙ map-append f (take i xs) (get_or xs i d ∷ [])

-- one more at the end
pub get-pushed : {A : Type 0} (xs : List A) (x d : A) (P : ℕ → A) → ((i : ℕ) → i < length xs → get_or xs i d ≡ P i) → x ≡ P (length xs) → (i : ℕ) → i < length xs + 1 → get_or (xs ++ x ∷ []) i d ≡ P i
get-pushed [] x d P h e zero lt = e
get-pushed [] x d P h e (suc i) lt = absurd (omega (arith, lt))
get-pushed (y ∷ xs) x d P h e zero lt = h 0 (omega arith)
get-pushed (y ∷ xs) x d P h e (suc i) lt = get-pushed xs x d (λ j. P (suc j)) (λ j l. h (suc j) (omega (arith, l))) e i (omega (arith, lt))

saves-append : (a b : List Step) → saves (a ++ b) ≡ saves a ++ saves b
saves-append [] b = refl
saves-append (s ∷ a) b = at (saved s) (saves-append a b)
  where
    at : (o : Option Bytes) → saves (a ++ b) ≡ saves a ++ saves b → cons_option o (saves (a ++ b)) ≡ cons_option o (saves a) ++ saves b
    at None e = e
    at (Some name) e = ap (λ l. name ∷ l) e

-- one more step of a chain
pub saves-turn : (xs : List Step) (i : ℕ) (x : Step) → i < length xs → x ≡ get_or xs i x → saves (take (i + 1) xs) ≡ saves (take i xs) ++ saves (x ∷ [])
saves-turn xs i x lt here = ap saves (take_more xs i x lt ∙ ap (λ y. take i xs ++ y ∷ []) (sym here)) ∙ saves-append (take i xs) (x ∷ [])

pub no-save : (s : Step) → ((name : Text) → s ≡ steps.Save name → ⊥) → saves (s ∷ []) ≡ []
no-save steps.Body f = refl
no-save steps.Str f = refl
no-save steps.Copy f = refl
no-save steps.TemplateBody f = refl
no-save (steps.Make text) f = refl
no-save (steps.Load id name) f = refl
no-save (steps.Concat n) f = refl
no-save (steps.Apply id context) f = refl
no-save (steps.SelfApply context) f = refl
no-save (steps.Save name) f = absurd (f name refl)
no-save steps.Relativize f = refl

-- one more mark of an entry
pub names-turn : (xs : List MarkRecord) (i : ℕ) (x : MarkRecord) → i < length xs → x ≡ get_or xs i x → saved_names (map mark_view (drop i xs)) ≡ saved_names (mark_view x ∷ map mark_view (drop (i + 1) xs))
names-turn xs i x lt here = ap (λ l. saved_names (map mark_view l)) (drop_more xs i x lt ∙ ap (λ y. y ∷ drop (i + 1) xs) (sym here))

nothing-left : {A : Type 0} (l : List A) (i : ℕ) → length l ≤ i → drop i l ≡ []
nothing-left l i le = drop_of_length-le l le

-- more is saved than is wanted
pub names-past : (names wanted : List Bytes) (at : ℕ) (name : Bytes) (rest : List Bytes) → names ≡ name ∷ rest → length wanted ≤ at → pointwise bytes_eq names (drop at wanted) ≡ false
names-past names wanted at name rest e le = ap (λ l. pointwise bytes_eq l (drop at wanted)) e ∙ ap (pointwise bytes_eq (name ∷ rest)) (nothing-left wanted at le)

pub names-step : (names wanted : List Bytes) (at : ℕ) (name want : Bytes) (rest : List Bytes) → names ≡ name ∷ rest → at < length wanted → want ≡ get_or wanted at want → pointwise bytes_eq names (drop at wanted) ≡ (bytes_eq name want && pointwise bytes_eq rest (drop (at + 1) wanted))
names-step names wanted at name want rest e lt here = ap (λ l. pointwise bytes_eq l (drop at wanted)) e ∙ ap (pointwise bytes_eq (name ∷ rest)) (drop_more wanted at want lt ∙ ap (λ z. z ∷ drop (at + 1) wanted) (sym here))

-- ---- the last mark, and those before it

pub front-map : {A : Type 0} (f : A → MarkView) (xs : List A) → map f (take (length xs - 1) xs) ≡ front (map f xs)
front-map f [] = refl
front-map f (x ∷ []) = refl
front-map f (x ∷ y ∷ ys) =
    let e : length (x ∷ y ∷ ys) - 1 ≡ suc (length (y ∷ ys) - 1) = omega arith in
    ap (λ n. map f (take n (x ∷ y ∷ ys))) e ∙ ap (λ l. f x ∷ l) (front-map f (y ∷ ys))

last-at : (marks : List MarkView) (n : ℕ) (m : MarkView) → length marks ≡ n + 1 → m ≡ get_or marks n m → last_page marks ≡ page_of_mark m
last-at [] n m e h = absurd (omega (arith, e))
last-at (x ∷ []) zero m e h = ap page_of_mark (sym h)
last-at (x ∷ []) (suc n) m e h = absurd (omega (arith, e))
last-at (x ∷ y ∷ marks) zero m e h = absurd (omega (arith, e))
last-at (x ∷ y ∷ marks) (suc n) m e h = last-at (y ∷ marks) n m (omega (arith, e)) h

pub last-mark : (xs : List MarkRecord) (n : ℕ) (x : MarkRecord) → length xs ≡ n + 1 → x ≡ get_or xs n x → last_page (map mark_view xs) ≡ page_of_mark (mark_view x)
last-mark xs n x e here = last-at (map mark_view xs) n (mark_view x) (omega (arith, e, length-map xs mark_view)) (ap mark_view here ∙ sym (get_or-map mark_view xs n x (mark_view x) (omega (arith, e))))

pub no-marks : (xs : List MarkRecord) → length xs ≡ 0 → last_page (map mark_view xs) ≡ blank_page
no-marks [] e = refl
no-marks (x ∷ xs) e = absurd (omega (arith, e))

pub not-save : (m : MarkRecord) → ((save : SaveRecord) → m ≡ Save save → ⊥) → page_of_mark (mark_view m) ≡ blank_page
not-save (Asks asks) f = refl
not-save (Save save) f = absurd (f save refl)

pub if-ok : {A E : Type 0} (r : Result A E) (P Q : A → Type 0) → ((x : A) → P x → Q x) → IfOk r P → IfOk r Q
if-ok (Ok x) P Q f h = f x h
if-ok (Err e) P Q f h = h

-- ---- recorded patterns

pub numbers-same : (plan : PlanView) (texts : List Bytes) (ms : List MatchView) → texts ≡ pattern_texts plan → map (λ m. unwrap_or (position_from (λ own. bytes_eq own m.text) 0 texts) 0) ms ≡ map (λ m. (table_of plan).number m.text) ms
unfolding table_of
numbers-same plan texts ms e = ap (λ l. map (λ (m : MatchView). unwrap_or (position_from (λ own. bytes_eq own m.text) 0 l) 0) ms) e

pub chain-same : (plan : PlanView) (item : ℕ) → (lookups plan).chain item ≡ chain_at plan item
unfolding lookups
chain-same plan item = refl

none-fits : (ps : List Pattern) (by : Bytes) (rest : Bool) → position_from (λ own. bytes_eq own by) 0 (map text_of ps) ≡ None → ((nat_lt 0 (length ps) && bytes_eq (text_of (get_or ps 0 HasNoVersion)) by) && rest) ≡ false
none-fits [] by rest e = refl
none-fits (p ∷ ps) by rest e =
    let less : nat_lt 0 (length (p ∷ ps)) ≡ true = grind arith in
    ap (λ b. (b && bytes_eq (text_of p) by) && rest) less ∙ at (bytes_eq (text_of p) by) e
  where
    at : (b : Bool) → cond b (Some 0) (position_from (λ own. bytes_eq own by) 1 (map text_of ps)) ≡ None → ((true && b) && rest) ≡ false
    at true h = cc
    at false h = refl

pub fits-none : (plan : PlanView) (m : MatchView) → position_from (λ own. bytes_eq own m.text) 0 (pattern_texts plan) ≡ None → pattern_fits (items_of plan) m ≡ false
unfolding table_of
fits-none plan m e =
    let number : number_of plan m.text ≡ 0 = ap (λ o. unwrap_or o 0) e in
    ap (λ n. (nat_lt n (length plan.patterns) && bytes_eq (text_of (pattern_at plan n)) m.text) && pointwise (eq_by_cmp ident_cmp) (map (id_at plan) (matches_in plan.items (pattern_at plan n))) m.matches) number
    ∙ none-fits plan.patterns m.text (pointwise (eq_by_cmp ident_cmp) (map (id_at plan) (matches_in plan.items (pattern_at plan 0))) m.matches) e

pub place-below : (plan : PlanView) (by : Bytes) (n : ℕ) → position_from (λ own. bytes_eq own by) 0 (pattern_texts plan) ≡ Some n → n < length plan.patterns
place-below plan by n e = let at = position-at (λ own. bytes_eq own by) 0 (pattern_texts plan) n e in omega (arith, at.1, at.2, length-map plan.patterns text_of)

pub fits-some : (plan : PlanView) (m : MatchView) (n : ℕ) → position_from (λ own. bytes_eq own m.text) 0 (pattern_texts plan) ≡ Some n → pattern_fits (items_of plan) m ≡ pointwise (eq_by_cmp ident_cmp) (map (id_at plan) (matches_in plan.items (pattern_at plan n))) m.matches
unfolding table_of
fits-some plan m n e =
    let at = position-at (λ own. bytes_eq own m.text) 0 (pattern_texts plan) n e in
    let lt : n < length plan.patterns = place-below plan m.text n e in
    let number : number_of plan m.text ≡ n = ap (λ o. unwrap_or o 0) e in
    let here : at.0 ≡ n = omega (arith, at.1) in
    let text : bytes_eq (text_of (pattern_at plan n)) m.text ≡ true = ap (λ t. bytes_eq t m.text) (sym (get_or-map text_of plan.patterns n HasNoVersion [] lt) ∙ ap (λ k. get_or (pattern_texts plan) k []) (sym here)) ∙ at.3 [] in
    let less : nat_lt n (length plan.patterns) ≡ true = grind (arith, lt) in
    let rest = pointwise (eq_by_cmp ident_cmp) (map (id_at plan) (matches_in plan.items (pattern_at plan n))) m.matches in
    ap (λ k. (nat_lt k (length plan.patterns) && bytes_eq (text_of (pattern_at plan k)) m.text) && pointwise (eq_by_cmp ident_cmp) (map (id_at plan) (matches_in plan.items (pattern_at plan k))) m.matches) number
    ∙ (ap (λ b. (b && bytes_eq (text_of (pattern_at plan n)) m.text) && rest) less ∙ ap (λ b. (true && b) && rest) text)

-- ---- one more entry's record

get-set : {A : Type 0} (xs : List A) (i j : ℕ) (x d : A) → i < length xs → get_or (slice_set xs i x) j d ≡ cond (nat_eq i j) x (get_or xs j d)
get-set [] i j x d lt = absurd (omega (arith, lt))
get-set (y ∷ xs) zero zero x d lt = refl
get-set (y ∷ xs) zero (suc j) x d lt = let ne : nat_eq 0 (suc j) ≡ false = grind arith in sym (ap (λ b. cond b x (get_or xs j d)) ne)
get-set (y ∷ xs) (suc i) zero x d lt = let ne : nat_eq (suc i) 0 ≡ false = grind arith in sym (ap (λ b. cond b x y) ne)
get-set (y ∷ xs) (suc i) (suc j) x d lt = let same : nat_eq i j ≡ nat_eq (suc i) (suc j) = grind arith in get-set xs i j x d (omega (arith, lt)) ∙ ap (λ b. cond b x (get_or xs j d)) same

module _ (plan : PlanView) (is : IsPlan plan) (e : EntryView) where
  -- an entry of no item, or of another one
  other-none : (i : ℕ) → i < length plan.items → (lookups plan).find e.id ≡ None → eq_by_cmp ident_cmp (id_at plan i) e.id ≡ false
  unfolding lookups
  other-none i lt none = at (eq_by_cmp ident_cmp (id_at plan i) e.id) refl
    where
      at : (b : Bool) → eq_by_cmp ident_cmp (id_at plan i) e.id ≡ b → eq_by_cmp ident_cmp (id_at plan i) e.id ≡ false
      at false h = h
      at true h = let z : Some i ≡ None = sym (found-at plan is i lt) ∙ (ap (find_in plan.items) (idents-same (id_at plan i) e.id h) ∙ none) in cc

  other-some : (i item : ℕ) → i < length plan.items → (lookups plan).find e.id ≡ Some item → nat_eq item i ≡ false → eq_by_cmp ident_cmp (id_at plan i) e.id ≡ false
  unfolding lookups
  other-some i item lt found apart = at (eq_by_cmp ident_cmp (id_at plan i) e.id) refl
    where
      at : (b : Bool) → eq_by_cmp ident_cmp (id_at plan i) e.id ≡ b → eq_by_cmp ident_cmp (id_at plan i) e.id ≡ false
      at false h = h
      at true h =
          let z : Some i ≡ Some item = sym (found-at plan is i lt) ∙ (ap (find_in plan.items) (idents-same (id_at plan i) e.id h) ∙ found) in
          let same : item ≡ i = cc in
          let clash : nat_eq item i ≡ true = eq-eqb item i same in
          cc

  own-some : (i item : ℕ) → (lookups plan).find e.id ≡ Some item → nat_eq item i ≡ true → eq_by_cmp ident_cmp (id_at plan i) e.id ≡ true
  unfolding lookups
  own-some i item found same =
      let own : id_at plan item ≡ e.id = (find_in-item plan.items e.id item found).1 no_item in
      ap (λ d. eq_by_cmp ident_cmp d e.id) (ap (id_at plan) (sym (eqb-true item i same)) ∙ own) ∙ ap is_eq (tied_itself ident_cmp_total e.id)

  pub adds-none : (old : List (Option Record)) → (lookups plan).find e.id ≡ None → AddsRecord (items_of plan) e old old
  adds-none old none i lt = sym (ap (λ b. cond b (numbered_by sha_digests (items_of plan) i (Some e)) (view_at old i)) (other-none i (omega (arith, lt, table-items plan)) none))

  pub adds-some : (old : List (Option Record)) (item : ℕ) (made : Option Record) → length old ≡ length plan.items → (lookups plan).find e.id ≡ Some item → item < length plan.items → option_map record_view made ≡ numbered_by sha_digests (items_of plan) item (Some e) → AddsRecord (items_of plan) e old (slice_set old item made)
  adds-some old item made count found below is_made i lt =
      ap (option_map record_view) (get-set old item i made None (omega (arith, below, count)))
      ∙ at (nat_eq item i) refl
    where
      at : (b : Bool) → nat_eq item i ≡ b → option_map record_view (cond b made (get_or old i None)) ≡ cond (eq_by_cmp ident_cmp (id_at plan i) e.id) (numbered_by sha_digests (items_of plan) i (Some e)) (view_at old i)
      at true h = is_made ∙ (ap (λ k. numbered_by sha_digests (items_of plan) k (Some e)) (eqb-true item i h) ∙ sym (ap (λ b. cond b (numbered_by sha_digests (items_of plan) i (Some e)) (view_at old i)) (own-some i item found h)))
      at false h = sym (ap (λ b. cond b (numbered_by sha_digests (items_of plan) i (Some e)) (view_at old i)) (other-some i item (omega (arith, lt, table-items plan)) found h))

numbered-cond : (items : Items) (i : ℕ) (b : Bool) (e : EntryView) (o : Option EntryView) → cond b (numbered_by sha_digests items i (Some e)) (numbered_by sha_digests items i o) ≡ numbered_by sha_digests items i (cond b (Some e) o)
numbered-cond items i true e o = refl
numbered-cond items i false e o = refl

-- one more of a store's entries, from the last to the first
pub adds-turn : (plan : PlanView) (entries : List EntryView) (at : ℕ) (e : EntryView) (old new : List (Option Record)) → at < length entries → e ≡ get_or entries at e → AddsRecord (items_of plan) e old new → ((i : ℕ) → i < length plan.items → view_at old i ≡ numbered_by sha_digests (items_of plan) i (entries_in (drop (at + 1) entries) (id_at plan i))) → (i : ℕ) → i < length plan.items → view_at new i ≡ numbered_by sha_digests (items_of plan) i (entries_in (drop at entries) (id_at plan i))
adds-turn plan entries at e old new lt here adds was i less =
    adds i (omega (arith, less, table-items plan))
    ∙ (ap (cond (eq_by_cmp ident_cmp (id_at plan i) e.id) (numbered_by sha_digests (items_of plan) i (Some e))) (was i less)
    ∙ (numbered-cond (items_of plan) i (eq_by_cmp ident_cmp (id_at plan i) e.id) e (entries_in (drop (at + 1) entries) (id_at plan i))
    ∙ ap (λ l. numbered_by sha_digests (items_of plan) i (entries_in l (id_at plan i))) (sym (drop_more entries at e lt ∙ ap (λ x. x ∷ drop (at + 1) entries) (sym here)))))
