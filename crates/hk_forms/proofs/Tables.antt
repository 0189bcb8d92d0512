-- Tables and arrays as `toml` holds them, beside what they are read as.
use Rattle.std.proofs.Common.{◌≡◌, ◌≢◌, ℕ, ◌+◌, ◌<◌, ◌≤◌, nat_lt, List, [], ◌∷◌, ◌++◌, ◌&&◌, Bool, true, false, cond, map, refl, ap, sym, ◌∙◌, length, String, Global, string_bytes, Option, Some, None, option_map, drop, get_or, nat_eq, append_assoc, arith}
use Rattle.std.specs.List.{list_all, slice_get}
use Rattle.std.specs.BTreeMap.{BTreeMap, keys}
use Rattle.std.proofs.lemmas.Bool.{ne_eqb, cond-false, lt-ltb, le-ltb}
use Rattle.toml.specs.declared.value.Value.{Value}
use Rattle.toml.specs.Data.{Data, get_member}
use Rattle.toml.specs.View.{table_view, members_view, items_view, view}
use Rattle.toml.proofs.Views.{items_view-drop}
use Rattle.hk_base.specs.Bytes.{Bytes}
use Rattle.hk_forms.specs.Members.{keys_pass, only, count_members, pair_of, both, count_items, cons, each, listed, two}

abbrev pub Entry : Type 0
Entry = String Global × Value

pub keys_pass-entries : (p : Bytes → Bool) (m : BTreeMap (String Global) Value) → list_all (λ k. p (string_bytes k)) (keys m) ≡ keys_pass p (table_view m)
keys_pass-entries p m = by m.entries
  where
    by : (es : List Entry) → list_all (λ k. p (string_bytes k)) (map (λ e. e.0) es) ≡ keys_pass p (members_view es)
    by [] = refl
    by (e ∷ es) = ap (λ b. p (string_bytes e.0) && b) (by es)

pub only-other : (es : List Entry) → length es ≢ 1 → None ≡ only (members_view es)
only-other [] h = refl
only-other (e ∷ []) h = absurd (h refl)
only-other (e ∷ f ∷ es) h = refl

entry_of : Option Entry → Option (Bytes × Data)
entry_of o = option_map (λ e. (string_bytes e.0, view e.1)) o

pub only-one : (es : List Entry) (k : String Global) (v : Value) → length es ≡ 1 → slice_get es 0 ≡ Some (k, v) → Some (string_bytes k, view v) ≡ only (members_view es)
unfolding entry_of
only-one [] k v h g = absurd (omega arith)
only-one (e ∷ []) k v h g = ap entry_of (sym g)
only-one (e ∷ f ∷ es) k v h g = absurd (omega arith)

pub count_members-view : (es : List Entry) → count_members (members_view es) ≡ length es
count_members-view [] = refl
count_members-view (e ∷ es) = omega (arith, count_members-view es)

pub both-other : (es : List Entry) (k l : Bytes) → length es ≢ 2 → None ≡ both k l (members_view es)
both-other es k l h = sym (cond-false (nat_eq (count_members (members_view es)) 2) _ _ (ne_eqb _ _ (λ e. h (sym (count_members-view es) ∙ e))))

pub both-two : (es : List Entry) (k l : Bytes) → length es ≡ 2 → pair_of (get_member k (members_view es)) (get_member l (members_view es)) ≡ both k l (members_view es)
both-two es k l h = sym (ap (λ n. cond (nat_eq n 2) (pair_of (get_member k (members_view es)) (get_member l (members_view es))) None) (count_members-view es ∙ h))

pub count_items-view : (vs : List Value) → count_items (items_view vs) ≡ length vs
count_items-view [] = refl
count_items-view (v ∷ vs) = omega (arith, count_items-view vs)

-- a list is read where it isn't too long
abbrev choice : {X : Type 0} → Bool → (Data → Option X) → List Value → Option (List X)
choice many f vs = cond many None (each f (items_view vs))

pub listed-choice : {X : Type 0} (f : Data → Option X) (vs : List Value) (many : Bool) → nat_lt 1024 (length vs) ≡ many → cond many None (each f (items_view vs)) ≡ listed f (items_view vs)
listed-choice f vs many m = ap (λ b. choice b f vs) (sym m ∙ ap (nat_lt 1024) (sym (count_items-view vs)))

pub listed-long : {X : Type 0} (f : Data → Option X) (vs : List Value) → 1024 < length vs → None ≡ listed f (items_view vs)
listed-long f vs h = listed-choice f vs true (lt-ltb _ _ h)

pub listed-each : {X : Type 0} (f : Data → Option X) (vs : List Value) → length vs ≤ 1024 → each f (items_view vs) ≡ listed f (items_view vs)
listed-each f vs h = listed-choice f vs false (le-ltb _ _ h)

pub two-other : (vs : List Value) → length vs ≢ 2 → None ≡ two (items_view vs)
two-other [] h = refl
two-other (v ∷ []) h = refl
two-other (v ∷ w ∷ []) h = absurd (h refl)
two-other (v ∷ w ∷ x ∷ vs) h = refl

pub two-both : (vs : List Value) (a b : Value) → length vs ≡ 2 → a ≡ get_or vs 0 a → b ≡ get_or vs 1 b → Some (view a, view b) ≡ two (items_view vs)
two-both [] a b h p q = absurd (omega arith)
two-both (v ∷ []) a b h p q = absurd (omega arith)
two-both (v ∷ w ∷ []) a b h p q = λ i. Some (view (p i), view (q i))
two-both (v ∷ w ∷ x ∷ vs) a b h p q = absurd (omega arith)

-- values in front of those that were read, where they were
abbrev pub prepend : {X : Type 0} → List X → Option (List X) → Option (List X)
prepend xs (Some ys) = Some (xs ++ ys)
prepend xs None = None

pub prepend-none : {X : Type 0} (r : Option (List X)) → prepend [] r ≡ r
prepend-none (Some ys) = refl
prepend-none None = refl

prepend-cons : {X : Type 0} (xs : List X) (x : X) (r : Option (List X)) → prepend xs (cons (Some x) r) ≡ prepend (xs ++ x ∷ []) r
prepend-cons xs x None = refl
prepend-cons xs x (Some ys) = ap Some (sym (append_assoc xs (x ∷ []) ys))

-- one more item is read
pub each-turn : {X : Type 0} (f : Data → Option X) (xs : List X) (x : X) (vs : List Value) (i : ℕ) (d : Value) (all : Option (List X)) → i < length vs → Some x ≡ f (view (get_or vs i d)) → prepend xs (each f (items_view (drop i vs))) ≡ all → prepend (xs ++ x ∷ []) (each f (items_view (drop (i + 1) vs))) ≡ all
each-turn f xs x vs i d all h is so_far =
    sym (prepend-cons xs x (each f (items_view (drop (i + 1) vs))))
    ∙ ap (λ o. prepend xs (cons o (each f (items_view (drop (i + 1) vs))))) is
    ∙ ap (λ t. prepend xs (each f t)) (sym (items_view-drop vs i d h))
    ∙ so_far

-- an item that can't be read ends it
pub each-stop : {X : Type 0} (f : Data → Option X) (xs : List X) (vs : List Value) (i : ℕ) (d : Value) (all : Option (List X)) → i < length vs → None ≡ f (view (get_or vs i d)) → prepend xs (each f (items_view (drop i vs))) ≡ all → None ≡ all
each-stop f xs vs i d all h is so_far =
    ap (λ o. prepend xs (cons o (each f (items_view (drop (i + 1) vs))))) is
    ∙ ap (λ t. prepend xs (each f t)) (sym (items_view-drop vs i d h))
    ∙ so_far
