-- What a deed keeps, its task keeps under every plan.
use Rattle.std.proofs.Common.{◌≡◌, refl, sym, ap, ◌∙◌, subst, ℕ, ◌<◌, Bool, true, false, List, [], ◌∷◌, map, Option, Some, None, Result, Ok, Err, is_some, nat_eq, eqb-true}
use Rattle.std.proofs.Math.Path.{fun_ext}
use Rattle.std.specs.List.{AllByRecursion, IsDistinct}
use Rattle.std.specs.Ordering.{eq_by_cmp, is_eq}
use Rattle.std.specs.Cmp.{tied_itself}
use Rattle.hk_base.specs.Bytes.{Bytes}
use Rattle.hk_base.specs.Identifier.{Ident, ident_cmp}
use Rattle.hk_base.specs.IdentTies.{ident_cmp_total}
use Rattle.hk_base.specs.Ties.{bytes-self}
use Rattle.hk_chain.specs.declared.page.Page.{Page}
use Rattle.hk_chain.specs.declared.fault.Fault.{Fault}
use Rattle.hk_chain.specs.Layout.{pairs}
use Rattle.hk_fix.specs.Task.{Task, asks, notes, used, saved, ◌▷◌}
use Rattle.hk_fix.specs.Chains.{AllGroups, Saves, AreChains}
use Rattle.hk_fix.specs.Table.{Key, Table, same_key, missing_by, with_pair, resolve, IsTable}
use Rattle.hk_fix.specs.Deed.{Deed, returns, refuses, asking, matching, saving, ◌then◌, answers, traits_of, ask_for, save_as, interpret, HasPair, IsNamed, IsProper, IsQuiet}
use Rattle.hk_fix.specs.Deeds.{Deeds, pair_or, on_way, task_of, AreProper}

-- ---- one deed after another

module _ {A B : Type 0} (table : Table) (own : Ident) where
  ask-then : (r : Result (List ℕ) Fault) (g : List Page → Task A) (f : A → Task B) (h : List Page → Task B) → ((xs : List Page) → h xs ≡ g xs ▷ f) → ask_for r h ≡ ask_for r g ▷ f
  ask-then (Err e) g f h w = refl
  ask-then (Ok []) g f h w = w []
  ask-then (Ok (p ∷ ps)) g f h w = ap (asks (p ∷ ps)) (fun_ext w)

  save-then : (o : Option ℕ) (x : Page) (s : Task B) (t : Task A) (f : A → Task B) → s ≡ t ▷ f → save_as o x s ≡ save_as o x t ▷ f
  save-then None x s t f w = w
  save-then (Some p) x s t f w = ap (λ z. notes (saved p x) z) w

  -- is one task after another
  pub interpret-then : (d : Deed A) (f : A → Deed B) → interpret table own (d then f) ≡ interpret table own d ▷ (λ x. interpret table own (f x))
  interpret-then (returns x) f = refl
  interpret-then (refuses e) f = refl
  interpret-then (asking keys g) f =
      ask-then (resolve table keys) (λ xs. interpret table own (g (answers xs (traits_of table keys)))) (λ x. interpret table own (f x))
      (λ xs. interpret table own (g (answers xs (traits_of table keys)) then f)) (λ xs. interpret-then (g (answers xs (traits_of table keys))) f)
  interpret-then (matching by g) f = ap (notes (used (table.number by))) (interpret-then (g (table.matches by)) f)
  interpret-then (saving name x d) f =
      save-then (table.pair (record { id = own; name = name })) x (interpret table own (d then f)) (interpret table own d) (λ z. interpret table own (f z)) (interpret-then d f)

-- equal tasks, each followed by equal ones
module _ {A B : Type 0} where
  pub bind-same : (s t : Task A) (f g : A → Task B) → s ≡ t → ((x : A) → f x ≡ g x) → s ▷ f ≡ t ▷ g
  bind-same s t f g e h = ap (λ z. z ▷ f) e ∙ ap (λ k. t ▷ k) (fun_ext h)

module _ {A B : Type 0} (table : Table) (Q : A → Type 0) where
  pub quiet-then : (R : B → Type 0) (d : Deed A) (f : A → Deed B) → IsQuiet table Q d → ((x : A) → Q x → IsQuiet table R (f x)) → IsQuiet table R (d then f)
  quiet-then R (returns x) f s h = h x s
  quiet-then R (refuses e) f s h = tt
  quiet-then R (asking keys g) f s h = (s.0, λ xs. quiet-then R (g xs) f (s.1 xs) h)
  quiet-then R (matching by g) f s h = (s.0, quiet-then R (g (table.matches by)) f s.1 h)
  quiet-then R (saving name x d) f s h = absurd s

  pub proper-then : (names : List Bytes) (d : Deed A) (f : A → Deed B) → IsQuiet table Q d → ((x : A) → Q x → IsProper table names (f x)) → IsProper table names (d then f)
  proper-then names (returns x) f s h = h x s
  proper-then names (refuses e) f s h = tt
  proper-then names (asking keys g) f s h = (s.0, λ xs. proper-then names (g xs) f (s.1 xs) h)
  proper-then names (matching by g) f s h = (s.0, proper-then names (g (table.matches by)) f s.1 h)
  proper-then names (saving name x d) f s h = absurd s

-- ---- keys and their pairs

pub id-same : (id : Ident) → eq_by_cmp ident_cmp id id ≡ true
id-same id = ap is_eq (tied_itself ident_cmp_total id)

pub key-same : (key : Key) → same_key key key ≡ true
key-same key = rw (id-same key.id) (bytes-self key.name)

pub with-pair-ok : (e : Fault) (o : Option ℕ) (r : Result (List ℕ) Fault) (ps : List ℕ) → with_pair e o r ≡ Ok ps → (p : ℕ) × (qs : List ℕ) × (o ≡ Some p) × (r ≡ Ok qs) × (ps ≡ p ∷ qs)
with-pair-ok e None r ps h = cc
with-pair-ok e (Some p) (Ok qs) ps h = (p, qs, refl, refl, cc)
with-pair-ok e (Some p) (Err f) ps h = cc

module _ (table : Table) (laws : IsTable table) where
  -- the keys of the pairs that keys have
  pub resolve-keys : (keys : List Key) (ps : List ℕ) → resolve table keys ≡ Ok ps → map table.key ps ≡ keys
  resolve-keys [] ps e = let w : [] ≡ ps = cc in rw (sym w) refl
  resolve-keys (key ∷ keys) ps e =
      let w = with-pair-ok (missing_by key (table.find key.id)) (table.pair key) (resolve table keys) ps e in
      rw (w.4, laws.keyed key w.0 w.2, resolve-keys keys w.1 w.3) refl

  resolve-within : (keys : List Key) (ps : List ℕ) → resolve table keys ≡ Ok ps → AllByRecursion (λ p. p < pairs table.layout) ps
  resolve-within [] ps e = let w : [] ≡ ps = cc in subst (AllByRecursion (λ p. p < pairs table.layout)) w tt
  resolve-within (key ∷ keys) ps e =
      let w = with-pair-ok (missing_by key (table.find key.id)) (table.pair key) (resolve table keys) ps e in
      subst (AllByRecursion (λ p. p < pairs table.layout)) (sym w.4) (laws.within key w.0 w.2, resolve-within keys w.1 w.3)

  keys-apart : (ps : List ℕ) → IsDistinct same_key (map table.key ps) → IsDistinct nat_eq ps
  unfolding IsDistinct
  keys-apart [] d = tt
  keys-apart (p ∷ ps) d = (each ps d.0, keys-apart ps d.1)
    where
      each : (qs : List ℕ) → AllByRecursion (λ k. same_key (table.key p) k ≡ false) (map table.key qs) → AllByRecursion (λ q. nat_eq p q ≡ false) qs
      each [] h = tt
      each (q ∷ qs) h = (at (nat_eq p q) refl h.0, each qs h.1)
        where
          at : (b : Bool) → nat_eq p q ≡ b → same_key (table.key p) (table.key q) ≡ false → b ≡ false
          at true e f = let same : same_key (table.key p) (table.key q) ≡ true = ap (λ n. same_key (table.key p) (table.key n)) (sym (eqb-true p q e)) ∙ key-same (table.key p) in cc
          at false e f = refl

-- ---- the groups of a deed's task

module _ {A : Type 0} (P : List ℕ → Type 0) where
  ask-groups : (r : Result (List ℕ) Fault) (f : List Page → Task A) → ((ps : List ℕ) → r ≡ Ok ps → P ps) → ((xs : List Page) → AllGroups P (f xs)) → AllGroups P (ask_for r f)
  ask-groups (Err e) f h g = tt
  ask-groups (Ok []) f h g = g []
  ask-groups (Ok (p ∷ ps)) f h g = (h (p ∷ ps) refl, g)

  save-groups : (o : Option ℕ) (x : Page) (t : Task A) → AllGroups P t → AllGroups P (save_as o x t)
  save-groups None x t g = g
  save-groups (Some p) x t g = g

module _ (table : Table) (laws : IsTable table) (own : Ident) where
  abbrev IsWithin : List ℕ → Type 0
  IsWithin = AllByRecursion (λ p. p < pairs table.layout)

  module _ {A : Type 0} where
    pub deed-within : (d : Deed A) → AllGroups IsWithin (interpret table own d)
    deed-within (returns x) = tt
    deed-within (refuses e) = tt
    deed-within (asking keys f) =
        ask-groups IsWithin (resolve table keys) (λ xs. interpret table own (f (answers xs (traits_of table keys))))
        (resolve-within table laws keys) (λ xs. deed-within (f (answers xs (traits_of table keys))))
    deed-within (matching by f) = deed-within (f (table.matches by))
    deed-within (saving name x d) = save-groups IsWithin (table.pair (record { id = own; name = name })) x (interpret table own d) (deed-within d)

    pub deed-once : (names : List Bytes) (d : Deed A) → IsProper table names d → AllGroups (IsDistinct nat_eq) (interpret table own d)
    deed-once names (returns x) h = tt
    deed-once names (refuses e) h = tt
    deed-once names (asking keys f) h =
        ask-groups (IsDistinct nat_eq) (resolve table keys) (λ xs. interpret table own (f (answers xs (traits_of table keys))))
        (λ ps e. keys-apart table laws ps (subst (IsDistinct same_key) (sym (resolve-keys table laws keys ps e)) h.0))
        (λ xs. deed-once names (f (answers xs (traits_of table keys))) (h.1 (answers xs (traits_of table keys))))
    deed-once names (matching by f) h = deed-once names (f (table.matches by)) h.1
    deed-once [] (saving name x d) h = absurd h
    deed-once (first ∷ names) (saving name x d) h =
        save-groups (IsDistinct nat_eq) (table.pair (record { id = own; name = name })) x (interpret table own d) (deed-once names d h.1)

-- ---- and its saves

abbrev pair_named : Table → Ident → Bytes → ℕ
pair_named table own name = pair_or table (record { id = own; name = name })

module _ {A : Type 0} (table : Table) (own : Ident) where
  ask-saves : (ps : List ℕ) (r : Result (List ℕ) Fault) (f : List Page → Task A) → ((xs : List Page) → Saves ps (f xs)) → Saves ps (ask_for r f)
  ask-saves ps (Err e) f h = tt
  ask-saves ps (Ok []) f h = h []
  ask-saves ps (Ok (p ∷ qs)) f h = h

  save-saves : (name : Bytes) (o : Option ℕ) → table.pair (record { id = own; name = name }) ≡ o → is_some o ≡ true → (x : Page) (t : Task A) (ps : List ℕ) → Saves ps t → Saves (pair_named table own name ∷ ps) (save_as o x t)
  save-saves name None e s x t ps h = cc
  save-saves name (Some p) e s x t ps h = (rw e refl, h)

  pub deed-saves : (names : List Bytes) (d : Deed A) → IsProper table names d → AllByRecursion (HasPair table own) names → Saves (map (pair_named table own) names) (interpret table own d)
  deed-saves [] (returns x) h a = tt
  deed-saves (name ∷ names) (returns x) h a = absurd h
  deed-saves names (refuses e) h a = tt
  deed-saves names (asking keys f) h a =
      ask-saves (map (pair_named table own) names) (resolve table keys) (λ xs. interpret table own (f (answers xs (traits_of table keys))))
      (λ xs. deed-saves names (f (answers xs (traits_of table keys))) (h.1 (answers xs (traits_of table keys))) a)
  deed-saves names (matching by f) h a = deed-saves names (f (table.matches by)) h.1 a
  deed-saves [] (saving name x d) h a = absurd h
  deed-saves (first ∷ names) (saving name x d) h a =
      subst (λ n. Saves (pair_named table own n ∷ map (pair_named table own) names) (interpret table own (saving name x d))) h.0
      (save-saves name (table.pair (record { id = own; name = name })) refl (subst (HasPair table own) (sym h.0) a.0) x (interpret table own d) (map (pair_named table own) names) (deed-saves names d h.1 a.1))

  pub deed-named : (names : List Bytes) (d : Deed A) → IsProper table names d → AllByRecursion (HasPair table own) names → IsNamed table own d
  deed-named names (returns x) h a = tt
  deed-named names (refuses e) h a = tt
  deed-named names (asking keys f) h a = λ xs. deed-named names (f xs) (h.1 xs) a
  deed-named names (matching by f) h a = (h.0, deed-named names (f (table.matches by)) h.1 a)
  deed-named [] (saving name x d) h a = absurd h
  deed-named (first ∷ names) (saving name x d) h a = (subst (HasPair table own) (sym h.0) a.0, deed-named names d h.1 a.1)

-- the deeds of a plan's items are of its patterns and save pages that have pairs
pub deeds-named : (deeds : Deeds) → AreProper deeds → (i : ℕ) → i < deeds.table.layout.items → IsNamed deeds.table (deeds.id i) (deeds.deed i)
deeds-named deeds are i lt = deed-named deeds.table (deeds.id i) (deeds.names i) (deeds.deed i) (are.proper i lt) (are.owned i lt)

-- the tasks of proper deeds keep the laws of a family
pub deeds-chains : (deeds : Deeds) → AreProper deeds → AreChains deeds.table.layout (task_of deeds) (on_way deeds)
deeds-chains deeds are =
    record {
      distinct = λ i lt. deed-once deeds.table are.table (deeds.id i) (deeds.names i) (deeds.deed i) (are.proper i lt);
      within = λ i lt. deed-within deeds.table are.table (deeds.id i) (deeds.deed i);
      saves = λ i lt. deed-saves deeds.table (deeds.id i) (deeds.names i) (deeds.deed i) (are.proper i lt) (are.owned i lt);
      in_order = are.in_order;
    }
