-- Reading by tests, by keys, and item by item.
use Rattle.std.proofs.Common.{◌≡◌, ◌≤◌, ℕ, ◌==◌, Bool, true, false, nat_le, nat_lt, if◌then◌else◌, bytes_eq, List, [], ◌∷◌, length, refl, sym, ap, subst, ◌∙◌, arith, Option, Some, None, option_map, ◌⊎◌, inl, inr}
use Rattle.std.specs.Ordering.{nat_cmp, match_ordering}
use Rattle.std.specs.declared.cmp.Ordering.TheVariants.{Less, Equal, Greater}
use Rattle.std.specs.Cmp.Lexicographic.{slice_cmp}
use Rattle.std.proofs.lemmas.Bool.Decides.{nat_tests}
use Rattle.std.proofs.lemmas.Map.Lookups.{exact_bytes}
use Rattle.std.proofs.lemmas.Slice.Eq.{bytes_eq-Decides}
use Rattle.toml.specs.Data.{Data, string, integer, float, boolean, datetime, array, table, Items, no_items, item, Members, no_members, member, get_member, as_str, as_array, as_bool}
use Rattle.hk_base.specs.Bytes.{Bytes}
use Rattle.hk_forms.specs.Members.{count_members, pair_of, both, count_items, cons, each, listed, two}
use Rattle.hk_laws.specs.Values.{Reads, HasTwo, in_order, turned, two_items, AreEach, AreListed}

-- ---- tests

pub at_key : {X : Type 0} (P : Bytes → Type 0) (key word : Bytes) (then_ else_ : Option X) (x : X) → (then_ ≡ Some x → P word) → (else_ ≡ Some x → P key) → (if bytes_eq key word then then_ else else_) ≡ Some x → P key
at_key P key word then_ else_ x t f e =
    elim (bytes_eq key word) as (λ b. bytes_eq key word ≡ b → (if b then then_ else else_) ≡ Some x → P key) [
      | true ↦ λ is taken. subst P (sym ((bytes_eq-Decides key word).0 is)) (t taken)
      | false ↦ λ _ taken. f taken
    ] refl e

pub where_true : {X : Type 0} (P : Type 0) (test : Bool) (then_ : Option X) (x : X) → (test ≡ true → then_ ≡ Some x → P) → (if test then then_ else None) ≡ Some x → P
where_true P true then_ x t e = t refl e
where_true P false then_ x t e = let no_ : ⊥ = cc in absurd no_

pub tested : (passes : Bytes → Bool) (text value : Bytes) → (if passes text then Some text else None) ≡ Some value → (passes text ≡ true) × (text ≡ value)
tested passes text value e = where_true ((passes text ≡ true) × (text ≡ value)) (passes text) (Some text) value (λ is same. let eq : text ≡ value = cc in (is, eq)) e

pub of_map : {X Y : Type 0} (f : X → Y) (o : Option X) (y : Y) → option_map f o ≡ Some y → (x : X) × (o ≡ Some x) × (f x ≡ y)
of_map f None y e = let no_ : ⊥ = cc in absurd no_
of_map f (Some x) y e = let same : f x ≡ y = cc in (x, refl, same)

pub le_is : (n m : ℕ) → nat_le n m ≡ true → n ≤ m
le_is n m e = grind (arith, nat_tests)

pub is_le : (n m : ℕ) → n ≤ m → nat_le n m ≡ true
is_le n m e = grind (arith, nat_tests)

pub lt_not : (n m : ℕ) → nat_lt n m ≡ false → m ≤ n
lt_not n m e = grind (arith, nat_tests)

pub not_lt : (n m : ℕ) → m ≤ n → nat_lt n m ≡ false
not_lt n m e = grind (arith, nat_tests)

-- ---- what a value is

pub is_string : (d : Data) (text : Bytes) → as_str d ≡ Some text → d ≡ string text
is_string (string s) text e = let same : s ≡ text = cc in ap string same
is_string (integer z) text e = let no_ : ⊥ = cc in absurd no_
is_string (float x) text e = let no_ : ⊥ = cc in absurd no_
is_string (boolean b) text e = let no_ : ⊥ = cc in absurd no_
is_string (datetime t) text e = let no_ : ⊥ = cc in absurd no_
is_string (array ds) text e = let no_ : ⊥ = cc in absurd no_
is_string (table ms) text e = let no_ : ⊥ = cc in absurd no_

pub is_array : (d : Data) (ds : Items) → as_array d ≡ Some ds → d ≡ array ds
is_array (string s) ds e = let no_ : ⊥ = cc in absurd no_
is_array (integer z) ds e = let no_ : ⊥ = cc in absurd no_
is_array (float x) ds e = let no_ : ⊥ = cc in absurd no_
is_array (boolean b) ds e = let no_ : ⊥ = cc in absurd no_
is_array (datetime t) ds e = let no_ : ⊥ = cc in absurd no_
is_array (array own) ds e = let same : own ≡ ds = cc in ap array same
is_array (table ms) ds e = let no_ : ⊥ = cc in absurd no_

pub is_boolean : (d : Data) (on : Bool) → as_bool d ≡ Some on → d ≡ boolean on
is_boolean (string s) on e = let no_ : ⊥ = cc in absurd no_
is_boolean (integer z) on e = let no_ : ⊥ = cc in absurd no_
is_boolean (float x) on e = let no_ : ⊥ = cc in absurd no_
is_boolean (boolean b) on e = let same : b ≡ on = cc in ap boolean same
is_boolean (datetime t) on e = let no_ : ⊥ = cc in absurd no_
is_boolean (array ds) on e = let no_ : ⊥ = cc in absurd no_
is_boolean (table ms) on e = let no_ : ⊥ = cc in absurd no_

pub is_two : (ds : Items) (d e : Data) → two ds ≡ Some (d, e) → ds ≡ two_items d e
is_two no_items d e is = let no_ : ⊥ = cc in absurd no_
is_two (item a no_items) d e is = let no_ : ⊥ = cc in absurd no_
is_two (item a (item b no_items)) d e is =
    let here : Data × Data = (a, b) in
    let same : here ≡ (d, e) = cc in
    ap (λ (p : Data × Data). two_items p.0 p.1) same
is_two (item a (item b (item c ds))) d e is = let no_ : ⊥ = cc in absurd no_

-- ---- the two members of a table

abbrev Found : Bytes → Bytes → Data → Members → Data → Type 0
Found key a x ms d = ((key ≡ a) × (x ≡ d)) ⊎ (get_member key ms ≡ Some d)

found : (key a : Bytes) (x : Data) (ms : Members) (d : Data) → get_member key (member a x ms) ≡ Some d → Found key a x ms d
found key a x ms d e =
    elim (slice_cmp nat_cmp key a) as (λ r. slice_cmp nat_cmp key a ≡ r → match_ordering r (get_member key ms) (Some x) (get_member key ms) ≡ Some d → Found key a x ms d) [
      | Less ↦ λ _ more. inr more
      | Equal ↦ λ is here. let same : x ≡ d = cc in inl (exact_bytes key a is, same)
      | Greater ↦ λ _ more. inr more
    ] refl e

pub last : (key b : Bytes) (y d : Data) → get_member key (member b y no_members) ≡ Some d → (key ≡ b) × (y ≡ d)
last key b y d e = elim (found key b y no_members d e) [
  | inl is ↦ is
  | inr absent ↦ let no_ : ⊥ = cc in absurd no_
]

pair_is : (o p : Option Data) (d e : Data) → pair_of o p ≡ Some (d, e) → (o ≡ Some d) × (p ≡ Some e)
pair_is None p d e is = let no_ : ⊥ = cc in absurd no_
pair_is (Some x) None d e is = let no_ : ⊥ = cc in absurd no_
pair_is (Some x) (Some y) d e is =
    let here : Data × Data = (x, y) in
    let same : here ≡ (d, e) = cc in
    (ap (λ (p : Data × Data). Some p.0) same, ap (λ (p : Data × Data). Some p.1) same)

abbrev Two : Bytes → Bytes → Data → Data → Members → Type 0
Two first second d e ms = HasTwo first second d e (table ms)

the_two : (first second a b : Bytes) (x y d e : Data) → (first ≡ second → ⊥) → get_member first (member a x (member b y no_members)) ≡ Some d → get_member second (member a x (member b y no_members)) ≡ Some e
    → Two first second d e (member a x (member b y no_members))
the_two first second a b x y d e differ f g =
    elim (found first a x (member b y no_members) d f) [
      | inl one ↦ elim (found second a x (member b y no_members) e g) [
        | inl other ↦ absurd (differ (one.0 ∙ sym other.0))
        | inr later ↦
            let other = last second b y e later in
            subst (Two first second d e) (λ i. member (one.0 i) (sym one.1 i) (member (other.0 i) (sym other.1 i) no_members)) in_order
      ]
      | inr late ↦
          let one = last first b y d late in
          elim (found second a x (member b y no_members) e g) [
            | inl other ↦ subst (Two first second d e) (λ i. member (other.0 i) (sym other.1 i) (member (one.0 i) (sym one.1 i) no_members)) turned
            | inr later ↦ absurd (differ (one.0 ∙ sym (last second b y e later).0))
          ]
    ]

pub is_both : (first second : Bytes) (d e : Data) (ms : Members) → (first ≡ second → ⊥) → both first second ms ≡ Some (d, e) → Two first second d e ms
is_both first second d e no_members differ is = let no_ : ⊥ = cc in absurd no_
is_both first second d e (member a x no_members) differ is = let no_ : ⊥ = cc in absurd no_
is_both first second d e (member a x (member b y no_members)) differ is =
    let found_ = pair_is (get_member first (member a x (member b y no_members))) (get_member second (member a x (member b y no_members))) d e is in
    the_two first second a b x y d e differ found_.0 found_.1
is_both first second d e (member a x (member b y (member c z ms))) differ is =
    let more : (count_members (member a x (member b y (member c z ms))) == 2) ≡ false = grind (arith, nat_tests) in
    let no_ : ⊥ = cc in absurd no_

-- ---- lists

cons_is : {X : Type 0} (f : Data → Option X) (Is : Data → X → Type 0) → Reads f Is → (d : Data) (ds : Items) (one : Option X) (more : Option (List X)) (xs : List X) → f d ≡ one
    → ((ys : List X) → more ≡ Some ys → AreEach Is ds ys) → cons one more ≡ Some xs → AreEach Is (item d ds) xs
cons_is f Is reads d ds None more xs one_is rest e = let no_ : ⊥ = cc in absurd no_
cons_is f Is reads d ds (Some x) None xs one_is rest e = let no_ : ⊥ = cc in absurd no_
cons_is f Is reads d ds (Some x) (Some ys) xs one_is rest e =
    let same : x ∷ ys ≡ xs = cc in
    subst (AreEach Is (item d ds)) same ((reads d x).0 one_is, rest ys refl)

pub each_is : {X : Type 0} (f : Data → Option X) (Is : Data → X → Type 0) → Reads f Is → (ds : Items) (xs : List X) → each f ds ≡ Some xs → AreEach Is ds xs
each_is f Is reads no_items [] e = tt
each_is f Is reads no_items (x ∷ xs) e = let no_ : ⊥ = cc in absurd no_
each_is f Is reads (item d ds) xs e = cons_is f Is reads d ds (f d) (each f ds) xs refl (λ ys more. each_is f Is reads ds ys more) e

pub is_each : {X : Type 0} (f : Data → Option X) (Is : Data → X → Type 0) → Reads f Is → (ds : Items) (xs : List X) → AreEach Is ds xs → each f ds ≡ Some xs
is_each f Is reads no_items [] is = refl
is_each f Is reads no_items (x ∷ xs) is = absurd is
is_each f Is reads (item d ds) [] is = absurd is
is_each f Is reads (item d ds) (x ∷ xs) is = λ i. cons ((reads d x).1 is.0 i) (is_each f Is reads ds xs is.1 i)

pub count_is : {X : Type 0} (Is : Data → X → Type 0) (ds : Items) (xs : List X) → AreEach Is ds xs → count_items ds ≡ length xs
count_is Is no_items [] is = refl
count_is Is no_items (x ∷ xs) is = absurd is
count_is Is (item d ds) [] is = absurd is
count_is Is (item d ds) (x ∷ xs) is = omega (arith, count_is Is ds xs is.1)

pub listed_is : {X : Type 0} (f : Data → Option X) (Is : Data → X → Type 0) → Reads f Is → (ds : Items) (xs : List X) → listed f ds ≡ Some xs → AreListed Is ds xs
listed_is f Is reads ds xs e =
    elim (nat_lt 1024 (count_items ds)) as (λ b. nat_lt 1024 (count_items ds) ≡ b → (if b then None else each f ds) ≡ Some xs → AreListed Is ds xs) [
      | true ↦ λ _ else_. let no_ : ⊥ = cc in absurd no_
      | false ↦ λ short is.
          let all = each_is f Is reads ds xs is in
          record { each = all; short = subst (λ n. n ≤ 1024) (count_is Is ds xs all) (lt_not 1024 (count_items ds) short) }
    ] refl e

pub is_listed : {X : Type 0} (f : Data → Option X) (Is : Data → X → Type 0) → Reads f Is → (ds : Items) (xs : List X) → AreListed Is ds xs → listed f ds ≡ Some xs
is_listed f Is reads ds xs is =
    let short : nat_lt 1024 (count_items ds) ≡ false = ap (nat_lt 1024) (count_is Is ds xs is.each) ∙ not_lt 1024 (length xs) is.short in
    ap (λ b. if b then None else each f ds) short ∙ is_each f Is reads ds xs is.each

-- an array whose items are listed, and what is made of the list
pub list_is : {X Y : Type 0} (f : Data → Option X) (Is : Data → X → Type 0) (make : List X → Y) (by : Option Items → Option Y) → ((ds : Items) → by (Some ds) ≡ option_map make (listed f ds)) → by None ≡ None
    → Reads f Is → (d : Data) (y : Y) → by (as_array d) ≡ Some y → (ds : Items) × (xs : List X) × (d ≡ array ds) × AreListed Is ds xs × (make xs ≡ y)
list_is f Is make by some none reads d y e = go (as_array d) refl e
  where
    go : (o : Option Items) → as_array d ≡ o → by o ≡ Some y → (ds : Items) × (xs : List _) × (d ≡ array ds) × AreListed Is ds xs × (make xs ≡ y)
    go None at e = let no_ : ⊥ = cc in absurd no_
    go (Some ds) at e =
        let is = of_map make (listed f ds) y (sym (some ds) ∙ e) in
        (ds, is.0, is_array d ds at, listed_is f Is reads ds is.0 is.1, is.2)
