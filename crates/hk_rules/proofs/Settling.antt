-- Which sources need no further claim, claim after claim.
use Rattle.std.proofs.Common.{◌≡◌, ℕ, suc, zero, ◌+◌, ◌<◌, Bool, true, false, cond, List, [], ◌∷◌, ◌++◌, length, take, get_or, set, replicate, Option, Some, None, Result, Ok, Err, Vec, refl, sym, ap, subst, ◌∙◌}
use Rattle.std.specs.Prelude.{fold, ◌||◌, ◌&&◌}
use Rattle.std.specs.List.{list_any}
use Rattle.std.specs.Map.{lookup}
use Rattle.std.specs.Option.{is_some, option_cmp, unwrap_or}
use Rattle.std.specs.Ordering.{nat_cmp, is_eq, match_ordering}
use Rattle.std.specs.BTreeMap.{insert_entry, is_at, get}
use Rattle.std.specs.BTreeSet.{insert_key}
use Rattle.std.specs.Cmp.{tied_itself}
use Rattle.std.specs.Cmp.Lexicographic.{slice_cmp}
use Rattle.std.specs.declared.alloc.Global.{Global}
use Rattle.std.specs.declared.cmp.Ordering.TheVariants.{Less, Equal, Greater}
use Rattle.std.proofs.lemmas.Bool.{cases_eq}
use Rattle.std.proofs.lemmas.Grind.{fold-append}
use Rattle.std.proofs.lemmas.List.{take_more, get_or_default, get_or-set_same, get_or-set_other, length-set, length-replicate}
use Rattle.std.proofs.lemmas.List.Folds.{list_any-append}
use Rattle.hk_base.specs.Bytes.{Bytes}
use Rattle.hk_base.specs.Identifier.{Ident, ident_cmp, read_ident}
use Rattle.hk_base.specs.IdentTies.{ident_cmp_total, only_equal_ident_tie}
use mathlib.Core.Logic.{inl, inr}
use Rattle.hk_base.proofs.Both.{not-both}
use Rattle.hk_base.specs.Ties.{is-equal, only_equal_tie, same_test}
use Rattle.hk_base.specs.declared.identifier.IdentFault.{IdentFault}
use Rattle.hk_pattern.specs.Pattern.{is_id, same_version}
use Rattle.hk_rules.specs.Universe.{Claim, claim_at, claim_by, claimed}
use Rattle.hk_rules.specs.Settled.{AllSettled, AreSettled, Flags, flags_at, flags_or, has_key, is_settled, matched_by}
use Rattle.hk_rules_file.specs.declared.rules.Rule.{Rule}
use Rattle.hk_rules.specs.declared.owner.Owner.{Owner}
use Rattle.hk_rules.specs.declared.source_file.SourceFile.{SourceFile}

abbrev Sources : Type 0
Sources = List (Bytes × SourceFile)

-- an owner stays when another one comes
found-insert : (es : List Claim) (id k : Ident) (v : Owner) → is_some (lookup (is_at (ident_cmp id)) es) ≡ true → is_some (lookup (is_at (ident_cmp id)) (insert_entry ident_cmp es k v)) ≡ true
found-insert [] id k v h = cc
found-insert (e ∷ es) id k v h =
    elim (ident_cmp k e.0) as (λ o. is_some (lookup (is_at (ident_cmp id)) (match_ordering o ((k, v) ∷ e ∷ es) ((e.0, v) ∷ es) (e ∷ insert_entry ident_cmp es k v))) ≡ true) [
      | Less ↦ elim (is_eq (ident_cmp id k)) as (λ b. is_some (cond b (Some v) (lookup (is_at (ident_cmp id)) (e ∷ es))) ≡ true) [ true ↦ refl | false ↦ h ]
      | Equal ↦ elim (is_eq (ident_cmp id e.0)) as (λ b. is_some (cond b (Some e.1) (lookup (is_at (ident_cmp id)) es)) ≡ true → is_some (cond b (Some v) (lookup (is_at (ident_cmp id)) es)) ≡ true) [ true ↦ λ h. refl | false ↦ λ h. h ] h
      | Greater ↦ elim (is_eq (ident_cmp id e.0)) as (λ b. is_some (cond b (Some e.1) (lookup (is_at (ident_cmp id)) es)) ≡ true → is_some (cond b (Some e.1) (lookup (is_at (ident_cmp id)) (insert_entry ident_cmp es k v))) ≡ true) [ true ↦ λ h. refl | false ↦ λ h. found-insert es id k v h ] h
    ]

-- and the one that comes is found
put-found : (es : List Claim) (k : Ident) (v : Owner) → is_some (lookup (is_at (ident_cmp k)) (insert_entry ident_cmp es k v)) ≡ true
put-found [] k v = ap (λ o. is_some (cond (is_eq o) (Some v) None)) (tied_itself ident_cmp_total k)
put-found (e ∷ es) k v =
    elim (ident_cmp k e.0) as (λ o. ident_cmp k e.0 ≡ o → is_some (lookup (is_at (ident_cmp k)) (match_ordering o ((k, v) ∷ e ∷ es) ((e.0, v) ∷ es) (e ∷ insert_entry ident_cmp es k v))) ≡ true) [
      | Less ↦ λ t. ap (λ o. is_some (cond (is_eq o) (Some v) (lookup (is_at (ident_cmp k)) (e ∷ es)))) (tied_itself ident_cmp_total k)
      | Equal ↦ λ t. ap (λ o. is_some (cond (is_eq o) (Some v) (lookup (is_at (ident_cmp k)) es))) t
      | Greater ↦ λ t. ap (λ o. is_some (cond (is_eq o) (Some e.1) (lookup (is_at (ident_cmp k)) (insert_entry ident_cmp es k v)))) t ∙ put-found es k v
    ] refl

settled-claimed : (es : List Claim) (r : Result Ident IdentFault) (c : Option Claim) → is_settled es r ≡ true → is_settled (claimed es c) r ≡ true
settled-claimed es (Err f) c h = refl
settled-claimed es (Ok id) None h = h
settled-claimed es (Ok id) (Some c) h =
    elim (is_some (lookup (is_at (ident_cmp c.0)) es)) as (λ b. is_some (lookup (is_at (ident_cmp id)) (cond b es (insert_entry ident_cmp es c.0 c.1))) ≡ true) [
      | true ↦ h
      | false ↦ found-insert es id c.0 c.1 h
    ]

settled-fold : {X : Type 0} (f : X → Option Claim) (es : List Claim) (r : Result Ident IdentFault) (xs : List X) → is_settled es r ≡ true → is_settled (fold (λ items x. claimed items (f x)) es xs) r ≡ true
settled-fold f es r [] h = h
settled-fold f es r (x ∷ xs) h = settled-fold f (claimed es (f x)) r xs (settled-claimed es r (f x) h)

-- what is claimed is settled
settled-own : (es : List Claim) (o : Owner) (r : Result Ident IdentFault) → is_settled (claimed es (claim_by o r)) r ≡ true
settled-own es o (Err f) = refl
settled-own es o (Ok id) =
    elim (is_some (lookup (is_at (ident_cmp id)) es)) as (λ b. is_some (lookup (is_at (ident_cmp id)) es) ≡ b → is_some (lookup (is_at (ident_cmp id)) (cond b es (insert_entry ident_cmp es id o))) ≡ true) [
      | true ↦ λ e. e
      | false ↦ λ e. put-found es id o
    ] refl

-- and claiming what is settled changes nothing
settled-stays : (es : List Claim) (o : Owner) (r : Result Ident IdentFault) → is_settled es r ≡ true → es ≡ claimed es (claim_by o r)
settled-stays es o (Err f) h = refl
settled-stays es o (Ok id) h = sym (ap (λ b. cond b es (insert_entry ident_cmp es id o)) h)

pub skip-settled : (test : Bytes → Bool) (rule : Rule) (source : Bytes × SourceFile) (es : List Claim) → is_settled es (read_ident source.0 rule.version) ≡ true → es ≡ claimed es (matched_by test rule source)
skip-settled test rule source es h =
    elim (test source.0) as (λ b. es ≡ claimed es (cond b (claim_at rule (Some source.1) source.0) None)) [
      | true ↦ settled-stays es _ (read_ident source.0 rule.version) h
      | false ↦ refl
    ]

pub skip-other : (test : Bytes → Bool) (rule : Rule) (source : Bytes × SourceFile) (es : List Claim) → test source.0 ≡ false → es ≡ claimed es (matched_by test rule source)
skip-other test rule source es h = sym (ap (λ b. claimed es (cond b (claim_at rule (Some source.1) source.0) None)) h)

pub claim-source : (test : Bytes → Bool) (rule : Rule) (source : Bytes × SourceFile) (es es' : List Claim) → test source.0 ≡ true → es' ≡ claimed es (claim_at rule (Some source.1) source.0) → es' ≡ claimed es (matched_by test rule source)
claim-source test rule source es es' h e = e ∙ sym (ap (λ b. claimed es (cond b (claim_at rule (Some source.1) source.0) None)) h)

pub settled-source : (rule : Rule) (source : Bytes × SourceFile) (es es' : List Claim) → es' ≡ claimed es (claim_at rule (Some source.1) source.0) → is_settled es' (read_ident source.0 rule.version) ≡ true
settled-source rule source es es' e = ap (λ items. is_settled items (read_ident source.0 rule.version)) e ∙ settled-own es _ (read_ident source.0 rule.version)

-- one more source
pub settle-turn : (sources : Sources) (es es' : List Claim) (version : Option Bytes) (flags : List Bool) (i : ℕ) (source : Bytes × SourceFile) (c : Option Claim) (b : Bool) → i < length sources → source ≡ get_or sources i source → AreSettled sources es version flags → es' ≡ claimed es c → (b ≡ true → is_settled es' (read_ident source.0 version) ≡ true) → AreSettled sources es' version (set flags i b)
settle-turn sources es es' version flags i source c b h at so_far put own = record {
  each = length-set flags i b ∙ so_far.each;
  settled = λ k d is. elim (cases_eq k i) [
    | inl same ↦
        ap (λ s. is_settled es' (read_ident s.0 version)) (ap (λ n. get_or sources n d) same ∙ get_or_default sources i d source h ∙ sym at)
        ∙ own (sym (get_or-set_same flags i b false (subst (λ n. i < n) (sym so_far.each) h)) ∙ ap (λ n. get_or (set flags i b) n false) (sym same) ∙ is)
    | inr other ↦
        ap (λ items. is_settled items (read_ident (get_or sources k d).0 version)) put
        ∙ settled-claimed es (read_ident (get_or sources k d).0 version) c (so_far.settled k d (sym (get_or-set_other flags i k b false other) ∙ is))
  ];
}

none-set : (n i : ℕ) → get_or (replicate n false) i false ≡ false
none-set zero i = refl
none-set (suc n) zero = refl
none-set (suc n) (suc i) = none-set n i

-- the flags of a version
pub settled-flags_at : (sources : Sources) (es : List Claim) (flags : Flags) (version : Option Bytes) → AllSettled sources es flags → AreSettled sources es version (flags_at flags version (length sources))
settled-flags_at sources es flags version all =
    elim (get (option_cmp (slice_cmp nat_cmp)) flags version) as (λ o. get (option_cmp (slice_cmp nat_cmp)) flags version ≡ o → AreSettled sources es version (flags_or o (length sources))) [
      | Some own ↦ λ e. all version own e
      | None ↦ λ e. record {
        each = length-replicate (length sources) false;
        settled = λ i d t. absurd (not-both _ t (none-set (length sources) i));
      }
    ] refl

version-same : (a b : Option Bytes) → is_eq (option_cmp (slice_cmp nat_cmp) a b) ≡ true → a ≡ b
version-same a b e = ap (λ id. id.version) (only_equal_ident_tie (record { path = []; version = a }) (record { path = []; version = b }) (is-equal _ e))

-- the flags of one version are put
pub settled-insert : (sources : Sources) (es : List Claim) (old new : Flags) (version : Option Bytes) (flags : Vec Bool Global) → AllSettled sources es old → AreSettled sources es version flags.items → ((q : Option Bytes) → get (option_cmp (slice_cmp nat_cmp)) new q ≡ cond (is_eq (option_cmp (slice_cmp nat_cmp) version q)) (Some flags) (get (option_cmp (slice_cmp nat_cmp)) old q)) → AllSettled sources es new
settled-insert sources es old new version flags all one put = λ q own e.
    elim (is_eq (option_cmp (slice_cmp nat_cmp) version q)) as (λ b. is_eq (option_cmp (slice_cmp nat_cmp) version q) ≡ b → cond b (Some flags) (get (option_cmp (slice_cmp nat_cmp)) old q) ≡ Some own → AreSettled sources es q own.items) [
      | true ↦ λ t e. subst (λ v. AreSettled sources es v own.items) (version-same version q t) (subst (λ (f : Vec Bool Global). AreSettled sources es version f.items) (ap (λ o. unwrap_or o flags) e) one)
      | false ↦ λ t e. all q own e
    ] refl (sym (put q) ∙ e)

-- what is settled stays so
pub settled-grown : {X : Type 0} (f : X → Option Claim) (sources : Sources) (es es' : List Claim) (flags : Flags) (xs : List X) → AllSettled sources es flags → es' ≡ fold (λ items x. claimed items (f x)) es xs → AllSettled sources es' flags
settled-grown f sources es es' flags xs all e = λ version own at.
    let so_far = all version own at in
    record {
      each = so_far.each;
      settled = λ i d t. ap (λ items. is_settled items (read_ident (get_or sources i d).0 version)) e ∙ settled-fold f es (read_ident (get_or sources i d).0 version) xs (so_far.settled i d t);
    }

or-false : (a : Bool) → (a || false) ≡ a
or-false true = refl
or-false false = refl

or-twice : (a b : Bool) → (a || b) ≡ ((a || b) || a)
or-twice true b = refl
or-twice false true = refl
or-twice false false = refl

or-turn : (a b : Bool) → (a || b) ≡ (b || a)
or-turn true true = refl
or-turn true false = refl
or-turn false true = refl
or-turn false false = refl

or-among : (a b c : Bool) → (a || (b || c)) ≡ ((a || b) || c)
or-among true b c = refl
or-among false b c = refl

-- one more path
has_key-insert_key : (keys : List (Vec ℕ Global)) (k : Vec ℕ Global) (path : Bytes) → has_key (insert_key (λ (x y : Vec ℕ Global). slice_cmp nat_cmp x.items y.items) keys k) path ≡ (has_key keys path || is_eq (slice_cmp nat_cmp path k.items))
has_key-insert_key [] k path = or-false (is_eq (slice_cmp nat_cmp path k.items))
has_key-insert_key (x ∷ xs) k path =
    elim (slice_cmp nat_cmp k.items x.items) as (λ o. slice_cmp nat_cmp k.items x.items ≡ o → has_key (match_ordering o (k ∷ x ∷ xs) (x ∷ xs) (x ∷ insert_key (λ (x y : Vec ℕ Global). slice_cmp nat_cmp x.items y.items) xs k)) path ≡ (has_key (x ∷ xs) path || is_eq (slice_cmp nat_cmp path k.items))) [
      | Less ↦ λ t. or-turn (is_eq (slice_cmp nat_cmp path k.items)) (has_key (x ∷ xs) path)
      | Equal ↦ λ t. or-twice (is_eq (slice_cmp nat_cmp path x.items)) (has_key xs path) ∙ ap (λ y. has_key (x ∷ xs) path || is_eq (slice_cmp nat_cmp path y)) (sym (only_equal_tie k.items x.items t))
      | Greater ↦ λ t. ap (λ b. is_eq (slice_cmp nat_cmp path x.items) || b) (has_key-insert_key xs k path) ∙ or-among (is_eq (slice_cmp nat_cmp path x.items)) (has_key xs path) (is_eq (slice_cmp nat_cmp path k.items))
    ] refl

and-end : (b : Bool) (v : Option Bytes) → is_some v ≡ false → (b && same_version v None) ≡ b
and-end true None e = refl
and-end false None e = refl
and-end b (Some v) e = cc

no-version : (b : Bool) (v : Option Bytes) → is_some v ≡ true → (b && same_version v None) ≡ false
no-version b None e = cc
no-version true (Some v) e = refl
no-version false (Some v) e = refl

-- one more identifier
pub plain-turn : (ids : List Ident) (i : ℕ) (id : Ident) (old new : List (Vec ℕ Global)) (k : Vec ℕ Global) (path : Bytes) → i < length ids → id ≡ get_or ids i id → is_some id.version ≡ false → k.items ≡ id.path → new ≡ insert_key (λ (x y : Vec ℕ Global). slice_cmp nat_cmp x.items y.items) old k → has_key old path ≡ list_any (is_id path None) (take i ids) → has_key new path ≡ list_any (is_id path None) (take (i + 1) ids)
plain-turn ids i id old new k path h at plain key put so_far =
    ap (λ keys. has_key keys path) put
    ∙ has_key-insert_key old k path
    ∙ (λ j. so_far j || (ap (λ p. is_eq (slice_cmp nat_cmp path p)) key ∙ same_test path id.path ∙ sym (and-end _ id.version plain)) j)
    ∙ ap (λ b. list_any (is_id path None) (take i ids) || b) (sym (or-false (is_id path None id)))
    ∙ sym (list_any-append (is_id path None) (take i ids) (id ∷ []))
    ∙ ap (λ y. list_any (is_id path None) (take i ids ++ y ∷ [])) at
    ∙ ap (list_any (is_id path None)) (sym (take_more ids i id h))

pub other-turn : (ids : List Ident) (i : ℕ) (id : Ident) (old : List (Vec ℕ Global)) (path : Bytes) → i < length ids → id ≡ get_or ids i id → is_some id.version ≡ true → has_key old path ≡ list_any (is_id path None) (take i ids) → has_key old path ≡ list_any (is_id path None) (take (i + 1) ids)
other-turn ids i id old path h at versioned so_far =
    so_far
    ∙ sym (or-false (list_any (is_id path None) (take i ids)))
    ∙ ap (λ b. list_any (is_id path None) (take i ids) || b) (sym (or-false (is_id path None id) ∙ no-version _ id.version versioned))
    ∙ sym (list_any-append (is_id path None) (take i ids) (id ∷ []))
    ∙ ap (λ y. list_any (is_id path None) (take i ids ++ y ∷ [])) at
    ∙ ap (list_any (is_id path None)) (sym (take_more ids i id h))

pub fold-turn : {A X : Type 0} (f : A → X → A) (start : A) (xs : List X) (i : ℕ) (x : X) (old new : A) → i < length xs → x ≡ get_or xs i x → old ≡ fold f start (take i xs) → new ≡ f old x → new ≡ fold f start (take (i + 1) xs)
fold-turn f start xs i x old new h at so_far put =
    put
    ∙ (λ k. f (so_far k) (at k))
    ∙ sym (fold-append f start (take i xs) (get_or xs i x ∷ []))
    ∙ ap (fold f start) (sym (take_more xs i x h))
