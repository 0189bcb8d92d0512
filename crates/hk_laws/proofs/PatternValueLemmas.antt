-- Identifiers and patterns are read exactly where they are such values.
use Rattle.std.proofs.Common.{◌≡◌, ◌≤◌, ℕ, zero, suc, Bool, true, false, not, nat_lt, if◌then◌else◌, codes, length, refl, sym, ap, subst, ◌∙◌, Option, Some, None, Ok, Err, option_map, List}
use Rattle.std.specs.Prelude.{is_some, option_and_then}
use Rattle.toml.specs.Data.{Data, string, integer, float, boolean, datetime, array, table, Items, no_members, member, as_str, as_bool, as_table, as_array}
use Rattle.hk_base.specs.Bytes.{Bytes}
use Rattle.hk_base.specs.Identifier.{Ident, path_fault, is_path, is_version, version_fault, first_of, unless}
use Rattle.hk_base.specs.declared.identifier.IdentFault.{IdentFault}
use Rattle.hk_base.specs.declared.identifier.IdentFault.TheVariants.{BadVersion}
use Rattle.hk_forms.specs.IdForm.{value_of, ident_at, id_pair, id_by, id_of, version_by, version_of, path_of}
use Rattle.hk_forms.specs.Members.{only, two}
use Rattle.hk_forms.specs.PatternForm.{glob_of, ids_by, no_version as version_none, and_by, or_by, keyed, pattern_by, pattern_at, pattern_of}
use Rattle.hk_pattern.specs.declared.glob.GlobFault.TheVariants.{TooLong}
use Rattle.hk_pattern.specs.declared.pattern.Pattern.{Pattern, Glob, Ids, And, Or, Not, HasVersion, HasNoVersion}
use Rattle.hk_rules_file.specs.RuleForm.{paths_by, paths_of}
use Rattle.hk_laws.specs.Values.{Reads, only_at, two_items}
use Rattle.hk_laws.specs.PatternValues.{IsIdent, bare, versioned, PatternRow, bare_glob, glob, ids, all, any, other, has_version, no_version, IsPatternWithin, IsPattern, IsCreated, created, AreCreated, IsVersion, versioning}
use Rattle.hk_laws.proofs.ValueLemmas.{at_key, tested, of_map, lt_not, not_lt, is_string, is_boolean, is_two, is_listed, list_is, listed_is, is_array}

-- ---- identifiers

abbrev path_only : Bytes → Ident
path_only path = record { path = path; version = None }

abbrev with_version : Bytes → Bytes → Ident
with_version path own = record { path = path; version = Some own }

no_fault : (path : Bytes) (fault : Option IdentFault) → not (is_some fault) ≡ true → fault ≡ None
no_fault path None e = refl
no_fault path (Some fault) e = let no_ : ⊥ = cc in absurd no_

at_path : (path : Bytes) → is_path path ≡ true → ident_at path None ≡ Some (path_only path)
at_path path e = ap (λ f. value_of (unless (first_of f None) (path_only path))) (no_fault path (path_fault path) e)

path_at : (path : Bytes) (id : Ident) → ident_at path None ≡ Some id → (is_path path ≡ true) × (path_only path ≡ id)
path_at path id e = go (path_fault path) e
  where
    go : (fault : Option IdentFault) → value_of (unless (first_of fault None) (path_only path)) ≡ Some id → (not (is_some fault) ≡ true) × (path_only path ≡ id)
    go None e = let same : path_only path ≡ id = cc in (refl, same)
    go (Some fault) e = let no_ : ⊥ = cc in absurd no_

at_both : (path version : Bytes) → is_path path ≡ true → is_version version ≡ true → ident_at path (Some version) ≡ Some (with_version path version)
at_both path version e f =
    ap (λ p. value_of (unless (first_of p (version_fault (Some version))) (with_version path version))) (no_fault path (path_fault path) e)
    ∙ ap (λ b. value_of (unless (if b then None else Some BadVersion) (with_version path version))) f

both_at : (path version : Bytes) (id : Ident) → ident_at path (Some version) ≡ Some id → (is_path path ≡ true) × (is_version version ≡ true) × (with_version path version ≡ id)
both_at path version id e = go (path_fault path) (is_version version) e
  where
    go : (fault : Option IdentFault) (fits : Bool) → value_of (unless (first_of fault (if fits then None else Some BadVersion)) (with_version path version)) ≡ Some id
        → (not (is_some fault) ≡ true) × (fits ≡ true) × (with_version path version ≡ id)
    go None true e = let same : with_version path version ≡ id = cc in (refl, refl, same)
    go None false e = let no_ : ⊥ = cc in absurd no_
    go (Some fault) fits e = let no_ : ⊥ = cc in absurd no_

pair_ident : (ds : Items) (pair : Option (Data × Data)) (id : Ident) → two ds ≡ pair → id_pair pair ≡ Some id → IsIdent (array ds) id
pair_ident ds None id two_is e = let no_ : ⊥ = cc in absurd no_
pair_ident ds (Some p) id two_is e = go (as_str p.0) (as_str p.1) refl refl e
  where
    go : (path version : Option Bytes) → as_str p.0 ≡ path → as_str p.1 ≡ version → Rattle.hk_forms.specs.IdForm.versioned path version ≡ Some id → IsIdent (array ds) id
    go None version path_is version_is e = let no_ : ⊥ = cc in absurd no_
    go (Some path) None path_is version_is e = let no_ : ⊥ = cc in absurd no_
    go (Some path) (Some version) path_is version_is e =
        let is = both_at path version id e in
        let one = is_string p.0 path path_is in
        let more = is_string p.1 version version_is in
        subst (λ t. IsIdent (array t) id) (sym (is_two ds p.0 p.1 two_is ∙ (λ i. two_items (one i) (more i)))) (subst (IsIdent (array (two_items (string path) (string version)))) is.2 (versioned path version is.0 is.1))

ident_is : (d : Data) (id : Ident) → id_of d ≡ Some id → IsIdent d id
ident_is (string path) id e = let is = path_at path id e in subst (IsIdent (string path)) is.1 (bare path is.0)
ident_is (array ds) id e = pair_ident ds (two ds) id refl e
ident_is (integer z) id e = let no_ : ⊥ = cc in absurd no_
ident_is (float x) id e = let no_ : ⊥ = cc in absurd no_
ident_is (boolean b) id e = let no_ : ⊥ = cc in absurd no_
ident_is (datetime t) id e = let no_ : ⊥ = cc in absurd no_
ident_is (table ms) id e = let no_ : ⊥ = cc in absurd no_

is_ident : (d : Data) (id : Ident) → IsIdent d id → id_of d ≡ Some id
is_ident _ _ (bare path e) = at_path path e
is_ident _ _ (versioned path version e f) = at_both path version e f

pub reads_idents : Reads id_of IsIdent
reads_idents d id = (ident_is d id, is_ident d id)

-- ---- what a rule creates

created_is : (d : Data) (id : Ident) → path_of d ≡ Some id → IsCreated d id
created_is (string path) id e = let is = path_at path id e in subst (IsCreated (string path)) is.1 (created path is.0)
created_is (array ds) id e = let no_ : ⊥ = cc in absurd no_
created_is (integer z) id e = let no_ : ⊥ = cc in absurd no_
created_is (float x) id e = let no_ : ⊥ = cc in absurd no_
created_is (boolean b) id e = let no_ : ⊥ = cc in absurd no_
created_is (datetime t) id e = let no_ : ⊥ = cc in absurd no_
created_is (table ms) id e = let no_ : ⊥ = cc in absurd no_

is_created : (d : Data) (id : Ident) → IsCreated d id → path_of d ≡ Some id
is_created _ _ (created path e) = at_path path e

reads_created : Reads path_of IsCreated
reads_created d id = (created_is d id, is_created d id)

paths_is : (d : Data) (made : List Ident) (o : Option Items) → as_array d ≡ o → paths_by o ≡ Some made → AreCreated d made
paths_is d made None at e = let no_ : ⊥ = cc in absurd no_
paths_is d made (Some ds) at e = record { items = ds; array_is = is_array d ds at; listed = listed_is path_of IsCreated reads_created ds made e }

pub reads_paths : Reads paths_of AreCreated
reads_paths d made = (
  λ e. paths_is d made (as_array d) refl e,
  λ is. ap paths_of is.array_is ∙ is_listed path_of IsCreated reads_created is.items made is.listed,
)

-- ---- patterns

glob_is : (o : Option Bytes) (p : Pattern) → glob_of o ≡ Some p → (text : Bytes) × (o ≡ Some text) × (length text ≤ 1024) × (Glob text ≡ p)
glob_is None p e = let no_ : ⊥ = cc in absurd no_
glob_is (Some text) p e =
    elim (nat_lt 1024 (length text)) as (λ b. nat_lt 1024 (length text) ≡ b → option_map Glob (value_of (if b then Err TooLong else Ok text)) ≡ Some p → (t : Bytes) × (Some text ≡ Some t) × (length t ≤ 1024) × (Glob t ≡ p)) [
      | true ↦ λ _ no. let no_ : ⊥ = cc in absurd no_
      | false ↦ λ short is. let same : Glob text ≡ p = cc in (text, refl, lt_not 1024 (length text) short, same)
    ] refl e

is_glob : (text : Bytes) → length text ≤ 1024 → glob_of (Some text) ≡ Some (Glob text)
is_glob text short = ap (λ b. option_map Glob (value_of (if b then Err TooLong else Ok text))) (not_lt 1024 (length text) short)

version_is : (o : Option Bytes) (version : Bytes) → version_by o ≡ Some version → (o ≡ Some version) × (is_version version ≡ true)
version_is None version e = let no_ : ⊥ = cc in absurd no_
version_is (Some text) version e = let is = tested is_version text version e in (ap Some is.1, subst (λ t. is_version t ≡ true) is.1 is.0)

none_is : (o : Option Bool) (p : Pattern) → version_none o ≡ Some p → (o ≡ Some true) × (HasNoVersion ≡ p)
none_is None p e = let no_ : ⊥ = cc in absurd no_
none_is (Some true) p e = let same : HasNoVersion ≡ p = cc in (refl, same)
none_is (Some false) p e = let no_ : ⊥ = cc in absurd no_

-- the row of a table with this key alone, by what reads the patterns in it
row_at : (inner : Data → Option Pattern) (Inner : Data → Pattern → Type 0) → Reads inner Inner → (key : Bytes) (d : Data) (p : Pattern) → keyed inner key d ≡ Some p → PatternRow Inner (only_at key d) p
row_at inner Inner reads key d p e =
    at_key (λ k. PatternRow Inner (only_at k d) p) key (codes "and") _ _ p (λ f.
    let is = list_is inner Inner And (and_by inner) (λ ds. refl) refl reads d p f in
    subst (λ t. PatternRow Inner (only_at (codes "and") t) p) (sym is.2) (subst (PatternRow Inner (only_at (codes "and") (array is.0))) is.4 (all is.0 is.1 is.3)))
    (λ e. at_key (λ k. PatternRow Inner (only_at k d) p) key (codes "or") _ _ p (λ f.
    let is = list_is inner Inner Or (or_by inner) (λ ds. refl) refl reads d p f in
    subst (λ t. PatternRow Inner (only_at (codes "or") t) p) (sym is.2) (subst (PatternRow Inner (only_at (codes "or") (array is.0))) is.4 (any is.0 is.1 is.3)))
    (λ e. at_key (λ k. PatternRow Inner (only_at k d) p) key (codes "not") _ _ p (λ f.
    let is = of_map Not (inner d) p f in
    subst (PatternRow Inner (only_at (codes "not") d)) is.2 (other d is.0 ((reads d is.0).0 is.1)))
    (λ e. at_key (λ k. PatternRow Inner (only_at k d) p) key (codes "glob") _ _ p (λ f.
    let is = glob_is (as_str d) p f in
    subst (λ t. PatternRow Inner (only_at (codes "glob") t) p) (sym (is_string d is.0 is.1)) (subst (PatternRow Inner (only_at (codes "glob") (string is.0))) is.3 (glob is.0 is.2)))
    (λ e. at_key (λ k. PatternRow Inner (only_at k d) p) key (codes "ids") _ _ p (λ f.
    let is = list_is id_of IsIdent Ids ids_by (λ ds. refl) refl reads_idents d p f in
    subst (λ t. PatternRow Inner (only_at (codes "ids") t) p) (sym is.2) (subst (PatternRow Inner (only_at (codes "ids") (array is.0))) is.4 (ids is.0 is.1 is.3)))
    (λ e. at_key (λ k. PatternRow Inner (only_at k d) p) key (codes "has_version") _ _ p (λ f.
    let made = of_map HasVersion (version_of d) p f in
    let is = version_is (as_str d) made.0 made.1 in
    subst (λ t. PatternRow Inner (only_at (codes "has_version") t) p) (sym (is_string d made.0 is.0)) (subst (PatternRow Inner (only_at (codes "has_version") (string made.0))) made.2 (has_version made.0 is.1)))
    (λ e. at_key (λ k. PatternRow Inner (only_at k d) p) key (codes "no_version") _ _ p (λ f.
    let is = none_is (as_bool d) p f in
    subst (λ t. PatternRow Inner (only_at (codes "no_version") t) p) (sym (is_boolean d true is.0)) (subst (PatternRow Inner (only_at (codes "no_version") (boolean true))) is.1 no_version))
    (λ e. let no_ : ⊥ = cc in absurd no_) e) e) e) e) e) e) e

row_is : (inner : Data → Option Pattern) (Inner : Data → Pattern → Type 0) → Reads inner Inner → (d : Data) (p : Pattern) → pattern_by inner (as_str d) (option_and_then only (as_table d)) ≡ Some p → PatternRow Inner d p
row_is inner Inner reads (string text) p e =
    let is = glob_is (Some text) p e in
    let same : text ≡ is.0 = let s = is.1 in cc in
    subst (λ t. PatternRow Inner (string t) p) (sym same) (subst (PatternRow Inner (string is.0)) is.3 (bare_glob is.0 is.2))
row_is inner Inner reads (table (member k d no_members)) p e = row_at inner Inner reads k d p e
row_is inner Inner reads (table no_members) p e = let no_ : ⊥ = cc in absurd no_
row_is inner Inner reads (table (member k d (member l f ms))) p e = let no_ : ⊥ = cc in absurd no_
row_is inner Inner reads (integer z) p e = let no_ : ⊥ = cc in absurd no_
row_is inner Inner reads (float x) p e = let no_ : ⊥ = cc in absurd no_
row_is inner Inner reads (boolean b) p e = let no_ : ⊥ = cc in absurd no_
row_is inner Inner reads (datetime t) p e = let no_ : ⊥ = cc in absurd no_
row_is inner Inner reads (array ds) p e = let no_ : ⊥ = cc in absurd no_

is_row : (inner : Data → Option Pattern) (Inner : Data → Pattern → Type 0) → Reads inner Inner → (d : Data) (p : Pattern) → PatternRow Inner d p → pattern_by inner (as_str d) (option_and_then only (as_table d)) ≡ Some p
is_row inner Inner reads _ _ (bare_glob text short) = is_glob text short
is_row inner Inner reads _ _ (glob text short) = is_glob text short
is_row inner Inner reads _ _ (ids ds xs listed_) = ap (option_map Ids) (is_listed id_of IsIdent reads_idents ds xs listed_)
is_row inner Inner reads _ _ (all ds ps listed_) = ap (option_map And) (is_listed inner Inner reads ds ps listed_)
is_row inner Inner reads _ _ (any ds ps listed_) = ap (option_map Or) (is_listed inner Inner reads ds ps listed_)
is_row inner Inner reads _ _ (other d p is) = ap (option_map Not) ((reads d p).1 is)
is_row inner Inner reads _ _ (has_version version fits) = ap (λ b. option_map HasVersion (if b then Some version else None)) fits
is_row inner Inner reads _ _ no_version = refl

pub reads_patterns_within : (n : ℕ) → Reads (pattern_at n) (IsPatternWithin n)
reads_patterns_within zero d p = (λ e. let no_ : ⊥ = cc in absurd no_, λ is. absurd is)
reads_patterns_within (suc n) d p =
    (row_is (pattern_at n) (IsPatternWithin n) (reads_patterns_within n) d p, is_row (pattern_at n) (IsPatternWithin n) (reads_patterns_within n) d p)

pub reads_patterns : Reads pattern_of IsPattern
reads_patterns = reads_patterns_within 16

is_version_of : (d : Data) (text : Bytes) → IsVersion d text → version_of d ≡ Some text
is_version_of _ _ (versioning text fits) = ap (λ b. if b then Some text else None) fits

pub reads_versions : Reads version_of IsVersion
reads_versions d text = (
  λ e. let is = version_is (as_str d) text e in subst (λ t. IsVersion t text) (sym (is_string d text is.0)) (versioning text is.1),
  is_version_of d text,
)
