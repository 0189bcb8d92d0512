-- The numbers in fields are the places of what is written there.
use Rattle.std.proofs.Common.{◌≡◌, ℕ, suc, true, false, if◌then◌else◌, bytes_eq, List, [], ◌∷◌, ◌++◌, refl, sym, ap, subst, ◌∙◌, append_assoc, append-nil, Option, Some, None, option_map}
use Rattle.std.proofs.lemmas.List.{map-append, length-map}
use Rattle.std.proofs.lemmas.Slice.Eq.{bytes_eq-Decides}
use Rattle.hk_base.specs.Bytes.{Bytes}
use Rattle.hk_chain.specs.declared.context.Field.{Field}
use Rattle.hk_chain.specs.declared.context.Field.TheVariants.{List as ListField}
use Rattle.hk_forms.specs.PatternText.{text_of}
use Rattle.hk_pattern.specs.declared.pattern.Pattern.{Pattern}
use Rattle.hk_rules_file.specs.Linking.{default_fields, list_field, link_field, next_field, link_fields}
use Rattle.hk_rules_file.specs.Numbering.{place_of, texts_of, numbered_by, numbered}
use Rattle.hk_rules_file.specs.Numbers.{StandsAt, GoesOnTo}
use Rattle.hk_steps.specs.declared.draft.DraftField.{DraftField}
use Rattle.hk_steps.specs.declared.draft.DraftField.TheVariants.{Default, Whole, Several}
use Rattle.hk_laws.specs.FieldPlaces.{AreMeant, AreAllMeant, FieldsTellPlaces}

-- ---- places

stands_here : (x text : Bytes) (xs : List Bytes) (n : ℕ) → x ≡ text → 0 ≡ n → StandsAt (x ∷ xs) n text
stands_here x text xs n is at = record { before = []; after = xs; same = ap (λ (t : Bytes). t ∷ xs) is; at = at }

stands_later : (x text : Bytes) (xs : List Bytes) (n : ℕ) (o : Option ℕ) → ((m : ℕ) → o ≡ Some m → StandsAt xs m text) → option_map suc o ≡ Some n → StandsAt (x ∷ xs) n text
stands_later x text xs n None inner e = let no_ : ⊥ = cc in absurd no_
stands_later x text xs n (Some m) inner e =
    let is : suc m ≡ n = cc in
    let more = inner m refl in
    record { before = x ∷ more.before; after = more.after; same = ap (λ (ts : List Bytes). x ∷ ts) more.same; at = ap suc more.at ∙ is }

stands : (text : Bytes) (texts : List Bytes) (n : ℕ) → place_of text texts ≡ Some n → StandsAt texts n text
stands text [] n e = let no_ : ⊥ = cc in absurd no_
stands text (x ∷ xs) n e =
    elim (bytes_eq x text) as (λ b. bytes_eq x text ≡ b → (if b then Some 0 else option_map suc (place_of text xs)) ≡ Some n → StandsAt (x ∷ xs) n text) [
      | true ↦ λ is found. let at : 0 ≡ n = cc in stands_here x text xs n ((bytes_eq-Decides x text).0 is) at
      | false ↦ λ _ found. stands_later x text xs n (place_of text xs) (λ m f. stands text xs m f) found
    ] refl e

-- ---- patterns that go on

no_more : (patterns : List Pattern) → GoesOnTo patterns patterns
no_more patterns = record { more = []; same = sym (append-nil patterns) }

and_on : (a b c : List Pattern) → GoesOnTo a b → GoesOnTo b c → GoesOnTo a c
and_on a b c first second = record {
  more = first.more ++ second.more;
  same = second.same ∙ ap (λ (ps : List Pattern). ps ++ second.more) first.same ∙ append_assoc a first.more second.more;
}

abbrev IsNumbered : List Pattern → Pattern → ℕ × List Pattern → Type 0
IsNumbered patterns pattern r = StandsAt (texts_of r.1) r.0 (text_of pattern) × GoesOnTo patterns r.1

numbered_is : (patterns : List Pattern) (pattern : Pattern) (place : Option ℕ) → place_of (text_of pattern) (texts_of patterns) ≡ place → IsNumbered patterns pattern (numbered_by place patterns pattern)
numbered_is patterns pattern (Some n) e = (stands (text_of pattern) (texts_of patterns) n e, no_more patterns)
numbered_is patterns pattern None e = (
  record {
    before = texts_of patterns;
    after = [];
    same = map-append text_of patterns (pattern ∷ []);
    at = length-map patterns text_of;
  },
  record { more = pattern ∷ []; same = refl },
)

stays : (patterns longer : List Pattern) (n : ℕ) (text : Bytes) → GoesOnTo patterns longer → StandsAt (texts_of patterns) n text → StandsAt (texts_of longer) n text
stays patterns longer n text goes at = record {
  before = at.before;
  after = at.after ++ texts_of goes.more;
  same = ap texts_of goes.same ∙ map-append text_of patterns goes.more ∙ ap (λ (ts : List Bytes). ts ++ texts_of goes.more) at.same ∙ append_assoc at.before (text ∷ at.after) (texts_of goes.more);
  at = at.at;
}

meant_stays : (names : List Bytes) (patterns longer : List Pattern) (draft : DraftField) (fields : List Field) → GoesOnTo patterns longer → AreMeant names patterns draft fields → AreMeant names longer draft fields
meant_stays names patterns longer Default fields goes is = is
meant_stays names patterns longer (Whole field) fields goes is = is
meant_stays names patterns longer (Several key of snapshot order limit context) fields goes is = record {
  pattern = is.pattern;
  place = is.place;
  same = is.same;
  pattern_stands = stays patterns longer is.pattern (text_of of) goes is.pattern_stands;
  context_stands = is.context_stands;
}

-- ---- one member, and all

record One (names : List Bytes) (pool : List Pattern) (done : List Field) (draft : DraftField) (r : List Field × List Pattern) : Type 0 where
  pub own : List Field
  pub same : r.0 ≡ done ++ own
  pub meant : AreMeant names r.1 draft own
  pub goes : GoesOnTo pool r.1

one_is : (names : List Bytes) (pool : List Pattern) (done : List Field) (draft : DraftField) (r : List Field × List Pattern) → link_field names pool done draft ≡ Some r → One names pool done draft r
one_is names pool done Default r e =
    let here : List Field × List Pattern = (done ++ default_fields, pool) in
    let is : here ≡ r = cc in
    subst (One names pool done Default) is (record { own = default_fields; same = refl; meant = refl; goes = no_more pool })
one_is names pool done (Whole field) r e =
    let here : List Field × List Pattern = (done ++ field ∷ [], pool) in
    let is : here ≡ r = cc in
    subst (One names pool done (Whole field)) is (record { own = field ∷ []; same = refl; meant = refl; goes = no_more pool })
one_is names pool done (Several key of snapshot order limit context) r e = go (place_of context names) refl (numbered pool of) (numbered_is pool of (place_of (text_of of) (texts_of pool)) refl) e
  where
    go : (place : Option ℕ) → place_of context names ≡ place → (q : ℕ × List Pattern) → IsNumbered pool of q → list_field done q key snapshot order limit place ≡ Some r
        → One names pool done (Several key of snapshot order limit context) r
    go None at q is e = let no_ : ⊥ = cc in absurd no_
    go (Some place) at q is e =
        let here : List Field × List Pattern = (done ++ ListField key q.0 snapshot order limit place ∷ [], q.1) in
        let same_ : here ≡ r = cc in
        subst (One names pool done (Several key of snapshot order limit context)) same_ (record {
          own = ListField key q.0 snapshot order limit place ∷ [];
          same = refl;
          meant = record { pattern = q.0; place = place; same = refl; pattern_stands = is.0; context_stands = stands context names place at };
          goes = is.1;
        })

record All (names : List Bytes) (pool : List Pattern) (drafts : List DraftField) (done : List Field) (read : List Field × List Pattern) : Type 0 where
  pub fields : List Field
  pub same : read.0 ≡ done ++ fields
  pub meant : AreAllMeant names read.1 drafts fields
  pub goes : GoesOnTo pool read.1

all_more : (names : List Bytes) (pool : List Pattern) (draft : DraftField) (drafts : List DraftField) (done : List Field) (one read : List Field × List Pattern) → One names pool done draft one → All names one.1 drafts one.0 read
    → All names pool (draft ∷ drafts) done read
all_more names pool draft drafts done one read is inner = record {
  fields = is.own ++ inner.fields;
  same = inner.same ∙ ap (λ (fields : List Field). fields ++ inner.fields) is.same ∙ append_assoc done is.own inner.fields;
  meant = (is.own, inner.fields, refl, meant_stays names one.1 read.1 draft is.own inner.goes is.meant, inner.meant);
  goes = and_on pool one.1 read.1 is.goes inner.goes;
}

all_by : (names : List Bytes) (pool : List Pattern) (draft : DraftField) (drafts : List DraftField) (done : List Field) (read : List Field × List Pattern) (o : Option (List Field × List Pattern))
    → ((one : List Field × List Pattern) → o ≡ Some one → One names pool done draft one) → ((one : List Field × List Pattern) → link_fields names drafts one.1 one.0 ≡ Some read → All names one.1 drafts one.0 read)
    → next_field (link_fields names drafts) o ≡ Some read → All names pool (draft ∷ drafts) done read
all_by names pool draft drafts done read None first rest e = let no_ : ⊥ = cc in absurd no_
all_by names pool draft drafts done read (Some one) first rest e = all_more names pool draft drafts done one read (first one refl) (rest one e)

all_from : (drafts : List DraftField) (names : List Bytes) (pool : List Pattern) (done : List Field) (read : List Field × List Pattern) → link_fields names drafts pool done ≡ Some read → All names pool drafts done read
all_from [] names pool done read e =
    let here : List Field × List Pattern = (done, pool) in
    let is : here ≡ read = cc in
    subst (All names pool [] done) is (record { fields = []; same = sym (append-nil done); meant = refl; goes = no_more pool })
all_from (draft ∷ drafts) names pool done read e =
    all_by names pool draft drafts done read (link_field names pool done draft) (λ one f. one_is names pool done draft one f) (λ one f. all_from drafts names one.1 one.0 read f) e

pub fields_tell_places : FieldsTellPlaces link_fields
fields_tell_places names drafts patterns read e =
    let all = all_from drafts names patterns [] read e in
    (subst (λ (fields : List Field). AreAllMeant names read.1 drafts fields) (sym all.same) all.meant, all.goes)
