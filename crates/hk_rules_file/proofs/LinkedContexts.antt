-- Contexts that are read have numbers in range, and their names differ.
use Rattle.std.proofs.Common.{◌≡◌, ℕ, ◌-◌, ◌+◌, ◌≤◌, Bool, true, false, cond, not, List, [], ◌∷◌, ◌++◌, length, Option, Some, None, Result, Ok, Err, IfOk, refl, sym, ap, subst, ◌∙◌, arith, length-append, append_assoc, append-nil}
use Rattle.std.specs.Prelude.{bytes_eq, nat_le, ◌&&◌}
use Rattle.std.specs.List.{AllByRecursion, IsDistinct, fold}
use Rattle.std.proofs.lemmas.List.{map-append, length-map}
use Rattle.toml.specs.Data.{Data, Members, no_members, member}
use Rattle.hk_base.specs.Bytes.{Bytes}
use Rattle.hk_base.specs.Ties.{bytes-same, bytes-self}
use Rattle.hk_base.proofs.Both.{left-part, right-part, not-both}
use Rattle.hk_chain.specs.Context.{ContextView}
use Rattle.hk_chain.specs.declared.context.Field.{Field}
use Rattle.hk_pattern.specs.declared.pattern.Pattern.{Pattern}
use Rattle.hk_rules_file.specs.ContextForm.{FileContext, built_in, written, name_in, names_in, written_in, is_early, with_built_in, listed, names_of, most_contexts, may_define, named, linked, context_of, context_in, contexts_from, contexts_in}
use Rattle.hk_steps.specs.FieldForm.{context_fields}
use Rattle.hk_rules_file.specs.ContextNames.{keys_in}
use Rattle.hk_rules_file.specs.Linked.{name_of, context_names}
use Rattle.hk_rules_file.specs.Linking.{link_fields}
use Rattle.hk_forms.specs.Names.{is_context_name}
use Rattle.hk_rules_file.specs.Numbering.{place_of, texts_of, with_name, with_name_by}
use Rattle.hk_steps.specs.StepForm.{default_name}
use Rattle.hk_steps.specs.declared.draft.DraftField.{DraftField}
use Rattle.hk_rules_file.specs.TableForm.{required, and_then}
use Rattle.hk_rules_file.specs.declared.fault.RulesFault.{RulesFault}
use Rattle.hk_rules_file.specs.declared.fault.RulesFault.TheVariants.{BadContext}
use Rattle.hk_rules_file.proofs.LinkedNumbers.{all-push, all-weaken, IsGrown, grown-same, grown-more}
use Rattle.hk_rules_file.proofs.LinkedSteps.{Holds}
use Rattle.hk_rules_file.proofs.LinkedFields.{FieldsWithin, AreLinkedFields, IsReadyField, fields-ready, fields-more, default-within, link_fields-linked}

-- ---- names

-- the names of all contexts, in order
abbrev pub all_names : Members → List Bytes
all_names ms = names_in (listed ms)

-- a table writes a context under each of its keys
pub written-keys : (room : ℕ) (ms : Members) → names_in (written_in room ms) ≡ keys_in ms
written-keys room no_members = refl
written-keys room (member name d ms) = ap (λ names. name ∷ names) (written-keys (room - 1) ms)

named-short : (o : Option ℕ) (names : List Bytes) (name : Bytes) → length (with_name_by o names name) ≤ length names + 1
named-short None names name = omega (arith, length-append names (name ∷ []))
named-short (Some n) names name = omega arith

names-short : (added names : List Bytes) → length (fold with_name names added) ≤ length names + length added
names-short [] names = omega arith
names-short (name ∷ added) names =
    let later = names-short added (with_name names name) in
    let here = named-short (place_of name names) names name in
    omega arith

-- there are no more names than contexts
names_of-short : (ms : Members) → length (names_of ms) ≤ length (all_names ms)
names_of-short ms =
    let short = names-short (all_names ms) [] in
    omega arith

-- ---- names that differ

pub not-holds : (b : Bool) → not b ≡ true → b ≡ false
not-holds true e = sym e
not-holds false e = refl

differ-flip : (x y : Bytes) → bytes_eq x y ≡ false → bytes_eq y x ≡ false
differ-flip x y h = elim (bytes_eq y x) as (λ b. bytes_eq y x ≡ b → b ≡ false) [
  | true ↦ λ e. not-both (bytes_eq x x) (bytes-self x) (subst (λ z. bytes_eq x z ≡ false) (bytes-same y x e) h)
  | false ↦ λ e. refl
] refl

abbrev pub IsOther : Bytes → Type 0
IsOther name = bytes_eq name default_name ≡ false

-- what holds of the names of contexts and of the one that is built in
pub all-placed : (P : Bytes → Type 0) → P default_name → (cs : List FileContext) → AllByRecursion P (names_in cs) → AllByRecursion P (names_in (with_built_in cs))
all-placed P own [] h = (own, tt)
all-placed P own (c ∷ cs) h = elim (is_early (name_in c)) as (λ b. AllByRecursion P (names_in (cond b (c ∷ with_built_in cs) (built_in ∷ c ∷ cs)))) [
  | true ↦ (h.0, all-placed P own cs h.1)
  | false ↦ (own, h)
]

placed-distinct : (cs : List FileContext) → IsDistinct bytes_eq (names_in cs) → AllByRecursion IsOther (names_in cs) → IsDistinct bytes_eq (names_in (with_built_in cs))
unfolding IsDistinct
placed-distinct [] d h = (tt, tt)
placed-distinct (c ∷ cs) d h = elim (is_early (name_in c)) as (λ b. IsDistinct bytes_eq (names_in (cond b (c ∷ with_built_in cs) (built_in ∷ c ∷ cs)))) [
  | true ↦ (all-placed (λ y. bytes_eq (name_in c) y ≡ false) h.0 cs d.0, placed-distinct cs d.1 h.1)
  | false ↦ (all-weaken IsOther (λ y. bytes_eq default_name y ≡ false) (λ y k. differ-flip y default_name k) (names_in (c ∷ cs)) h, d)
]

-- ---- contexts

abbrev ContextsWithin : ℕ → List Pattern → List ContextView → Type 0
ContextsWithin contexts pool cs = AllByRecursion (λ context. FieldsWithin contexts pool context.fields) cs

pub contexts-more : (c d : ℕ) (pool next : List Pattern) → c ≤ d → IsGrown pool next → (cs : List ContextView) → ContextsWithin c pool cs → ContextsWithin d next cs
contexts-more c d pool next le g cs h = all-weaken (λ context. FieldsWithin c pool context.fields) (λ context. FieldsWithin d next context.fields) (λ context k. fields-more c d pool next le g context.fields k) cs h

abbrev IsWritten : Bytes → Type 0
IsWritten name = is_context_name name ≡ true

-- a context that is written has a well-formed name, which isn't that of the one that is built in
abbrev IsSound : FileContext → Type 0
IsSound built_in = Unit {0}
IsSound (written name room d) = IsOther name × IsWritten name

-- what a context is read as, and the patterns then
record IsContext (names : List Bytes) (pool : List Pattern) (c : FileContext) (r : ContextView × List Pattern) : Type 0 where
  named : r.0.name ≡ name_in c
  sound : IsSound c
  within : FieldsWithin (length names) r.1 r.0.fields
  grown : IsGrown pool r.1

named-context : (names : List Bytes) (pool : List Pattern) (name : Bytes) (room : ℕ) (d : Data) (o : Option (List Field × List Pattern)) → IsSound (written name room d) → Holds (AreLinkedFields (length names) pool) o → Holds (IsContext names pool (written name room d)) (named name o)
named-context names pool name room d None sound h = tt
named-context names pool name room d (Some r) sound h = record { named = refl; sound = sound; within = h.within; grown = h.grown }

linked-context : (names : List Bytes) (pool : List Pattern) (name : Bytes) (room : ℕ) (d : Data) (drafts : Option (List DraftField)) → IsSound (written name room d) → Holds (AllByRecursion IsReadyField) drafts → Holds (IsContext names pool (written name room d)) (linked names pool name drafts)
linked-context names pool name room d None sound h = tt
linked-context names pool name room d (Some drafts) sound h = named-context names pool name room d (link_fields names drafts pool []) sound (link_fields-linked names drafts pool [] h tt)

context_of-context : (names : List Bytes) (room : ℕ) (pool : List Pattern) (name : Bytes) (d : Data) → Holds (IsContext names pool (written name room d)) (context_of names room pool name d)
context_of-context names room pool name d = elim (may_define room name) as (λ b. may_define room name ≡ b → Holds (IsContext names pool (written name room d)) (cond b (linked names pool name (context_fields d)) None)) [
  | true ↦ λ e.
      let other = not-holds (bytes_eq name default_name) (right-part (nat_le 1 room && is_context_name name) (not (bytes_eq name default_name)) e) in
      let formed = right-part (nat_le 1 room) (is_context_name name) (left-part (nat_le 1 room && is_context_name name) (not (bytes_eq name default_name)) e) in
      linked-context names pool name room d (context_fields d) (other, formed) (fields-ready d)
  | false ↦ λ e. tt
] refl

required-context : (names : List Bytes) (pool : List Pattern) (c : FileContext) (fault : RulesFault) (o : Option (ContextView × List Pattern)) → Holds (IsContext names pool c) o → IfOk (required fault o) (IsContext names pool c)
required-context names pool c fault (Some r) h = h
required-context names pool c fault None h = tt

context_in-context : (names : List Bytes) (pool : List Pattern) (c : FileContext) → IfOk (context_in names pool c) (IsContext names pool c)
context_in-context names pool built_in = record { named = refl; sound = tt; within = default-within (length names) pool; grown = grown-same pool }
context_in-context names pool (written name room d) = required-context names pool (written name room d) (BadContext name) (context_of names room pool name d) (context_of-context names room pool name d)

-- contexts after those that are done, and the patterns then
record ArePushed (names : List Bytes) (pool : List Pattern) (done : List ContextView) (cs : List FileContext) (r : List ContextView × List Pattern) : Type 0 where
  named : context_names r.0 ≡ context_names done ++ names_in cs
  sound : AllByRecursion IsSound cs
  within : ContextsWithin (length names) r.1 r.0
  grown : IsGrown pool r.1

abbrev Read : Type 0
Read = Result (List ContextView × List Pattern) RulesFault

pushed-more : (names : List Bytes) (pool : List Pattern) (done : List ContextView) (c : FileContext) (cs : List FileContext) (one : ContextView × List Pattern) → IsContext names pool c one → (r : Read) → IfOk r (ArePushed names one.1 (done ++ one.0 ∷ []) cs) → IfOk r (ArePushed names pool done (c ∷ cs))
pushed-more names pool done c cs one k (Err fault) h = tt
pushed-more names pool done c cs one k (Ok r) h =
    record {
      named = h.named ∙ ap (λ ns. ns ++ names_in cs) (map-append name_of done (one.0 ∷ [])) ∙ append_assoc (context_names done) (name_of one.0 ∷ []) (names_in cs) ∙ ap (λ n. context_names done ++ n ∷ names_in cs) k.named;
      sound = (k.sound, h.sound);
      within = h.within;
      grown = grown-more pool one.1 r.1 k.grown h.grown;
    }

pushed-next : (names : List Bytes) (pool : List Pattern) (done : List ContextView) (c : FileContext) (cs : List FileContext) → ContextsWithin (length names) pool done → ((next : List Pattern) (more : List ContextView) → ContextsWithin (length names) next more → IfOk (contexts_from names cs next more) (ArePushed names next more cs))
    → (r : Result (ContextView × List Pattern) RulesFault) → IfOk r (IsContext names pool c) → IfOk (and_then r (λ one. contexts_from names cs one.1 (done ++ one.0 ∷ []))) (ArePushed names pool done (c ∷ cs))
pushed-next names pool done c cs h later (Err fault) k = tt
pushed-next names pool done c cs h later (Ok one) k =
    pushed-more names pool done c cs one k (contexts_from names cs one.1 (done ++ one.0 ∷ []))
    (later one.1 (done ++ one.0 ∷ []) (all-push (λ context. FieldsWithin (length names) one.1 context.fields) done one.0 (contexts-more (length names) (length names) pool one.1 (omega arith) k.grown done h) k.within))

contexts_from-pushed : (names : List Bytes) (cs : List FileContext) (pool : List Pattern) (done : List ContextView) → ContextsWithin (length names) pool done → IfOk (contexts_from names cs pool done) (ArePushed names pool done cs)
contexts_from-pushed names [] pool done h = record { named = sym (append-nil (context_names done)); sound = tt; within = h; grown = grown-same pool }
contexts_from-pushed names (c ∷ cs) pool done h = pushed-next names pool done c cs h (λ next more k. contexts_from-pushed names cs next more k) (context_in names pool c) (context_in-context names pool c)

-- the contexts of a table, and the patterns then
pub record AreContexts (names : List Bytes) (ms : Members) (r : List ContextView × List Pattern) : Type 0 where
  pub named : context_names r.0 ≡ all_names ms
  pub others : AllByRecursion IsOther (keys_in ms)
  pub written : AllByRecursion (λ name. is_context_name name ≡ true) (context_names r.0)
  pub within : AllByRecursion (λ context. FieldsWithin (length names) r.1 context.fields) r.0
  pub texts : IsDistinct bytes_eq (texts_of r.1)

placed-sound : (cs : List FileContext) → AllByRecursion IsSound (with_built_in cs) → AllByRecursion IsSound cs
placed-sound [] h = tt
placed-sound (c ∷ cs) h = (elim (is_early (name_in c)) as (λ b. AllByRecursion IsSound (cond b (c ∷ with_built_in cs) (built_in ∷ c ∷ cs)) → AllByRecursion IsSound (c ∷ cs)) [
  | true ↦ λ k. (k.0, placed-sound cs k.1)
  | false ↦ λ k. k.1
]) h

keys-other : (room : ℕ) (ms : Members) → AllByRecursion IsSound (written_in room ms) → AllByRecursion IsOther (keys_in ms)
keys-other room no_members h = tt
keys-other room (member name d ms) h = (h.0.0, keys-other (room - 1) ms h.1)

sound-written : (c : FileContext) → IsSound c → IsWritten (name_in c)
sound-written built_in h = refl
sound-written (written name room d) h = h.1

names-written : (cs : List FileContext) → AllByRecursion IsSound cs → AllByRecursion IsWritten (names_in cs)
names-written [] h = tt
names-written (c ∷ cs) h = (sound-written c h.0, names-written cs h.1)

listed-other : (ms : Members) → AllByRecursion IsSound (listed ms) → AllByRecursion IsOther (keys_in ms)
unfolding listed
listed-other ms h = keys-other most_contexts ms (placed-sound (written_in most_contexts ms) h)

pushed-contexts : (names : List Bytes) (ms : Members) (r : Read) → IfOk r (ArePushed names [] [] (listed ms)) → IfOk r (AreContexts names ms)
unfolding IsDistinct
pushed-contexts names ms (Err fault) h = tt
pushed-contexts names ms (Ok r) h =
    record {
      named = h.named;
      others = listed-other ms h.sound;
      written = subst (AllByRecursion IsWritten) (sym h.named) (names-written (listed ms) h.sound);
      within = h.within;
      texts = h.grown.apart tt;
    }

pub contexts_in-contexts : (names : List Bytes) (ms : Members) → IfOk (contexts_in names ms) (AreContexts names ms)
contexts_in-contexts names ms = pushed-contexts names ms (contexts_in names ms) (contexts_from-pushed names (listed ms) [] [] tt)

all_names-distinct : (ms : Members) → IsDistinct bytes_eq (keys_in ms) → AllByRecursion IsOther (keys_in ms) → IsDistinct bytes_eq (all_names ms)
unfolding listed
all_names-distinct ms d h =
    let keys = sym (written-keys most_contexts ms) in
    placed-distinct (written_in most_contexts ms) (subst (IsDistinct bytes_eq) keys d) (subst (AllByRecursion IsOther) keys h)

-- where no key stands twice, the names differ
pub contexts-distinct : (names : List Bytes) (ms : Members) (r : List ContextView × List Pattern) → IsDistinct bytes_eq (keys_in ms) → AreContexts names ms r → IsDistinct bytes_eq (context_names r.0)
contexts-distinct names ms r d h = subst (IsDistinct bytes_eq) (sym h.named) (all_names-distinct ms d h.others)

pub contexts-many : (ms : Members) (r : List ContextView × List Pattern) → AreContexts (names_of ms) ms r → length (names_of ms) ≤ length r.0
contexts-many ms r h =
    let short = names_of-short ms in
    let same : length (context_names r.0) ≡ length (all_names ms) = ap length h.named in
    omega (arith, length-map r.0 name_of)
