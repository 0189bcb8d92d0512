-- Chains and contexts are read exactly where they are such values.
use Rattle.std.proofs.Common.{◌≡◌, ◌≤◌, ℕ, ◌-◌, Bool, true, false, ◌&&◌, nat_le, if◌then◌else◌, codes, List, [], ◌∷◌, length, refl, sym, ap, subst, ◌∙◌, arith, Option, Some, None}
use Rattle.std.proofs.lemmas.Bool.{and_parts}
use Rattle.toml.specs.Data.{Data, string, integer, float, boolean, datetime, array, table, Items, no_members, member, as_array}
use Rattle.hk_chain.specs.declared.chain.Step.TheVariants.{Body, Str, Copy, TemplateBody, Make, Load, Concat, Apply, SelfApply, Save, Relativize}
use Rattle.hk_forms.specs.Members.{each, count_items, fits}
use Rattle.hk_steps.specs.FieldForm.{width, not_wide, fits_context, fields_in, fields_by, context_fields, field_of}
use Rattle.hk_steps.specs.StepForm.{saves_of, few_saves, fits_chain, steps_in, steps_by, chain_by, step_of}
use Rattle.hk_steps.specs.declared.draft.DraftField.{DraftField}
use Rattle.hk_steps.specs.declared.draft.DraftField.TheVariants.{Default, Whole, Several}
use Rattle.hk_steps.specs.declared.draft.DraftStep.{DraftStep}
use Rattle.hk_steps.specs.declared.draft.DraftStep.TheVariants.{Ready, Concat as DraftConcat, Apply as DraftApply, SelfApply as DraftSelf}
use Rattle.hk_laws.specs.FieldValues.{IsField}
use Rattle.hk_laws.specs.ListValues.{total, pages_saved, fields_meant, IsChain, IsContext}
use Rattle.hk_laws.specs.StepValues.{IsStep}
use Rattle.hk_laws.specs.Values.{Reads, only_at}
use Rattle.hk_laws.proofs.ValueLemmas.{at_key, where_true, le_is, is_le, is_array, each_is, is_each, count_is}
use Rattle.hk_laws.proofs.FieldValueLemmas.{reads_fields}
use Rattle.hk_laws.proofs.StepValueLemmas.{reads_steps}

-- ---- weights

within : {X : Type 0} (weight own : X → ℕ) → ((x : X) → weight x ≡ own x) → (room : ℕ) (xs : List X) → fits weight room xs ≡ true → total own xs ≤ room
within weight own same room [] e = omega arith
within weight own same room (x ∷ xs) e =
    let tests = and_parts (nat_le (weight x) room) (fits weight (room - weight x) xs) e in
    let one = le_is (weight x) room tests.0 in
    let more = within weight own same (room - weight x) xs tests.1 in
    omega (arith, same x, one, more)

both : (a b : Bool) → a ≡ true → b ≡ true → (a && b) ≡ true
both true b e f = f
both false b e f = e

fits_in : {X : Type 0} (weight own : X → ℕ) → ((x : X) → weight x ≡ own x) → (room : ℕ) (xs : List X) → total own xs ≤ room → fits weight room xs ≡ true
fits_in weight own same room [] e = refl
fits_in weight own same room (x ∷ xs) e =
    let is = same x in
    both (nat_le (weight x) room) (fits weight (room - weight x) xs) (is_le (weight x) room (omega (arith, is, e))) (fits_in weight own same (room - weight x) xs (omega (arith, is, e)))

saved_same : (step : DraftStep) → saves_of step ≡ pages_saved step
unfolding saves_of
saved_same (Ready Body) = refl
saved_same (Ready Str) = refl
saved_same (Ready Copy) = refl
saved_same (Ready TemplateBody) = refl
saved_same (Ready (Make text)) = refl
saved_same (Ready (Load id snapshot)) = refl
saved_same (Ready (Concat n)) = refl
saved_same (Ready (Apply id n)) = refl
saved_same (Ready (SelfApply n)) = refl
saved_same (Ready (Save name)) = refl
saved_same (Ready Relativize) = refl
saved_same (DraftConcat pattern) = refl
saved_same (DraftApply id name) = refl
saved_same (DraftSelf name) = refl

meant_same : (field : DraftField) → width field ≡ fields_meant field
unfolding width
meant_same Default = refl
meant_same (Whole field) = refl
meant_same (Several key of snapshot order limit context) = refl

-- each member stands for one field at least
many_meant : (fields : List DraftField) → length fields ≤ total fields_meant fields
many_meant [] = omega arith
many_meant (Default ∷ fields) = let more = many_meant fields in omega (arith, more)
many_meant (Whole field ∷ fields) = let more = many_meant fields in omega (arith, more)
many_meant (Several key of snapshot order limit context ∷ fields) = let more = many_meant fields in omega (arith, more)

-- ---- chains

steps_few : (o : Option (List DraftStep)) (steps : List DraftStep) → few_saves o ≡ Some steps → (o ≡ Some steps) × (total pages_saved steps ≤ 16)
steps_few None steps e = let no_ : ⊥ = cc in absurd no_
steps_few (Some own) steps e =
    where_true ((Some own ≡ Some steps) × (total pages_saved steps ≤ 16)) (fits saves_of 16 own) (Some own) steps
    (λ room is. (is, subst (λ xs. total pages_saved xs ≤ 16) (let same : own ≡ steps = cc in same) (within saves_of pages_saved saved_same 16 own room))) e

items_chain : (created : Bool) (ds : Items) (steps : List DraftStep) → steps_in created ds ≡ Some steps → IsChain created (array ds) steps
items_chain created ds steps e =
    where_true (IsChain created (array ds) steps) (fits_chain (count_items ds)) (few_saves (each (step_of created) ds)) steps
    (λ count few.
    let is = steps_few (each (step_of created) ds) steps few in
    let all = each_is (step_of created) (IsStep created) (reads_steps created) ds steps is.0 in
    let tests = and_parts (nat_le 1 (count_items ds)) (nat_le (count_items ds) 64) count in
    record {
      items = ds;
      array_is = refl;
      each = all;
      some = subst (λ n. 1 ≤ n) (count_is (IsStep created) ds steps all) (le_is 1 (count_items ds) tests.0);
      short = subst (λ n. n ≤ 64) (count_is (IsStep created) ds steps all) (le_is (count_items ds) 64 tests.1);
      few = is.1;
    }) e

chain_is : (created : Bool) (d : Data) (steps : List DraftStep) (o : Option Items) → as_array d ≡ o → steps_by created o ≡ Some steps → IsChain created d steps
chain_is created d steps None at e = let no_ : ⊥ = cc in absurd no_
chain_is created d steps (Some ds) at e = subst (λ t. IsChain created t steps) (sym (is_array d ds at)) (items_chain created ds steps e)

is_chain : (created : Bool) (d : Data) (steps : List DraftStep) → IsChain created d steps → chain_by created (Some d) ≡ Some steps
is_chain created d steps is =
    let size = count_is (IsStep created) is.items steps is.each in
    let count : fits_chain (count_items is.items) ≡ true = ap fits_chain size ∙ both (nat_le 1 (length steps)) (nat_le (length steps) 64) (is_le 1 (length steps) is.some) (is_le (length steps) 64 is.short) in
    ap (λ t. steps_by created (as_array t)) is.array_is
    ∙ ap (λ b. if b then few_saves (each (step_of created) is.items) else None) count
    ∙ ap few_saves (is_each (step_of created) (IsStep created) (reads_steps created) is.items steps is.each)
    ∙ ap (λ b. if b then Some steps else None) (fits_in saves_of pages_saved saved_same 16 steps is.few)

pub reads_chains : (created : Bool) → Reads (λ d. chain_by created (Some d)) (IsChain created)
reads_chains created d steps = (λ e. chain_is created d steps (as_array d) refl e, is_chain created d steps)

-- ---- contexts

fields_few : (o : Option (List DraftField)) (fields : List DraftField) → not_wide o ≡ Some fields → (o ≡ Some fields) × (total fields_meant fields ≤ 64)
fields_few None fields e = let no_ : ⊥ = cc in absurd no_
fields_few (Some own) fields e =
    where_true ((Some own ≡ Some fields) × (total fields_meant fields ≤ 64)) (fits width 64 own) (Some own) fields
    (λ room is. (is, subst (λ xs. total fields_meant xs ≤ 64) (let same : own ≡ fields = cc in same) (within width fields_meant meant_same 64 own room))) e

items_context : (ds : Items) (fields : List DraftField) → fields_in ds ≡ Some fields → IsContext (only_at (codes "fields") (array ds)) fields
items_context ds fields e =
    where_true (IsContext (only_at (codes "fields") (array ds)) fields) (fits_context (count_items ds)) (not_wide (each field_of ds)) fields
    (λ count few.
    let is = fields_few (each field_of ds) fields few in
    record { items = ds; table_is = refl; each = each_is field_of IsField reads_fields ds fields is.0; few = is.1 }) e

array_context : (d : Data) (fields : List DraftField) (o : Option Items) → as_array d ≡ o → fields_by o ≡ Some fields → IsContext (only_at (codes "fields") d) fields
array_context d fields None at e = let no_ : ⊥ = cc in absurd no_
array_context d fields (Some ds) at e = subst (λ t. IsContext (only_at (codes "fields") t) fields) (sym (is_array d ds at)) (items_context ds fields e)

context_is : (d : Data) (fields : List DraftField) → context_fields d ≡ Some fields → IsContext d fields
context_is (table (member k d no_members)) fields e =
    at_key (λ key. IsContext (only_at key d) fields) k (codes "fields") (fields_by (as_array d)) None fields (λ f. array_context d fields (as_array d) refl f) (λ f. let no_ : ⊥ = cc in absurd no_) e
context_is (table no_members) fields e = let no_ : ⊥ = cc in absurd no_
context_is (table (member k d (member l f ms))) fields e = let no_ : ⊥ = cc in absurd no_
context_is (string s) fields e = let no_ : ⊥ = cc in absurd no_
context_is (integer z) fields e = let no_ : ⊥ = cc in absurd no_
context_is (float x) fields e = let no_ : ⊥ = cc in absurd no_
context_is (boolean b) fields e = let no_ : ⊥ = cc in absurd no_
context_is (datetime t) fields e = let no_ : ⊥ = cc in absurd no_
context_is (array ds) fields e = let no_ : ⊥ = cc in absurd no_

is_context : (d : Data) (fields : List DraftField) → IsContext d fields → context_fields d ≡ Some fields
is_context d fields is =
    let size = count_is IsField is.items fields is.each in
    let many = many_meant fields in
    let few = is.few in
    let count : fits_context (count_items is.items) ≡ true = is_le (count_items is.items) 64 (omega (arith, size, many, few)) in
    ap context_fields is.table_is
    ∙ ap (λ b. if b then not_wide (each field_of is.items) else None) count
    ∙ ap not_wide (is_each field_of IsField reads_fields is.items fields is.each)
    ∙ ap (λ b. if b then Some fields else None) (fits_in width fields_meant meant_same 64 fields is.few)

pub reads_contexts : Reads context_fields IsContext
reads_contexts d fields = (context_is d fields, is_context d fields)
