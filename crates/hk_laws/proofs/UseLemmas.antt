-- Patterns are numbered in the order of their first use.
use Rattle.std.proofs.Common.{◌≡◌, ◌<◌, ℕ, suc, Bool, true, false, List, [], ◌∷◌, ◌++◌, length, refl, sym, ap, subst, arith, append-nil, Option, Some, None, option_map, Ok, Err, inl, inr, bytes_eq, if◌then◌else◌}
use Rattle.std.specs.List.{AllByRecursion, flat_map, list_any}
use Rattle.std.proofs.lemmas.Grind.{flat_map-append}
use Rattle.std.proofs.lemmas.List.{length-append}
use Rattle.hk_base.specs.Bytes.{Bytes}
use Rattle.hk_base.specs.Identifier.{Ident}
use Rattle.hk_chain.specs.declared.chain.Step.{Step}
use Rattle.hk_chain.specs.declared.chain.Step.TheVariants.{Body, Str, Copy, TemplateBody, Make, Load, Concat, Apply, SelfApply, Save, Relativize}
use Rattle.hk_chain.specs.declared.context.Field.{Field}
use Rattle.hk_chain.specs.declared.context.Field.TheVariants.{Body as BodyField, Metadata, Url, Path, Title, Const, Date, Bool as BoolField, Teaser, List as ListField}
use Rattle.hk_forms.specs.PatternText.{text_of}
use Rattle.hk_pattern.specs.declared.pattern.Pattern.{Pattern}
use Rattle.hk_rules_file.specs.Linking.{Linked, saves_as, saving, ready_by, concat_step, apply_step, self_step, link_step, next_step, link_steps, default_fields, list_field, link_field, next_field, link_fields}
use Rattle.hk_rules_file.specs.Numbering.{place_of, texts_of, numbered_by, numbered}
use Rattle.hk_rules_file.specs.Saves.{saved}
use Rattle.hk_rules_file.proofs.LinkedFields.{IsReadyField}
use Rattle.hk_rules_file.proofs.LinkedSteps.{IsReady}
use Rattle.hk_steps.specs.declared.draft.DraftStep.{DraftStep}
use Rattle.hk_steps.specs.declared.draft.DraftStep.TheVariants.{Ready, Concat as DraftConcat, Apply as DraftApply, SelfApply as DraftSelf}
use Rattle.hk_steps.specs.declared.draft.DraftField.{DraftField}
use Rattle.hk_steps.specs.declared.draft.DraftField.TheVariants.{Default, Whole, Several}
use Rattle.hk_laws.specs.FirstUses.{in_step, in_field, AreByFirstUse}

-- ---- numbers one after the other

pub joined : (before between after : ℕ) (ns ms : List ℕ) → AreByFirstUse before ns between → AreByFirstUse between ms after → AreByFirstUse before (ns ++ ms) after
joined before between after [] ms one more = subst (λ n. AreByFirstUse n ms after) (sym one) more
joined before between after (n ∷ ns) ms (inl one) more = inl (one.0, joined before between after ns ms one.1 more)
joined before between after (n ∷ ns) ms (inr one) more = inr (one.0, joined (suc before) between after ns ms one.1 more)

pub pushed_all : {X : Type 0} (f : X → List ℕ) (before between after : ℕ) (done xs : List X) → AreByFirstUse before (flat_map f done) between → AreByFirstUse between (flat_map f xs) after
    → AreByFirstUse before (flat_map f (done ++ xs)) after
pushed_all f before between after done xs one more =
    subst (λ ns. AreByFirstUse before ns after) (sym (flat_map-append f done xs)) (joined before between after (flat_map f done) (flat_map f xs) one more)

pub pushed : {X : Type 0} (f : X → List ℕ) (before between after : ℕ) (done : List X) (x : X) → AreByFirstUse before (flat_map f done) between → AreByFirstUse between (f x) after
    → AreByFirstUse before (flat_map f (done ++ x ∷ [])) after
pushed f before between after done x one more =
    pushed_all f before between after done (x ∷ []) one (subst (λ ns. AreByFirstUse between ns after) (sym (append-nil (f x))) more)

-- ---- the number of a pattern

abbrev IsNext : List Pattern → ℕ × List Pattern → Type 0
IsNext pool r = AreByFirstUse (length pool) (r.0 ∷ []) (length r.1)

-- a place is below the number of the texts
below_by : (n m : ℕ) (o : Option ℕ) → ((k : ℕ) → o ≡ Some k → k < m) → option_map suc o ≡ Some n → n < suc m
below_by n m None less e = let no_ : ⊥ = cc in absurd no_
below_by n m (Some k) less e = let is : suc k ≡ n = cc in let under = less k refl in omega arith

below : (text : Bytes) (xs : List Bytes) (n : ℕ) → place_of text xs ≡ Some n → n < length xs
below text [] n e = let no_ : ⊥ = cc in absurd no_
below text (x ∷ xs) n e =
    elim (bytes_eq x text) as (λ b. (if b then Some 0 else option_map suc (place_of text xs)) ≡ Some n → n < suc (length xs)) [
      | true ↦ λ f. let is : 0 ≡ n = cc in omega arith
      | false ↦ λ f. below_by n (length xs) (place_of text xs) (λ k at. below text xs k at) f
    ] e

length_texts : (ps : List Pattern) → length (texts_of ps) ≡ length ps
length_texts [] = refl
length_texts (p ∷ ps) = ap suc (length_texts ps)

numbered_next : (pool : List Pattern) (p : Pattern) (place : Option ℕ) → place_of (text_of p) (texts_of pool) ≡ place → IsNext pool (numbered_by place pool p)
numbered_next pool p (Some n) at = inl (subst (λ k. n < k) (length_texts pool) (below (text_of p) (texts_of pool) n at), refl)
numbered_next pool p None at = inr (refl, omega (arith, length-append pool (p ∷ [])))

next_number : (pool : List Pattern) (p : Pattern) → IsNext pool (numbered pool p)
next_number pool p = numbered_next pool p (place_of (text_of p) (texts_of pool)) refl

-- ---- steps

abbrev pub Uses : {X : Type 0} → (X → List ℕ) → List Pattern → X × List Pattern → Type 0
Uses f pool r = AreByFirstUse (length pool) (f r.0) (length r.1)

-- nothing is used, and no pattern is new
none_used : {X : Type 0} (f : X → List ℕ) (pool : List Pattern) (x : X) (r : X × List Pattern) → f x ≡ [] → (x, pool) ≡ r → Uses f pool r
none_used f pool x r none is = subst (Uses f pool) is (subst (λ ns. AreByFirstUse (length pool) ns (length pool)) (sym none) refl)

plain_step : (step : Step) → IsReady (Ready step) → in_step step ≡ []
plain_step Body ready = refl
plain_step Str ready = refl
plain_step Copy ready = refl
plain_step TemplateBody ready = refl
plain_step (Make text) ready = refl
plain_step (Load id snapshot) ready = refl
plain_step (Concat number) ready = absurd ready
plain_step (Apply id context) ready = refl
plain_step (SelfApply context) ready = refl
plain_step (Save name) ready = refl
plain_step Relativize ready = refl

ready_uses : (n : ℕ) (pool : List Pattern) (done : List Step) (step : Step) (name : Option Bytes) (r : Step × List Pattern) → in_step step ≡ [] → ready_by n pool done step name ≡ Ok r → Uses in_step pool r
ready_uses n pool done step None r none e = let is : (step, pool) ≡ r = cc in none_used in_step pool step r none is
ready_uses n pool done step (Some name) r none e = go (list_any (saves_as name) done) e
  where
    go : (again : Bool) → saving n pool step name again ≡ Ok r → Uses in_step pool r
    go true e = let no_ : ⊥ = cc in absurd no_
    go false e = let is : (step, pool) ≡ r = cc in none_used in_step pool step r none is

apply_uses : (n : ℕ) (pool : List Pattern) (id : Ident) (name : Bytes) (place : Option ℕ) (r : Step × List Pattern) → apply_step n pool id name place ≡ Ok r → Uses in_step pool r
apply_uses n pool id name None r e = let no_ : ⊥ = cc in absurd no_
apply_uses n pool id name (Some context) r e = let is : (Apply id context, pool) ≡ r = cc in none_used in_step pool (Apply id context) r refl is

self_uses : (n : ℕ) (pool : List Pattern) (name : Bytes) (place : Option ℕ) (r : Step × List Pattern) → self_step n pool name place ≡ Ok r → Uses in_step pool r
self_uses n pool name None r e = let no_ : ⊥ = cc in absurd no_
self_uses n pool name (Some context) r e = let is : (SelfApply context, pool) ≡ r = cc in none_used in_step pool (SelfApply context) r refl is

step_uses : (n : ℕ) (names : List Bytes) (pool : List Pattern) (done : List Step) (draft : DraftStep) (r : Step × List Pattern) → IsReady draft → link_step n names pool done draft ≡ Ok r → Uses in_step pool r
step_uses n names pool done (Ready step) r ready e = ready_uses n pool done step (saved step) r (plain_step step ready) e
step_uses n names pool done (DraftConcat pattern) r ready e =
    let is : concat_step (numbered pool pattern) ≡ r = cc in
    subst (Uses in_step pool) is (next_number pool pattern)
step_uses n names pool done (DraftApply id name) r ready e = apply_uses n pool id name (place_of name names) r e
step_uses n names pool done (DraftSelf name) r ready e = self_uses n pool name (place_of name names) r e

-- what is done so far, and the patterns then, where so many were used before
abbrev pub AllUses : {X : Type 0} → (X → List ℕ) → ℕ → List X × List Pattern → Type 0
AllUses f before r = AreByFirstUse before (flat_map f r.0) (length r.1)

pub steps_use : (n : ℕ) (names : List Bytes) (drafts : List DraftStep) (pool : List Pattern) (done : List Step) (before : ℕ) (r : List Step × List Pattern) → AllByRecursion IsReady drafts → AllUses in_step before (done, pool) → link_steps n names drafts pool done ≡ Ok r → AllUses in_step before r
steps_use n names [] pool done before r ready so_far e = let is : (done, pool) ≡ r = cc in subst (AllUses in_step before) is so_far
steps_use n names (draft ∷ drafts) pool done before r ready so_far e =
    go (link_step n names pool done draft) (λ one at. step_uses n names pool done draft one ready.0 at)
    (λ one so f. steps_use n names drafts one.1 (done ++ one.0 ∷ []) before r ready.1 so f) e
  where
    go : (linked : Linked) → ((one : Step × List Pattern) → linked ≡ Ok one → Uses in_step pool one)
        → ((one : Step × List Pattern) → AllUses in_step before (done ++ one.0 ∷ [], one.1) → link_steps n names drafts one.1 (done ++ one.0 ∷ []) ≡ Ok r → AllUses in_step before r)
        → next_step (link_steps n names drafts) done linked ≡ Ok r → AllUses in_step before r
    go (Err fault) one rest e = let no_ : ⊥ = cc in absurd no_
    go (Ok next) one rest e = rest next (pushed in_step before (length pool) (length next.1) done next.0 so_far (one next refl)) e

-- ---- fields

plain_field : (field : Field) → IsReadyField (Whole field) → in_field field ≡ []
plain_field BodyField ready = refl
plain_field Metadata ready = refl
plain_field Url ready = refl
plain_field Path ready = refl
plain_field Title ready = refl
plain_field (Const key text) ready = refl
plain_field (Date key text) ready = refl
plain_field (BoolField key flag) ready = refl
plain_field (Teaser key name) ready = refl
plain_field (ListField key number snapshot order limit context) ready = absurd ready

field_uses : (names : List Bytes) (pool : List Pattern) (done : List Field) (draft : DraftField) (before : ℕ) (r : List Field × List Pattern) → IsReadyField draft → AllUses in_field before (done, pool) → link_field names pool done draft ≡ Some r → AllUses in_field before r
field_uses names pool done Default before r ready so_far e =
    let is : (done ++ default_fields, pool) ≡ r = cc in
    subst (AllUses in_field before) is (pushed_all in_field before (length pool) (length pool) done default_fields so_far refl)
field_uses names pool done (Whole field) before r ready so_far e =
    let is : (done ++ field ∷ [], pool) ≡ r = cc in
    subst (AllUses in_field before) is (pushed in_field before (length pool) (length pool) done field so_far (subst (λ ns. AreByFirstUse (length pool) ns (length pool)) (sym (plain_field field ready)) refl))
field_uses names pool done (Several key of snapshot order limit name) before r ready so_far e = go (place_of name names) e
  where
    go : (place : Option ℕ) → list_field done (numbered pool of) key snapshot order limit place ≡ Some r → AllUses in_field before r
    go None e = let no_ : ⊥ = cc in absurd no_
    go (Some context) e =
        let is : (done ++ ListField key (numbered pool of).0 snapshot order limit context ∷ [], (numbered pool of).1) ≡ r = cc in
        subst (AllUses in_field before) is
        (pushed in_field before (length pool) (length (numbered pool of).1) done (ListField key (numbered pool of).0 snapshot order limit context) so_far (next_number pool of))

pub fields_use : (names : List Bytes) (drafts : List DraftField) (pool : List Pattern) (done : List Field) (before : ℕ) (r : List Field × List Pattern) → AllByRecursion IsReadyField drafts → AllUses in_field before (done, pool) → link_fields names drafts pool done ≡ Some r → AllUses in_field before r
fields_use names [] pool done before r ready so_far e = let is : (done, pool) ≡ r = cc in subst (AllUses in_field before) is so_far
fields_use names (draft ∷ drafts) pool done before r ready so_far e =
    go (link_field names pool done draft) (λ one at. field_uses names pool done draft before one ready.0 so_far at)
    (λ one so f. fields_use names drafts one.1 one.0 before r ready.1 so f) e
  where
    go : (linked : Option (List Field × List Pattern)) → ((one : List Field × List Pattern) → linked ≡ Some one → AllUses in_field before one)
        → ((one : List Field × List Pattern) → AllUses in_field before one → link_fields names drafts one.1 one.0 ≡ Some r → AllUses in_field before r)
        → next_field (link_fields names drafts) linked ≡ Some r → AllUses in_field before r
    go None one rest e = let no_ : ⊥ = cc in absurd no_
    go (Some next) one rest e = rest next (one next refl) e
