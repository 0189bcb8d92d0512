-- The numbers in steps are the places of what is written there.
use Rattle.std.proofs.Common.{◌≡◌, ℕ, suc, Bool, true, false, if◌then◌else◌, bytes_eq, List, [], ◌∷◌, ◌++◌, refl, sym, ap, subst, ◌∙◌, append_assoc, append-nil, Option, Some, None, option_map, Result, Ok, Err}
use Rattle.std.specs.List.{list_any}
use Rattle.std.proofs.lemmas.List.{map-append, length-map}
use Rattle.std.proofs.lemmas.Slice.Eq.{bytes_eq-Decides}
use Rattle.hk_base.specs.Bytes.{Bytes}
use Rattle.hk_base.specs.Identifier.{Ident}
use Rattle.hk_chain.specs.declared.chain.Step.{Step}
use Rattle.hk_chain.specs.declared.chain.Step.TheVariants.{Apply, SelfApply}
use Rattle.hk_forms.specs.PatternText.{text_of}
use Rattle.hk_pattern.specs.declared.pattern.Pattern.{Pattern}
use Rattle.hk_rules_file.specs.Linking.{Linked, saves_as, saving, ready_by, concat_step, apply_step, self_step, link_step, next_step, link_steps}
use Rattle.hk_rules_file.specs.Numbering.{place_of, texts_of, numbered_by, numbered}
use Rattle.hk_rules_file.specs.Saves.{saved}
use Rattle.hk_rules_file.specs.declared.fault.RulesFault.{RulesFault}
use Rattle.hk_steps.specs.declared.draft.DraftStep.{DraftStep}
use Rattle.hk_steps.specs.declared.draft.DraftStep.TheVariants.{Ready, Concat as DraftConcat, Apply as DraftApply, SelfApply as DraftSelf}
use Rattle.hk_rules_file.specs.Numbers.{StandsAt, IsWritten, AreWritten, GoesOnTo, NumbersTellPlaces}

-- a place that was found
stands_here : (x text : Bytes) (xs : List Bytes) (n : ℕ) → bytes_eq x text ≡ true → Some 0 ≡ Some n → StandsAt (x ∷ xs) n text
stands_here x text xs n e f =
    let is : x ≡ text = (bytes_eq-Decides x text).0 e in
    let at : 0 ≡ n = cc in
    record { before = []; after = xs; same = ap (λ (t : Bytes). t ∷ xs) is; at = at }

stands_later : (x text : Bytes) (xs : List Bytes) (n m : ℕ) → StandsAt xs m text → suc m ≡ n → StandsAt (x ∷ xs) n text
stands_later x text xs n m inner e = record { before = x ∷ inner.before; after = inner.after; same = ap (λ ts. x ∷ ts) inner.same; at = ap suc inner.at ∙ e }

later_by : (x text : Bytes) (xs : List Bytes) (n : ℕ) (r : Option ℕ) → option_map suc r ≡ Some n → ((m : ℕ) → r ≡ Some m → StandsAt xs m text) → StandsAt (x ∷ xs) n text
later_by x text xs n None e inner = let no_ : ⊥ = cc in absurd no_
later_by x text xs n (Some m) e inner = stands_later x text xs n m (inner m refl) cc

pub stands : (text : Bytes) (texts : List Bytes) (n : ℕ) → place_of text texts ≡ Some n → StandsAt texts n text
stands text [] n e = let no_ : ⊥ = cc in absurd no_
stands text (x ∷ xs) n e =
    elim (bytes_eq x text) as (λ b. bytes_eq x text ≡ b → (if b then Some 0 else option_map suc (place_of text xs)) ≡ Some n → StandsAt (x ∷ xs) n text) [
      | true ↦ λ is found. stands_here x text xs n is found
      | false ↦ λ _ found. later_by x text xs n (place_of text xs) found (λ m f. stands text xs m f)
    ] refl e

no_more : (patterns : List Pattern) → GoesOnTo patterns patterns
no_more patterns = record { more = []; same = sym (append-nil patterns) }

and_on : (a b c : List Pattern) → GoesOnTo a b → GoesOnTo b c → GoesOnTo a c
and_on a b c first second = record {
  more = first.more ++ second.more;
  same = second.same ∙ ap (λ ps. ps ++ second.more) first.same ∙ append_assoc a first.more second.more;
}

-- the number that a pattern gets
abbrev IsNumbered : List Pattern → Pattern → ℕ × List Pattern → Type 0
IsNumbered patterns pattern r = StandsAt (texts_of r.1) r.0 (text_of pattern) × GoesOnTo patterns r.1

numbered_is : (patterns : List Pattern) (pattern : Pattern) (place : Option ℕ) → place_of (text_of pattern) (texts_of patterns) ≡ place → IsNumbered patterns pattern (numbered_by place patterns pattern)
numbered_is patterns pattern (Some n) e = (stands (text_of pattern) (texts_of patterns) n e, no_more patterns)
numbered_is patterns pattern None e = (
  record {
    before = texts_of patterns;
    after = [];
    same = map-append text_of patterns (pattern ∷ []);
    at = length-map patterns text_of;
  },
  record { more = pattern ∷ []; same = refl },
)

-- a place stays where further texts come after
stays : (patterns longer : List Pattern) (n : ℕ) (text : Bytes) → GoesOnTo patterns longer → StandsAt (texts_of patterns) n text → StandsAt (texts_of longer) n text
stays patterns longer n text goes at = record {
  before = at.before;
  after = at.after ++ texts_of goes.more;
  same = ap texts_of goes.same ∙ map-append text_of patterns goes.more ∙ ap (λ ts. ts ++ texts_of goes.more) at.same ∙ append_assoc at.before (text ∷ at.after) (texts_of goes.more);
  at = at.at;
}

written_stays : (names : List Bytes) (patterns longer : List Pattern) (draft : DraftStep) (step : Step) → GoesOnTo patterns longer → IsWritten names patterns draft step → IsWritten names longer draft step
written_stays names patterns longer (Ready written) step goes is = is
written_stays names patterns longer (DraftConcat pattern) step goes is = (is.0, is.1, stays patterns longer is.0 (text_of pattern) goes is.2)
written_stays names patterns longer (DraftApply id name) step goes is = is
written_stays names patterns longer (DraftSelf name) step goes is = is

-- one step
abbrev One : List Bytes → List Pattern → DraftStep → Step × List Pattern → Type 0
One names patterns draft r = IsWritten names r.1 draft r.0 × GoesOnTo patterns r.1

abbrev Reads : Linked → Step × List Pattern → Type 0
Reads r read = r ≡ Ok read

saving_one : (n : ℕ) (names : List Bytes) (pool : List Pattern) (step : Step) (name : Bytes) (again : Bool) (read : Step × List Pattern) → Reads (saving n pool step name again) read → One names pool (Ready step) read
saving_one n names pool step name true read e = let no_ : ⊥ = cc in absurd no_
saving_one n names pool step name false read e = ready_one names pool step read e
  where
    ready_one : (names : List Bytes) (pool : List Pattern) (step : Step) (read : Step × List Pattern) → Reads (Ok (step, pool)) read → One names pool (Ready step) read
    ready_one names pool step read e = let here : Step × List Pattern = (step, pool) in let is : here ≡ read = cc in subst (One names pool (Ready step)) is (refl, no_more pool)

ready_one : (n : ℕ) (names : List Bytes) (pool : List Pattern) (done : List Step) (step : Step) (name : Option Bytes) (read : Step × List Pattern) → Reads (ready_by n pool done step name) read → One names pool (Ready step) read
ready_one n names pool done step None read e = let here : Step × List Pattern = (step, pool) in let is : here ≡ read = cc in subst (One names pool (Ready step)) is (refl, no_more pool)
ready_one n names pool done step (Some name) read e = saving_one n names pool step name (list_any (saves_as name) done) read e

apply_one : (n : ℕ) (names : List Bytes) (pool : List Pattern) (id : Ident) (name : Bytes) (place : Option ℕ) (read : Step × List Pattern) → place_of name names ≡ place → Reads (apply_step n pool id name place) read → One names pool (DraftApply id name) read
apply_one n names pool id name None read at e = let no_ : ⊥ = cc in absurd no_
apply_one n names pool id name (Some place) read at e =
    let here : Step × List Pattern = (Apply id place, pool) in
    let is : here ≡ read = cc in
    subst (One names pool (DraftApply id name)) is ((place, refl, stands name names place at), no_more pool)

self_one : (n : ℕ) (names : List Bytes) (pool : List Pattern) (name : Bytes) (place : Option ℕ) (read : Step × List Pattern) → place_of name names ≡ place → Reads (self_step n pool name place) read → One names pool (DraftSelf name) read
self_one n names pool name None read at e = let no_ : ⊥ = cc in absurd no_
self_one n names pool name (Some place) read at e =
    let here : Step × List Pattern = (SelfApply place, pool) in
    let is : here ≡ read = cc in
    subst (One names pool (DraftSelf name)) is ((place, refl, stands name names place at), no_more pool)

concat_one : (names : List Bytes) (pool : List Pattern) (pattern : Pattern) (r : ℕ × List Pattern) → IsNumbered pool pattern r → One names pool (DraftConcat pattern) (concat_step r)
concat_one names pool pattern r is = ((r.0, refl, is.0), is.1)

step_one : (n : ℕ) (names : List Bytes) (pool : List Pattern) (done : List Step) (draft : DraftStep) (read : Step × List Pattern) → Reads (link_step n names pool done draft) read → One names pool draft read
step_one n names pool done (Ready step) read e = ready_one n names pool done step (saved step) read e
step_one n names pool done (DraftConcat pattern) read e =
    let here : Step × List Pattern = concat_step (numbered pool pattern) in
    let is : here ≡ read = cc in
    subst (One names pool (DraftConcat pattern)) is (concat_one names pool pattern (numbered pool pattern) (numbered_is pool pattern (place_of (text_of pattern) (texts_of pool)) refl))
step_one n names pool done (DraftApply id name) read e = apply_one n names pool id name (place_of name names) read refl e
step_one n names pool done (DraftSelf name) read e = self_one n names pool name (place_of name names) read refl e

-- all steps, after those that are done
record All (names : List Bytes) (pool : List Pattern) (drafts : List DraftStep) (done : List Step) (read : List Step × List Pattern) : Type 0 where
  pub steps : List Step
  pub same : read.0 ≡ done ++ steps
  pub written : AreWritten names read.1 drafts steps
  pub goes : GoesOnTo pool read.1

abbrev Chain : Type 0
Chain = Result (List Step × List Pattern) RulesFault

all_more : (names : List Bytes) (pool : List Pattern) (draft : DraftStep) (drafts : List DraftStep) (done : List Step) (one : Step × List Pattern) (read : List Step × List Pattern) → One names pool draft one → All names one.1 drafts (done ++ one.0 ∷ []) read → All names pool (draft ∷ drafts) done read
all_more names pool draft drafts done one read is inner = record {
  steps = one.0 ∷ inner.steps;
  same = inner.same ∙ append_assoc done (one.0 ∷ []) inner.steps;
  written = (written_stays names one.1 read.1 draft one.0 inner.goes is.0, inner.written);
  goes = and_on pool one.1 read.1 is.1 inner.goes;
}

all_by : (n : ℕ) (names : List Bytes) (pool : List Pattern) (draft : DraftStep) (drafts : List DraftStep) (done : List Step) (read : List Step × List Pattern) (r : Linked) → ((one : Step × List Pattern) → Reads r one → One names pool draft one)
    → ((one : Step × List Pattern) → link_steps n names drafts one.1 (done ++ one.0 ∷ []) ≡ Ok read → All names one.1 drafts (done ++ one.0 ∷ []) read)
    → next_step (link_steps n names drafts) done r ≡ Ok read → All names pool (draft ∷ drafts) done read
all_by n names pool draft drafts done read (Ok one) first rest e = all_more names pool draft drafts done one read (first one refl) (rest one e)
all_by n names pool draft drafts done read (Err fault) first rest e = let no_ : ⊥ = cc in absurd no_

all_from : (drafts : List DraftStep) (n : ℕ) (names : List Bytes) (pool : List Pattern) (done : List Step) (read : List Step × List Pattern) → link_steps n names drafts pool done ≡ Ok read → All names pool drafts done read
all_from [] n names pool done read e =
    let here : List Step × List Pattern = (done, pool) in
    let is : here ≡ read = cc in
    subst (All names pool [] done) is (record { steps = []; same = sym (append-nil done); written = tt; goes = no_more pool })
all_from (draft ∷ drafts) n names pool done read e =
    all_by n names pool draft drafts done read (link_step n names pool done draft)
    (λ one f. step_one n names pool done draft one f)
    (λ one f. all_from drafts n names one.1 (done ++ one.0 ∷ []) read f) e

pub numbers_tell_places : NumbersTellPlaces
numbers_tell_places n names drafts patterns read e =
    let all = all_from drafts n names patterns [] read e in
    (subst (λ (steps : List Step). AreWritten names read.1 drafts steps) (sym all.same) all.written, all.goes)
