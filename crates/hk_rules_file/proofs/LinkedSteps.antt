-- Steps that are read have numbers in range, and a chain's saves differ.
use Rattle.std.proofs.Common.{◌≡◌, ℕ, suc, ◌+◌, ◌≤◌, Bool, true, false, cond, ◌||◌, List, [], ◌∷◌, ◌++◌, length, filter_map, Option, Some, None, Result, Ok, Err, IfOk, refl, sym, ap, subst, ◌∙◌, arith, append-nil, length-append}
use Rattle.std.specs.Prelude.{bytes_eq, codes, nat_le}
use borrow.Author.Tests.{leb-true}
use Rattle.std.specs.List.{AllByRecursion, IsDistinct, list_any, cons_option}
use Rattle.std.specs.Option.{option_map}
use Rattle.std.proofs.lemmas.List.Elements.{filter_map-append}
use Rattle.toml.specs.Data.{Data, Items, no_items, item, Members, as_str, as_array, as_table}
use Rattle.hk_base.specs.Bytes.{Bytes}
use Rattle.hk_base.specs.Identifier.{Ident}
use Rattle.hk_base.specs.Ties.{bytes-same}
use Rattle.hk_base.proofs.Both.{right-part, not-both}
use Rattle.hk_chain.specs.declared.chain.Step.{Step}
use Rattle.hk_chain.specs.declared.chain.Step.TheVariants.{Body, Str, Copy, TemplateBody, Make, Load, Concat, Apply, SelfApply, Save, Relativize}
use Rattle.hk_pattern.specs.declared.pattern.Pattern.{Pattern}
use Rattle.hk_forms.specs.IdForm.{id_of}
use Rattle.hk_rules_file.specs.Linked.{IsStepWithin}
use Rattle.hk_rules_file.specs.Saves.{saved}
use Rattle.hk_rules_file.specs.Linking.{is_named, saves_as, saving, ready_by, apply_step, self_step, Linked, link_step, link_steps, next_step}
use Rattle.hk_forms.specs.Members.{cons, each, fits, only, both, count_items}
use Rattle.hk_forms.specs.Names.{is_snapshot_name}
use Rattle.hk_rules_file.specs.Numbering.{place_of, numbered}
use Rattle.hk_forms.specs.PatternForm.{pattern_of}
use Rattle.hk_steps.specs.StepForm.{default_name, context_by, snapshot_by, word_step, load_by, apply_by, keyed, paired, table_by, in_table, step_by, step_of, few_saves, saves_of, most_saves, fits_chain, steps_by, chain_by}
use Rattle.hk_chain.specs.Names.{final_name}
use Rattle.hk_steps.specs.declared.draft.DraftStep.{DraftStep}
use Rattle.hk_steps.specs.declared.draft.DraftStep.TheVariants.{Ready, Concat as DraftConcat, Apply as DraftApply, SelfApply as DraftSelf}
use Rattle.hk_rules_file.specs.declared.fault.RulesFault.{RulesFault}
use Rattle.hk_rules_file.proofs.LinkedNumbers.{all-push, all-weaken, distinct-push, place_of-below, Below, IsGrown, grown-same, grown-more, numbered-grown, numbered-below}

-- ---- what holds of an option's value

-- what holds of the value, where there is one
abbrev pub Holds : {X : Type 0} → (X → Type 0) → Option X → Type 0
Holds P None = Unit {0}
Holds P (Some x) = P x

pub holds-either : {X : Type 0} (P : X → Type 0) (b : Bool) (x y : Option X) → Holds P x → Holds P y → Holds P (cond b x y)
holds-either P true x y h k = h
holds-either P false x y h k = k

pub holds-map : {X Y : Type 0} (P : Y → Type 0) (f : X → Y) (o : Option X) → Holds (λ x. P (f x)) o → Holds P (option_map f o)
holds-map P f None h = tt
holds-map P f (Some x) h = h

holds-all : {X : Type 0} (P : X → Type 0) → ((x : X) → P x) → (o : Option X) → Holds P o
holds-all P all None = tt
holds-all P all (Some x) = all x

holds-cons : {X : Type 0} (P : X → Type 0) (o : Option X) (os : Option (List X)) → Holds P o → Holds (AllByRecursion P) os → Holds (AllByRecursion P) (cons o os)
holds-cons P None os h k = tt
holds-cons P (Some x) None h k = tt
holds-cons P (Some x) (Some xs) h k = (h, k)

pub holds-each : {X : Type 0} (P : X → Type 0) (f : Data → Option X) → ((d : Data) → Holds P (f d)) → (ds : Items) → Holds (AllByRecursion P) (each f ds)
holds-each P f all no_items = tt
holds-each P f all (item d ds) = holds-cons P (f d) (each f ds) (all d) (holds-each P f all ds)

-- ---- steps as they are read

-- a step that has no number, and that saves under a snapshot's name
abbrev pub IsPlain : Step → Type 0
IsPlain (Concat pattern) = ⊥
IsPlain (Apply id context) = ⊥
IsPlain (SelfApply context) = ⊥
IsPlain (Save name) = is_snapshot_name name ≡ true
IsPlain _ = Unit {0}

abbrev pub IsReady : DraftStep → Type 0
IsReady (Ready step) = IsPlain step
IsReady _ = Unit {0}

pub not-final : (name : Bytes) → is_snapshot_name name ≡ true → bytes_eq name final_name ≡ false
not-final name h = elim (bytes_eq name final_name) as (λ b. bytes_eq name final_name ≡ b → b ≡ false) [
  | true ↦ λ e. not-both (is_snapshot_name final_name) (subst (λ n. is_snapshot_name n ≡ true) (bytes-same name final_name e) h) refl
  | false ↦ λ e. refl
] refl

snapshot-named : (text : Option Bytes) → Holds (λ name. is_snapshot_name name ≡ true) (snapshot_by text)
snapshot-named None = tt
snapshot-named (Some text) = elim (is_snapshot_name text) as (λ b. is_snapshot_name text ≡ b → Holds (λ name. is_snapshot_name name ≡ true) (cond b (Some text) None)) [
  | true ↦ λ e. e
  | false ↦ λ e. tt
] refl

word-plain : (created : Bool) (word : Bytes) → Holds IsPlain (word_step created word)
word-plain created word =
    holds-either IsPlain (bytes_eq word (codes "relativize")) (Some Relativize) _ tt
    (holds-either IsPlain created None _ tt
    (holds-either IsPlain (bytes_eq word (codes "body")) (Some Body) _ tt
    (holds-either IsPlain (bytes_eq word (codes "string")) (Some Str) _ tt
    (holds-either IsPlain (bytes_eq word (codes "copy")) (Some Copy) _ tt
    (holds-either IsPlain (bytes_eq word (codes "template")) (Some TemplateBody) None tt tt)))))

load-ready : (id : Option Ident) (snapshot : Option Bytes) → Holds IsReady (load_by id snapshot)
load-ready None snapshot = tt
load-ready (Some id) None = tt
load-ready (Some id) (Some snapshot) = tt

apply-ready : (id : Option Ident) (context : Option Bytes) → Holds IsReady (apply_by id context)
apply-ready None context = tt
apply-ready (Some id) None = tt
apply-ready (Some id) (Some context) = tt

keyed-ready : (key : Bytes) (d : Data) → Holds IsReady (keyed key d)
keyed-ready key d =
    holds-either IsReady (bytes_eq key (codes "make")) (option_map (λ text. Ready (Make text)) (as_str d)) _ (holds-map IsReady (λ text. Ready (Make text)) (as_str d) (holds-all _ (λ text. tt) (as_str d)))
    (holds-either IsReady (bytes_eq key (codes "load")) (load_by (id_of d) (Some final_name)) _ (load-ready (id_of d) (Some final_name))
    (holds-either IsReady (bytes_eq key (codes "concat")) (option_map DraftConcat (pattern_of d)) _ (holds-map IsReady DraftConcat (pattern_of d) (holds-all _ (λ p. tt) (pattern_of d)))
    (holds-either IsReady (bytes_eq key (codes "apply")) (apply_by (id_of d) (Some default_name)) _ (apply-ready (id_of d) (Some default_name))
    (holds-either IsReady (bytes_eq key (codes "self")) (option_map DraftSelf (context_by (as_str d))) _ (holds-map IsReady DraftSelf (context_by (as_str d)) (holds-all _ (λ n. tt) (context_by (as_str d))))
    (holds-either IsReady (bytes_eq key (codes "save")) (option_map (λ name. Ready (Save name)) (snapshot_by (as_str d))) None (holds-map IsReady (λ name. Ready (Save name)) (snapshot_by (as_str d)) (snapshot-named (as_str d))) tt)))))

paired-ready : (loaded applied : Option (Data × Data)) → Holds IsReady (paired loaded applied)
paired-ready (Some p) applied = load-ready (id_of p.0) (snapshot_by (as_str p.1))
paired-ready None (Some p) = apply-ready (id_of p.0) (context_by (as_str p.1))
paired-ready None None = tt

table-ready : (one : Option (Bytes × Data)) (loaded applied : Option (Data × Data)) → Holds IsReady (table_by one loaded applied)
table-ready (Some m) loaded applied = keyed-ready m.0 m.1
table-ready None loaded applied = paired-ready loaded applied

in_table-ready : (ms : Option Members) → Holds IsReady (in_table ms)
in_table-ready (Some ms) = table-ready (only ms) (both (codes "load") (codes "snapshot") ms) (both (codes "apply") (codes "context") ms)
in_table-ready None = tt

step_by-ready : (created : Bool) (word : Option Bytes) (ms : Option Members) → Holds IsReady (step_by created word ms)
step_by-ready created (Some word) ms = holds-map IsReady Ready (word_step created word) (word-plain created word)
step_by-ready created None ms = in_table-ready ms

few_saves-holds : (P : List DraftStep → Type 0) (steps : Option (List DraftStep)) → Holds P steps → Holds P (few_saves steps)
few_saves-holds P None h = tt
few_saves-holds P (Some steps) h = holds-either P (fits saves_of most_saves steps) (Some steps) None h tt

steps_by-ready : (created : Bool) (ds : Option Items) → Holds (AllByRecursion IsReady) (steps_by created ds)
steps_by-ready created None = tt
steps_by-ready created (Some ds) =
    holds-either (AllByRecursion IsReady) (fits_chain (count_items ds)) (few_saves (each (step_of created) ds)) None
    (few_saves-holds (AllByRecursion IsReady) (each (step_of created) ds) (holds-each IsReady (step_of created) (λ d. step_by-ready created (as_str d) (as_table d)) ds)) tt

-- the steps of a chain that is read
pub chain-ready : (created : Bool) (d : Option Data) → Holds (AllByRecursion IsReady) (chain_by created d)
chain-ready created None = tt
chain-ready created (Some d) = steps_by-ready created (as_array d)

-- ---- how many steps there are

one-longer : {X : Type 0} (o : Option X) (os : Option (List X)) (n : ℕ) → Holds (λ xs. length xs ≡ n) os → Holds (λ xs. length xs ≡ n + 1) (cons o os)
one-longer None os n h = tt
one-longer (Some x) None n h = tt
one-longer (Some x) (Some xs) n h = omega (arith, h)

each-length : {X : Type 0} (f : Data → Option X) (ds : Items) → Holds (λ xs. length xs ≡ count_items ds) (each f ds)
each-length f no_items = refl
each-length f (item d ds) = one-longer (f d) (each f ds) (count_items ds) (each-length f ds)

abbrev IsShort : List DraftStep → Type 0
IsShort steps = length steps ≤ 64

short-by : (n : ℕ) → n ≤ 64 → (steps : Option (List DraftStep)) → Holds (λ xs. length xs ≡ n) steps → Holds IsShort steps
short-by n le None h = tt
short-by n le (Some steps) h = omega (arith, h)

steps_by-short : (created : Bool) (ds : Option Items) → Holds IsShort (steps_by created ds)
steps_by-short created None = tt
steps_by-short created (Some ds) = elim (fits_chain (count_items ds)) as (λ b. fits_chain (count_items ds) ≡ b → Holds IsShort (cond b (few_saves (each (step_of created) ds)) None)) [
  | true ↦ λ e. few_saves-holds IsShort (each (step_of created) ds)
      (short-by (count_items ds) (leb-true (count_items ds) 64 (right-part (nat_le 1 (count_items ds)) (nat_le (count_items ds) 64) e)) (each (step_of created) ds) (each-length (step_of created) ds))
  | false ↦ λ e. tt
] refl

-- a chain that is read
pub chain-short : (created : Bool) (d : Option Data) → Holds (λ steps. length steps ≤ 64) (chain_by created d)
chain-short created None = tt
chain-short created (Some d) = steps_by-short created (as_array d)

length-next : (done : List Step) (s : Step) (k : ℕ) (r : Result (List Step × List Pattern) RulesFault) → IfOk r (λ x. length x.0 ≡ length (done ++ s ∷ []) + k) → IfOk r (λ x. length x.0 ≡ length done + suc k)
length-next done s k (Err fault) h = tt
length-next done s k (Ok r) h = omega (arith, h, length-append done (s ∷ []))

step-length : (done : List Step) (k : ℕ) (rest : List Pattern → List Step → Result (List Step × List Pattern) RulesFault) → ((q : List Pattern) (d : List Step) → IfOk (rest q d) (λ x. length x.0 ≡ length d + k)) → (r : Linked) → IfOk (next_step rest done r) (λ x. length x.0 ≡ length done + suc k)
step-length done k rest later (Err fault) = tt
step-length done k rest later (Ok r) = length-next done r.0 k (rest r.1 (done ++ r.0 ∷ [])) (later r.1 (done ++ r.0 ∷ []))

pub link_steps-length : (n : ℕ) (names : List Bytes) (drafts : List DraftStep) (pool : List Pattern) (done : List Step) → IfOk (link_steps n names drafts pool done) (λ x. length x.0 ≡ length done + length drafts)
link_steps-length n names [] pool done = omega arith
link_steps-length n names (draft ∷ drafts) pool done = step-length done (length drafts) (link_steps n names drafts) (λ q d. link_steps-length n names drafts q d) (link_step n names pool done draft)

-- ---- steps with their numbers

pub within-more : (c d p q : ℕ) → c ≤ d → p ≤ q → (s : Step) → IsStepWithin c p s → IsStepWithin d q s
within-more c d p q le lq Body h = tt
within-more c d p q le lq Str h = tt
within-more c d p q le lq Copy h = tt
within-more c d p q le lq TemplateBody h = tt
within-more c d p q le lq (Make text) h = tt
within-more c d p q le lq (Load id snapshot) h = tt
within-more c d p q le lq (Concat n) h = omega arith
within-more c d p q le lq (Apply id n) h = omega arith
within-more c d p q le lq (SelfApply n) h = omega arith
within-more c d p q le lq (Save name) h = tt
within-more c d p q le lq Relativize h = tt

plain-within : (c p : ℕ) (s : Step) → IsPlain s → IsStepWithin c p s
plain-within c p Body h = tt
plain-within c p Str h = tt
plain-within c p Copy h = tt
plain-within c p TemplateBody h = tt
plain-within c p (Make text) h = tt
plain-within c p (Load id snapshot) h = tt
plain-within c p (Concat n) h = absurd h
plain-within c p (Apply id n) h = absurd h
plain-within c p (SelfApply n) h = absurd h
plain-within c p (Save name) h = tt
plain-within c p Relativize h = tt

-- the names under which steps save differ, and each is a snapshot's
pub record AreSaves (steps : List Step) : Type 0 where
  pub apart : IsDistinct bytes_eq (filter_map saved steps)
  pub named : AllByRecursion (λ name. is_snapshot_name name ≡ true) (filter_map saved steps)

pub no-saves : AreSaves []
unfolding IsDistinct
no-saves = record { apart = tt; named = tt }

saves-none : (steps : List Step) (s : Step) → saved s ≡ None → AreSaves steps → AreSaves (steps ++ s ∷ [])
saves-none steps s e h =
    let same : filter_map saved (steps ++ s ∷ []) ≡ filter_map saved steps = filter_map-append saved steps (s ∷ []) ∙ ap (λ o. filter_map saved steps ++ cons_option o []) e ∙ append-nil (filter_map saved steps) in
    record {
      apart = subst (IsDistinct bytes_eq) (sym same) h.apart;
      named = subst (AllByRecursion (λ name. is_snapshot_name name ≡ true)) (sym same) h.named;
    }

saves-some : (steps : List Step) (s : Step) (name : Bytes) → saved s ≡ Some name → AllByRecursion (λ x. bytes_eq x name ≡ false) (filter_map saved steps) → is_snapshot_name name ≡ true → AreSaves steps → AreSaves (steps ++ s ∷ [])
saves-some steps s name e others own h =
    let same : filter_map saved (steps ++ s ∷ []) ≡ filter_map saved steps ++ name ∷ [] = filter_map-append saved steps (s ∷ []) ∙ ap (λ o. filter_map saved steps ++ cons_option o []) e in
    record {
      apart = subst (IsDistinct bytes_eq) (sym same) (distinct-push bytes_eq (filter_map saved steps) name h.apart others);
      named = subst (AllByRecursion (λ name. is_snapshot_name name ≡ true)) (sym same) (all-push _ (filter_map saved steps) name h.named own);
    }

either-left : (a b : Bool) → (a || b) ≡ false → a ≡ false
either-left true b e = e
either-left false b e = refl

either-rest : (a b : Bool) → (a || b) ≡ false → b ≡ false
either-rest true b e = absurd (not-both true refl e)
either-rest false b e = e

unsaved-step : (name : Bytes) (steps : List Step) → (list_any (saves_as name) steps ≡ false → AllByRecursion (λ x. bytes_eq x name ≡ false) (filter_map saved steps)) → (o : Option Bytes) → (is_named name o || list_any (saves_as name) steps) ≡ false → AllByRecursion (λ x. bytes_eq x name ≡ false) (cons_option o (filter_map saved steps))
unsaved-step name steps rest None h = rest h
unsaved-step name steps rest (Some other) h = (either-left (bytes_eq other name) (list_any (saves_as name) steps) h, rest (either-rest (bytes_eq other name) (list_any (saves_as name) steps) h))

-- no step saves under a name
unsaved : (name : Bytes) (steps : List Step) → list_any (saves_as name) steps ≡ false → AllByRecursion (λ x. bytes_eq x name ≡ false) (filter_map saved steps)
unsaved name [] h = tt
unsaved name (s ∷ steps) h = unsaved-step name steps (unsaved name steps) (saved s) h

-- a step after those that are done, and the patterns then
pub record IsLinkedStep (names : List Bytes) (pool : List Pattern) (done : List Step) (r : Step × List Pattern) : Type 0 where
  pub within : IsStepWithin (length names) (length r.1) r.0
  pub grown : IsGrown pool r.1
  pub saves : AreSaves done → AreSaves (done ++ r.0 ∷ [])

name-of-snapshot : (s : Step) (name : Bytes) → IsPlain s → saved s ≡ Some name → is_snapshot_name name ≡ true
name-of-snapshot Body name h e = cc
name-of-snapshot Str name h e = cc
name-of-snapshot Copy name h e = cc
name-of-snapshot TemplateBody name h e = cc
name-of-snapshot (Make text) name h e = cc
name-of-snapshot (Load id snapshot) name h e = cc
name-of-snapshot (Concat n) name h e = cc
name-of-snapshot (Apply id n) name h e = cc
name-of-snapshot (SelfApply n) name h e = cc
name-of-snapshot (Save own) name h e = let same : own ≡ name = cc in subst (λ n. is_snapshot_name n ≡ true) same h
name-of-snapshot Relativize name h e = cc

link-ready : (n : ℕ) (names : List Bytes) (pool : List Pattern) (done : List Step) (s : Step) → IsPlain s → (o : Option Bytes) → saved s ≡ o → IfOk (ready_by n pool done s o) (IsLinkedStep names pool done)
link-ready n names pool done s plain None e =
    record { within = plain-within (length names) (length pool) s plain; grown = grown-same pool; saves = λ h. saves-none done s e h }
link-ready n names pool done s plain (Some name) e =
    elim (list_any (saves_as name) done) as (λ b. list_any (saves_as name) done ≡ b → IfOk (saving n pool s name b) (IsLinkedStep names pool done)) [
      | true ↦ λ again. tt
      | false ↦ λ once. record {
        within = plain-within (length names) (length pool) s plain;
        grown = grown-same pool;
        saves = λ h. saves-some done s name e (unsaved name done once) (name-of-snapshot s name plain e) h;
      }
    ] refl

apply-linked : (n : ℕ) (names : List Bytes) (pool : List Pattern) (done : List Step) (id : Ident) (name : Bytes) (o : Option ℕ) → Below (length names) o → IfOk (apply_step n pool id name o) (IsLinkedStep names pool done)
apply-linked n names pool done id name None h = tt
apply-linked n names pool done id name (Some context) h =
    record { within = h; grown = grown-same pool; saves = λ k. saves-none done (Apply id context) refl k }

self-linked : (n : ℕ) (names : List Bytes) (pool : List Pattern) (done : List Step) (name : Bytes) (o : Option ℕ) → Below (length names) o → IfOk (self_step n pool name o) (IsLinkedStep names pool done)
self-linked n names pool done name None h = tt
self-linked n names pool done name (Some context) h =
    record { within = h; grown = grown-same pool; saves = λ k. saves-none done (SelfApply context) refl k }

link_step-linked : (n : ℕ) (names : List Bytes) (pool : List Pattern) (done : List Step) (draft : DraftStep) → IsReady draft → IfOk (link_step n names pool done draft) (IsLinkedStep names pool done)
link_step-linked n names pool done (Ready step) ready = link-ready n names pool done step ready (saved step) refl
link_step-linked n names pool done (DraftConcat p) ready =
    record { within = numbered-below pool p; grown = numbered-grown pool p; saves = λ k. saves-none done (Concat (numbered pool p).0) refl k }
link_step-linked n names pool done (DraftApply id name) ready = apply-linked n names pool done id name (place_of name names) (place_of-below name names)
link_step-linked n names pool done (DraftSelf name) ready = self-linked n names pool done name (place_of name names) (place_of-below name names)

-- steps with their numbers, and the patterns then
pub record AreLinkedSteps (names : List Bytes) (pool : List Pattern) (r : List Step × List Pattern) : Type 0 where
  pub within : AllByRecursion (IsStepWithin (length names) (length r.1)) r.0
  pub grown : IsGrown pool r.1
  pub saves : AreSaves r.0

abbrev Done : List Bytes → List Pattern → List Step → Type 0
Done names pool done = AllByRecursion (IsStepWithin (length names) (length pool)) done × AreSaves done

steps-grown : (names : List Bytes) (pool next : List Pattern) → IsGrown pool next → (r : Result (List Step × List Pattern) RulesFault) → IfOk r (AreLinkedSteps names next) → IfOk r (AreLinkedSteps names pool)
steps-grown names pool next g (Ok r) h = record { within = h.within; grown = grown-more pool next r.1 g h.grown; saves = h.saves }
steps-grown names pool next g (Err fault) h = tt

steps-next : (names : List Bytes) (pool : List Pattern) (done : List Step) (rest : List Pattern → List Step → Result (List Step × List Pattern) RulesFault) → ((q : List Pattern) (d : List Step) → Done names q d → IfOk (rest q d) (AreLinkedSteps names q)) → Done names pool done → (r : Linked) → IfOk r (IsLinkedStep names pool done) → IfOk (next_step rest done r) (AreLinkedSteps names pool)
steps-next names pool done rest later h (Err fault) k = tt
steps-next names pool done rest later h (Ok r) k =
    let old = all-weaken (IsStepWithin (length names) (length pool)) (IsStepWithin (length names) (length r.1)) (within-more (length names) (length names) (length pool) (length r.1) (omega arith) k.grown.long) done h.0 in
    steps-grown names pool r.1 k.grown (rest r.1 (done ++ r.0 ∷ [])) (later r.1 (done ++ r.0 ∷ []) (all-push _ done r.0 old k.within, k.saves h.1))

pub link_steps-linked : (n : ℕ) (names : List Bytes) (drafts : List DraftStep) (pool : List Pattern) (done : List Step) → AllByRecursion IsReady drafts → Done names pool done → IfOk (link_steps n names drafts pool done) (AreLinkedSteps names pool)
link_steps-linked n names [] pool done ready h = record { within = h.0; grown = grown-same pool; saves = h.1 }
link_steps-linked n names (draft ∷ drafts) pool done ready h =
    steps-next names pool done (link_steps n names drafts) (λ q d k. link_steps-linked n names drafts q d ready.1 k) h
    (link_step n names pool done draft) (link_step-linked n names pool done draft ready.0)
