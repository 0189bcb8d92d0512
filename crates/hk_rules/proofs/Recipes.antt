-- The recipe of an item has all that its chain names, and its file's header is the plan's.
use Rattle.std.proofs.Common.{◌≡◌, ℕ, zero, suc, ◌+◌, ◌<◌, true, false, List, [], ◌∷◌, length, get_or, nat_eq, eq-eqb, Option, Some, None, option_map, Result, Ok, Err, refl, sym, ap, ◌∙◌, arith}
use Rattle.std.specs.Prelude.{bytes_eq}
use Rattle.std.specs.List.{AllByRecursion, flat_map, position_from}
use Rattle.std.specs.Option.{option_and_then}
use Rattle.std.proofs.lemmas.List.{get_or-map, length-map}
use Rattle.hk_base.specs.Bytes.{Bytes}
use Rattle.hk_chain.specs.Layout.{pairs}
use Rattle.hk_chain.specs.declared.chain.Step.{Step}
use Rattle.hk_chain.specs.declared.chain.Step.TheVariants as steps
use Rattle.hk_chain.specs.declared.context.Field.{Field}
use Rattle.hk_chain.specs.declared.context.Field.TheVariants as fields
use Rattle.hk_meta.specs.Header as header
use Rattle.hk_meta.specs.Metadata.{Pairs}
use Rattle.hk_meta.specs.declared.answer.HeaderFault.{HeaderFault}
use Rattle.hk_meta.specs.declared.answer.Split.{Split}
use Rattle.hk_rules_file.specs.Linked.{IsStepWithin, IsLinkedField, name_of, context_names}
use Rattle.hk_rules_file.specs.Rules.{RulesView}
use Rattle.hk_rules.specs.Headers.{at_path, with_companion, merged, header_in, header_of}
use Rattle.hk_rules.specs.LinkedPlan.{IsLinkedPlan}
use Rattle.hk_rules.specs.Outcomes.{after, with_first, each}
use Rattle.hk_rules.specs.Plan.{no_item, no_header, no_context, item_at, id_at, chain_at, header_at, text_of as file_text, companion_of, context_at, lookups}
use Rattle.hk_rules.specs.MadePlan.{IsHeaded}
use Rattle.hk_rules.specs.PlanView.{PlanView}
use Rattle.hk_rules.specs.Planning.{plan_of}
use Rattle.hk_rules.specs.Recipe.{source_of, header_or, own_header, step_contexts, field_contexts, list_contexts, is_among, reached, recipe_in, IsFieldAmong, IsStepAmong, AreClosed, IsRecipe}
use Rattle.hk_rules.specs.declared.source_file.SourceFile.{SourceFile}
use Rattle.hk_rules.proofs.Outcome.{plan_of-inverse}
use Rattle.hk_rules.proofs.PairNumbers.{all-at, position-distinct, linked-chain}
use Rattle.hk_rules.proofs.Reaching.{or-left, among-all, all-among, among-front, among-back, reached-lists, reached-steps, reached-within}

-- ---- headers

first-at : {S T F : Type 0} (step : S → Result T F) (x : S) (xs : List S) (ys : List T) (d : S) (e : T) → ((zs : List T) → each step xs ≡ Ok zs → (k : ℕ) → k < length xs → step (get_or xs k d) ≡ Ok (get_or zs k e)) → (r : Result T F) (s : Result (List T) F) → step x ≡ r → each step xs ≡ s → with_first r s ≡ Ok ys → (k : ℕ) → k < length (x ∷ xs) → step (get_or (x ∷ xs) k d) ≡ Ok (get_or ys k e)
first-at step x xs ys d e rec (Err f) s a b w k lt = cc
first-at step x xs ys d e rec (Ok y) (Err f) a b w k lt = cc
first-at step x xs ys d e rec (Ok y) (Ok zs) a b w zero lt = let same : y ∷ zs ≡ ys = cc in a ∙ ap (λ l. Ok (get_or l 0 e)) same
first-at step x xs ys d e rec (Ok y) (Ok zs) a b w (suc k) lt = let same : y ∷ zs ≡ ys = cc in rec zs b k (omega (arith, lt)) ∙ ap (λ l. Ok (get_or l (suc k) e)) same

each-at : {S T F : Type 0} (step : S → Result T F) (xs : List S) (ys : List T) → each step xs ≡ Ok ys → (i : ℕ) (d : S) (e : T) → i < length xs → step (get_or xs i d) ≡ Ok (get_or ys i e)
each-at step [] ys h i d e lt = absurd (omega arith)
each-at step (x ∷ xs) ys h i d e lt = first-at step x xs ys d e (λ zs w k less. each-at step xs zs w k d e less) (step x) (each step xs) refl refl h i lt

companion-any : (path : Bytes) (split : Split) (added : Result Pairs HeaderFault) (whole : Split) → after (at_path path added) (merged split) ≡ Ok whole → (other : Bytes) → after (at_path other added) (merged split) ≡ Ok whole
companion-any path split (Ok pairs) whole e other = e
companion-any path split (Err fault) whole e other = cc

with-any : (path : Bytes) (companion : Option Bytes) (split whole : Split) → with_companion path companion split ≡ Ok whole → with_companion [] companion split ≡ Ok whole
with-any path None split whole e = e
with-any path (Some text) split whole e = companion-any _ split (header.read_companion text) whole e _

split-any : (path : Bytes) (companion : Option Bytes) (first : Result Split HeaderFault) (whole : Split) → after (at_path path first) (with_companion path companion) ≡ Ok whole → after (at_path [] first) (with_companion [] companion) ≡ Ok whole
split-any path companion (Ok split) whole e = with-any path companion split whole e
split-any path companion (Err fault) whole e = cc

-- a header doesn't depend on the path of its file
header-any : (path : Bytes) (source : Option SourceFile) (whole : Split) → header_in path source ≡ Ok whole → header_in [] (source_of (option_map file_text source) (option_and_then companion_of source)) ≡ Ok whole
header-any path None whole e = e
header-any path (Some source) whole e = split-any path source.companion (header.split source.text) whole e

module _ (plan : PlanView) (headed : IsHeaded plan) where
  pub header-own : (i : ℕ) → i < length plan.items → own_header (recipe_in (lookups plan) (length plan.contexts) i) ≡ header_at plan i
  unfolding lookups
  header-own i lt =
      ap header_or (header-any (id_at plan i).path (item_at plan i).1.source (header_at plan i) (each-at header_of plan.items plan.headers headed i no_item no_header lt))

pub plan_of-headed : (rules : RulesView) (files : List (Bytes × Bytes)) (plan : PlanView) → plan_of rules files ≡ Ok plan → IsHeaded plan
plan_of-headed rules files plan e = (plan_of-inverse rules files plan e).headers

-- ---- chains and contexts

module _ (plan : PlanView) (linked : IsLinkedPlan plan) (chain : List Step) where
  abbrev count : ℕ
  count = length plan.contexts

  abbrev patterns : ℕ
  patterns = length plan.patterns

  abbrev here : List ℕ
  here = reached (lookups plan) count chain

  own : (c : ℕ) → is_among (c ∷ []) c ≡ true
  own c = or-left (nat_eq c c) false (eq-eqb c c refl)

  -- each context that the steps name is reached
  step-among : (step : Step) → IsStepWithin count patterns step → ((c : ℕ) → is_among (step_contexts step) c ≡ true → is_among (flat_map step_contexts chain) c ≡ true) → IsStepAmong patterns here step
  step-among steps.Body h f = tt
  step-among steps.Str h f = tt
  step-among steps.Copy h f = tt
  step-among steps.TemplateBody h f = tt
  step-among (steps.Make text) h f = tt
  step-among (steps.Load id name) h f = tt
  step-among (steps.Concat n) h f = h
  step-among (steps.Apply id c) h f = reached-steps (lookups plan) count chain c h (f c (own c))
  step-among (steps.SelfApply c) h f = reached-steps (lookups plan) count chain c h (f c (own c))
  step-among (steps.Save name) h f = tt
  step-among steps.Relativize h f = tt

  steps-among : (more : List Step) → AllByRecursion (IsStepWithin count patterns) more → ((c : ℕ) → is_among (flat_map step_contexts more) c ≡ true → is_among (flat_map step_contexts chain) c ≡ true) → AllByRecursion (IsStepAmong patterns here) more
  steps-among [] h f = tt
  steps-among (step ∷ more) h f = (
    step-among step h.0 (λ c i. f c (among-front (step_contexts step) (flat_map step_contexts more) c i)),
    steps-among more h.1 (λ c i. f c (among-back (step_contexts step) (flat_map step_contexts more) c i)),
  )

  -- and each that their lists name
  field-among : (b : ℕ) → is_among here b ≡ true → (field : Field) → IsLinkedField count patterns field → ((c : ℕ) → is_among (field_contexts field) c ≡ true → is_among (list_contexts (lookups plan) b) c ≡ true) → IsFieldAmong patterns here field
  field-among b i fields.Body h f = tt
  field-among b i fields.Metadata h f = tt
  field-among b i fields.Url h f = tt
  field-among b i fields.Path h f = tt
  field-among b i fields.Title h f = tt
  field-among b i (fields.Const key text) h f = tt
  field-among b i (fields.Date key by) h f = tt
  field-among b i (fields.Bool key set) h f = tt
  field-among b i (fields.Teaser key name) h f = tt
  field-among b i (fields.List key n name order limit c) h f = (h.0, reached-lists (lookups plan) count chain b c h.1 i (f c (own c)))

  fields-among : (b : ℕ) → is_among here b ≡ true → (more : List Field) → AllByRecursion (IsLinkedField count patterns) more → ((c : ℕ) → is_among (flat_map field_contexts more) c ≡ true → is_among (list_contexts (lookups plan) b) c ≡ true) → AllByRecursion (IsFieldAmong patterns here) more
  fields-among b i [] h f = tt
  fields-among b i (field ∷ more) h f = (
    field-among b i field h.0 (λ c e. f c (among-front (field_contexts field) (flat_map field_contexts more) c e)),
    fields-among b i more h.1 (λ c e. f c (among-back (field_contexts field) (flat_map field_contexts more) c e)),
  )

  below : (c : ℕ) → is_among here c ≡ true → c < count
  below c i = among-all (λ n. n < count) here c (reached-within (lookups plan) count chain) i

  context-fields : (c : ℕ) → is_among here c ≡ true → AllByRecursion (IsFieldAmong patterns here) ((lookups plan).context c).fields
  unfolding lookups
  context-fields c i =
      fields-among c i (context_at plan c).fields
      (all-at (λ context. AllByRecursion (IsLinkedField count patterns) context.fields) plan.contexts c no_context linked.named.within (below c i)) (λ d e. e)

  -- a context is found by its name
  name-place : (c : ℕ) → c < count → position_from (λ own. bytes_eq own (context_at plan c).name) 0 (context_names plan.contexts) ≡ Some c
  name-place c lt =
      let names = context_names plan.contexts in
      let within : c < length names = omega (arith, lt, length-map plan.contexts name_of) in
      let place : 0 + c ≡ c = omega arith in
      ap (λ by. position_from (λ own. bytes_eq own by) 0 names) (sym (get_or-map name_of plan.contexts c no_context [] lt))
      ∙ position-distinct names c [] 0 linked.named.names within
      ∙ ap Some place

  names-apart : (c d : ℕ) → c < count → d < count → (context_at plan c).name ≡ (context_at plan d).name → c ≡ d
  names-apart c d lt less e =
      let same : Some c ≡ Some d = sym (name-place c lt) ∙ (ap (λ by. position_from (λ own. bytes_eq own by) 0 (context_names plan.contexts)) e ∙ name-place d less) in cc

  pub contexts-closed : AreClosed (lookups plan) patterns here
  unfolding lookups
  contexts-closed =
      record {
        fields = all-among (λ c. AllByRecursion (IsFieldAmong patterns here) (context_at plan c).fields) here context-fields;
        apart = λ c d i j e. names-apart c d (below c i) (below d j) e;
      }

pub plan-recipe : (plan : PlanView) → IsLinkedPlan plan → IsHeaded plan → (i : ℕ) → i < length plan.items → IsRecipe (lookups plan) (length plan.contexts) (length plan.patterns) i
unfolding lookups
plan-recipe plan linked headed i lt =
    record {
      steps = steps-among plan linked (chain_at plan i) (chain_at plan i) (linked-chain plan i linked lt).within (λ c e. e);
      contexts_of = contexts-closed plan linked (chain_at plan i);
      meta = ap (λ split. split.meta) (header-own plan headed i lt);
      body_start = ap (λ split. split.body_start) (header-own plan headed i lt);
    }
