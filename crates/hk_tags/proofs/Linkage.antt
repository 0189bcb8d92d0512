-- The rules that pages make are linked, as those are that they are made of.
use Rattle.std.proofs.Common.{◌≡◌, ◌∙◌, ℕ, zero, suc, ◌+◌, ◌<◌, ◌≤◌, Bool, true, false, cond, List, [], ◌∷◌, ◌++◌, length, map, get_or, Result, Ok, refl, sym, ap, subst, arith, length-append}
use Rattle.std.specs.Prelude.{bytes_eq}
use Rattle.std.specs.BTreeSet.{insert_key}
use Rattle.std.specs.List.{AllByRecursion, IsDistinct, cons_option, list_any}
use Rattle.std.proofs.lemmas.List.{map-append, length-map, get_or_append_left}
use Rattle.hk_base.specs.Bytes.{Bytes}
use Rattle.hk_base.specs.Identifier.{ident_cmp}
use Rattle.hk_chain.specs.declared.chain.Step.{Step}
use Rattle.hk_chain.specs.declared.chain.Step.TheVariants.{Body, Str, Copy, TemplateBody, Make, Load, Concat, Apply, SelfApply, Save, Relativize}
use Rattle.hk_forms.specs.Names.{is_context_name, is_snapshot_name}
use Rattle.hk_pattern.specs.declared.pattern.Pattern.{Pattern, Ids}
use Rattle.hk_rules.specs.Plan.{Lookups, no_context}
use Rattle.hk_rules_file.specs.Linked.{IsStepWithin, IsLinkedField, IsLinkedChain, IsLinkedTable, AreLinked, IsRouted, context_names, name_of}
use Rattle.hk_rules_file.specs.Numbering.{numbered, texts_of}
use Rattle.hk_rules_file.specs.Saves.{saved, saves}
use Rattle.hk_rules_file.proofs.LinkedFields.{field-more}
use Rattle.hk_rules_file.proofs.LinkedNumbers.{all-push, all-append, all-weaken, distinct-push, numbered-grown, numbered-below}
use Rattle.hk_rules_file.proofs.LinkedSteps.{within-more}
use Rattle.hk_chain.specs.Names.{final_name}
use Rattle.hk_tags.specs.Expanding.{GrownView, is_ident, page_ident, grown_by, with_one}
use Rattle.hk_tags.specs.Growing.{MakingView, step_in, const_field, context_at, page_context, page_rule, ids_of}
use Rattle.hk_tags.specs.Pages.{PageView}
use Rattle.hk_tags.specs.declared.tag_fault.TagFault.{TagFault}
use Rattle.hk_tags.proofs.Names.{plain_ident, IsKnown, page_ident-of, known-differs, known-more, known-new}
use Rattle.hk_tags.proofs.Turning.{went-on, same-ok}

-- ---- the chain of a page

placed-below : (b : Bool) (new number count : ℕ) → new < count → number < count → cond b new number < count
placed-below true new number count h k = h
placed-below false new number count h k = k

step-within : (c d p q old new : ℕ) → c ≤ d → p ≤ q → new < d → (s : Step) → IsStepWithin c p s → IsStepWithin d q (step_in old new s)
step-within c d p q old new le lq lt Body h = tt
step-within c d p q old new le lq lt Str h = tt
step-within c d p q old new le lq lt Copy h = tt
step-within c d p q old new le lq lt TemplateBody h = tt
step-within c d p q old new le lq lt (Make text) h = tt
step-within c d p q old new le lq lt (Load id snapshot) h = tt
step-within c d p q old new le lq lt (Concat n) h = omega arith
step-within c d p q old new le lq lt (Apply id n) h = placed-below _ new n d lt (omega arith)
step-within c d p q old new le lq lt (SelfApply n) h = placed-below _ new n d lt (omega arith)
step-within c d p q old new le lq lt (Save name) h = tt
step-within c d p q old new le lq lt Relativize h = tt

steps-within : (c d p q old new : ℕ) → c ≤ d → p ≤ q → new < d → (steps : List Step) → AllByRecursion (IsStepWithin c p) steps → AllByRecursion (IsStepWithin d q) (map (step_in old new) steps)
steps-within c d p q old new le lq lt [] h = tt
steps-within c d p q old new le lq lt (s ∷ steps) h = (step-within c d p q old new le lq lt s h.0, steps-within c d p q old new le lq lt steps h.1)

saved-in : (old new : ℕ) (s : Step) → saved (step_in old new s) ≡ saved s
saved-in old new Body = refl
saved-in old new Str = refl
saved-in old new Copy = refl
saved-in old new TemplateBody = refl
saved-in old new (Make text) = refl
saved-in old new (Load id snapshot) = refl
saved-in old new (Concat n) = refl
saved-in old new (Apply id n) = refl
saved-in old new (SelfApply n) = refl
saved-in old new (Save name) = refl
saved-in old new Relativize = refl

saves-in : (old new : ℕ) (steps : List Step) → saves (map (step_in old new) steps) ≡ saves steps
saves-in old new [] = refl
saves-in old new (s ∷ steps) = ap (λ o. cons_option o (saves (map (step_in old new) steps))) (saved-in old new s) ∙ ap (cons_option (saved s)) (saves-in old new steps)

chain-in : (c d p q old new : ℕ) → c ≤ d → p ≤ q → new < d → (steps : List Step) → IsLinkedChain c p steps → IsLinkedChain d q (map (step_in old new) steps)
chain-in c d p q old new le lq lt steps h = record {
  short = subst (λ k. k ≤ 64) (sym (length-map steps (step_in old new))) h.short;
  within = steps-within c d p q old new le lq lt steps h.within;
  names = subst (λ l. IsDistinct bytes_eq (l ++ final_name ∷ [])) (sym (saves-in old new steps)) h.names;
  saved = subst (AllByRecursion (λ name. is_snapshot_name name ≡ true)) (sym (saves-in old new steps)) h.saved;
}

chain-more : (c d p q : ℕ) → c ≤ d → p ≤ q → (steps : List Step) → IsLinkedChain c p steps → IsLinkedChain d q steps
chain-more c d p q le lq steps h = record { short = h.short; within = all-weaken (IsStepWithin c p) (IsStepWithin d q) (within-more c d p q le lq) steps h.within; names = h.names; saved = h.saved }

-- ---- the context of a page

pub all-at : {X : Type 0} (P : X → Type 0) (xs : List X) (i : ℕ) (d : X) → i < length xs → AllByRecursion P xs → P (get_or xs i d)
all-at P [] i d lt h = absurd (omega arith)
all-at P (x ∷ xs) zero d lt h = h.0
all-at P (x ∷ xs) (suc i) d lt h = all-at P xs i d (omega arith) h.1

pub all-here : {X : Type 0} (P : X → Type 0) (xs : List X) (i : ℕ) (x : X) → i < length xs → x ≡ get_or xs i x → AllByRecursion P xs → P x
all-here P xs i x lt at h = subst P (sym at) (all-at P xs i x lt h)

consts-linked : (c p : ℕ) (own : List (Bytes × Bytes)) → AllByRecursion (IsLinkedField c p) (map const_field own)
consts-linked c p [] = tt
consts-linked c p (t ∷ own) = (tt, consts-linked c p own)

-- ---- what holds of the rules so far

-- they are linked; the first contexts, which tables name, have well-formed names, and the others those of pages
pub record AreGrown (contexts patterns : ℕ) (grown : GrownView) : Type 0 where
  pub chains : AllByRecursion (λ rule. IsLinkedChain (length grown.growing.contexts) (length grown.growing.patterns) rule.chain) grown.growing.rules
  pub named : AreLinked grown.growing.contexts grown.growing.patterns
  pub routes : AllByRecursion (λ rule. IsRouted rule.route) grown.growing.rules
  pub known : AllByRecursion (IsKnown grown.made) (context_names grown.growing.contexts)
  pub long : contexts ≤ length grown.growing.contexts
  pub many : patterns ≤ length grown.growing.patterns
  pub first : (k : ℕ) → k < contexts → is_context_name (context_at grown.growing.contexts k).name ≡ true

module _ (contexts patterns : ℕ) (base : Lookups) (making : MakingView) (table : IsLinkedTable contexts patterns making.chain making.route making.context making.item) where
  abbrev pages_pattern : PageView → Pattern
  pages_pattern page = Ids (ids_of base page.members)

  made-grown : (grown : GrownView) (page : PageView) (number : ℕ) (next : List Pattern) → AreGrown contexts patterns grown → list_any (is_ident (plain_ident page.path)) grown.made ≡ false
      → number < length next → length grown.growing.patterns ≤ length next → IsDistinct bytes_eq (texts_of next)
      → AreGrown contexts patterns (record {
        growing = record {
          rules = grown.growing.rules ++ page_rule making (length grown.growing.contexts) (plain_ident page.path) ∷ [];
          contexts = grown.growing.contexts ++ page_context grown.growing.contexts making page number ∷ [];
          patterns = next;
        };
        made = insert_key ident_cmp grown.made (plain_ident page.path);
      })
  made-grown grown page number next h free below more apart =
      let cs = grown.growing.contexts in
      let n = length cs in
      let c = page_context cs making page number in
      let p = length grown.growing.patterns in
      let q = length next in
      let behind = context_at cs making.context in
      let size : length (cs ++ c ∷ []) ≡ n + 1 = length-append cs (c ∷ []) in
      let le : n ≤ length (cs ++ c ∷ []) = omega (arith, size) in
      let new : n < length (cs ++ c ∷ []) = omega (arith, size) in
      let wide : contexts ≤ length (cs ++ c ∷ []) = omega (arith, size, h.long) in
      let few : patterns ≤ q = omega (arith, h.many, more) in
      let formed : is_context_name behind.name ≡ true = h.first making.context table.behind in
      let names : context_names cs ++ c.name ∷ [] ≡ context_names (cs ++ c ∷ []) = sym (map-append name_of cs (c ∷ [])) in
      let fields : AllByRecursion (IsLinkedField n p) behind.fields = all-at (λ context. AllByRecursion (IsLinkedField n p) context.fields) cs making.context no_context (omega (arith, table.behind, h.long)) h.named.within in
      record {
        chains = all-push (λ rule. IsLinkedChain (length (cs ++ c ∷ [])) q rule.chain) grown.growing.rules (page_rule making n (plain_ident page.path))
            (all-weaken (λ rule. IsLinkedChain n p rule.chain) (λ rule. IsLinkedChain (length (cs ++ c ∷ [])) q rule.chain) (λ rule k. chain-more n (length (cs ++ c ∷ [])) p q le more rule.chain k) grown.growing.rules h.chains)
            (chain-in contexts (length (cs ++ c ∷ [])) patterns q making.context n wide few new making.chain table.linked);
        named = record {
          within = all-push (λ context. AllByRecursion (IsLinkedField (length (cs ++ c ∷ [])) q) context.fields) cs c
              (all-weaken (λ context. AllByRecursion (IsLinkedField n p) context.fields) (λ context. AllByRecursion (IsLinkedField (length (cs ++ c ∷ [])) q) context.fields)
              (λ context k. all-weaken (IsLinkedField n p) (IsLinkedField (length (cs ++ c ∷ [])) q) (field-more n (length (cs ++ c ∷ [])) p q le more) context.fields k) cs h.named.within) (
                (below, omega (arith, size, h.long, table.listed), tt),
                all-append (IsLinkedField (length (cs ++ c ∷ [])) q) (map const_field page.own) behind.fields (consts-linked (length (cs ++ c ∷ [])) q page.own)
                    (all-weaken (IsLinkedField n p) (IsLinkedField (length (cs ++ c ∷ [])) q) (field-more n (length (cs ++ c ∷ [])) p q le more) behind.fields fields),
              );
          names = subst (IsDistinct bytes_eq) names (distinct-push bytes_eq (context_names cs) c.name h.named.names
              (all-weaken (IsKnown grown.made) (λ x. bytes_eq x c.name ≡ false) (known-differs grown.made behind.name page.path formed free) (context_names cs) h.known));
          texts = apart;
        };
        routes = all-push (λ rule. IsRouted rule.route) grown.growing.rules (page_rule making n (plain_ident page.path)) h.routes table.routed;
        known = subst (AllByRecursion (IsKnown (insert_key ident_cmp grown.made (plain_ident page.path)))) names
            (all-push (IsKnown (insert_key ident_cmp grown.made (plain_ident page.path))) (context_names cs) c.name
            (all-weaken (IsKnown grown.made) (IsKnown (insert_key ident_cmp grown.made (plain_ident page.path))) (known-more grown.made (plain_ident page.path)) (context_names cs) h.known)
            (known-new grown.made behind.name page.path formed));
        long = wide;
        many = few;
        first = λ k lt. ap (λ x. is_context_name x.name) (get_or_append_left cs (c ∷ []) no_context k (omega (arith, lt, h.long))) ∙ h.first k lt;
      }

  pub one-grown : (grown : GrownView) (page : PageView) (next : GrownView) → AreGrown contexts patterns grown → with_one base making grown page ≡ Ok next → AreGrown contexts patterns next
  one-grown grown page next h e =
      let w = went-on (page_ident base grown.made page.path) (λ id. Ok (grown_by base grown making page id)) next e in
      let i = page_ident-of base grown.made page.path w.0 w.1.0 in
      let g = numbered-grown grown.growing.patterns (pages_pattern page) in
      let r = numbered grown.growing.patterns (pages_pattern page) in
      let ok : Result GrownView TagFault = Ok (grown_by base grown making page w.0) in
      subst (AreGrown contexts patterns) (same-ok ok (grown_by base grown making page w.0) next refl w.1.1)
      (subst (λ id. AreGrown contexts patterns (grown_by base grown making page id)) (sym i.is)
      (made-grown grown page r.0 r.1 h i.free (numbered-below grown.growing.patterns (pages_pattern page)) g.long (g.apart h.named.texts)))
