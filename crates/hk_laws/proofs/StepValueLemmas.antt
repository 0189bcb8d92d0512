-- Steps are read exactly where they are such values.
use Rattle.std.proofs.Common.{◌≡◌, Bool, true, false, if◌then◌else◌, codes, refl, sym, ap, subst, Option, Some, None, option_map}
use Rattle.toml.specs.Data.{Data, string, integer, float, boolean, datetime, array, table, Members, no_members, member, as_str}
use Rattle.hk_base.specs.Bytes.{Bytes}
use Rattle.hk_base.specs.Identifier.{Ident}
use Rattle.hk_chain.specs.declared.chain.Step.{Step}
use Rattle.hk_chain.specs.declared.chain.Step.TheVariants.{Body, Str, Copy, TemplateBody, Make, Load, Save, Relativize}
use Rattle.hk_forms.specs.IdForm.{id_of}
use Rattle.hk_forms.specs.Members.{both}
use Rattle.hk_forms.specs.Names.{is_context_name, is_snapshot_name}
use Rattle.hk_forms.specs.PatternForm.{pattern_of}
use Rattle.hk_steps.specs.StepForm.{default_name, context_by, snapshot_by, word_step, load_by, apply_by, keyed, paired, step_of}
use Rattle.hk_chain.specs.Names.{final_name}
use Rattle.hk_steps.specs.declared.draft.DraftStep.{DraftStep}
use Rattle.hk_steps.specs.declared.draft.DraftStep.TheVariants.{Ready, Concat, Apply, SelfApply}
use Rattle.hk_laws.specs.Values.{Reads, only_at, HasTwo, in_order, turned}
use Rattle.hk_laws.specs.PatternValues.{IsIdent}
use Rattle.hk_laws.specs.StepValues.{IsStep, body, whole, copy, template, relativize, make, load, load_saved, concat, apply, apply_in, self, save}
use Rattle.hk_laws.proofs.ValueLemmas.{at_key, tested, of_map, is_string, is_both}
use Rattle.hk_laws.proofs.PatternValueLemmas.{reads_idents, reads_patterns}

abbrev Row : Bool → Data → DraftStep → Type 0
Row created d s = IsStep created d s

-- ---- words

pub context_is : (o : Option Bytes) (name : Bytes) → context_by o ≡ Some name → (o ≡ Some name) × (is_context_name name ≡ true)
context_is None name e = let no_ : ⊥ = cc in absurd no_
context_is (Some text) name e = let is = tested is_context_name text name e in (ap Some is.1, subst (λ t. is_context_name t ≡ true) is.1 is.0)

pub snapshot_is : (o : Option Bytes) (name : Bytes) → snapshot_by o ≡ Some name → (o ≡ Some name) × (is_snapshot_name name ≡ true)
snapshot_is None name e = let no_ : ⊥ = cc in absurd no_
snapshot_is (Some text) name e = let is = tested is_snapshot_name text name e in (ap Some is.1, subst (λ t. is_snapshot_name t ≡ true) is.1 is.0)

pub is_context : (name : Bytes) → is_context_name name ≡ true → context_by (Some name) ≡ Some name
is_context name e = ap (λ b. if b then Some name else None) e

pub is_snapshot : (name : Bytes) → is_snapshot_name name ≡ true → snapshot_by (Some name) ≡ Some name
is_snapshot name e = ap (λ b. if b then Some name else None) e

abbrev Word : Bool → Bytes → Step → Type 0
Word created word s = IsStep created (string word) (Ready s)

relative : (created : Bool) (s : Step) → Some Relativize ≡ Some s → Word created (codes "relativize") s
relative created s e = let is : Relativize ≡ s = cc in subst (Word created (codes "relativize")) is (relativize created)

of_file : (word : Bytes) (made s : Step) → Word false word made → Some made ≡ Some s → Word false word s
of_file word made s here e = let is : made ≡ s = cc in subst (Word false word) is here

word_is : (created : Bool) (word : Bytes) (s : Step) → word_step created word ≡ Some s → Word created word s
word_is true word s e =
    at_key (λ k. Word true k s) word (codes "relativize") _ _ s (λ f. relative true s f) (λ f. let no_ : ⊥ = cc in absurd no_) e
word_is false word s e =
    at_key (λ k. Word false k s) word (codes "relativize") _ _ s (λ f. relative false s f)
    (λ e. at_key (λ k. Word false k s) word (codes "body") _ _ s (λ f. of_file (codes "body") Body s body f)
    (λ e. at_key (λ k. Word false k s) word (codes "string") _ _ s (λ f. of_file (codes "string") Str s whole f)
    (λ e. at_key (λ k. Word false k s) word (codes "copy") _ _ s (λ f. of_file (codes "copy") Copy s copy f)
    (λ e. at_key (λ k. Word false k s) word (codes "template") _ _ s (λ f. of_file (codes "template") TemplateBody s template f)
    (λ f. let no_ : ⊥ = cc in absurd no_) e) e) e) e) e

-- ---- tables

load_is : (t d : Data) (name : Bytes) (s : DraftStep) (id : Option Ident) → ((id : Ident) → IsIdent d id → IsStep false t (Ready (Load id name)) × IsStep true t (Ready (Load id name)))
    → id_of d ≡ id → load_by id (Some name) ≡ Some s → IsStep false t s × IsStep true t s
load_is t d name s None row at e = let no_ : ⊥ = cc in absurd no_
load_is t d name s (Some id) row at e =
    let is : Ready (Load id name) ≡ s = cc in
    let both_ = row id ((reads_idents d id).0 at) in
    (subst (IsStep false t) is both_.0, subst (IsStep true t) is both_.1)

apply_is : (t d : Data) (name : Bytes) (s : DraftStep) (id : Option Ident) → ((id : Ident) → IsIdent d id → IsStep false t (Apply id name) × IsStep true t (Apply id name))
    → id_of d ≡ id → apply_by id (Some name) ≡ Some s → IsStep false t s × IsStep true t s
apply_is t d name s None row at e = let no_ : ⊥ = cc in absurd no_
apply_is t d name s (Some id) row at e =
    let is : Apply id name ≡ s = cc in
    let both_ = row id ((reads_idents d id).0 at) in
    (subst (IsStep false t) is both_.0, subst (IsStep true t) is both_.1)

by_created : (created : Bool) (t : Data) (s : DraftStep) → IsStep false t s × IsStep true t s → IsStep created t s
by_created false t s is = is.0
by_created true t s is = is.1

row_at : (created : Bool) (key : Bytes) (d : Data) (s : DraftStep) → keyed key d ≡ Some s → IsStep created (only_at key d) s
row_at created key d s e =
    at_key (λ k. Row created (only_at k d) s) key (codes "make") _ _ s (λ f.
    let is = of_map (λ text. Ready (Make text)) (as_str d) s f in
    subst (λ t. Row created (only_at (codes "make") t) s) (sym (is_string d is.0 is.1)) (subst (Row created (only_at (codes "make") (string is.0))) is.2 (make created is.0)))
    (λ e. at_key (λ k. Row created (only_at k d) s) key (codes "load") _ _ s (λ f.
    by_created created (only_at (codes "load") d) s (load_is (only_at (codes "load") d) d (codes "_final") s (id_of d) (λ id is. (load false d id is, load true d id is)) refl f))
    (λ e. at_key (λ k. Row created (only_at k d) s) key (codes "concat") _ _ s (λ f.
    let is = of_map Concat (pattern_of d) s f in
    subst (Row created (only_at (codes "concat") d)) is.2 (concat created d is.0 ((reads_patterns d is.0).0 is.1)))
    (λ e. at_key (λ k. Row created (only_at k d) s) key (codes "apply") _ _ s (λ f.
    by_created created (only_at (codes "apply") d) s (apply_is (only_at (codes "apply") d) d (codes "default") s (id_of d) (λ id is. (apply false d id is, apply true d id is)) refl f))
    (λ e. at_key (λ k. Row created (only_at k d) s) key (codes "self") _ _ s (λ f.
    let made = of_map SelfApply (context_by (as_str d)) s f in
    let is = context_is (as_str d) made.0 made.1 in
    subst (λ t. Row created (only_at (codes "self") t) s) (sym (is_string d made.0 is.0)) (subst (Row created (only_at (codes "self") (string made.0))) made.2 (self created made.0 is.1)))
    (λ e. at_key (λ k. Row created (only_at k d) s) key (codes "save") _ _ s (λ f.
    let made = of_map (λ name. Ready (Save name)) (snapshot_by (as_str d)) s f in
    let is = snapshot_is (as_str d) made.0 made.1 in
    subst (λ t. Row created (only_at (codes "save") t) s) (sym (is_string d made.0 is.0)) (subst (Row created (only_at (codes "save") (string made.0))) made.2 (save created made.0 is.1)))
    (λ e. let no_ : ⊥ = cc in absurd no_) e) e) e) e) e) e

load_is_snapshot : codes "load" ≡ codes "snapshot" → ⊥
load_is_snapshot e = let no_ : ⊥ = cc in no_

apply_is_context : codes "apply" ≡ codes "context" → ⊥
apply_is_context e = let no_ : ⊥ = cc in no_

loaded : (created : Bool) (t d e : Data) (s : DraftStep) (name : Option Bytes) → HasTwo (codes "load") (codes "snapshot") d e t → snapshot_by (as_str e) ≡ name → load_by (id_of d) name ≡ Some s → IsStep created t s
loaded created t d e s None has at is = absurd (none (id_of d) is)
  where
    none : (id : Option Ident) → load_by id None ≡ Some s → ⊥
    none None is = let no_ : ⊥ = cc in no_
    none (Some id) is = let no_ : ⊥ = cc in no_
loaded created t d e s (Some name) has at is =
    let named = snapshot_is (as_str e) name at in
    let two = subst (λ x. HasTwo (codes "load") (codes "snapshot") d x t) (is_string e name named.0) has in
    by_created created t s (load_is t d name s (id_of d) (λ id given. (load_saved false t d id name two given named.1, load_saved true t d id name two given named.1)) refl is)

applied : (created : Bool) (t d e : Data) (s : DraftStep) (name : Option Bytes) → HasTwo (codes "apply") (codes "context") d e t → context_by (as_str e) ≡ name → apply_by (id_of d) name ≡ Some s → IsStep created t s
applied created t d e s None has at is = absurd (none (id_of d) is)
  where
    none : (id : Option Ident) → apply_by id None ≡ Some s → ⊥
    none None is = let no_ : ⊥ = cc in no_
    none (Some id) is = let no_ : ⊥ = cc in no_
applied created t d e s (Some name) has at is =
    let named = context_is (as_str e) name at in
    let two = subst (λ x. HasTwo (codes "apply") (codes "context") d x t) (is_string e name named.0) has in
    by_created created t s (apply_is t d name s (id_of d) (λ id given. (apply_in false t d id name two given named.1, apply_in true t d id name two given named.1)) refl is)

abbrev Pair : Type 0
Pair = Option (Data × Data)

two_at : (created : Bool) (ms : Members) (s : DraftStep) (one other : Pair) → both (codes "load") (codes "snapshot") ms ≡ one → both (codes "apply") (codes "context") ms ≡ other → paired one other ≡ Some s → IsStep created (table ms) s
two_at created ms s (Some p) other at _ e = loaded created (table ms) p.0 p.1 s (snapshot_by (as_str p.1)) (is_both (codes "load") (codes "snapshot") p.0 p.1 ms load_is_snapshot at) refl e
two_at created ms s None (Some p) _ at e = applied created (table ms) p.0 p.1 s (context_by (as_str p.1)) (is_both (codes "apply") (codes "context") p.0 p.1 ms apply_is_context at) refl e
two_at created ms s None None _ _ e = let no_ : ⊥ = cc in absurd no_

step_is : (created : Bool) (d : Data) (s : DraftStep) → step_of created d ≡ Some s → IsStep created d s
step_is created (string word) s e =
    let is = of_map Ready (word_step created word) s e in
    subst (IsStep created (string word)) is.2 (word_is created word is.0 is.1)
step_is created (table (member k d no_members)) s e = row_at created k d s e
step_is created (table no_members) s e = two_at created no_members s _ _ refl refl e
step_is created (table (member k d (member l f ms))) s e = two_at created (member k d (member l f ms)) s _ _ refl refl e
step_is created (integer z) s e = let no_ : ⊥ = cc in absurd no_
step_is created (float x) s e = let no_ : ⊥ = cc in absurd no_
step_is created (boolean b) s e = let no_ : ⊥ = cc in absurd no_
step_is created (datetime t) s e = let no_ : ⊥ = cc in absurd no_
step_is created (array ds) s e = let no_ : ⊥ = cc in absurd no_

load_two : (created : Bool) (t d : Data) (id : Ident) (name : Bytes) → HasTwo (codes "load") (codes "snapshot") d (string name) t → id_of d ≡ Some id → snapshot_by (Some name) ≡ Some name → step_of created t ≡ Some (Ready (Load id name))
load_two created _ d id name in_order at named = λ i. load_by (at i) (named i)
load_two created _ d id name turned at named = λ i. load_by (at i) (named i)

apply_two : (created : Bool) (t d : Data) (id : Ident) (name : Bytes) → HasTwo (codes "apply") (codes "context") d (string name) t → id_of d ≡ Some id → context_by (Some name) ≡ Some name → step_of created t ≡ Some (Apply id name)
apply_two created _ d id name in_order at named = λ i. apply_by (at i) (named i)
apply_two created _ d id name turned at named = λ i. apply_by (at i) (named i)

is_step : (created : Bool) (d : Data) (s : DraftStep) → IsStep created d s → step_of created d ≡ Some s
is_step _ _ _ body = refl
is_step _ _ _ whole = refl
is_step _ _ _ copy = refl
is_step _ _ _ template = refl
is_step _ _ _ (relativize created) = refl
is_step _ _ _ (make created text) = refl
is_step _ _ _ (load created d id is) = ap (λ o. load_by o (Some final_name)) ((reads_idents d id).1 is)
is_step _ _ _ (load_saved created t d id name has is named) = load_two created t d id name has ((reads_idents d id).1 is) (is_snapshot name named)
is_step _ _ _ (concat created d pattern is) = ap (option_map Concat) ((reads_patterns d pattern).1 is)
is_step _ _ _ (apply created d id is) = ap (λ o. apply_by o (Some default_name)) ((reads_idents d id).1 is)
is_step _ _ _ (apply_in created t d id name has is named) = apply_two created t d id name has ((reads_idents d id).1 is) (is_context name named)
is_step _ _ _ (self created name named) = ap (option_map SelfApply) (is_context name named)
is_step _ _ _ (save created name named) = ap (option_map (λ text. Ready (Save text))) (is_snapshot name named)

pub reads_steps : (created : Bool) → Reads (step_of created) (IsStep created)
reads_steps created d s = (step_is created d s, is_step created d s)
