-- The text of a recipe tells it.
use Rattle.std.proofs.Common.{◌≡◌, refl, sym, ap, ◌∙◌, subst, arith, ℕ, zero, suc, ◌<◌, Bool, true, false, List, [], ◌∷◌, ◌++◌, append-nil, length, length-append, get_or, Option, Some, None}
use Rattle.std.specs.Prelude.{codes}
use Rattle.std.specs.List.{AllByRecursion}
use Rattle.hk_base.specs.Bytes.{Bytes}
use Rattle.hk_base.specs.Identifier.{Ident}
use Rattle.hk_chain.specs.declared.context.Order.{Order}
use Rattle.hk_chain.specs.declared.context.Order.TheVariants as orders
use Rattle.hk_forms.specs.PatternText.{str, opt, ident_text, text_of}
use Rattle.hk_rules.specs.Recipe.{NamedStep, NamedList, NamedField, NamedContext, Recipe, StepHas}
use Rattle.hk_store.specs.Told.{Told, Short, Any, many, both, Both, kinds, Kind}
use Rattle.hk_store.specs.RecipeText.{step_text, flag_text, order_text, limit_text, listing_text, field_text, context_text, recipe_text, IsPatternText, IsLimit, FieldFits, ContextFits, RecipeFits}
use Rattle.hk_store.proofs.Telling.{str-told, str-full, num-same, opt-told, ident-told, both-told, many-told, kinds-told, view-told, told-as, unit-told}
use Rattle.hk_store.proofs.PatternTexts.{pattern-told}

-- ---- patterns, by their texts

text-told : (t : Bytes) → Told IsPatternText (λ u. u) t
text-told t u h k r s short e =
    let z = pattern-told h.0 k.0 tt tt r s (subst (λ v. Short (v ++ r)) h.1 short) (ap (λ v. v ++ r) (sym h.1) ∙ (e ∙ ap (λ v. v ++ s) k.1)) in
    (h.1 ∙ (ap text_of z.0 ∙ sym k.1), z.1)

-- ---- steps

abbrev step_words : List Bytes
step_words = codes "make" ∷ codes "save" ∷ codes "self" ∷ codes "concat" ∷ codes "load" ∷ codes "apply" ∷ codes "body" ∷ codes "string" ∷ codes "copy" ∷ codes "template" ∷ codes "relativize" ∷ []

abbrev StepParts : ℕ → Type 0
StepParts zero = Bytes
StepParts (suc zero) = Bytes
StepParts (suc (suc zero)) = Bytes
StepParts (suc (suc (suc zero))) = Bytes
StepParts (suc (suc (suc (suc zero)))) = Ident × Bytes
StepParts (suc (suc (suc (suc (suc zero))))) = Ident × Bytes
StepParts (suc (suc (suc (suc (suc (suc n)))))) = Unit {0}

abbrev step_view : NamedStep → (t : ℕ) × StepParts t
step_view (NamedStep.make text) = (0, text)
step_view (NamedStep.save name) = (1, name)
step_view (NamedStep.apply_self context) = (2, context)
step_view (NamedStep.concat pattern) = (3, pattern)
step_view (NamedStep.load id name) = (4, (id, name))
step_view (NamedStep.apply id context) = (5, (id, context))
step_view NamedStep.body = (6, tt)
step_view NamedStep.string = (7, tt)
step_view NamedStep.copy = (8, tt)
step_view NamedStep.template = (9, tt)
step_view NamedStep.relativize = (10, tt)

abbrev plain_step : ℕ → NamedStep
plain_step zero = NamedStep.body
plain_step (suc zero) = NamedStep.string
plain_step (suc (suc zero)) = NamedStep.copy
plain_step (suc (suc (suc zero))) = NamedStep.template
plain_step (suc (suc (suc (suc n)))) = NamedStep.relativize

abbrev step_of : (t : ℕ) → StepParts t → NamedStep
step_of zero text = NamedStep.make text
step_of (suc zero) name = NamedStep.save name
step_of (suc (suc zero)) context = NamedStep.apply_self context
step_of (suc (suc (suc zero))) pattern = NamedStep.concat pattern
step_of (suc (suc (suc (suc zero)))) z = NamedStep.load z.0 z.1
step_of (suc (suc (suc (suc (suc zero))))) z = NamedStep.apply z.0 z.1
step_of (suc (suc (suc (suc (suc (suc n)))))) u = plain_step n

step-back : (x : NamedStep) → step_of (step_view x).0 (step_view x).1 ≡ x
step-back (NamedStep.make text) = refl
step-back (NamedStep.save name) = refl
step-back (NamedStep.apply_self context) = refl
step-back (NamedStep.concat pattern) = refl
step-back (NamedStep.load id name) = refl
step-back (NamedStep.apply id context) = refl
step-back NamedStep.body = refl
step-back NamedStep.string = refl
step-back NamedStep.copy = refl
step-back NamedStep.template = refl
step-back NamedStep.relativize = refl

abbrev step_parts : (t : ℕ) → StepParts t → Bytes
step_parts zero = str
step_parts (suc zero) = str
step_parts (suc (suc zero)) = str
step_parts (suc (suc (suc zero))) = λ pattern. pattern
step_parts (suc (suc (suc (suc zero)))) = both ident_text str
step_parts (suc (suc (suc (suc (suc zero))))) = both ident_text str
step_parts (suc (suc (suc (suc (suc (suc n)))))) = λ u. []

abbrev StepPartsFit : (t : ℕ) → StepParts t → Type 0
StepPartsFit zero = Any
StepPartsFit (suc zero) = Any
StepPartsFit (suc (suc zero)) = Any
StepPartsFit (suc (suc (suc zero))) = IsPatternText
StepPartsFit (suc (suc (suc (suc zero)))) = Both Any Any
StepPartsFit (suc (suc (suc (suc (suc zero))))) = Both Any Any
StepPartsFit (suc (suc (suc (suc (suc (suc n)))))) = Any

page-told : (id : Ident) (name : Bytes) → Told (Both Any Any) (both ident_text str) (id, name)
page-told id name = both-told Any Any ident_text str id name (ident-told id) (str-told name)

step-parts : (x : NamedStep) → Told (StepPartsFit (step_view x).0) (step_parts (step_view x).0) (step_view x).1
step-parts (NamedStep.make text) = str-told text
step-parts (NamedStep.save name) = str-told name
step-parts (NamedStep.apply_self context) = str-told context
step-parts (NamedStep.concat pattern) = text-told pattern
step-parts (NamedStep.load id name) = page-told id name
step-parts (NamedStep.apply id context) = page-told id context
step-parts NamedStep.body = unit-told tt
step-parts NamedStep.string = unit-told tt
step-parts NamedStep.copy = unit-told tt
step-parts NamedStep.template = unit-told tt
step-parts NamedStep.relativize = unit-told tt

step-same : (x : NamedStep) → kinds step_words step_parts (step_view x) ≡ step_text x
step-same (NamedStep.make text) = refl
step-same (NamedStep.save name) = refl
step-same (NamedStep.apply_self context) = refl
step-same (NamedStep.concat pattern) = refl
step-same (NamedStep.load id name) = refl
step-same (NamedStep.apply id context) = refl
step-same NamedStep.body = append-nil (str (codes "body"))
step-same NamedStep.string = append-nil (str (codes "string"))
step-same NamedStep.copy = append-nil (str (codes "copy"))
step-same NamedStep.template = append-nil (str (codes "template"))
step-same NamedStep.relativize = append-nil (str (codes "relativize"))

abbrev StepFits : NamedStep → Type 0
StepFits = StepHas IsPatternText

step-fits : (x : NamedStep) → StepFits x → Kind step_words StepPartsFit (step_view x)
step-fits (NamedStep.make text) h = (omega arith, tt)
step-fits (NamedStep.save name) h = (omega arith, tt)
step-fits (NamedStep.apply_self context) h = (omega arith, tt)
step-fits (NamedStep.concat pattern) h = (omega arith, h)
step-fits (NamedStep.load id name) h = (omega arith, (tt, tt))
step-fits (NamedStep.apply id context) h = (omega arith, (tt, tt))
step-fits NamedStep.body h = (omega arith, tt)
step-fits NamedStep.string h = (omega arith, tt)
step-fits NamedStep.copy h = (omega arith, tt)
step-fits NamedStep.template h = (omega arith, tt)
step-fits NamedStep.relativize h = (omega arith, tt)

step-told : (x : NamedStep) → Told StepFits step_text x
step-told x = told-as (λ y. Kind step_words StepPartsFit (step_view y)) StepFits (λ y. kinds step_words step_parts (step_view y)) step_text step-same step-fits x
    (view-told step_view (λ z. step_of z.0 z.1) step-back (Kind step_words StepPartsFit) (kinds step_words step_parts) x
    (kinds-told step_words refl StepPartsFit step_parts (step_view x).0 (step_view x).1 (step-parts x)))

word-full : (w rest : Bytes) → 0 < length (str w ++ rest)
word-full w rest = omega (arith, length-append (str w) rest, str-full w)

step-full : (x : NamedStep) → 0 < length (step_text x)
step-full x = subst (λ t. 0 < length t) (step-same x) (word-full (get_or step_words (step_view x).0 []) (step_parts (step_view x).0 (step_view x).1))

-- ---- flags, orders and limits

flag-told : (b : Bool) → Told Any flag_text b
flag-told true true h k r s short e = (refl, (str-told (codes "true") (codes "true") tt tt r s short e).1)
flag-told true false h k r s short e = let w = (str-told (codes "true") (codes "false") tt tt r s short e).0 in cc
flag-told false true h k r s short e = let w = (str-told (codes "false") (codes "true") tt tt r s short e).0 in cc
flag-told false false h k r s short e = (refl, (str-told (codes "false") (codes "false") tt tt r s short e).1)

order-told : (o : Order) → Told Any order_text o
order-told orders.Id orders.Id h k r s short e = (refl, (str-told (codes "id") (codes "id") tt tt r s short e).1)
order-told orders.Id orders.Chronological h k r s short e = let w = (str-told (codes "id") (codes "chronological") tt tt r s short e).0 in cc
order-told orders.Id orders.Recent h k r s short e = let w = (str-told (codes "id") (codes "recent") tt tt r s short e).0 in cc
order-told orders.Chronological orders.Id h k r s short e = let w = (str-told (codes "chronological") (codes "id") tt tt r s short e).0 in cc
order-told orders.Chronological orders.Chronological h k r s short e = (refl, (str-told (codes "chronological") (codes "chronological") tt tt r s short e).1)
order-told orders.Chronological orders.Recent h k r s short e = let w = (str-told (codes "chronological") (codes "recent") tt tt r s short e).0 in cc
order-told orders.Recent orders.Id h k r s short e = let w = (str-told (codes "recent") (codes "id") tt tt r s short e).0 in cc
order-told orders.Recent orders.Chronological h k r s short e = let w = (str-told (codes "recent") (codes "chronological") tt tt r s short e).0 in cc
order-told orders.Recent orders.Recent h k r s short e = (refl, (str-told (codes "recent") (codes "recent") tt tt r s short e).1)

limit-told : (o : Option ℕ) → Told IsLimit limit_text o
limit-told None None h k r s short e = (refl, (num-same 0 0 (omega arith) (omega arith) r s e).1)
limit-told None (Some m) h k r s short e = let w = (num-same 0 m (omega arith) k.1 r s e).0 in absurd (omega (arith, w, k.0))
limit-told (Some n) None h k r s short e = let w = (num-same n 0 h.1 (omega arith) r s e).0 in absurd (omega (arith, w, h.0))
limit-told (Some n) (Some m) h k r s short e = let w = num-same n m h.1 k.1 r s e in (ap Some w.0, w.1)

-- ---- lists

abbrev ListParts : Type 0
ListParts = Bytes × (Bytes × (Order × (Option ℕ × Bytes)))

abbrev list_view : NamedList → ListParts
list_view l = (l.pattern, (l.snapshot, (l.order, (l.limit, l.context))))

abbrev list_of : ListParts → NamedList
list_of z = record { pattern = z.0; snapshot = z.1.0; order = z.1.1.0; limit = z.1.1.1.0; context = z.1.1.1.1 }

abbrev text_itself : Bytes → Bytes
text_itself t = t

abbrev list_print : ListParts → Bytes
list_print = both text_itself (both str (both order_text (both limit_text str)))

abbrev ListPartsFit : ListParts → Type 0
ListPartsFit = Both IsPatternText (Both Any (Both Any (Both IsLimit Any)))

abbrev ListFits : NamedList → Type 0
ListFits l = IsPatternText l.pattern × IsLimit l.limit

listing-told : (l : NamedList) → Told ListFits listing_text l
listing-told l = told-as (λ m. ListPartsFit (list_view m)) ListFits (λ m. list_print (list_view m)) listing_text (λ m. refl) (λ m h. (h.0, (tt, (tt, (h.1, tt))))) l
    (view-told list_view list_of (λ m. refl) ListPartsFit list_print l
    (both-told IsPatternText (Both Any (Both Any (Both IsLimit Any))) text_itself (both str (both order_text (both limit_text str))) l.pattern (l.snapshot, (l.order, (l.limit, l.context))) (text-told l.pattern)
    (both-told Any (Both Any (Both IsLimit Any)) str (both order_text (both limit_text str)) l.snapshot (l.order, (l.limit, l.context)) (str-told l.snapshot)
    (both-told Any (Both IsLimit Any) order_text (both limit_text str) l.order (l.limit, l.context) (order-told l.order)
    (both-told IsLimit Any limit_text str l.limit l.context (limit-told l.limit) (str-told l.context))))))

-- ---- fields

abbrev field_words : List Bytes
field_words = codes "const" ∷ codes "date" ∷ codes "teaser" ∷ codes "bool" ∷ codes "list" ∷ codes "body" ∷ codes "metadata" ∷ codes "url" ∷ codes "path" ∷ codes "title" ∷ []

abbrev FieldParts : ℕ → Type 0
FieldParts zero = Bytes × Bytes
FieldParts (suc zero) = Bytes × Bytes
FieldParts (suc (suc zero)) = Bytes × Bytes
FieldParts (suc (suc (suc zero))) = Bytes × Bool
FieldParts (suc (suc (suc (suc zero)))) = Bytes × NamedList
FieldParts (suc (suc (suc (suc (suc n))))) = Unit {0}

abbrev field_view : NamedField → (t : ℕ) × FieldParts t
field_view (NamedField.constant key text) = (0, (key, text))
field_view (NamedField.date key pattern) = (1, (key, pattern))
field_view (NamedField.teaser key name) = (2, (key, name))
field_view (NamedField.flag key set) = (3, (key, set))
field_view (NamedField.list key listing) = (4, (key, listing))
field_view NamedField.page_body = (5, tt)
field_view NamedField.metadata = (6, tt)
field_view NamedField.url = (7, tt)
field_view NamedField.path = (8, tt)
field_view NamedField.title = (9, tt)

abbrev plain_field : ℕ → NamedField
plain_field zero = NamedField.page_body
plain_field (suc zero) = NamedField.metadata
plain_field (suc (suc zero)) = NamedField.url
plain_field (suc (suc (suc zero))) = NamedField.path
plain_field (suc (suc (suc (suc n)))) = NamedField.title

abbrev field_of : (t : ℕ) → FieldParts t → NamedField
field_of zero z = NamedField.constant z.0 z.1
field_of (suc zero) z = NamedField.date z.0 z.1
field_of (suc (suc zero)) z = NamedField.teaser z.0 z.1
field_of (suc (suc (suc zero))) z = NamedField.flag z.0 z.1
field_of (suc (suc (suc (suc zero)))) z = NamedField.list z.0 z.1
field_of (suc (suc (suc (suc (suc n))))) u = plain_field n

field-back : (x : NamedField) → field_of (field_view x).0 (field_view x).1 ≡ x
field-back (NamedField.constant key text) = refl
field-back (NamedField.date key pattern) = refl
field-back (NamedField.teaser key name) = refl
field-back (NamedField.flag key set) = refl
field-back (NamedField.list key listing) = refl
field-back NamedField.page_body = refl
field-back NamedField.metadata = refl
field-back NamedField.url = refl
field-back NamedField.path = refl
field-back NamedField.title = refl

abbrev field_parts : (t : ℕ) → FieldParts t → Bytes
field_parts zero = both str str
field_parts (suc zero) = both str str
field_parts (suc (suc zero)) = both str str
field_parts (suc (suc (suc zero))) = both str flag_text
field_parts (suc (suc (suc (suc zero)))) = both str listing_text
field_parts (suc (suc (suc (suc (suc n))))) = λ u. []

abbrev FieldPartsFit : (t : ℕ) → FieldParts t → Type 0
FieldPartsFit zero = Both Any Any
FieldPartsFit (suc zero) = Both Any Any
FieldPartsFit (suc (suc zero)) = Both Any Any
FieldPartsFit (suc (suc (suc zero))) = Both Any Any
FieldPartsFit (suc (suc (suc (suc zero)))) = Both Any ListFits
FieldPartsFit (suc (suc (suc (suc (suc n))))) = Any

strs-told : (a b : Bytes) → Told (Both Any Any) (both str str) (a, b)
strs-told a b = both-told Any Any str str a b (str-told a) (str-told b)

field-parts : (x : NamedField) → Told (FieldPartsFit (field_view x).0) (field_parts (field_view x).0) (field_view x).1
field-parts (NamedField.constant key text) = strs-told key text
field-parts (NamedField.date key pattern) = strs-told key pattern
field-parts (NamedField.teaser key name) = strs-told key name
field-parts (NamedField.flag key set) = both-told Any Any str flag_text key set (str-told key) (flag-told set)
field-parts (NamedField.list key listing) = both-told Any ListFits str listing_text key listing (str-told key) (listing-told listing)
field-parts NamedField.page_body = unit-told tt
field-parts NamedField.metadata = unit-told tt
field-parts NamedField.url = unit-told tt
field-parts NamedField.path = unit-told tt
field-parts NamedField.title = unit-told tt

field-same : (x : NamedField) → kinds field_words field_parts (field_view x) ≡ field_text x
field-same (NamedField.constant key text) = refl
field-same (NamedField.date key pattern) = refl
field-same (NamedField.teaser key name) = refl
field-same (NamedField.flag key set) = refl
field-same (NamedField.list key listing) = refl
field-same NamedField.page_body = append-nil (str (codes "body"))
field-same NamedField.metadata = append-nil (str (codes "metadata"))
field-same NamedField.url = append-nil (str (codes "url"))
field-same NamedField.path = append-nil (str (codes "path"))
field-same NamedField.title = append-nil (str (codes "title"))

field-fits : (x : NamedField) → FieldFits x → Kind field_words FieldPartsFit (field_view x)
field-fits (NamedField.constant key text) h = (omega arith, (tt, tt))
field-fits (NamedField.date key pattern) h = (omega arith, (tt, tt))
field-fits (NamedField.teaser key name) h = (omega arith, (tt, tt))
field-fits (NamedField.flag key set) h = (omega arith, (tt, tt))
field-fits (NamedField.list key listing) h = (omega arith, (tt, h))
field-fits NamedField.page_body h = (omega arith, tt)
field-fits NamedField.metadata h = (omega arith, tt)
field-fits NamedField.url h = (omega arith, tt)
field-fits NamedField.path h = (omega arith, tt)
field-fits NamedField.title h = (omega arith, tt)

field-told : (x : NamedField) → Told FieldFits field_text x
field-told x = told-as (λ y. Kind field_words FieldPartsFit (field_view y)) FieldFits (λ y. kinds field_words field_parts (field_view y)) field_text field-same field-fits x
    (view-told field_view (λ z. field_of z.0 z.1) field-back (Kind field_words FieldPartsFit) (kinds field_words field_parts) x
    (kinds-told field_words refl FieldPartsFit field_parts (field_view x).0 (field_view x).1 (field-parts x)))

field-full : (x : NamedField) → 0 < length (field_text x)
field-full x = subst (λ t. 0 < length t) (field-same x) (word-full (get_or field_words (field_view x).0 []) (field_parts (field_view x).0 (field_view x).1))

-- ---- contexts

each : {A : Type 0} (D : A → Type 0) (p : A → Bytes) → ((x : A) → Told D p x) → (xs : List A) → AllByRecursion (Told D p) xs
each D p f [] = tt
each D p f (x ∷ xs) = (f x, each D p f xs)

fields-told : (xs : List NamedField) → Told (AllByRecursion FieldFits) (many field_text) xs
fields-told xs = many-told FieldFits field_text field-full xs (each FieldFits field_text field-told xs)

abbrev context_view : NamedContext → Bytes × List NamedField
context_view c = (c.name, c.fields)

abbrev context_of : Bytes × List NamedField → NamedContext
context_of z = record { name = z.0; fields = z.1 }

context-told : (c : NamedContext) → Told ContextFits context_text c
context-told c = told-as (λ d. Both Any (AllByRecursion FieldFits) (context_view d)) ContextFits (λ d. both str (many field_text) (context_view d)) context_text (λ d. refl) (λ d h. (tt, h)) c
    (view-told context_view context_of (λ d. refl) (Both Any (AllByRecursion FieldFits)) (both str (many field_text)) c
    (both-told Any (AllByRecursion FieldFits) str (many field_text) c.name c.fields (str-told c.name) (fields-told c.fields)))

context-full : (c : NamedContext) → 0 < length (context_text c)
context-full c = word-full c.name (many field_text c.fields)

-- ---- recipes

abbrev chain_word : Bytes
chain_word = str (codes "chain")

abbrev ChainParts : Type 0
ChainParts = Unit {0} × (List NamedStep × List NamedContext)

abbrev chain_print : ChainParts → Bytes
chain_print = both (λ u. chain_word) (both (many step_text) (many context_text))

abbrev ChainFits : ChainParts → Type 0
ChainFits = Both Any (Both (AllByRecursion StepFits) (AllByRecursion ContextFits))

abbrev FileParts : Type 0
FileParts = Option Bytes × (Option Bytes × Option Bytes)

abbrev recipe_view : Recipe → ChainParts × FileParts
recipe_view r = ((tt, (r.steps, r.contexts)), (r.target, (r.resource, r.companion)))

abbrev recipe_made : ChainParts × FileParts → Recipe
recipe_made z = record { steps = z.0.1.0; contexts = z.0.1.1; target = z.1.0; resource = z.1.1.0; companion = z.1.1.1 }

abbrev recipe_print : ChainParts × FileParts → Bytes
recipe_print = both chain_print (both opt (both opt opt))

abbrev RecipePartsFit : ChainParts × FileParts → Type 0
RecipePartsFit = Both ChainFits (Both Any (Both Any Any))

word-told : (u : Unit {0}) → Told Any (λ (v : Unit {0}). chain_word) u
word-told u v h k r s short e = (refl, (str-told (codes "chain") (codes "chain") tt tt r s short e).1)

chain-told : (steps : List NamedStep) (contexts : List NamedContext) → Told ChainFits chain_print (tt, (steps, contexts))
chain-told steps contexts =
    both-told Any (Both (AllByRecursion StepFits) (AllByRecursion ContextFits)) (λ u. chain_word) (both (many step_text) (many context_text)) tt (steps, contexts) (word-told tt)
    (both-told (AllByRecursion StepFits) (AllByRecursion ContextFits) (many step_text) (many context_text) steps contexts
    (many-told StepFits step_text step-full steps (each StepFits step_text step-told steps))
    (many-told ContextFits context_text context-full contexts (each ContextFits context_text context-told contexts)))

file-told : (target resource companion : Option Bytes) → Told (Both Any (Both Any Any)) (both opt (both opt opt)) (target, (resource, companion))
file-told target resource companion =
    both-told Any (Both Any Any) opt (both opt opt) target (resource, companion) (opt-told target)
    (both-told Any Any opt opt resource companion (opt-told resource) (opt-told companion))

-- the text of a recipe tells it, whatever follows
pub recipe-told : (r : Recipe) → Told RecipeFits recipe_text r
unfolding recipe_text
recipe-told r = told-as (λ q. RecipePartsFit (recipe_view q)) RecipeFits (λ q. recipe_print (recipe_view q)) recipe_text (λ q. refl) (λ q h. ((tt, (h.steps, h.contexts)), (tt, (tt, tt)))) r
    (view-told recipe_view recipe_made (λ q. refl) RecipePartsFit recipe_print r
    (both-told ChainFits (Both Any (Both Any Any)) chain_print (both opt (both opt opt)) (tt, (r.steps, r.contexts)) (r.target, (r.resource, r.companion)) (chain-told r.steps r.contexts) (file-told r.target r.resource r.companion)))

pub same-recipe : (a b : Recipe) → RecipeFits a → RecipeFits b → Short (recipe_text a) → recipe_text a ≡ recipe_text b → a ≡ b
same-recipe a b h g short e =
    (recipe-told a b h g [] [] (subst Short (sym (append-nil (recipe_text a))) short) (append-nil (recipe_text a) ∙ (e ∙ sym (append-nil (recipe_text b))))).0
