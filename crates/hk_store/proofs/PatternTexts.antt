-- The text of a pattern tells it.
use Rattle.std.proofs.Common.{◌≡◌, refl, sym, ap, ◌∙◌, subst, arith, ℕ, zero, suc, ◌<◌, List, [], ◌∷◌, ◌++◌, append-nil, length, length-append, get_or, map}
use Rattle.std.specs.Prelude.{codes}
use Rattle.std.specs.List.{AllByRecursion, flat_map}
use Rattle.std.proofs.lemmas.List.{length-map}
use Rattle.hk_base.specs.Bytes.{Bytes}
use Rattle.hk_base.specs.Identifier.{Ident}
use Rattle.hk_forms.specs.PatternText.{num, str, ident_text, idents_text, texts_joined, text_by, text_of}
use Rattle.hk_pattern.specs.declared.pattern.Pattern.{Pattern, out-Pattern, roll-Pattern, roll-out-Pattern}
use Rattle.hk_pattern.specs.declared.pattern.Pattern.TheOpen.{Pattern-F}
use Rattle.hk_pattern.specs.declared.pattern.Pattern.TheFolds.{fold-roll-Pattern, ind-Pattern, map-Pattern}
use Rattle.hk_store.specs.Told.{Told, Short, Any, many, kinds, Kind}
use Rattle.hk_store.proofs.Telling.{str-told, str-full, ident-told, ident-full, many-told, kinds-told, view-told, told-as, unit-told}

-- ---- one layer of a pattern: its kind, and what patterns of that kind have

abbrev pattern_words : List Bytes
pattern_words = codes "glob" ∷ codes "version" ∷ codes "ids" ∷ codes "and" ∷ codes "or" ∷ codes "not" ∷ codes "noversion" ∷ []

abbrev Parts : ℕ → Type 0
Parts zero = Bytes
Parts (suc zero) = Bytes
Parts (suc (suc zero)) = List Ident
Parts (suc (suc (suc zero))) = List Pattern
Parts (suc (suc (suc (suc zero)))) = List Pattern
Parts (suc (suc (suc (suc (suc zero))))) = Pattern
Parts (suc (suc (suc (suc (suc (suc n)))))) = Unit {0}

abbrev view : Pattern-F Pattern → (t : ℕ) × Parts t
view (Pattern-F.Glob glob) = (0, glob)
view (Pattern-F.HasVersion version) = (1, version)
view (Pattern-F.Ids ids) = (2, ids)
view (Pattern-F.And patterns) = (3, patterns)
view (Pattern-F.Or patterns) = (4, patterns)
view (Pattern-F.Not pattern) = (5, pattern)
view Pattern-F.HasNoVersion = (6, tt)

abbrev make : (t : ℕ) → Parts t → Pattern-F Pattern
make zero glob = Pattern-F.Glob glob
make (suc zero) version = Pattern-F.HasVersion version
make (suc (suc zero)) ids = Pattern-F.Ids ids
make (suc (suc (suc zero))) patterns = Pattern-F.And patterns
make (suc (suc (suc (suc zero)))) patterns = Pattern-F.Or patterns
make (suc (suc (suc (suc (suc zero))))) pattern = Pattern-F.Not pattern
make (suc (suc (suc (suc (suc (suc n)))))) u = Pattern-F.HasNoVersion

back : (x : Pattern-F Pattern) → make (view x).0 (view x).1 ≡ x
back (Pattern-F.Glob glob) = refl
back (Pattern-F.HasVersion version) = refl
back (Pattern-F.Ids ids) = refl
back (Pattern-F.And patterns) = refl
back (Pattern-F.Or patterns) = refl
back (Pattern-F.Not pattern) = refl
back Pattern-F.HasNoVersion = refl

abbrev parts_text : (t : ℕ) → Parts t → Bytes
parts_text zero = str
parts_text (suc zero) = str
parts_text (suc (suc zero)) = many ident_text
parts_text (suc (suc (suc zero))) = many text_of
parts_text (suc (suc (suc (suc zero)))) = many text_of
parts_text (suc (suc (suc (suc (suc zero))))) = text_of
parts_text (suc (suc (suc (suc (suc (suc n)))))) = λ u. []

abbrev layer_text : Pattern-F Pattern → Bytes
layer_text x = kinds pattern_words parts_text (view x)

-- ---- a pattern's text is that of its layer

idents-flat : (ids : List Ident) → idents_text ids ≡ flat_map ident_text ids
idents-flat [] = refl
idents-flat (id ∷ ids) = ap (λ t. ident_text id ++ t) (idents-flat ids)

joined-flat : (patterns : List Pattern) → texts_joined (map text_of patterns) ≡ flat_map text_of patterns
joined-flat [] = refl
joined-flat (p ∷ patterns) = ap (λ t. text_of p ++ t) (joined-flat patterns)

listed : (word : Bytes) (patterns : List Pattern) → str word ++ (num (length (map text_of patterns)) ++ texts_joined (map text_of patterns)) ≡ str word ++ many text_of patterns
listed word patterns = ap (λ n. str word ++ (num n ++ texts_joined (map text_of patterns))) (length-map patterns text_of) ∙ ap (λ t. str word ++ (num (length patterns) ++ t)) (joined-flat patterns)

rolled : (x : Pattern-F Pattern) → text_of (roll-Pattern x) ≡ layer_text x
rolled (Pattern-F.Glob glob) = fold-roll-Pattern Bytes text_by (Pattern-F.Glob glob)
rolled (Pattern-F.HasVersion version) = fold-roll-Pattern Bytes text_by (Pattern-F.HasVersion version)
rolled (Pattern-F.Ids ids) = fold-roll-Pattern Bytes text_by (Pattern-F.Ids ids) ∙ ap (λ t. str (codes "ids") ++ (num (length ids) ++ t)) (idents-flat ids)
rolled (Pattern-F.And patterns) = fold-roll-Pattern Bytes text_by (Pattern-F.And patterns) ∙ listed (codes "and") patterns
rolled (Pattern-F.Or patterns) = fold-roll-Pattern Bytes text_by (Pattern-F.Or patterns) ∙ listed (codes "or") patterns
rolled (Pattern-F.Not pattern) = fold-roll-Pattern Bytes text_by (Pattern-F.Not pattern)
rolled Pattern-F.HasNoVersion = fold-roll-Pattern Bytes text_by Pattern-F.HasNoVersion ∙ sym (append-nil (str (codes "noversion")))

opened : (p : Pattern) → text_of p ≡ layer_text (out-Pattern p)
opened p = ap text_of (sym (roll-out-Pattern p)) ∙ rolled (out-Pattern p)

layer-full : (z : (t : ℕ) × Parts t) → 0 < length (kinds pattern_words parts_text z)
layer-full z = omega (arith, length-append (str (get_or pattern_words z.0 [])) (parts_text z.0 z.1), str-full (get_or pattern_words z.0 []))

pub pattern-full : (p : Pattern) → 0 < length (text_of p)
pattern-full p = subst (λ t. 0 < length t) (sym (opened p)) (layer-full (view (out-Pattern p)))

-- ---- a pattern is told

abbrev Whole : Pattern → Type 0
Whole p = Told Any text_of p

abbrev AnyParts : (t : ℕ) → Parts t → Type 0
AnyParts t b = Unit {0}

by-parts : (x : Pattern-F Pattern) → Told (AnyParts (view x).0) (parts_text (view x).0) (view x).1 → Told Any text_of (roll-Pattern x)
by-parts x f y h k r s short e =
    let layer = view-told view (λ z. make z.0 z.1) back (Kind pattern_words AnyParts) (kinds pattern_words parts_text) x (kinds-told pattern_words refl AnyParts parts_text (view x).0 (view x).1 f) in
    let u = layer (out-Pattern y) (within x) (within (out-Pattern y)) r s (subst (λ t. Short (t ++ r)) (rolled x) short) (ap (λ t. t ++ r) (sym (rolled x)) ∙ (e ∙ ap (λ t. t ++ s) (opened y))) in
    (ap roll-Pattern u.0 ∙ roll-out-Pattern y, u.1)
  where
    within : (z : Pattern-F Pattern) → Kind pattern_words AnyParts (view z)
    within (Pattern-F.Glob glob) = (omega arith, tt)
    within (Pattern-F.HasVersion version) = (omega arith, tt)
    within (Pattern-F.Ids ids) = (omega arith, tt)
    within (Pattern-F.And patterns) = (omega arith, tt)
    within (Pattern-F.Or patterns) = (omega arith, tt)
    within (Pattern-F.Not pattern) = (omega arith, tt)
    within Pattern-F.HasNoVersion = (omega arith, tt)

all-any : {A : Type 0} (xs : List A) → AllByRecursion Any xs
all-any [] = tt
all-any (x ∷ xs) = (tt, all-any xs)

-- a list of things that are told each
pub list-told : {A : Type 0} (p : A → Bytes) → ((x : A) → 0 < length (p x)) → (xs : List A) → AllByRecursion (Told Any p) xs → Told Any (many p) xs
list-told p full xs f = told-as (AllByRecursion Any) Any (many p) (many p) (λ ys. refl) (λ ys h. all-any ys) xs (many-told Any p full xs f)

each-told : (ps : List ((p : Pattern) × Whole p)) → AllByRecursion Whole (map (λ e. e.0) ps)
each-told [] = tt
each-told (e ∷ ps) = (e.1, each-told ps)

idents-told : (ids : List Ident) → AllByRecursion (Told Any ident_text) ids
idents-told [] = tt
idents-told (id ∷ ids) = (ident-told id, idents-told ids)

layer-told : (y : Pattern-F ((p : Pattern) × Whole p)) (x : Pattern-F Pattern) → map-Pattern ((p : Pattern) × Whole p) Pattern (λ e. e.0) y ≡ x → Whole (roll-Pattern x)
layer-told (Pattern-F.Glob glob) x is = subst (λ z. Whole (roll-Pattern z)) is (by-parts (Pattern-F.Glob glob) (str-told glob))
layer-told (Pattern-F.HasVersion version) x is = subst (λ z. Whole (roll-Pattern z)) is (by-parts (Pattern-F.HasVersion version) (str-told version))
layer-told (Pattern-F.Ids ids) x is = subst (λ z. Whole (roll-Pattern z)) is (by-parts (Pattern-F.Ids ids) (list-told ident_text ident-full ids (idents-told ids)))
layer-told (Pattern-F.And ps) x is = subst (λ z. Whole (roll-Pattern z)) is (by-parts (Pattern-F.And (map (λ e. e.0) ps)) (list-told text_of pattern-full (map (λ e. e.0) ps) (each-told ps)))
layer-told (Pattern-F.Or ps) x is = subst (λ z. Whole (roll-Pattern z)) is (by-parts (Pattern-F.Or (map (λ e. e.0) ps)) (list-told text_of pattern-full (map (λ e. e.0) ps) (each-told ps)))
layer-told (Pattern-F.Not e) x is = subst (λ z. Whole (roll-Pattern z)) is (by-parts (Pattern-F.Not e.0) e.1)
layer-told Pattern-F.HasNoVersion x is = subst (λ z. Whole (roll-Pattern z)) is (by-parts Pattern-F.HasNoVersion (unit-told tt))

pub pattern-told : (p : Pattern) → Told Any text_of p
pattern-told = ind-Pattern Whole (λ x y is. layer-told y x is)

-- so two patterns with one text are one
pub same-pattern : (p q : Pattern) → Short (text_of p) → text_of p ≡ text_of q → p ≡ q
same-pattern p q short e = (pattern-told p q tt tt [] [] (subst Short (sym (append-nil (text_of p))) short) (append-nil (text_of p) ∙ (e ∙ sym (append-nil (text_of q))))).0
