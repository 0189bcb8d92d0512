-- What is left of a text gives the rest of the tree.
use Rattle.std.proofs.Common.{◌≡◌, ℕ, ◌+◌, ◌<◌, true, false, [], ◌∷◌, length, refl, ap, sym, subst, ◌∙◌, Option, Some, None, Result, Ok, Err, length-append, arith, ◌==◌, eqb-true}
use Rattle.hk_base.specs.Bytes.{Bytes}
use Rattle.hk_template.specs.declared.fault.TemplateFault.{TemplateFault}
use Rattle.hk_template.specs.declared.fault.TemplateFault.TheVariants.{BadForm}
use Rattle.hk_template.specs.Token.{Token, token_text}
use Rattle.hk_base.specs.declared.refusal.Refusal.{Refusal}
use Rattle.hk_base.specs.declared.refusal.Refusal.TheVariants.{Fault, NoMemory}
use Rattle.hk_template.specs.Stepping.{Steps, Grows}
use Rattle.hk_template.specs.Tree.{Nodes}
use Rattle.hk_template.specs.Cut.{Cuts, cut, cut_on, token_at}
use Rattle.hk_template.specs.Growing.{Waiting, waits, start, token_step, grown_from, grown_on, read_tree, finished, flushed}
use Rattle.hk_template.proofs.Bools.{no_false}
use Rattle.hk_template.proofs.Cutting.{cut_first, cut_found, cut_none, Stands, StandsIf, token_stands, token_some}

-- the tree of what is left from a place on
abbrev pub grown_rest : ℕ → Waiting → Bytes → Result Nodes TemplateFault
grown_rest p w bytes = grown_from p w (cut bytes).0 (cut bytes).1

pub rest_whole : (bytes : Bytes) → grown_rest 0 (waits [] false start) bytes ≡ read_tree bytes
unfolding read_tree
rest_whole bytes = refl

pub rest_none : (p : ℕ) (w : Waiting) → grown_rest p w [] ≡ finished (flushed false w)
rest_none p w = ap (λ (c : Cuts). grown_from p w c.0 c.1) cut_none

pub rest_bad : (p : ℕ) (w : Waiting) (c : ℕ) (cs : Bytes) → token_at (c ∷ cs) ≡ None → grown_rest p w (c ∷ cs) ≡ Err (BadForm p)
rest_bad p w c cs e = ap (λ (x : Cuts). grown_from p w x.0 x.1) (cut_first c cs ∙ ap (cut_on cut) e)

rest_on : (p : ℕ) (w : Waiting) (bytes : Bytes) (t : Token) (rest : Bytes) → token_at bytes ≡ Some (t, rest) → grown_rest p w bytes ≡ grown_on (λ next. grown_rest (p + length (token_text t)) next rest) (token_step p t w)
rest_on p w bytes t rest e = ap (λ (x : Cuts). grown_from p w x.0 x.1) (cut_found bytes t rest e)

pub rest_next : (p : ℕ) (w : Waiting) (bytes : Bytes) (t : Token) (rest : Bytes) (next : Waiting) → token_at bytes ≡ Some (t, rest) → token_step p t w ≡ Ok next → grown_rest p w bytes ≡ grown_rest (p + length (token_text t)) next rest
rest_next p w bytes t rest next e s = rest_on p w bytes t rest e ∙ ap (grown_on (λ next. grown_rest (p + length (token_text t)) next rest)) s

pub rest_fault : (p : ℕ) (w : Waiting) (bytes : Bytes) (t : Token) (rest : Bytes) (fault : TemplateFault) → token_at bytes ≡ Some (t, rest) → token_step p t w ≡ Err fault → grown_rest p w bytes ≡ Err fault
rest_fault p w bytes t rest fault e s = rest_on p w bytes t rest e ∙ ap (grown_on (λ next. grown_rest (p + length (token_text t)) next rest)) s

-- how long a text is with its first token
pub rest_length : (bytes : Bytes) (t : Token) (rest : Bytes) → token_at bytes ≡ Some (t, rest) → length bytes ≡ length (token_text t) + length rest
rest_length bytes t rest e =
    let s : Stands bytes t rest = (let P : Option (Token × Bytes) → Type 0 = λ r. StandsIf bytes r in subst P e (token_stands bytes)) in
    ap length s.spelled ∙ length-append (token_text t) rest

pub rest_some : (bytes : Bytes) (t : Token) (rest : Bytes) → token_at bytes ≡ Some (t, rest) → 0 < length (token_text t)
rest_some bytes t rest e =
    let s : Stands bytes t rest = (let P : Option (Token × Bytes) → Type 0 = λ r. StandsIf bytes r in subst P e (token_stands bytes)) in
    token_some t s.proper

-- a step that is refused
pub refused : {A : Type 0} (step : Result Waiting TemplateFault) (new : Waiting) (wanted : Result Nodes TemplateFault) (r : Result A (Refusal TemplateFault)) (e : Refusal TemplateFault) → r ≡ Err e → Steps step new r → ((fault : TemplateFault) → step ≡ Err fault → wanted ≡ Err fault) → Grows wanted (Err e)
refused step new wanted (Ok a) e d s f = let no : ⊥ = cc in absurd no
refused step new wanted (Err (Fault fault)) (Fault other) d s f = let same : fault ≡ other = cc in f fault s ∙ ap Err same
refused step new wanted (Err (Fault fault)) NoMemory d s f = tt
refused step new wanted (Err NoMemory) (Fault other) d s f = let no : ⊥ = cc in absurd no
refused step new wanted (Err NoMemory) NoMemory d s f = tt

pub rest_stuck : (p : ℕ) (w : Waiting) (bytes : Bytes) → token_at bytes ≡ None → (length bytes == 0) ≡ false → grown_rest p w bytes ≡ Err (BadForm p)
rest_stuck p w [] e h = no_false (sym h)
rest_stuck p w (c ∷ cs) e h = rest_bad p w c cs e

pub rest_end : (p : ℕ) (w : Waiting) (bytes : Bytes) → (length bytes == 0) ≡ true → grown_rest p w bytes ≡ finished (flushed false w)
rest_end p w [] h = rest_none p w
rest_end p w (c ∷ cs) h = let no : length (c ∷ cs) ≡ 0 = eqb-true (length (c ∷ cs)) 0 h in absurd (let bad : ⊥ = omega arith in bad)
