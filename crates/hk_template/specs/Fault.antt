-- The first fault of a text: tokens are read from the left, with the forms that are open.
use Rattle.std.specs.Prelude.{ℕ, ◌+◌, Bool, true, false, nat_lt, if◌then◌else◌, List, [], ◌∷◌, length, Option, Some, None, Result, Ok, Err}
use Rattle.hk_base.specs.Bytes.{Bytes}
use Rattle.hk_template.specs.Token.{Word, key, if_, else_, endif, for_, sep, endfor, partial, Token, text, dollar, tag, token_text}
use Rattle.hk_template.specs.Cut.{cut}
use Rattle.hk_template.specs.declared.fault.TemplateFault.{TemplateFault}
use Rattle.hk_template.specs.declared.fault.TemplateFault.TheVariants.{BadForm, Unclosed, TooDeep}

-- an open form, with the place of its first tag
pub data Open : Type 0 where
  in_if : ℕ → Open
  in_else : ℕ → Open
  in_for : ℕ → Open
  in_sep : ℕ → Open

abbrev pub place_of_open : Open → ℕ
place_of_open (in_if p) = p
place_of_open (in_else p) = p
place_of_open (in_for p) = p
place_of_open (in_sep p) = p

-- one more form, or a fault where 64 are open
abbrev pub one_more : ℕ → Open → List Open → Result (List Open) TemplateFault
one_more p o os = if nat_lt (length os) 64 then Ok (o ∷ os) else Err (TooDeep p)

-- the open forms after a word, or its fault where it doesn't fit the innermost one
abbrev pub opened : ℕ → Word → List Open → Result (List Open) TemplateFault
opened p (key k) os = Ok os
opened p (partial path) os = Ok os
opened p (if_ k) os = one_more p (in_if p) os
opened p (for_ k) os = one_more p (in_for p) os
opened p else_ (in_if q ∷ os) = Ok (in_else q ∷ os)
opened p else_ _ = Err (BadForm p)
opened p sep (in_for q ∷ os) = Ok (in_sep q ∷ os)
opened p sep _ = Err (BadForm p)
opened p endif (in_if q ∷ os) = Ok os
opened p endif (in_else q ∷ os) = Ok os
opened p endif _ = Err (BadForm p)
opened p endfor (in_for q ∷ os) = Ok os
opened p endfor (in_sep q ∷ os) = Ok os
opened p endfor _ = Err (BadForm p)

abbrev pub opened_by : ℕ → Token → List Open → Result (List Open) TemplateFault
opened_by p (text bytes) os = Ok os
opened_by p dollar os = Ok os
opened_by p (tag left word right) os = opened p word os

abbrev pub unclosed : List Open → Option TemplateFault
unclosed [] = None
unclosed (o ∷ os) = Some (Unclosed (place_of_open o))

abbrev pub at_end : ℕ → List Open → Bool → Option TemplateFault
at_end p os true = unclosed os
at_end p os false = Some (BadForm p)

abbrev pub fault_on : (List Open → Option TemplateFault) → Result (List Open) TemplateFault → Option TemplateFault
fault_on onward (Ok os) = onward os
fault_on onward (Err fault) = Some fault

-- the first fault from a place on, where these forms are open
abbrev pub fault_from : ℕ → List Open → List Token → Bool → Option TemplateFault
fault_from p os [] whole = at_end p os whole
fault_from p os (t ∷ ts) whole = fault_on (λ opens. fault_from (p + length (token_text t)) opens ts whole) (opened_by p t os)

unfoldable pub first_fault : Bytes → Option TemplateFault
first_fault bytes = let c = cut bytes in fault_from 0 [] c.0 c.1
