-- What a date pattern is.
use Rattle.std.specs.Prelude.{ℕ, Bool, true, false, ◌&&◌, ◌==◌, nat_le, nat_lt, [], ◌∷◌, length, codes}
use Rattle.std.specs.List.{list_any, list_all}
use Rattle.hk_base.specs.Bytes.{Bytes}

-- the letters that may follow a percent sign
abbrev pub form_letters : Bytes
form_letters = codes "YmdHMSeBbAa%"

abbrev pub is_form : ℕ → Bool
is_form letter = list_any (λ c. c == letter) form_letters

-- whether each percent sign begins a form; `begun` says that one stands just before
abbrev pub forms_from : Bool → Bytes → Bool
forms_from true [] = false
forms_from true (c ∷ cs) = is_form c && forms_from false cs
forms_from false [] = true
forms_from false (c ∷ cs) = forms_from (c == 37) cs

-- ASCII, at most 256 bytes, and each percent sign begins a form
abbrev pub pattern_ok : Bytes → Bool
pattern_ok pattern = nat_le (length pattern) 256 && list_all (λ c. nat_lt c 128) pattern && forms_from false pattern
