-- Tokens of a template, and how each is spelled.
use Rattle.std.specs.Prelude.{Bool, true, false, ◌&&◌, not, ◌==◌, List, [], ◌∷◌, ◌++◌, codes}
use Rattle.std.specs.List.{list_all}
use Rattle.hk_base.specs.Bytes.{Bytes}
use Rattle.hk_base.specs.Key.{is_key}
use Rattle.hk_template.specs.Key.{is_bare_key, is_partial_path}

pub data Word : Type 0 where
  key : Bytes → Word
  if_ : Bytes → Word
  else_ : Word
  endif : Word
  for_ : Bytes → Word
  sep : Word
  endfor : Word
  partial : Bytes → Word

pub data Token : Type 0 where
  text : Bytes → Token
  dollar : Token
  tag : Bool → Word → Bool → Token

abbrev pub dash : Bool → Bytes
dash true = codes "-"
dash false = []

abbrev pub word_text : Word → Bytes
word_text (key k) = k
word_text (if_ k) = codes "if(" ++ (k ++ codes ")")
word_text else_ = codes "else"
word_text endif = codes "endif"
word_text (for_ k) = codes "for(" ++ (k ++ codes ")")
word_text sep = codes "sep"
word_text endfor = codes "endfor"
word_text (partial path) = codes "partial(\"" ++ (path ++ codes "\")")

-- what stands between the dollar signs of a tag
abbrev pub tag_text : Bool → Word → Bool → Bytes
tag_text left word right = dash left ++ (word_text word ++ dash right)

-- the spelling of a token
abbrev pub token_text : Token → Bytes
token_text (text bytes) = bytes
token_text dollar = codes "$$"
token_text (tag left word right) = 36 ∷ (tag_text left word right ++ codes "$")

abbrev pub is_text : Token → Bool
is_text (text bytes) = true
is_text dollar = false
is_text (tag left word right) = false

-- a text that isn't empty and has no dollar sign
abbrev pub is_run : Bytes → Bool
is_run [] = false
is_run (c ∷ cs) = list_all (λ b. not (b == 36)) (c ∷ cs)

abbrev pub is_proper : Word → Bool
is_proper (key k) = is_bare_key k
is_proper (if_ k) = is_key k
is_proper else_ = true
is_proper endif = true
is_proper (for_ k) = is_key k
is_proper sep = true
is_proper endfor = true
is_proper (partial path) = is_partial_path path

-- a token that can stand in a template
abbrev pub is_token : Token → Bool
is_token (text bytes) = is_run bytes
is_token dollar = true
is_token (tag left word right) = is_proper word

abbrev pub begins_with_text : List Token → Bool
begins_with_text [] = false
begins_with_text (t ∷ ts) = is_text t

-- no two texts stand side by side, since a text is as long as it can be
abbrev pub texts_apart : List Token → Bool
texts_apart [] = true
texts_apart (t ∷ ts) = not (is_text t && begins_with_text ts) && texts_apart ts
