-- The code's tokens, open forms and readers as those that definitions speak of.
use Rattle.std.specs.Prelude.{List, map, reverse}
use Rattle.hk_base.specs.Bytes.{Bytes}
use Rattle.hk_template.specs.declared.token.Word.{Word as Spoken}
use Rattle.hk_template.specs.declared.token.Word.TheVariants.{Key, If, Else, EndIf, For, Sep, EndFor, Partial}
use Rattle.hk_template.specs.declared.token.Token.{Token as Piece}
use Rattle.hk_template.specs.declared.token.Token.TheVariants.{Text, Dollar, Tag}
use Rattle.hk_template.specs.declared.cut.Cut.{Cut}
use Rattle.hk_template.specs.declared.frame.Head.{Head as Begun}
use Rattle.hk_template.specs.declared.frame.Frame.{Frame as Form}
use Rattle.hk_template.specs.declared.frame.Frame.TheVariants.{If, Else, For, Sep}
use Rattle.hk_template.specs.declared.frame.Parser.{Parser}
use Rattle.hk_template.specs.declared.reader.Reader.{Reader}
use Rattle.hk_template.specs.Token.{Word, key, if_, else_, endif, for_, sep, endfor, partial, Token, text, dollar, tag}
use Rattle.hk_template.specs.Growing.{Head, Frame, if_frame, else_frame, for_frame, sep_frame, State, Waiting}
use Rattle.hk_template.specs.View.{nodes_view}

abbrev pub word_view : Spoken → Word
word_view (Key k) = key k.now
word_view (If k) = if_ k.now
word_view Else = else_
word_view EndIf = endif
word_view (For k) = for_ k.now
word_view Sep = sep
word_view EndFor = endfor
word_view (Partial path) = partial path.now

abbrev pub token_view : Piece → Token
token_view (Text bytes) = text bytes.now
token_view Dollar = dollar
token_view (Tag left word right) = tag left (word_view word) right

abbrev pub cut_view : Cut → Token × Bytes
cut_view c = (token_view c.token, c.rest.now)

abbrev pub head_view : Begun → Head
head_view h = record { place = h.place; key = h.key; outer = nodes_view h.outer.items }

abbrev pub frame_view : Form → Frame
frame_view (If head) = if_frame (head_view head)
frame_view (Else head yes_) = else_frame (head_view head) (nodes_view yes_.items)
frame_view (For head) = for_frame (head_view head)
frame_view (Sep head each) = sep_frame (head_view head) (nodes_view each.items)

-- the innermost form is the last
abbrev pub forms_view : List Form → List Frame
forms_view forms = reverse (map frame_view forms)

abbrev pub state_view : Parser → State
state_view p = record { nodes = nodes_view p.nodes.items; forms = forms_view p.forms.items }

abbrev pub waiting_view : Reader → Waiting
waiting_view r = record { state = state_view r.parser; run = r.run.now; after = r.after }
