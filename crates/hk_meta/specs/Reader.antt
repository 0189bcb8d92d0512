-- What the lines so far say: the keys and values, and the list that is open.
use Rattle.std.specs.Prelude.{ℕ, [], Option, Some, None, Result, Ok, Err}
use Rattle.std.specs.Option.{unwrap_or}
use Rattle.hk_base.specs.Bytes.{Bytes}
use Rattle.hk_meta.specs.Line.{Line, ignored, member, key_line, refused}
use Rattle.hk_meta.specs.Metadata.{Pairs, put}
use Rattle.hk_meta.specs.Scalar.{with_one_more}

-- a key, and the join of the members so far
abbrev pub OpenList : Type 0
OpenList = Bytes × Option Bytes

abbrev pub State : Type 0
State = Pairs × Option OpenList

-- the list that is open ends
abbrev pub close_by : Pairs → Option OpenList → Pairs
close_by pairs None = pairs
close_by pairs (Some o) = put o.0 (unwrap_or o.1 []) pairs

abbrev pub close : State → Pairs
close s = close_by s.0 s.1

abbrev pub with_key : Bytes → Option Bytes → Pairs → State
with_key key None pairs = (pairs, Some (key, None))
with_key key (Some value) pairs = (put key value pairs, None)

abbrev pub with_member : Bytes → Pairs → Option OpenList → Option State
with_member value pairs None = None
with_member value pairs (Some o) = Some (pairs, Some (o.0, with_one_more o.1 value))

-- after one more line; nothing where it is refused
abbrev pub step : State → Line → Option State
step s ignored = Some s
step s (member value) = with_member value s.0 s.1
step s (key_line key value) = Some (with_key key value (close s))
step s refused = None

-- after the last line
abbrev pub finished : Option ℕ → State → Result Pairs ℕ
finished None s = Ok (close s)
finished (Some number) s = Err number
