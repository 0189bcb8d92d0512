use Rattle.std.proofs.Common.{◌≡◌, Bool, true, false, ap, sym, ◌∙◌, inl, inr, Ok, Err, Result}
use Rattle.jiff_core.specs.declared.error.Error.{Error}
use Rattle.hk_base.specs.Bytes.{Bytes}
use Rattle.hk_meta.proofs.Printing.{shows-pattern, shown_text}
use Rattle.hk_meta.proofs.date_format.format_date.Goals as goal
use Rattle.hk_meta.proofs.date_format.format_date.Goals.{in-OutOfMemory, in_default}

pub returns-in-Ok : goal.returns-in-Ok
returns-in-Ok c =
    let shown = c.in-Ok.ensures.ok in
    c.from_vec.ensures
    ∙ ap shown_text
    (sym shown.shown_is
    ∙ shows-pattern shown.context c.args.date.now c.args.pattern.now c.requires.date (shown.is_context.parts ∙ c.make_parts.ensures) c.requires.pattern)

pub prove-unreachable-requires : goal.prove-unreachable-requires
prove-unreachable-requires c = elim c.in-Err.ensures.err [
  | inl memory ↦ elim c.match-matches.branch [
    | in-OutOfMemory w ↦ both c.match-matches.matches w.matches-is c.if-prove.true
    | in_default w ↦ w.in_default.not-OutOfMemory memory
  ]
  | inr shown ↦ no_fault c.in-Err.error _ (sym
      (shows-pattern shown.context c.args.date.now c.args.pattern.now c.requires.date (shown.is_context.parts ∙ c.make_parts.ensures) c.requires.pattern)
      ∙ shown.shown_is)
]
  where
    both : (b : Bool) → b ≡ true → b ≡ false → ⊥
    both b is other = cc

    no_fault : (e : Error) (bytes : Bytes) → (let o : Result Bytes Error = Ok bytes in o) ≡ Err e → ⊥
    no_fault e bytes same = cc
