use Rattle.std.proofs.Common.{◌∙◌, ◌++◌, ◌∷◌, [], ap, ap₂}
use Rattle.hk_gen.proofs.Turns.{three-more}
use Rattle.hk_gen.proofs.site.generated_site.Goals as goal

pub returns : goal.returns
returns c =
    c.in_ok-push-3.ensures.items
    ∙ (ap (λ files. files ++ c.in_ok-file-2.field-0 ∷ []) (c.in_ok-push-2.ensures.items ∙ ap (λ files. files ++ c.in_ok-file.field-0 ∷ []) c.in_ok-push.ensures.items)
    ∙ three-more _ _ _ _ _ _ _ _ c.in_ok-files.ensures (ap₂ (λ path text. (path, text)) c.in_ok-from_slice.ensures c.in_ok-rules.ensures)
    (c.in_ok-file.ensures ∙ ap (λ text. (_, text)) c.list_template.ensures) (c.in_ok-file-2.ensures ∙ ap (λ text. (_, text)) c.post_template.ensures))
