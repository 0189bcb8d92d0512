-- A document, by whether its bytes are text.
use Rattle.std.proofs.Common.{◌≡◌, true, false, Option, None, cond, refl, ap, ◌∙◌}
use Rattle.std.specs.Str.{is_utf8, IsUtf8}
use Rattle.std.proofs.lemmas.Str.{IsUtf8-from_is_utf8, is_utf8-from_IsUtf8}
use Rattle.toml.specs.Data.{Members}
use Rattle.toml.specs.Parse.{parse_document}
use Rattle.hk_base.specs.Bytes.{Bytes}
use Rattle.hk_rules_file.specs.RulesForm.{document}

pub document-text : (bytes : Bytes) (o : Option Members) → IsUtf8 bytes → parse_document bytes ≡ o → document bytes ≡ o
unfolding document
document-text bytes o h e = ap (λ b. cond b (parse_document bytes) None) (is_utf8-from_IsUtf8 bytes h) ∙ e

pub document-none : (bytes : Bytes) → ¬ (IsUtf8 bytes) → document bytes ≡ None
unfolding document
document-none bytes h = elim (is_utf8 bytes) as (λ b. is_utf8 bytes ≡ b → cond b (parse_document bytes) None ≡ None) [ true ↦ λ e. absurd (h (IsUtf8-from_is_utf8 bytes e)) | false ↦ λ e. refl ] refl
