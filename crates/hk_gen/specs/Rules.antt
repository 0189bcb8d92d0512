-- The rules of a generated site, and the contexts that they name.
use Rattle.std.specs.Prelude.{◌++◌, codes}
use Rattle.hk_base.specs.Bytes.{Bytes}

unfoldable pub posts_rule : Bytes
posts_rule = codes "[[rule]]\nmatch = \"posts/*\"\nroute = { extension = \"html\" }\n"
    ++ codes "compile = [\"body\", { save = \"content\" }, { apply = \"templates/post.html\", context = \"post\" }, \"relativize\"]\n"

unfoldable pub archive_rule : Bytes
archive_rule = codes "[[rule]]\ncreate = [\"archive.html\"]\nroute = \"id\"\n"
    ++ codes "compile = [{ make = \"\" }, { apply = \"templates/list.html\", context = \"archive\" }, \"relativize\"]\n"

unfoldable pub index_rule : Bytes
index_rule = codes "[[rule]]\ncreate = [\"index.html\"]\nroute = \"id\"\n"
    ++ codes "compile = [{ make = \"\" }, { apply = \"templates/list.html\", context = \"index\" }, \"relativize\"]\n"

unfoldable pub templates_rule : Bytes
templates_rule = codes "[[rule]]\nmatch = \"templates/*\"\ncompile = [\"template\"]\n"

unfoldable pub post_context : Bytes
post_context = codes "[context.post]\nfields = [{ date = [\"date\", \"%Y-%m-%d\"] }, \"default\"]\n"

unfoldable pub archive_context : Bytes
archive_context = codes "[context.archive]\nfields = [{ list = \"posts\", of = \"posts/*\", order = \"recent\", context = \"post\" }, \"default\"]\n"

unfoldable pub index_context : Bytes
index_context = codes "[context.index]\nfields = [{ list = \"posts\", of = \"posts/*\", order = \"recent\", "
    ++ codes "limit = 10, snapshot = \"content\", context = \"short\" }, \"default\"]\n"

unfoldable pub short_context : Bytes
short_context = codes "[context.short]\nfields = [{ teaser = [\"short\", \"content\"] }, \"default\"]\n"

abbrev pub rules : Bytes
rules = posts_rule ++ (archive_rule ++ (index_rule ++ templates_rule))

abbrev pub contexts : Bytes
contexts = post_context ++ (archive_context ++ (index_context ++ short_context))

-- what `site.toml` holds
abbrev pub rules_text : Bytes
rules_text = rules ++ contexts
