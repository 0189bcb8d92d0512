-- The source folder of a generated site: the posts, their templates and the rules.
use Rattle.std.specs.Prelude.{ℕ, List, [], ◌∷◌, ◌++◌, codes}
use Rattle.hk_base.specs.Bytes.{Bytes}
use Rattle.hk_gen.specs.Posts.{posts}
use Rattle.hk_gen.specs.Rules.{rules_text}

abbrev pub post_template : Bytes
post_template = codes "<h1>$title$</h1><i>$date$</i>\n$body$"

abbrev pub list_template : Bytes
list_template = codes "$for(posts)$<a href=\"$url$\">$title$</a>$if(short)$ $short$$endif$\n$endfor$"

-- the files with their paths, in the order of the paths
abbrev pub site : ℕ → ℕ → List (Bytes × Bytes)
site number count = posts number count ++ (codes "site.toml", rules_text)
    ∷ (codes "templates/list.html", list_template)
    ∷ (codes "templates/post.html", post_template) ∷ []
