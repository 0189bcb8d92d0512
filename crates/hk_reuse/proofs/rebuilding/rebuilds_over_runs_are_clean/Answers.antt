use Rattle.std.proofs.Common.{◌∙◌}
use Rattle.hk_reuse.specs.Entries.{no_entries}
use Rattle.hk_reuse.specs.Image.{image}
use Rattle.hk_reuse.proofs.Agreeing.{clean-pages, clean-ends, clean-history, over-left}
use Rattle.hk_reuse.proofs.Sites.{image-same}
use Rattle.hk_reuse.proofs.rebuilding.rebuilds_over_runs_are_clean.Goals as goal

pub returns-clause-pages : goal.returns-clause-pages
returns-clause-pages c = λ dig old new inner plans same. clean-pages dig old new plans inner same

pub returns-clause-ends : goal.returns-clause-ends
returns-clause-ends c = λ dig old new inner i plans same lt. clean-ends dig old new plans inner same i lt

pub returns-clause-history : goal.returns-clause-history
returns-clause-history c = λ dig old new inner h plans same all. clean-history dig old new plans inner same h all

pub returns-clause-entries : goal.returns-clause-entries
returns-clause-entries c = λ dig old new inner plans same.
    over-left dig new (image dig old) inner plans.now same ∙ image-same dig old new plans.was plans.now plans.apart plans.told

pub returns-clause-anew : goal.returns-clause-anew
returns-clause-anew c = λ dig site inner s same. over-left dig site no_entries inner s same
