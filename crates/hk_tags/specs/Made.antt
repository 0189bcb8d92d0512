-- What is kept while the pages of tables are made, as the definitions have it.
use Rattle.hk_tags.specs.Growing.{MakingView}
use Rattle.hk_tags.specs.declared.growing.Making.{Making}

abbrev pub making_of : Making → MakingView
making_of making = record { route = making.route.now; chain = making.chain.now; context = making.context; item = making.item; order = making.order }
