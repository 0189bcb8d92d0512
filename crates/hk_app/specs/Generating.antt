-- What the source folder of a generated site comes to.
use Rattle.hk_words.specs.declared.commands.GenerateOptions.{GenerateOptions}
use Rattle.hk_app.specs.declared.reading.Gathered.{Gathered}
use Rattle.hk_app.specs.Gathering.{ReadsAs}
use Rattle.hk_app.specs.Promise.{generated}

abbrev pub GathersGenerated : GenerateOptions → Gathered → Type 0
GathersGenerated o = ReadsAs (generated o)
