use Rattle.hk_texts.proofs.Histories.{same-history}
use Rattle.hk_texts.proofs.laws.printed_traces_tell_histories.Goals as goal

pub returns : goal.returns
returns c = same-history
