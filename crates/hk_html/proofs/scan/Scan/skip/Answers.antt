use Rattle.std.proofs.Common.{arith, refl, sym}
use Rattle.std.proofs.lemmas.List.{append-nil, take_all}
use Rattle.hk_html.proofs.ScanLemmas.{written_skip}
use Rattle.hk_html.proofs.scan.Scan.skip.Goals as goal

pub returns : goal.returns
returns c = record {
  body = refl;
  at = refl;
  text = λ root. written_skip _ c.args.self.now.body.now c.args.self.now.from c.args.self.now.at c.args.count c.args.self.now.ordered;
  found = sym (append-nil _);
  kept = take_all _ _ (omega arith);
}
