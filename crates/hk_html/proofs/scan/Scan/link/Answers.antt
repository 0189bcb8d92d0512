use Rattle.std.proofs.Common.{arith, refl, sym, ◌+◌, ◌≡◌}
use Rattle.std.proofs.lemmas.List.{take_at}
use Rattle.hk_html.proofs.ScanLemmas.{written_link, values_link}
use Rattle.hk_html.proofs.scan.Scan.link.Goals as goal

pub returns : goal.returns
returns c =
    let sum : c.args.self.now.at + (c.args.before + c.args.value) ≡ c.args.self.now.at + c.args.before + c.args.value = omega arith in
    record {
      body = refl;
      at = sym sum;
      text = λ root. rw c.in_ok-push.ensures.items (written_link root c.args.self.now.body.now c.args.self.now.links.items _ c.args.self.now.from c.args.self.now.at c.args.before c.args.value c.args.self.now.ordered refl refl);
      found = rw c.in_ok-push.ensures.items (values_link c.args.self.now.body.now c.args.self.now.links.items _ c.args.self.now.at c.args.before c.args.value refl);
      kept = rw c.in_ok-push.ensures.items (take_at _ _ _ refl);
    }
