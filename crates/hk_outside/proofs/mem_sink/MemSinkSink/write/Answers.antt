use Rattle.std.proofs.Common.{rules, ◌++◌, Some, ap, ◌∙◌, take}
use Rattle.hk_outside.proofs.FateLemmas.{front}
use Rattle.hk_outside.proofs.mem_sink.MemSinkSink.write.Goals as goal

pub returns-in_ok-extend_from_slice-in-Some-clause-appends : goal.returns-in_ok-extend_from_slice-in-Some-clause-appends
returns-in_ok-extend_from_slice-in-Some-clause-appends c =
    let n = front c.in-Some.count c.args.bytes.now in
    record {
      all = search rules;
      some = λ _. (n.0, n.1, ap Some (c.in_ok-extend_from_slice-in-Some.ensures.items ∙ ap (λ s. c.self.inside.bytes.items ++ s) (c.first.ensures ∙ n.2) ∙ ap (λ v. v.written ++ take n.0 c.args.bytes.now) c.self.view_is));
      none = search rules;
    }
