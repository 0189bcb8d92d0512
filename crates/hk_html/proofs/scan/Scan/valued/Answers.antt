use Rattle.std.proofs.Common.{◌≡◌, sym, true, take}
use Rattle.hk_html.specs.Part.{is_link}
use Rattle.hk_html.specs.Scan.{ahead}
use Rattle.hk_html.proofs.ReadsLemmas.{ReadsPart-link_of}
use Rattle.hk_html.proofs.scan.Scan.valued.Goals as goal

pub returns-in_ok-link : goal.returns-in_ok-link
returns-in_ok-link c = λ part rest text is.
    let link : is_link (take c.args.sizes.name (ahead c.args.self.now)) ≡ true = rw (← c.rest_of-rest.ensures, ← c.front_of.ensures) (sym c.if-is_link.ensures) in
    ReadsPart-link_of c.args.self.now c.link.new.self c.skip.new.self c.args.sizes part rest text is link c.in_ok-link.ensures c.skip.ensures
