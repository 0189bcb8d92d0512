use Rattle.std.proofs.Common.{subst}
use Rattle.std.specs.Prelude.{Err}
use Rattle.hk_base.specs.Answers.{Answers}
use Rattle.hk_base.specs.Identifier.{read_ident}
use Rattle.std.specs.Option.{option_copied}
use Rattle.hk_store.proofs.Finding.{ident-none, ident-fault}
use Rattle.hk_store.proofs.scan.ident_in.Goals as goal

pub returns-in_default-opt_in : goal.returns-in_default-opt_in
returns-in_default-opt_in c = ident-none c.in-Some.path.now c.in-Some.rest.now c.args.bytes.now c.in-Some.ensures.short c.in-Some.ensures.found.1 c.in_default-opt_in.ensures

pub returns-in-Err-Fault : goal.returns-in-Err-Fault
returns-in-Err-Fault c = ident-fault c.in-Some.path.now (option_copied c.in-Some-opt_in.version) c.in-Some.rest.now c.in-Some-opt_in.rest.now c.args.bytes.now c.in-Err-Fault.field-0-0 c.in-Some.ensures.short c.in-Some.ensures.found.1 c.in-Some-opt_in.ensures.1
    (subst (λ f. Answers (read_ident c.in-Some.path.now (option_copied c.in-Some-opt_in.version)) (Err f)) c.in-Err-Fault.field-0-is c.in-Err-Fault.ensures)
