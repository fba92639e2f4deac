use Rattle.std.proofs.lemmas.Result.{IfOk-weaker}
use Rattle.cwl_program.specs.Certificates.{read}
use Rattle.cwl_program.proofs.certificate.exit_of_check.Goals as goal

pub returns-in-Ok : goal.returns-in-Ok
returns-in-Ok g c =
    IfOk-weaker c.verdict.result _ _ (λ exit h. read _ c.in-Ok.ensures.ok h) (rw c.as_slice.ensures.value at c.verdict.ensures)
