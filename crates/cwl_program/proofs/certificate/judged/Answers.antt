use Rattle.std.proofs.lemmas.Result.{IfOk-weaker}
use Rattle.cwl_program.specs.Certificates.{breaks}
use Rattle.cwl_program.proofs.Verdicts.{told_ok}
use Rattle.cwl_program.proofs.certificate.judged.Goals as goal

pub returns-in-Ok : goal.returns-in-Ok
returns-in-Ok c =
    IfOk-weaker c.said_ok.result _ _ (λ exit h. told_ok _ _ _ _ _ h c.in-Ok.ensures.certified) c.said_ok.ensures

pub returns-in-Err : goal.returns-in-Err
returns-in-Err c = breaks c.in-Err.broken c.in-Err.ensures.broken
