use Rattle.std.proofs.Common.{rules, arith}
use Rattle.std.proofs.lemmas.Result.{IfOk-weaker}
use Rattle.cwl_program.proofs.Verdicts.{told_bad}
use Rattle.cwl_program.specs.Certificates.{judges}
use Rattle.cwl_program.proofs.certificate.verdict.Goals as goal

pub returns-in-Ok : goal.returns-in-Ok
returns-in-Ok c = IfOk-weaker c.judged.result _ _ (λ exit h. judges _ _ _ c.in-Ok.ensures.read h) c.judged.ensures

pub returns-in-Err-NotACertificate : goal.returns-in-Err-NotACertificate
returns-in-Err-NotACertificate c =
    told_bad _ c.in-Err-NotACertificate.line _
    (first_of (search (rules, c.in-Err-NotACertificate.line-is), cc, grind (arith, c.in-Err-NotACertificate.line-is)))
    (rw c.in-Err-NotACertificate.field-0-is at c.in-Err-NotACertificate.ensures.refused)
