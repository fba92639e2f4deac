-- What the program says of a certificate.
use Rattle.std.proofs.Common.{◌≡◌, ◌∙◌, ℕ, List, subst, sym, ap}
use Rattle.plan_checker.specs.declared.vertex.Vertex.{Vertex}
use Rattle.plan_checker.specs.declared.plan.Mark.{Mark}
use Rattle.plan_checker.specs.declared.charges.Charges.{Charges}
use Rattle.plan_checker.specs.Certificate.{IsCertificate}
use Rattle.plan_checker.specs.Plan.{cost}
use Rattle.plan_checker.specs.Format.{IsFirstBad}
use Rattle.cwl_program.specs.Certificates.{IsJudgement, IsVerdict, holds, ok_line, unreadable}
use Rattle.end_words.specs.declared.exit.Exit.{Exit}
use Rattle.end_words.specs.declared.exit.Exit.TheVariants.{Output, Refused}
use Rattle.end_words.specs.declared.exit.Refusal.TheVariants as refusals

pub told_ok : (graph : List Vertex) (marks : List Mark) (charges : Charges) (total : ℕ) (exit : Exit)
    → exit ≡ Output (ok_line total)
    → IsCertificate graph marks charges × (total ≡ cost graph marks)
    → IsJudgement graph marks charges exit
told_ok graph marks charges total exit is_it certified =
    subst (λ (e : Exit). IsJudgement graph marks charges e)
    (sym (is_it ∙ ap (λ (n : ℕ). Output (ok_line n)) certified.1)) (holds certified.0)

pub told_bad : (bytes : List ℕ) (line told : ℕ) → line ≡ told → IsFirstBad bytes line → IsVerdict bytes (Refused (refusals.Certificate told))
told_bad bytes line told same bad = subst (λ (n : ℕ). IsVerdict bytes (Refused (refusals.Certificate n))) same (unreadable line bad)
