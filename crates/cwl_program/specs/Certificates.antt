-- What the program says of the bytes of a certificate's file.
use Rattle.std.specs.Prelude.{ℕ, ◌≤◌, List, ◌++◌, length, codes, decimal}
use Rattle.plan_checker.specs.declared.vertex.Vertex.{Vertex}
use Rattle.plan_checker.specs.declared.plan.Mark.{Mark}
use Rattle.plan_checker.specs.declared.charges.Charges.{Charges}
use Rattle.plan_checker.specs.declared.broken.Broken.{Broken as Rule}
use Rattle.plan_checker.specs.Broken.{IsFirstBroken}
use Rattle.plan_checker.specs.Certificate.{IsCertificate}
use Rattle.plan_checker.specs.Format.{IsTextOf, IsFirstBad}
use Rattle.plan_checker.specs.Plan.{cost}
use Rattle.run_given.specs.Stops.{IsUnread, most_bytes}
use Rattle.end_words.specs.declared.exit.Exit.{Exit}
use Rattle.end_words.specs.declared.exit.Exit.TheVariants.{Output, Broken, Refused}
use Rattle.end_words.specs.declared.exit.Refusal.TheVariants as refusals

-- the line for a certificate of this cost
abbrev pub ok_line : ℕ → List ℕ
ok_line total = codes "ok " ++ decimal total

-- what is said of a graph, a plan and charges: that they are a certificate, or the first rule that they break
pub data IsJudgement (graph : List Vertex) (marks : List Mark) (charges : Charges) : Exit → Type 0 where
  holds : IsCertificate graph marks charges → IsJudgement graph marks charges (Output (ok_line (cost graph marks)))
  breaks : (rule : Rule) → IsFirstBroken graph marks charges rule → IsJudgement graph marks charges (Broken rule)

-- what is said of bytes: they are the text of these three, or no such text from this line on
pub data IsVerdict (bytes : List ℕ) : Exit → Type 0 where
  judges : {exit : Exit} (graph : List Vertex) (marks : List Mark) (charges : Charges) →
      IsTextOf bytes graph marks charges → IsJudgement graph marks charges exit → IsVerdict bytes exit
  unreadable : (line : ℕ) → IsFirstBad bytes line → IsVerdict bytes (Refused (refusals.Certificate line))

-- what is said of a certificate's file, of which 64 MiB are read at most
pub data IsCheck (file : List ℕ) : Exit → Type 0 where
  read : {exit : Exit} (bytes : List ℕ) → length bytes ≤ most_bytes → IsVerdict bytes exit → IsCheck file exit
  unread : {exit : Exit} → IsUnread file exit → IsCheck file exit
