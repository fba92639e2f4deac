use Rattle.std.proofs.Common.{◌∙◌, append_assoc}
use Rattle.std.proofs.lemmas.Result.{IfOk-weaker}
use Rattle.program_words.proofs.telling.said_line.Goals as goal

pub returns : goal.returns
returns c =
    IfOk-weaker c.format.result _ _ (λ s is. is ∙ simp (append_assoc, c.in_ok-words.ensures)) c.format.ensures.ok
