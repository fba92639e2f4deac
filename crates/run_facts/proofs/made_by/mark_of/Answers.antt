use Rattle.std.proofs.Common.{◌∙◌, append_assoc, rules}
use Rattle.std.proofs.lemmas.Result.{IfOk-weaker}
use Rattle.run_facts.proofs.made_by.mark_of.Goals as goal

pub returns : goal.returns
returns c =
    IfOk-weaker c.format.result _ _ (λ s is. is ∙ simp (append_assoc, c.before_space-number.ensures, c.start_in-start.ensures)) c.format.ensures.ok
