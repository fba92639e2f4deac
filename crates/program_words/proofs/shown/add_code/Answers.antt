use Rattle.program_words.proofs.ShellWords.{on_ok}
use Rattle.program_words.proofs.CodeTexts.{code_pushed}
use Rattle.program_words.proofs.shown.add_code.Goals as goal

pub returns : goal.returns
returns c =
    on_ok c.add_digit-4.result _ _
    (λ last. code_pushed _ _ _ _ _ _ _ _ _ _ c.in_ok-push_str.ensures.bytes c.in_ok-add_digit.ensures c.in_ok-add_digit-2.ensures c.in_ok-add_digit-3.ensures last)
    c.add_digit-4.ensures
