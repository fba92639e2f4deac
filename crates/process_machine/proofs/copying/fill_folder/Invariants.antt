use denote.Text.{Utf8}
use denote.Shadow.{shadow}
use Rattle.process_machine.proofs.copying.fill_folder.Given as goal

-- the way that was made last is text
abbrev pub invariant-loop-entry : goal.invariant-loop-entry
invariant-loop-entry g l = shadow (Utf8 l.made)
