use Rattle.std.proofs.Common.{◌≡◌, ◌-◌}
use denote.Text.{Utf8}
use denote.Shadow.{shadow}
use Rattle.run_facts.specs.MadeBy.{after_name, rest_after}
use Rattle.run_facts.specs.declared.made_by.TheConstants.{START_AFTER_NAME}
use Rattle.run_facts.proofs.made_by.start_in.Given as goal

-- what is behind the words that are left is the same
abbrev pub invariant-loop-done : goal.invariant-loop-done
invariant-loop-done l =
    shadow (Utf8 l.rest) × (rest_after (START_AFTER_NAME - l.done) l.rest ≡ rest_after START_AFTER_NAME (after_name l.fn.stat))
