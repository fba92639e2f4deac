use Rattle.std.proofs.Common.{codes}
use Rattle.program_words.specs.ShellWords as spec
use Rattle.program_words.proofs.ShellWords as made
use Rattle.program_words.proofs.shell_words.line_of.Goals as goal

pub add_stream-requires : goal.add_stream-requires
add_stream-requires c = made.shown_in

pub add_stream-requires-2 : goal.add_stream-requires-2
add_stream-requires-2 c = made.shown_out

pub add_stream-requires-3 : goal.add_stream-requires-3
add_stream-requires-3 c = made.shown_errors

pub returns-clause-shown : goal.returns-clause-shown
returns-clause-shown c =
    let launch = c.args.launch.now in
    made.shown_more (spec.IsRedirection (codes " 2>") launch.stderr) _ _
    (made.shown_more (spec.IsRedirection (codes " >") launch.stdout) _ _
    (made.shown_more (spec.IsRedirection (codes " <") launch.stdin) _ _ c.in_ok-line.ensures.shown c.in_ok-add_stream.ensures)
    c.in_ok-add_stream-2.ensures)
    c.in_ok-add_stream-3.ensures
