use Rattle.std.proofs.Common.{arith, rules}
use Rattle.std.proofs.lemmas.Grind.{common_steps}
use Rattle.process_machine.specs.inner.Taken.{AreTaken, of_none}
use Rattle.process_machine.proofs.Taken.{among_taken}
use Rattle.process_machine.proofs.entries.take_all.Goals as goal

pub loop-file-init : goal.loop-file-init
loop-file-init g c = rw c.new-found.ensures of_none

pub returns-clause-among : goal.returns-clause-among
returns-clause-among g c =
    let all : AreTaken (g.S.Source.there c.args.source.now) c.args.files.now c.loop-file.found = first_of (search rules, grind (arith, common_steps)) in
    among_taken (g.S.Source.there c.args.source.now) c.args.files.now c.loop-file.found all
