use Rattle.std.proofs.Common.{rules, refl, arith}
use Rattle.clap.specs.Words.{kind_of}
use Rattle.cwl_program.specs.Tells.{IsWrong, helps, refuses, unwritten}
use Rattle.cwl_program.proofs.entry.explain.Goals as goal

pub returns-then-use_stderr : goal.returns-then-use_stderr
returns-then-use_stderr g c =
    let wrong : IsWrong (kind_of c.args.error.now) = first_of (search rules, grind arith) in
    refuses wrong refl

pub returns-in-Ok : goal.returns-in-Ok
returns-in-Ok g c =
    let asked : ¬ IsWrong (kind_of c.args.error.now) = first_of (search rules, grind arith) in
    helps asked refl

pub returns-in-Err : goal.returns-in-Err
returns-in-Err g c = unwritten
