use Rattle.std.proofs.Common.{rules, arith, codes, Some, option_map, ◌≡◌, List}
use Rattle.clap.specs.Words.{Row, Text, found_of, rows_of, subcommand_name_of, subcommand_rows}
use Rattle.clap.specs.declared.parser.matches.ArgMatches.TheViews.{out-ArgMatches}
use Rattle.program_words.proofs.CommandLines.{check_wished}
use Rattle.program_words.proofs.command.chosen.Goals as goal

pub returns-in-Some-check-default : goal.returns-in-Some-check-default
returns-in-Some-check-default c =
    let name : subcommand_name_of c.args.matches.now ≡ Some (codes "check") =
    first_of (search (rules, c.in-Some-check-default.ensures.name, c.in-Some-check-default.is-check), cc, grind (arith, c.in-Some-check-default.ensures.name, c.in-Some-check-default.is-check)) in
    let rows : option_map (λ (p : Text × List Row). p.1) (subcommand_rows (out-ArgMatches c.args.matches.now).subcommand) ≡ Some (rows_of (found_of c.in-Some-check-default.words.now)) =
    first_of (search (rules, c.in-Some-check-default.ensures.rows, c.in-Some-check-default.words-is), cc, grind (arith, c.in-Some-check-default.ensures.rows, c.in-Some-check-default.words-is)) in
    check_wished c.args.matches.now c.in-Some-check-default.words.now _ name rows c.check_choice.ensures
