-- What a run of a process is to show.
use Rattle.std.specs.Prelude.{List, codes, if◌then◌else◌}
use Rattle.clap.specs.Words.{Row}
use Rattle.program_words.specs.Flags.{is_given}
use Rattle.program_words.specs.declared.shows.Shows.{Shows}
use Rattle.program_words.specs.declared.shows.Shows.TheVariants.{Outputs, Lines, Template, Command}

-- the command, else a template, else lines, as options ask; without them the outputs
abbrev pub shows_in : List Row → Shows
shows_in rows =
    if is_given (codes "print-command") rows then Command
    else if is_given (codes "template") rows then Template
    else if is_given (codes "validate") rows then Lines
    else Outputs
