use Rattle.std.proofs.Common.{◌≡◌, ◌∙◌, refl, codes}
use Rattle.std.specs.Prelude.{unwrap_or}
use Rattle.clap.specs.Words.{first_of, found_of, rows_of}
use Rattle.clap.proofs.WalkLemmas.{first_value-rows}
use Rattle.program_words.proofs.CommandLines.{or_other}
use Rattle.program_words.proofs.command.check_choice.Goals as goal

pub returns : goal.returns
returns c =
    let found = found_of c.args.words.now in
    let file : c.unwrap_or-file.result.now ≡ unwrap_or (first_of (codes "CERTIFICATE") (rows_of found)) (codes "") =
    or_other _ _ _ _ (codes "") (c.get_str.ensures ∙ first_value-rows found (codes "CERTIFICATE")) c.unwrap_or-file.ensures refl in
    rw (file, c.is_wanted.ensures) refl
