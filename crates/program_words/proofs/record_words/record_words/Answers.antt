use Rattle.std.proofs.Common.{◌≡◌, ◌∙◌, refl, codes, option_map}
use Rattle.std.specs.Prelude.{unwrap_or}
use Rattle.clap.specs.Words.{first_of, found_of, rows_of}
use Rattle.clap.proofs.WalkLemmas.{first_value-rows}
use Rattle.program_words.proofs.CommandLines.{or_other}
use Rattle.program_words.proofs.record_words.record_words.Goals as goal

pub returns : goal.returns
returns c =
    let found = found_of c.args.words.now in
    let file : c.unwrap_or.result.now ≡ unwrap_or (first_of (codes "FILE") (rows_of found)) (codes "") =
    or_other _ _ _ _ (codes "") (c.get_str.ensures ∙ first_value-rows found (codes "FILE")) c.unwrap_or.ensures refl in
    let forget : option_map (λ s. s.now) c.get_str-2.result ≡ first_of (codes "forget") (rows_of found) =
    c.get_str-2.ensures ∙ first_value-rows found (codes "forget") in
    let budget : option_map (λ s. s.now) c.get_str-3.result ≡ first_of (codes "budget") (rows_of found) =
    c.get_str-3.ensures ∙ first_value-rows found (codes "budget") in
    rw (file, forget, budget, c.is_given.ensures, c.is_given-2.ensures, c.is_given-3.ensures, c.is_wanted.ensures) refl
