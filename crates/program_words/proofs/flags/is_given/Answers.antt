use Rattle.std.proofs.Common.{◌≡◌, ◌∙◌, List, ℕ, ap, refl, codes}
use Rattle.std.specs.Str.{bytes_eq}
use Rattle.std.specs.Prelude.{unwrap_or}
use Rattle.clap.specs.Words.{first_of, found_of, rows_of}
use Rattle.clap.proofs.WalkLemmas.{first_value-rows}
use Rattle.program_words.proofs.CommandLines.{or_other}
use Rattle.program_words.proofs.flags.is_given.Goals as goal

pub returns : goal.returns
returns c =
    let found = found_of c.args.words.now in
    let word : c.unwrap_or.result.now ≡ unwrap_or (first_of c.args.id.now (rows_of found)) (codes "") =
    or_other _ _ _ _ (codes "") (c.get_str.ensures ∙ first_value-rows found c.args.id.now) c.unwrap_or.ensures refl in
    c.eq.ensures ∙ ap (λ (t : List ℕ). bytes_eq t (codes "true")) word
