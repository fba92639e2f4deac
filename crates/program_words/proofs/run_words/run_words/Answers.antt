use Rattle.std.proofs.Common.{◌≡◌, ◌∙◌, refl, codes, option_map}
use Rattle.std.specs.Prelude.{unwrap_or}
use Rattle.clap.specs.Words.{first_of, found_of, rows_of}
use Rattle.clap.proofs.WalkLemmas.{first_value-rows}
use Rattle.program_words.proofs.CommandLines.{or_other}
use Rattle.program_words.proofs.run_words.run_words.Goals as goal

pub returns : goal.returns
returns c =
    let found = found_of c.args.words.now in
    let document : c.unwrap_or.result.now ≡ unwrap_or (first_of (codes "DOCUMENT") (rows_of found)) (codes "") =
    or_other _ _ _ _ (codes "") (c.get_str.ensures ∙ first_value-rows found (codes "DOCUMENT")) c.unwrap_or.ensures refl in
    let inputs : option_map (λ s. s.now) c.get_str-2.result ≡ first_of (codes "INPUTS") (rows_of found) =
    c.get_str-2.ensures ∙ first_value-rows found (codes "INPUTS") in
    let work : c.unwrap_or-2.result.now ≡ unwrap_or (first_of (codes "work") (rows_of found)) (codes "cwl-work") =
    or_other _ _ _ _ (codes "cwl-work") (c.get_str-3.ensures ∙ first_value-rows found (codes "work")) c.unwrap_or-2.ensures refl in
    let outdir : c.unwrap_or-3.result.now ≡ unwrap_or (first_of (codes "outdir") (rows_of found)) (codes ".") =
    or_other _ _ _ _ (codes ".") (c.get_str-4.ensures ∙ first_value-rows found (codes "outdir")) c.unwrap_or-3.ensures refl in
    let slots : option_map (λ s. s.now) c.get_str-5.result ≡ first_of (codes "slots") (rows_of found) =
    c.get_str-5.ensures ∙ first_value-rows found (codes "slots") in
    let retries : option_map (λ s. s.now) c.get_str-6.result ≡ first_of (codes "retries") (rows_of found) =
    c.get_str-6.ensures ∙ first_value-rows found (codes "retries") in
    let launcher : option_map (λ s. s.now) c.get_str-7.result ≡ first_of (codes "launcher") (rows_of found) =
    c.get_str-7.ensures ∙ first_value-rows found (codes "launcher") in
    let record_file : option_map (λ s. s.now) c.get_str-8.result ≡ first_of (codes "record") (rows_of found) =
    c.get_str-8.ensures ∙ first_value-rows found (codes "record") in
    let archive : option_map (λ s. s.now) c.get_str-9.result ≡ first_of (codes "archive") (rows_of found) =
    c.get_str-9.ensures ∙ first_value-rows found (codes "archive") in
    let cache : option_map (λ s. s.now) c.get_str-10.result ≡ first_of (codes "cache") (rows_of found) =
    c.get_str-10.ensures ∙ first_value-rows found (codes "cache") in
    let budget : option_map (λ s. s.now) c.get_str-11.result ≡ first_of (codes "budget") (rows_of found) =
    c.get_str-11.ensures ∙ first_value-rows found (codes "budget") in
    let base : option_map (λ s. s.now) c.get_str-12.result ≡ first_of (codes "base") (rows_of found) =
    c.get_str-12.ensures ∙ first_value-rows found (codes "base") in
    let rate : option_map (λ s. s.now) c.get_str-13.result ≡ first_of (codes "rate") (rows_of found) =
    c.get_str-13.ensures ∙ first_value-rows found (codes "rate") in
    rw (document, inputs, work, outdir, slots, retries, launcher, record_file, archive, cache, budget, c.is_given.ensures, base, rate, c.is_given-2.ensures, c.is_given-3.ensures, c.telling_of.ensures, c.shows_of.ensures, c.is_wanted.ensures) refl
