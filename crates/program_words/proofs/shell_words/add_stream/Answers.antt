use Rattle.std.proofs.Common.{◌≡◌, Some, refl, sym, ap, ◌∙◌, subst}
use Rattle.program_words.specs.ShellWords as spec
use Rattle.program_words.proofs.ShellWords as made
use Rattle.program_words.proofs.shell_words.add_stream.Goals as goal

pub returns-in_ok-push_str-in-Some : goal.returns-in_ok-push_str-in-Some
returns-in_ok-push_str-in-Some c =
    let word = c.as_str.result.now in
    made.on_ok c.add_word.result _ _
    (λ last. made.adds_both (λ text. text ≡ c.args.arrow.now) (spec.IsTextOf word) _ _ _ _ (c.args.arrow.now, c.in_ok-push_str-in-Some.ensures.bytes, refl) last
    (λ s t is more. (made.redirection c.args.arrow.now word s t c.args.name.now (c.in-Some.is ∙ ap Some (sym c.as_str.ensures.bytes)) is more.0, made.shown_append s t (subst spec.IsShown (sym is) c.requires) more.1)))
    c.add_word.ensures
