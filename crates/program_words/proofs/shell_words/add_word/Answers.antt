use Rattle.std.proofs.Common.{◌<◌, length, sym, ◌∙◌, arith}
use Rattle.std.proofs.lemmas.Bool.Decides.{nat_tests}
use Rattle.program_words.proofs.ShellWords as made
use Rattle.program_words.proofs.shell_words.add_word.Goals as goal

pub returns-then-is_bare : goal.returns-then-is_bare
returns-then-is_bare c =
    let word = c.args.word.now in
    let some : 0 < length word = grind (arith, nat_tests) in
    let each = sym c.is_bare.ensures ∙ c.if-is_bare.true in
    let shown = made.shown_text word c.utf8.word (sym c.has_hidden.ensures ∙ c.if-has_hidden.false) in
    made.pushed c.push_str.result _ _ _ _ c.push_str.ensures.bytes (λ e. (word, e, (made.bare_word word some each, shown)))

pub add_quoted-requires : goal.add_quoted-requires
add_quoted-requires c = made.shown_text c.args.word.now c.utf8.word (sym c.has_hidden.ensures ∙ c.if-has_hidden.false)
