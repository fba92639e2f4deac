use Rattle.std.proofs.Common.{sym, ◌∙◌}
use Rattle.program_words.proofs.ShellWords as made
use Rattle.program_words.proofs.shell_words.add_in_dollar_quotes.Goals as goal

pub returns-then-c-eq39 : goal.returns-then-c-eq39
returns-then-c-eq39 c =
    made.pushed c.push_str.result _ _ _ _ c.push_str.ensures.bytes (λ e. (_, e, made.written_quote c.args.c c.if-c-eq39.true))

pub returns-then-c-eq92 : goal.returns-then-c-eq92
returns-then-c-eq92 c =
    made.pushed c.push_str-then-c-eq92.result _ _ _ _ c.push_str-then-c-eq92.ensures.bytes (λ e. (_, e, made.written_backslash c.args.c c.if-c-eq92.true))

pub returns : goal.returns
returns c =
    made.pushed c.push.result _ _ _ _ c.push.ensures.bytes
    (λ e. (_, e, made.written_plain c.args.c c.if-c-eq39.false c.if-c-eq92.false (sym c.is_hidden.ensures ∙ c.if-is_hidden.false)))
