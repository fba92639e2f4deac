use Rattle.std.proofs.Common.{◌∙◌, ◌/◌, ◌%◌, ◌+◌, ◌<◌, ap, ◌++◌, arith, string_bytes}
use Rattle.program_words.proofs.ShellWords as made
use Rattle.program_words.proofs.shell_words.add_byte.Goals as goal

pub returns : goal.returns
returns c =
    let byte = c.args.byte in
    let small : byte < 256 = omega arith in
    let old = string_bytes c.args.line.now in
    made.on_ok c.add_digit-3.result _ _
    (λ last. (made.byte_text byte, made.four_pushed old _ _ _ _ 92 (48 + byte / 64) (48 + byte / 8 % 8) (48 + byte % 8) (c.in_ok-push.ensures.bytes ∙ ap (λ t. old ++ t) (c.in_ok-push.ensures.ascii (omega arith))) c.in_ok-add_digit.ensures c.in_ok-add_digit-2.ensures last, (made.byte_escaped byte small, made.byte_shown byte small)))
    c.add_digit-3.ensures
