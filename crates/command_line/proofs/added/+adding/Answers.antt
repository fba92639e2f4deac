use Rattle.std.proofs.Common.{Some, ap, sym, ◌∙◌}
use Rattle.std.specs.Option.{option_copied}
use Rattle.command_line.specs.Added.{adds}
use Rattle.command_line.specs.inner.View.{style_of}
use Rattle.command_line.proofs.AddedLevels.{adds-Null, adds-Bool, adds-Fields, adds-Whole, adds-Text, adds-FileVal, adds-DirVal, adds-List-joined, adds-List-each}
use Rattle.cwl_value.specs.declared.value.Value.{Value}
use Rattle.command_line.proofs.added.+adding.Goals as goal

pub added-returns-in-Null : goal.added-returns-in-Null
added-returns-in-Null t c =
    ap Some c.new.ensures.items ∙ sym (ap (λ (v : Value). adds v c.args.types.now (style_of c.args.style)) c.in-Null.is ∙ adds-Null c.args.types.now (style_of c.args.style))

pub added-returns-in_ok-if_true-in-Bool : goal.added-returns-in_ok-if_true-in-Bool
added-returns-in_ok-if_true-in-Bool t c =
    ap Some c.in_ok-if_true-in-Bool.ensures ∙ sym (ap (λ (v : Value). adds v c.args.types.now (style_of c.args.style)) c.in-Bool.is ∙ adds-Bool c.args.types.now (style_of c.args.style) c.in-Bool.flag)

pub added-returns-in_ok-flag_words-in-Fields : goal.added-returns-in_ok-flag_words-in-Fields
added-returns-in_ok-flag_words-in-Fields t c =
    ap Some c.in_ok-flag_words-in-Fields.ensures ∙ sym (ap (λ (v : Value). adds v c.args.types.now (style_of c.args.style)) c.in-Fields.is ∙ adds-Fields c.args.types.now (style_of c.args.style) c.in-Fields.field-0)

pub added-returns-in-Whole : goal.added-returns-in-Whole
added-returns-in-Whole t c =
    rw (c.in-Whole.is, adds-Whole c.args.types.now (style_of c.args.style) c.in-Whole.field-0) (rw c.in-Whole.is at c.words_of_text.ensures)

pub added-returns-in-Text : goal.added-returns-in-Text
added-returns-in-Text t c =
    rw (c.in-Text.is, adds-Text c.args.types.now (style_of c.args.style) c.in-Text.field-0) (rw c.in-Text.is at c.words_of_text-in-Text.ensures)

pub added-returns-in-FileVal : goal.added-returns-in-FileVal
added-returns-in-FileVal t c =
    rw (c.in-FileVal.is, adds-FileVal c.args.types.now (style_of c.args.style) c.in-FileVal.field-0) (rw c.in-FileVal.is at c.words_of_text-in-FileVal.ensures)

pub added-returns-in-DirVal : goal.added-returns-in-DirVal
added-returns-in-DirVal t c =
    rw (c.in-DirVal.is, adds-DirVal c.args.types.now (style_of c.args.style) c.in-DirVal.field-0) (rw c.in-DirVal.is at c.words_of_text-in-DirVal.ensures)

pub added-returns-in-Some : goal.added-returns-in-Some
added-returns-in-Some t c =
    rw (c.in-List.is, adds-List-joined c.args.types.now (style_of c.args.style) c.in-List.items c.in-Some.separator.now (ap option_copied c.in-Some.is)) (rw c.as_slice.ensures at c.joined_words.ensures)

pub added-returns-in-None : goal.added-returns-in-None
added-returns-in-None t c =
    rw (c.in-List.is, adds-List-each c.args.types.now (style_of c.args.style) c.in-List.items (ap option_copied c.in-None.is))
    (rw (c.as_slice-in-None.ensures, c.array_of.ensures, c.in-List.is) at c.each_words.ensures)
