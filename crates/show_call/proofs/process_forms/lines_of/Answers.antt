use Rattle.std.proofs.Common.{◌∙◌, ◌++◌, ap, lit<, string_bytes}
use Rattle.program_words.specs.Visible.{visible}
use Rattle.show_call.proofs.Shown.{pushed_below}
use Rattle.show_call.proofs.process_forms.lines_of.Goals as goal

pub loop-line-preserved : goal.loop-line-preserved
loop-line-preserved c =
    pushed_below _ string_bytes c.as_slice-line-items.result.now c.loop-line.line-index c.line-item.result _ _ _ _
    c.loop-line-test.true c.line-item.is c.loop-line.invariant
    (c.in_ok-push.ensures.bytes ∙ ap (λ end. string_bytes c.loop-line.text ++ end) (c.in_ok-push.ensures.ascii (lit< tt))) c.in_ok-push_str.ensures.bytes
    (c.as_str-in-loop-line.ensures.value ∙ c.in_ok-line.ensures ∙ ap visible c.as_str.ensures.value)
