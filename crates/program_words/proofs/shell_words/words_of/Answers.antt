use Rattle.std.proofs.Common.{get_or, inl, inr, ◌≡◌, ◌++◌, string_bytes, ap, ◌∙◌, arith}
use Rattle.std.proofs.lemmas.Str.{encode_ascii}
use Rattle.program_words.proofs.ShellWords as made
use Rattle.program_words.proofs.shell_words.words_of.Goals as goal
use Rattle.program_words.proofs.shell_words.words_of.Goals.{then-index-gt0+in_ok-push, else-index-gt0}

pub loop-index-preserved : goal.loop-index-preserved
loop-index-preserved c =
    let i = c.loop-index.index in
    let line = string_bytes c.loop-index.line in
    let spaced = string_bytes c.if-index-gt0.line in
    let word = c.as_str.result.now in
    let at : word ≡ get_or c.args.words.now i word = cc (c.as_str.ensures.bytes, c.index-words-index.is) in
    let space : made.IsSpaced i line spaced =
    elim c.if-index-gt0.branch [
      | then-index-gt0+in_ok-push w ↦ inr (w.if-index-gt0.true, ap string_bytes w.line-is ∙ w.in_ok-push.ensures.bytes ∙ ap (λ t. line ++ t) (encode_ascii 32 (omega arith)))
      | else-index-gt0 w ↦ inl (w.if-index-gt0.false, ap string_bytes w.line-is)
    ] in
    record {
      read = made.words_more c.args.words.now i word line spaced (string_bytes c.add_word.new.line) c.loop-index-test.true at c.loop-index.invariant.read space c.in_ok-add_word.ensures;
      shown = made.words_shown i word line spaced (string_bytes c.add_word.new.line) c.loop-index.invariant.shown space c.in_ok-add_word.ensures;
    }
