use Rattle.std.proofs.Common.{◌≡◌, ◌∷◌, [], ◌++◌, string_bytes, sym, ap, ◌∙◌, arith}
use Rattle.std.specs.Str.{chars}
use Rattle.std.proofs.lemmas.List.{map-id}
use Rattle.std.proofs.lemmas.Str.{encode_ascii}
use Rattle.std.proofs.lemmas.Iterator.{YieldsList-from_chars}
use Rattle.std.proofs.lemmas.Iterator.Consumers.{YieldsList-end}
use Rattle.program_words.proofs.ShellWords as made
use Rattle.program_words.proofs.shell_words.add_quoted.Goals as goal

pub returns : goal.returns
returns c =
    let word = c.args.word.now in
    let all = YieldsList-end (YieldsList-from_chars word c.utf8.word cc) c.loop-c.yielded _ c.loop-c.yielded_by _ _ c.in-None.is c.next.ensures.steps in
    let yielded : c.loop-c.yielded ≡ chars word = sym (map-id c.loop-c.yielded) ∙ all.0 in
    made.pushed c.push-2.result _ _ _ _ c.push-2.ensures.bytes
    (λ e. (_, made.closed (string_bytes c.args.line.now) (39 ∷ []) _ _ _ (39 ∷ []) c.loop-c.invariant (e ∙ ap (λ t. string_bytes c.loop-c.line ++ t) (encode_ascii 39 (omega arith))), made.quoted c.loop-c.yielded word yielded c.utf8.word c.requires))
