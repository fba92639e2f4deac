use Rattle.std.proofs.Common.{◌≡◌, ◌∷◌, [], ◌++◌, codes, string_bytes, sym, ap, ◌∙◌, arith, subst}
use Rattle.std.proofs.Math.Utf8.{encode, encodes}
use Rattle.std.proofs.lemmas.List.{append-nil, map-id}
use Rattle.std.proofs.lemmas.Str.{encodes-chars, encode_ascii}
use Rattle.std.proofs.lemmas.Iterator.{YieldsList-from_chars}
use Rattle.std.proofs.lemmas.Iterator.Consumers.{YieldsList-end}
use Rattle.program_words.specs.ShellWords as spec
use Rattle.program_words.proofs.ShellWords as made
use Rattle.program_words.proofs.shell_words.add_escaped.Goals as goal

pub loop-c-init : goal.loop-c-init
loop-c-init c = ([], c.in_ok-push_str.ensures.bytes ∙ sym (append-nil _), (spec.ends, made.shown_nil))

pub loop-c-preserved : goal.loop-c-preserved
loop-c-preserved c =
    made.adds_both (spec.IsWritten (encodes c.loop-c.yielded)) (spec.IsWritten (encode c.in-Some.c)) (spec.IsWritten _) _ _ _ c.loop-c.invariant c.in_ok-add_in_dollar_quotes.ensures
    (λ s t a b. subst (λ run. spec.IsWritten run (s ++ t)) (made.encodes_push c.loop-c.yielded c.in-Some.c) (made.written_both _ _ s t a b))

pub returns : goal.returns
returns c =
    let word = c.args.word.now in
    let all = YieldsList-end (YieldsList-from_chars word c.utf8.word cc) c.loop-c.yielded _ c.loop-c.yielded_by _ _ c.in-None.is c.next.ensures.steps in
    let whole : encodes c.loop-c.yielded ≡ word = ap encodes (sym (map-id c.loop-c.yielded) ∙ all.0) ∙ encodes-chars word c.utf8.word in
    let so_far = c.loop-c.invariant in
    made.pushed c.push.result _ _ _ _ c.push.ensures.bytes
    (λ e. (_, made.closed (string_bytes c.args.line.now) (codes "$'") so_far.0 _ _ (39 ∷ []) so_far.1 (e ∙ ap (λ t. string_bytes c.loop-c.line ++ t) (encode_ascii 39 (omega arith))), made.dollar_word so_far.0 word (subst (λ run. spec.IsWritten run so_far.0) whole so_far.2)))
