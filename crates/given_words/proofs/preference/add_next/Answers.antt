use Rattle.std.proofs.Common.{◌∙◌, ◌++◌, ◌∷◌, [], ap, map, rules, string_bytes}
use Rattle.std.proofs.lemmas.List.{map-append, append_assoc}
use Rattle.given_words.proofs.TwoWords.{two_more}
use Rattle.given_words.proofs.preference.add_next.Goals as goal

pub returns-then-has_options : goal.returns-then-has_options
returns-then-has_options c =
    let before = c.args.found.now.items in
    let first = c.in_ok-from_str.field-0 in
    let second = c.in_ok-from_str-2.field-0 in
    let items = c.in_ok-push-2.ensures.items ∙ ap (λ xs. xs ++ second ∷ []) c.in_ok-push.ensures.items ∙ append_assoc before (first ∷ []) (second ∷ []) in
    ap (map string_bytes) items ∙ map-append string_bytes before (first ∷ second ∷ [])
    ∙ two_more (map string_bytes before) c.args.word.now (string_bytes first) (string_bytes second) c.in_ok-from_str.ensures.ok c.in_ok-from_str-2.ensures.ok (search rules) (search rules)
