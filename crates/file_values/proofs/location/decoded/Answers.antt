use Rattle.std.proofs.Common.{Ok, inl, ⊎_elim, IsUtf8, sym, ap, subst, ◌∙◌}
use Rattle.std.specs.Str.{is_utf8}
use Rattle.std.proofs.lemmas.Bool.{cond-true, cond-false, cases_Bool}
use Rattle.std.proofs.lemmas.Str.{IsUtf8-from_is_utf8, is_utf8-from_IsUtf8}
use Rattle.percent_encoding.specs.Percent.{percent_decode}
use Rattle.file_values.proofs.location.decoded.Goals as goal

pub returns-in_ok-into_owned-in-Ok-clause-ok : goal.returns-in_ok-into_owned-in-Ok-clause-ok
returns-in_ok-into_owned-in-Ok-clause-ok c =
    let bytes = percent_decode c.args.path.now in
    let same = c.percent_decode_str.ensures.bytes in
    let text = subst IsUtf8 same c.in-Ok.ensures.ok_only_if_utf8 in
    cond-true _ _ _ (is_utf8-from_IsUtf8 bytes text) ∙ ap Ok (sym (c.in_ok-into_owned-in-Ok.ensures.ok ∙ c.in-Ok.ensures.value ∙ same))

pub returns-in-Err-Utf8-clause-err : goal.returns-in-Err-Utf8-clause-err
returns-in-Err-Utf8-clause-err c =
    let bytes = percent_decode c.args.path.now in
    let same = c.percent_decode_str.ensures.bytes in
    ⊎_elim
    (λ text. let memory = c.in-Err-Utf8.ensures.utf8 (subst IsUtf8 (sym same) (IsUtf8-from_is_utf8 bytes text)) in cc)
    (λ none. inl (cond-false _ _ _ none))
    (cases_Bool (is_utf8 bytes))
