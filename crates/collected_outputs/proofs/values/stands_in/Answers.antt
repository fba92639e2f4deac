use Rattle.std.proofs.Common.{◌≡◌, ◌-◌, ◌==◌, ◌∷◌, ℕ, List, length, refl, rules, Some, None, [], lit<, take, sym, ap, ◌∙◌, arith}
use Rattle.std.specs.Prelude.{bytes_eq}
use Rattle.std.proofs.lemmas.Str.Pattern.{rfind_char}
use Rattle.file_values.proofs.Slashes.{before-at, before-none}
use Rattle.collected_outputs.proofs.values.stands_in.Goals as goal

pub returns-in-Some : goal.returns-in-Some
returns-in-Some c =
    let name = c.args.name.now in
    let found = rfind_char 47 name (Some c.in-Some.at) c.in-Some.ensures.cases (lit< tt) in
    let cut : c.in-Some.at - 0 ≡ c.in-Some.at = omega arith in
    let front : c.range.result.now ≡ take c.in-Some.at name = c.range.ensures.value ∙ ap (λ n. take n name) cut in
    c.eq.ensures ∙ ap (λ f. bytes_eq f c.args.folder.now) (front ∙ sym (before-at name c.in-Some.at found.0 found.1 found.2))

none : (bs : List ℕ) → (length bs == 0) ≡ bytes_eq [] bs
none [] = refl
none (b ∷ bs) = search rules

pub returns-in-None : goal.returns-in-None
returns-in-None c =
    let name = c.args.name.now in
    c.is_empty.ensures ∙ none (c.args.folder.now) ∙ ap (λ f. bytes_eq f c.args.folder.now) (sym (before-none name (rfind_char 47 name None c.in-None.ensures.cases (lit< tt))))
