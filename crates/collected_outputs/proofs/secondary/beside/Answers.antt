use Rattle.std.proofs.Common.{◌≡◌, ◌-◌, Some, None, lit<, take, ap, ◌∙◌, arith}
use Rattle.std.proofs.lemmas.Str.Pattern.{rfind_char}
use Rattle.file_values.proofs.Slashes.{beside-at, beside-none}
use Rattle.collected_outputs.proofs.secondary.beside.Goals as goal

pub returns-in-Some : goal.returns-in-Some
returns-in-Some c =
    let primary = c.args.primary.now in
    let found = rfind_char 47 primary (Some c.in-Some.at) c.in-Some.ensures.cases (lit< tt) in
    let cut : c.in-Some.at - 0 ≡ c.in-Some.at = omega arith in
    let front : c.range-folder.result.now ≡ take c.in-Some.at primary = c.range-folder.ensures.value ∙ ap (λ n. take n primary) cut in
    rw (beside-at primary c.args.name.now c.in-Some.at found.0 found.1 found.2, ← front) c.format.ensures.ok

pub returns-in-None : goal.returns-in-None
returns-in-None c =
    let primary = c.args.primary.now in
    rw (beside-none primary c.args.name.now (rfind_char 47 primary None c.in-None.ensures.cases (lit< tt))) c.from_str.ensures.ok
