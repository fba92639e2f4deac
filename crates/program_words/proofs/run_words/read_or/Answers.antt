use Rattle.std.proofs.Common.{◌≡◌, ◌∙◌, ℕ, sym, arith}
use Rattle.program_words.specs.RunWords.{IsDecimal, unread, written}
use Rattle.program_words.proofs.run_words.read_or.Goals as goal
use Rattle.program_words.proofs.run_words.read_or.Goals.{then-number-least-via-then-number-least, then-number-least-via-else-number-least+then-number-most}

pub returns-then-number-least-clause-chosen : goal.returns-then-number-least-clause-chosen
returns-then-number-least-clause-chosen c =
    unread _ (λ (number : ℕ) (decimal : IsDecimal c.args.least c.args.most c.args.text.now number).
    let same : number ≡ c.in-Ok.number = decimal.value ∙ sym c.in-Ok.ensures.value.0.1 in
    let enough = decimal.is_enough in
    let within = decimal.is_within in
    elim c.then-number-least.branch [
      | then-number-least-via-then-number-least w ↦ omega arith
      | then-number-least-via-else-number-least+then-number-most w ↦ omega arith
    ])

pub returns-else-number-most-clause-chosen : goal.returns-else-number-most-clause-chosen
returns-else-number-most-clause-chosen c =
    written _ _ (record {
      numeral = c.in-Ok.ensures.value.0.0.0;
      value = c.in-Ok.ensures.value.0.1;
      is_enough = omega arith;
      is_within = omega arith;
    })

pub returns-in-Err-clause-chosen : goal.returns-in-Err-clause-chosen
returns-in-Err-clause-chosen c =
    unread _ (λ (number : ℕ) (decimal : IsDecimal c.args.least c.args.most c.args.text.now number).
    let value = decimal.value in
    let within = decimal.is_within in
    c.in-Err.ensures.value.0 (decimal.numeral, omega arith))
