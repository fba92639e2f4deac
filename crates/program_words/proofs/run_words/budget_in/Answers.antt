use Rattle.std.proofs.Common.{List, ℕ, Option, Some, None, Bor, option_map, subst, sym}
use Rattle.program_words.specs.RunWords.{IsBudget, limited, unlimited}
use Rattle.program_words.proofs.run_words.budget_in.Goals as goal

pub returns-in-None : goal.returns-in-None
returns-in-None c =
    subst (λ (given : Option (Bor (List ℕ))). IsBudget (option_map (λ s. s.now) given) None) (sym c.in-None.is) unlimited

pub returns-in-Some : goal.returns-in-Some
returns-in-Some c =
    subst (λ (given : Option (Bor (List ℕ))). IsBudget (option_map (λ s. s.now) given) (Some c.read_or.result)) (sym c.in-Some.is) (limited c.in-Some.text.now c.read_or.result c.read_or.ensures.chosen)
