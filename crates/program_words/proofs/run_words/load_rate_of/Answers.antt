use Rattle.std.proofs.Common.{List, ℕ, Option, Bor, option_map, subst, sym}
use Rattle.program_words.specs.RunWords.{IsChosen, absent}
use Rattle.program_words.proofs.run_words.load_rate_of.Goals as goal

pub returns-in-None-clause-chosen : goal.returns-in-None-clause-chosen
returns-in-None-clause-chosen c =
    subst (λ (given : Option (Bor (List ℕ))). IsChosen 1 1000000000000 100000 (option_map (λ s. s.now) given) 100000) (sym c.in-None.is) absent
