use Rattle.std.proofs.Common.{◌≡◌, ℕ, List, true, Option, Some, None, sym, ap, ◌∙◌}
use Rattle.std.specs.Prelude.{is_some}
use Rattle.std.proofs.lemmas.Bool.{true≢false}
use Rattle.cwl_process.specs.Acting.{nearer}
use Rattle.cwl_process.specs.declared.tool.Variable.{Variable}
use Rattle.cwl_process.proofs.laws.the_nearest_requirement_counts.Goals as goal

abbrev Variables : Type 0
Variables = List (List ℕ × Variable)

first : (x : Variables) (own around hints : Option Variables) → own ≡ Some x → nearer (nearer own around) hints ≡ Some x
first x own around hints is = ap (λ o. nearer (nearer o around) hints) is

second : (own around hints : Option Variables) → own ≡ None → is_some around ≡ true → nearer (nearer own around) hints ≡ around
second own None hints none there = absurd (true≢false (sym there))
second own (Some x) hints none there = ap (λ o. nearer (nearer o (Some x)) hints) none

last : (own around hints : Option Variables) → own ≡ None → around ≡ None → nearer (nearer own around) hints ≡ hints
last own around hints none without = ap (λ o. nearer (nearer o around) hints) none ∙ ap (λ o. nearer o hints) without

pub returns : goal.returns
returns c = record {
  own = λ around d variables is. first variables _ around.requirements.environment _ is;
  inherited = λ around d none there. second _ around.requirements.environment _ none there;
  hints = λ around d none without. last _ around.requirements.environment _ none without;
}
