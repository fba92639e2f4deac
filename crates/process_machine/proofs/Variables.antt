-- A command whose environment gains a variable.
use Rattle.std.proofs.Common.{◌≡◌, ◌≢◌, ◌∙◌, ℕ, Bool, true, false, cond, List, [], ◌∷◌, ◌++◌, Option, Some, None, sym, subst, refl}
use Rattle.std.specs.Prelude.{bytes_eq}
use Rattle.std.specs.Process.{command_var}
use Rattle.std.specs.declared.process.command.Command.{Command}
use Rattle.std.proofs.lemmas.List.Sums.{fold_push}
use Rattle.std.proofs.lemmas.Slice.Eq.{bytes_eq-Decides}
use Rattle.command_line.specs.declared.launch.Variable.{Variable}
use Rattle.process_machine.specs.Launched.{text_behind}

by_case : {A : Type 0} (old new : Command A) (variable : Variable) (name : List ℕ) (said : Option (Option (List ℕ))) (b : Bool)
    → bytes_eq variable.name name ≡ b
    → command_var new variable.name ≡ Some (Some variable.text)
    → ((k : List ℕ) → k ≢ variable.name → command_var new k ≡ command_var old k)
    → command_var old name ≡ said
    → command_var new name ≡ cond b (Some (Some variable.text)) said
by_case old new variable name said true same set others before =
    subst (λ (n : List ℕ). command_var new n ≡ Some (Some variable.text)) ((bytes_eq-Decides variable.name name).0 same) set
by_case old new variable name said false other set others before =
    others name (λ is. let both : bytes_eq variable.name name ≡ true = (bytes_eq-Decides variable.name name).1 (sym is) in cc) ∙ before

-- what was set behind the variables of a first command, with one more behind it
pub variable_set : {A : Type 0} (first old new : Command A) (env : List Variable) (variable : Variable)
    → command_var new variable.name ≡ Some (Some variable.text)
    → ((k : List ℕ) → k ≢ variable.name → command_var new k ≡ command_var old k)
    → ((name : List ℕ) → command_var old name ≡ text_behind (command_var first name) name env)
    → (name : List ℕ) → command_var new name ≡ text_behind (command_var first name) name (env ++ variable ∷ [])
variable_set first old new env variable set others before name =
    by_case old new variable name (text_behind (command_var first name) name env) (bytes_eq variable.name name) refl set others (before name)
    ∙ sym (fold_push _ (command_var first name) env variable)
