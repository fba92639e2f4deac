-- What a child is started with: the words, the environment and the folder of its launch, and no other variable. A launcher's words stand
-- before those of the launch. It may be told variables that the command behind it does not see.
use Rattle.std.specs.Prelude.{◌≡◌, ◌≢◌, ℕ, Bool, true, not, List, [], ◌∷◌, ◌++◌, Option, Some, None, codes, fold, filter, flat_map, bytes_eq, if◌then◌else◌}
use Rattle.std.specs.List.{list_any}
use Rattle.std.specs.Process.{SameDir, SameEnv, SameProgramAndArgs, clears_env, command_args, command_dir, command_program, command_var}
use Rattle.std.specs.declared.process.command.Command.{Command}
use Rattle.command_line.specs.declared.launch.Launch.{Launch}
use Rattle.command_line.specs.declared.launch.Variable.{Variable}

-- what stands under a name where these variables are set, in order, behind what stood there
abbrev pub text_behind : Option (Option (List ℕ)) → List ℕ → List Variable → Option (Option (List ℕ))
text_behind said name env = fold (λ said variable. if bytes_eq variable.name name then Some (Some variable.text) else said) said env

-- what the environment has under a name: the text of the last variable of that name
abbrev pub text_under : List ℕ → List Variable → Option (Option (List ℕ))
text_under name env = text_behind None name env

-- whether an environment has a variable of this name
abbrev pub sets : List Variable → List ℕ → Bool
sets env name = list_any (λ own. bytes_eq own.name name) env

-- what is left of an advice: the variables that the environment of the launch does not have
abbrev pub left_of : List Variable → List Variable → List Variable
left_of advice env = filter (λ variable. not (sets env variable.name)) advice

-- what a launcher is told; without a launcher, which has one word at least, nothing is told
abbrev pub told : List (List ℕ) → List Variable → List Variable → List Variable
told [] advice env = []
told (program ∷ args) advice env = left_of advice env

-- the words that start a command without these variables (`env -u NAME`, as GNU and BSD have it)
abbrev pub hiding : List Variable → List (List ℕ)
hiding [] = []
hiding variables = codes "env" ∷ flat_map (λ variable. codes "-u" ∷ variable.name ∷ []) variables

pub record IsOf {A : Type 0} (launcher : List (List ℕ)) (advice : List Variable) (launch : Launch) (command : Command A) : Type 0 where
  -- the program, and then its arguments: the launcher's words, where there is one, those that hide what it is told, and then those of the
  -- launch, of which there is one at least
  pub words : launcher ++ hiding (told launcher advice launch.env) ++ launch.words ≡ command_program command ∷ command_args command
  pub has_some : launch.words ≢ []
  -- the runner's own variables are left out
  pub alone : clears_env command ≡ true
  pub env : (name : List ℕ) → command_var command name ≡ text_under name (told launcher advice launch.env ++ launch.env)
  pub dir : command_dir command ≡ Some launch.dir

-- the same words, environment and folder
abbrev pub Keeps : {A : Type 0} → Command A → Command A → Type 0
Keeps old new = SameProgramAndArgs old new × SameEnv old new × SameDir old new
