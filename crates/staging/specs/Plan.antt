-- The plan of a copy: what goes from where to where, and the values at their new paths (CWL v1.2, Command Line Tool, "Runtime
-- environment" and "File": input files stand under their basenames, each beside its secondary files).
use Rattle.std.specs.Prelude.{◌≡◌, ◌≢◌, ℕ, Bool, ◌==◌, if◌then◌else◌, List, [], ◌∷◌, ◌++◌, map, decimal, Contains}
use Rattle.cwl_value.specs.declared.value.Value.{Value}
use Rattle.staging.specs.declared.group.Member.{Member}
use Rattle.staging.specs.declared.group.Placed.{Placed}
use Rattle.staging.specs.declared.plan.Move.{Move}
use Rattle.staging.specs.declared.plan.StagePlan.{StagePlan}
use Rattle.staging.specs.Groups.{path_in, groups_of_fields, fields_moved}
use Rattle.staging.specs.Placing.{ArePlaced}

-- `DIR/0`, `DIR/1`, ..; or, where folder 0 holds the others, `DIR`, `DIR/_1`, `DIR/_2`, ..
abbrev pub folder_path : Bool → List ℕ → ℕ → List ℕ
folder_path holds_others dir k =
    (if holds_others then (if k == 0 then dir else path_in dir (95 ∷ decimal k)) else path_in dir (decimal k))

-- a file is copied into a folder under its name
abbrev pub move_to : List ℕ → Member → Move
move_to folder m = record { source = m.source; target = path_in folder m.name }

-- The copies of placed groups, in their order: each group once, however often it is named.
pub data AreMoves (path : ℕ → List ℕ) : List Placed → List Move → Type 0 where
  none : AreMoves path [] []
  first : (placed : List Placed) (moves : List Move) (p : Placed) → AreMoves path placed moves → ((q : Placed) → Contains placed q → q.members ≢ p.members)
      → AreMoves path (placed ++ p ∷ []) (moves ++ map (move_to (path p.folder)) p.members)
  again : (placed : List Placed) (moves : List Move) (p q : Placed) → AreMoves path placed moves → Contains placed q → q.members ≡ p.members
      → AreMoves path (placed ++ p ∷ []) moves

-- The groups of the values are placed, and each is copied to its folder; the values are the same at their new paths.
pub record IsPlan (holds_others : Bool) (dir : List ℕ) (values : List (List ℕ × Value)) (plan : StagePlan) : Type 0 where
  pub placed : List Placed
  pub are_placed : ArePlaced holds_others (groups_of_fields values) placed
  pub are_moves : AreMoves (folder_path holds_others dir) placed plan.moves
  pub number : List Member → ℕ
  pub numbers : (p : Placed) → Contains placed p → number p.members ≡ p.folder
  pub value : plan.value ≡ fields_moved (λ group. folder_path holds_others dir (number group)) values
