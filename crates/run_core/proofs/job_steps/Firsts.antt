-- The file that is read now is the last of those that are left.
use Rattle.std.proofs.Common.{◌≡◌, ◌∙◌, ℕ, List, [], ◌∷◌, ◌++◌, Some, reverse, refl, sym, ap, subst}
use Rattle.std.proofs.lemmas.List.{reverse-append, reverse-reverse}
use Rattle.collected_outputs.specs.Contents.{Heads}
use Rattle.command_line.specs.declared.launch.Launch.{Launch}
use Rattle.proc_host.specs.declared.call.HostRequest.{HostRequest}
use Rattle.staging.specs.declared.found.Found.{Found}
use Rattle.job_graph.specs.Words.{Fields, Name}
use Rattle.run_rules.specs.declared.setting.Options.{Options}
use Rattle.run_rules.specs.Events.{input_heads_due, output_heads_due}
use Rattle.run_core.specs.inner.Due.{call_for}

-- this name comes next
pub record IsFirst (left : List Name) (name : Name) : Type 0 where
  pub rest : List Name
  pub is : left ≡ rest ++ name ∷ []
  pub turned : reverse left ≡ name ∷ reverse rest

pub record HasFirst (left : List Name) : Type 0 where
  pub name : Name
  pub first : IsFirst left name

first_by : (left : List Name) (name : Name) (todo : List Name) → reverse left ≡ name ∷ todo → IsFirst left name
first_by left name todo turned = record {
  rest = reverse todo;
  is = sym (reverse-reverse left) ∙ ap reverse turned ∙ reverse-append (name ∷ []) todo;
  turned = turned ∙ ap (λ (names : List Name). name ∷ names) (sym (reverse-reverse todo));
}

-- where the first bytes of an input file are asked for, it is the file whose turn it is
input_by : (options : Options) (folder : ℕ) (staged : Fields) (read : Heads) (left todo : List Name) (path : Name) (limit : ℕ) → reverse left ≡ todo →
    call_for options folder (input_heads_due [] staged todo read) ≡ Some (HostRequest.Head path limit) → IsFirst left path
input_by options folder staged read left [] path limit turned due = absurd cc
input_by options folder staged read left (name ∷ todo) path limit turned due =
    let same : name ≡ path = cc in
    subst (IsFirst left) same (first_by left name todo turned)

pub first_input : (options : Options) (folder : ℕ) (staged : Fields) (read : Heads) (left : List Name) (path : Name) (limit : ℕ) →
    call_for options folder (input_heads_due [] staged (reverse left) read) ≡ Some (HostRequest.Head path limit) → IsFirst left path
first_input options folder staged read left path limit due = input_by options folder staged read left (reverse left) path limit refl due

-- and a file of the output folder is one of those that are left
output_by : (options : Options) (folder millis : ℕ) (found : List Found) (read : Heads) (left todo : List Name) (call : HostRequest) → reverse left ≡ todo →
    call_for options folder (output_heads_due [] millis found todo read) ≡ Some call → HasFirst left
output_by options folder millis found read left [] call turned due = absurd cc
output_by options folder millis found read left (name ∷ todo) call turned due = record { name = name; first = first_by left name todo turned }

pub first_output : (options : Options) (folder millis : ℕ) (found : List Found) (read : Heads) (left : List Name) (call : HostRequest) →
    call_for options folder (output_heads_due [] millis found (reverse left) read) ≡ Some call → HasFirst left
first_output options folder millis found read left call due = output_by options folder millis found read left (reverse left) call refl due

-- nor is a folder listed then
pub never_input : (options : Options) (folder : ℕ) (staged : Fields) (read : Heads) (todo : List Name) (its_folder : Name) →
    call_for options folder (input_heads_due [] staged todo read) ≡ Some (HostRequest.Scan its_folder) → ⊥
never_input options folder staged read [] its_folder due = cc
never_input options folder staged read (name ∷ todo) its_folder due = cc

pub never_output : (options : Options) (folder millis : ℕ) (found : List Found) (read : Heads) (todo : List Name) (its_folder : Name) →
    call_for options folder (output_heads_due [] millis found todo read) ≡ Some (HostRequest.Scan its_folder) → ⊥
never_output options folder millis found read [] its_folder due = cc
never_output options folder millis found read (name ∷ todo) its_folder due = cc

-- nor is a child started
pub input_starts_none : (options : Options) (folder : ℕ) (staged : Fields) (read : Heads) (todo : List Name) (launch : Launch) →
    call_for options folder (input_heads_due [] staged todo read) ≡ Some (HostRequest.Start launch) → ⊥
input_starts_none options folder staged read [] launch due = cc
input_starts_none options folder staged read (name ∷ todo) launch due = cc

pub output_starts_none : (options : Options) (folder millis : ℕ) (found : List Found) (read : Heads) (todo : List Name) (launch : Launch) →
    call_for options folder (output_heads_due [] millis found todo read) ≡ Some (HostRequest.Start launch) → ⊥
output_starts_none options folder millis found read [] launch due = cc
output_starts_none options folder millis found read (name ∷ todo) launch due = cc
