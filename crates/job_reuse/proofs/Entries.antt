-- The entries of a listing. `collected_outputs` doesn't hand their type on by name.
use Rattle.collected_outputs.specs.Collected.{unless_folder}

abbrev pub From : {A B : Type 0} → (A → B) → Type 0
From {A} {B} f = A

abbrev pub Entry : Type 0
Entry = From unless_folder
