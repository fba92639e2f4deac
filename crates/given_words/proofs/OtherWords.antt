-- A search of the program's table is one of the specification's.
use Rattle.std.proofs.Common.{◌≡◌, ◌∙◌, ℕ, Bool, Bor, List, Option, Some, None, option_map, ap, bytes_eq, find, map, refl}
use Rattle.std.specs.List.{list_any}
use Rattle.given_words.specs.declared.other_words.Other.{Other}
use Rattle.given_words.specs.Others.{Entry, entries, entry_of, answer_to}
use Rattle.given_words.proofs.Lists.{find_of}

abbrev has : List ℕ → Entry → Bool
has option e = list_any (bytes_eq option) e.options

told : (found : Option (Bor Other)) → option_map (λ (other : Bor Other). other.now.answer.now) found ≡ option_map (λ (e : Entry). e.answer) (option_map entry_of (option_map (λ (other : Bor Other). other.now) found))
told None = refl
told (Some other) = refl

pub answered : (option : List ℕ) (others : List Other) (found : Option (Bor Other)) → map entry_of others ≡ entries → option_map (λ (other : Bor Other). other.now) found ≡ find (λ other. list_any (bytes_eq option) (map (λ (name : Bor (List ℕ)). name.now) other.options.now)) others → option_map (λ (other : Bor Other). other.now.answer.now) found ≡ answer_to option
answered option others found same is =
    told found
    ∙ ap (λ r. option_map (λ (e : Entry). e.answer) (option_map entry_of r)) is
    ∙ ap (option_map (λ (e : Entry). e.answer)) (find_of (has option) entry_of others)
    ∙ ap (λ es. option_map (λ (e : Entry). e.answer) (find (has option) es)) same
