-- What bytes that are no JSON look like (RFC 8259, sections 2 and 8.1: blanks, braces and brackets, the byte order mark).
use Rattle.std.specs.Prelude.{ℕ, Bool, not, ◌||◌, ◌==◌, List, [], ◌∷◌, Option, Some, None, codes, find, nat_eq, if◌then◌else◌}
use Rattle.std.specs.List.{list_any, starts_with}
use Rattle.run_facts.specs.declared.looks.Look.{Look}
use Rattle.run_facts.specs.declared.looks.Look.TheVariants.{Blank, Marked, Script, Braced, Yaml, Other}

-- a space, a tab, a line feed or a carriage return
abbrev pub is_blank : ℕ → Bool
is_blank b = b == 32 || b == 9 || b == 10 || b == 13

-- the first byte that is no blank
abbrev pub first_mark : List ℕ → Option ℕ
first_mark bytes = find (λ b. not (is_blank b)) bytes

-- a brace or a bracket
abbrev pub opens : ℕ → Bool
opens b = b == 123 || b == 91

-- with a colon or without
abbrev pub look_of_words : List ℕ → Look
look_of_words bytes = if list_any (λ b. b == 58) bytes then Yaml else Other

abbrev pub look_from : Option ℕ → List ℕ → Look
look_from None bytes = Blank
look_from (Some b) bytes = if opens b then Braced else look_of_words bytes

-- the byte order mark in UTF-8
abbrev pub byte_order_mark : List ℕ
byte_order_mark = 239 ∷ 187 ∷ 191 ∷ []

abbrev pub look_of : List ℕ → Look
look_of bytes =
    if starts_with nat_eq bytes byte_order_mark then Marked
    else if starts_with nat_eq bytes (codes "#!") then Script
    else look_from (first_mark bytes) bytes
