-- How foreign text is shown: each character that moves, hides or turns others by its code, so that a line stays a line.
use Rattle.std.specs.Prelude.{ℕ, ◌+◌, ◌/◌, ◌%◌, ◌==◌, ◌||◌, ◌&&◌, Bool, nat_le, nat_lt, List, [], ◌∷◌, ◌++◌, codes, chars, encode_utf8, flat_map, if◌then◌else◌}

abbrev pub is_between : ℕ → ℕ → ℕ → Bool
is_between low high b = nat_le low b && nat_le b high

-- a character below the space, DEL, or one of U+0080 to U+009F (ISO/IEC 6429)
abbrev pub is_control : ℕ → Bool
is_control c = nat_lt c 32 || is_between 127 159 c

-- a mark, an embedding, an override or an isolate of writing directions: U+061C, U+200E, U+200F, U+202A to U+202E and U+2066 to U+2069
-- (Unicode Standard Annex 9, "Bidi_Control")
abbrev pub is_turning : ℕ → Bool
is_turning c = c == 1564 || is_between 8206 8207 c || is_between 8234 8238 c || is_between 8294 8297 c

abbrev pub is_hidden : ℕ → Bool
is_hidden c = is_control c || is_turning c

-- a hexadecimal digit
abbrev pub digit : ℕ → ℕ
digit d = if nat_lt d 10 then 48 + d else 87 + d

-- a backslash, `u` and four hexadecimal digits (RFC 8259, section 7)
abbrev pub code_text : ℕ → List ℕ
code_text c = codes "\\u" ++ digit (c / 4096 % 16) ∷ digit (c / 256 % 16) ∷ digit (c / 16 % 16) ∷ digit (c % 16) ∷ []

abbrev pub shown_char : ℕ → List ℕ
shown_char c = if is_hidden c then code_text c else encode_utf8 c

-- a text as it is shown
unfoldable pub visible : List ℕ → List ℕ
visible text = flat_map shown_char (chars text)
