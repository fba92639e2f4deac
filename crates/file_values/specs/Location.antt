-- Paths and locations (CWL v1.2, "File": location, path; RFC 8089; RFC 3986, section 2).
use Rattle.std.specs.Prelude.{◌≡◌, ◌⊎◌, true, ℕ, ◌+◌, ◌^◌, Bool, not, ◌||◌, ◌&&◌, ◌==◌, nat_le, cond, if◌then◌else◌, List, [], ◌∷◌, ◌++◌, length, slice_index, flat_map, codes, is_some, Some, Result, Ok, Err}
use Rattle.std.specs.Str.{is_utf8}
use Rattle.percent_encoding.specs.Percent.{percent_encode_byte, percent_decode}
use Rattle.url.specs.Parts.{Parts, kind_of, has_host, serialize}
use Rattle.url.specs.Parser.{Parsed, parse_url}
use Rattle.url.specs.Scheme.{is_file}
use Rattle.file_values.specs.declared.refusal.FileFault.{FileFault}
use Rattle.file_values.specs.declared.refusal.FileFault.TheVariants.{NotAFileUrl, NotUtf8}
use Rattle.file_values.specs.declared.refusal.FileError.{FileError}
use Rattle.file_values.specs.declared.refusal.FileError.TheVariants.{Refused, OutOfMemory}

-- what is found, or why not
abbrev pub Finds : Type 0 → Type 0
Finds T = Result T FileFault

abbrev pub and_map : {S T : Type 0} → (S → T) → Finds S → Finds T
and_map f (Ok x) = Ok (f x)
and_map f (Err e) = Err e

abbrev pub and_then : {S T : Type 0} → Finds S → (S → Finds T) → Finds T
and_then (Ok x) f = f x
and_then (Err e) f = Err e

-- From a path to its location.

abbrev pub is_between : ℕ → ℕ → ℕ → Bool
is_between low high b = nat_le low b && nat_le b high

-- digits, capitals, small letters, and - . _ ~ /
abbrev pub stays : ℕ → Bool
stays b = is_between 48 57 b || is_between 65 90 b || is_between 97 122 b
    || b == 45 || b == 46 || b == 95 || b == 126 || b == 47

-- each other byte as % and two digits
abbrev pub escaped : List ℕ → List ℕ
escaped path = flat_map (λ b. cond (stays b) (b ∷ []) (percent_encode_byte b)) path

abbrev pub location_of : List ℕ → List ℕ
location_of path = codes "file://" ++ escaped path

-- From a location to its path.

-- the scheme `file`, and neither host, query nor fragment (`url` reads the host `localhost` of such a URL as none)
abbrev pub names_a_file : Parts → Bool
names_a_file url = is_file (kind_of url) && not (has_host url) && not (is_some url.query) && not (is_some url.fragment)

abbrev pub text_of : List ℕ → Finds (List ℕ)
text_of bytes = if is_utf8 bytes then Ok bytes else Err NotUtf8

-- the path that a URL names
abbrev pub path_of : Parts → Finds (List ℕ)
path_of url = if names_a_file url then text_of (percent_decode url.path) else Err NotAFileUrl

abbrev pub if_parsed : Parsed Parts → Finds Parts
if_parsed (Ok url) = Ok url
if_parsed (Err e) = Err NotAFileUrl

-- the location on a base (URL Standard, section 4.4)
abbrev pub joined : Parts → List ℕ → Finds Parts
joined base location = if_parsed (parse_url (Some base) location)

-- the path that a location on a base names
abbrev pub located : Parts → List ℕ → Finds (List ℕ)
located base location = and_then (joined base location) path_of

-- the folder of the base, with a slash at its end
abbrev pub folder_of : Parts → Finds (List ℕ)
folder_of base = located base (codes ".")

-- the path begins with a slash
abbrev pub is_absolute : List ℕ → Bool
is_absolute path = slice_index path 0 == 47

-- a path as it is written, added to the base's folder unless it is absolute
abbrev pub placed : Parts → List ℕ → Finds (List ℕ)
placed base path = if is_absolute path then Ok path else and_map (λ folder. folder ++ path) (folder_of base)

-- A location may be too long for `url`, which takes no URL of 4 GB: that is F2 too, but only from 2^24 bytes on, the base's among them.
abbrev pub is_long : Parts → List ℕ → Bool
is_long base location = nat_le (2 ^ 24) (length (serialize base) + length location)

-- F2 comes where the definition says so or the text is that long, every other refusal where the definition says so; out of memory may come at any time
abbrev pub Refuses : {T : Type 0} → Finds T → Bool → FileError → Type 0
Refuses found long (Refused fault) = (found ≡ Err fault) ⊎ ((fault ≡ NotAFileUrl) × (long ≡ true))
Refuses found long OutOfMemory = Unit {0}
