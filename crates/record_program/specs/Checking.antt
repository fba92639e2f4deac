-- Which folders of a cache's files no archive of its record has, and which archives have no folder.
use Rattle.std.specs.Prelude.{◌≡◌, ◌⊎◌, ◌<◌, ℕ, Bool, false, not, ◌&&◌, ◌||◌, ◌==◌, nat_le, is_some, if◌then◌else◌, List, [], ◌∷◌, length, map, filter, bytes_eq}
use Rattle.std.specs.List.{list_all, list_any}
use Rattle.sqlite_rules.specs.Lists.{Has}
use Rattle.plain_data.specs.ByName.{by_name, names, times, value_at}
use Rattle.job_rows.specs.declared.archive.Archive.{Archive}
use Rattle.job_record.specs.declared.fault.RecordFault.{RecordFault}
use Rattle.job_record.specs.declared.fault.RecordFault.TheVariants.{NotARecord, OutOfMemory}
use Rattle.record_program.specs.Lines.{key_sum}

-- 0 to 9 and a to f
abbrev pub is_digit : ℕ → Bool
is_digit b = (nat_le 48 b && nat_le b 57) || (nat_le 97 b && nat_le b 102)

-- a SHA-1 in lower case digits
abbrev pub is_sum : List ℕ → Bool
is_sum text = (length text == 40) && list_all is_digit text

-- the name of an archive; with a point before it, of what stores of that archive left
abbrev pub is_stored : List ℕ → Bool
is_stored [] = is_sum []
is_stored (b ∷ rest) = if b == 46 then is_sum rest else is_sum (b ∷ rest)

abbrev pub stored : List (List ℕ) → List (List ℕ)
stored found = filter is_stored found

-- the sums of the archives' keys, which name their folders
abbrev pub sums : List Archive → List (List ℕ)
sums archives = map (λ archive. key_sum archive.key) archives

abbrev pub entries : List (List ℕ) → List (List ℕ × Unit {0})
entries texts = map (λ text. (text, tt)) texts

-- the texts in the order of their bytes, each once
abbrev pub in_order : List (List ℕ) → List (List ℕ)
in_order texts = names (by_name (entries texts))

abbrev pub is_among : List (List ℕ) → List ℕ → Bool
is_among texts text = list_any (bytes_eq text) texts

-- a folder is all that is left of an archive: it is what stores of it left, and the archive's own is not there
abbrev pub is_only_left : (is_folder is_archive : List ℕ → Bool) → (name : List ℕ) → Bool
is_only_left is_folder is_archive [] = false
is_only_left is_folder is_archive (b ∷ sum) = (b == 46) && (is_archive sum && not (is_folder sum))

-- a folder may have the files of an archive
abbrev pub may_hold : (is_folder is_archive : List ℕ → Bool) → (name : List ℕ) → Bool
may_hold is_folder is_archive name = is_archive name || is_only_left is_folder is_archive name

-- the folders of these that have nothing of an archive
abbrev pub unknown : (found : List (List ℕ)) → List Archive → List (List ℕ)
unknown found archives = filter (λ name. not (may_hold (is_among (stored found)) (is_among (sums archives)) name)) (in_order (stored found))

-- the archives that have no folder
abbrev pub missing : (found : List (List ℕ)) → List Archive → List (List ℕ)
missing found archives = filter (λ sum. not (is_among (stored found) sum)) (in_order (sums archives))

-- a text is in a table of names
abbrev pub is_in : List (List ℕ × Unit {0}) → List ℕ → Bool
is_in table text = is_some (value_at text table)

-- one of the texts is there twice
abbrev pub HasTwice : List (List ℕ) → Type 0
HasTwice texts = (text : List ℕ) × (1 < times text (entries texts))

-- why texts can't be put in order
abbrev pub IsUnordered : List (List ℕ) → RecordFault → Type 0
IsUnordered texts fault = (fault ≡ OutOfMemory) ⊎ ((fault ≡ NotARecord) × HasTwice texts)

-- a name stands twice among the folders or among the archives
abbrev pub AreRepeated : (found : List (List ℕ)) → List Archive → Type 0
AreRepeated found archives = HasTwice (stored found) ⊎ HasTwice (sums archives)

-- why they can't be compared
abbrev pub Refuses : (found : List (List ℕ)) → List Archive → RecordFault → Type 0
Refuses found archives fault = (fault ≡ OutOfMemory) ⊎ ((fault ≡ NotARecord) × AreRepeated found archives)

-- A folder that is called unknown is one of those that were found, and no archive's own. If stores of an archive left it, that archive's own is there.
abbrev pub SparesArchives : Type 0
SparesArchives = (found : List (List ℕ)) (archives : List Archive) (name : List ℕ) → Has (unknown found archives) name
    → Has (stored found) name
    × ((archive : Archive) → Has archives archive → ¬ (key_sum archive.key ≡ name) × (46 ∷ key_sum archive.key ≡ name → Has (stored found) (key_sum archive.key)))
