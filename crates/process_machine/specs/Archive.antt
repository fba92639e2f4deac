-- Where a job's files are archived and fetched to, and which names lead below a folder.
use Rattle.std.specs.Prelude.{ℕ, Bool, not, ◌||◌, List, [], ◌++◌, bytes_eq, codes}
use Rattle.std.specs.Fmt.{decimal}
use Rattle.std.specs.List.{list_all}
use Rattle.file_values.specs.Laws.{components}
use Rattle.hex.specs.Hex.{encode_lower}
use Rattle.sha1.specs.Sha1.{sha1}

-- the SHA-1 of a key in lower case digits, which is the name of its folder in the archive
abbrev pub key_sum : List ℕ → List ℕ
key_sum key = encode_lower (sha1 key)

abbrev pub key_folder : List ℕ → List ℕ → List ℕ
key_folder archive key = archive ++ codes "/" ++ key_sum key

-- beside the folders of keys, none of whose names begins with a period: for what is stored under this key
abbrev pub stores_folder : List ℕ → List ℕ → List ℕ
stores_folder archive key = archive ++ codes "/." ++ key_sum key

-- and in it for what is stored from this folder of a job
abbrev pub beside_folder : List ℕ → List ℕ → List ℕ → List ℕ
beside_folder archive key folder = stores_folder archive key ++ codes "/" ++ key_sum folder

-- where the n-th job's files are fetched to, in the folder `out` there
abbrev pub fetch_folder : List ℕ → ℕ → List ℕ
fetch_folder work n = work ++ codes "/f" ++ decimal n

-- the name of an entry of a folder: it is not empty, and neither `.` nor `..`
abbrev pub is_entry_name : List ℕ → Bool
is_entry_name name = not (bytes_eq name [] || bytes_eq name (codes ".") || bytes_eq name (codes ".."))

-- whether a name leads to what is below a folder: each part of it between slashes is the name of an entry, so it does not begin
-- with a slash
abbrev pub leads_below : List ℕ → Bool
leads_below name = list_all is_entry_name (components name)
