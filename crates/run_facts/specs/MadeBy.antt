-- The mark of a work folder, and what it tells of the run that made it. A process is told from all others by its number, the time of its start,
-- the boot of its computer, and the space in which such numbers count (proc(5), pid_namespaces(7)).
use Rattle.std.specs.Prelude.{ℕ, zero, suc, ◌++◌, ◌∷◌, [], List, Bool, true, false, not, ◌&&◌, ◌==◌, nat_le, Option, Some, None, codes, bytes_eq, length, if◌then◌else◌}
use Rattle.std.specs.List.{list_all, list_any, before_first, after_first, after_last}
use Rattle.run_facts.specs.declared.made_by.TheConstants.{KEPT, START_AFTER_NAME}
use Rattle.run_facts.specs.declared.made_by.WorkTrouble.{WorkTrouble}
use Rattle.run_facts.specs.declared.made_by.WorkTrouble.TheVariants as trouble

abbrev pub is_space : ℕ → Bool
is_space b = b == 32

-- a word, and what is behind the space at its end
abbrev pub word : List ℕ → List ℕ
word text = before_first is_space text

abbrev pub rest : List ℕ → List ℕ
rest text = after_first is_space text

abbrev pub rest_after : ℕ → List ℕ → List ℕ
rest_after zero text = text
rest_after (suc n) text = rest_after n (rest text)

abbrev pub is_closing : ℕ → Bool
is_closing b = b == 41

-- what is behind the name of a process in its `stat`, the second word. It is in parentheses, and may itself have some in it, so the last one ends
-- it: the words behind it have none.
abbrev pub after_name : List ℕ → List ℕ
after_name stat = if list_any is_closing stat then after_last is_closing stat else []

-- the 22nd word of a process's `stat`
abbrev pub start_in : List ℕ → List ℕ
start_in stat = word (rest_after START_AFTER_NAME (after_name stat))

abbrev pub mark_of : (stat boot space : List ℕ) → List ℕ
mark_of stat boot space = word stat ++ codes " " ++ start_in stat ++ codes " " ++ boot ++ codes " " ++ space

abbrev pub is_digit : ℕ → Bool
is_digit b = nat_le 48 b && nat_le b 57

abbrev pub is_number : List ℕ → Bool
is_number text = not (length text == 0) && list_all is_digit text

abbrev pub number_in : List ℕ → Option (List ℕ)
number_in mark = if is_number (word mark) then Some (word mark) else None

abbrev pub scope_of : List ℕ → List ℕ
scope_of mark = rest (rest mark)

-- a process of this number runs, and it started then
abbrev pub still_runs : Option (List ℕ) → (start : List ℕ) → Bool
still_runs None start = false
still_runs (Some stat) start = bytes_eq (start_in stat) start

-- why a folder with this mark is there, for a process that has the mark `own`, where `stat` is told of the process of the mark's number
abbrev pub trouble_of : (mark own : List ℕ) (stat : Option (List ℕ)) → WorkTrouble
trouble_of mark own stat =
    if bytes_eq mark KEPT.now then trouble.Kept
    else if not (is_number (word mark)) then trouble.There
    else if not (bytes_eq (scope_of mark) (scope_of own)) then trouble.Elsewhere
    else if still_runs stat (word (rest mark)) then trouble.Busy
    else trouble.Left
