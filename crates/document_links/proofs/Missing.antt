-- A walk tells only of a URL that something is missing at where the document leads to it.
use Rattle.std.proofs.Common.{◌≡◌, ℕ, zero, suc, ◌+◌, ◌-◌, ◌≤◌, List, [], ◌∷◌, ◌++◌, Bool, true, false, Option, Some, None, Ok, Err, refl, sym, ap, ◌∙◌, codes, bytes_eq, arith, ◌⊎◌, inl, inr, MatchOption}
use Rattle.std.specs.Prelude.{if◌then◌else◌, ◌||◌, Result}
use Rattle.std.specs.Cmp.Lexicographic.{bytes_decides}
use Rattle.std.specs.Option.{option_map_or}
use Rattle.std.proofs.lemmas.Bool.{true≢false}
use Rattle.std.proofs.lemmas.List.Folds.{list_any-append}
use Rattle.std.proofs.lemmas.Option.{none-some, same_Some}
use Rattle.plain_data.specs.ByName.{value_at}
use Rattle.serde_json.specs.Data.{Data}
use Rattle.serde_json.specs.Find.{as_str, get}
use Rattle.document_table.specs.Entries.{entries}
use Rattle.document_table.specs.Faults.{here}
use Rattle.document_table.specs.Packed.{Placed, item_named, root_of}
use Rattle.document_table.specs.Texts.{has_hash}
use Rattle.document_table.specs.declared.fault.Cause.TheVariants.{WrongForm}
use Rattle.document_table.specs.declared.fault.DocumentFault.{DocumentFault}
use Rattle.document_table.specs.declared.form.Kind.TheVariants as kind
use Rattle.cwl_process.specs.Documents.{item_fault}
use Rattle.cwl_process.specs.Processes.{is_workflow}
use Rattle.url.specs.Parts.{Parts}
use Rattle.document_links.specs.Bounds.{at_target, left, run_left, step_left, steps_left, tool_left, workflow_left}
use Rattle.document_links.specs.Defaults.{defaults_fault}
use Rattle.document_links.specs.Documents.{IsRefused, bounded, told_left}
use Rattle.document_links.specs.Homes.{Home, home}
use Rattle.document_links.specs.Library.{Documents, Finds, Found, IsReadAs}
use Rattle.document_links.specs.LeadsTo.{Lacks, LeadsTo, Names}
use Rattle.document_links.specs.Names.{added, document_urls, is_in, item_urls, name_url, named_urls, run_urls, step_urls, steps_urls, urls_in, workflow_urls}
use Rattle.document_links.specs.Targets.{document_at, found_as, found_at, item_at, item_or, target}
use Rattle.document_links.specs.Urls.{joined, url_text}
use Rattle.document_links.specs.Walks.{Left, checked, elsewhere, then_left, within}
use Rattle.document_links.specs.declared.bounds.TheConstants.{MOST_PROCESSES, MOST_WORKFLOWS}
use Rattle.document_links.specs.declared.fault.LinkError.TheVariants.{Refused}
use Rattle.document_links.specs.declared.fault.LinkFault.{LinkFault}
use Rattle.document_links.specs.declared.fault.LinkFault.TheVariants.{Document, NoItem, NotLoaded, TooDeep, TooMany}
use Rattle.document_links.specs.declared.walk.WalkFault.TheVariants.{Own, Other}

-- ---- the URL of which a walk says that nothing is there

abbrev missing_at : LinkFault → Option (List ℕ)
missing_at (NotLoaded url) = Some url
missing_at (NoItem name) = None
missing_at (Document url fault) = None
missing_at TooDeep = None
missing_at TooMany = None

abbrev missing : Left → Option (List ℕ)
missing (Ok n) = None
missing (Err (Own fault)) = None
missing (Err (Other fault)) = missing_at fault

missing_checked : (fault : Option DocumentFault) (x : Left) (url : List ℕ) → missing (checked fault x) ≡ Some url → missing x ≡ Some url
missing_checked None x url is = is
missing_checked (Some fault) x url is = absurd (none-some url is)

missing_within : (name : List ℕ) (x : Left) (url : List ℕ) → missing (within name x) ≡ Some url → missing x ≡ Some url
missing_within name (Ok n) url is = is
missing_within name (Err (Own fault)) url is = is
missing_within name (Err (Other fault)) url is = is

missing_elsewhere : (at : Parts) (index : Option ℕ) (x : Left) (url : List ℕ) → missing (elsewhere at index x) ≡ Some url → missing x ≡ Some url
missing_elsewhere at index (Ok n) url is = is
missing_elsewhere at index (Err (Own fault)) url is = is
missing_elsewhere at index (Err (Other fault)) url is = is

missing_then : (x : Left) (next : ℕ → Left) (url : List ℕ) → missing (then_left x next) ≡ Some url → (missing x ≡ Some url) ⊎ ((k : ℕ) × (missing (next k) ≡ Some url))
missing_then (Ok k) next url is = inr (k, is)
missing_then (Err fault) next url is = inl is

-- ---- more names

abbrev Within : List (List ℕ) → List (List ℕ) → Type 0
Within names more = (url : List ℕ) → is_in url names ≡ true → is_in url more ≡ true

one_of : (x y : Bool) → (x || y) ≡ true → (x ≡ true) ⊎ (y ≡ true)
one_of true y is = inl refl
one_of false y is = inr is

second : (x y : Bool) → y ≡ true → (x || y) ≡ true
second true y is = refl
second false y is = is

in_front : (names more : List (List ℕ)) → Within names (names ++ more)
in_front names more url is = list_any-append (bytes_eq url) names more ∙ ap (λ t. t || is_in url more) is

in_back : (names more : List (List ℕ)) → Within more (names ++ more)
in_back names more url is = list_any-append (bytes_eq url) names more ∙ second (is_in url names) (is_in url more) is

in_either : (url : List ℕ) (names more : List (List ℕ)) → is_in url (names ++ more) ≡ true → (is_in url names ≡ true) ⊎ (is_in url more ≡ true)
in_either url names more is = one_of (is_in url names) (is_in url more) (sym (list_any-append (bytes_eq url) names more) ∙ is)

one_name : (url other : List ℕ) → url ≡ other → is_in url (other ∷ []) ≡ true
one_name url other same = ap (λ t. t || false) ((bytes_decides url other).1 same)

-- each of them once
grown : (url : List ℕ) (found : List (List ℕ)) (new : List ℕ) (test : Bool) → is_in url found ≡ true → is_in url (if test then found else found ++ new ∷ []) ≡ true
grown url found new true is = is
grown url found new false is = in_front found (new ∷ []) url is

kept_in : (url : List ℕ) (found urls : List (List ℕ)) → is_in url found ≡ true → is_in url (added found urls) ≡ true
kept_in url found [] is = is
kept_in url found (x ∷ xs) is = kept_in url (if is_in x found then found else found ++ x ∷ []) xs (grown url found x (is_in x found) is)

itself_in : (url : List ℕ) (found : List (List ℕ)) (new : List ℕ) (test : Bool) → is_in new found ≡ test → url ≡ new → is_in url (if test then found else found ++ new ∷ []) ≡ true
itself_in url found new true is same = ap (λ u. is_in u found) same ∙ is
itself_in url found new false is same = in_back found (new ∷ []) url (one_name url new same)

one_alone : (x : Bool) → (x || false) ≡ true → x ≡ true
one_alone true is = refl
one_alone false is = is

-- one of the first two lists, where each of them is within the third
one_part : (url : List ℕ) (first later made : List (List ℕ)) → (is_in url first ≡ true → is_in url made ≡ true) → (is_in url later ≡ true → is_in url made ≡ true)
    → is_in url (first ++ later) ≡ true → is_in url made ≡ true
one_part url first later made from_first from_later is = by_part (in_either url first later is)
  where
    by_part : (is_in url first ≡ true) ⊎ (is_in url later ≡ true) → is_in url made ≡ true
    by_part (inl own) = from_first own
    by_part (inr own) = from_later own

given_in : (url : List ℕ) (found urls : List (List ℕ)) → is_in url urls ≡ true → is_in url (added found urls) ≡ true
given_in url found [] is = absurd (true≢false (sym is))
given_in url found (x ∷ xs) is =
    let next = if is_in x found then found else found ++ x ∷ [] in
    one_part url (x ∷ []) xs (added next xs)
    (λ own. kept_in url next xs (itself_in url found x (is_in x found) refl ((bytes_decides url x).0 (one_alone (bytes_eq url x) own))))
    (given_in url next xs)
    is

-- ---- one more level has no fewer names

abbrev AllWithin : (Data → List (List ℕ)) → (Data → List (List ℕ)) → Type 0
AllWithin f g = (d : Data) → Within (f d) (g d)

item_within : (f g : Data → List (List ℕ)) (o : Option Placed) → AllWithin f g → Within (item_urls f o) (item_urls g o)
item_within f g None all url is = is
item_within f g (Some p) all url is = all p.process url is

named_within : (f g : Data → List (List ℕ)) (h : Home) (name : List ℕ) (test : Bool) → AllWithin f g
    → Within (if test then item_urls f (item_named name h.document) else name_url h.url name) (if test then item_urls g (item_named name h.document) else name_url h.url name)
named_within f g h name true all url is = item_within f g (item_named name h.document) all url is
named_within f g h name false all url is = is

run_within : (f g : Data → List (List ℕ)) (h : Home) (run : Data) (o : Option (List ℕ)) → AllWithin f g
    → Within (option_map_or (named_urls f h) o (f run)) (option_map_or (named_urls g h) o (g run))
run_within f g h run None all url is = all run url is
run_within f g h run (Some name) all url is = named_within f g h name (has_hash name) all url is

step_within : (f g : Data → List (List ℕ)) (h : Home) (o : Option Data) → AllWithin f g → Within (option_map_or (run_urls f h) o []) (option_map_or (run_urls g h) o [])
step_within f g h None all url is = is
step_within f g h (Some run) all url is = run_within f g h run (as_str run) all url is

steps_within : (f g : Data → List (List ℕ)) (h : Home) (es : List (List ℕ × Data)) → AllWithin f g → Within (steps_urls f h es) (steps_urls g h es)
steps_within f g h [] all url is = is
steps_within f g h (e ∷ es) all url is =
    one_part url (step_urls f h e.1) (steps_urls f h es) (steps_urls g h (e ∷ es))
    (λ own. in_front (step_urls g h e.1) (steps_urls g h es) url (step_within f g h (get (codes "run") e.1) all url own))
    (λ own. in_back (step_urls g h e.1) (steps_urls g h es) url (steps_within f g h es all url own))
    is

workflow_within : (f g : Data → List (List ℕ)) (h : Home) (o : Option Data) → AllWithin f g
    → Within (option_map_or (λ v. steps_urls f h (entries kind.Step v)) o []) (option_map_or (λ v. steps_urls g h (entries kind.Step v)) o [])
workflow_within f g h None all url is = is
workflow_within f g h (Some v) all url is = steps_within f g h (entries kind.Step v) all url is

level_within : (f g : Data → List (List ℕ)) (h : Home) (d : Data) (test : Bool) → AllWithin f g
    → Within (if test then workflow_urls f h d else []) (if test then workflow_urls g h d else [])
level_within f g h d true all url is = workflow_within f g h (get (codes "steps") d) all url is
level_within f g h d false all url is = is

one_level : (levels : ℕ) (h : Home) → AllWithin (urls_in levels h) (urls_in (suc levels) h)
unfolding urls_in
one_level zero h d url is = absurd (true≢false (sym is))
one_level (suc levels) h d url is = level_within (urls_in levels h) (urls_in (suc levels) h) h d (is_workflow d) (one_level levels h) url is

levels_within : (gap levels most : ℕ) (h : Home) (d : Data) → most ≡ gap + levels → Within (urls_in levels h d) (urls_in most h d)
levels_within zero levels most h d is url in_it = ap (λ n. is_in url (urls_in n h d)) (omega (arith, is)) ∙ in_it
levels_within (suc gap) levels most h d is url in_it = levels_within gap (suc levels) most h d (omega (arith, is)) url (one_level levels h d url in_it)

all_named : (levels : ℕ) (base : Parts) (d : Data) (url : List ℕ) → levels ≤ MOST_WORKFLOWS → is_in url (urls_in levels (home base d) (root_of d).process) ≡ true → Names base d url
all_named levels base d url most is =
    given_in url [] (document_urls base d) (levels_within (MOST_WORKFLOWS - levels) levels MOST_WORKFLOWS (home base d) (root_of d).process (omega (arith, most)) url is)

-- ---- what is missing, where those are the names

abbrev Reaches : Finds → List (List ℕ) → List ℕ → Type 0
Reaches find names url =
    (is_in url names ≡ true) ⊎ ((other : Parts) × (its : Data) × (is_in (url_text other) names ≡ true) × (find (url_text other) ≡ Some (Ok its)) × LeadsTo find other its url)

abbrev Missed : Finds → List (List ℕ) → List ℕ → Type 0
Missed find names url = (find url ≡ None) × Reaches find names url

reaches_more : (find : Finds) (names more : List (List ℕ)) (url : List ℕ) → Within names more → Reaches find names url → Reaches find more url
reaches_more find names more url up (inl is) = inl (up url is)
reaches_more find names more url up (inr there) = inr (there.0, there.1, up (url_text there.0) there.2, there.3, there.4)

missed_more : (find : Finds) (names more : List (List ℕ)) (url : List ℕ) → Within names more → Missed find names url → Missed find more url
missed_more find names more url up missed = (missed.0, reaches_more find names more url up missed.1)

leads : (find : Finds) (base : Parts) (d : Data) (names : List (List ℕ)) (url : List ℕ) → ((u : List ℕ) → is_in u names ≡ true → Names base d u) → Reaches find names url → LeadsTo find base d url
leads find base d names url up (inl is) = LeadsTo.itself base d url (up url is)
leads find base d names url up (inr there) = LeadsTo.through base d there.0 there.1 url (up (url_text there.0) there.2) there.3 there.4

-- ---- one level

-- `inner` tells only of what is missed where those are the names
abbrev Tells : Finds → (ℕ → Home → Data → Left) → (Home → Data → List (List ℕ)) → Type 0
Tells find inner urls = (room : ℕ) (h : Home) (d : Data) (url : List ℕ) → missing (inner room h d) ≡ Some url → Missed find (urls h d) url

-- those of what a document stands for are names of the document
abbrev AreNamed : (Home → Data → List (List ℕ)) → Type 0
AreNamed urls = (at : Parts) (d : Data) (url : List ℕ) → is_in url (urls (home at d) (root_of d).process) ≡ true → Names at d url

at_found : (find : Finds) (inner : ℕ → Home → Data → Left) (urls : Home → Data → List (List ℕ)) (room : ℕ) (at : Parts) (found : Option Found) (url : List ℕ)
    → Tells find inner urls → AreNamed urls → find (url_text at) ≡ found
    → missing (at_target (option_map_or (found_as at) found (Err (Other (NotLoaded (url_text at))))) (inner room)) ≡ Some url → Missed find (url_text at ∷ []) url
at_found find inner urls room at None url tells named is lost =
    let same = same_Some (url_text at) url lost in
    (ap find (sym same) ∙ is, inl (one_name url (url_text at) (sym same)))
at_found find inner urls room at (Some (Err fault)) url tells named is lost = absurd (none-some url lost)
at_found find inner urls room at (Some (Ok d)) url tells named is lost =
    let root = (root_of d).process in
    let missed = tells room (home at d) root url (missing_elsewhere at (root_of d).index (inner room (home at d) root) url lost) in
    (missed.0, inr (at, d, one_name (url_text at) (url_text at) refl, is, leads find at d (urls (home at d) root) url (named at d) missed.1))

at_joined : (find : Finds) (inner : ℕ → Home → Data → Left) (urls : Home → Data → List (List ℕ)) (room : ℕ) (o : Option Parts) (url : List ℕ)
    → Tells find inner urls → AreNamed urls → missing (at_target (option_map_or (found_at find) o (Err (Own (here WrongForm)))) (inner room)) ≡ Some url
    → Missed find (option_map_or (λ at. url_text at ∷ []) o []) url
at_joined find inner urls room None url tells named lost = absurd (none-some url lost)
at_joined find inner urls room (Some at) url tells named lost = at_found find inner urls room at (find (url_text at)) url tells named refl lost

at_sound : (find : Finds) (inner : ℕ → Home → Data → Left) (urls : Home → Data → List (List ℕ)) (room : ℕ) (h : Home) (p : Placed) (fault : Option DocumentFault) (url : List ℕ)
    → Tells find inner urls → missing (at_target (item_or h p fault) (inner room)) ≡ Some url → Missed find (urls h p.process) url
at_sound find inner urls room h p None url tells lost = tells room h p.process url (missing_elsewhere h.url p.index (inner room h p.process) url lost)
at_sound find inner urls room h p (Some fault) url tells lost = absurd (none-some url lost)

at_item : (find : Finds) (inner : ℕ → Home → Data → Left) (urls : Home → Data → List (List ℕ)) (room : ℕ) (h : Home) (name : List ℕ) (o : Option Placed) (url : List ℕ)
    → Tells find inner urls → missing (at_target (item_at h name o) (inner room)) ≡ Some url → Missed find (item_urls (urls h) o) url
at_item find inner urls room h name None url tells lost = absurd (none-some url lost)
at_item find inner urls room h name (Some p) url tells lost = at_sound find inner urls room h p (item_fault p) url tells lost

at_name : (find : Finds) (inner : ℕ → Home → Data → Left) (urls : Home → Data → List (List ℕ)) (room : ℕ) (h : Home) (name : List ℕ) (test : Bool) (url : List ℕ)
    → Tells find inner urls → AreNamed urls
    → missing (at_target (if test then item_at h name (item_named name h.document) else document_at find h.url name) (inner room)) ≡ Some url
    → Missed find (if test then item_urls (urls h) (item_named name h.document) else name_url h.url name) url
at_name find inner urls room h name true url tells named lost = at_item find inner urls room h name (item_named name h.document) url tells lost
at_name find inner urls room h name false url tells named lost = at_joined find inner urls room (joined h.url name) url tells named lost

at_run : (find : Finds) (inner : ℕ → Home → Data → Left) (urls : Home → Data → List (List ℕ)) (room : ℕ) (h : Home) (run : Data) (o : Option (List ℕ)) (url : List ℕ)
    → Tells find inner urls → AreNamed urls → missing (option_map_or (λ name. at_target (target find h name) (inner room)) o (inner room h run)) ≡ Some url
    → Missed find (option_map_or (named_urls (urls h) h) o (urls h run)) url
unfolding target
at_run find inner urls room h run None url tells named lost = tells room h run url lost
at_run find inner urls room h run (Some name) url tells named lost = at_name find inner urls room h name (has_hash name) url tells named lost

at_step : (find : Finds) (inner : ℕ → Home → Data → Left) (urls : Home → Data → List (List ℕ)) (room : ℕ) (h : Home) (o : Option Data) (url : List ℕ)
    → Tells find inner urls → AreNamed urls → missing (option_map_or (run_left inner (target find) room h) o (Ok room)) ≡ Some url → Missed find (option_map_or (run_urls (urls h) h) o []) url
at_step find inner urls room h None url tells named lost = absurd (none-some url lost)
at_step find inner urls room h (Some run) url tells named lost = at_run find inner urls room h run (as_str run) url tells named lost

either : {A B : Type 0} (C : Type 0) → A ⊎ B → (A → C) → (B → C) → C
either C (inl a) f g = f a
either C (inr b) f g = g b

at_steps : (find : Finds) (inner : ℕ → Home → Data → Left) (urls : Home → Data → List (List ℕ)) (room : ℕ) (h : Home) (es : List (List ℕ × Data)) (url : List ℕ)
    → Tells find inner urls → AreNamed urls → missing (steps_left inner (target find) room h es) ≡ Some url → Missed find (steps_urls (urls h) h es) url
at_steps find inner urls room h [] url tells named lost = absurd (none-some url lost)
at_steps find inner urls room h (e ∷ es) url tells named lost =
    let first = step_urls (urls h) h e.1 in
    let later = steps_urls (urls h) h es in
    either (Missed find (first ++ later) url) (missing_then _ _ url lost)
    (λ own.
    missed_more find first (first ++ later) url (in_front first later)
    (at_step find inner urls room h (get (codes "run") e.1) url tells named
    (missing_within (codes "run") _ url (missing_checked _ _ url (missing_within e.0 (step_left inner (target find) room h e.1) url own)))))
    (λ more. missed_more find later (first ++ later) url (in_back first later) (at_steps find inner urls more.0 h es url tells named more.1))

at_field : (find : Finds) (inner : ℕ → Home → Data → Left) (urls : Home → Data → List (List ℕ)) (room : ℕ) (h : Home) (o : Option Data) (url : List ℕ)
    → Tells find inner urls → AreNamed urls → missing (option_map_or (λ v. steps_left inner (target find) room h (entries kind.Step v)) o (Ok room)) ≡ Some url
    → Missed find (option_map_or (λ v. steps_urls (urls h) h (entries kind.Step v)) o []) url
at_field find inner urls room h None url tells named lost = absurd (none-some url lost)
at_field find inner urls room h (Some v) url tells named lost = at_steps find inner urls room h (entries kind.Step v) url tells named lost

at_level : (find : Finds) (inner : ℕ → Home → Data → Left) (urls : Home → Data → List (List ℕ)) (room : ℕ) (h : Home) (d : Data) (test : Bool) (url : List ℕ)
    → Tells find inner urls → AreNamed urls → missing (if test then workflow_left inner (target find) room h d else tool_left room h d) ≡ Some url
    → Missed find (if test then workflow_urls (urls h) h d else []) url
at_level find inner urls room h d true url tells named lost =
    at_field find inner urls room h (get (codes "steps") d) url tells named (missing_within (codes "steps") _ url (missing_checked _ _ url lost))
at_level find inner urls room h d false url tells named lost = absurd (none-some url (missing_checked (defaults_fault h.url kind.ToolInput (codes "inputs") d) (Ok room) url lost))

-- ---- all levels

at_bottom : (find : Finds) (room : ℕ) (h : Home) (d : Data) (test : Bool) (url : List ℕ) (T : Type 0) → missing (if test then Err (Other TooDeep) else tool_left room h d) ≡ Some url → T
at_bottom find room h d true url T lost = absurd (none-some url lost)
at_bottom find room h d false url T lost = absurd (none-some url (missing_checked (defaults_fault h.url kind.ToolInput (codes "inputs") d) (Ok room) url lost))

all_missed : (find : Finds) (levels room : ℕ) (h : Home) (d : Data) (url : List ℕ) → levels ≤ MOST_WORKFLOWS → missing (left (target find) levels room h d) ≡ Some url → Missed find (urls_in levels h d) url
unfolding left urls_in
all_missed find zero zero h d url most lost = absurd (none-some url lost)
all_missed find zero (suc room) h d url most lost = at_bottom find room h d (is_workflow d) url _ lost
all_missed find (suc levels) zero h d url most lost = absurd (none-some url lost)
all_missed find (suc levels) (suc room) h d url most lost =
    at_level find (left (target find) levels) (urls_in levels) room h d (is_workflow d) url
    (λ room h d url lost. all_missed find levels room h d url (omega (arith, most)) lost)
    (λ at d url is. all_named levels at d url (omega (arith, most)) is) lost

-- ---- documents

abbrev missing_told : Result ℕ LinkFault → Option (List ℕ)
missing_told (Ok n) = None
missing_told (Err fault) = missing_at fault

told_missing : (base : Parts) (index : Option ℕ) (x : Left) (url : List ℕ) → told_left base index x ≡ Err (NotLoaded url) → missing x ≡ Some url
told_missing base index (Ok n) url told = ap missing_told told
told_missing base index (Err (Own fault)) url told = ap missing_told told
told_missing base index (Err (Other fault)) url told = ap missing_told told

pub not_loaded : (find : Finds) (base : Parts) (d : Data) (url : List ℕ) → bounded find base d ≡ Err (NotLoaded url) → (find url ≡ None) × LeadsTo find base d url
not_loaded find base d url told =
    let missed = all_missed find MOST_WORKFLOWS MOST_PROCESSES (home base d) (root_of d).process url (omega arith) (told_missing base (root_of d).index _ url told) in
    (missed.0, leads find base d (document_urls base d) url (λ u is. all_named MOST_WORKFLOWS base d u (omega arith) is) missed.1)

not_there : (find : Finds) (url : List ℕ) (o : Option (List ℕ)) → MatchOption o (find url ≡ None) (λ bytes. (found : Found) × (find url ≡ Some found) × IsReadAs bytes found) → find url ≡ None → o ≡ None
not_there find url None read none = refl
not_there find url (Some bytes) read none = absurd (none-some read.0 (sym none ∙ read.1))

no_own : (base : Parts) (url : List ℕ) (fault : DocumentFault) → NotLoaded url ≡ Document (url_text base) fault → ⊥
no_own base url fault same = none-some url (sym (ap missing_at same))

pub lacks : (bytes : List ℕ) (base : Parts) (docs : Documents) (url : List ℕ) → IsRefused (Refused (NotLoaded url)) bytes base docs → Lacks bytes base docs url
lacks bytes base docs url (inl own) = absurd (no_own base url own.0 own.1)
lacks bytes base docs url (inr apart) =
    let there = apart.2 in
    let lost = not_loaded there.0 base apart.0 url there.2 in
    (apart.0, apart.1, (there.0, there.1, lost.1), not_there there.0 url (value_at url docs) (there.1 url) lost.0)
