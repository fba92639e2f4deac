-- What is wrong before anything is run ends the program.
use Rattle.std.proofs.Common.{◌≡◌, ◌≢◌, ◌≤◌, ℕ, List, length, Option, Some, None, subst, sym, Result, Ok, Err, IfOk, IfErr, OnErr}
use Rattle.std.proofs.lemmas.Result.{IfOk-weaker}
use Rattle.std.specs.declared.alloc.AllocError.{AllocError}
use Rattle.clap.specs.Words.{Text}
use Rattle.url.specs.Parts.{Parts}
use Rattle.document_links.specs.Documents.{IsRefused}
use Rattle.document_links.specs.Library.{Documents}
use Rattle.document_links.specs.declared.bounds.TheConstants.{MOST_PROCESSES}
use Rattle.document_links.specs.declared.fault.LinkError.TheVariants as link_errors
use Rattle.document_links.specs.declared.fault.LinkFault.{LinkFault}
use Rattle.document_links.specs.declared.process.Process.{Process}
use Rattle.cwl_value.specs.Texts.{ReadsAs}
use Rattle.cwl_value.specs.declared.value.Value.{Value}
use Rattle.cwl_value.specs.declared.value.Value.TheVariants as values
use Rattle.file_values.specs.Resolved.{resolved}
use Rattle.job_graph.specs.Words.{Fields}
use Rattle.program_words.specs.RunWords.{RunWish}
use Rattle.run_given.specs.Paths.{IsAt}
use Rattle.resource_hints.specs.Hints.{Asked}
use Rattle.run_given.specs.Named.{AreHinted, IsHinted, IsInputsText, IsInputsUnread, IsInputsUrl, IsNamedInputs, IsNamedProcess, IsNoInputs, IsNoProcess, IsRead, document_unread, document_wrong, inputs_unread, inputs_wrong}
use Rattle.run_given.specs.Sources.{IsAbsent, IsAccepted, IsDocumentStop, IsInputs, IsInputsStop, IsOfDocuments, bad_document, no_object, too_many}
use Rattle.run_given.specs.Stops.{IsStop, IsUnread}
use Rattle.end_words.specs.declared.exit.Exit.{Exit}
use Rattle.end_words.specs.declared.exit.Exit.TheVariants as exits
use Rattle.end_words.specs.declared.exit.Fault.TheVariants as faults
use Rattle.end_words.specs.declared.exit.Refusal.TheVariants as refusals
use Rattle.document_links.specs.declared.fault.LinkFault.TheVariants as link_faults
use Rattle.end_words.specs.declared.run_end.RunEnd.{RunEnd}
use Rattle.run_given.specs.declared.stop.Stop.{Stop}
use Rattle.run_given.specs.declared.stop.Stop.TheVariants.{Early, OutOfMemory}

pub wrong_document : (bytes : List ℕ) (base : Parts) (docs : Documents) (fault : LinkFault) (stop : Stop)
    → IsRefused (link_errors.Refused fault) bytes base docs → IsOfDocuments fault
    → stop ≡ Early (exits.Refused (refusals.Document fault)) → IsStop (IsDocumentStop bytes base docs) stop
wrong_document bytes base docs fault stop is_wrong of_documents is_it =
    subst (λ (s : Stop). IsStop (IsDocumentStop bytes base docs) s) (sym is_it) (bad_document fault is_wrong of_documents)

pub too_many_documents : (bytes : List ℕ) (base : Parts) (docs : Documents) (url : List ℕ) (stop : Stop)
    → IsAbsent bytes base docs url → MOST_PROCESSES ≤ length docs
    → stop ≡ Early (exits.Refused (refusals.Document link_faults.TooMany)) → IsStop (IsDocumentStop bytes base docs) stop
too_many_documents bytes base docs url stop is_absent are_many is_it =
    subst (λ (s : Stop). IsStop (IsDocumentStop bytes base docs) s) (sym is_it) (too_many url is_absent are_many)

-- no object among these inputs
pub not_an_object : {T : Type 0} (bytes : List ℕ) (base : Parts) (value found : Value) (answer : Result T Stop)
    → ReadsAs bytes (Ok value) → resolved base value ≡ Ok found
    → IfErr answer (λ stop. stop ≡ Early (exits.Fault faults.NoObject)) → OnErr answer ((inputs : Fields) → found ≢ values.Fields inputs)
    → IfErr answer (IsStop (IsInputsStop bytes base))
not_an_object bytes base value found (Ok x) reads there is_it is_other = is_it
not_an_object bytes base value found (Err stop) reads there is_it is_other =
    subst (λ (s : Stop). IsStop (IsInputsStop bytes base) s) (sym is_it) (no_object value found reads there is_other)

-- ---- from one stop to another

-- where each of these ends is one of those
pub stop_so : (IsOne IsOther : Exit → Type 0) → ((exit : Exit) → IsOne exit → IsOther exit) → (stop : Stop) → IsStop IsOne stop → IsStop IsOther stop
stop_so IsOne IsOther to (Early exit) is = to exit is
stop_so IsOne IsOther to OutOfMemory is = is

pub stops_so : {T : Type 0} (IsOne IsOther : Exit → Type 0) → ((exit : Exit) → IsOne exit → IsOther exit)
    → (answer : Result T Stop) → IfErr answer (IsStop IsOne) → IfErr answer (IsStop IsOther)
stops_so IsOne IsOther to (Ok x) is = is
stops_so IsOne IsOther to (Err stop) is = stop_so IsOne IsOther to stop is

-- ---- what is read of the files that are named

pub unread_document : {T : Type 0} (here : Text) (words : RunWish) (answer : Result T Stop)
    → IfErr answer (IsStop (IsUnread words.document)) → IfErr answer (IsStop (IsNoProcess here words))
unread_document here words answer is = stops_so _ _ (λ exit end. document_unread end) answer is

pub unread_inputs : {T : Type 0} (here : Text) (words : RunWish) (name : Text) (answer : Result T Stop)
    → words.inputs ≡ Some name → IfErr answer (IsStop (IsUnread name)) → IfErr answer (IsStop (IsNoInputs here words))
unread_inputs here words name answer named is =
    stops_so _ _ (λ exit end. inputs_unread (subst (λ (n : Option Text). IsInputsUnread n exit) (sym named) end)) answer is

-- the inputs' text is that of their file
pub read_inputs : {T : Type 0} (bytes_of : T → List ℕ) (given : Option Text) (name : Text) (answer : Result T Stop)
    → given ≡ Some name → IfOk answer (λ t. IsRead (bytes_of t)) → IfOk answer (λ t. IsInputsText given (bytes_of t))
read_inputs bytes_of given name answer named short =
    IfOk-weaker answer _ _ (λ t s. subst (λ (n : Option Text). IsInputsText n (bytes_of t)) (sym named) s) short

-- the process that documents give, with what their hints ask for
abbrev pub Gives : (bytes : List ℕ) (base : Parts) (launcher : Option Text) → Asked → Process → Type 0
Gives bytes base launcher hints process = (docs : Documents) × IsAccepted bytes base docs process × IsHinted launcher bytes base docs hints

pub named_process : (here : Text) (words : RunWish) (bytes : List ℕ) (base : Parts) (hints : Asked) (answer : Result Process Stop)
    → IsRead bytes → IsAt here words.document base → IfOk answer (Gives bytes base words.launcher hints)
    → IfOk answer (IsNamedProcess here words)
named_process here words bytes base hints answer short at gives =
    IfOk-weaker answer _ _ (λ process p. (bytes, base, p.0, short, at, p.1)) gives

pub hinted_process : (here : Text) (words : RunWish) (bytes : List ℕ) (base : Parts) (hints : Asked) (answer : Result Process Stop)
    → IsRead bytes → IsAt here words.document base → IfOk answer (Gives bytes base words.launcher hints)
    → IfOk answer (λ process. AreHinted here words process hints)
hinted_process here words bytes base hints answer short at gives =
    IfOk-weaker answer _ _ (λ process p. (bytes, base, p.0, short, at, p.1, p.2)) gives

pub no_named_process : {T : Type 0} (here : Text) (words : RunWish) (bytes : List ℕ) (base : Parts) (answer : Result T Stop)
    → IsRead bytes → IsAt here words.document base → IfErr answer (IsStop (λ exit. (docs : Documents) × IsDocumentStop bytes base docs exit))
    → IfErr answer (IsStop (IsNoProcess here words))
no_named_process here words bytes base answer short at is =
    stops_so _ _ (λ exit end. document_wrong bytes base end.0 short at end.1) answer is

pub named_inputs : (here : Text) (words : RunWish) (bytes : List ℕ) (base : Parts) (answer : Result Fields Stop)
    → IsInputsText words.inputs bytes → IsInputsUrl here words base → IfOk answer (IsInputs bytes base) → IfOk answer (IsNamedInputs here words)
named_inputs here words bytes base answer text at are = IfOk-weaker answer _ _ (λ inputs i. (bytes, base, text, at, i)) are

pub no_named_inputs : {T : Type 0} (here : Text) (words : RunWish) (bytes : List ℕ) (base : Parts) (answer : Result T Stop)
    → IsInputsText words.inputs bytes → IsInputsUrl here words base → IfErr answer (IsStop (IsInputsStop bytes base))
    → IfErr answer (IsStop (IsNoInputs here words))
no_named_inputs here words bytes base answer text at is = stops_so _ _ (λ exit end. inputs_wrong bytes base text at end) answer is

-- ---- how the program ends

-- the end is the stop's
pub ends_so : (IsEnd : Exit → Type 0) (stop : Stop) (answer : Result Exit AllocError)
    → IsStop IsEnd stop → IfOk answer (λ exit. stop ≡ Early exit) → IfOk answer IsEnd
ends_so IsEnd stop (Ok exit) is same = subst (λ (s : Stop). IsStop IsEnd s) same is
ends_so IsEnd stop (Err error) is same = same

-- an end like this one is of the same kind
pub ends_like : (IsEnd : Exit → Option Text → Type 0) (exit : Exit) (left : Option Text) (answer : Result RunEnd AllocError)
    → IsEnd exit left → IfOk answer (λ end. end.exit ≡ exit) → IfOk answer (λ end. end.left ≡ left)
    → IfOk answer (λ end. IsEnd end.exit end.left)
ends_like IsEnd exit left (Err error) is same kept = tt
ends_like IsEnd exit left (Ok end) is same kept =
    subst (λ (l : Option Text). IsEnd end.exit l) (sym kept) (subst (λ (e : Exit). IsEnd e left) (sym same) is)

-- the end of a run that leaves nothing is this one
pub ends_as : (IsEnd : Exit → Option Text → Type 0) (exit : Exit) (answer : Result RunEnd AllocError)
    → IsEnd exit None → IfOk answer (λ end. end.exit ≡ exit) → IfOk answer (λ end. end.left ≡ None)
    → IfOk answer (λ end. IsEnd end.exit end.left)
ends_as IsEnd exit answer = ends_like IsEnd exit None answer

-- or the stop's
pub run_ends_so : (IsEnd : Exit → Option Text → Type 0) (stop : Stop) (answer : Result RunEnd AllocError)
    → IsStop (λ exit. IsEnd exit None) stop → IfOk answer (λ end. stop ≡ Early end.exit) → IfOk answer (λ end. end.left ≡ None)
    → IfOk answer (λ end. IsEnd end.exit end.left)
run_ends_so IsEnd stop (Err error) is same gone = tt
run_ends_so IsEnd stop (Ok end) is same gone =
    subst (λ (l : Option Text). IsEnd end.exit l) (sym gone) (subst (λ (s : Stop). IsStop (λ exit. IsEnd exit None) s) same is)
