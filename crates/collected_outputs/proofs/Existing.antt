-- Every folder has outputs or a fault.
use Rattle.std.proofs.Common.{◌≡◌, inl, inr, Bool, true, false, true≢false, List, [], ◌∷◌, ◌++◌, append-nil, append_assoc, Option, Some, None, Result, Ok, Err, codes, refl, sym, subst, ◌∙◌}
use Rattle.std.specs.Map.{keys_of}
use Rattle.std.specs.Str.{chars}
use Rattle.plain_data.specs.ByName.{value_at, with_value}
use Rattle.cwl_process.specs.declared.tool.ToolOutput.{ToolOutput}
use Rattle.cwl_value.specs.declared.value.Value.{Value}
use Rattle.staging.specs.Glob.{is_folder}
use Rattle.staging.specs.Reading.{IsReading}
use Rattle.staging.specs.declared.fault.GlobFault.{GlobFault}
use Rattle.staging.specs.declared.item.PatternItem.{PatternItem}
use Rattle.staging.proofs.Decided.{name_told, text_read}
use Rattle.staging.proofs.Greedy.{true-or_false}
use Rattle.collected_outputs.specs.Collected.{Collected, AreGathered, IsCollected, object_entry, by_object, then_collected, readable, fault_of}
use Rattle.collected_outputs.specs.Gives.{Gives, and_then}
use Rattle.collected_outputs.specs.HeadsWanted.{AreHeadsWanted, AreWantedBy, wanted_of, object_wanted}
use Rattle.collected_outputs.specs.Listing.{Listing}
use Rattle.collected_outputs.specs.Matched.{Name, AreThose, AreOf, AreOfAll, AreMatched, without_repeats}
use Rattle.collected_outputs.specs.Object.{Named, object_of}
use Rattle.collected_outputs.specs.Outputs.{Left, has_object, globs_of, AreNames, HasValue, AreOutputs, output_value}
use Rattle.collected_outputs.specs.Patterns.{AreRead, pattern_texts, runtime as job_runtime}
use Rattle.collected_outputs.specs.declared.fault.CollectFault.{CollectFault}
use Rattle.collected_outputs.specs.declared.listing.Entry.{Entry}

-- names

those_on : (pattern : List PatternItem) (done rest those : List Name) → AreThose pattern done those → (names : List Name) × AreThose pattern (done ++ rest) names
those_on pattern done [] those h = (those, subst (λ (l : List Name). AreThose pattern l those) (sym (append-nil done)) h)
those_on pattern done (name ∷ rest) those h =
    subst (λ (l : List Name). (names : List Name) × AreThose pattern l names) (append_assoc done (name ∷ []) rest) (elim (name_told pattern true (chars name)) [
      | inl matches ↦ those_on pattern (done ++ name ∷ []) rest (those ++ name ∷ []) (AreThose.matches done those name h matches)
      | inr differs ↦ those_on pattern (done ++ name ∷ []) rest those (AreThose.differs done those name h differs)
    ])

names_of_one : (listing : Listing) (pattern : List PatternItem) → (names : List Name) × AreOf listing pattern names
names_of_one listing pattern = elim (true-or_false (is_folder pattern)) [
  | inl is ↦ (codes "." ∷ [], AreOf.folder is)
  | inr apart ↦ (let those = those_on pattern [] (keys_of listing) [] AreThose.none in (those.0, AreOf.inside those.0 apart those.1))
]

all_on : (listing : Listing) (done rest : List (List PatternItem)) (names : List Name) → AreOfAll listing done names → (all : List Name) × AreOfAll listing (done ++ rest) all
all_on listing done [] names h = (names, subst (λ (l : List (List PatternItem)). AreOfAll listing l names) (sym (append-nil done)) h)
all_on listing done (pattern ∷ rest) names h =
    let more = names_of_one listing pattern in
    subst (λ (l : List (List PatternItem)). (all : List Name) × AreOfAll listing l all) (append_assoc done (pattern ∷ []) rest)
    (all_on listing (done ++ pattern ∷ []) rest (names ++ more.0) (AreOfAll.one_more done names pattern more.0 h more.1))

some_matched : (listing : Listing) (patterns : List (List PatternItem)) → (names : List Name) × AreMatched listing patterns names
some_matched listing patterns = let all = all_on listing [] patterns [] AreOfAll.none in (without_repeats all.0, record { names = all.0; of_all = all.1; once = refl })

-- patterns

abbrev SomeRead : List Name → Type 0
SomeRead texts = (read : Result (List (List PatternItem)) GlobFault) × AreRead texts read

read_on : (done rest : List Name) (patterns : List (List PatternItem)) → AreRead done (Ok patterns) → SomeRead (done ++ rest)
read_on done [] patterns h = (Ok patterns, subst (λ (l : List Name). AreRead l (Ok patterns)) (sym (append-nil done)) h)
read_on done (text ∷ rest) patterns h = by (λ pattern is. read_on (done ++ text ∷ []) rest (patterns ++ pattern ∷ []) (AreRead.one_more done patterns text pattern h is)) (text_read (chars text)) where
  by_result : ((pattern : List PatternItem) → IsReading (chars text) (Ok pattern) → SomeRead ((done ++ text ∷ []) ++ rest)) → (r : Result (List PatternItem) GlobFault) → IsReading (chars text) r → SomeRead (done ++ text ∷ rest)
  by_result on (Ok pattern) is = subst SomeRead (append_assoc done (text ∷ []) rest) (on pattern is)
  by_result on (Err fault) is = (Err fault, AreRead.refused done rest patterns text fault h is)

  by : ((pattern : List PatternItem) → IsReading (chars text) (Ok pattern) → SomeRead ((done ++ text ∷ []) ++ rest)) → (r : Result (List PatternItem) GlobFault) × IsReading (chars text) r → SomeRead (done ++ text ∷ rest)
  by on r = by_result on r.0 r.1

abbrev SomeNames : Listing → Gives (List Name) → Type 0
SomeNames listing texts = (names : Gives (List Name)) × AreNames listing texts names

names_by_read : (listing : Listing) (texts : List Name) (r : Result (List (List PatternItem)) GlobFault) → AreRead texts r → SomeNames listing (Ok texts)
names_by_read listing texts (Err fault) h = (_, AreNames.no_pattern texts fault h)
names_by_read listing texts (Ok patterns) h = let found = some_matched listing patterns in (Ok found.0, AreNames.matched texts patterns found.0 h found.1)

some_names : (listing : Listing) (texts : Gives (List Name)) → SomeNames listing texts
some_names listing (Err fault) = (Err fault, AreNames.no_texts fault)
some_names listing (Ok texts) = let read = read_on [] texts [] AreRead.none in names_by_read listing texts read.0 read.1

-- outputs

some_value : (left : Left) (output : ToolOutput) → (given : Gives Value) × HasValue left output given
some_value left output =
    let names = some_names left.listing (pattern_texts left.inputs left.runtime (globs_of output.kind output.binding)) in
    (and_then names.0 (output_value left output), record { names = names.0; are_names = names.1; value = refl })

abbrev SomeOutputs : Left → List (Name × ToolOutput) → Type 0
SomeOutputs left outputs = (r : Result (List (Name × Value)) (Name × CollectFault)) × AreOutputs left outputs r

outputs_on : (left : Left) (done rest : List (Name × ToolOutput)) (values : List (Name × Value)) → AreOutputs left done (Ok values) → SomeOutputs left (done ++ rest)
outputs_on left done [] values h = (Ok values, subst (λ (l : List (Name × ToolOutput)). AreOutputs left l (Ok values)) (sym (append-nil done)) h)
outputs_on left done (output ∷ rest) values h = by (λ v has. outputs_on left (done ++ output ∷ []) rest (with_value output.0 v values) (AreOutputs.one_more done values output v h has)) (some_value left output.1) where
  by_value : ((v : Value) → HasValue left output.1 (Ok v) → SomeOutputs left ((done ++ output ∷ []) ++ rest)) → (given : Gives Value) → HasValue left output.1 given → SomeOutputs left (done ++ output ∷ rest)
  by_value on (Ok v) has = subst (SomeOutputs left) (append_assoc done (output ∷ []) rest) (on v has)
  by_value on (Err fault) has = (Err (output.0, fault), AreOutputs.refused done rest values output fault h has)

  by : ((v : Value) → HasValue left output.1 (Ok v) → SomeOutputs left ((done ++ output ∷ []) ++ rest)) → (given : Gives Value) × HasValue left output.1 given → SomeOutputs left (done ++ output ∷ rest)
  by on r = by_value on r.0 r.1

there_is : (listing : Listing) → has_object listing ≡ true → (e : Entry) × (object_entry listing ≡ Some e)
there_is listing is = by_entry (value_at (codes "cwl.output.json") listing) refl where
  by_kind : (e : Entry) → value_at (codes "cwl.output.json") listing ≡ Some e → (b : Bool) → e.is_dir ≡ b → (e : Entry) × (object_entry listing ≡ Some e)
  by_kind e at true folder = absurd (true≢false (sym is ∙ rw (at, folder) refl))
  by_kind e at false file = (e, rw (at, file) refl)

  by_entry : (found : Option Entry) → value_at (codes "cwl.output.json") listing ≡ found → (e : Entry) × (object_entry listing ≡ Some e)
  by_entry None at = absurd (true≢false (sym is ∙ rw at refl))
  by_entry (Some e) at = by_kind e at e.is_dir refl

abbrev SomeGathered : Left → List (Name × ToolOutput) → Type 0
SomeGathered left outputs = (gathered : Collected) × AreGathered left outputs gathered

by_outputs : (left : Left) (outputs : List (Name × ToolOutput)) → has_object left.listing ≡ false → (r : Result (List (Name × Value)) (Name × CollectFault)) → AreOutputs left outputs r → SomeGathered left outputs
by_outputs left outputs none (Ok values) h = (Ok values, AreGathered.bound values none h)
by_outputs left outputs none (Err e) h = (Err (fault_of (Some e.0) e.1), AreGathered.unbound e.0 e.1 none h)

some_gathered : (left : Left) (outputs : List (Name × ToolOutput)) → SomeGathered left outputs
some_gathered left outputs = elim (true-or_false (has_object left.listing)) [
  | inl is ↦ (let e = there_is left.listing is in (by_object left.listing outputs (object_of e.0 left.heads), AreGathered.by_file e.0 e.1))
  | inr none ↦ (let r = outputs_on left [] outputs [] AreOutputs.none in by_outputs left outputs none r.0 r.1)
]

pub some_collected : (left : Left) (outputs : List (Name × ToolOutput)) → (collected : Collected) × IsCollected left outputs collected
some_collected left outputs =
    let gathered = some_gathered left outputs in
    (then_collected gathered.0 readable, record { gathered = gathered.0; are_gathered = gathered.1; is = refl })

-- heads

abbrev SomeWanted : Listing → Named → List (Name × ToolOutput) → Type 0
SomeWanted listing inputs outputs = (wanted : Gives (List Name)) × AreWantedBy listing inputs job_runtime outputs wanted

wanted_on : (listing : Listing) (inputs : Named) (done rest : List (Name × ToolOutput)) (wanted : List Name) → AreWantedBy listing inputs job_runtime done (Ok wanted) → SomeWanted listing inputs (done ++ rest)
wanted_on listing inputs done [] wanted h = (Ok wanted, subst (λ (l : List (Name × ToolOutput)). AreWantedBy listing inputs job_runtime l (Ok wanted)) (sym (append-nil done)) h)
wanted_on listing inputs done (output ∷ rest) wanted h =
    by (λ names are. wanted_on listing inputs (done ++ output ∷ []) rest (wanted ++ wanted_of listing output.1 names) (AreWantedBy.one_more done wanted output names h are))
    (some_names listing (pattern_texts inputs job_runtime (globs_of output.1.kind output.1.binding))) where
      by_names : ((names : List Name) → AreNames listing (pattern_texts inputs job_runtime (globs_of output.1.kind output.1.binding)) (Ok names) → SomeWanted listing inputs ((done ++ output ∷ []) ++ rest)) → (names : Gives (List Name)) → AreNames listing (pattern_texts inputs job_runtime (globs_of output.1.kind output.1.binding)) names
          → SomeWanted listing inputs (done ++ output ∷ rest)
      by_names on (Ok names) are = subst (SomeWanted listing inputs) (append_assoc done (output ∷ []) rest) (on names are)
      by_names on (Err fault) are = (Err fault, AreWantedBy.refused done rest wanted output fault h are)

      by : ((names : List Name) → AreNames listing (pattern_texts inputs job_runtime (globs_of output.1.kind output.1.binding)) (Ok names) → SomeWanted listing inputs ((done ++ output ∷ []) ++ rest)) → SomeNames listing (pattern_texts inputs job_runtime (globs_of output.1.kind output.1.binding))
          → SomeWanted listing inputs (done ++ output ∷ rest)
      by on r = by_names on r.0 r.1

abbrev SomeHeads : Listing → Named → List (Name × ToolOutput) → Type 0
SomeHeads listing inputs outputs = (wanted : List Name) × AreHeadsWanted listing inputs outputs wanted

by_wanted : (listing : Listing) (inputs : Named) (outputs : List (Name × ToolOutput)) → has_object listing ≡ false → (r : Gives (List Name)) → AreWantedBy listing inputs job_runtime outputs r → SomeHeads listing inputs outputs
by_wanted listing inputs outputs none (Ok wanted) h = (without_repeats wanted, AreHeadsWanted.of_outputs wanted none h)
by_wanted listing inputs outputs none (Err fault) h = ([], AreHeadsWanted.unread fault none h)

pub some_heads : (listing : Listing) (inputs : Named) (outputs : List (Name × ToolOutput)) → SomeHeads listing inputs outputs
some_heads listing inputs outputs = elim (true-or_false (has_object listing)) [
  | inl is ↦ (let e = there_is listing is in (object_wanted e.0, AreHeadsWanted.of_object e.0 e.1))
  | inr none ↦ (let r = wanted_on listing inputs [] outputs [] AreWantedBy.none in by_wanted listing inputs outputs none r.0 r.1)
]
