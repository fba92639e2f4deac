-- What is collected of a job is settled, and such as a record keeps.
use Rattle.std.proofs.Common.{◌≡◌, Bool, IsTrue, true, false, true≢false, not, List, [], ◌∷◌, map, codes, pos, Option, Some, None, Result, Ok, Err, IfOk, option_map, refl, sym, ap, subst, ◌∙◌, Ordering, Less, Equal, Greater}
use Rattle.std.specs.Prelude.{if◌then◌else◌, nat_le, unwrap_or}
use Rattle.std.specs.Option.{IfSome, option_map_or}
use Rattle.std.specs.Ordering.{match_ordering}
use Rattle.std.specs.List.{All, AllByRecursion, AllPass}
use Rattle.std.specs.Map.{values_of}
use Rattle.std.proofs.lemmas.List.Elements.{All-nil, All-cons, All-head, All-tail}
use Rattle.std.proofs.lemmas.List.Sums.{AllPass-from_list_all}
use Rattle.std.proofs.lemmas.Map.Views.{All-values-insert_entry}
use Rattle.plain_data.specs.ByName.{IsByName, name_cmp, value_at, with_value, map_values}
use Rattle.plain_data.proofs.ByName.{order_by_name}
use Rattle.cwl_process.specs.declared.tool.OutputType.{OutputType}
use Rattle.cwl_process.specs.declared.tool.ToolOutput.{ToolOutput}
use Rattle.serde_json.specs.Data.{depth}
use Rattle.cwl_value.proofs.Induction.{Cases, induction}
use Rattle.cwl_value.proofs.JsonOf.{json_of-Fields}
use Rattle.cwl_value.specs.Reading.{greatest_depth}
use Rattle.cwl_value.specs.declared.place.Place.{Place}
use Rattle.cwl_value.specs.declared.place.Place.TheVariants.{Nowhere, Url, Path, Made}
use Rattle.cwl_value.specs.declared.value.Value.{Value, the_lemmas}
use Rattle.cwl_value.specs.declared.value.Value as value
use Rattle.cwl_value.specs.declared.value.Value.TheOpen.{FileVal-F, DirVal-F}
use Rattle.cwl_value.specs.declared.value.FileVal.{FileVal}
use Rattle.cwl_value.specs.declared.value.DirVal.{DirVal}
use Rattle.value_depth.specs.Limit.{is_object_within_limit}
use Rattle.staging.proofs.Greedy.{both_first, both_second}
use Rattle.staging.specs.declared.found.Found.{Found}
use Rattle.collected_outputs.specs.Checked.{every, is_typed, all_found, bare}
use Rattle.collected_outputs.specs.Collected.{Collected, IsCollected, AreGathered, fault_of, readable, then_collected, by_object, written_after, with_output, written_value}
use Rattle.collected_outputs.specs.Gives.{Gives, and_then}
use Rattle.collected_outputs.specs.Listing.{Listing, entry_of, is_path, listing_of}
use Rattle.collected_outputs.specs.Matched.{Name}
use Rattle.collected_outputs.specs.Object.{Named, object_of, written}
use Rattle.collected_outputs.specs.Outputs.{Left, AreOutputs, HasValue, checked, output_value, value_beside}
use Rattle.collected_outputs.specs.Readable.{has_class, is_readable}
use Rattle.collected_outputs.specs.Throughout.{FileTest, DirTest, all_places}
use Rattle.collected_outputs.specs.declared.fault.CollectFault.{CollectFault}
use Rattle.collected_outputs.specs.declared.fault.CollectFault.TheVariants.{NotTyped, NameOutside}
use Rattle.collected_outputs.proofs.Throughout.{file_pass, dir_pass, list_passes, fields_pass, file_value, dir_value, file_level, dir_level}
use Rattle.job_rows.specs.Storable.{IsKept}
use Rattle.job_reuse.specs.Form.{IsInForm, AreInForm}
use Rattle.job_reuse.specs.Left.{is_elsewhere, IsLeftBy}
use Rattle.job_reuse.proofs.Bound.{bound_good}
use Rattle.job_reuse.proofs.Folder.{ArePaths}
use Rattle.job_reuse.proofs.Good.{IsGood, AreGood, AreGoodFields, FileIs, DirIs}
use Rattle.job_reuse.proofs.Paths.{IsPath, path_of}
use Rattle.job_reuse.proofs.Settled.{IsSettled, AreSettledFields, settled}
use Rattle.job_reuse.proofs.Storable.{storable}
use Rattle.job_reuse.proofs.Written.{written_good}
use Rattle.job_reuse.proofs.Entries.{Entry}

-- ---- what was found, and what was given

abbrev HasPath : Name × Entry → Type 0
HasPath e = IsPath e.0

path_put : (o : Ordering) (name : Name) (x : Entry) (e : Name × Entry) (es : Listing) → IsPath name → ArePaths (e ∷ es) → ArePaths (with_value name x es) → ArePaths (match_ordering o ((name, x) ∷ e ∷ es) ((e.0, x) ∷ es) (e ∷ with_value name x es))
path_put Less name x e es is paths more = All-cons HasPath (name, x) (e ∷ es) is paths
path_put Equal name x e es is paths more = All-cons HasPath (e.0, x) es (All-head HasPath e es paths) (All-tail HasPath e es paths)
path_put Greater name x e es is paths more = All-cons HasPath e (with_value name x es) (All-head HasPath e es paths) more

paths_with : (name : Name) (x : Entry) (es : Listing) → IsPath name → ArePaths es → ArePaths (with_value name x es)
paths_with name x [] is paths = All-cons HasPath (name, x) [] is (All-nil HasPath)
paths_with name x (e ∷ es) is paths = path_put (name_cmp name e.0) name x e es is paths (paths_with name x es is (All-tail HasPath e es paths))

paths_found : (found : List Found) → AllPass (λ f. is_path f.name) found → ArePaths (listing_of found)
paths_found [] paths = All-nil HasPath
paths_found (f ∷ fs) paths =
    let IsListed : Found → Type 0 = λ f. IsTrue (is_path f.name) in
    paths_with f.name ((entry_of f).1) (listing_of fs) (path_of f.name (All-head IsListed f fs paths)) (paths_found fs (All-tail IsListed f fs paths))

module _ (listing : Listing) where
  file_elsewhere : (f : FileVal-F Value DirVal FileVal) (p : Place) → is_elsewhere p ≡ true → FileIs listing f p
  file_elsewhere f Nowhere is = tt
  file_elsewhere f (Url name) is = absurd (true≢false (sym is))
  file_elsewhere f (Path path) is = tt
  file_elsewhere f (Made job name) is = tt

  dir_elsewhere : (d : DirVal-F Value DirVal FileVal) (p : Place) → is_elsewhere p ≡ true → DirIs d p
  dir_elsewhere d Nowhere is = tt
  dir_elsewhere d (Url name) is = absurd (true≢false (sym is))
  dir_elsewhere d (Path path) is = tt
  dir_elsewhere d (Made job name) is = tt

  abbrev on_file : FileTest
  on_file f = is_elsewhere f.place

  abbrev on_dir : DirTest
  on_dir d = is_elsewhere d.place

  abbrev E : Value → Type 0
  E v = all_places is_elsewhere v ≡ true → IsGood listing v

  items_elsewhere : (vs : List Value) → AllByRecursion E vs → every (map (all_places is_elsewhere) vs) ≡ true → AreGood listing vs
  items_elsewhere [] each h = AreGood.no_values
  items_elsewhere (v ∷ vs) each h =
      AreGood.one_more v vs (each.0 (both_first (all_places is_elsewhere v) (every (map (all_places is_elsewhere) vs)) h))
      (items_elsewhere vs each.1 (both_second (all_places is_elsewhere v) (every (map (all_places is_elsewhere) vs)) h))

  fields_elsewhere : (es : Named) → AllByRecursion (λ (e : Name × Value). E e.1) es → every (map (λ (e : Name × Bool). e.1) (map_values (all_places is_elsewhere) es)) ≡ true → AreGoodFields listing es
  fields_elsewhere [] each h = AreGoodFields.no_fields
  fields_elsewhere (e ∷ es) each h =
      let rest : Bool = every (map (λ (e : Name × Bool). e.1) (map_values (all_places is_elsewhere) es)) in
      AreGoodFields.one_field e.0 e.1 es (each.0 (both_first (all_places is_elsewhere e.1) rest h)) (fields_elsewhere es each.1 (both_second (all_places is_elsewhere e.1) rest h))

  listed_elsewhere : (o : Option (List Value)) → IfSome o (AllByRecursion E) → option_map_or every (option_map (map (all_places is_elsewhere)) o) true ≡ true → AreGood listing (unwrap_or o [])
  listed_elsewhere None each h = AreGood.no_values
  listed_elsewhere (Some vs) each h = items_elsewhere vs each h

  elsewhere_cases : Cases E (λ f. file_pass on_file on_dir f ≡ true → IsGood listing (value.FileVal f)) (λ d. dir_pass on_file on_dir d ≡ true → IsGood listing (value.DirVal d))
  elsewhere_cases = record {
    null = λ h. IsGood.null;
    boolean = λ b h. IsGood.boolean b;
    whole = λ n h. IsGood.whole n;
    text = λ s h. IsGood.text s;
    file = λ f one h. one (sym (file_value on_file on_dir f) ∙ h);
    dir = λ d one h. one (sym (dir_value on_file on_dir d) ∙ h);
    list = λ vs each h. IsGood.list vs (items_elsewhere vs each (sym (list_passes on_file on_dir vs) ∙ h));
    fields = λ es each h. IsGood.fields es (fields_elsewhere es each (sym (fields_pass on_file on_dir es) ∙ h));
    a_file = λ f each h. (
        let here = sym (file_level on_file on_dir f) ∙ h in
        let rest : Bool = every (map (all_places is_elsewhere) f.secondary) in
        IsGood.file f (file_elsewhere f f.place (both_first (is_elsewhere f.place) rest here)) (items_elsewhere f.secondary each (both_second (is_elsewhere f.place) rest here)));
    a_dir = λ d each h. (
        let here = sym (dir_level on_file on_dir d) ∙ h in
        let rest : Bool = option_map_or every (option_map (map (all_places is_elsewhere)) d.listing) true in
        IsGood.dir d (dir_elsewhere d d.place (both_first (is_elsewhere d.place) rest here)) (listed_elsewhere d.listing each (both_second (is_elsewhere d.place) rest here)));
  }

  inputs_good : (es : Named) → All (λ v. all_places is_elsewhere v ≡ true) (values_of es) → AreGoodFields listing es
  inputs_good [] all = AreGoodFields.no_fields
  inputs_good (e ∷ es) all =
      AreGoodFields.one_field e.0 e.1 es (induction elsewhere_cases e.1 (All-head (λ (v : Value). all_places is_elsewhere v ≡ true) e.1 (values_of es) all))
      (inputs_good es (All-tail (λ (v : Value). all_places is_elsewhere v ≡ true) e.1 (values_of es) all))

-- ---- each output is settled

module _ (found : List Found) (left : Left) (is_left : IsLeftBy found left) where
  abbrev L : Listing
  L = left.listing

  order : IsByName L
  order = subst IsByName (sym is_left.listed) (order_by_name (map entry_of found))

  paths : ArePaths L
  paths = subst ArePaths (sym is_left.listed) (paths_found found (AllPass-from_list_all (λ (f : Found). is_path f.name) found is_left.paths))

  given : AreGoodFields L left.inputs
  given = inputs_good L left.inputs is_left.elsewhere

  spoken : IsGood L left.runtime
  spoken = subst (IsGood L) (sym is_left.runtime) (IsGood.fields _ (AreGoodFields.one_field (codes "cores") (value.Whole (pos 1)) [] (IsGood.whole (pos 1)) AreGoodFields.no_fields))

  abbrev S : Value → Type 0
  S = IsSettled L

  of_checked : (kind : OutputType) (v : Value) → IsGood L v → IfOk (checked L kind v) S
  of_checked kind v good = by (is_typed kind v) (all_found L v) refl where
    by : (typed there : Bool) → all_found L v ≡ there → IfOk (if typed then (if there then Ok (bare v) else Err NameOutside) else Err NotTyped) S
    by true true is = settled L v good is
    by true false is = tt
    by false there is = tt

  then_checked : (kind : OutputType) (r : Gives Value) → IfOk r (IsGood L) → IfOk (and_then r (checked L kind)) S
  then_checked kind (Ok v) good = of_checked kind v good
  then_checked kind (Err fault) good = tt

  of_value : (output : ToolOutput) (v : Value) → HasValue left output (Ok v) → S v
  of_value output v has = subst (λ (r : Gives Value). IfOk r S) (sym has.value) (by has.names) where
    by : (names : Gives (List Name)) → IfOk (and_then names (output_value left output)) S
    by (Ok names) = then_checked output.kind (value_beside left output names) (bound_good left paths order given spoken output names)
    by (Err fault) = tt

  abbrev All_settled : Named → Type 0
  All_settled values = All S (values_of values)

  one_more : (id : Name) (v : Value) (values : Named) → All_settled values → S v → All_settled (with_value id v values)
  one_more id v values before now = All-values-insert_entry name_cmp id v S values before now

  of_outputs : (outputs : List (Name × ToolOutput)) (r : Result Named (Name × CollectFault)) → AreOutputs left outputs r → IfOk r All_settled
  of_outputs _ _ AreOutputs.none = All-nil S
  of_outputs _ _ (AreOutputs.one_more outputs values output v h has) = one_more output.0 v values (of_outputs outputs (Ok values) h) (of_value output.1 v has)
  of_outputs _ _ (AreOutputs.refused outputs rest values output fault h has) = tt

  -- by the object

  one_written : (id : Name) (r : Gives Value) (values : Named) (on : Named → Collected) → ((next : Named) → All_settled next → IfOk (on next) All_settled) → All_settled values → IfOk r S → IfOk (then_collected (with_output id r values) on) All_settled
  one_written id (Ok v) values on rest before now = rest (with_value id v values) (one_more id v values before now)
  one_written id (Err fault) values on rest before now = tt

  module _ (e : Entry) (object : Named) (is : object_of e left.heads ≡ Ok object) where
    of_object : (outputs : List (Name × ToolOutput)) (values : Named) → All_settled values → IfOk (written_after L object values outputs) All_settled
    of_object [] values before = before
    of_object (output ∷ outputs) values before =
        one_written output.0 (written_value L object output) values (λ next. written_after L object next outputs) (λ next. of_object outputs next) before
        (then_checked output.1.kind (written L (value_at output.0 object)) (written_good L paths order e left.heads object is output.0))

  of_file : (outputs : List (Name × ToolOutput)) (e : Entry) (r : Gives Named) → object_of e left.heads ≡ r → IfOk (by_object L outputs r) All_settled
  of_file outputs e (Ok object) is = of_object e object is outputs [] (All-nil S)
  of_file outputs e (Err fault) is = tt

  of_gathered : (outputs : List (Name × ToolOutput)) (gathered : Collected) → AreGathered left outputs gathered → IfOk gathered All_settled
  of_gathered outputs _ (AreGathered.bound values none h) = of_outputs outputs (Ok values) h
  of_gathered outputs _ (AreGathered.unbound id fault none h) = tt
  of_gathered outputs _ (AreGathered.by_file e is) = of_file outputs e (object_of e left.heads) refl

  record AreRead (values : Named) : Type 0 where
    settled : All_settled values
    readable : is_readable values ≡ true

  then_read : (gathered : Collected) → IfOk gathered All_settled → IfOk (then_collected gathered readable) AreRead
  then_read (Ok values) each = by (is_readable values) refl where
    by : (b : Bool) → is_readable values ≡ b → IfOk (if b then Ok values else Err (fault_of None NotTyped)) AreRead
    by true is = record { settled = each; readable = is }
    by false is = tt
  then_read (Err fault) each = tt

  of_collected : (outputs : List (Name × ToolOutput)) (values : Named) → IsCollected left outputs (Ok values) → AreRead values
  of_collected outputs values is = subst (λ (c : Collected). IfOk c AreRead) (sym is.is) (then_read is.gathered (of_gathered outputs is.gathered is.are_gathered))

  pub outputs_settled : (outputs : List (Name × ToolOutput)) (values : Named) → IsCollected left outputs (Ok values) → All S (values_of values)
  outputs_settled outputs values is = (of_collected outputs values is).settled

  -- ---- they are kept

  as_fields : (es : Named) → All S (values_of es) → AreSettledFields L es
  as_fields [] all = AreSettledFields.no_fields
  as_fields (e ∷ es) all = AreSettledFields.one_field e.0 e.1 es (All-head S e.1 (values_of es) all) (as_fields es (All-tail S e.1 (values_of es) all))

  not_true : (b : Bool) → not b ≡ true → b ≡ false
  not_true true h = absurd (true≢false (sym h))
  not_true false h = refl

  pub outputs_kept : (outputs : List (Name × ToolOutput)) (values : Named) → IsCollected left outputs (Ok values) → AreInForm values → IsKept values
  outputs_kept outputs values is form =
      let read = of_collected outputs values is in
      let object : Value = value.Fields values in
      let in_form : IsInForm object = IsInForm.fields values form.order form.each in
      let no_class : Bool = not (has_class object) in
      let shallow : Bool = is_object_within_limit values in
      record {
        object = storable L object (IsSettled.fields values (as_fields values read.settled)) in_form (not_true (has_class object) (both_first no_class shallow read.readable));
        shallow = ap (λ d. nat_le (depth d) greatest_depth) (json_of-Fields values) ∙ both_second no_class shallow read.readable;
      }
