-- The values of patterns, streams and `outputEval` are good, with the files beside them.
use Rattle.std.proofs.Common.{◌≡◌, Bool, true, false, true≢false, not, ◌||◌, ◌&&◌, List, [], ◌∷◌, ◌++◌, map, Option, Some, None, is_some, Ok, Err, IfOk, Result, refl, sym, ap, subst, ◌∙◌, append-nil}
use Rattle.std.specs.Prelude.{bytes_eq, if◌then◌else◌}
use Rattle.std.specs.Cmp.Lexicographic.{nat_list_eq_equiv}
use Rattle.std.specs.List.{AllByRecursion, list_all, list_any, before_last}
use Rattle.std.specs.Option.{IfSome, option_map_or, option_to_list}
use Rattle.plain_data.specs.ByName.{IsByName, value_at}
use Rattle.cwl_process.specs.declared.tool.OutputBinding.{OutputBinding}
use Rattle.cwl_process.specs.declared.tool.OutputType.{OutputType}
use Rattle.cwl_process.specs.declared.tool.OutputType.TheVariants.{Stdout, Stderr, Members}
use Rattle.cwl_process.specs.declared.tool.SecondaryFile.{SecondaryFile}
use Rattle.cwl_process.specs.declared.tool.ToolOutput.{ToolOutput}
use Rattle.cwl_types.specs.declared.types.MemberType.{MemberType}
use Rattle.cwl_types.specs.declared.types.MemberType as member
use Rattle.cwl_types.specs.declared.types.PlainType.TheVariants as plain
use Rattle.cwl_value.specs.Reading.{is_name}
use Rattle.cwl_value.specs.Secondary.{fit_beside, is_secondary, is_new, are_distinct, has_name, name_of}
use Rattle.cwl_value.specs.declared.place.Place.{Place}
use Rattle.cwl_value.specs.declared.place.Place.TheVariants.{Nowhere, Url, Path, Made}
use Rattle.cwl_value.specs.declared.value.Value.{Value, out-Value, the_lemmas}
use Rattle.cwl_value.specs.declared.value.Value as value
use Rattle.cwl_value.specs.declared.value.Value.TheOpen.{Value-F, FileVal-F}
use Rattle.cwl_value.specs.declared.value.FileVal.{FileVal, out-FileVal, out-roll-FileVal}
use Rattle.cwl_value.specs.declared.value.DirVal.{DirVal}
use Rattle.file_values.specs.Names.{secondary_name}
use Rattle.param_refs.specs.Evaluation.{template_value}
use Rattle.param_refs.specs.declared.fault.RefFault.{RefFault}
use Rattle.param_refs.specs.declared.template.Part.{Part}
use Rattle.staging.proofs.Greedy.{both, both_first, both_second}
use Rattle.type_check.specs.Fits.{fits}
use Rattle.collected_outputs.specs.Beside.{beside, is_there, stands, with_beside, added, added_at, file_beside, level_beside, one_beside, list_beside, all_beside}
use Rattle.collected_outputs.specs.ByType.{is_array, sole_value, value_by_type}
use Rattle.collected_outputs.specs.Contents.{Heads, contents_of, with_contents, file_loaded, level_loaded, loaded, all_loaded}
use Rattle.collected_outputs.specs.Gives.{Gives, and_map, and_then, all_given}
use Rattle.collected_outputs.specs.Listing.{Listing}
use Rattle.collected_outputs.specs.Matched.{Name}
use Rattle.collected_outputs.specs.Outputs.{Left, matched_values, evaluated, value_of_binding, stream_value, unchecked, value_beside}
use Rattle.collected_outputs.specs.Patterns.{referred}
use Rattle.collected_outputs.specs.Values.{is_slash, basename_of, value_under, values_of}
use Rattle.collected_outputs.specs.declared.fault.CollectFault.TheVariants.{NoMatch, SecondaryAbsent}
use Rattle.job_reuse.proofs.Folder.{ArePaths, under, as_list, of_names, called_under}
use Rattle.job_reuse.proofs.Good.{IsGood, AreGood, AreGoodFields, FileIs, FileStands, GoodFile, AtLevel, level, of_file, append}
use Rattle.job_reuse.proofs.Paths.{unslashed, basename_alone, basename_inside}
use Rattle.job_reuse.proofs.Referring.{template_good}

-- ---- all that are given

module _ (listing : Listing) where
  pub all_good : {X : Type 0} (g : X → Gives Value) (xs : List X) → AllByRecursion (λ x. IfOk (g x) (IsGood listing)) xs → IfOk (all_given (map g xs)) (AreGood listing)
  all_good g [] each = AreGood.no_values
  all_good g (x ∷ xs) each = by (g x) (all_given (map g xs)) each.0 (all_good g xs each.1) where
    by : (here : Gives Value) (rest : Gives (List Value)) → IfOk here (IsGood listing) → IfOk rest (AreGood listing) → IfOk (and_then here (λ v. and_map (λ vs. v ∷ vs) rest)) (AreGood listing)
    by (Ok v) (Ok vs) one more = AreGood.one_more v vs one more
    by (Ok v) (Err fault) one more = tt
    by (Err fault) rest one more = tt

  each_good : (g : Value → Gives Value) → ((v : Value) → IsGood listing v → IfOk (g v) (IsGood listing)) → (vs : List Value) → AreGood listing vs → AllByRecursion (λ v. IfOk (g v) (IsGood listing)) vs
  each_good g keeps _ AreGood.no_values = tt
  each_good g keeps _ (AreGood.one_more v vs one more) = (keeps v one, each_good g keeps vs more)

  -- ---- contents

  of_map : (r : Gives FileVal) → IfOk r (λ f. IsGood listing (value.FileVal f)) → IfOk (and_map value.FileVal r) (IsGood listing)
  of_map (Ok f) good = good
  of_map (Err fault) good = tt

  same_place : (f : FileVal-F Value DirVal FileVal) (contents : Option Name) (p : Place) → FileIs listing f p → FileIs listing (record f { contents = contents }) p
  same_place f contents Nowhere is = tt
  same_place f contents (Url name) is = record { named = is.named; scanned = is.scanned; fit = is.fit }
  same_place f contents (Path path) is = tt
  same_place f contents (Made job name) is = tt

  with_text : (f : FileVal) (contents : Option Name) → GoodFile listing (out-FileVal f) → IsGood listing (value.FileVal (with_contents f contents))
  with_text f contents good = IsGood.file (record (out-FileVal f) { contents = contents }) (same_place (out-FileVal f) contents (out-FileVal f).place good.0) good.1

  read_good : (heads : Heads) (f : FileVal) → GoodFile listing (out-FileVal f) → IfOk (file_loaded heads f) (λ f. IsGood listing (value.FileVal f))
  read_good heads f good = by (contents_of heads f) where
    by : (r : Gives (Option Name)) → IfOk (and_map (with_contents f) r) (λ f. IsGood listing (value.FileVal f))
    by (Ok contents) = with_text f contents good
    by (Err fault) = tt

  load_level : (heads : Heads) (v : Value) (x : Value-F Value DirVal FileVal) → IsGood listing v → AtLevel listing x → IfOk (level_loaded heads v x) (IsGood listing)
  load_level heads v Value-F.Null good at = good
  load_level heads v (Value-F.Bool b) good at = good
  load_level heads v (Value-F.Whole n) good at = good
  load_level heads v (Value-F.Text s) good at = good
  load_level heads v (Value-F.FileVal f) good at = of_map (file_loaded heads f) (read_good heads f at)
  load_level heads v (Value-F.DirVal d) good at = good
  load_level heads v (Value-F.List vs) good at = good
  load_level heads v (Value-F.Fields es) good at = good

  all_loaded_good : (heads : Heads) (vs : List Value) → AreGood listing vs → IfOk (all_loaded heads vs) (AreGood listing)
  all_loaded_good heads vs good = all_good (loaded heads) vs (each_good (loaded heads) (λ v one. load_level heads v (out-Value v) one (level listing v one)) vs good)

  -- ---- the value by the type

  sole : (members : List MemberType) (vs : List Value) → AreGood listing vs → IfOk (sole_value members vs) (IsGood listing)
  sole members _ AreGood.no_values = by (fits members value.Null) where
    by : (b : Bool) → IfOk (if b then Ok value.Null else Err NoMatch) (IsGood listing)
    by true = IsGood.null
    by false = tt
  sole members _ (AreGood.one_more v _ one AreGood.no_values) = one
  sole members _ (AreGood.one_more v _ one (AreGood.one_more w ws two more)) = tt

  by_type : (members : List MemberType) (vs : List Value) → AreGood listing vs → IfOk (value_by_type members vs) (IsGood listing)
  by_type members vs good = by (list_any is_array members) where
    by : (b : Bool) → IfOk (if b then Ok (value.List vs) else sole_value members vs) (IsGood listing)
    by true = IsGood.list vs good
    by false = sole members vs good

-- ---- a file beside others

last_secondary : (vs : List Value) (w : Value) → list_all is_secondary vs ≡ true → is_secondary w ≡ true → list_all is_secondary (vs ++ w ∷ []) ≡ true
last_secondary [] w all is = both (is_secondary w) true is refl
last_secondary (v ∷ vs) w all is =
    both (is_secondary v) (list_all is_secondary (vs ++ w ∷ [])) (both_first (is_secondary v) (list_all is_secondary vs) all) (last_secondary vs w (both_second (is_secondary v) (list_all is_secondary vs) all) is)

neither : (a b : Bool) → (a || b) ≡ false → (a ≡ false) × (b ≡ false)
neither true b h = absurd (true≢false h)
neither false b h = (refl, h)

flipped : (one other : Name) → bytes_eq one other ≡ false → bytes_eq other one ≡ false
flipped one other apart = nat_list_eq_equiv.symm other one ∙ apart

-- a value of that name, which the others have not
none_has : (name own : Name) (w : Value) → name_of w ≡ Some own → bytes_eq own name ≡ false → has_name name w ≡ false
none_has name own w called apart = ap (λ o. option_map_or (bytes_eq name) o false) called ∙ flipped own name apart

any_pushed : (name own : Name) (vs : List Value) (w : Value) → list_any (has_name name) vs ≡ false → has_name name w ≡ false → list_any (has_name name) (vs ++ w ∷ []) ≡ false
any_pushed name own [] w none last = ap (λ b. b || false) last
any_pushed name own (v ∷ vs) w none last =
    let parts = neither (has_name name v) (list_any (has_name name) vs) none in
    ap (λ b. b || list_any (has_name name) (vs ++ w ∷ [])) parts.0 ∙ any_pushed name own vs w parts.1 last

new_pushed : (o : Option Name) (own : Name) (vs : List Value) (w : Value) → is_new o vs ≡ true → name_of w ≡ Some own → option_map_or (bytes_eq own) o false ≡ false → is_new o (vs ++ w ∷ []) ≡ true
new_pushed None own vs w new called apart = refl
new_pushed (Some name) own vs w new called apart = ap not (any_pushed name own vs w (not_true (list_any (has_name name) vs) new) (none_has name own w called apart)) where
  not_true : (b : Bool) → not b ≡ true → b ≡ false
  not_true true h = absurd (true≢false (sym h))
  not_true false h = refl

pub distinct_pushed : (own : Name) (vs : List Value) (w : Value) → are_distinct vs ≡ true → name_of w ≡ Some own → list_any (has_name own) vs ≡ false → are_distinct (vs ++ w ∷ []) ≡ true
distinct_pushed own [] w all called none = both (is_new (name_of w) []) true (new_none (name_of w)) refl where
  new_none : (o : Option Name) → is_new o [] ≡ true
  new_none None = refl
  new_none (Some name) = refl
distinct_pushed own (v ∷ vs) w all called none =
    let parts = neither (has_name own v) (list_any (has_name own) vs) none in
    both (is_new (name_of v) (vs ++ w ∷ [])) (are_distinct (vs ++ w ∷ []))
    (new_pushed (name_of v) own vs w (both_first (is_new (name_of v) vs) (are_distinct vs) all) called parts.0)
    (distinct_pushed own vs w (both_second (is_new (name_of v) vs) (are_distinct vs) all) called parts.1)

fit_pushed : (o : Option Name) (own : Name) (vs : List Value) (w : Value) → fit_beside o vs ≡ true → is_secondary w ≡ true → name_of w ≡ Some own → option_map_or (bytes_eq own) o false ≡ false → list_any (has_name own) vs ≡ false
    → fit_beside o (vs ++ w ∷ []) ≡ true
fit_pushed o own vs w fit is called apart none =
    let rest = both_second (list_all is_secondary vs) (is_new o vs && are_distinct vs) fit in
    both (list_all is_secondary (vs ++ w ∷ [])) (is_new o (vs ++ w ∷ []) && are_distinct (vs ++ w ∷ []))
    (last_secondary vs w (both_first (list_all is_secondary vs) (is_new o vs && are_distinct vs) fit) is)
    (both (is_new o (vs ++ w ∷ [])) (are_distinct (vs ++ w ∷ []))
    (new_pushed o own vs w (both_first (is_new o vs) (are_distinct vs) rest) called apart)
    (distinct_pushed own vs w (both_second (is_new o vs) (are_distinct vs) rest) called none))

-- ---- the files that outputs declare beside theirs

beside_called : (primary name : Name) → list_any is_slash name ≡ false → basename_of (beside primary name) ≡ name
beside_called primary name none = by (list_any is_slash primary) where
  by : (b : Bool) → basename_of (if b then before_last is_slash primary ++ 47 ∷ name else name) ≡ name
  by true = basename_inside (before_last is_slash primary) name none
  by false = basename_alone name none

module _ (listing : Listing) (paths : ArePaths listing) (order : IsByName listing) where
  abbrev F : FileVal → Type 0
  F f = GoodFile listing (out-FileVal f)

  pushed : (f : FileVal) (primary : Name) → (out-FileVal f).place ≡ Url primary → F f → (own : Name) (w : Value) → IsGood listing w → is_secondary w ≡ true → name_of w ≡ Some own → stands own f ≡ false → F (with_beside f (w ∷ []))
  pushed f primary at good own w one is called apart =
      let was : FileStands listing (out-FileVal f) = subst (FileIs listing (out-FileVal f)) at good.0 in
      let parts = neither (option_map_or (bytes_eq own) (out-FileVal f).basename false) (list_any (has_name own) (out-FileVal f).secondary) apart in
      let now : FileVal-F Value DirVal FileVal = record (out-FileVal f) { secondary = (out-FileVal f).secondary ++ w ∷ [] } in
      let still : FileStands listing now = record {
        named = was.named;
        scanned = was.scanned;
        fit = fit_pushed (out-FileVal f).basename own (out-FileVal f).secondary w was.fit is called parts.0 parts.1;
      } in
      let inside : AreGood listing now.secondary = append listing (out-FileVal f).secondary (w ∷ []) good.1 (AreGood.one_more w [] one AreGood.no_values) in
      subst (GoodFile listing) (sym (out-roll-FileVal now)) (subst (FileIs listing now) (sym at) still, inside)

  nothing_more : (f : FileVal) → F f → F (with_beside f [])
  nothing_more f good =
      let same : (out-FileVal f).secondary ++ [] ≡ (out-FileVal f).secondary = append-nil (out-FileVal f).secondary in
      let now : FileVal-F Value DirVal FileVal = record (out-FileVal f) { secondary = (out-FileVal f).secondary ++ [] } in
      let is : now ≡ out-FileVal f = ap (λ (vs : List Value). record (out-FileVal f) { secondary = vs }) same in
      subst (GoodFile listing) (sym (out-roll-FileVal now ∙ is)) good

  one_added : (f : FileVal) (primary : Name) (required : Bool) (name : Name) → (out-FileVal f).place ≡ Url primary → F f → IfOk (added listing f required primary name) F
  one_added f primary required name at good = by (is_there listing primary name) (stands name f) required refl refl where
    path : Name
    path = beside primary name

    more : list_any is_slash name ≡ false → (o : Option Value) → IfSome o (IsGood listing) → IfSome o (λ w. (is_secondary w ≡ true) × (name_of w ≡ Some (basename_of path))) → stands name f ≡ false → F (with_beside f (option_to_list o))
    more none None one is apart = nothing_more f good
    more none (Some w) one is apart = pushed f primary at good name w one is.0 (is.1 ∙ ap Some (beside_called primary name none)) apart

    by : (there stood needed : Bool) → is_there listing primary name ≡ there → stands name f ≡ stood
        → IfOk (if there then Ok (if stood then f else with_beside f (option_to_list (value_under listing path))) else (if needed then Err SecondaryAbsent else Ok f)) F
    by true true needed is apart = good
    by true false needed is apart =
        more (unslashed name (both_first (is_name name) (is_some (value_at path listing)) is))
        (value_under listing path) (under listing paths order path) (called_under listing paths order path (both_second (is_name name) (is_some (value_at path listing)) is)) apart
    by false stood true is apart = tt
    by false stood false is apart = good

  at_place : (f : FileVal) (declared : SecondaryFile) (p : Place) → (out-FileVal f).place ≡ p → F f → IfOk (added_at listing f declared p) F
  at_place f declared Nowhere at good = good
  at_place f declared (Url primary) at good = one_added f primary declared.required (secondary_name declared.pattern (basename_of primary)) at good
  at_place f declared (Path path) at good = good
  at_place f declared (Made job name) at good = good

  then_more : (r : Gives FileVal) (next : FileVal → Gives FileVal) → IfOk r F → ((f : FileVal) → F f → IfOk (next f) F) → IfOk (and_then r next) F
  then_more (Ok f) next good on = on f good
  then_more (Err fault) next good on = tt

  file_good : (declared : List SecondaryFile) (f : FileVal) → F f → IfOk (file_beside listing declared f) F
  file_good [] f good = good
  file_good (one ∷ more) f good =
      then_more (added_at listing f one (out-FileVal f).place) (file_beside listing more)
      (at_place f one (out-FileVal f).place refl good)
      (file_good more)

  as_value : (r : Gives FileVal) → IfOk r F → IfOk (and_map value.FileVal r) (IsGood listing)
  as_value (Ok f) good = of_file listing f good
  as_value (Err fault) good = tt

  beside_level : (declared : List SecondaryFile) (v : Value) (x : Value-F Value DirVal FileVal) → IsGood listing v → AtLevel listing x → IfOk (level_beside listing declared v x) (IsGood listing)
  beside_level declared v Value-F.Null good at = good
  beside_level declared v (Value-F.Bool b) good at = good
  beside_level declared v (Value-F.Whole n) good at = good
  beside_level declared v (Value-F.Text s) good at = good
  beside_level declared v (Value-F.FileVal f) good at = as_value (file_beside listing declared f) (file_good declared f at)
  beside_level declared v (Value-F.DirVal d) good at = good
  beside_level declared v (Value-F.List vs) good at = good
  beside_level declared v (Value-F.Fields es) good at = good

  one_good : (declared : List SecondaryFile) (v : Value) → IsGood listing v → IfOk (one_beside listing declared v) (IsGood listing)
  one_good declared v good = beside_level declared v (out-Value v) good (level listing v good)

  as_list_value : (r : Gives (List Value)) → IfOk r (AreGood listing) → IfOk (and_map value.List r) (IsGood listing)
  as_list_value (Ok vs) good = IsGood.list vs good
  as_list_value (Err fault) good = tt

  list_level : (declared : List SecondaryFile) (v : Value) (x : Value-F Value DirVal FileVal) → IsGood listing v → AtLevel listing x → IfOk (list_beside listing declared v x) (IsGood listing)
  list_level declared v Value-F.Null good at = one_good declared v good
  list_level declared v (Value-F.Bool b) good at = one_good declared v good
  list_level declared v (Value-F.Whole n) good at = one_good declared v good
  list_level declared v (Value-F.Text s) good at = one_good declared v good
  list_level declared v (Value-F.FileVal f) good at = one_good declared v good
  list_level declared v (Value-F.DirVal d) good at = one_good declared v good
  list_level declared v (Value-F.List vs) good at =
      as_list_value (all_given (map (one_beside listing declared) vs)) (all_good listing (one_beside listing declared) vs (each_good listing (one_beside listing declared) (one_good declared) vs at))
  list_level declared v (Value-F.Fields es) good at = one_good declared v good

  all_beside_good : (declared : List SecondaryFile) (v : Value) → IsGood listing v → IfOk (all_beside listing declared v) (IsGood listing)
  all_beside_good declared v good = list_level declared v (out-Value v) good (level listing v good)

-- ---- the value of an output, before it is checked

module _ (left : Left) (paths : ArePaths left.listing) (order : IsByName left.listing) (inputs_good : AreGoodFields left.listing left.inputs) (runtime_good : IsGood left.listing left.runtime) where
  abbrev G : Value → Type 0
  G = IsGood left.listing

  matched_good : (load : Bool) (names : List Name) → IfOk (matched_values left load names) (AreGood left.listing)
  matched_good true names = all_loaded_good left.listing left.heads (values_of left.listing names) (of_names left.listing paths order names)
  matched_good false names = of_names left.listing paths order names

  of_referred : (r : Result Value RefFault) → IfOk r G → IfOk (referred r) G
  of_referred (Ok v) good = good
  of_referred (Err fault) good = tt

  of_evaluated : (members : List MemberType) (o : Option (List Part)) (vs : List Value) → AreGood left.listing vs → IfOk (evaluated left members o vs) G
  of_evaluated members None vs good = by_type left.listing members vs good
  of_evaluated members (Some template) vs good =
      of_referred (template_value left.inputs (Some left.runtime) (value.List vs) template)
      (template_good left.listing left.inputs left.runtime (value.List vs) inputs_good runtime_good (IsGood.list vs good) template)

  then_evaluated : (members : List MemberType) (o : Option (List Part)) (r : Gives (List Value)) → IfOk r (AreGood left.listing) → IfOk (and_then r (evaluated left members o)) G
  then_evaluated members o (Ok vs) good = of_evaluated members o vs good
  then_evaluated members o (Err fault) good = tt

  of_binding : (members : List MemberType) (binding : Option OutputBinding) (names : List Name) → IfOk (value_of_binding left members binding names) G
  of_binding members None names = IsGood.null
  of_binding members (Some binding) names = by (is_some binding.glob || is_some binding.output_eval) where
    by : (b : Bool) → IfOk (if b then and_then (matched_values left binding.load_contents names) (evaluated left members binding.output_eval) else Ok value.Null) G
    by true = then_evaluated members binding.output_eval (matched_values left binding.load_contents names) (matched_good binding.load_contents names)
    by false = IsGood.null

  of_stream : (name : Name) → IfOk (stream_value left name) G
  of_stream name = by_type left.listing (member.Plain plain.File ∷ []) (option_to_list (value_under left.listing name)) (as_list left.listing paths order (value_under left.listing name) (under left.listing paths order name))

  of_kind : (kind : OutputType) (binding : Option OutputBinding) (names : List Name) → IfOk (unchecked left kind binding names) G
  of_kind Stdout binding names = of_stream left.stdout
  of_kind Stderr binding names = of_stream left.stderr
  of_kind (Members members) binding names = of_binding members binding names

  pub bound_good : (output : ToolOutput) (names : List Name) → IfOk (value_beside left output names) G
  bound_good output names = by (unchecked left output.kind output.binding names) (of_kind output.kind output.binding names) where
    by : (r : Gives Value) → IfOk r G → IfOk (and_then r (all_beside left.listing output.secondary_files)) G
    by (Ok v) good = all_beside_good left.listing paths order output.secondary_files v good
    by (Err fault) good = tt
