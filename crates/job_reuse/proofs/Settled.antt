-- Values that were checked as outputs: each File and Directory of them is one of the job's folder, has a name, and has what fits.
use Rattle.std.proofs.Common.{◌≡◌, ℕ, ℤ, Bool, true, false, true≢false, not, ◌&&◌, ◌||◌, IsTrue, List, [], ◌∷◌, map, Option, Some, None, option_map, refl, sym, ap, subst, ◌∙◌, rules}
use Rattle.std.specs.Prelude.{bytes_eq, unwrap_or, is_some}
use Rattle.std.specs.List.{list_all, list_any}
use Rattle.std.specs.List.Sorted.{IsStrictlySortedBy}
use Rattle.std.specs.Option.{option_map_or}
use Rattle.plain_data.specs.ByName.{map_values, name_cmp}
use Rattle.cwl_value.proofs.Induction.{Cases, induction}
use Rattle.cwl_value.specs.Reading.{is_name}
use Rattle.cwl_value.specs.Secondary.{fit_beside, is_file, is_secondary, is_empty, is_new, are_distinct, has_name, name_of}
use Rattle.cwl_value.specs.declared.place.Place.{Place}
use Rattle.cwl_value.specs.declared.place.Place.TheVariants.{Nowhere, Url, Path, Made}
use Rattle.cwl_value.specs.declared.value.Value.{Value, the_lemmas}
use Rattle.cwl_value.specs.declared.value.Value as value
use Rattle.cwl_value.specs.declared.value.Value.TheOpen.{FileVal-F, DirVal-F}
use Rattle.cwl_value.specs.declared.value.FileVal.{FileVal, roll-FileVal}
use Rattle.cwl_value.specs.declared.value.DirVal.{DirVal, roll-DirVal}
use Rattle.param_refs.specs.Listings.{entry_name}
use Rattle.staging.proofs.Greedy.{both, both_first, both_second}
use Rattle.collected_outputs.specs.Checked.{every, is_found, is_named, all_found, dir_found, bare, dir_bare}
use Rattle.collected_outputs.specs.Laws.{is_scanned}
use Rattle.collected_outputs.specs.Listing.{Listing}
use Rattle.collected_outputs.specs.Matched.{Name}
use Rattle.collected_outputs.proofs.Throughout.{bare_list, bare_fields, bare_dir_value, dir_value, dir_level}
use Rattle.job_reuse.specs.Sound.{is_file_there, is_dir_there, all_stand}
use Rattle.job_reuse.proofs.Good.{IsGood, AreGood, AreGoodFields, FileIs, DirIs}
use Rattle.job_reuse.proofs.InTurn.{AreInTurn}

abbrev pub a_file : Name → Name → Option Name → Option ℕ → List Value → FileVal
a_file location basename checksum size secondary =
    roll-FileVal (record { place = Url location; basename = Some basename; checksum = checksum; size = size; contents = None; secondary = secondary })

abbrev pub a_dir : Name → Name → List Value → DirVal
a_dir location basename inside = roll-DirVal (record { place = Url location; basename = Some basename; listing = Some inside })

mutual
  pub data IsSettled (listing : Listing) : Value → Type 0 where
    null : IsSettled listing value.Null
    boolean : (b : Bool) → IsSettled listing (value.Bool b)
    whole : (n : ℤ) → IsSettled listing (value.Whole n)
    text : (s : List ℕ) → IsSettled listing (value.Text s)
    file : (location basename : Name) (checksum : Option Name) (size : Option ℕ) (secondary : List Value) → IsTrue (is_name basename) → is_scanned listing size checksum (Url location) ≡ true
        → AreSettled listing secondary → fit_beside (Some basename) secondary ≡ true → IsSettled listing (value.FileVal (a_file location basename checksum size secondary))
    dir : (location basename : Name) (inside : List Value) → IsTrue (is_name basename) → is_named listing location true ≡ true → AreSettled listing inside → list_all is_file inside ≡ true → AreInTurn inside
        → IsSettled listing (value.DirVal (a_dir location basename inside))
    list : (vs : List Value) → AreSettled listing vs → IsSettled listing (value.List vs)
    fields : (es : List (Name × Value)) → AreSettledFields listing es → IsSettled listing (value.Fields es)

  pub data AreSettled (listing : Listing) : List Value → Type 0 where
    no_values : AreSettled listing []
    one_more : (v : Value) (vs : List Value) → IsSettled listing v → AreSettled listing vs → AreSettled listing (v ∷ vs)

  pub data AreSettledFields (listing : Listing) : List (Name × Value) → Type 0 where
    no_fields : AreSettledFields listing []
    one_field : (name : Name) (v : Value) (es : List (Name × Value)) → IsSettled listing v → AreSettledFields listing es → AreSettledFields listing ((name, v) ∷ es)

-- ---- without contents a value has the same name, and fits where it fitted

name_cases : Cases (λ v. name_of (bare v) ≡ name_of v) (λ f. Unit {0}) (λ d. Unit {0})
name_cases = record {
  null = search (rules, the_lemmas);
  boolean = λ b. search (rules, the_lemmas);
  whole = λ n. search (rules, the_lemmas);
  text = λ s. search (rules, the_lemmas);
  file = λ f one. file_name f;
  dir = λ d one. dir_name d;
  list = λ vs each. search (rules, the_lemmas);
  fields = λ es each. search (rules, the_lemmas);
  a_file = λ f each. tt;
  a_dir = λ d each. tt;
} where
  file_name : (f : FileVal) → name_of (bare (value.FileVal f)) ≡ name_of (value.FileVal f)
  file_name f = search (rules, the_lemmas)

  dir_name : (d : DirVal) → name_of (bare (value.DirVal d)) ≡ name_of (value.DirVal d)
  dir_name d = search (rules, the_lemmas)

bare_name : (v : Value) → name_of (bare v) ≡ name_of v
bare_name = induction name_cases

kind_cases : Cases (λ v. is_file (bare v) ≡ is_file v) (λ f. Unit {0}) (λ d. Unit {0})
kind_cases = record {
  null = search (rules, the_lemmas);
  boolean = λ b. search (rules, the_lemmas);
  whole = λ n. search (rules, the_lemmas);
  text = λ s. search (rules, the_lemmas);
  file = λ f one. search (rules, the_lemmas);
  dir = λ d one. search (rules, the_lemmas);
  list = λ vs each. search (rules, the_lemmas);
  fields = λ es each. search (rules, the_lemmas);
  a_file = λ f each. tt;
  a_dir = λ d each. tt;
}

bare_kind : (v : Value) → is_file (bare v) ≡ is_file v
bare_kind = induction kind_cases

as_many : (vs : List Value) → is_empty (map bare vs) ≡ is_empty vs
as_many [] = refl
as_many (v ∷ vs) = refl

beside_cases : Cases (λ v. is_secondary (bare v) ≡ is_secondary v) (λ f. is_secondary (bare (value.FileVal f)) ≡ is_secondary (value.FileVal f)) (λ d. Unit {0})
beside_cases = record {
  null = search (rules, the_lemmas);
  boolean = λ b. search (rules, the_lemmas);
  whole = λ n. search (rules, the_lemmas);
  text = λ s. search (rules, the_lemmas);
  file = λ f one. one;
  dir = λ d one. search (rules, the_lemmas);
  list = λ vs each. search (rules, the_lemmas);
  fields = λ es each. search (rules, the_lemmas);
  a_file = λ f each. rolled f;
  a_dir = λ d each. tt;
} where
  rolled : (f : FileVal-F Value DirVal FileVal) → is_secondary (bare (value.FileVal (roll-FileVal f))) ≡ is_secondary (value.FileVal (roll-FileVal f))
  rolled f =
      let before : is_secondary (value.FileVal (roll-FileVal f)) ≡ is_empty f.secondary = search (rules, the_lemmas) in
      let after : is_secondary (bare (value.FileVal (roll-FileVal f))) ≡ is_empty (map bare f.secondary) = search (rules, the_lemmas) in
      after ∙ as_many f.secondary ∙ sym before

bare_beside : (v : Value) → is_secondary (bare v) ≡ is_secondary v
bare_beside = induction beside_cases

all_bare : (test : Value → Bool) → ((v : Value) → test (bare v) ≡ test v) → (vs : List Value) → list_all test (map bare vs) ≡ list_all test vs
all_bare test same [] = refl
all_bare test same (v ∷ vs) = ap (λ b. b && list_all test (map bare vs)) (same v) ∙ ap (λ b. test v && b) (all_bare test same vs)

any_bare : (name : Name) (vs : List Value) → list_any (has_name name) (map bare vs) ≡ list_any (has_name name) vs
any_bare name [] = refl
any_bare name (v ∷ vs) =
    ap (λ o. option_map_or (bytes_eq name) o false || list_any (has_name name) (map bare vs)) (bare_name v) ∙ ap (λ b. has_name name v || b) (any_bare name vs)

new_bare : (o : Option Name) (vs : List Value) → is_new o (map bare vs) ≡ is_new o vs
new_bare None vs = refl
new_bare (Some name) vs = ap not (any_bare name vs)

distinct_bare : (vs : List Value) → are_distinct (map bare vs) ≡ are_distinct vs
distinct_bare [] = refl
distinct_bare (v ∷ vs) =
    ap (λ o. is_new o (map bare vs) && are_distinct (map bare vs)) (bare_name v) ∙ ap (λ b. b && are_distinct (map bare vs)) (new_bare (name_of v) vs) ∙ ap (λ b. is_new (name_of v) vs && b) (distinct_bare vs)

fit_bare : (o : Option Name) (vs : List Value) → fit_beside o (map bare vs) ≡ fit_beside o vs
fit_bare o vs =
    ap (λ b. b && (is_new o (map bare vs) && are_distinct (map bare vs))) (all_bare is_secondary bare_beside vs)
    ∙ ap (λ b. list_all is_secondary vs && (b && are_distinct (map bare vs))) (new_bare o vs)
    ∙ ap (λ b. list_all is_secondary vs && (is_new o vs && b)) (distinct_bare vs)

names_bare : (vs : List Value) → map entry_name (map bare vs) ≡ map entry_name vs
names_bare [] = refl
names_bare (v ∷ vs) = ap (λ o. unwrap_or o [] ∷ map entry_name (map bare vs)) (bare_name v) ∙ ap (λ ns. entry_name v ∷ ns) (names_bare vs)

-- ---- a good value that is checked

module _ (listing : Listing) where
  found_file : (f : FileVal-F Value DirVal FileVal) → all_found listing (value.FileVal (roll-FileVal f)) ≡ (is_found listing f.place false && every (map (all_found listing) f.secondary))
  found_file f = search (rules, the_lemmas)

  found_dir : (d : DirVal-F Value DirVal FileVal) → all_found listing (value.DirVal (roll-DirVal d)) ≡ (is_found listing d.place true && option_map_or every (option_map (map (all_found listing)) d.listing) true)
  found_dir d =
      let one : all_found listing (value.DirVal (roll-DirVal d)) ≡ dir_found listing (roll-DirVal d) = search (rules, the_lemmas) in
      let two : dir_found listing (roll-DirVal d) ≡ (is_found listing d.place true && option_map_or every (option_map (map (all_found listing)) d.listing) true) = search (rules, the_lemmas) in
      one ∙ two

  found_list : (vs : List Value) → all_found listing (value.List vs) ≡ every (map (all_found listing) vs)
  found_list vs = search (rules, the_lemmas)

  found_fields : (es : List (Name × Value)) → all_found listing (value.Fields es) ≡ every (map (λ e. e.1) (map_values (all_found listing) es))
  found_fields es = search (rules, the_lemmas)

  bare_file_at : (f : FileVal-F Value DirVal FileVal) → bare (value.FileVal (roll-FileVal f))
      ≡ value.FileVal (roll-FileVal (record { place = f.place; basename = f.basename; checksum = f.checksum; size = f.size; contents = None; secondary = map bare f.secondary }))
  bare_file_at f = search (rules, the_lemmas)

  bare_dir_at : (d : DirVal-F Value DirVal FileVal) → bare (value.DirVal (roll-DirVal d)) ≡ value.DirVal (roll-DirVal (record { place = d.place; basename = d.basename; listing = option_map (map bare) d.listing }))
  bare_dir_at d =
      let level : dir_bare (roll-DirVal d) ≡ roll-DirVal (record { place = d.place; basename = d.basename; listing = option_map (map bare) d.listing }) = search (rules, the_lemmas) in
      bare_dir_value (roll-DirVal d) ∙ ap value.DirVal level

  -- a File at its place, by what it is called there
  file_called : (f : FileVal-F Value DirVal FileVal) (location basename : Name) → f.place ≡ Url location → f.basename ≡ Some basename → IsTrue (is_name basename) → is_scanned listing f.size f.checksum f.place ≡ true → fit_beside f.basename f.secondary ≡ true
      → AreSettled listing (map bare f.secondary) → IsSettled listing (bare (value.FileVal (roll-FileVal f)))
  file_called f location basename at called is scanned fit each =
      let now : IsSettled listing (value.FileVal (a_file location basename f.checksum f.size (map bare f.secondary))) =
      IsSettled.file location basename f.checksum f.size (map bare f.secondary) is (ap (is_scanned listing f.size f.checksum) (sym at) ∙ scanned) each
      (fit_bare (Some basename) f.secondary ∙ ap (λ o. fit_beside o f.secondary) (sym called) ∙ fit) in
      let made : Place → Option Name → Value = λ p o. value.FileVal (roll-FileVal (record { place = p; basename = o; checksum = f.checksum; size = f.size; contents = None; secondary = map bare f.secondary })) in
      subst (IsSettled listing) (sym (bare_file_at f)) (subst (λ p. IsSettled listing (made p f.basename)) (sym at) (subst (λ o. IsSettled listing (made (Url location) o)) (sym called) now))

  file_settled : (f : FileVal-F Value DirVal FileVal) (p : Place) → f.place ≡ p → FileIs listing f p → is_found listing p false ≡ true → AreSettled listing (map bare f.secondary) → IsSettled listing (bare (value.FileVal (roll-FileVal f)))
  file_settled f Nowhere at is found each = absurd (true≢false (sym found))
  file_settled f (Url name) at is found each = file_called f name is.named.0 at is.named.1 is.named.2 is.scanned is.fit each
  file_settled f (Path path) at is found each = absurd (true≢false (sym found))
  file_settled f (Made job name) at is found each = absurd (true≢false (sym found))

  dir_called : (d : DirVal-F Value DirVal FileVal) (location basename : Name) (inside : List Value) → d.place ≡ Url location → d.basename ≡ Some basename → d.listing ≡ Some inside → IsTrue (is_name basename) → is_named listing location true ≡ true
      → AreSettled listing (map bare inside) → list_all is_file inside ≡ true → AreInTurn inside → IsSettled listing (bare (value.DirVal (roll-DirVal d)))
  dir_called d location basename inside at called listed is found each files climb =
      let now : IsSettled listing (value.DirVal (a_dir location basename (map bare inside))) =
      IsSettled.dir location basename (map bare inside) is found each (all_bare is_file bare_kind inside ∙ files) (subst (IsStrictlySortedBy name_cmp) (sym (names_bare inside)) climb) in
      let made : Place → Option Name → Option (List Value) → Value = λ p o l. value.DirVal (roll-DirVal (record { place = p; basename = o; listing = option_map (map bare) l })) in
      subst (IsSettled listing) (sym (bare_dir_at d))
      (subst (λ p. IsSettled listing (made p d.basename d.listing)) (sym at) (subst (λ o. IsSettled listing (made (Url location) o d.listing)) (sym called) (subst (λ l. IsSettled listing (made (Url location) (Some basename) l)) (sym listed) now)))

  dir_settled : (d : DirVal-F Value DirVal FileVal) (p : Place) → d.place ≡ p → DirIs d p → is_found listing p true ≡ true → AreSettled listing (map bare (unwrap_or d.listing [])) → IsSettled listing (bare (value.DirVal (roll-DirVal d)))
  dir_settled d Nowhere at is found each = absurd (true≢false (sym found))
  dir_settled d (Url name) at is found each =
      dir_called d name is.named.0 is.inside at is.named.1 is.listed is.named.2 found (subst (λ l. AreSettled listing (map bare (unwrap_or l []))) is.listed each) is.files is.climb
  dir_settled d (Path path) at is found each = absurd (true≢false (sym found))
  dir_settled d (Made job name) at is found each = absurd (true≢false (sym found))

  inside_found : (o : Option (List Value)) → option_map_or every (option_map (map (all_found listing)) o) true ≡ true → every (map (all_found listing) (unwrap_or o [])) ≡ true
  inside_found None found = refl
  inside_found (Some vs) found = found

  bare_null : bare value.Null ≡ value.Null
  bare_null = search (rules, the_lemmas)

  bare_bool : (b : Bool) → bare (value.Bool b) ≡ value.Bool b
  bare_bool b = search (rules, the_lemmas)

  bare_whole : (n : ℤ) → bare (value.Whole n) ≡ value.Whole n
  bare_whole n = search (rules, the_lemmas)

  bare_text : (s : List ℕ) → bare (value.Text s) ≡ value.Text s
  bare_text s = search (rules, the_lemmas)

  mutual
    pub settled : (v : Value) → IsGood listing v → all_found listing v ≡ true → IsSettled listing (bare v)
    settled _ IsGood.null found = subst (IsSettled listing) (sym bare_null) IsSettled.null
    settled _ (IsGood.boolean b) found = subst (IsSettled listing) (sym (bare_bool b)) (IsSettled.boolean b)
    settled _ (IsGood.whole n) found = subst (IsSettled listing) (sym (bare_whole n)) (IsSettled.whole n)
    settled _ (IsGood.text s) found = subst (IsSettled listing) (sym (bare_text s)) (IsSettled.text s)
    settled _ (IsGood.file f is each) found =
        let here = sym (found_file f) ∙ found in
        file_settled f f.place refl is (both_first (is_found listing f.place false) (every (map (all_found listing) f.secondary)) here) (all_settled f.secondary each (both_second (is_found listing f.place false) (every (map (all_found listing) f.secondary)) here))
    settled _ (IsGood.dir d is each) found =
        let here = sym (found_dir d) ∙ found in
        let rest : Bool = option_map_or every (option_map (map (all_found listing)) d.listing) true in
        dir_settled d d.place refl is (both_first (is_found listing d.place true) rest here) (all_settled (unwrap_or d.listing []) each (inside_found d.listing (both_second (is_found listing d.place true) rest here)))
    settled _ (IsGood.list vs each) found = subst (IsSettled listing) (sym (bare_list vs)) (IsSettled.list (map bare vs) (all_settled vs each (sym (found_list vs) ∙ found)))
    settled _ (IsGood.fields es each) found = subst (IsSettled listing) (sym (bare_fields es)) (IsSettled.fields (map_values bare es) (fields_settled es each (sym (found_fields es) ∙ found)))

    all_settled : (vs : List Value) → AreGood listing vs → every (map (all_found listing) vs) ≡ true → AreSettled listing (map bare vs)
    all_settled _ AreGood.no_values found = AreSettled.no_values
    all_settled _ (AreGood.one_more v vs one more) found =
        AreSettled.one_more (bare v) (map bare vs) (settled v one (both_first (all_found listing v) (every (map (all_found listing) vs)) found)) (all_settled vs more (both_second (all_found listing v) (every (map (all_found listing) vs)) found))

    fields_settled : (es : List (Name × Value)) → AreGoodFields listing es → every (map (λ e. e.1) (map_values (all_found listing) es)) ≡ true → AreSettledFields listing (map_values bare es)
    fields_settled _ AreGoodFields.no_fields found = AreSettledFields.no_fields
    fields_settled _ (AreGoodFields.one_field name v es one more) found =
        AreSettledFields.one_field name (bare v) (map_values bare es) (settled v one (both_first (all_found listing v) (every (map (λ e. e.1) (map_values (all_found listing) es))) found))
        (fields_settled es more (both_second (all_found listing v) (every (map (λ e. e.1) (map_values (all_found listing) es))) found))

  -- ---- what settled values name is there

  stand_file : (f : FileVal-F Value DirVal FileVal) → all_stand listing (value.FileVal (roll-FileVal f)) ≡ ((is_some f.basename && is_scanned listing f.size f.checksum f.place) && every (map (all_stand listing) f.secondary))
  stand_file f = search (rules, the_lemmas)

  stand_dir : (d : DirVal-F Value DirVal FileVal) → all_stand listing (value.DirVal (roll-DirVal d)) ≡ ((is_some d.basename && is_found listing d.place true) && option_map_or every (option_map (map (all_stand listing)) d.listing) true)
  stand_dir d = dir_value (is_file_there listing) (is_dir_there listing) (roll-DirVal d) ∙ dir_level (is_file_there listing) (is_dir_there listing) d

  mutual
    pub all_there : (v : Value) → IsSettled listing v → all_stand listing v ≡ true
    all_there _ IsSettled.null = search (rules, the_lemmas)
    all_there _ (IsSettled.boolean b) = search (rules, the_lemmas)
    all_there _ (IsSettled.whole n) = search (rules, the_lemmas)
    all_there _ (IsSettled.text s) = search (rules, the_lemmas)
    all_there _ (IsSettled.file location basename checksum size secondary is scanned each fit) =
        stand_file (record { place = Url location; basename = Some basename; checksum = checksum; size = size; contents = None; secondary = secondary })
        ∙ both (is_scanned listing size checksum (Url location)) (every (map (all_stand listing) secondary)) scanned (each_there secondary each)
    all_there _ (IsSettled.dir location basename inside is found each files climb) =
        stand_dir (record { place = Url location; basename = Some basename; listing = Some inside }) ∙ both (is_named listing location true) (every (map (all_stand listing) inside)) found (each_there inside each)
    all_there _ (IsSettled.list vs each) = (let is : all_stand listing (value.List vs) ≡ every (map (all_stand listing) vs) = search (rules, the_lemmas) in is ∙ each_there vs each)
    all_there _ (IsSettled.fields es each) = (let is : all_stand listing (value.Fields es) ≡ every (map (λ e. e.1) (map_values (all_stand listing) es)) = search (rules, the_lemmas) in is ∙ fields_there es each)

    each_there : (vs : List Value) → AreSettled listing vs → every (map (all_stand listing) vs) ≡ true
    each_there _ AreSettled.no_values = refl
    each_there _ (AreSettled.one_more v vs one more) = both (all_stand listing v) (every (map (all_stand listing) vs)) (all_there v one) (each_there vs more)

    fields_there : (es : List (Name × Value)) → AreSettledFields listing es → every (map (λ e. e.1) (map_values (all_stand listing) es)) ≡ true
    fields_there _ AreSettledFields.no_fields = refl
    fields_there _ (AreSettledFields.one_field name v es one more) = both (all_stand listing v) (every (map (λ e. e.1) (map_values (all_stand listing) es))) (all_there v one) (fields_there es more)
