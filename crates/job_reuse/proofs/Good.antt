-- What holds of each value before it is checked as an output's: each File and Directory of it that stands in the job's folder is one that was
-- found there, has a name, and has only what fits beside it or in it.
use Rattle.std.proofs.Common.{◌≡◌, ℕ, ℤ, Bool, true, IsTrue, List, [], ◌∷◌, ◌++◌, Option, Some, sym, subst, rules}
use Rattle.std.specs.Prelude.{unwrap_or}
use Rattle.std.specs.List.{AllByRecursion, list_all}
use Rattle.cwl_value.specs.Reading.{is_name}
use Rattle.cwl_value.specs.Secondary.{fit_beside, is_file}
use Rattle.cwl_value.specs.declared.place.Place.{Place}
use Rattle.cwl_value.specs.declared.place.Place.TheVariants.{Nowhere, Url, Path, Made}
use Rattle.cwl_value.specs.declared.value.Value.{Value, out-Value, the_lemmas}
use Rattle.cwl_value.specs.declared.value.Value as value
use Rattle.cwl_value.specs.declared.value.Value.TheOpen.{Value-F, FileVal-F, DirVal-F}
use Rattle.cwl_value.specs.declared.value.FileVal.{FileVal, out-FileVal, roll-FileVal, out-roll-FileVal, roll-out-FileVal}
use Rattle.cwl_value.specs.declared.value.DirVal.{DirVal, out-DirVal, roll-DirVal, out-roll-DirVal, roll-out-DirVal}
use Rattle.collected_outputs.specs.Laws.{is_scanned}
use Rattle.collected_outputs.specs.Listing.{Listing}
use Rattle.collected_outputs.specs.Matched.{Name}
use Rattle.job_reuse.proofs.InTurn.{AreInTurn}

abbrev pub IsNamed : Option Name → Type 0
IsNamed basename = (name : Name) × (basename ≡ Some name) × IsTrue (is_name name)

pub record FileStands (listing : Listing) (f : FileVal-F Value DirVal FileVal) : Type 0 where
  pub named : IsNamed f.basename
  pub scanned : is_scanned listing f.size f.checksum f.place ≡ true
  pub fit : fit_beside f.basename f.secondary ≡ true

-- nothing is said of a File that stands elsewhere
abbrev pub FileIs : Listing → FileVal-F Value DirVal FileVal → Place → Type 0
FileIs listing f Nowhere = Unit {0}
FileIs listing f (Url name) = FileStands listing f
FileIs listing f (Path path) = Unit {0}
FileIs listing f (Made job name) = Unit {0}

pub record DirStands (d : DirVal-F Value DirVal FileVal) : Type 0 where
  pub named : IsNamed d.basename
  pub inside : List Value
  pub listed : d.listing ≡ Some inside
  pub files : list_all is_file inside ≡ true
  pub climb : AreInTurn inside

abbrev pub DirIs : DirVal-F Value DirVal FileVal → Place → Type 0
DirIs d Nowhere = Unit {0}
DirIs d (Url name) = DirStands d
DirIs d (Path path) = Unit {0}
DirIs d (Made job name) = Unit {0}

mutual
  pub data IsGood (listing : Listing) : Value → Type 0 where
    null : IsGood listing value.Null
    boolean : (b : Bool) → IsGood listing (value.Bool b)
    whole : (n : ℤ) → IsGood listing (value.Whole n)
    text : (s : List ℕ) → IsGood listing (value.Text s)
    file : (f : FileVal-F Value DirVal FileVal) → FileIs listing f f.place → AreGood listing f.secondary → IsGood listing (value.FileVal (roll-FileVal f))
    dir : (d : DirVal-F Value DirVal FileVal) → DirIs d d.place → AreGood listing (unwrap_or d.listing []) → IsGood listing (value.DirVal (roll-DirVal d))
    list : (vs : List Value) → AreGood listing vs → IsGood listing (value.List vs)
    fields : (es : List (Name × Value)) → AreGoodFields listing es → IsGood listing (value.Fields es)

  pub data AreGood (listing : Listing) : List Value → Type 0 where
    no_values : AreGood listing []
    one_more : (v : Value) (vs : List Value) → IsGood listing v → AreGood listing vs → AreGood listing (v ∷ vs)

  pub data AreGoodFields (listing : Listing) : List (Name × Value) → Type 0 where
    no_fields : AreGoodFields listing []
    one_field : (name : Name) (v : Value) (es : List (Name × Value)) → IsGood listing v → AreGoodFields listing es → AreGoodFields listing ((name, v) ∷ es)

-- ---- one level of a value

out_null : out-Value value.Null ≡ Value-F.Null
out_null = search (rules, the_lemmas)

out_bool : (b : Bool) → out-Value (value.Bool b) ≡ Value-F.Bool b
out_bool b = search (rules, the_lemmas)

out_whole : (n : ℤ) → out-Value (value.Whole n) ≡ Value-F.Whole n
out_whole n = search (rules, the_lemmas)

out_text : (s : List ℕ) → out-Value (value.Text s) ≡ Value-F.Text s
out_text s = search (rules, the_lemmas)

pub out_file : (f : FileVal) → out-Value (value.FileVal f) ≡ Value-F.FileVal f
out_file f = search (rules, the_lemmas)

pub out_dir : (d : DirVal) → out-Value (value.DirVal d) ≡ Value-F.DirVal d
out_dir d = search (rules, the_lemmas)

pub out_list : (vs : List Value) → out-Value (value.List vs) ≡ Value-F.List vs
out_list vs = search (rules, the_lemmas)

pub out_fields : (es : List (Name × Value)) → out-Value (value.Fields es) ≡ Value-F.Fields es
out_fields es = search (rules, the_lemmas)

module _ (listing : Listing) where
  abbrev pub GoodFile : FileVal-F Value DirVal FileVal → Type 0
  GoodFile f = FileIs listing f f.place × AreGood listing f.secondary

  abbrev pub GoodDir : DirVal-F Value DirVal FileVal → Type 0
  GoodDir d = DirIs d d.place × AreGood listing (unwrap_or d.listing [])

  abbrev pub AtLevel : Value-F Value DirVal FileVal → Type 0
  AtLevel Value-F.Null = Unit {0}
  AtLevel (Value-F.Bool b) = Unit {0}
  AtLevel (Value-F.Whole n) = Unit {0}
  AtLevel (Value-F.Text s) = Unit {0}
  AtLevel (Value-F.FileVal f) = GoodFile (out-FileVal f)
  AtLevel (Value-F.DirVal d) = GoodDir (out-DirVal d)
  AtLevel (Value-F.List vs) = AreGood listing vs
  AtLevel (Value-F.Fields es) = AreGoodFields listing es

  pub level : (v : Value) → IsGood listing v → AtLevel (out-Value v)
  level _ IsGood.null = subst AtLevel (sym out_null) tt
  level _ (IsGood.boolean b) = subst AtLevel (sym (out_bool b)) tt
  level _ (IsGood.whole n) = subst AtLevel (sym (out_whole n)) tt
  level _ (IsGood.text s) = subst AtLevel (sym (out_text s)) tt
  level _ (IsGood.file f is each) = subst AtLevel (sym (out_file (roll-FileVal f))) (subst GoodFile (sym (out-roll-FileVal f)) (is, each))
  level _ (IsGood.dir d is each) = subst AtLevel (sym (out_dir (roll-DirVal d))) (subst GoodDir (sym (out-roll-DirVal d)) (is, each))
  level _ (IsGood.list vs each) = subst AtLevel (sym (out_list vs)) each
  level _ (IsGood.fields es each) = subst AtLevel (sym (out_fields es)) each

  pub of_file : (f : FileVal) → GoodFile (out-FileVal f) → IsGood listing (value.FileVal f)
  of_file f good = subst (λ (g : FileVal). IsGood listing (value.FileVal g)) (roll-out-FileVal f) (IsGood.file (out-FileVal f) good.0 good.1)

  pub of_dir : (d : DirVal) → GoodDir (out-DirVal d) → IsGood listing (value.DirVal d)
  of_dir d good = subst (λ (e : DirVal). IsGood listing (value.DirVal e)) (roll-out-DirVal d) (IsGood.dir (out-DirVal d) good.0 good.1)

  pub file_in : (f : FileVal) → IsGood listing (value.FileVal f) → GoodFile (out-FileVal f)
  file_in f good = subst AtLevel (out_file f) (level (value.FileVal f) good)

  pub dir_in : (d : DirVal) → IsGood listing (value.DirVal d) → GoodDir (out-DirVal d)
  dir_in d good = subst AtLevel (out_dir d) (level (value.DirVal d) good)

  pub list_in : (vs : List Value) → IsGood listing (value.List vs) → AreGood listing vs
  list_in vs good = subst AtLevel (out_list vs) (level (value.List vs) good)

  pub fields_in : (es : List (Name × Value)) → IsGood listing (value.Fields es) → AreGoodFields listing es
  fields_in es good = subst AtLevel (out_fields es) (level (value.Fields es) good)

  -- ---- several

  pub append : (vs ws : List Value) → AreGood listing vs → AreGood listing ws → AreGood listing (vs ++ ws)
  append _ ws AreGood.no_values more = more
  append _ ws (AreGood.one_more v vs one rest) more = AreGood.one_more v (vs ++ ws) one (append vs ws rest more)

  pub of_each : (vs : List Value) → AllByRecursion (IsGood listing) vs → AreGood listing vs
  of_each [] each = AreGood.no_values
  of_each (v ∷ vs) each = AreGood.one_more v vs each.0 (of_each vs each.1)
