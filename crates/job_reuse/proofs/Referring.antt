-- What references give of good values is good.
use Rattle.std.proofs.Common.{ℕ, zero, suc, pos, Bool, true, false, ◌&&◌, ◌-◌, ◌^◌, cond, List, [], ◌∷◌, length, Option, Some, None, option_map, Ok, Err, IfOk, bytes_eq, codes}
use Rattle.std.specs.Prelude.{nat_lt, if◌then◌else◌, option_and_then, unwrap_or, slice_get}
use Rattle.std.specs.List.{AllByRecursion, fold, insert, suffix_len}
use Rattle.std.specs.Option.{IfSome, ok_or}
use Rattle.plain_data.specs.ByName.{value_at}
use Rattle.cwl_value.specs.NameParts.{nameroot, nameext}
use Rattle.cwl_value.specs.declared.value.Value.{Value, out-Value}
use Rattle.cwl_value.specs.declared.value.Value as value
use Rattle.cwl_value.specs.declared.value.Value.TheOpen.{Value-F, FileVal-F, DirVal-F}
use Rattle.cwl_value.specs.declared.value.FileVal.{FileVal, out-FileVal}
use Rattle.cwl_value.specs.declared.value.DirVal.{DirVal, out-DirVal}
use Rattle.param_refs.specs.Descent.{Gives, and_then, and_map, by_key, by_index, character, number_of, step, is_none_left, descent, has_outdir, root}
use Rattle.param_refs.specs.Evaluation.{alone, joined, reference_value, value_or_text, template_value}
use Rattle.param_refs.specs.Keys.{whole_of, text_of, unless_empty, path_of, dirname, file_keys, dir_keys, at_key}
use Rattle.param_refs.specs.Listings.{with_entry, in_order, is_before}
use Rattle.param_refs.specs.Locations.{location_of}
use Rattle.param_refs.specs.declared.fault.RefFault.{RefFault}
use Rattle.param_refs.specs.declared.fault.RefFault.TheVariants.{NoName, NoField, WrongKind, IndexOut}
use Rattle.param_refs.specs.declared.template.Part.{Part}
use Rattle.param_refs.specs.declared.template.Reference.{Reference}
use Rattle.param_refs.specs.declared.template.Segment.{Segment}
use Rattle.param_refs.specs.declared.template.Segment.TheVariants.{Key, Index}
use Rattle.collected_outputs.specs.Listing.{Listing}
use Rattle.collected_outputs.specs.Matched.{Name}
use Rattle.job_reuse.proofs.Good.{IsGood, AreGood, AreGoodFields, GoodFile, GoodDir, AtLevel, level}

module _ (listing : Listing) where
  abbrev G : Value → Type 0
  G = IsGood listing

  -- ---- looking up

  pub field_good : (es : List (Name × Value)) → AreGoodFields listing es → (name : Name) → IfSome (value_at name es) G
  field_good _ AreGoodFields.no_fields name = tt
  field_good _ (AreGoodFields.one_field own v es one more) name = by (bytes_eq name own) (field_good es more name) where
    by : (b : Bool) → IfSome (value_at name es) G → IfSome (cond b (Some v) (value_at name es)) G
    by true later = one
    by false later = later

  pub item_good : (vs : List Value) → AreGood listing vs → (n : ℕ) → IfSome (slice_get vs n) G
  item_good _ AreGood.no_values n = tt
  item_good _ (AreGood.one_more v vs one more) zero = one
  item_good _ (AreGood.one_more v vs one more) (suc n) = item_good vs more n

  here : (o : Option Value) → IfSome o G → IfSome (option_and_then (λ v. v) (Some o)) G
  here None h = tt
  here (Some v) h = h

  picked : (table : List (Name × Option Value)) → AllByRecursion (λ (e : Name × Option Value). IfSome e.1 G) table → (key : Name) → IfSome (at_key key table) G
  picked [] each key = tt
  picked (e ∷ es) each key = by (bytes_eq key e.0) (picked es each.1 key) where
    by : (b : Bool) → IfSome (at_key key es) G → IfSome (option_and_then (λ v. v) (cond b (Some e.1) (value_at key es))) G
    by true later = here e.1 each.0
    by false later = later

  or_fault : (o : Option Value) (fault : RefFault) → IfSome o G → IfOk (ok_or o fault) G
  or_fault None fault h = tt
  or_fault (Some v) fault h = h

  -- ---- keys of Files and Directories

  text_good : (o : Option Name) → IfSome (text_of o) G
  text_good None = tt
  text_good (Some s) = IsGood.text s

  size_good : (o : Option ℕ) → IfSome (option_and_then whole_of o) G
  size_good None = tt
  size_good (Some n) = by (nat_lt n (2 ^ 63)) where
    by : (b : Bool) → IfSome (if b then Some (value.Whole (pos n)) else None) G
    by true = IsGood.whole (pos n)
    by false = tt

  list_good : (vs : List Value) → AreGood listing vs → IfSome (unless_empty vs) G
  list_good _ AreGood.no_values = tt
  list_good _ (AreGood.one_more v vs one more) = IsGood.list (v ∷ vs) (AreGood.one_more v vs one more)

  inserted : (vs : List Value) (n : ℕ) (v : Value) → AreGood listing vs → G v → AreGood listing (insert vs n v)
  inserted vs zero v each one = AreGood.one_more v vs one each
  inserted _ (suc n) v AreGood.no_values one = AreGood.one_more v [] one AreGood.no_values
  inserted _ (suc n) v (AreGood.one_more w ws first more) one = AreGood.one_more w (insert ws n v) first (inserted ws n v more one)

  all_inserted : (done vs : List Value) → AreGood listing done → AreGood listing vs → AreGood listing (fold with_entry done vs)
  all_inserted done _ each AreGood.no_values = each
  all_inserted done _ each (AreGood.one_more v vs one more) = all_inserted (with_entry done v) vs (inserted done (length done - suffix_len (is_before v) done) v each one) more

  listing_good : (o : Option (List Value)) → AreGood listing (unwrap_or o []) → IfSome (option_map (λ vs. value.List (in_order vs)) o) G
  listing_good None each = tt
  listing_good (Some vs) each = IsGood.list (in_order vs) (all_inserted [] vs AreGood.no_values each)

  of_file : (b : Bool) (f : FileVal-F Value DirVal FileVal) → GoodFile listing f → (key : Name) → IfSome (at_key key (file_keys b f)) G
  of_file b f good = picked (file_keys b f) (
    text_good f.basename,
    (
      text_good f.checksum,
      (
        IsGood.text (codes "File"),
        (
          text_good f.contents,
          (
            text_good (option_map dirname (path_of b f.place)),
            (
              text_good (option_map location_of (path_of b f.place)),
              (
                text_good (option_map nameext f.basename),
                (
                  text_good (option_map nameroot f.basename),
                  (
                    text_good (path_of b f.place),
                    (
                      list_good f.secondary good.1,
                      (
                        size_good f.size,
                        tt,
                      ),
                    ),
                  ),
                ),
              ),
            ),
          ),
        ),
      ),
    ),
  )

  of_dir : (b : Bool) (d : DirVal-F Value DirVal FileVal) → GoodDir listing d → (key : Name) → IfSome (at_key key (dir_keys b d)) G
  of_dir b d good = picked (dir_keys b d) (
    text_good d.basename,
    (
      IsGood.text (codes "Directory"),
      (
        listing_good d.listing good.1,
        (
          text_good (option_map location_of (path_of b d.place)),
          (
            text_good (path_of b d.place),
            tt,
          ),
        ),
      ),
    ),
  )

  -- ---- references

  key_good : (b is_last : Bool) (key : Name) (x : Value-F Value DirVal FileVal) → AtLevel listing x → IfOk (by_key b is_last key x) G
  key_good b is_last key Value-F.Null h = tt
  key_good b is_last key (Value-F.Bool flag) h = tt
  key_good b is_last key (Value-F.Whole n) h = tt
  key_good b is_last key (Value-F.Text s) h = tt
  key_good b is_last key (Value-F.FileVal f) h = or_fault (at_key key (file_keys b (out-FileVal f))) NoField (of_file b (out-FileVal f) h key)
  key_good b is_last key (Value-F.DirVal d) h = or_fault (at_key key (dir_keys b (out-DirVal d))) NoField (of_dir b (out-DirVal d) h key)
  key_good b is_last key (Value-F.List vs) h = by (is_last && bytes_eq key (codes "length")) where
    by : (t : Bool) → IfOk (if t then Ok (value.Whole (pos (length vs))) else Err WrongKind) G
    by true = IsGood.whole (pos (length vs))
    by false = tt
  key_good b is_last key (Value-F.Fields es) h = or_fault (value_at key es) NoField (field_good es h key)

  character_good : (o : Option Name) → IfSome (option_map value.Text o) G
  character_good None = tt
  character_good (Some s) = IsGood.text s

  index_good : (n : ℕ) (x : Value-F Value DirVal FileVal) → AtLevel listing x → IfOk (by_index n x) G
  index_good n Value-F.Null h = tt
  index_good n (Value-F.Bool flag) h = tt
  index_good n (Value-F.Whole m) h = tt
  index_good n (Value-F.Text s) h = or_fault (option_map value.Text (character s n)) IndexOut (character_good (character s n))
  index_good n (Value-F.FileVal f) h = tt
  index_good n (Value-F.DirVal d) h = tt
  index_good n (Value-F.List vs) h = or_fault (slice_get vs n) IndexOut (item_good vs h n)
  index_good n (Value-F.Fields es) h = tt

  step_good : (b is_last : Bool) (s : Segment) (v : Value) → G v → IfOk (step b is_last s v) G
  step_good b is_last (Key key) v good = key_good b is_last key (out-Value v) (level listing v good)
  step_good b is_last (Index digits) v good = index_good (number_of digits) (out-Value v) (level listing v good)

  then_good : (r : Gives Value) (next : Value → Gives Value) → IfOk r G → ((v : Value) → G v → IfOk (next v) G) → IfOk (and_then r next) G
  then_good (Ok v) next good on = on v good
  then_good (Err fault) next good on = tt

  descent_good : (b : Bool) (ss : List Segment) (v : Value) → G v → IfOk (descent b ss v) G
  descent_good b [] v good = good
  descent_good b (s ∷ ss) v good = then_good (step b (is_none_left ss) s v) (descent b ss) (step_good b (is_none_left ss) s v good) (descent_good b ss)

  -- what references speak of is good
  module _ (inputs : List (Name × Value)) (runtime own : Value) (inputs_good : AreGoodFields listing inputs) (runtime_good : G runtime) (own_good : G own) where
    root_good : (symbol : Name) → IfOk (root inputs (Some runtime) own symbol) G
    root_good symbol = by (bytes_eq symbol (codes "inputs")) (bytes_eq symbol (codes "runtime")) (bytes_eq symbol (codes "self")) (bytes_eq symbol (codes "null")) where
      by : (i r s n : Bool) → IfOk (if i then Ok (value.Fields inputs) else (if r then ok_or (Some runtime) NoName else (if s then Ok own else (if n then Ok value.Null else Err NoName)))) G
      by true r s n = IsGood.fields inputs inputs_good
      by false true s n = runtime_good
      by false false true n = own_good
      by false false false true = IsGood.null
      by false false false false = tt

    reference_good : (r : Reference) → IfOk (reference_value inputs (Some runtime) own r) G
    reference_good r = then_good (root inputs (Some runtime) own r.symbol) (descent (has_outdir (Some runtime)) r.segments) (root_good r.symbol) (descent_good (has_outdir (Some runtime)) r.segments)

    joined_good : (r : Gives Name) → IfOk (and_map value.Text r) G
    joined_good (Ok s) = IsGood.text s
    joined_good (Err fault) = tt

    by_reference : (o : Option Reference) (parts : List Part) → IfOk (value_or_text inputs (Some runtime) own o parts) G
    by_reference None parts = joined_good (joined inputs (Some runtime) own parts)
    by_reference (Some r) parts = reference_good r

    pub template_good : (parts : List Part) → IfOk (template_value inputs (Some runtime) own parts) G
    template_good parts = by_reference (alone parts) parts
