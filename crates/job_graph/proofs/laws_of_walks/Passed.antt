-- What holds of values holds of what links, references and scatters make of them.
use Rattle.std.proofs.Common.{ℕ, ℤ, zero, suc, pos, ◌^◌, ◌-◌, List, [], ◌∷◌, ◌++◌, length, take, drop, map, Bool, true, false, cond, ◌&&◌, if◌then◌else◌, Option, Some, None, Ok, Err, option_map, unwrap_or, fold, bytes_eq, codes, Ordering, Less, Equal, Greater, subst, sym}
use Rattle.std.specs.Prelude.{filter, insert, nat_lt, option_and_then, slice_get, IfOk, IfSome}
use Rattle.std.specs.List.{AllByRecursion, flat_map, suffix_len}
use Rattle.std.specs.Option.{ok_or}
use Rattle.std.specs.Ordering.{match_ordering}
use Rattle.plain_data.specs.ByName.{name_cmp, value_at, with_value}
use Rattle.cwl_process.specs.declared.links.Merge.{Merge}
use Rattle.cwl_process.specs.declared.links.Merge.TheVariants.{Nested, Flattened}
use Rattle.cwl_process.specs.declared.links.Pick.{Pick}
use Rattle.cwl_process.specs.declared.links.Pick.TheVariants.{FirstNonNull, TheOnlyNonNull, AllNonNull}
use Rattle.cwl_process.specs.declared.workflow.StepInput.{StepInput}
use Rattle.cwl_value.specs.declared.value.Value.{Value, out-Value, roll-Value}
use Rattle.cwl_value.specs.declared.value.Value as value
use Rattle.cwl_value.specs.declared.value.Value.TheOpen.{Value-F, FileVal-F, DirVal-F}
use Rattle.cwl_value.specs.declared.value.Value.TheVariants.{rolls-Null, rolls-List}
use Rattle.cwl_value.specs.declared.value.FileVal.{FileVal, out-FileVal}
use Rattle.cwl_value.specs.declared.value.DirVal.{DirVal, out-DirVal}
use Rattle.cwl_value.specs.NameParts.{nameroot, nameext}
use Rattle.link_values.specs.Merged.{form_items, items_or_one, list_of, merged}
use Rattle.link_values.specs.Picked.{choices, is_something, picked, the_first, the_only}
use Rattle.link_values.specs.Refused as link
use Rattle.link_values.specs.StepInputs.{NamedInput, by_reference, from_template, has_source, null, or_default, own_value, step_input, value_froms, value_from, value_under, values_put}
use Rattle.param_refs.specs.Descent.{Gives, and_then, and_map, by_index, by_key, character, descent, has_outdir, is_none_left, number_of, root, step}
use Rattle.param_refs.specs.Evaluation.{alone, joined, reference_value, template_value, value_or_text}
use Rattle.param_refs.specs.Keys.{at_key, dir_keys, dirname, file_keys, path_of, text_of, unless_empty, whole_of}
use Rattle.param_refs.specs.Listings.{in_order, is_before, with_entry}
use Rattle.param_refs.specs.Locations.{location_of}
use Rattle.param_refs.specs.declared.fault.RefFault.{RefFault}
use Rattle.param_refs.specs.declared.fault.RefFault.TheVariants.{NoField, WrongKind, IndexOut}
use Rattle.param_refs.specs.declared.template.Part.{Part}
use Rattle.param_refs.specs.declared.template.Reference.{Reference}
use Rattle.param_refs.specs.declared.template.Segment.{Segment}
use Rattle.param_refs.specs.declared.template.Segment.TheVariants.{Key, Index}
use Rattle.scatter_shape.specs.Gathered.{filled, gathered, nested, value_beside}
use Rattle.scatter_shape.specs.Tuples.{below, tuples_of}
use Rattle.scatter_shape.specs.declared.shape.Method.{Method}
use Rattle.scatter_shape.specs.declared.shape.Method.TheVariants.{Dotproduct, NestedCrossproduct, FlatCrossproduct}
use Rattle.job_graph.specs.Words.{Name, Fields}
use Rattle.job_graph.specs.Scatter.{at_tuple, index_for, item_at, item_in}

-- ---- lists

pub all_map : {A B : Type 0} (f : A → B) (R : A → Type 0) (Q : B → Type 0) → ((a : A) → R a → Q (f a)) → (xs : List A) → AllByRecursion R xs → AllByRecursion Q (map f xs)
all_map f R Q gives [] all = tt
all_map f R Q gives (x ∷ xs) all = (gives x all.0, all_map f R Q gives xs all.1)

pub all_made : {A B : Type 0} (f : A → B) (Q : B → Type 0) → ((a : A) → Q (f a)) → (xs : List A) → AllByRecursion Q (map f xs)
all_made f Q gives [] = tt
all_made f Q gives (x ∷ xs) = (gives x, all_made f Q gives xs)

module _ {X : Type 0} (Q : X → Type 0) where
  pub all_both : (xs ys : List X) → AllByRecursion Q xs → AllByRecursion Q ys → AllByRecursion Q (xs ++ ys)
  all_both [] ys one other = other
  all_both (x ∷ xs) ys one other = (one.0, all_both xs ys one.1 other)

  all_take : (n : ℕ) (xs : List X) → AllByRecursion Q xs → AllByRecursion Q (take n xs)
  all_take zero xs all = tt
  all_take (suc n) [] all = tt
  all_take (suc n) (x ∷ xs) all = (all.0, all_take n xs all.1)

  all_drop : (n : ℕ) (xs : List X) → AllByRecursion Q xs → AllByRecursion Q (drop n xs)
  all_drop zero xs all = all
  all_drop (suc n) [] all = tt
  all_drop (suc n) (x ∷ xs) all = all_drop n xs all.1

  all_insert : (xs : List X) (n : ℕ) (x : X) → AllByRecursion Q xs → Q x → AllByRecursion Q (insert xs n x)
  all_insert xs n x all one = all_both (take n xs) (x ∷ drop n xs) (all_take n xs all) (one, all_drop n xs all)

  pub if_get : (n : ℕ) (xs : List X) → AllByRecursion Q xs → IfSome (slice_get xs n) Q
  if_get n [] all = tt
  if_get zero (x ∷ xs) all = all.0
  if_get (suc n) (x ∷ xs) all = if_get n xs all.1

  either : (b : Bool) (x : X) (o : Option X) → Q x → IfSome o Q → IfSome (cond b (Some x) o) Q
  either true x o one other = one
  either false x o one other = other

  -- ---- entries under names

  abbrev pub EachUnder : List (Name × X) → Type 0
  EachUnder entries = AllByRecursion (λ (e : Name × X). Q e.1) entries

  pub if_under : (name : Name) (entries : List (Name × X)) → EachUnder entries → IfSome (value_at name entries) Q
  if_under name [] all = tt
  if_under name (e ∷ es) all = either (bytes_eq name e.0) e.1 (value_at name es) all.0 (if_under name es all.1)

  put_by : (o : Ordering) (name : Name) (x : X) (e : Name × X) (es later : List (Name × X)) → Q x → EachUnder (e ∷ es) → EachUnder later
      → EachUnder (match_ordering o ((name, x) ∷ e ∷ es) ((e.0, x) ∷ es) (e ∷ later))
  put_by Less name x e es later one all rest = (one, all)
  put_by Equal name x e es later one all rest = (one, all.1)
  put_by Greater name x e es later one all rest = (all.0, rest)

  pub each_put : (name : Name) (x : X) (entries : List (Name × X)) → Q x → EachUnder entries → EachUnder (with_value name x entries)
  each_put name x [] one all = (one, tt)
  each_put name x (e ∷ es) one all = put_by (name_cmp name e.0) name x e es (with_value name x es) one all (each_put name x es one all.1)

  pub each_by_name : (entries now : List (Name × X)) → EachUnder entries → EachUnder now → EachUnder (fold (λ now e. with_value e.0 e.1 now) now entries)
  each_by_name [] now all there = there
  each_by_name (e ∷ es) now all there = each_by_name es (with_value e.0 e.1 now) all.1 (each_put e.0 e.1 now all.0 there)

-- ---- values

module _ (P : Value → Type 0) where
  abbrev pub Each : List Value → Type 0
  Each values = AllByRecursion P values

  abbrev pub EachField : Fields → Type 0
  EachField fields = EachUnder P fields

  -- P of what is at the next level
  abbrev pub Inside : Value-F Value DirVal FileVal → Type 0
  Inside (Value-F.List values) = Each values
  Inside (Value-F.Fields fields) = EachField fields
  Inside (Value-F.FileVal f) = Each (out-FileVal f).secondary
  Inside (Value-F.DirVal d) = IfSome (out-DirVal d).listing Each
  Inside _ = Unit {0}

  -- where P holds of a value it holds of what the value is made of, and where it holds of all of these it holds of the value
  pub record Passes : Type 0 where
    pub nothing : P value.Null
    pub whole : (n : ℤ) → P (value.Whole n)
    pub text : (s : List ℕ) → P (value.Text s)
    pub list : (values : List Value) → Each values → P (value.List values)
    pub fields : (fields : Fields) → EachField fields → P (value.Fields fields)
    pub inside : (v : Value) → P v → Inside (out-Value v)

  module _ (passes : Passes) where
    pub of_null : P null
    of_null = subst P (sym rolls-Null) passes.nothing

    pub of_list : (values : List Value) → Each values → P (list_of values)
    of_list values all = subst P (sym (rolls-List values)) (passes.list values all)

    pub or_null : (o : Option Value) → IfSome o P → P (unwrap_or o null)
    or_null None holds = of_null
    or_null (Some v) holds = holds

    pub under : (name : Name) (fields : Fields) → EachField fields → P (value_under name fields)
    under name fields all = or_null (value_at name fields) (if_under P name fields all)

    pub choice : (b : Bool) (v w : Value) → P v → P w → P (if b then v else w)
    choice true v w one other = one
    choice false v w one other = other

    -- ---- links

    items_of_form : (x : Value-F Value DirVal FileVal) (v : Value) → Inside x → P v → Each (form_items x v)
    items_of_form (Value-F.List items) v inside holds = inside
    items_of_form _ v inside holds = (holds, tt)

    items : (v : Value) → P v → Each (items_or_one v)
    items v holds = items_of_form (out-Value v) v (passes.inside v holds) holds

    all_items : (values : List Value) → Each values → Each (flat_map items_or_one values)
    all_items [] all = tt
    all_items (v ∷ vs) all = all_both P (items_or_one v) (flat_map items_or_one vs) (items v all.0) (all_items vs all.1)

    pub is_merged : (merge : Option Merge) (values : List Value) → Each values → P (merged merge values)
    is_merged None [] all = of_null
    is_merged None (v ∷ []) all = all.0
    is_merged None (v ∷ (w ∷ vs)) all = of_list (v ∷ (w ∷ vs)) all
    is_merged (Some Nested) values all = of_list values all
    is_merged (Some Flattened) values all = of_list (flat_map items_or_one values) (all_items values all)

    kept_if : (b : Bool) (v : Value) (vs : List Value) → P v → Each vs → Each (cond b (v ∷ vs) vs)
    kept_if true v vs one all = (one, all)
    kept_if false v vs one all = all

    something : (values : List Value) → Each values → Each (filter is_something values)
    something [] all = tt
    something (v ∷ vs) all = kept_if (is_something v) v (filter is_something vs) all.0 (something vs all.1)

    first_is : (values : List Value) → Each values → IfOk (the_first values) P
    first_is [] all = tt
    first_is (v ∷ vs) all = all.0

    only_is : (values : List Value) → Each values → IfOk (the_only values) P
    only_is [] all = tt
    only_is (v ∷ []) all = all.0
    only_is (v ∷ (w ∷ vs)) all = tt

    pub is_picked : (pick : Option Pick) (v : Value) → P v → IfOk (picked pick v) P
    is_picked None v holds = holds
    is_picked (Some FirstNonNull) v holds = first_is (choices v) (something (items_or_one v) (items v holds))
    is_picked (Some TheOnlyNonNull) v holds = only_is (choices v) (something (items_or_one v) (items v holds))
    is_picked (Some AllNonNull) v holds = of_list (choices v) (something (items_or_one v) (items v holds))

    or_value : (default : Option Value) (v : Value) → IfSome default P → P v → P (unwrap_or default v)
    or_value None v holds one = one
    or_value (Some d) v holds one = holds

    defaulted : (input : StepInput) (r : link.Gives Value) → IfSome input.default P → IfOk r P → IfOk (link.and_map (or_default input) r) P
    defaulted input (Err fault) default holds = tt
    defaulted input (Ok v) default holds = choice (has_source input && is_something v) v (unwrap_or input.default v) holds (or_value input.default v default holds)

    pub is_entry : (input : StepInput) (v : Value) → IfSome input.default P → P v → IfOk (step_input input v) P
    is_entry input v default holds = defaulted input (picked input.links.pick v) default (is_picked input.links.pick v holds)

    -- ---- references

    if_then : {S : Type 0} (R : S → Type 0) (r : Gives S) (f : S → Gives Value) → IfOk r R → ((x : S) → R x → IfOk (f x) P) → IfOk (and_then r f) P
    if_then R (Ok x) f here next = next x here
    if_then R (Err e) f here next = tt

    some_ok : (o : Option Value) (e : RefFault) → IfSome o P → IfOk (ok_or o e) P
    some_ok None e holds = tt
    some_ok (Some v) e holds = holds

    one_ok : (b : Bool) (r s : Gives Value) → IfOk r P → IfOk s P → IfOk (if b then r else s) P
    one_ok true r s one other = one
    one_ok false r s one other = other

    abbrev EachKey : List (Name × Option Value) → Type 0
    EachKey table = EachUnder (λ (o : Option Value). IfSome o P) table

    joined_some : (o : Option (Option Value)) → IfSome o (λ (o : Option Value). IfSome o P) → IfSome (option_and_then (λ v. v) o) P
    joined_some None holds = tt
    joined_some (Some o) holds = holds

    by_table : (key : Name) (table : List (Name × Option Value)) → EachKey table → IfSome (at_key key table) P
    by_table key table all = joined_some (value_at key table) (if_under (λ (o : Option Value). IfSome o P) key table all)

    a_text : (o : Option (List ℕ)) → IfSome (text_of o) P
    a_text None = tt
    a_text (Some s) = passes.text s

    some_list : (values : List Value) → Each values → IfSome (unless_empty values) P
    some_list [] all = tt
    some_list (v ∷ vs) all = passes.list (v ∷ vs) all

    size_in : (b : Bool) (n : ℕ) → IfSome (if b then Some (value.Whole (pos n)) else None) P
    size_in true n = passes.whole (pos n)
    size_in false n = tt

    a_size : (o : Option ℕ) → IfSome (option_and_then whole_of o) P
    a_size None = tt
    a_size (Some n) = size_in (nat_lt n (2 ^ 63)) n

    of_file : (with_places : Bool) (f : FileVal-F Value DirVal FileVal) → Each f.secondary → EachKey (file_keys with_places f)
    of_file with_places f all = (
      a_text f.basename,
      (
        a_text f.checksum,
        (
          passes.text (codes "File"),
          (
            a_text f.contents,
            (
              a_text (option_map dirname (path_of with_places f.place)),
              (
                a_text (option_map location_of (path_of with_places f.place)),
                (
                  a_text (option_map nameext f.basename),
                  (
                    a_text (option_map nameroot f.basename),
                    (
                      a_text (path_of with_places f.place),
                      (
                        some_list f.secondary all,
                        (a_size f.size, tt),
                      ),
                    ),
                  ),
                ),
              ),
            ),
          ),
        ),
      ),
    )

    ordered : (values sorted : List Value) → Each values → Each sorted → Each (fold with_entry sorted values)
    ordered [] sorted all there = there
    ordered (v ∷ vs) sorted all there =
        ordered vs (with_entry sorted v) all.1 (all_insert P sorted (length sorted - suffix_len (is_before v) sorted) v there all.0)

    a_listing : (o : Option (List Value)) → IfSome o Each → IfSome (option_map (λ vs. value.List (in_order vs)) o) P
    a_listing None all = tt
    a_listing (Some vs) all = passes.list (in_order vs) (ordered vs [] all tt)

    of_dir : (with_places : Bool) (d : DirVal-F Value DirVal FileVal) → IfSome d.listing Each → EachKey (dir_keys with_places d)
    of_dir with_places d all = (
      a_text d.basename,
      (
        passes.text (codes "Directory"),
        (
          a_listing d.listing all,
          (
            a_text (option_map location_of (path_of with_places d.place)),
            (a_text (path_of with_places d.place), tt),
          ),
        ),
      ),
    )

    has_key : (with_places is_last : Bool) (key : Name) (x : Value-F Value DirVal FileVal) → Inside x → IfOk (by_key with_places is_last key x) P
    has_key with_places is_last key (Value-F.Fields fields) all = some_ok (value_at key fields) NoField (if_under P key fields all)
    has_key with_places is_last key (Value-F.FileVal f) all =
        some_ok (at_key key (file_keys with_places (out-FileVal f))) NoField (by_table key (file_keys with_places (out-FileVal f)) (of_file with_places (out-FileVal f) all))
    has_key with_places is_last key (Value-F.DirVal d) all =
        some_ok (at_key key (dir_keys with_places (out-DirVal d))) NoField (by_table key (dir_keys with_places (out-DirVal d)) (of_dir with_places (out-DirVal d) all))
    has_key with_places is_last key (Value-F.List items) all =
        one_ok (is_last && bytes_eq key (codes "length")) (Ok (value.Whole (pos (length items)))) (Err WrongKind) (passes.whole (pos (length items))) tt
    has_key with_places is_last key _ all = tt

    has_index : (n : ℕ) (x : Value-F Value DirVal FileVal) → Inside x → IfOk (by_index n x) P
    has_index n (Value-F.List items) all = some_ok (slice_get items n) IndexOut (if_get P n items all)
    has_index n (Value-F.Text text) all = some_ok (option_map value.Text (character text n)) IndexOut (a_text (character text n))
    has_index n _ all = tt

    has_step : (with_places is_last : Bool) (s : Segment) (v : Value) → P v → IfOk (step with_places is_last s v) P
    has_step with_places is_last (Key key) v holds = has_key with_places is_last key (out-Value v) (passes.inside v holds)
    has_step with_places is_last (Index digits) v holds = has_index (number_of digits) (out-Value v) (passes.inside v holds)

    goes_down : (with_places : Bool) (ss : List Segment) (v : Value) → P v → IfOk (descent with_places ss v) P
    goes_down with_places [] v holds = holds
    goes_down with_places (s ∷ ss) v holds =
        if_then P (step with_places (is_none_left ss) s v) (descent with_places ss) (has_step with_places (is_none_left ss) s v holds) (goes_down with_places ss)

    module _ (inputs : Fields) (own : Value) (all : EachField inputs) (self : P own) where
      has_root : (symbol : Name) → IfOk (root inputs None own symbol) P
      has_root symbol =
          one_ok (bytes_eq symbol (codes "inputs")) _ _ (passes.fields inputs all)
          (one_ok (bytes_eq symbol (codes "runtime")) _ _ tt
          (one_ok (bytes_eq symbol (codes "self")) _ _ self
          (one_ok (bytes_eq symbol (codes "null")) _ _ passes.nothing tt)))

      has_reference : (r : Reference) → IfOk (reference_value inputs None own r) P
      has_reference r = if_then P (root inputs None own r.symbol) (descent (has_outdir None) r.segments) (has_root r.symbol) (goes_down (has_outdir None) r.segments)

      as_text : (r : Gives (List ℕ)) → IfOk (and_map value.Text r) P
      as_text (Ok s) = passes.text s
      as_text (Err e) = tt

      has_text : (o : Option Reference) (ps : List Part) → IfOk (value_or_text inputs None own o ps) P
      has_text (Some reference) ps = has_reference reference
      has_text None ps = as_text (joined inputs None own ps)

      pub has_template : (ps : List Part) → IfOk (template_value inputs None own ps) P
      has_template ps = has_text (alone ps) ps

    -- ---- valueFrom

    module _ (fields : Fields) (all : EachField fields) where
      self_is : (input : NamedInput) → P (own_value input fields)
      self_is input = choice (has_source input.1) (value_under input.0 fields) null (under input.0 fields all) of_null

      referred : (r : Gives Value) → IfOk r P → IfOk (by_reference r) P
      referred (Ok v) holds = holds
      referred (Err e) holds = tt

      from_parts : (parts : Option (List Part)) (input : NamedInput) → IfOk (from_template parts input fields) P
      from_parts None input = under input.0 fields all
      from_parts (Some parts) input = referred (template_value fields None (own_value input fields) parts) (has_template fields (own_value input fields) all (self_is input) parts)

      put_on : (r : link.Gives Value) (f : Value → link.Gives Fields) → IfOk r P → ((v : Value) → P v → IfOk (f v) EachField) → IfOk (link.and_then r f) EachField
      put_on (Ok v) f here next = next v here
      put_on (Err e) f here next = tt

      all_put : (inputs : List NamedInput) (there : Fields) → EachField there → IfOk (values_put fields inputs there) EachField
      all_put [] there holds = holds
      all_put (input ∷ inputs) there holds =
          put_on (value_from fields input) (λ v. values_put fields inputs (with_value input.0 v there)) (from_parts input.1.value_from input)
          (λ v one. all_put inputs (with_value input.0 v there) (each_put P input.0 v there one holds))

      pub are_put : (inputs : List NamedInput) → IfOk (value_froms inputs fields) EachField
      are_put inputs = all_put inputs [] tt

    -- ---- scatters

    item_of_form : (n : ℕ) (x : Value-F Value DirVal FileVal) → Inside x → P (item_in n x)
    item_of_form n (Value-F.List items) all = or_null (slice_get items n) (if_get P n items all)
    item_of_form n _ all = of_null

    is_item : (o : Option ℕ) (v : Value) → P v → P (item_at o v)
    is_item None v holds = holds
    is_item (Some n) v holds = item_of_form n (out-Value v) (passes.inside v holds)

    pub are_items : (names : List Name) (tuple : List ℕ) (fields : Fields) → EachField fields → EachField (at_tuple names tuple fields)
    are_items names tuple fields all =
        each_by_name P (map (λ f. (f.0, item_at (index_for f.0 names tuple) f.1)) fields) []
        (all_map (λ (f : Name × Value). (f.0, item_at (index_for f.0 names tuple) f.1)) (λ f. P f.1) (λ f. P f.1) (λ f holds. is_item (index_for f.0 names tuple) f.1 holds) fields all) tt

    beside_is : (tuples : List (List ℕ)) (values : List Value) (tuple : List ℕ) → Each values → P (value_beside tuples values tuple)
    unfolding value_beside
    beside_is [] values tuple all = of_null
    beside_is (t ∷ ts) [] tuple all = of_null
    beside_is (t ∷ ts) (v ∷ vs) tuple all = choice (bytes_eq t tuple) v (value_beside ts vs tuple) all.0 (beside_is ts vs tuple all.1)

    nested_is : (lengths : List ℕ) (at : List ℕ → Value) → ((tuple : List ℕ) → P (at tuple)) → P (nested lengths at)
    unfolding nested
    nested_is [] at holds = holds []
    nested_is (n ∷ ns) at holds =
        of_list (map (λ index. nested ns (λ tuple. at (index ∷ tuple))) (below n))
        (all_made (λ (index : ℕ). nested ns (λ tuple. at (index ∷ tuple))) P (λ index. nested_is ns (λ tuple. at (index ∷ tuple)) (λ tuple. holds (index ∷ tuple))) (below n))

    filled_is : (method : Method) (lengths : List ℕ) (at : List ℕ → Value) → ((tuple : List ℕ) → P (at tuple)) → P (filled method lengths at)
    filled_is NestedCrossproduct lengths at holds = nested_is lengths at holds
    filled_is Dotproduct lengths at holds = of_list (map at (tuples_of Dotproduct lengths)) (all_made at P holds (tuples_of Dotproduct lengths))
    filled_is FlatCrossproduct lengths at holds = of_list (map at (tuples_of FlatCrossproduct lengths)) (all_made at P holds (tuples_of FlatCrossproduct lengths))

    pub is_gathered : (method : Method) (lengths : List ℕ) (values : List Value) → Each values → P (gathered method lengths values)
    is_gathered method lengths values all =
        filled_is method lengths (value_beside (tuples_of method lengths) values) (λ tuple. beside_is (tuples_of method lengths) values tuple all)
