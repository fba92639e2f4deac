-- Finding one after another, up to the first refusal.
use Rattle.std.proofs.Common.{◌≡◌, ℕ, Bool, true, false, ◌||◌, List, [], ◌∷◌, ◌++◌, map, Ok, Err, inl, inr, refl, sym, ap, subst, ◌∙◌, ◌+◌, ◌<◌, length, get_or, take, drop, take-append-drop}
use Rattle.std.specs.Map.{keys_of}
use Rattle.std.proofs.lemmas.Bool.{or_right, true≢false}
use Rattle.std.proofs.lemmas.List.{map-append, take_more, drop_more}
use Rattle.std.proofs.lemmas.Simd.{map-map}
use Rattle.std.proofs.lemmas.List.Folds.{list_any-append}
use Rattle.plain_data.specs.ByName.{map_values, IsByName}
use Rattle.plain_data.proofs.ByName.{by_name_along, by_name_taken}
use Rattle.cwl_value.specs.declared.value.Value.{Value}
use Rattle.file_values.specs.Location.{Finds, and_map, and_then, Refuses}
use Rattle.cwl_value.specs.Fileless.{some_true}
use Rattle.file_values.specs.Resolved.{all_found, fields_found}
use Rattle.file_values.specs.declared.refusal.FileError.{FileError}
use Rattle.file_values.specs.declared.refusal.FileError.TheVariants.{Refused, OutOfMemory}
use Rattle.file_values.specs.declared.refusal.FileFault.{FileFault}

-- ---- refusals of a step are those of the whole

pub refused_here : {S T : Type 0} (r : Finds S) (f : S → Finds T) (long : Bool) (e : FileError) → Refuses r long e → Refuses (and_then r f) long e
refused_here r f long OutOfMemory h = tt
refused_here r f long (Refused e) (inl is) = inl (ap (λ r. and_then r f) is)
refused_here r f long (Refused e) (inr far) = inr far

pub refused_after : {S T : Type 0} (r : Finds S) (f : S → Finds T) (x : S) (long : Bool) (e : FileError) → r ≡ Ok x → Refuses (f x) long e → Refuses (and_then r f) long e
refused_after r f x long OutOfMemory before h = tt
refused_after r f x long (Refused e) before (inl is) = inl (ap (λ r. and_then r f) before ∙ is)
refused_after r f x long (Refused e) before (inr far) = inr far

pub refused_map : {S T : Type 0} (f : S → T) (r : Finds S) (long : Bool) (e : FileError) → Refuses r long e → Refuses (and_map f r) long e
refused_map f r long OutOfMemory h = tt
refused_map f r long (Refused e) (inl is) = inl (ap (and_map f) is)
refused_map f r long (Refused e) (inr far) = inr far

pub refused_left : {T : Type 0} (r : Finds T) (long other : Bool) (e : FileError) → Refuses r long e → Refuses r (long || other) e
refused_left r long other OutOfMemory h = tt
refused_left r long other (Refused e) (inl is) = inl is
refused_left r long other (Refused e) (inr far) = inr (far.0, ap (λ b. b || other) far.1)

pub refused_right : {T : Type 0} (r : Finds T) (other long : Bool) (e : FileError) → Refuses r long e → Refuses r (other || long) e
refused_right r other long OutOfMemory h = tt
refused_right r other long (Refused e) (inl is) = inl is
refused_right r other long (Refused e) (inr far) = inr (far.0, or_right other long far.1)

-- a refusal by the definition, whatever is long
pub refused_any : {T : Type 0} (r : Finds T) (long : Bool) (e : FileError) → Refuses r false e → Refuses r long e
refused_any r long OutOfMemory h = tt
refused_any r long (Refused e) (inl is) = inl is
refused_any r long (Refused e) (inr far) = absurd (true≢false (sym far.1))

pub moved : {T : Type 0} (r s : Finds T) (b c : Bool) (e : FileError) → r ≡ s → b ≡ c → Refuses s c e → Refuses r b e
moved r s b c e same flag h = subst (λ x. Refuses x b e) (sym same) (subst (λ x. Refuses s x e) (sym flag) h)

module _ {T : Type 0} where
  alone : (r : Finds (List T)) → r ≡ and_map (λ xs. [] ++ xs) r
  alone (Ok xs) = refl
  alone (Err e) = refl

  joins : (x : T) (r s : Finds (List T)) → and_map (λ xs. x ∷ xs) (and_then r (λ xs. and_map (λ ys. xs ++ ys) s)) ≡ and_then (and_map (λ xs. x ∷ xs) r) (λ xs. and_map (λ ys. xs ++ ys) s)
  joins x (Ok xs) (Ok ys) = refl
  joins x (Ok xs) (Err e) = refl
  joins x (Err e) s = refl

  all_found-append : (rs ss : List (Finds T)) → all_found (rs ++ ss) ≡ and_then (all_found rs) (λ xs. and_map (λ ys. xs ++ ys) (all_found ss))
  all_found-append [] ss = alone (all_found ss)
  all_found-append (Ok x ∷ rs) ss = ap (and_map (λ xs. x ∷ xs)) (all_found-append rs ss) ∙ joins x (all_found rs) (all_found ss)
  all_found-append (Err e ∷ rs) ss = refl

  -- one more
  all_found-push : (rs : List (Finds T)) (r : Finds T) (xs : List T) (x : T) → all_found rs ≡ Ok xs → r ≡ Ok x → all_found (rs ++ r ∷ []) ≡ Ok (xs ++ x ∷ [])
  all_found-push rs r xs x before now = all_found-append rs (r ∷ []) ∙ rw (before, now) refl

  -- the first refusal is that of the whole
  all_found-stop : (rs : List (Finds T)) (r : Finds T) (rest : List (Finds T)) (xs : List T) (e : FileFault) → all_found rs ≡ Ok xs → r ≡ Err e → all_found (rs ++ r ∷ rest) ≡ Err e
  all_found-stop rs r rest xs e before now = all_found-append rs (r ∷ rest) ∙ rw (before, now) refl

some_true-there : (before after : List Bool) (flag : Bool) → flag ≡ true → some_true (before ++ flag ∷ after) ≡ true
some_true-there before after flag is =
    list_any-append (λ b. b) before (flag ∷ after) ∙ or_right (some_true before) (flag || some_true after) (ap (λ b. b || some_true after) is)

module _ {S T : Type 0} (f : S → Finds T) where
  pub found_more : (done : List S) (x : S) (found : List T) (y : T) → all_found (map f done) ≡ Ok found → f x ≡ Ok y → all_found (map f (done ++ x ∷ [])) ≡ Ok (found ++ y ∷ [])
  found_more done x found y before now = ap all_found (map-append f done (x ∷ [])) ∙ all_found-push (map f done) (f x) found y before now

  pub found_stop : (g : S → Bool) (done : List S) (x : S) (rest : List S) (found : List T) (e : FileError) → all_found (map f done) ≡ Ok found → Refuses (f x) (g x) e
      → Refuses (all_found (map f (done ++ x ∷ rest))) (some_true (map g (done ++ x ∷ rest))) e
  found_stop g done x rest found OutOfMemory before h = tt
  found_stop g done x rest found (Refused e) before (inl is) =
      inl (ap all_found (map-append f done (x ∷ rest)) ∙ all_found-stop (map f done) (f x) (map f rest) found e before is)
  found_stop g done x rest found (Refused e) before (inr far) =
      inr (far.0, ap some_true (map-append g done (x ∷ rest)) ∙ some_true-there (map g done) (map g rest) (g x) far.1)

-- at an index of a list
whole : {S : Type 0} (xs : List S) (k : ℕ) (x : S) → k < length xs → x ≡ get_or xs k x → xs ≡ take k xs ++ x ∷ drop (k + 1) xs
whole xs k x within is = sym (take-append-drop k xs) ∙ ap (λ l. take k xs ++ l) (drop_more xs k x within ∙ ap (λ y. y ∷ drop (k + 1) xs) (sym is))

module _ {S T : Type 0} (f : S → Finds T) where
  pub items_more : (xs : List S) (k : ℕ) (x : S) (found : List T) (y : T) → k < length xs → x ≡ get_or xs k x → all_found (map f (take k xs)) ≡ Ok found → f x ≡ Ok y → all_found (map f (take (k + 1) xs)) ≡ Ok (found ++ y ∷ [])
  items_more xs k x found y within is before now =
      ap (λ l. all_found (map f l)) (take_more xs k x within ∙ ap (λ z. take k xs ++ z ∷ []) (sym is)) ∙ found_more f (take k xs) x found y before now

  pub items_stop : (g : S → Bool) (xs : List S) (k : ℕ) (x : S) (found : List T) (e : FileError) → k < length xs → x ≡ get_or xs k x → all_found (map f (take k xs)) ≡ Ok found → Refuses (f x) (g x) e
      → Refuses (all_found (map f xs)) (some_true (map g xs)) e
  items_stop g xs k x found e within is before now =
      subst (λ l. Refuses (all_found (map f l)) (some_true (map g l)) e) (sym (whole xs k x within is)) (found_stop f g (take k xs) x (drop (k + 1) xs) found e before now)

-- ---- fields

abbrev pub Field : Type 0 → Type 0
Field T = List ℕ × T

-- one field, by what its value gives
abbrev pub field_found : {S T : Type 0} → (S → Finds T) → Field S → Finds (Field T)
field_found f e = and_map (λ v. (e.0, v)) (f e.1)

fields-as_found : (f : Value → Finds Value) (es : List (Field Value)) → fields_found (map_values f es) ≡ all_found (map (field_found f) es)
fields-as_found f es = ap all_found (map-map (λ (e : Field (Finds Value)). and_map (λ v. (e.0, v)) e.1) (λ e. (e.0, f e.1)) es)

pub fields_more : (f : Value → Finds Value) (done : List (Field Value)) (e : Field Value) (found : List (Field Value)) (v : Value) → fields_found (map_values f done) ≡ Ok found → f e.1 ≡ Ok v
    → fields_found (map_values f (done ++ e ∷ [])) ≡ Ok (found ++ (e.0, v) ∷ [])
fields_more f done e found v before now =
    fields-as_found f (done ++ e ∷ []) ∙ found_more (field_found f) done e found (e.0, v) (sym (fields-as_found f done) ∙ before) (ap (and_map (λ v. (e.0, v))) now)

pub fields_stop : (f : Value → Finds Value) (g : Value → Bool) (done : List (Field Value)) (e : Field Value) (rest found : List (Field Value)) (why : FileError) → fields_found (map_values f done) ≡ Ok found → Refuses (f e.1) (g e.1) why
    → Refuses (fields_found (map_values f (done ++ e ∷ rest))) (some_true (map (λ e. e.1) (map_values g (done ++ e ∷ rest)))) why
fields_stop f g done e rest found why before now =
    let all = done ++ e ∷ rest in
    let stop = found_stop (field_found f) (λ e. g e.1) done e rest found why (sym (fields-as_found f done) ∙ before) (refused_map (λ (v : Value). (e.0, v)) (f e.1) (g e.1) why now) in
    let flags : some_true (map (λ e. e.1) (map_values g all)) ≡ some_true (map (λ e. g e.1) all) = ap some_true (map-map (λ (e : Field Bool). e.1) (λ e. (e.0, g e.1)) all) in
    subst (λ r. Refuses r (some_true (map (λ e. e.1) (map_values g all))) why) (sym (fields-as_found f all))
    (subst (λ flag. Refuses (all_found (map (field_found f) all)) flag why) (sym flags) stop)

-- the names stay
cut : (name : List ℕ) (r : Finds Value) (q : Finds (List (Field Value))) (found : List (Field Value)) → and_then (and_map (λ v. (name, v)) r) (λ x. and_map (λ xs. x ∷ xs) q) ≡ Ok found
    → (v : Value) × (vs : List (Field Value)) × (q ≡ Ok vs) × (found ≡ (name, v) ∷ vs)
cut name (Ok v) (Ok vs) found is = (v, vs, refl, cc)
cut name (Ok v) (Err e) found is = cc
cut name (Err e) q found is = cc

pub names_stay : (f : Value → Finds Value) (es found : List (Field Value)) → fields_found (map_values f es) ≡ Ok found → keys_of found ≡ keys_of es
names_stay f [] found is = let none : found ≡ [] = cc in ap keys_of none
names_stay f (e ∷ es) found is =
    let parts = cut e.0 (f e.1) (fields_found (map_values f es)) found is in
    ap keys_of parts.3 ∙ ap (λ ks. e.0 ∷ ks) (names_stay f es parts.1 parts.2)

pub fields_more_at : (f : Value → Finds Value) (es : List (Field Value)) (k : ℕ) (e : Field Value) (found : List (Field Value)) (v : Value) → k < length es → e ≡ get_or es k e → fields_found (map_values f (take k es)) ≡ Ok found → f e.1 ≡ Ok v
    → fields_found (map_values f (take (k + 1) es)) ≡ Ok (found ++ (e.0, v) ∷ [])
fields_more_at f es k e found v within is before now =
    ap (λ l. fields_found (map_values f l)) (take_more es k e within ∙ ap (λ z. take k es ++ z ∷ []) (sym is)) ∙ fields_more f (take k es) e found v before now

pub fields_stop_at : (f : Value → Finds Value) (g : Value → Bool) (es : List (Field Value)) (k : ℕ) (e : Field Value) (found : List (Field Value)) (why : FileError) → k < length es → e ≡ get_or es k e → fields_found (map_values f (take k es)) ≡ Ok found → Refuses (f e.1) (g e.1) why
    → Refuses (fields_found (map_values f es)) (some_true (map (λ e. e.1) (map_values g es))) why
fields_stop_at f g es k e found why within is before now =
    subst (λ l. Refuses (fields_found (map_values f l)) (some_true (map (λ e. e.1) (map_values g l))) why) (sym (whole es k e within is)) (fields_stop f g (take k es) e (drop (k + 1) es) found why before now)

-- and so does their order
pub fields_by_name : (f : Value → Finds Value) (n : ℕ) (entries found : List (Field Value)) → fields_found (map_values f (take n entries)) ≡ Ok found → IsByName entries → IsByName found
fields_by_name f n entries found is order = by_name_along (take n entries) found (names_stay f (take n entries) found is) (by_name_taken n entries order)
