-- The groups of a value, level by level.
use Rattle.std.proofs.Common.{◌≡◌, ℕ, List, [], ◌∷◌, ◌++◌, map, length, take, Result, Ok, Err, OnOk, refl, sym, ap, ◌∙◌, rules}
use Rattle.std.specs.List.{flat_map}
use Rattle.std.proofs.Math.Seq.{take-length}
use Rattle.plain_data.specs.ByName.{map_values}
use Rattle.cwl_value.specs.declared.value.Value.{Value, the_lemmas}
use Rattle.cwl_value.specs.declared.value.Value as value
use Rattle.cwl_value.specs.declared.value.Value.TheOpen.{FileVal-F}
use Rattle.cwl_value.specs.declared.value.FileVal.{FileVal, out-FileVal, roll-FileVal}
use Rattle.cwl_value.specs.declared.value.DirVal.{DirVal}
use Rattle.staging.specs.declared.group.Member.{Member}
use Rattle.staging.specs.Groups.{path_of, name_of, Copied, copied, copied_file, groups_of_items, groups_of_fields}

pub flat_map-map : {X Y Z : Type 0} (f : Y → List Z) (g : X → Y) (xs : List X) → flat_map f (map g xs) ≡ flat_map (λ x. f (g x)) xs
flat_map-map f g [] = refl
flat_map-map f g (x ∷ xs) = ap (λ l. f (g x) ++ l) (flat_map-map f g xs)

list_level : (items : List Value) → (copied (value.List items)).groups ≡ flat_map (λ (c : Copied Value). c.groups) (map copied items)
list_level items = search (rules, the_lemmas)

fields_level : (fields : List (List ℕ × Value)) → (copied (value.Fields fields)).groups ≡ flat_map (λ (e : List ℕ × Copied Value). e.1.groups) (map_values copied fields)
fields_level fields = search (rules, the_lemmas)

pub list_groups : (v : Value) (items : List Value) (before after : List (List Member)) → v ≡ value.List items → after ≡ before ++ groups_of_items items → after ≡ before ++ (copied v).groups
list_groups v items before after is h =
    h ∙ ap (λ l. before ++ l) (sym (ap (λ (w : Value). (copied w).groups) is ∙ list_level items ∙ flat_map-map (λ (c : Copied Value). c.groups) copied items))

pub fields_groups : (v : Value) (fields : List (List ℕ × Value)) (before after : List (List Member)) → v ≡ value.Fields fields → after ≡ before ++ groups_of_fields fields → after ≡ before ++ (copied v).groups
fields_groups v fields before after is h =
    h ∙ ap (λ l. before ++ l) (sym (ap (λ (w : Value). (copied w).groups) is ∙ fields_level fields ∙ flat_map-map (λ (e : List ℕ × Copied Value). e.1.groups) (λ (e : List ℕ × Value). (e.0, copied e.1)) fields))

-- a File

abbrev pub own_of : FileVal-F Value DirVal FileVal → Member
own_of f = record { source = path_of f.place; name = name_of f.basename }

file-roll : (f : FileVal-F Value DirVal FileVal) → (copied_file (roll-FileVal f)).groups ≡ (own_of f ∷ flat_map (λ (c : Copied Value). c.own) (map copied f.secondary)) ∷ []
file-roll f = search (rules, the_lemmas)

pub file-out : (f : FileVal) → (copied_file f).groups ≡ (own_of (out-FileVal f) ∷ flat_map (λ (c : Copied Value). c.own) (map copied (out-FileVal f).secondary)) ∷ []
file-out f = search (rules, the_lemmas, file-roll)

pub file_groups : (f : FileVal) (group : List Member) (items : List Value) (i : ℕ) → items ≡ (out-FileVal f).secondary → i ≡ length items
    → group ≡ own_of (out-FileVal f) ∷ flat_map (λ v. (copied v).own) (take i items) → (copied_file f).groups ≡ group ∷ []
file_groups f group items i same end is =
    let all : take i items ≡ (out-FileVal f).secondary = ap (λ n. take n items) end ∙ take-length items ∙ same in
    file-out f
    ∙ ap (λ l. (own_of (out-FileVal f) ∷ l) ∷ []) (flat_map-map (λ (c : Copied Value). c.own) copied (out-FileVal f).secondary ∙ ap (flat_map (λ v. (copied v).own)) (sym all))
    ∙ ap (λ g. g ∷ []) (sym is)

pub on_ok_map : {T E : Type 0} (r : Result T E) (P Q : Type 0) → (P → Q) → OnOk r P → OnOk r Q
on_ok_map (Ok x) P Q f h = f h
on_ok_map (Err e) P Q f h = tt
