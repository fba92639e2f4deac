-- What was read has no value only by P3 to P6.
use Rattle.std.proofs.Common.{◌≡◌, ℕ, Bool, true, false, ◌&&◌, if◌then◌else◌, pos, List, [], ◌∷◌, ◌++◌, length, Option, Some, None, option_map, Ok, Err, subst, codes}
use Rattle.std.specs.Prelude.{bytes_eq, slice_get}
use Rattle.std.specs.Option.{ok_or}
use Rattle.plain_data.specs.ByName.{value_at}
use Rattle.cwl_value.specs.declared.value.Value.{Value, out-Value}
use Rattle.cwl_value.specs.declared.value.Value as value
use Rattle.cwl_value.specs.declared.value.Value.TheOpen.{Value-F}
use Rattle.cwl_value.specs.declared.value.FileVal.{FileVal, out-FileVal}
use Rattle.cwl_value.specs.declared.value.DirVal.{DirVal, out-DirVal}
use Rattle.param_refs.specs.Descent.{Gives, and_then, and_map, number_of, character, by_key, by_index, step, is_none_left, descent, has_outdir, root}
use Rattle.param_refs.specs.Evaluation.{alone, text_of_value, reference_value, part_text, joined, value_or_text, template_value}
use Rattle.param_refs.specs.Keys.{file_keys, dir_keys, at_key}
use Rattle.param_refs.specs.Laws.{IsOfValues}
use Rattle.param_refs.specs.declared.fault.RefFault.{RefFault}
use Rattle.param_refs.specs.declared.fault.RefFault.TheVariants.{NoName, NoField, WrongKind, IndexOut}
use Rattle.param_refs.specs.declared.template.Part.{Part}
use Rattle.param_refs.specs.declared.template.Part.TheVariants.{Plain, Referred}
use Rattle.param_refs.specs.declared.template.Reference.{Reference}
use Rattle.param_refs.specs.declared.template.Segment.{Segment}
use Rattle.param_refs.specs.declared.template.Segment.TheVariants.{Key, Index}

-- a value, or a fault of values
abbrev Sound : {T : Type 0} → Gives T → Type 0
Sound (Ok x) = Unit {0}
Sound (Err e) = IsOfValues e

no_name : IsOfValues NoName
no_name = (λ e. cc, λ e. cc)

no_field : IsOfValues NoField
no_field = (λ e. cc, λ e. cc)

wrong_kind : IsOfValues WrongKind
wrong_kind = (λ e. cc, λ e. cc)

index_out : IsOfValues IndexOut
index_out = (λ e. cc, λ e. cc)

sound_then : {S T : Type 0} (r : Gives S) (f : S → Gives T) → Sound r → ((x : S) → Sound (f x)) → Sound (and_then r f)
sound_then (Ok x) f here next = next x
sound_then (Err e) f here next = here

sound_map : {S T : Type 0} (f : S → T) (r : Gives S) → Sound r → Sound (and_map f r)
sound_map f (Ok x) here = tt
sound_map f (Err e) here = here

sound_or : {T : Type 0} (o : Option T) (e : RefFault) → IsOfValues e → Sound (ok_or o e)
sound_or None e h = h
sound_or (Some x) e h = tt

sound_if : {T : Type 0} (b : Bool) (r s : Gives T) → Sound r → Sound s → Sound (if b then r else s)
sound_if true r s one other = one
sound_if false r s one other = other

key_sound : (with_places is_last : Bool) (key : List ℕ) (v : Value-F Value DirVal FileVal) → Sound (by_key with_places is_last key v)
key_sound with_places is_last key Value-F.Null = wrong_kind
key_sound with_places is_last key (Value-F.Bool b) = wrong_kind
key_sound with_places is_last key (Value-F.Whole n) = wrong_kind
key_sound with_places is_last key (Value-F.Text s) = wrong_kind
key_sound with_places is_last key (Value-F.FileVal f) = sound_or (at_key key (file_keys with_places (out-FileVal f))) NoField no_field
key_sound with_places is_last key (Value-F.DirVal d) = sound_or (at_key key (dir_keys with_places (out-DirVal d))) NoField no_field
key_sound with_places is_last key (Value-F.List items) = sound_if (is_last && bytes_eq key (codes "length")) (Ok (value.Whole (pos (length items)))) (Err WrongKind) tt wrong_kind
key_sound with_places is_last key (Value-F.Fields fields) = sound_or (value_at key fields) NoField no_field

index_sound : (n : ℕ) (v : Value-F Value DirVal FileVal) → Sound (by_index n v)
index_sound n Value-F.Null = wrong_kind
index_sound n (Value-F.Bool b) = wrong_kind
index_sound n (Value-F.Whole k) = wrong_kind
index_sound n (Value-F.Text s) = sound_or (option_map value.Text (character s n)) IndexOut index_out
index_sound n (Value-F.FileVal f) = wrong_kind
index_sound n (Value-F.DirVal d) = wrong_kind
index_sound n (Value-F.List items) = sound_or (slice_get items n) IndexOut index_out
index_sound n (Value-F.Fields fields) = wrong_kind

step_sound : (with_places is_last : Bool) (s : Segment) (v : Value) → Sound (step with_places is_last s v)
step_sound with_places is_last (Key key) v = key_sound with_places is_last key (out-Value v)
step_sound with_places is_last (Index digits) v = index_sound (number_of digits) (out-Value v)

descent_sound : (with_places : Bool) (ss : List Segment) (v : Value) → Sound (descent with_places ss v)
descent_sound with_places [] v = tt
descent_sound with_places (s ∷ ss) v = sound_then (step with_places (is_none_left ss) s v) (descent with_places ss) (step_sound with_places (is_none_left ss) s v) (descent_sound with_places ss)

module _ (inputs : List (List ℕ × Value)) (runtime : Option Value) (own : Value) where
  root_sound : (symbol : List ℕ) → Sound (root inputs runtime own symbol)
  root_sound symbol =
      sound_if (bytes_eq symbol (codes "inputs")) _ _ tt
      (sound_if (bytes_eq symbol (codes "runtime")) _ _ (sound_or runtime NoName no_name)
      (sound_if (bytes_eq symbol (codes "self")) _ _ tt
      (sound_if (bytes_eq symbol (codes "null")) _ _ tt no_name)))

  reference_sound : (r : Reference) → Sound (reference_value inputs runtime own r)
  reference_sound r = sound_then (root inputs runtime own r.symbol) (descent (has_outdir runtime) r.segments) (root_sound r.symbol) (descent_sound (has_outdir runtime) r.segments)

  part_sound : (p : Part) → Sound (part_text inputs runtime own p)
  part_sound (Plain text) = tt
  part_sound (Referred reference) = sound_map text_of_value (reference_value inputs runtime own reference) (reference_sound reference)

  joined_sound : (ps : List Part) → Sound (joined inputs runtime own ps)
  joined_sound [] = tt
  joined_sound (p ∷ ps) =
      sound_then (part_text inputs runtime own p) (λ text. and_map (λ rest. text ++ rest) (joined inputs runtime own ps)) (part_sound p)
      (λ text. sound_map (λ rest. text ++ rest) (joined inputs runtime own ps) (joined_sound ps))

  value_sound : (o : Option Reference) (ps : List Part) → Sound (value_or_text inputs runtime own o ps)
  value_sound (Some reference) ps = reference_sound reference
  value_sound None ps = sound_map value.Text (joined inputs runtime own ps) (joined_sound ps)

  pub fails_by_values : (parts : List Part) (fault : RefFault) → template_value inputs runtime own parts ≡ Err fault → IsOfValues fault
  fails_by_values parts fault e = subst (λ (r : Gives Value). Sound r) e (value_sound (alone parts) parts)
