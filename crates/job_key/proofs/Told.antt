-- Equal keys are the texts of equal JSON, whose members are the inputs and the tool.
use Rattle.std.proofs.Common.{◌≡◌, ℕ, Bool, true, false, true≢false, IsTrue, ◌||◌, ◌++◌, cond, codes, List, [], ◌∷◌, Option, Some, None, refl, sym, ap, subst, ◌∙◌, map}
use Rattle.std.specs.List.{fold, list_any}
use Rattle.std.specs.Prelude.{unwrap_or, option_map, bytes_eq}
use Rattle.std.proofs.lemmas.List.{append_assoc}
use Rattle.std.proofs.lemmas.Slice.Eq.{bytes_eq-Decides}
use Rattle.json.specs.Print.{escape_byte}
use Rattle.plain_data.specs.ByName.{value_at}
use Rattle.serde_json.specs.Data.{Data, null, object, Members, no_members, member, put}
use Rattle.serde_json.specs.Find.{get_member}
use Rattle.serde_json.specs.View.{items_of}
use Rattle.serde_json.specs.Written.{compact_text}
use Rattle.serde_json.proofs.Views.{get_member-put, get_member-put_other}
use Rattle.cwl_value.specs.Canonical.{HasWholeNumbers, ItemsHaveWholeNumbers, MembersHaveWholeNumbers}
use Rattle.cwl_value.specs.Erased.{erased}
use Rattle.cwl_value.specs.Json.{json_of}
use Rattle.cwl_value.specs.Plain.{IsPlain}
use Rattle.cwl_value.specs.declared.value.Value.{Value}
use Rattle.cwl_value.specs.declared.value.Value.TheVariants.{Null}
use Rattle.cwl_value.proofs.Texts.{texts_tell_json_apart}
use Rattle.cwl_value.proofs.Told.{json_tells_values_apart}
use Rattle.cwl_value.proofs.Whole.{put-whole, json_of-whole}
use Rattle.cwl_value.proofs.JsonOf.{json_of-Null}
use Rattle.cwl_process.specs.declared.tool.Tool.{Tool}
use Rattle.cwl_process.specs.declared.tool.ToolInput.{ToolInput}
use Rattle.job_key.specs.Key.{Fields, input_json, inputs_members, inputs_json, variable_json, variables_json, variables_of, key}
use Rattle.job_key.specs.Laws.{erased_input, IsTold, AreEqualJobs, KeysTellJobsApart}

-- ---- the key is the text of one object

abbrev key_json : Data → Data → Data → Data
key_json env inputs tool = object (member (codes "env") env (member (codes "inputs") inputs (member (codes "tool") tool no_members)))

key_is : (tool : Tool) (given : Fields) (d : Data) → tool.written ≡ compact_text d
    → key tool given ≡ compact_text (key_json (variables_json (variables_of tool)) (inputs_json tool.inputs given) d)
unfolding escape_byte
key_is tool given d is =
    let env = compact_text (variables_json (variables_of tool)) in
    let inputs = compact_text (inputs_json tool.inputs given) in
    let end = tool.written ++ codes "}" in
    let from_inputs = inputs ++ (codes ",\"tool\":" ++ end) in
    ap (λ rest. codes "{\"env\":" ++ rest)
    (append_assoc (env ++ codes ",\"inputs\":" ++ inputs ++ codes ",\"tool\":") tool.written (codes "}")
    ∙ append_assoc (env ++ codes ",\"inputs\":" ++ inputs) (codes ",\"tool\":") end
    ∙ append_assoc (env ++ codes ",\"inputs\":") inputs (codes ",\"tool\":" ++ end)
    ∙ append_assoc env (codes ",\"inputs\":") from_inputs)
    ∙ ap (λ text. codes "{\"env\":" ++ (env ++ (codes ",\"inputs\":" ++ (inputs ++ (codes ",\"tool\":" ++ (text ++ codes "}")))))) is

-- ---- an erased input is plain, and its JSON has whole numbers

plain_in : (o : Option Value) → ((v : Value) → o ≡ Some v → IsPlain (erased v)) → IsPlain (unwrap_or (option_map erased o) Null)
plain_in None h = IsPlain.null
plain_in (Some v) h = h v refl

json_in : (o : Option Value) → unwrap_or (option_map (λ v. json_of (erased v)) o) null ≡ json_of (unwrap_or (option_map erased o) Null)
json_in None = sym json_of-Null
json_in (Some v) = refl

module _ (given : Fields) (plain : (name : List ℕ) (v : Value) → value_at name given ≡ Some v → IsPlain (erased v)) where
  is_plain : (name : List ℕ) → IsPlain (erased_input given name)
  is_plain name = plain_in (value_at name given) (plain name)

  input_whole : (name : List ℕ) → HasWholeNumbers (input_json given name)
  input_whole name = subst HasWholeNumbers (sym (json_in (value_at name given))) (json_of-whole _ (is_plain name))

  inputs_whole : (inputs : List (List ℕ × ToolInput)) (ms : Members) → MembersHaveWholeNumbers ms
      → MembersHaveWholeNumbers (fold (λ members (m : List ℕ × Data). put m.0 m.1 members) ms (map (λ (i : List ℕ × ToolInput). (i.0, input_json given i.0)) inputs))
  inputs_whole [] ms h = h
  inputs_whole (i ∷ inputs) ms h = inputs_whole inputs (put i.0 (input_json given i.0) ms) (put-whole i.0 (input_json given i.0) ms (input_whole i.0) h)

-- ---- the JSON of variables tells them

variables_whole : (variables : List (List ℕ × List ℕ)) → ItemsHaveWholeNumbers (items_of (map variable_json variables))
variables_whole [] = tt
variables_whole (v ∷ variables) = ((tt, (tt, tt)), variables_whole variables)

same_variables : (a b : List (List ℕ × List ℕ)) → items_of (map variable_json a) ≡ items_of (map variable_json b) → a ≡ b
same_variables [] [] same = refl
same_variables [] (w ∷ b) same = absurd cc
same_variables (v ∷ a) [] same = absurd cc
same_variables (v ∷ a) (w ∷ b) same =
    let names : v.0 ≡ w.0 = cc in
    let texts : v.1 ≡ w.1 = cc in
    let rest : a ≡ b = same_variables a b cc in
    (λ i. (names i, texts i) ∷ rest i)

-- ---- what stands under a name

abbrev under : Bool → Data → Option Data → Option Data
under b d o = cond b (Some d) o

after_put : (b c : Bool) (k id : List ℕ) (f : List ℕ → Data) (ms : Members) → bytes_eq k id ≡ b → under c (f k) (get_member k (put id (f id) ms)) ≡ under (b || c) (f k) (get_member k ms)
after_put true true k id f ms is = refl
after_put true false k id f ms is = let same : k ≡ id = (bytes_eq-Decides k id).0 is in rw same (get_member-put id (f id) ms)
after_put false true k id f ms is = refl
after_put false false k id f ms is = get_member-put_other k id (f id) ms (λ same. absurd (true≢false (sym ((bytes_eq-Decides k id).1 same) ∙ is)))

member_at : (f : List ℕ → Data) (k : List ℕ) (inputs : List (List ℕ × ToolInput)) (ms : Members)
    → get_member k (fold (λ members (m : List ℕ × Data). put m.0 m.1 members) ms (map (λ (i : List ℕ × ToolInput). (i.0, f i.0)) inputs)) ≡ under (list_any (λ i. bytes_eq k i.0) inputs) (f k) (get_member k ms)
member_at f k [] ms = refl
member_at f k (i ∷ inputs) ms = member_at f k inputs (put i.0 (f i.0) ms) ∙ after_put _ _ k i.0 f ms refl

same_flag : (b c : Bool) (d e : Data) → under b d None ≡ under c e None → b ≡ c
same_flag true true d e h = refl
same_flag true false d e h = absurd cc
same_flag false true d e h = absurd cc
same_flag false false d e h = refl

same_data : (b c : Bool) (d e : Data) → under b d None ≡ under c e None → IsTrue b → d ≡ e
same_data true true d e h _ = cc
same_data true false d e h _ = absurd cc
same_data false c d e h never = absurd (true≢false (sym never))

-- ---- equal keys

told : (t u : Tool) (a b : Fields) → IsTold t a → IsTold u b → key t a ≡ key u b → AreEqualJobs t u a b
told t u a b p q same =
    let d = p.written.0 in
    let e = q.written.0 in
    let json_a = key_json (variables_json (variables_of t)) (inputs_json t.inputs a) d in
    let json_b = key_json (variables_json (variables_of u)) (inputs_json u.inputs b) e in
    let whole_a : HasWholeNumbers json_a = (variables_whole (variables_of t), (inputs_whole a p.plain t.inputs no_members tt, (p.written.1, tt))) in
    let whole_b : HasWholeNumbers json_b = (variables_whole (variables_of u), (inputs_whole b q.plain u.inputs no_members tt, (q.written.1, tt))) in
    let one = texts_tell_json_apart json_a json_b whole_a whole_b (sym (key_is t a d p.written.2) ∙ same ∙ key_is u b e q.written.2) in
    let variables : items_of (map variable_json (variables_of t)) ≡ items_of (map variable_json (variables_of u)) = cc in
    let inputs : inputs_members t.inputs a ≡ inputs_members u.inputs b = cc in
    let tools : d ≡ e = cc in
    let at = λ (name : List ℕ). sym (member_at (input_json a) name t.inputs no_members) ∙ ap (get_member name) inputs ∙ member_at (input_json b) name u.inputs no_members in
    record {
      tool = p.written.2 ∙ ap compact_text tools ∙ sym q.written.2;
      environment = same_variables (variables_of t) (variables_of u) variables;
      names = λ name. same_flag _ _ _ _ (at name);
      values = λ name is. json_tells_values_apart _ _ (is_plain a p.plain name) (is_plain b q.plain name)
          (sym (json_in (value_at name a)) ∙ same_data _ _ _ _ (at name) is ∙ json_in (value_at name b));
    }

pub keys_tell_jobs_apart : KeysTellJobsApart
keys_tell_jobs_apart = told
