-- The parts of a key, from its members.
use Rattle.std.proofs.Common.{◌≡◌, ◌++◌, ℕ, List, [], ◌∷◌, Option, Some, None, String, IfNone, IfSome, append-nil, append_assoc, codes, string_bytes, subst, sym}
use Rattle.std.specs.declared.alloc.Global.{Global}
use Rattle.serde_json.specs.Data.{Data, Members}
use Rattle.serde_json.specs.Find.{get}
use Rattle.serde_json.specs.View.{view, members_view}
use Rattle.serde_json.specs.declared.value.Value.{Value}
use Rattle.run_facts.specs.KeyTexts.{ArePartsOf, AreTextsOf, HasNoParts, IsNoObject, IsObjectOf, IsTextOf, ended, joined, member_text, without_inputs, without_tool}

abbrev pub Entry : Type 0
Entry = String Global × Value

abbrev pub Texts : Type 0
Texts = List (List ℕ × List ℕ)

-- texts of the members that are left make texts of all
abbrev pub Completes : (all : Members) (left : List Entry) (found : Texts) → Type 0
Completes all left found = (rest : Texts) → AreTextsOf (members_view left) rest → AreTextsOf all (found ++ rest)

pub texts_more : (all : Members) (left next : List Entry) (e : Entry) (found new : Texts) (key text : List ℕ) → Completes all left found →
    left ≡ e ∷ next → key ≡ string_bytes e.0 → IsTextOf (view e.1) text → new ≡ found ++ (key, text) ∷ [] → Completes all next new
texts_more all left next e found new key text before steps named is_text pushed rest are =
    let own : AreTextsOf (members_view (e ∷ next)) ((string_bytes e.0, text) ∷ rest) = member_text is_text are in
    let at_left : AreTextsOf (members_view left) ((string_bytes e.0, text) ∷ rest)
    = subst (λ (es : List Entry). AreTextsOf (members_view es) ((string_bytes e.0, text) ∷ rest)) (sym steps) own in
    let at_key : AreTextsOf (members_view left) ((key, text) ∷ rest)
    = subst (λ (k : List ℕ). AreTextsOf (members_view left) ((k, text) ∷ rest)) (sym named) at_left in
    let whole : AreTextsOf all (found ++ ((key, text) ∷ rest)) = before ((key, text) ∷ rest) at_key in
    let same : (found ++ ((key, text) ∷ [])) ++ rest ≡ found ++ ((key, text) ∷ rest) = append_assoc found ((key, text) ∷ []) rest in
    subst (λ (ts : Texts). AreTextsOf all (ts ++ rest)) (sym pushed) (subst (λ (ts : Texts). AreTextsOf all ts) (sym same) whole)

pub texts_ended : (all : Members) (left : List Entry) (found : Texts) → Completes all left found → left ≡ [] → AreTextsOf all found
texts_ended all left found before none =
    let last : AreTextsOf (members_view left) [] = subst (λ (es : List Entry). AreTextsOf (members_view es) []) (sym none) ended in
    subst (λ (ts : Texts). AreTextsOf all ts) (append-nil found) (before [] last)

module _ (key env : Data) (text : List ℕ) (has_env : get (codes "env") key ≡ Some env) (is_text : IsTextOf env text) where
  pub parts_joined : (inputs tool : Option (List (List ℕ × List ℕ))) →
      IfSome inputs (IsObjectOf (get (codes "inputs") key)) → IfSome tool (IsObjectOf (get (codes "tool") key)) → IfSome (joined text inputs tool) (ArePartsOf key)
  parts_joined None tool with_inputs with_tool = tt
  parts_joined (Some inputs) None with_inputs with_tool = tt
  parts_joined (Some inputs) (Some tool) with_inputs with_tool = record {
    env = env;
    has_env = has_env;
    env_text = is_text;
    inputs = with_inputs;
    tool = with_tool;
  }

  pub none_joined : (inputs tool : Option (List (List ℕ × List ℕ))) →
      IfNone inputs (IsNoObject (get (codes "inputs") key)) → IfNone tool (IsNoObject (get (codes "tool") key)) → IfNone (joined text inputs tool) (HasNoParts key)
  none_joined None tool without_inputs_ without_tool_ = without_inputs without_inputs_
  none_joined (Some inputs) None without_inputs_ without_tool_ = without_tool without_tool_
  none_joined (Some inputs) (Some tool) without_inputs_ without_tool_ = tt
