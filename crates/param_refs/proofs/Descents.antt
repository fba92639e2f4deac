-- The descent, step by step.
use Rattle.std.proofs.Common.{◌≡◌, ◌==◌, ℕ, suc, ◌+◌, ◌<◌, add-one, ne_eqb, arith, Bool, List, [], ◌∷◌, ◌++◌, length, drop, drop-cons, get_or, Some, None, option_map, Ok, Err, refl, sym, ap, ◌∙◌, append_assoc, rules}
use Rattle.std.specs.Option.{ok_or}
use Rattle.cwl_value.specs.declared.value.Value.{Value, the_lemmas}
use Rattle.cwl_value.specs.declared.value.Value as value
use Rattle.param_refs.specs.Descent.{Gives, and_then, and_map, step, descent, is_none_left, character, number_of}
use Rattle.param_refs.specs.declared.fault.RefFault.{RefFault}
use Rattle.param_refs.specs.declared.fault.RefFault.TheVariants.{WrongKind, IndexOut}
use Rattle.param_refs.specs.declared.template.Segment.{Segment}
use Rattle.param_refs.specs.declared.template.Segment.TheVariants.{Key, Index}

-- one step, and then the rest
pub descent-step : (with_places : Bool) (s : Segment) (ss : List Segment) (v w : Value) → step with_places (is_none_left ss) s v ≡ Ok w → descent with_places (s ∷ ss) v ≡ descent with_places ss w
descent-step with_places s ss v w h = rw h refl

pub descent-stop : (with_places : Bool) (s : Segment) (ss : List Segment) (v : Value) (e : RefFault) → step with_places (is_none_left ss) s v ≡ Err e → descent with_places (s ∷ ss) v ≡ Err e
descent-stop with_places s ss v e h = rw h refl

-- a text has indexes alone

text_key : (with_places is_last : Bool) (key text : List ℕ) → step with_places is_last (Key key) (value.Text text) ≡ Err WrongKind
text_key with_places is_last key text = search (rules, the_lemmas)

text_index : (with_places is_last : Bool) (digits text : List ℕ) → step with_places is_last (Index digits) (value.Text text) ≡ ok_or (option_map value.Text (character text (number_of digits))) IndexOut
text_index with_places is_last digits text = search (rules, the_lemmas)

pub descent-text_key : (with_places : Bool) (key text : List ℕ) (ss : List Segment) → descent with_places (Key key ∷ ss) (value.Text text) ≡ Err WrongKind
descent-text_key with_places key text ss = descent-stop with_places (Key key) ss (value.Text text) WrongKind (text_key with_places (is_none_left ss) key text)

pub descent-text_index : (with_places : Bool) (digits text found : List ℕ) (ss : List Segment) → character text (number_of digits) ≡ Some found
    → descent with_places (Index digits ∷ ss) (value.Text text) ≡ descent with_places ss (value.Text found)
descent-text_index with_places digits text found ss h =
    descent-step with_places (Index digits) ss (value.Text text) (value.Text found) (text_index with_places (is_none_left ss) digits text ∙ ap (λ o. ok_or (option_map value.Text o) IndexOut) h)

pub descent-text_past : (with_places : Bool) (digits text : List ℕ) (ss : List Segment) → character text (number_of digits) ≡ None → descent with_places (Index digits ∷ ss) (value.Text text) ≡ Err IndexOut
descent-text_past with_places digits text ss h =
    descent-stop with_places (Index digits) ss (value.Text text) IndexOut (text_index with_places (is_none_left ss) digits text ∙ ap (λ o. ok_or (option_map value.Text o) IndexOut) h)

-- the same in a loop over the segments

cut_here : (ss : List Segment) (i : ℕ) (s : Segment) → i < length ss → s ≡ get_or ss i s → drop i ss ≡ s ∷ drop (i + 1) ss
cut_here ss i s within is = drop-cons ss i s within ∙ ap (λ q. q ∷ drop (suc i) ss) (sym is) ∙ ap (λ n. s ∷ drop n ss) (sym (add-one i))

pub text_more : (with_places : Bool) (ss : List Segment) (i : ℕ) (s : Segment) (digits text found : List ℕ) (all : Gives Value) → i < length ss → s ≡ get_or ss i s → s ≡ Index digits
    → character text (number_of digits) ≡ Some found → all ≡ descent with_places (drop i ss) (value.Text text) → all ≡ descent with_places (drop (i + 1) ss) (value.Text found)
text_more with_places ss i s digits text found all within is kind here before =
    before ∙ ap (λ xs. descent with_places xs (value.Text text)) (cut_here ss i s within is ∙ ap (λ q. q ∷ drop (i + 1) ss) kind) ∙ descent-text_index with_places digits text found (drop (i + 1) ss) here

pub text_key_stop : (with_places : Bool) (ss : List Segment) (i : ℕ) (s : Segment) (key text : List ℕ) (all : Gives Value) → i < length ss → s ≡ get_or ss i s → s ≡ Key key
    → all ≡ descent with_places (drop i ss) (value.Text text) → all ≡ Err WrongKind
text_key_stop with_places ss i s key text all within is kind before =
    before ∙ ap (λ xs. descent with_places xs (value.Text text)) (cut_here ss i s within is ∙ ap (λ q. q ∷ drop (i + 1) ss) kind) ∙ descent-text_key with_places key text (drop (i + 1) ss)

pub text_past_stop : (with_places : Bool) (ss : List Segment) (i : ℕ) (s : Segment) (digits text : List ℕ) (all : Gives Value) → i < length ss → s ≡ get_or ss i s → s ≡ Index digits
    → character text (number_of digits) ≡ None → all ≡ descent with_places (drop i ss) (value.Text text) → all ≡ Err IndexOut
text_past_stop with_places ss i s digits text all within is kind here before =
    before ∙ ap (λ xs. descent with_places xs (value.Text text)) (cut_here ss i s within is ∙ ap (λ q. q ∷ drop (i + 1) ss) kind) ∙ descent-text_past with_places digits text (drop (i + 1) ss) here

-- the first segment of several

pub none_left : (ss : List Segment) → (length ss == 0) ≡ is_none_left ss
none_left [] = refl
none_left (s ∷ ss) = ne_eqb (length (s ∷ ss)) 0 (λ h. omega arith)

pub descended : (with_places is_last : Bool) (all : List Segment) (s : Segment) (ss : List Segment) (v w : Value) → all ≡ s ∷ ss → is_last ≡ (length ss == 0) → step with_places is_last s v ≡ Ok w
    → descent with_places all v ≡ descent with_places ss w
descended with_places is_last all s ss v w parts last h =
    ap (λ xs. descent with_places xs v) parts ∙ descent-step with_places s ss v w (ap (λ b. step with_places b s v) (sym (last ∙ none_left ss)) ∙ h)

pub stopped : (with_places is_last : Bool) (all : List Segment) (s : Segment) (ss : List Segment) (v : Value) (e : RefFault) → all ≡ s ∷ ss → is_last ≡ (length ss == 0) → step with_places is_last s v ≡ Err e
    → descent with_places all v ≡ Err e
stopped with_places is_last all s ss v e parts last h =
    ap (λ xs. descent with_places xs v) parts ∙ descent-stop with_places s ss v e (ap (λ b. step with_places b s v) (sym (last ∙ none_left ss)) ∙ h)

pub no_segments : (with_places : Bool) (all : List Segment) (v : Value) → length all ≡ 0 → descent with_places all v ≡ Ok v
no_segments with_places [] v none = refl
no_segments with_places (s ∷ ss) v none = absurd (omega arith)

-- parts joined, one after another

pub join_more : (front text : List ℕ) (r : Gives (List ℕ)) → and_map (λ rest. front ++ rest) (and_then (Ok text) (λ t. and_map (λ rest. t ++ rest) r)) ≡ and_map (λ rest. (front ++ text) ++ rest) r
join_more front text (Ok rest) = ap Ok (sym (append_assoc front text rest))
join_more front text (Err e) = refl
