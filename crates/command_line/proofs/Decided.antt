-- Each tool has a launch, or a cause of refusal holds.
use Rattle.std.proofs.Common.{◌≡◌, ℕ, Bool, true, false, List, [], ◌∷◌, ◌++◌, Option, Result, Ok, Err, Contains, refl, sym, ap, subst, ◌∙◌, ◌⊎◌, inl, inr, bytes_eq, Ordering, Less, Equal, Greater, arith}
use Rattle.std.specs.Prelude.{◌↔◌}
use Rattle.std.specs.Cmp.{IsTotalOrder}
use Rattle.std.specs.List.{AllByRecursion, IsDistinct, flat_map, list_all}
use Rattle.std.specs.List.Sorted.{IsStrictlySortedBy}
use Rattle.std.specs.Map.{keys_of}
use Rattle.std.specs.Ordering.{eq_by_cmp, is_eq, ordering_reverse}
use Rattle.std.specs.Result.{IsOk}
use Rattle.std.proofs.lemmas.List.Elements.{All-from_recursion, All-contains}
use Rattle.std.proofs.lemmas.List.Sums.{AllPass-from_list_all}
use Rattle.std.proofs.lemmas.Map.Keys.{IsDistinct-head, IsDistinct-tail, sorted_head, sorted_tail}
use Rattle.cwl_value.specs.declared.value.Value.{Value}
use Rattle.cwl_process.specs.declared.tool.Tool.{Tool}
use Rattle.command_line.specs.declared.fault.BuildFault.{BuildFault}
use Rattle.command_line.specs.declared.fault.LaunchText.{LaunchText}
use Rattle.command_line.specs.declared.launch.Launch.{Launch}
use Rattle.command_line.specs.declared.launch.Variable.{Variable}
use Rattle.command_line.specs.declared.runtime.Runtime.{Runtime}
use Rattle.command_line.specs.Environment.{environment_of}
use Rattle.command_line.specs.Launch.{IsLaunch, IsRefused}
use Rattle.command_line.specs.Order.{Bound, bindings_of, key_cmp}
use Rattle.command_line.specs.Streams.{stderr_of, stdin_of, stdout_of}
use Rattle.command_line.specs.Texts.{is_plain, runtime_value}
use Rattle.command_line.specs.Words.{AreWords, words_at, words_of}
use Rattle.command_line.proofs.Answered.{failing_element}
use Rattle.command_line.proofs.Bindings.{bindings_distinct, key_total}
use Rattle.command_line.proofs.Rising.{contains_cases, contains_first, contains_later}

-- Rising keys, one put in its place after the other

each_of : {K : Type 0} (P : K → Type 0) (ks : List K) → ((k : K) → Contains ks k → P k) → AllByRecursion P ks
each_of P [] holds = tt
each_of P (k ∷ ks) holds = (holds k (contains_first k ks), each_of P ks (λ m there. holds m (contains_later k m ks there)))

below : {K : Type 0} (R : K → K → Ordering) (k : K) (ks : List K) → IsStrictlySortedBy R (k ∷ ks) → (m : K) → Contains ks m → R k m ≡ Less
below R k ks rising m there = All-contains (λ l. R k l ≡ Less) ks m (All-from_recursion (λ l. R k l ≡ Less) ks (sorted_head R k ks rising)) there

sorted_cons : {K : Type 0} (R : K → K → Ordering) (k : K) (ks : List K) → ((m : K) → Contains ks m → R k m ≡ Less) → IsStrictlySortedBy R ks →
    IsStrictlySortedBy R (k ∷ ks)
unfolding IsStrictlySortedBy
sorted_cons R k ks first rising = (each_of (λ m. R k m ≡ Less) ks first, rising)

pub record Placed {K : Type 0} (R : K → K → Ordering) (x : K) (ks : List K) : Type 0 where
  pub keys : List K
  pub rising : IsStrictlySortedBy R keys
  pub members : (k : K) → Contains keys k ↔ Contains (x ∷ ks) k

swapped : {K : Type 0} (x k : K) (ks ls : List K) → ((m : K) → Contains ls m ↔ Contains (x ∷ ks) m) → (m : K) → Contains (k ∷ ls) m ↔ Contains (x ∷ k ∷ ks) m
swapped x k ks ls members m = (
  (λ there. elim (contains_cases k m ls there) [
    | inl is ↦ contains_later x m (k ∷ ks) (subst (λ n. Contains (k ∷ ks) n) is (contains_first k ks))
    | inr later ↦ elim (contains_cases x m ks ((members m).0 later)) [
      | inl is ↦ subst (λ n. Contains (x ∷ k ∷ ks) n) is (contains_first x (k ∷ ks))
      | inr last ↦ contains_later x m (k ∷ ks) (contains_later k m ks last)
    ]
  ]),
  (λ there. elim (contains_cases x m (k ∷ ks) there) [
    | inl is ↦ contains_later k m ls ((members m).1 (subst (λ n. Contains (x ∷ ks) n) is (contains_first x ks)))
    | inr later ↦ elim (contains_cases k m ks later) [
      | inl is ↦ subst (λ n. Contains (k ∷ ls) n) is (contains_first k ls)
      | inr last ↦ contains_later k m ls ((members m).1 (contains_later x m ks last))
    ]
  ]),
)

none_there : {K : Type 0} (k : K) → Contains [] k → ⊥
none_there k there = omega (arith, there.1)

module _ {K : Type 0} {R : K → K → Ordering} (order : IsTotalOrder R) where
  above_all : (x k : K) (ks : List K) → R x k ≡ Less → IsStrictlySortedBy R (k ∷ ks) → (m : K) → Contains (k ∷ ks) m → R x m ≡ Less
  above_all x k ks less rising m there = elim (contains_cases k m ks there) [
    | inl is ↦ subst (λ n. R x n ≡ Less) is less
    | inr later ↦ order.trans x k m less (below R k ks rising m later)
  ]

  below_all : (x k : K) (ks ls : List K) → R k x ≡ Less → IsStrictlySortedBy R (k ∷ ks) → ((m : K) → Contains ls m ↔ Contains (x ∷ ks) m) →
      (m : K) → Contains ls m → R k m ≡ Less
  below_all x k ks ls less rising members m there = elim (contains_cases x m ks ((members m).0 there)) [
    | inl is ↦ subst (λ n. R k n ≡ Less) is less
    | inr later ↦ below R k ks rising m later
  ]

  place_at : (x k : K) (ks : List K) (c : Ordering) → R x k ≡ c → IsStrictlySortedBy R (k ∷ ks) → (c ≡ Equal → ⊥) → Placed R x ks → Placed R x (k ∷ ks)
  place_at x k ks Less is rising apart rest = record {
    keys = x ∷ k ∷ ks;
    rising = sorted_cons R x (k ∷ ks) (above_all x k ks is rising) rising;
    members = λ m. ((λ there. there), (λ there. there));
  }
  place_at x k ks Equal is rising apart rest = absurd (apart refl)
  place_at x k ks Greater is rising apart rest =
      let less : R k x ≡ Less = order.antisymm k x ∙ ap ordering_reverse is in
      record {
        keys = k ∷ rest.keys;
        rising = sorted_cons R k rest.keys (below_all x k ks rest.keys less rising rest.members) rest.rising;
        members = swapped x k ks rest.keys rest.members;
      }

  place : (x : K) (ks : List K) → IsStrictlySortedBy R ks → AllByRecursion (λ k. eq_by_cmp R x k ≡ false) ks → Placed R x ks
  place x [] rising apart = record { keys = x ∷ []; rising = sorted_cons R x [] (λ m there. absurd (none_there m there)) rising; members = λ m. ((λ there. there), (λ there. there)) }
  place x (k ∷ ks) rising apart =
      place_at x k ks (R x k) refl rising (λ same. let never : true ≡ false = sym (ap is_eq same) ∙ apart.0 in cc) (place x ks (sorted_tail R k ks rising) apart.1)

-- The bindings of a tool, in order

pub record Ordered (bindings : List Bound) : Type 0 where
  pub bound : List Bound
  pub rising : IsStrictlySortedBy key_cmp bound
  pub members : (b : Bound) → Contains bound b ↔ Contains bindings b

no_bindings : Ordered []
unfolding IsStrictlySortedBy
no_bindings = record { bound = []; rising = tt; members = λ b. ((λ there. there), (λ there. there)) }

one_more : (b : Bound) (bindings : List Bound) → AllByRecursion (λ c. eq_by_cmp key_cmp b c ≡ false) bindings → Ordered bindings → Ordered (b ∷ bindings)
one_more b bindings apart others =
    let placed : Placed key_cmp b others.bound = place key_total b others.bound others.rising
    (each_of (λ c. eq_by_cmp key_cmp b c ≡ false) others.bound
    (λ c there. All-contains (λ d. eq_by_cmp key_cmp b d ≡ false) bindings c (All-from_recursion (λ d. eq_by_cmp key_cmp b d ≡ false) bindings apart) ((others.members c).0 there))) in
    record {
      bound = placed.keys;
      rising = placed.rising;
      members = λ c. (
        (λ there. elim (contains_cases b c others.bound ((placed.members c).0 there)) [
          | inl is ↦ subst (λ d. Contains (b ∷ bindings) d) is (contains_first b bindings)
          | inr later ↦ contains_later b c bindings ((others.members c).0 later)
        ]),
        (λ there. (placed.members c).1 (elim (contains_cases b c bindings there) [
          | inl is ↦ subst (λ d. Contains (b ∷ others.bound) d) is (contains_first b others.bound)
          | inr later ↦ contains_later b c others.bound ((others.members c).1 later)
        ])),
      );
    }

ordered : (bindings : List Bound) → IsDistinct (eq_by_cmp key_cmp) bindings → Ordered bindings
ordered [] distinct = no_bindings
ordered (b ∷ bs) distinct =
    one_more b bs (IsDistinct-head (eq_by_cmp key_cmp) b bs distinct) (ordered bs (IsDistinct-tail (eq_by_cmp key_cmp) b bs distinct))

-- A launch, where each part of it is there, and else the cause

decided : (b : Bool) → (b ≡ true) ⊎ (b ≡ false)
decided true = inl refl
decided false = inr refl

-- a value, or a cause
pub data Answer {T : Type 0} (r : Result T BuildFault) : Type 0 where
  given : (x : T) → r ≡ Ok x → Answer r
  refused : (fault : BuildFault) → r ≡ Err fault → Answer r

answer : {T : Type 0} (r : Result T BuildFault) → Answer r
answer (Ok x) = given x refl
answer (Err fault) = refused fault refl

is_ok_of : {T : Type 0} (r : Result T BuildFault) (x : T) → r ≡ Ok x → IsOk r
is_ok_of {T} r x is = subst (λ (s : Result T BuildFault). IsOk s) (sym is) refl

-- each of the bindings has words, or one of them has none
pub data EachHas (f : Bound → Result (List (List ℕ)) BuildFault) (bound : List Bound) : Type 0 where
  all_have : AllByRecursion (λ b. IsOk (f b)) bound → EachHas f bound
  one_lacks : (b : Bound) (fault : BuildFault) → Contains bound b → f b ≡ Err fault → EachHas f bound

module _ (f : Bound → Result (List (List ℕ)) BuildFault) where
  more : (b : Bound) (bs : List Bound) → Answer (f b) → EachHas f bs → EachHas f (b ∷ bs)
  more b bs (given words is) (all_have rest) = all_have (is_ok_of (f b) words is, rest)
  more b bs (given words is) (one_lacks c fault there bad) = one_lacks c fault (contains_later b c bs there) bad
  more b bs (refused fault is) rest = one_lacks b fault (contains_first b bs) is

  each_has : (bound : List Bound) → EachHas f bound
  each_has [] = all_have tt
  each_has (b ∷ bs) = more b bs (answer (f b)) (each_has bs)

module _ (tool : Tool) (inputs : List (List ℕ × Value)) (runtime : Runtime) where
  abbrev pub LaunchOrRefusal : Type 0
  LaunchOrRefusal = ((launch : Launch) × IsLaunch tool inputs runtime launch) ⊎ ((fault : BuildFault) × IsRefused tool inputs runtime fault)

  abbrev around : Value
  around = runtime_value runtime

  module _ (order : Ordered (bindings_of tool inputs)) where
    abbrev words : List (List ℕ)
    words = tool.base_command ++ flat_map (words_at inputs around) order.bound

    module _ (base : list_all is_plain tool.base_command ≡ true) (bound : AllByRecursion (λ b. IsOk (words_of inputs around b)) order.bound) (folder : is_plain runtime.outdir ≡ true) where
      are_words : (ws : List (List ℕ)) → words ≡ ws → AreWords tool inputs around ws
      are_words ws is = record {
        bound = order.bound;
        in_order = record { rising = order.rising; members = order.members };
        all_there = All-from_recursion (λ b. IsOk (words_of inputs around b)) order.bound bound;
        are = sym is;
      }

      by_words : (env : List Variable) (stdin stdout stderr : Option (List ℕ)) → environment_of inputs around runtime tool ≡ Ok env → stdin_of inputs around tool ≡ Ok stdin
          → stdout_of inputs around tool ≡ Ok stdout → stderr_of inputs around tool ≡ Ok stderr → (ws : List (List ℕ)) → words ≡ ws → LaunchOrRefusal
      by_words env stdin stdout stderr is_env is_stdin is_stdout is_stderr [] none = inr (BuildFault.EmptyCommand, IsRefused.no_word (are_words [] none))
      by_words env stdin stdout stderr is_env is_stdin is_stdout is_stderr (w ∷ ws) some = inl (
        record { words = w ∷ ws; env = env; stdin = stdin; stdout = stdout; stderr = stderr; dir = runtime.outdir },
        record {
          words = are_words (w ∷ ws) some;
          some_word = λ none. cc;
          plain_base = AllPass-from_list_all is_plain tool.base_command base;
          env = is_env;
          stdin = is_stdin;
          stdout = is_stdout;
          stderr = is_stderr;
          dir = refl;
          plain_dir = folder;
        },
      )

      by_answers : Answer (environment_of inputs around runtime tool) → Answer (stdin_of inputs around tool) → Answer (stdout_of inputs around tool) → Answer (stderr_of inputs around tool) → LaunchOrRefusal
      by_answers (refused fault is) stdin stdout stderr = inr (fault, IsRefused.in_env fault is)
      by_answers (given env p) (refused fault is) stdout stderr = inr (fault, IsRefused.in_stdin fault is)
      by_answers (given env p) (given stdin q) (refused fault is) stderr = inr (fault, IsRefused.in_stdout fault is)
      by_answers (given env p) (given stdin q) (given stdout r) (refused fault is) = inr (fault, IsRefused.in_stderr fault is)
      by_answers (given env p) (given stdin q) (given stdout r) (given stderr s) = by_words env stdin stdout stderr p q r s words refl

    by_folder : list_all is_plain tool.base_command ≡ true → AllByRecursion (λ b. IsOk (words_of inputs around b)) order.bound → LaunchOrRefusal
    by_folder base bound = elim (decided (is_plain runtime.outdir)) [
      | inl good ↦ by_answers base bound good (answer (environment_of inputs around runtime tool)) (answer (stdin_of inputs around tool)) (answer (stdout_of inputs around tool)) (answer (stderr_of inputs around tool))
      | inr bad ↦ inr (BuildFault.NotText LaunchText.Folder, IsRefused.in_folder bad)
    ]

    by_bindings : list_all is_plain tool.base_command ≡ true → EachHas (words_of inputs around) order.bound → LaunchOrRefusal
    by_bindings base (all_have bound) = by_folder base bound
    by_bindings base (one_lacks b fault there bad) = inr (fault, IsRefused.in_binding b fault ((order.members b).0 there) bad)

    by_base : LaunchOrRefusal
    by_base = elim (decided (list_all is_plain tool.base_command)) [
      | inl good ↦ by_bindings good (each_has (words_of inputs around) order.bound)
      | inr bad ↦ let found = failing_element is_plain tool.base_command bad in
          inr (BuildFault.NotText LaunchText.BaseCommand, IsRefused.in_base_command found.0 found.1 found.2)
    ]

  pub launch_or_refusal : IsDistinct bytes_eq (keys_of tool.inputs) → LaunchOrRefusal
  launch_or_refusal distinct = by_base (ordered (bindings_of tool inputs) (bindings_distinct inputs tool distinct))
