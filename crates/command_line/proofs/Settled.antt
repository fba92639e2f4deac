-- A tool, its inputs and what it runs in have one launch at most, and none where they are refused.
use Rattle.std.proofs.Common.{◌≡◌, ℕ, Bool, true, false, List, [], ◌++◌, Result, Ok, Err, sym, ap, subst, ◌∙◌}
use Rattle.std.specs.List.{flat_map}
use Rattle.std.specs.Result.{IsOk, result_unwrap_or}
use Rattle.std.proofs.lemmas.List.Elements.{All-contains}
use Rattle.cwl_value.specs.declared.value.Value.{Value}
use Rattle.cwl_process.specs.declared.tool.Tool.{Tool}
use Rattle.command_line.specs.declared.fault.BuildFault.{BuildFault}
use Rattle.command_line.specs.declared.launch.Launch.{Launch}
use Rattle.command_line.specs.declared.runtime.Runtime.{Runtime}
use Rattle.command_line.specs.Launch.{IsLaunch, IsRefused}
use Rattle.command_line.specs.Order.{AreInOrder, Bound}
use Rattle.command_line.specs.Texts.{is_plain, runtime_value}
use Rattle.command_line.specs.Words.{AreWords, words_at, words_of}
use Rattle.command_line.proofs.Bindings.{key_total}
use Rattle.command_line.proofs.Rising.{rising_unique}

bound_same : (tool : Tool) (inputs : List (List ℕ × Value)) (one other : List Bound) → AreInOrder tool inputs one → AreInOrder tool inputs other → one ≡ other
bound_same tool inputs one other p q =
    rising_unique key_total one other p.rising q.rising
    (λ b. ((λ m. (q.members b).1 ((p.members b).0 m)), (λ m. (p.members b).1 ((q.members b).0 m))))

pub words_same : (tool : Tool) (inputs : List (List ℕ × Value)) (around : Value) (one other : List (List ℕ)) → AreWords tool inputs around one → AreWords tool inputs around other → one ≡ other
words_same tool inputs around one other p q =
    p.are
    ∙ ap (λ bound. tool.base_command ++ flat_map (words_at inputs around) bound) (bound_same tool inputs p.bound q.bound p.in_order q.in_order)
    ∙ sym q.are

-- two values that are both the answer
same_value : {T : Type 0} (r : Result T BuildFault) (one other : T) → r ≡ Ok one → r ≡ Ok other → one ≡ other
same_value r one other p q = ap (λ s. result_unwrap_or s one) (sym p ∙ q)

pub launch_same : (tool : Tool) (inputs : List (List ℕ × Value)) (runtime : Runtime) (one other : Launch) → IsLaunch tool inputs runtime one → IsLaunch tool inputs runtime other → one ≡ other
launch_same tool inputs runtime one other p q =
    let words : one.words ≡ other.words = words_same tool inputs (runtime_value runtime) one.words other.words p.words q.words in
    let env : one.env ≡ other.env = same_value _ one.env other.env p.env q.env in
    let stdin : one.stdin ≡ other.stdin = same_value _ one.stdin other.stdin p.stdin q.stdin in
    let stdout : one.stdout ≡ other.stdout = same_value _ one.stdout other.stdout p.stdout q.stdout in
    let stderr : one.stderr ≡ other.stderr = same_value _ one.stderr other.stderr p.stderr q.stderr in
    let dir : one.dir ≡ other.dir = p.dir ∙ sym q.dir in
    λ i. record { words = words i; env = env i; stdin = stdin i; stdout = stdout i; stderr = stderr i; dir = dir i }

not_both : (t : Bool) → t ≡ true → t ≡ false → ⊥
not_both t holds fails = cc

not_ok_and_err : {T : Type 0} (r : Result T BuildFault) (x : T) (fault : BuildFault) → r ≡ Ok x → r ≡ Err fault → ⊥
not_ok_and_err r x fault p q = let never : Ok x ≡ Err fault = sym p ∙ q in cc

not_err : {T : Type 0} (r : Result T BuildFault) (fault : BuildFault) → IsOk r → r ≡ Err fault → ⊥
not_err {T} r fault p q = let never : IsOk {T = T} (Err fault) = subst (λ (s : Result T BuildFault). IsOk s) q p in cc

pub launch_excludes : (tool : Tool) (inputs : List (List ℕ × Value)) (runtime : Runtime) (launch : Launch) (fault : BuildFault) → IsLaunch tool inputs runtime launch → IsRefused tool inputs runtime fault → ⊥
launch_excludes tool inputs runtime launch fault l (IsRefused.in_base_command word member bad) =
    not_both (is_plain word) (All-contains (λ w. is_plain w ≡ true) tool.base_command word l.plain_base member) bad
launch_excludes tool inputs runtime launch fault l (IsRefused.in_binding b cause member bad) =
    not_err (words_of inputs (runtime_value runtime) b) cause
    (All-contains (λ c. IsOk (words_of inputs (runtime_value runtime) c)) l.words.bound b l.words.all_there ((l.words.in_order.members b).1 member)) bad
launch_excludes tool inputs runtime launch fault l (IsRefused.in_env cause bad) = not_ok_and_err _ launch.env cause l.env bad
launch_excludes tool inputs runtime launch fault l (IsRefused.in_stdin cause bad) = not_ok_and_err _ launch.stdin cause l.stdin bad
launch_excludes tool inputs runtime launch fault l (IsRefused.in_stdout cause bad) = not_ok_and_err _ launch.stdout cause l.stdout bad
launch_excludes tool inputs runtime launch fault l (IsRefused.in_stderr cause bad) = not_ok_and_err _ launch.stderr cause l.stderr bad
launch_excludes tool inputs runtime launch fault l (IsRefused.in_folder bad) = not_both (is_plain runtime.outdir) l.plain_dir bad
launch_excludes tool inputs runtime launch fault l (IsRefused.no_word words) =
    l.some_word (words_same tool inputs (runtime_value runtime) launch.words [] l.words words)
