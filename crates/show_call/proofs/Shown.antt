-- What is said in place of a run ends the program.
use Rattle.std.proofs.Common.{◌≡◌, ◌∙◌, ◌++◌, ◌+◌, ◌<◌, ap, ℕ, List, [], ◌∷◌, length, map, take, get_or, codes, append_assoc, arith, Option, Some, None, subst, sym, Result, IfOk}
use Rattle.std.specs.Prelude.{flat_map}
use Rattle.std.proofs.lemmas.List.{flat_map_more, map-append, take-map, take_more}
use Rattle.std.proofs.lemmas.Fmt.{decimal_digit}
use Rattle.std.proofs.lemmas.Result.{IfOk-weaker}
use Rattle.std.specs.declared.alloc.AllocError.{AllocError}
use Rattle.clap.specs.Words.{Text}
use Rattle.command_line.specs.Launch.{IsLaunch, IsRefused}
use Rattle.command_line.specs.declared.fault.BuildFault.{BuildFault}
use Rattle.command_line.specs.declared.launch.Launch.{Launch}
use Rattle.command_line.specs.declared.runtime.Runtime.{Runtime}
use Rattle.cwl_process.specs.declared.tool.Tool.{Tool}
use Rattle.job_graph.specs.Words.{Fields}
use Rattle.job_graph.specs.declared.cause.Cause.TheVariants as equations
use Rattle.run_rules.specs.Folders.{job_folder, out_folder, tmp_folder}
use Rattle.run_rules.specs.declared.outcome.Cause.TheVariants as causes
use Rattle.program_words.specs.RunWords.{RunWish}
use Rattle.program_words.specs.ShellWords.{IsLineOf}
use Rattle.program_words.specs.Visible.{visible}
use Rattle.run_given.specs.Stops.{IsStop}
use Rattle.end_words.specs.declared.exit.Exit.{Exit}
use Rattle.end_words.specs.declared.exit.Exit.TheVariants as exits
use Rattle.end_words.specs.declared.exit.Fault.TheVariants as faults
use Rattle.run_given.specs.declared.given.Given.{Given}
use Rattle.end_words.specs.declared.run_end.RunEnd.{RunEnd}
use Rattle.run_given.specs.declared.stop.Stop.{Stop}
use Rattle.run_given.specs.declared.stop.Stop.TheVariants.{Early}
use Rattle.run_given.specs.Paths.{from_root}
use Rattle.run_given.specs.Named.{IsNotGiven, IsReady}
use Rattle.show_call.specs.Showings.{IsAskedShown, IsCommandEnd, IsEndOfShowing, IsShown, command, failed, first_runtime, line_below, lost, misfit, misfit_of, no_command, not_given, shown, shows}
use Rattle.run_given.proofs.Stops.{ends_as, run_ends_so, stop_so}

abbrev ends : (words : RunWish) (path : Text) → Exit → Option Text → Type 0
ends words path exit left = IsEndOfShowing words path exit

pub shown_without_folder : (words : RunWish) (path : Text) (answer : Result RunEnd AllocError)
    → IfOk answer (λ end. end.exit ≡ exits.Fault faults.Folder) → IfOk answer (λ end. end.left ≡ None)
    → IfOk answer (λ end. IsEndOfShowing words path end.exit)
shown_without_folder words path answer is gone = ends_as (ends words path) _ answer lost is gone

pub shown_without_given : (here : Text) (words : RunWish) (path : Text) (stop : Stop) (answer : Result RunEnd AllocError)
    → IsStop (IsNotGiven here words) stop → IfOk answer (λ end. stop ≡ Early end.exit) → IfOk answer (λ end. end.left ≡ None)
    → IfOk answer (λ end. IsEndOfShowing words path end.exit)
shown_without_given here words path stop answer is same gone =
    run_ends_so (ends words path) stop answer (stop_so _ _ (λ exit end. not_given here end) stop is) same gone

pub shows_given : (here : Text) (words : RunWish) (path : Text) (given : Given) (answer : Result RunEnd AllocError)
    → IsReady here words given → IfOk answer (λ end. IsShown here words path given end.exit)
    → IfOk answer (λ end. IsEndOfShowing words path end.exit)
shows_given here words path given answer ready is = IfOk-weaker answer _ _ (λ end s. shows here given ready s) is

-- each value fits that has to
pub shown_as : (here : Text) (words : RunWish) (path : Text) (given : Given) (answer : Result RunEnd AllocError)
    → misfit_of words given ≡ None → IfOk answer (λ end. IsAskedShown words.shows given (first_runtime here words path) end.exit)
    → IfOk answer (λ end. IsShown here words path given end.exit)
shown_as here words path given answer fits ended = IfOk-weaker answer _ _ (λ end is. shown fits is) ended

-- or one does not
pub misfits : (here : Text) (words : RunWish) (path : Text) (given : Given) (input : Text) (answer : Result RunEnd AllocError)
    → misfit_of words given ≡ Some input → IfOk answer (λ end. end.exit ≡ failed (causes.Equation (equations.Kind input)))
    → IfOk answer (λ end. IsShown here words path given end.exit)
misfits here words path given input answer is ended =
    IfOk-weaker answer _ _ (λ end e. subst (λ (exit : Exit). IsShown here words path given exit) (sym e) (misfit input is)) ended

-- ---- what is shown

one_more : {X : Type 0} (f : X → List ℕ) (xs : List X) (i : ℕ) (x : X) → i < length xs → x ≡ get_or xs i x
    → take i (map f xs) ++ f x ∷ [] ≡ take (i + 1) (map f xs)
one_more f xs i x within is =
    let more : take (i + 1) xs ≡ take i xs ++ x ∷ [] = take_more xs i x within ∙ ap (λ y. take i xs ++ y ∷ []) (sym is) in
    ap (λ texts. texts ++ f x ∷ []) (take-map f i xs) ∙ sym (map-append f (take i xs) (x ∷ [])) ∙ ap (map f) (sym more) ∙ sym (take-map f (i + 1) xs)

below_more : {X : Type 0} (text : List ℕ) (f : X → List ℕ) (xs : List X) (i : ℕ) (x : X) → i < length xs → x ≡ get_or xs i x
    → (text ++ flat_map line_below (take i (map f xs))) ++ line_below (f x) ≡ text ++ flat_map line_below (take (i + 1) (map f xs))
below_more text f xs i x within is =
    flat_map_more line_below text (take i (map f xs)) (f x) ∙ ap (λ texts. text ++ flat_map line_below texts) (one_more f xs i x within is)

-- one more line below the others, behind a line's end
pub pushed_below : {X : Type 0} (text : List ℕ) (f : X → List ℕ) (xs : List X) (i : ℕ) (x : X) (before broken after line : List ℕ)
    → i < length xs → x ≡ get_or xs i x → before ≡ text ++ flat_map line_below (take i (map f xs))
    → broken ≡ before ++ codes "\n" → after ≡ broken ++ line → line ≡ visible (f x)
    → after ≡ text ++ flat_map line_below (take (i + 1) (map f xs))
pushed_below text f xs i x before broken after line within is so_far ended is_pushed is_line =
    is_pushed ∙ ap (λ t. t ++ line) ended ∙ append_assoc before (codes "\n") line ∙ ap (λ l. before ++ (codes "\n" ++ l)) is_line
    ∙ ap (λ t. t ++ line_below (f x)) so_far ∙ below_more text f xs i x within is

first_folder : (work : Text) → work ++ codes "/j0" ≡ job_folder work 0
first_folder work = sym (append_assoc work (codes "/j") (codes "0")) ∙ ap (λ number. work ++ codes "/j" ++ number) (sym (decimal_digit 0 (omega arith)))

in_first : (work name : Text) → work ++ (codes "/j0" ++ name) ≡ job_folder work 0 ++ name
in_first work name = sym (append_assoc work (codes "/j0") name) ∙ ap (λ folder. folder ++ name) (first_folder work)

-- the folders of the first job
pub runs_first : (here : Text) (words : RunWish) (path work outdir tmpdir : Text) (runtime : Runtime)
    → work ≡ from_root here words.work → runtime ≡ record { outdir = outdir; tmpdir = tmpdir; path_env = path }
    → outdir ≡ work ++ codes "/j0/out" → tmpdir ≡ work ++ codes "/j0/tmp" → runtime ≡ first_runtime here words path
runs_first here words path work outdir tmpdir runtime named is at_out at_tmp =
    let out : outdir ≡ out_folder (from_root here words.work) 0 = at_out ∙ in_first work (codes "/out") ∙ ap (λ w. out_folder w 0) named in
    let tmp : tmpdir ≡ tmp_folder (from_root here words.work) 0 = at_tmp ∙ in_first work (codes "/tmp") ∙ ap (λ w. tmp_folder w 0) named in
    cc

-- the line of the launch that was built
pub command_shown : (tool : Tool) (values asked : Fields) (runtime first : Runtime) (launch : Launch) (answer : Result Exit AllocError)
    → values ≡ asked → runtime ≡ first → IsLaunch tool values runtime launch
    → IfOk answer (λ exit. (line : Text) × IsLineOf launch line × (exit ≡ exits.Output line)) → IfOk answer (IsCommandEnd tool asked first)
command_shown tool values asked runtime first launch answer same at is said =
    let is_asked = subst (λ (v : Fields). IsLaunch tool v first launch) same (subst (λ (r : Runtime). IsLaunch tool values r launch) at is) in
    IfOk-weaker answer _ _ (λ exit s. subst (λ (e : Exit). IsCommandEnd tool asked first e) (sym s.2) (command launch s.0 is_asked s.1)) said

-- or why there is none
pub command_refused : (tool : Tool) (values asked : Fields) (runtime first : Runtime) (fault : BuildFault) (answer : Result Exit AllocError)
    → values ≡ asked → runtime ≡ first → IsRefused tool values runtime fault
    → IfOk answer (λ exit. exit ≡ failed (causes.Build fault)) → IfOk answer (IsCommandEnd tool asked first)
command_refused tool values asked runtime first fault answer same at is said =
    let is_asked = subst (λ (v : Fields). IsRefused tool v first fault) same (subst (λ (r : Runtime). IsRefused tool values r fault) at is) in
    IfOk-weaker answer _ _ (λ exit s. subst (λ (e : Exit). IsCommandEnd tool asked first e) (sym s) (no_command fault is_asked)) said
