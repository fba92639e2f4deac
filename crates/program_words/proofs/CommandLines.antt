-- What `clap`'s contracts say of the program's command and of its words.
use Rattle.std.proofs.Common.{◌≡◌, ◌∙◌, ap, ap₂, refl, subst, sym, true, ℕ, List, [], Option, Some, None, Bor, codes, option_map}
use Rattle.std.specs.Prelude.{unwrap_or}
use Rattle.clap.specs.declared.error.Error.{Error}
use Rattle.clap.specs.Words.{App, HasKind, Row, Text, fault_of, found_of, is_simple, is_simple_and_free, rows_of, subcommand_name_of, subcommand_of, subcommand_rows, subcommand_rows_of}
use Rattle.clap.specs.declared.parser.matches.ArgMatches.{ArgMatches}
use Rattle.clap.specs.declared.parser.matches.ArgMatches.TheViews.{out-ArgMatches, out-SubCommand}
use Rattle.std.specs.Box.{box_value}
use Rattle.clap.proofs.OnLiterals.{clap_on_literals}
use Rattle.program_words.specs.CommandLine.{Asks, Wish, asks, check_wish, command_line, wished}

simple : is_simple command_line ≡ true
unfolding clap_on_literals
simple = refl

simple_and_free : is_simple_and_free command_line ≡ true
unfolding clap_on_literals
simple_and_free = refl

-- words that are taken ask for what their subcommand asks for
pub asked : (a : App) (words : List Text) (wish : Wish) (rows : Option (Text × List Row))
    → a ≡ command_line
    → (is_simple a ≡ true → rows ≡ subcommand_of a words)
    → (is_simple_and_free a ≡ true → fault_of a words ≡ [])
    → wish ≡ wished rows
    → Asks words wish
asked a words wish rows is_it matches kinds chosen =
    let rows_are : rows ≡ subcommand_of command_line words =
    subst (λ (b : App). is_simple b ≡ true → rows ≡ subcommand_of b words) is_it matches simple in
    let taken : fault_of command_line words ≡ [] =
    subst (λ (b : App). is_simple_and_free b ≡ true → fault_of b words ≡ []) is_it kinds simple_and_free in
    subst (λ (w : Wish). Asks words w) (sym (chosen ∙ ap wished rows_are)) (asks taken)

-- words that are refused have a kind of this command's
pub refused_by : (a : App) (words : List Text) (error : Error)
    → a ≡ command_line → (is_simple_and_free a ≡ true → HasKind (fault_of a words) error) → HasKind (fault_of command_line words) error
refused_by a words error is_it kinds =
    subst (λ (b : App). is_simple_and_free b ≡ true → HasKind (fault_of b words) error) is_it kinds simple_and_free

abbrev got : {A : Type 0} → A → Option A → A
got other None = other
got other (Some x) = x

abbrev paired : {A B C : Type 0} → (A → B) → (A → C) → A → B × C
paired f g x = (f x, g x)

abbrev some_pair : {B C : Type 0} → B → C → Option (B × C)
some_pair b c = Some (b, c)

both : {A B C : Type 0} (f : A → B) (g : A → C) (o : Option A) (b : B) (c : C)
    → option_map f o ≡ Some b → option_map (λ (p : B × C). p.1) (option_map (paired f g) o) ≡ Some c
    → option_map (paired f g) o ≡ some_pair b c
both f g None b c by_first by_second = cc
both f g (Some x) b c by_first by_second = ap₂ some_pair (ap (got b) by_first) (ap (got c) by_second)

-- the text that is read, or another where there is none
pub or_other : (given : Option (Bor (List ℕ))) (text other : Bor (List ℕ)) (o : Option Text) (t : Text)
    → option_map (λ s. s.now) given ≡ o → text ≡ unwrap_or given other → other.now ≡ t → text.now ≡ unwrap_or o t
or_other None text other o t is_o is_it is_other =
    ap (λ (s : Bor (List ℕ)). s.now) is_it ∙ subst (λ (p : Option Text). other.now ≡ unwrap_or p t) is_o is_other
or_other (Some s) text other o t is_o is_it is_other =
    ap (λ (s : Bor (List ℕ)). s.now) is_it ∙ subst (λ (p : Option Text). s.now ≡ unwrap_or p t) is_o refl

-- what the matches of a subcommand hold
pub named_rows : (m words : ArgMatches) (name : Text)
    → subcommand_name_of m ≡ Some name
    → option_map (λ (p : Text × List Row). p.1) (subcommand_rows (out-ArgMatches m).subcommand) ≡ Some (rows_of (found_of words))
    → subcommand_rows_of m ≡ some_pair name (rows_of (found_of words))
named_rows m words name named rows =
    both (λ b. (out-SubCommand (box_value b)).name.now) (λ b. rows_of (found_of (out-SubCommand (box_value b)).matches))
    (out-ArgMatches m).subcommand name (rows_of (found_of words)) named rows

-- what is read of the matches of `check`
pub check_wished : (m words : ArgMatches) (wish : Wish)
    → subcommand_name_of m ≡ Some (codes "check")
    → option_map (λ (p : Text × List Row). p.1) (subcommand_rows (out-ArgMatches m).subcommand) ≡ Some (rows_of (found_of words))
    → wish ≡ check_wish (rows_of (found_of words))
    → wish ≡ wished (subcommand_rows_of m)
check_wished m words wish name rows is_it = is_it ∙ ap wished (sym (named_rows m words (codes "check") name rows))
