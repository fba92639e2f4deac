-- The lines on what became of the jobs, of their pieces.
use Rattle.std.proofs.Common.{◌≡◌, ◌∙◌, ◌++◌, ℕ, List, ap, codes}
use Rattle.program_words.specs.Savings.{effect, line}
use Rattle.program_words.proofs.JobLines.{five, nine, seven}

pub line_so : (jobs loaded computed rest effect a b c d e : List ℕ)
    → a ≡ jobs → b ≡ loaded → c ≡ computed → d ≡ rest → e ≡ effect
    → a ++ (codes ": " ++ (b ++ (codes " loaded, " ++ (c ++ (codes ", " ++ (d ++ (codes " not needed; " ++ e)))))))
    ≡ line jobs loaded computed rest effect
line_so jobs loaded computed rest effect a b c d e is_a is_b is_c is_d is_e =
    nine a (codes ": ") b (codes " loaded, ") c (codes ", ") d (codes " not needed; ") e
    ∙ ap (λ x. line x b c d e) is_a ∙ ap (λ x. line jobs x c d e) is_b ∙ ap (λ x. line jobs loaded x d e) is_c
    ∙ ap (λ x. line jobs loaded computed x e) is_d ∙ ap (λ x. line jobs loaded computed rest x) is_e

pub effect_so : (time gain files a b c : List ℕ) → a ≡ time → b ≡ gain → c ≡ files
    → a ++ (codes ", " ++ (b ++ (codes "; " ++ c))) ≡ effect time gain files
effect_so time gain files a b c is_a is_b is_c =
    five a (codes ", ") b (codes "; ") c
    ∙ ap (λ x. effect x b c) is_a ∙ ap (λ x. effect time x c) is_b ∙ ap (λ x. effect time gain x) is_c

abbrev pub plain : (jobs computed time files : List ℕ) → List ℕ
plain jobs computed time files = jobs ++ codes ": " ++ computed ++ codes "; " ++ time ++ codes "; " ++ files

pub plain_so : (jobs computed time files a b c d : List ℕ)
    → a ≡ jobs → b ≡ computed → c ≡ time → d ≡ files
    → a ++ (codes ": " ++ (b ++ (codes "; " ++ (c ++ (codes "; " ++ d))))) ≡ plain jobs computed time files
plain_so jobs computed time files a b c d is_a is_b is_c is_d =
    seven a (codes ": ") b (codes "; ") c (codes "; ") d
    ∙ ap (λ x. plain x b c d) is_a ∙ ap (λ x. plain jobs x c d) is_b ∙ ap (λ x. plain jobs computed x d) is_c
    ∙ ap (λ x. plain jobs computed time x) is_d
