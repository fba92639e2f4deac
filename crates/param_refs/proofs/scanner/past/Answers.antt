use Rattle.std.proofs.Common.{◌≡◌, ◌<◌, ◌∙◌, List, ℕ, ap, get_or, rules, subst, sym}
use Rattle.std.proofs.lemmas.Str.{IsCharBoundary-after_ascii}
use Rattle.param_refs.proofs.scanner.past.Goals as goal

pub split_at-requires : goal.split_at-requires
split_at-requires c =
    let first : get_or c.args.text.now 0 0 ≡ c.args.mark = ap (λ (t : List ℕ). get_or t 0 0) (sym c.as_bytes-bytes.ensures.value) ∙ sym c.from.ensures ∙ c.if-from-mark.false in
    IsCharBoundary-after_ascii c.args.text.now 0 c.utf8.text (search rules) (subst (λ b. b < 128) (sym first) c.requires)
