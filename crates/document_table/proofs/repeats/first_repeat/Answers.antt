use Rattle.std.proofs.Common.{◌≡◌, ◌+◌, ◌<◌, ℕ, List, [], ◌∷◌, ◌++◌, length, map, get_or, take, drop, Bor, false, sym, ap, ◌∙◌, arith, bytes_eq}
use Rattle.std.specs.List.{list_any}
use Rattle.std.proofs.lemmas.Bool.{not-true}
use Rattle.document_table.specs.Repeats.{repeat_after}
use Rattle.document_table.proofs.Seen.{names_left, names_more, repeat-next, seen-more}
use Rattle.document_table.proofs.repeats.first_repeat.Goals as goal

pub loop-name-preserved : goal.loop-name-preserved
loop-name-preserved c =
    let f = λ (r : Bor (List ℕ)). r.now in
    let all = c.args.names.now in
    let i = c.loop-name.name-index in
    let nothing : Bor (List ℕ) = record { ref_ptr = (0, 0); now = [] } in
    let name : List ℕ = f (get_or all i nothing) in
    let before : List (List ℕ) = map f (take i all) in
    let after : List (List ℕ) = map f (drop (i + 1) all) in
    let within : i < length all = omega arith in
    let more : map f (take (i + 1) all) ≡ before ++ name ∷ [] = names_more f all i nothing within in
    let left : map f (drop i all) ≡ name ∷ after = names_left f all i nothing within in
    let new : list_any (bytes_eq name) before ≡ false
    = sym (c.loop-name.invariant.seen name) ∙ not-true _ (sym c.in_ok-insert.ensures.added ∙ c.if-not-branch.false) in
    record {
      seen = λ other. seen-more name other before _ _ (c.loop-name.invariant.seen other) (c.in_ok-insert.ensures.updates.0 (record { ref_ptr = (0, 0); now = other })) ∙ ap (list_any (bytes_eq other)) (sym more);
      same = ap (λ b. repeat_after b after) more ∙ sym (repeat-next before after name new) ∙ sym (ap (repeat_after before) left) ∙ c.loop-name.invariant.same;
    }
