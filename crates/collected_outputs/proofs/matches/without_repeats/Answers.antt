use Rattle.std.proofs.Common.{◌≡◌, ◌++◌, ◌∷◌, [], false, true, sym, ap, ◌∙◌, ◌+◌, take, List}
use Rattle.std.specs.Prelude.{bytes_eq}
use Rattle.std.specs.List.{list_any}
use Rattle.std.proofs.lemmas.Bool.{not-false, not-true}
use Rattle.collected_outputs.specs.Matched.{Name, without_repeats}
use Rattle.collected_outputs.proofs.Matching.{one_more, once_more, seen_more}
use Rattle.collected_outputs.proofs.matches.without_repeats.Goals as goal
use Rattle.collected_outputs.proofs.matches.without_repeats.Goals.{then-branch+in_ok-copied+in_ok-push, else-branch}

pub loop-name-preserved : goal.loop-name-preserved
loop-name-preserved c =
    let names : List Name = c.args.names.now in
    let i = c.loop-name.name-index in
    let name : Name = c.name-item.result in
    let own : c.as_str.result.now ≡ name = c.as_str.ensures.bytes in
    let longer : take (i + 1) names ≡ take i names ++ name ∷ [] = one_more names i name c.loop-name-test.true c.name-item.is in
    let seen_here = c.loop-name.invariant.seen c.as_str.result.now in
    record {
      seen = λ other. seen_more names i name other _ _ c.loop-name-test.true c.name-item.is (c.loop-name.invariant.seen other) (rw own at (c.in_ok-insert.ensures.updates.0 (record { ref_ptr = (0, 0); now = other })));
      once =
          elim c.if-branch.branch [
            | then-branch+in_ok-copied+in_ok-push w ↦
                let new : list_any (bytes_eq name) (take i names) ≡ false = ap (λ (n : Name). list_any (bytes_eq n) (take i names)) (sym own) ∙ sym seen_here ∙ not-true _ (sym c.in_ok-insert.ensures.added ∙ w.if-branch.true) in
                w.once-is ∙ w.in_ok-push.ensures.ok ∙ ap (λ (n : Name). c.loop-name.once ++ n ∷ []) w.in_ok-copied.ensures ∙ ap (λ (l : List Name). l ++ name ∷ []) c.loop-name.invariant.once
                ∙ sym (once_more (take i names) name false new) ∙ ap without_repeats (sym longer)
            | else-branch w ↦
                let stands : list_any (bytes_eq name) (take i names) ≡ true = ap (λ (n : Name). list_any (bytes_eq n) (take i names)) (sym own) ∙ sym seen_here ∙ not-false _ (sym c.in_ok-insert.ensures.added ∙ w.if-branch.false) in
                w.once-is ∙ c.loop-name.invariant.once ∙ sym (once_more (take i names) name true stands) ∙ ap without_repeats (sym longer)
          ];
    }
