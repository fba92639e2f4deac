use Rattle.std.proofs.Common.{◌≡◌, ◌++◌, ◌∷◌, [], false, true, sym, ap, ◌∙◌, refl}
use Rattle.std.specs.Prelude.{bytes_eq}
use Rattle.std.specs.List.{list_any}
use Rattle.std.proofs.lemmas.Bool.{not-false, not-true}
use Rattle.input_files.specs.Given.{Name}
use Rattle.input_files.specs.Paths.{Paths, with_new}
use Rattle.input_files.proofs.Once.{one_more, seen_more}
use Rattle.input_files.proofs.names.each_once.Goals as goal
use Rattle.input_files.proofs.names.each_once.Goals.{then-branch+in_ok-copied+in_ok-push, else-branch}

pub loop-name-preserved : goal.loop-name-preserved
loop-name-preserved c =
    let names : Paths = c.args.names.now in
    let i = c.loop-name.name-index in
    let name : Name = c.name-item.result in
    let kept : Paths = c.loop-name.once in
    let own : c.as_str.result.now ≡ name = c.as_str.ensures.bytes in
    let seen_here = c.loop-name.invariant.seen c.as_str.result.now in
    let grown : c.if-branch.once ≡ with_new kept name =
    elim c.if-branch.branch [
      | then-branch+in_ok-copied+in_ok-push w ↦
          let new : list_any (bytes_eq name) kept ≡ false = ap (λ (n : Name). list_any (bytes_eq n) kept) (sym own) ∙ sym seen_here ∙ not-true _ (sym c.in_ok-insert.ensures.added ∙ w.if-branch.true) in
          w.once-is ∙ w.in_ok-push.ensures.ok ∙ ap (λ (n : Name). kept ++ n ∷ []) w.in_ok-copied.ensures ∙ rw new refl
      | else-branch w ↦
          let stands : list_any (bytes_eq name) kept ≡ true = ap (λ (n : Name). list_any (bytes_eq n) kept) (sym own) ∙ sym seen_here ∙ not-false _ (sym c.in_ok-insert.ensures.added ∙ w.if-branch.false) in
          w.once-is ∙ rw stands refl
    ] in
    record {
      seen = λ other. seen_more kept name other _ _ (c.loop-name.invariant.seen other) (rw own at (c.in_ok-insert.ensures.updates.0 (record { ref_ptr = (0, 0); now = other }))) ∙ ap (list_any (bytes_eq other)) (sym grown);
      once = grown ∙ ap (λ (l : Paths). with_new l name) c.loop-name.invariant.once ∙ sym (one_more names i name c.loop-name-test.true c.name-item.is);
    }
