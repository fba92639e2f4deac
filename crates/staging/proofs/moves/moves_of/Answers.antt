use Rattle.std.proofs.Common.{◌≡◌, ◌+◌, ◌∷◌, ◌++◌, take, sym, subst, List, [], ◌∙◌}
use Rattle.staging.specs.Plan.{AreMoves, folder_path}
use Rattle.staging.specs.inner.Folders.{NoneIs}
use Rattle.staging.specs.inner.Indexed.{IsIndex}
use Rattle.staging.specs.declared.group.Member.{Member}
use Rattle.staging.specs.declared.group.Placed.{Placed}
use Rattle.staging.specs.declared.plan.Move.{Move}
use Rattle.staging.proofs.Copies.{one_more}
use Rattle.staging.proofs.Indexing.{is_new, is_known}
use Rattle.staging.proofs.moves.moves_of.Goals as goal
use Rattle.staging.proofs.moves.moves_of.Goals.{then-branch+in_ok-push_moves, else-branch}

pub loop-one-init : goal.loop-one-init
loop-one-init c = (subst (λ (l : List Move). AreMoves (folder_path c.args.folders.holds_others c.args.folders.dir.now) [] l) (sym c.new-moves.ensures) AreMoves.none, c.requires)

pub loop-one-preserved : goal.loop-one-preserved
loop-one-preserved c =
    let path = folder_path c.args.folders.holds_others c.args.folders.dir.now in
    let one : Placed = c.one-item.result in
    let before : List Placed = take c.loop-one.one-index c.args.placed.now in
    let cut : take (c.loop-one.one-index + 1) c.args.placed.now ≡ before ++ one ∷ [] = one_more c.args.placed.now c.loop-one.one-index one c.loop-one-test.true c.one-item.is in
    let same : c.as_slice.result.now ≡ one.members = c.as_slice.ensures in
    let noted : IsIndex c.note.new.self (before ++ one ∷ []) = subst (λ (g : List Member). IsIndex c.note.new.self (before ++ record { members = g; folder = one.folder } ∷ [])) same (c.in_ok-note.ensures.noted before c.loop-one.invariant.1) in
    let moves : AreMoves path (before ++ one ∷ []) c.if-branch.moves =
    elim c.if-branch.branch [
      | then-branch+in_ok-push_moves w ↦
          let apart : NoneIs before one.members = subst (λ (g : List Member). NoneIs before g) same (is_new c.loop-one.index before c.as_slice.result.now c.loop-one.invariant.1 (sym c.in_ok-note.ensures.new ∙ w.if-branch.true)) in
          subst (λ (l : List Move). AreMoves path (before ++ one ∷ []) l) (sym (w.moves-is ∙ w.in_ok-push_moves.ensures)) (AreMoves.first before c.loop-one.moves one c.loop-one.invariant.0 apart)
      | else-branch w ↦
          let known = is_known c.loop-one.index before c.as_slice.result.now c.loop-one.invariant.1 (sym c.in_ok-note.ensures.new ∙ w.if-branch.false) in
          subst (λ (l : List Move). AreMoves path (before ++ one ∷ []) l) (sym w.moves-is) (AreMoves.again before c.loop-one.moves one known.0 c.loop-one.invariant.0 known.1 (known.2 ∙ same))
    ]
    in
    (subst (λ (l : List Placed). AreMoves path l c.if-branch.moves) (sym cut) moves, subst (λ (l : List Placed). IsIndex c.note.new.self l) (sym cut) noted)
