use Rattle.std.proofs.Common.{◌≡◌, ◌∙◌, None, not, sym, ap}
use Rattle.std.specs.Prelude.{is_some}
use Rattle.staging.specs.inner.Indexed.{number_at, number_of, texts_of}
use Rattle.staging.proofs.Indexing.{noted_first, noted_again, put_here, put_others, none_of}
use Rattle.staging.proofs.index.FolderIndex.note.Goals as goal

pub returns-then-is_some-clause-noted : goal.returns-then-is_some-clause-noted
returns-then-is_some-clause-noted c = λ placed is.
    let number : c.folder_at.result ≡ number_of c.args.self.now c.args.group.now = c.folder_at.ensures ∙ ap (number_at c.args.self.now) (c.as_slice.ensures.value ∙ c.in_ok-texts.ensures) in
    noted_again c.args.self.now c.args.group.now c.args.folder placed (ap (λ o. not (is_some o)) (sym number) ∙ ap not (sym c.is_some.ensures ∙ c.if-is_some.true)) is

pub returns-clause-noted : goal.returns-clause-noted
returns-clause-noted c = λ placed is.
    let number : c.folder_at.result ≡ number_of c.args.self.now c.args.group.now = c.folder_at.ensures ∙ ap (number_at c.args.self.now) (c.as_slice.ensures.value ∙ c.in_ok-texts.ensures) in
    let absent : number_of c.args.self.now c.args.group.now ≡ None = sym number ∙ none_of c.folder_at.result (sym c.is_some.ensures ∙ c.if-is_some.false) in
    let key : c.in_ok-texts.texts.items ≡ texts_of c.args.group.now = c.in_ok-texts.ensures in
    noted_first c.args.self.now (record { folders = c.insert.new.self }) c.args.group.now c.args.folder placed absent
    (λ texts same. put_here c.args.self.now.folders c.insert.new.self (λ k. k.items) c.in_ok-texts.texts _ c.in_ok-insert.ensures.updates texts (same ∙ sym key))
    (λ texts apart. put_others c.args.self.now.folders c.insert.new.self (λ k. k.items) c.in_ok-texts.texts _ c.in_ok-insert.ensures.updates texts (λ same. apart (sym key ∙ same)))
    is
