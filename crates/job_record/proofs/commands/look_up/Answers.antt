use Rattle.std.proofs.Common.{inl, inr, ℕ, List, Ok, Err, refl, sym, subst}
use Rattle.sqlite.specs.Store.{Ghosts}
use Rattle.sqlite.specs.Order.{Row as Columns}
use Rattle.sqlite.specs.Held.{Held}
use Rattle.job_record.specs.declared.fault.RecordFault.{RecordFault}
use Rattle.job_record.specs.Columns.{IsUnread, Misreads}
use Rattle.job_record.specs.RecordMap.{Finds, QueriesKey}
use Rattle.job_record.proofs.commands.look_up.Goals as goal

-- columns that read as no row read as no row with the key
misread : {S : Type 0} (g : Ghosts S) (old new : Held S) (key : List ℕ) (c : Columns) → QueriesKey g old new key (Ok c) → (fault : RecordFault) → Misreads (IsUnread c) fault → Finds g old new key (Err fault)
misread g old new key c shown fault (inl memory) = subst (λ f. Finds g old new key (Err f)) (sym memory) (inr (c, shown))
misread g old new key c shown fault (inr (inl store)) = subst (λ f. Finds g old new key (Err f)) (sym store) (inr (refl, c, shown))
misread g old new key c shown fault (inr (inr unread)) = subst (λ f. Finds g old new key (Err f)) (sym unread.0) (c, shown, λ row is same. unread.1 row is)

pub returns-in-Ok-Some-clause-finds : goal.returns-in-Ok-Some-clause-finds
returns-in-Ok-Some-clause-finds g c clean =
    let shown = rw c.in-Ok-Some.field-0-is at (c.in-Ok-Some.ensures.ok clean) in
    misread g.S.Store c.args.conn.now c.find.new.conn c.args.key.now c.in-Ok-Some.columns shown c.in-Err-read_row.fault c.in-Err-read_row.ensures.err
