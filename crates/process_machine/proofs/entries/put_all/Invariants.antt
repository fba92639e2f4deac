use Rattle.std.proofs.Common.{◌≡◌, ◌++◌, Some, IfSome, take}
use Rattle.process_machine.proofs.entries.put_all.Given as goal

-- the entries so far were put there
abbrev pub invariant-loop-file : goal.invariant-loop-file
invariant-loop-file g l =
    IfSome (g.S.Sink.holds l.fn.sink) (λ held. g.S.Sink.holds l.sink ≡ Some (held ++ take l.file-index l.files))
