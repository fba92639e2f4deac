use Rattle.std.proofs.Common.{◌≡◌, ◌++◌, map, string_bytes, take}
use Rattle.std.specs.Prelude.{flat_map}
use Rattle.document_links.specs.declared.process.Process.{out-Process}
use Rattle.show_call.specs.Showings.{class_line, line_below}
use Rattle.show_call.proofs.process_forms.lines_of.Given as goal

abbrev pub invariant-loop-line : goal.invariant-loop-line
invariant-loop-line l =
    string_bytes l.text ≡ class_line (out-Process l.process) ++ flat_map line_below (take l.line-index (map string_bytes l.line-items))
