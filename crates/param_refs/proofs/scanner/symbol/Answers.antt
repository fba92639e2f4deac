use Rattle.std.proofs.Common.{arith}
use Rattle.param_refs.proofs.Scanned.{symbol_boundary, symbol_then, symbol_none}
use Rattle.param_refs.proofs.scanner.symbol.Goals as goal

pub split_at-requires : goal.split_at-requires
split_at-requires c = symbol_boundary c.args.text.now c.symbol_length-length.result c.utf8.text c.symbol_length-length.ensures (omega arith)

pub returns-then-length-eq0 : goal.returns-then-length-eq0
returns-then-length-eq0 c = symbol_none c.args.text.now c.symbol_length-length.result c.symbol_length-length.ensures (omega arith)

pub returns : goal.returns
returns c = symbol_then c.args.text.now c.split_at.result.0.now c.split_at.result.1.now c.symbol_length-length.result c.symbol_length-length.ensures (omega arith) c.split_at.ensures.front c.split_at.ensures.back
