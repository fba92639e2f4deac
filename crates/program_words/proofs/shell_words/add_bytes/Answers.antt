use Rattle.program_words.proofs.ShellWords as made
use Rattle.program_words.proofs.shell_words.add_bytes.Goals as goal

pub loop-byte-init : goal.loop-byte-init
loop-byte-init c = made.bytes_none c.as_bytes-byte-items.result.now _

pub loop-byte-preserved : goal.loop-byte-preserved
loop-byte-preserved c =
    made.bytes_more c.as_bytes-byte-items.result.now c.loop-byte.byte-index _ _ _ c.loop-byte-test.true c.loop-byte.invariant c.in_ok-add_byte.ensures

pub returns : goal.returns
returns c = made.bytes_all _ c.loop-byte.byte-index c.args.c _ _ c.loop-byte-test.false (rw c.encode_utf8.ensures.value at c.as_bytes-byte-items.ensures.value) c.loop-byte.invariant
