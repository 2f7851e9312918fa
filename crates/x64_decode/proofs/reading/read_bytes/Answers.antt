-- So many bytes are there, or fewer.
use Rattle.std.proofs.Common.{arith}
use Rattle.x64_decode.proofs.ByteCounts.{bytes_few, bytes_enough}
use Rattle.x64_decode.proofs.reading.read_bytes.Goals as goal

pub returns-then-bytes-count : goal.returns-then-bytes-count
returns-then-bytes-count c = bytes_few c.args.count c.args.bytes.now (λ i. omega (arith, c.type_inv.bytes i)) c.if-bytes-count.true

pub returns-else-bytes-count : goal.returns-else-bytes-count
returns-else-bytes-count c =
    let e = bytes_enough c.args.count c.args.bytes.now (λ i. omega (arith, c.type_inv.bytes i)) c.if-bytes-count.false in
    let f = c.split_at.ensures.front in
    let b = c.split_at.ensures.back in
    cc
