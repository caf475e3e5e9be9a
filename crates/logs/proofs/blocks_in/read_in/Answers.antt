-- `read_in` reads record i of a block.
-- The idea: the record bytes hold eight bytes for each of the records counted.
use mathlib.Core.Path.{ap}
use lib.ListN.{length}
use native.Mathlib.Omega.{arith}
use Rattle.blocks.proofs.Accepted.{length_record_bytes}
use Rattle.logs.proofs.blocks_in.read_in.Goals as goal

pub decode_at-requires : goal.decode_at-requires
decode_at-requires c =
    let st = c in
    let r = ap length c.record_bytes-r.ensures in
    let l = length_record_bytes st.args.b.now st.requires.0 st.requires.1 in
    let h = st.requires.2 in
    let few = st.requires.1 in
    (omega arith, omega arith)
