use Rattle.g726_lanes.proofs.Common.{◌<◌, ◌^◌, length, arith, same_octet, row_at}
use Rattle.g726_lanes.proofs.Frames.{decoded_one_more, fits-at}
use Rattle.g726_lanes.proofs.lanes.Lanes.decode_rows.Goals as goal

pub decode-octets-requires : goal.decode-octets-requires
decode-octets-requires g c =
    let rows = c.loop-i.rows in
    let i = c.loop-i.i in
    λ k h.
    let so = c.loop-i.invariant k h in
    let inside : i < length (row_at rows k) = c.frame_of.ensures.within k h in
    let same = same_octet (row_at rows k) (row_at c.args.rows.now k) i so.rest in
    rw (c.widened.ensures k h, c.frame_of.ensures.value k h, same)
    (fits-at (λ word. word < 2 ^ g.R.Rate.tables.bits) (row_at c.args.rows.now k) c.args.count i (c.requires.fit k h)
    (omega (arith, c.loop-i-test.true))
    (omega (arith, inside, so.len)))

pub loop-i-preserved : goal.loop-i-preserved
loop-i-preserved g c =
    let rows = c.loop-i.rows in
    let i = c.loop-i.i in
    λ k h.
    rw (c.put_frame.ensures k h)
    (decoded_one_more g.R.Rate.tables c.args.law _ _ _ _ (row_at rows k) i _ (c.loop-i.invariant k h)
    (c.frame_of.ensures.within k h)
    (rw (c.widened.ensures k h, c.frame_of.ensures.value k h) at (c.decode-octets.ensures.octets k h))
    (rw (c.widened.ensures k h, c.frame_of.ensures.value k h) at (c.decode-octets.ensures.state k h)))
