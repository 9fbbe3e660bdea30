use Rattle.std.proofs.lemmas.Grind.{common_steps}
use Rattle.std.proofs.Common.{◌≡◌, ◌<◌, ◌+◌, ◌*◌, ◌/◌, ◌^◌, length, slice_index, refl, arith}
use Rattle.rtp_pack.proofs.Packed.{Packed, all_packed, word_waits, octet_leaves}
use Rattle.rtp_pack.proofs.packing.pack_halves.Goals as goal

-- two more words become an octet
pub loop-i-preserved : goal.loop-i-preserved
loop-i-preserved c =
    let ws = c.args.words.now in
    let i = c.loop-i.i in
    let out = c.loop-i.out.items in
    let both = c.push-in-loop-i.new.self.number in
    let number : both ≡ 0 + slice_index ws (2 * i) * 2 ^ 0 + slice_index ws (2 * i + 1) * 2 ^ (0 + 4) = cc in
    let first = word_waits 4 ws (2 * i) out 0 0 c.loop-i.invariant (omega arith) in
    let second = word_waits 4 ws (2 * i + 1) out (0 + slice_index ws (2 * i) * 2 ^ 0) (0 + 4) first (omega arith) in
    let full : Packed 4 ws (2 * i + 1 + 1) out both 8 = rw number second in
    let left = octet_leaves 4 ws (2 * i + 1 + 1) out both 8 0 full refl in
    let zero : c.pop.new.self.count ≡ 0 = grind (arith, common_steps) in
    let fits : c.pop.new.self.number < 2 ^ 0 = rw zero at c.pop.new.self.fits in
    let none : both / 256 ≡ 0 = omega (arith, fits, c.pop.ensures.number) in
    let place : 2 * i + 1 + 1 ≡ 2 * (i + 1) = omega arith in
    rw (c.push-in-loop-i-2.ensures.items, c.pop.ensures.first) (rw (none, place) at left)

-- all words are packed
pub returns : goal.returns
returns c =
    let ws = c.args.words.now in
    let end : 2 * c.loop-i.i ≡ length ws = omega (arith, c.requires.words.whole) in
    all_packed 4 ws c.loop-i.out.items 0 0 (rw end at c.loop-i.invariant) (omega arith) (omega arith) c.requires.words
