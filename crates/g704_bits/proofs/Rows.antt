-- The definitions on worked examples, by computing.
use Rattle.std.proofs.Common.{◌≡◌, arith, ℕ, List, [], ◌∷◌, ◌++◌, Some, None, true, false, refl}
use Rattle.std.specs.Prelude.{replicate}
use Rattle.g704_framing.specs.Least.{least}
use Rattle.g704_align.specs.Search.{is_fas, is_nfas}
use Rattle.g704_align.proofs.Wrongs.{is_wrong-fas, is_wrong-early}
use Rattle.g704_bits.specs.Search.{is_confirmed, search}
use Rattle.g704_bits.specs.Loss.{eighths_after, octets_along, is_lost_at}
use Rattle.g704_bits.specs.Bits.{windows_after, windows_of, delayed_after, offset_of}

-- the windows of an octet behind the ones of the line: 1111 1111 1001 1011, eight bits at a time
one_octet : windows_of (0x9B ∷ []) ≡ 0xFF ∷ 0xFE ∷ 0xFC ∷ 0xF9 ∷ 0xF3 ∷ 0xE6 ∷ 0xCD ∷ 0x9B ∷ []
unfolding windows_after
one_octet = refl

-- two octets, three bits late: 111 10011 011 11010 101
three_late : delayed_after 3 255 (0x9B ∷ 0xD5 ∷ []) ≡ 0xF3 ∷ 0x7A ∷ []
unfolding delayed_after
three_late = refl

-- the first one whole, at the third bit of the second
three_late-whole : windows_of (0xF3 ∷ 0x7A ∷ [])
    ≡ 0xFF ∷ 0xFF ∷ 0xFF ∷ 0xFF ∷ 0xFE ∷ 0xFC ∷ 0xF9 ∷ 0xF3 ∷ 0xE6 ∷ 0xCD ∷ 0x9B ∷ 0x37 ∷ 0x6F ∷ 0xDE ∷ 0xBD ∷ 0x7A
    ∷ []
unfolding windows_after
three_late-whole = refl

-- the offset of the last alignment, lost or not
last_offset : (offset_of 7 [] ≡ 7)
    × (offset_of 7 (record { start = 18; lost = Some 3000 } ∷ record { start = 4005; lost = None } ∷ []) ≡ 5)
last_offset = (refl, refl)

-- a signal, and the signal a frame before it does not confirm it: bit 2 is zero
three_windows : ℕ → List ℕ
three_windows between = 0x1B ∷ (replicate 255 0 ++ between ∷ (replicate 255 0 ++ 0x9B ∷ []))

-- confirmed by any octet with bit 2, and by no other
confirmed : (is_confirmed (three_windows 0x40) 0 ≡ true) × (is_confirmed (three_windows 0xBF) 0 ≡ false)
unfolding is_confirmed is_fas is_nfas three_windows
confirmed = (refl, refl)

-- The search finds the signal at the third window, though the first has the signal and is not confirmed, and
-- 256 windows on there is another such signal; from the fourth window on there is none.
found : (search (0x9B ∷ 0 ∷ three_windows 0x5B) 0 ≡ Some 2) × (search (0x9B ∷ 0 ∷ three_windows 0x5B) 3 ≡ None)
unfolding search least is_confirmed is_fas is_nfas three_windows
found = (refl, refl)

-- the octets of an alignment are at each eighth window
octets : eighths_after 0 (1 ∷ 2 ∷ 3 ∷ 4 ∷ 5 ∷ 6 ∷ 7 ∷ 8 ∷ 9 ∷ 10 ∷ []) ≡ 1 ∷ 9 ∷ []
unfolding eighths_after
octets = refl

-- a stream of ones
ones : List ℕ
ones = replicate 2049 0xFF

-- Ones have bit 2, and not the signal: the signals 128, 192 and 256 octets behind the first are wrong, and
-- alignment is lost by the third of them, and by no other window there.
lost : (is_lost_at ones 1536 ≡ false) × (is_lost_at ones 2047 ≡ false) × (is_lost_at ones 2048 ≡ true)
unfolding is_lost_at eighths_after is_fas ones
lost =
    let first = is_wrong-fas (octets_along ones) 128 (omega arith) refl in
    let second = is_wrong-fas (octets_along ones) 192 (omega arith) refl in
    let third = is_wrong-fas (octets_along ones) 256 (omega arith) refl in
    let early = is_wrong-early (octets_along ones) 64 (omega arith) in
    (rw (second, first, early) refl, refl, rw (third, second, first) refl)
