-- The definitions on worked examples, by computing.
use Rattle.g704_crc4.proofs.Common.{◌≡◌, ℕ, zero, suc, ◌+◌, ◌%◌, List, [], ◌∷◌, ◌++◌, true, false, Some, None, refl}
use Rattle.g704_crc4.proofs.Common.{replicate, nat_le, remainder_of, sent_bits, each_at, submultiframe, si_of}
use Rattle.g704_crc4.proofs.Common.{remainder_in, has_signal, begins_multiframe, searched_octets, multiframe_in}
use Rattle.g704_crc4.proofs.Common.{count_in}
use Rattle.g704_framing.specs.Least.{least}
use Rattle.g704_crc4.specs.Reporting.{SenderInput, Octet, Errored, octet_count, has_e_bit, unreported_after, unreported}
use Rattle.g704_crc4.specs.Reporting.{octet_with_e}

-- Octets that count up from this one.
ramp : ℕ → ℕ → List ℕ
ramp first zero = []
ramp first (suc count) = first ∷ ramp (first + 1) count

-- The check bits of a submultiframe of the octets 0 to 255, by long division outside of this tree.
ramp_remainder : remainder_in (ramp 0 256) 0 ≡ record { c1 = false; c2 = false; c3 = true; c4 = true }
unfolding remainder_in remainder_of sent_bits submultiframe each_at ramp
ramp_remainder = refl

-- A frame without the frame alignment signal, with this Si bit, behind one with it.
two_frames : ℕ → List ℕ
two_frames si = 27 ∷ (replicate 31 0 ++ si ∷ replicate 31 0)

-- A multiframe with the signal, both E bits zero.
one_multiframe : List ℕ
one_multiframe =
    two_frames 64 ++ two_frames 64 ++ two_frames 192 ++ two_frames 64
    ++ two_frames 192 ++ two_frames 192 ++ two_frames 64 ++ two_frames 64

-- Frame alignment, and then three double frames of no multiframe before two multiframes.
signal_twice : List ℕ
signal_twice = two_frames 64 ++ two_frames 64 ++ two_frames 64 ++ two_frames 64 ++ one_multiframe ++ one_multiframe

-- The first multiframe begins at the fourth double frame, three after the one by which alignment was found.
multiframe_found : multiframe_in signal_twice ≡ Some 3
unfolding multiframe_in searched_octets least begins_multiframe has_signal si_of signal_twice two_frames one_multiframe
multiframe_found = refl

-- One signal is not enough.
signal_once : multiframe_in (two_frames 64 ++ one_multiframe ++ two_frames 64) ≡ None
unfolding multiframe_in searched_octets least begins_multiframe has_signal si_of two_frames one_multiframe
signal_once = refl

-- How many of the four numbers from five on are even.
counted : count_in (λ number. nat_le (number % 2) 0) 5 4 ≡ 2
unfolding count_in
counted = refl

-- Octets without a report.
octets_only : ℕ → List SenderInput
octets_only zero = []
octets_only (suc count) = Octet 223 ∷ octets_only count

-- Bit 1 of frame 13 is the first E bit: 11011111 in its time slot 0 is sent as 01011111 for an errored one.
first_e_bit : octet_with_e (Errored 1 ∷ octets_only 416) 223 ≡ 95
unfolding octet_with_e octet_count unreported_after has_e_bit octets_only
first_e_bit = refl

-- The second, in frame 15, is 1 again, because one E bit reports one errored submultiframe.
second_e_bit : octet_with_e (Errored 1 ∷ octets_only 480) 223 ≡ 223
unfolding octet_with_e octet_count unreported_after has_e_bit octets_only
second_e_bit = refl

-- A multiframe reports two of three.
two_reported : unreported (Errored 3 ∷ octets_only 512) ≡ 1
unfolding unreported_after has_e_bit octets_only
two_reported = refl
