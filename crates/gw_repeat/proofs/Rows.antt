-- Worked figures of the definition.
use Rattle.std.proofs.Common.{◌≡◌, ℕ, List, [], ◌∷◌, refl}
use Rattle.gw_repeat.specs.Repetition.{repetition}
use Rattle.rtp_packet.specs.Read.{header_of}

-- a datagram of G.711 in law a without speech, of this timestamp below 65536 by its two octets
abbrev row : ℕ → ℕ → List ℕ
row high low = 128 ∷ 8 ∷ 0 ∷ 1 ∷ 0 ∷ 0 ∷ high ∷ low ∷ 0 ∷ 0 ∷ 0 ∷ 7 ∷ []

-- behind the second datagram the first is sent again, if one is repeated behind the next
next_one : repetition 1 160 (row 0 160 ∷ row 0 0 ∷ []) ≡ row 0 0 ∷ []
unfolding header_of
next_one = refl

-- none behind the first
first_one : repetition 1 160 (row 0 0 ∷ []) ≡ []
first_one = refl

-- by 2 the first is sent again behind the third
third_one : repetition 2 160 (row 1 64 ∷ row 0 160 ∷ row 0 0 ∷ []) ≡ row 0 0 ∷ []
unfolding header_of
third_one = refl

-- .. and not across a gap: 480 does not follow 160
over_gap : repetition 2 160 (row 1 224 ∷ row 0 160 ∷ row 0 0 ∷ []) ≡ []
unfolding header_of
over_gap = refl

-- by 0 none is sent again
none_of_all : repetition 0 160 (row 0 160 ∷ row 0 0 ∷ []) ≡ []
none_of_all = refl
