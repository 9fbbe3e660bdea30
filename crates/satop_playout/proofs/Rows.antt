-- Worked figures, as the definitions compute them.
use Rattle.std.proofs.Common.{◌≡◌, ℕ, List, [], ◌∷◌, ◌++◌, false, Ok, Err, refl, replicate, slice_index, lit≤}
use Rattle.satop_playout.specs.declared.ArrivalFault.TheVariants.{OtherSize, NotBegun, Late, TooFar, Repeat}
use Rattle.satop_playout.specs.declared.Replacement.TheVariants.{Again, Ones}
use Rattle.satop_playout.specs.declared.Settings.{Settings}
use Rattle.satop_playout.specs.Calls.{PlayoutCall, Begins, Arrives, Plays}
use Rattle.satop_playout.specs.Replacement.{again, fill_of}
use Rattle.satop_playout.specs.Plays.{stream, arrival_answer, is_there, given_octets, reach_after}

-- packets of one frame, four of which may be waited for
abbrev frames : Settings
frames = record {
  size = 32;
  window = 4;
  fill = Ones;
  size_is = (lit≤ tt, lit≤ tt, refl);
  window_is = (lit≤ tt, lit≤ tt);
}

-- a packet whose octets are all this one
abbrev of : ℕ → List ℕ
of octet = replicate 32 octet

-- the second packet comes before the first, and the first number is the last before 0
abbrev swapped : List PlayoutCall
swapped = Begins 65535 ∷ Arrives 0 (of 3) ∷ Arrives 65535 (of 1) ∷ []

-- both are played in order
in_order : given_octets frames (swapped ++ Plays ∷ Plays ∷ []) ≡ of 1 ++ of 3
unfolding given_octets stream
in_order = refl

-- .. and then none is there
no_third : is_there frames (swapped ++ Plays ∷ Plays ∷ []) ≡ false
unfolding is_there stream
no_third = refl

-- so it is replaced
third_filled : given_octets frames (swapped ++ Plays ∷ Plays ∷ Plays ∷ []) ≡ of 1 ++ of 3 ++ of 255
unfolding given_octets stream
third_filled = refl

-- the same number while it waits
repeated : arrival_answer frames swapped 0 (of 5) ≡ Err Repeat
unfolding arrival_answer stream
repeated = refl

-- .. and after it was played
played_before : arrival_answer frames (swapped ++ Plays ∷ Plays ∷ []) 0 (of 5) ≡ Err Late
unfolding arrival_answer stream
played_before = refl

-- the last number that may be waited for
last_in_window : arrival_answer frames swapped 2 (of 5) ≡ Ok tt
unfolding arrival_answer stream
last_in_window = refl

-- the one after it is too far ahead
after_window : arrival_answer frames swapped 3 (of 5) ≡ Err TooFar
unfolding arrival_answer stream
after_window = refl

-- the last of the numbers that are ahead
farthest : arrival_answer frames (Begins 0 ∷ []) 32767 (of 5) ≡ Err TooFar
unfolding arrival_answer stream
farthest = refl

-- .. the first that is behind is late
latest : arrival_answer frames (Begins 0 ∷ []) 32768 (of 5) ≡ Err Late
unfolding arrival_answer stream
latest = refl

-- another size comes first
other_size : arrival_answer frames [] 0 (replicate 31 5) ≡ Err OtherSize
unfolding arrival_answer stream
other_size = refl

-- before any stream a packet has no turn
not_begun : arrival_answer frames (Plays ∷ []) 0 (of 5) ≡ Err NotBegun
unfolding arrival_answer stream
not_begun = refl

-- from the next packet to the last that arrived
reached : reach_after frames (Begins 7 ∷ Arrives 9 (of 1) ∷ []) ≡ 3
unfolding reach_after stream
reached = refl

-- .. each play comes nearer to it
reached_later : reach_after frames (Begins 7 ∷ Arrives 9 (of 1) ∷ Plays ∷ Plays ∷ []) ≡ 1
unfolding reach_after stream
reached_later = refl

-- .. and no further than to it
reached_not : reach_after frames (Begins 7 ∷ Arrives 9 (of 1) ∷ Plays ∷ Plays ∷ Plays ∷ Plays ∷ []) ≡ 0
unfolding reach_after stream
reached_not = refl

-- a stream that begins forgets the packets that wait
begun_anew : given_octets frames (swapped ++ Begins 0 ∷ Arrives 0 (of 7) ∷ Plays ∷ Plays ∷ [])
    ≡ of 7 ++ of 255
unfolding given_octets stream
begun_anew = refl

-- two frames of a trunk whose first octets have the signal and none, of a multiframe that counts them
abbrev multiframe_with : ℕ → ℕ → List ℕ
multiframe_with first second = first ∷ second ∷ replicate 510 0xD5

-- the octets a multiframe before
repeats_multiframe : fill_of Again 3 (0 ∷ multiframe_with 0x9B 0xDF) 0 ≡ 0x9B ∷ 0xDF ∷ 0xD5 ∷ []
unfolding again
repeats_multiframe = refl

-- one octet less than a multiframe was given
too_few_given : fill_of Again 3 (replicate 511 0xD5) 0 ≡ 255 ∷ 255 ∷ 255 ∷ []
too_few_given = refl

-- up to 2048 octets in a row are repeated
still_repeated : fill_of Again 2 (multiframe_with 1 2) 2046 ≡ 1 ∷ 2 ∷ []
unfolding again
still_repeated = refl

-- from one more on ones are filled
too_long : fill_of Again 2 (multiframe_with 1 2) 2047 ≡ 255 ∷ 255 ∷ []
too_long = refl

-- a long packet repeats the multiframe
repeats_twice : slice_index (again 514 (multiframe_with 1 2)) 513 ≡ 2
unfolding again
repeats_twice = refl
