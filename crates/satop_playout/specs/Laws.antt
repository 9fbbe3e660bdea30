-- Laws of the playout, by its definitions alone.
use Rattle.std.specs.Prelude.{◌≡◌, ◌≤◌, ◌^◌, ℕ, suc, true, List, [], ◌∷◌, ◌++◌, Ok, Err, IsPermutation}
use Rattle.satop_playout.specs.declared.ArrivalFault.{ArrivalFault}
use Rattle.satop_playout.specs.declared.Settings.{Settings}
use Rattle.satop_playout.specs.Calls.{PlayoutCall, Begins, Arrives, Plays}
use Rattle.satop_playout.specs.Plays.{stream, ahead, arrival_answer, is_there, play_octets, given_octets}

-- the number of plays among calls
abbrev pub plays_in : List PlayoutCall → ℕ
plays_in [] = 0
plays_in (Begins sequence ∷ calls) = plays_in calls
plays_in (Arrives sequence octets ∷ calls) = plays_in calls
plays_in (Plays ∷ calls) = suc (plays_in calls)

-- no stream begins in these calls
abbrev pub NoBeginning : List PlayoutCall → Type 0
NoBeginning [] = Unit {0}
NoBeginning (Begins sequence ∷ calls) = ⊥
NoBeginning (Arrives sequence octets ∷ calls) = NoBeginning calls
NoBeginning (Plays ∷ calls) = NoBeginning calls

-- the numbers and octets that arrive in calls
abbrev pub arrivals_of : List PlayoutCall → List (ℕ × List ℕ)
arrivals_of [] = []
arrivals_of (Begins sequence ∷ calls) = arrivals_of calls
arrivals_of (Arrives sequence octets ∷ calls) = (sequence, octets) ∷ arrivals_of calls
arrivals_of (Plays ∷ calls) = arrivals_of calls

-- each packet that arrives in calls is accepted, after the calls before it
abbrev pub AllAccepted : Settings → List PlayoutCall → List PlayoutCall → Type 0
AllAccepted settings before [] = Unit {0}
AllAccepted settings before (Begins sequence ∷ calls) =
    AllAccepted settings (before ++ Begins sequence ∷ []) calls
AllAccepted settings before (Arrives sequence octets ∷ calls) =
    (arrival_answer settings before sequence octets ≡ Ok tt)
    × AllAccepted settings (before ++ Arrives sequence octets ∷ []) calls
AllAccepted settings before (Plays ∷ calls) = AllAccepted settings (before ++ Plays ∷ []) calls

-- The octets given grow with each play by its octets, and with no other call.
abbrev pub NothingIsGiven : Type 0
NothingIsGiven = (settings : Settings) → given_octets settings [] ≡ []

abbrev pub BeginningsGiveNothing : Type 0
BeginningsGiveNothing = (settings : Settings) (calls : List PlayoutCall) (sequence : ℕ)
    → given_octets settings (calls ++ Begins sequence ∷ []) ≡ given_octets settings calls

abbrev pub ArrivalsGiveNothing : Type 0
ArrivalsGiveNothing = (settings : Settings) (calls : List PlayoutCall) (sequence : ℕ) (octets : List ℕ)
    → given_octets settings (calls ++ Arrives sequence octets ∷ []) ≡ given_octets settings calls

abbrev pub PlaysGiveTheirOctets : Type 0
PlaysGiveTheirOctets = (settings : Settings) (calls : List PlayoutCall)
    → given_octets settings (calls ++ Plays ∷ []) ≡ given_octets settings calls ++ play_octets settings calls

-- a refused packet changes nothing
abbrev pub RefusalsChangeNothing : Type 0
RefusalsChangeNothing = (settings : Settings) (calls : List PlayoutCall) (sequence : ℕ) (octets : List ℕ)
    (fault : ArrivalFault) → arrival_answer settings calls sequence octets ≡ Err fault
    → stream settings (calls ++ Arrives sequence octets ∷ []) ≡ stream settings calls

-- A packet that is accepted this many places ahead is there after this many plays, and gives its octets,
-- whatever else arrived in between.
abbrev pub AcceptedIsPlayed : Type 0
AcceptedIsPlayed = (settings : Settings) (before after : List PlayoutCall) (sequence : ℕ) (octets : List ℕ)
    → arrival_answer settings before sequence octets ≡ Ok tt → NoBeginning after
    → plays_in after ≡ ahead (stream settings before) sequence
    → (is_there settings (before ++ Arrives sequence octets ∷ after) ≡ true)
    × (play_octets settings (before ++ Arrives sequence octets ∷ after) ≡ octets)

-- Of a stream, no packet with the number of an accepted one is accepted in the 2^15 plays after that one; so
-- nothing is played twice.
abbrev pub NothingIsAcceptedTwice : Type 0
NothingIsAcceptedTwice = (settings : Settings) (before after : List PlayoutCall) (sequence : ℕ)
    (octets others : List ℕ) → arrival_answer settings before sequence octets ≡ Ok tt → NoBeginning after
    → plays_in after ≤ 2 ^ 15
    → arrival_answer settings (before ++ Arrives sequence octets ∷ after) sequence others ≡ Ok tt → ⊥

-- Two lists of calls that follow the same calls give the same octets if no stream begins in them, and they
-- have as many plays (at most 2^15), and the same packets in any order, each accepted in both.
abbrev pub OrderDoesNotMatter : Type 0
OrderDoesNotMatter = (settings : Settings) (lead one other : List PlayoutCall) → NoBeginning one
    → NoBeginning other
    → IsPermutation (arrivals_of one) (arrivals_of other)
    → plays_in one ≡ plays_in other → plays_in one ≤ 2 ^ 15
    → AllAccepted settings lead one → AllAccepted settings lead other
    → given_octets settings (lead ++ one) ≡ given_octets settings (lead ++ other)
