-- An accepted packet is played in its turn, and its number is not accepted again.
use Rattle.std.proofs.Common.{rules, ◌≡◌, inl, inr, ℕ, ◌+◌, ◌^◌, ◌≤◌, ◌<◌, Bool, true, false, cond, List, [], ◌∷◌, ◌++◌}
use Rattle.std.proofs.Common.{Option, Some, None, is_some, fold, refl, ap, ◌∙◌, arith}
use Rattle.std.proofs.lemmas.Grind.{common_steps}
use Rattle.std.proofs.lemmas.Bool.{cases_lt}
use Rattle.satop_playout.specs.declared.Settings.{Settings}
use Rattle.satop_playout.specs.Calls.{PlayoutCall, Begins, Arrives, Plays}
use Rattle.satop_playout.specs.Plays.{PlayoutState, packet_at, ahead_of, ahead, refusal, after_arrival, after_play}
use Rattle.satop_playout.specs.Plays.{after_call, stream, arrival_answer, is_there, play_octets, given_octets}
use Rattle.satop_playout.specs.Laws.{plays_in, NoBeginning, AcceptedIsPlayed, NothingIsAcceptedTwice}
use Rattle.satop_playout.specs.Laws.{RefusalsChangeNothing, NothingIsGiven, BeginningsGiveNothing, ArrivalsGiveNothing}
use Rattle.satop_playout.specs.Laws.{PlaysGiveTheirOctets}
use Rattle.satop_playout.proofs.Placing.{stream-push, packet_at-kept, packet_at-free, placed_at, with_packet}
use Rattle.satop_playout.proofs.Placing.{after-refused, not-refused, refused-by}

-- the law of refused packets
pub refusals_change_nothing : RefusalsChangeNothing
unfolding arrival_answer
refusals_change_nothing settings calls sequence octets fault e = search (rules, stream-push, after-refused, refused-by)

-- what an accepted packet is
pub record Accepted (settings : Settings) (s : PlayoutState) (sequence : ℕ) (octets : List ℕ) : Type 0 where
  pub begun : is_some s.first ≡ true
  pub on_time : ahead s sequence < 2 ^ 15
  pub near : ahead s sequence < settings.window
  pub free : packet_at s.placed (s.now + ahead s sequence) ≡ None

-- a packet that nothing refuses is accepted
pub accepted : (settings : Settings) (s : PlayoutState) (sequence : ℕ) (octets : List ℕ)
    → refusal settings s sequence octets ≡ None → Accepted settings s sequence octets
accepted settings s sequence octets e = grind (arith, common_steps)

module _ (settings : Settings) where
  abbrev pub after : PlayoutState → List PlayoutCall → PlayoutState
  after s calls = fold (after_call settings) s calls

  -- a packet that arrives changes only which are accepted
  either-now : (b : Bool) (s : PlayoutState) (place : ℕ) (octets : List ℕ)
      → (cond b s (with_packet s place octets)).now ≡ s.now
  either-now true s place octets = refl
  either-now false s place octets = refl

  either-first : (b : Bool) (s : PlayoutState) (place : ℕ) (octets : List ℕ)
      → (cond b s (with_packet s place octets)).first ≡ s.first
  either-first true s place octets = refl
  either-first false s place octets = refl

  either-kept : (b : Bool) (s : PlayoutState) (place k : ℕ) (octets packet : List ℕ)
      → packet_at s.placed k ≡ Some packet → packet_at (cond b s (with_packet s place octets)).placed k ≡ Some packet
  either-kept true s place k octets packet e = e
  either-kept false s place k octets packet e = packet_at-kept s.placed (placed_at place octets) k packet e

  pub now-arrival : (s : PlayoutState) (sequence : ℕ) (octets : List ℕ)
      → (after_arrival settings s sequence octets).now ≡ s.now
  now-arrival s sequence octets =
      either-now (is_some (refusal settings s sequence octets)) s (s.now + ahead s sequence) octets

  pub first-arrival : (s : PlayoutState) (sequence : ℕ) (octets : List ℕ)
      → (after_arrival settings s sequence octets).first ≡ s.first
  first-arrival s sequence octets =
      either-first (is_some (refusal settings s sequence octets)) s (s.now + ahead s sequence) octets

  -- within a stream the place of the next play is counted by the plays
  pub now-after : (s : PlayoutState) (calls : List PlayoutCall) → NoBeginning calls
      → (after s calls).now ≡ s.now + plays_in calls
  now-after s [] none = omega arith
  now-after s (Begins sequence ∷ calls) none = absurd none
  now-after s (Arrives sequence octets ∷ calls) none =
      cc (now-arrival s sequence octets, now-after (after_arrival settings s sequence octets) calls none)
  now-after s (Plays ∷ calls) none = grind (arith, now-after (after_play settings s) calls none)

  -- .. and its first number stays
  pub first-after : (s : PlayoutState) (calls : List PlayoutCall) → NoBeginning calls → (after s calls).first ≡ s.first
  first-after s [] none = refl
  first-after s (Begins sequence ∷ calls) none = absurd none
  first-after s (Arrives sequence octets ∷ calls) none =
      first-after (after_arrival settings s sequence octets) calls none ∙ first-arrival s sequence octets
  first-after s (Plays ∷ calls) none = first-after (after_play settings s) calls none

  -- .. and an accepted packet stays accepted
  pub kept-after : (s : PlayoutState) (calls : List PlayoutCall) (k : ℕ) (packet : List ℕ) → NoBeginning calls
      → packet_at s.placed k ≡ Some packet → packet_at (after s calls).placed k ≡ Some packet
  kept-after s [] k packet none e = e
  kept-after s (Begins sequence ∷ calls) k packet none e = absurd none
  kept-after s (Arrives sequence octets ∷ calls) k packet none e =
      kept-after (after_arrival settings s sequence octets) calls k packet none
      (either-kept (is_some (refusal settings s sequence octets)) s (s.now + ahead s sequence) k octets packet e)
  kept-after s (Plays ∷ calls) k packet none e = kept-after (after_play settings s) calls k packet none e

  -- the state after calls in which a packet was accepted
  module _ (before later : List PlayoutCall) (sequence : ℕ) (octets : List ℕ)
      (is : refusal settings (stream settings before) sequence octets ≡ None) (none : NoBeginning later) where
    abbrev start : PlayoutState
    start = stream settings before

    abbrev begun : PlayoutState
    begun = with_packet (stream settings before)
        ((stream settings before).now + ahead (stream settings before) sequence) octets

    pub whole : stream settings (before ++ Arrives sequence octets ∷ later) ≡ after begun later
    unfolding stream
    whole = grind (arith, common_steps)

    pub place-later : packet_at (stream settings (before ++ Arrives sequence octets ∷ later)).placed
        (start.now + ahead start sequence) ≡ Some octets
    place-later =
        ap (λ (s : PlayoutState). packet_at s.placed (start.now + ahead start sequence)) whole
        ∙ kept-after begun later (start.now + ahead start sequence) octets none
        (packet_at-free start.placed (start.now + ahead start sequence) octets
        (accepted settings start sequence octets is).free)

    pub now-later : (stream settings (before ++ Arrives sequence octets ∷ later)).now ≡ start.now + plays_in later
    now-later = ap (λ (s : PlayoutState). s.now) whole ∙ now-after begun later none

    pub first-later : (stream settings (before ++ Arrives sequence octets ∷ later)).first ≡ start.first
    first-later = ap (λ (s : PlayoutState). s.first) whole ∙ first-after begun later none

-- the law of turns
pub accepted_is_played : AcceptedIsPlayed
unfolding arrival_answer is_there play_octets
accepted_is_played settings before later sequence octets answer none turn =
    search (rules, not-refused, now-later, place-later)

-- a number this many places ahead is the rest of them ahead after some plays
ahead-later : (first : Option ℕ) (now plays sequence : ℕ) → is_some first ≡ true
    → ahead_of first now sequence < 2 ^ 15 → plays ≤ ahead_of first now sequence
    → plays + ahead_of first (now + plays) sequence ≡ ahead_of first now sequence
ahead-later None now plays sequence begun on_time few = cc
ahead-later (Some first) now plays sequence begun on_time few = omega arith

-- .. behind after more
ahead-behind : (first : Option ℕ) (now plays sequence : ℕ) → is_some first ≡ true
    → ahead_of first now sequence < 2 ^ 15 → ahead_of first now sequence < plays → plays ≤ 2 ^ 15
    → 2 ^ 15 ≤ ahead_of first (now + plays) sequence
ahead-behind None now plays sequence begun on_time more few = cc
ahead-behind (Some first) now plays sequence begun on_time more few = omega arith

-- the law of numbers accepted once
pub nothing_is_accepted_twice : NothingIsAcceptedTwice
unfolding arrival_answer
nothing_is_accepted_twice settings before later sequence octets others answer none few again =
    let s = stream settings before in
    let t = stream settings (before ++ Arrives sequence octets ∷ later) in
    let is = not-refused (refusal settings s sequence octets) answer in
    let a = accepted settings s sequence octets is in
    let b = accepted settings t sequence others (not-refused (refusal settings t sequence others) again) in
    let now = now-later settings before later sequence octets is none in
    let same : ahead t sequence ≡ ahead_of s.first (s.now + plays_in later) sequence =
    ap (λ (f : Option ℕ). ahead_of f t.now sequence) (first-later settings before later sequence octets is none)
    ∙ ap (λ (n : ℕ). ahead_of s.first n sequence) now in
    elim (cases_lt (ahead s sequence) (plays_in later)) as (λ _. ⊥) [
      | inl h ↦
          let behind = ahead-behind s.first s.now (plays_in later) sequence a.begun a.on_time h few in
          let on_time = b.on_time in
          omega arith
      | inr h ↦
          let rest = ahead-later s.first s.now (plays_in later) sequence a.begun a.on_time h in
          let at : t.now + ahead t sequence ≡ s.now + ahead s sequence = omega arith in
          let held = ap (λ (n : ℕ). packet_at t.placed n) at
          ∙ place-later settings before later sequence octets is none in
          let free = b.free in
          cc
    ]

-- nothing is given by no calls
pub nothing_is_given : NothingIsGiven
unfolding given_octets stream
nothing_is_given settings = refl

-- a packet that arrives changes nothing of what was given
either-given : (b : Bool) (s : PlayoutState) (place : ℕ) (octets : List ℕ)
    → (cond b s (with_packet s place octets)).given ≡ s.given
either-given true s place octets = refl
either-given false s place octets = refl

-- a beginning gives nothing
pub beginnings_give_nothing : BeginningsGiveNothing
unfolding given_octets
beginnings_give_nothing settings calls sequence =
    ap (λ (s : PlayoutState). s.given) (stream-push settings calls (Begins sequence))

-- .. nor does a packet that arrives
pub arrivals_give_nothing : ArrivalsGiveNothing
unfolding given_octets
arrivals_give_nothing settings calls sequence octets = search (rules, stream-push, either-given)

-- a play gives its octets
pub plays_give_their_octets : PlaysGiveTheirOctets
unfolding given_octets play_octets
plays_give_their_octets settings calls = ap (λ (s : PlayoutState). s.given) (stream-push settings calls Plays)
