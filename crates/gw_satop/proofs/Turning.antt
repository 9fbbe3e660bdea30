-- One more event of a circuit.
use Rattle.std.proofs.Common.{◌≡◌, ℕ, Bool, true, List, [], ◌∷◌, ◌++◌, refl, sym, ap, ◌∙◌, append-nil, nat_lt}
use Rattle.std.proofs.Common.{Result, Ok, Err, IfOk}
use Rattle.satop_playout.specs.Calls.{PlayoutCall}
use Rattle.satop_playout.specs.Laws.{arrivals_of}
use Rattle.satop_playout.specs.Plays.{given_octets, is_there, reach_after}
use Rattle.gw_satop.specs.declared.counts.Counts.{Counts}
use Rattle.gw_satop.specs.declared.line.DatagramOutcome.{DatagramOutcome}
use Rattle.gw_satop.specs.declared.line.Receiver.{Receiver}
use Rattle.gw_satop.specs.declared.pace.PlayClock.{PlayClock}
use Rattle.gw_satop.specs.Counts.{counts_by_bits, counts_by_outcome, counts_by_play, counts_by_sending, more_if}
use Rattle.gw_satop.specs.Line.{HasPlayed, calls_for, played, receipt_of}
use Rattle.gw_satop.specs.Pace.{after_listening, after_outcome, after_plan, after_play, at_time, falls_silent, is_due}
use Rattle.gw_satop.specs.Packets.{control_in, packet_in}
use Rattle.gw_satop.specs.Session.{PlaysAll}
use Rattle.gw_satop.specs.Turns.{AllDue, Hears, Listens, Plans, Plays, Sends, Turns, datagrams_in, outcome_at}
use Rattle.gw_satop.specs.Turns.{state_after}
use Rattle.gw_satop.specs.Turns.{state_of}
use Rattle.gw_satop.proofs.Arriving.{arrivals-append, arrivals-for, arrivals-more}

-- A turn begins.
pub turned : (receiver : Receiver) (pace pace' : PlayClock) (counts : Counts) (flags : List Bool)
    (received : List (List ℕ)) (went : List ℕ) (now : ℕ) → pace' ≡ at_time pace now
    → pace'.timing ≡ pace.timing → PlaysAll receiver pace counts flags received went
    → PlaysAll receiver pace' counts flags received went
unfolding state_after AllDue datagrams_in
turned receiver pace pace' counts flags received went now is timing k = record {
  past = record k.past { events = Turns now ∷ k.past.events };
  settings_are = k.settings_are;
  rtp_is = k.rtp_is;
  timing_is = timing ∙ k.timing_is;
  stands = k.stands;
  pace_is = is ∙ ap (λ (p : PlayClock). at_time p now) k.pace_is;
  flags_are = k.flags_are;
  counts_are = k.counts_are;
  due = (tt, k.due);
  received_are = k.received_are;
  arrivals_are = k.arrivals_are;
  went_are = k.went_are;
}

-- All that came was read.
pub listened : (receiver : Receiver) (pace pace' : PlayClock) (counts counts' : Counts) (flags : List Bool)
    (received : List (List ℕ)) (went : List ℕ) → pace' ≡ after_listening pace pace.counted
    → counts' ≡ record counts { silences = more_if (falls_silent pace pace.counted) counts.silences }
    → pace'.timing ≡ pace.timing → PlaysAll receiver pace counts flags received went
    → PlaysAll receiver pace' counts' flags received went
unfolding state_after AllDue datagrams_in
listened receiver pace pace' counts counts' flags received went is counted timing k = record {
  past = record k.past { events = Listens ∷ k.past.events };
  settings_are = k.settings_are;
  rtp_is = k.rtp_is;
  timing_is = timing ∙ k.timing_is;
  stands = k.stands;
  pace_is = is ∙ ap (λ (p : PlayClock). after_listening p p.counted) k.pace_is;
  flags_are = k.flags_are;
  counts_are = counted ∙ rw (k.counts_are, k.pace_is) refl;
  due = (tt, k.due);
  received_are = k.received_are;
  arrivals_are = k.arrivals_are;
  went_are = k.went_are;
}

-- The next turn is planned.
pub planned : (receiver : Receiver) (pace pace' : PlayClock) (counts : Counts) (flags : List Bool)
    (received : List (List ℕ)) (went : List ℕ) (reach : ℕ)
    → ((calls : List PlayoutCall) → HasPlayed receiver calls → reach ≡ reach_after receiver.settings calls)
    → pace' ≡ after_plan pace pace.counted reach → pace'.timing ≡ pace.timing
    → PlaysAll receiver pace counts flags received went → PlaysAll receiver pace' counts flags received went
unfolding state_after AllDue datagrams_in
planned receiver pace pace' counts flags received went reach reach-is is timing k = record {
  past = record k.past { events = Plans ∷ k.past.events };
  settings_are = k.settings_are;
  rtp_is = k.rtp_is;
  timing_is = timing ∙ k.timing_is;
  stands = k.stands;
  pace_is = is ∙ rw (reach-is (state_of k.past).calls k.stands, k.settings_are, k.pace_is) refl;
  flags_are = k.flags_are;
  counts_are = k.counts_are;
  due = (tt, k.due);
  received_are = k.received_are;
  arrivals_are = k.arrivals_are;
  went_are = k.went_are;
}

-- A packet is sent.
pub sent-more : (receiver : Receiver) (pace : PlayClock) (counts counts' : Counts) (flags flags' : List Bool)
    (received : List (List ℕ)) (went : List ℕ) (taken : Bool) → flags' ≡ flags ++ pace.silent ∷ []
    → counts' ≡ counts_by_sending counts taken → PlaysAll receiver pace counts flags received went
    → PlaysAll receiver pace counts' flags' received went
unfolding state_after AllDue datagrams_in
sent-more receiver pace counts counts' flags flags' received went taken flagged counted k = record {
  past = record k.past { events = Sends taken ∷ k.past.events };
  settings_are = k.settings_are;
  rtp_is = k.rtp_is;
  timing_is = k.timing_is;
  stands = k.stands;
  pace_is = k.pace_is;
  flags_are = flagged ∙ rw (k.flags_are, k.pace_is) refl;
  counts_are = counted ∙ rw k.counts_are refl;
  due = (tt, k.due);
  received_are = k.received_are;
  arrivals_are = k.arrivals_are;
  went_are = k.went_are;
}

-- One more packet is played, which is due.
pub played-more : (receiver receiver' : Receiver) (pace pace' : PlayClock) (counts counts' : Counts) (flags : List Bool)
    (received : List (List ℕ)) (went octets : List ℕ) (there later : Bool)
    → receiver'.settings ≡ receiver.settings → receiver'.rtp ≡ receiver.rtp
    → ((calls : List PlayoutCall) → HasPlayed receiver calls → HasPlayed receiver' (calls ++ PlayoutCall.Plays ∷ []))
    → ((calls : List PlayoutCall) → HasPlayed receiver calls
    → played receiver'.settings (calls ++ PlayoutCall.Plays ∷ []) ≡ played receiver.settings calls ++ octets)
    → ((calls : List PlayoutCall) → HasPlayed receiver calls
    → is_due pace pace.counted (reach_after receiver.settings calls) ≡ true)
    → ((calls : List PlayoutCall) → HasPlayed receiver calls → there ≡ is_there receiver.settings calls)
    → ((calls : List PlayoutCall) → HasPlayed receiver calls → later ≡ nat_lt 0 (reach_after receiver.settings calls))
    → pace' ≡ after_play pace → pace'.timing ≡ pace.timing
    → counts' ≡ counts_by_play counts there later pace.silent
    → PlaysAll receiver pace counts flags received went
    → PlaysAll receiver' pace' counts' flags received (went ++ octets)
unfolding state_after AllDue datagrams_in
played-more receiver receiver' pace pace' counts counts' flags received went octets there later
    settings rtp stands given due there-is later-is is timing counted k =
    let calls = (state_of k.past).calls in
    let more : played k.past.settings (calls ++ PlayoutCall.Plays ∷ []) ≡ played k.past.settings calls ++ octets =
    rw (settings, k.settings_are) at (given calls k.stands) in
    record {
      past = record k.past { events = Plays ∷ k.past.events };
      settings_are = settings ∙ k.settings_are;
      rtp_is = rtp ∙ k.rtp_is;
      timing_is = timing ∙ k.timing_is;
      stands = stands calls k.stands;
      pace_is = is ∙ ap after_play k.pace_is;
      flags_are = k.flags_are;
      counts_are = counted
          ∙ rw (there-is calls k.stands, later-is calls k.stands, k.settings_are, k.counts_are, k.pace_is) refl;
      due = (rw (k.settings_are, k.pace_is) at (due calls k.stands), k.due);
      received_are = k.received_are;
      arrivals_are = rw (arrivals-append calls (PlayoutCall.Plays ∷ []), append-nil (arrivals_of calls)) k.arrivals_are;
      went_are = ap (λ (w : List ℕ). w ++ octets) k.went_are ∙ sym more;
    }

-- One more datagram is received.
pub heard : (receiver receiver' : Receiver) (pace pace' : PlayClock) (counts counts' : Counts) (flags : List Bool)
    (received : List (List ℕ)) (datagram went : List ℕ) (outcome : DatagramOutcome)
    → receiver'.settings ≡ receiver.settings → receiver'.rtp ≡ receiver.rtp
    → ((calls : List PlayoutCall) → HasPlayed receiver calls → outcome ≡ receipt_of receiver.settings calls pace
    pace.counted (packet_in receiver.rtp receiver.settings.size datagram))
    → ((calls : List PlayoutCall) → HasPlayed receiver calls
    → HasPlayed receiver' (calls ++ calls_for receiver.settings.size outcome
    (packet_in receiver.rtp receiver.settings.size datagram)))
    → ((calls : List PlayoutCall) → given_octets receiver.settings (calls ++ calls_for receiver.settings.size outcome
    (packet_in receiver.rtp receiver.settings.size datagram)) ≡ given_octets receiver.settings calls)
    → pace' ≡ after_outcome pace outcome (packet_in receiver.rtp receiver.settings.size datagram) pace.counted
    → pace'.timing ≡ pace.timing
    → counts' ≡ counts_by_bits (counts_by_outcome counts outcome)
    (control_in (packet_in receiver.rtp receiver.settings.size datagram))
    → PlaysAll receiver pace counts flags received went
    → PlaysAll receiver' pace' counts' flags (received ++ datagram ∷ []) went
unfolding state_after AllDue datagrams_in
heard receiver receiver' pace pace' counts counts' flags received datagram went outcome
    settings rtp outcome-is stands given is timing counted k =
    let s = state_of k.past in
    let size = k.past.settings.size in
    let packet = packet_in k.past.rtp size datagram in
    let became : outcome ≡ outcome_at k.past.settings s packet =
    rw (k.settings_are, k.rtp_is, k.pace_is) at (outcome-is s.calls k.stands) in
    let same : given_octets k.past.settings (s.calls ++ calls_for size outcome packet)
    ≡ given_octets k.past.settings s.calls = rw (k.settings_are, k.rtp_is) at (given s.calls) in
    record {
      past = record k.past { events = Hears datagram ∷ k.past.events };
      settings_are = settings ∙ k.settings_are;
      rtp_is = rtp ∙ k.rtp_is;
      timing_is = timing ∙ k.timing_is;
      stands = rw (← became) (rw (k.settings_are, k.rtp_is) at (stands s.calls k.stands));
      pace_is = rw (← became) (rw (k.settings_are, k.rtp_is, k.pace_is) at is);
      flags_are = k.flags_are;
      counts_are = rw (← became) (rw (k.settings_are, k.rtp_is, k.counts_are) at counted);
      due = (tt, k.due);
      received_are = ap (λ (all : List (List ℕ)). all ++ datagram ∷ []) k.received_are;
      arrivals_are = rw (
        arrivals-append s.calls (calls_for size (outcome_at k.past.settings s packet) packet),
        arrivals-for size (outcome_at k.past.settings s packet) packet,
        arrivals-more k.past.rtp size received datagram,
        k.arrivals_are,
      ) refl;
      went_are = rw (← became, same) k.went_are;
    }

-- What holds anyway holds if a call ended well.
pub anyway : {T E P : Type 0} (r : Result T E) → P → IfOk r (λ _. P)
anyway (Ok x) p = p
anyway (Err e) p = tt
