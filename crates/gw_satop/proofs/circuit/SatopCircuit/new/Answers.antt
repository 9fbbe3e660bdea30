use Rattle.std.proofs.Common.{◌≡◌, ◌<◌, [], ℕ, ap, arith, length, refl}
use Rattle.std.proofs.Math.Nat.{mul-le-mul_left}
use Rattle.std.proofs.lemmas.List.{length-drop, nil_from_length}
use Rattle.satop_playout.specs.Plays.{given_octets, stream}
use Rattle.g704_framing.specs.Replies.{replies_after}
use Rattle.gw_satop.specs.declared.sender.Sender.{Sender}
use Rattle.gw_satop.specs.Sending.{packets_from}
use Rattle.gw_satop.specs.Turns.{AllDue, datagrams_in, state_after}
use Rattle.gw_satop.proofs.Counting.{counted-none}
use Rattle.gw_satop.proofs.circuit.SatopCircuit.new.Goals as goal

-- A sender to which nothing came has sent nothing, and has room for more.
sent-none : (s : Sender) → s.came.octets ≡ [] → (s.log.flags ≡ []) × (length s.held.items < s.start.size)
sent-none s none = let nothing : length s.came.octets ≡ 0 = ap length none in (
  nil_from_length s.log.flags (omega (arith, mul-le-mul_left (length s.log.flags) s.size_is.0, s.sent_all)),
  omega (arith, ap length s.held_are, length-drop {A = ℕ}, s.size_is.0),
)

pub invariant_of-result : goal.invariant_of-result
unfolding given_octets stream replies_after packets_from state_after AllDue datagrams_in
invariant_of-result g c =
    let sent = sent-none c.args.sender c.requires.sender in record {
      plays = ∣ record {
        past = record {
          settings = c.args.receiver.settings;
          rtp = c.args.receiver.rtp;
          timing = c.args.pace.timing;
          began = c.args.pace.counted;
          events = [];
        };
        settings_are = refl;
        rtp_is = refl;
        timing_is = refl;
        stands = c.requires.receiver;
        pace_is = c.requires.pace;
        flags_are = sent.0;
        counts_are = c.new.ensures;
        due = tt;
        received_are = c.requires.ends.received_are;
        arrivals_are = rw c.requires.ends.received_are refl;
        went_are = rw (c.requires.ends.went_are, c.new-2.ensures) refl;
      } ∣₁;
      sends = record {
        came_are = rw (c.requires.ends.came_are) c.requires.sender;
        sent_are = rw (c.requires.ends.sent_are, c.requires.ends.came_are, sent.0) refl;
        rest = sent.1;
      };
      counted = ∣ rw (c.new.ensures, sent.0) (counted-none _) ∣₁;
    }
