-- What of an emulated circuit's counts changes with an event.
use Rattle.std.proofs.Common.{◌≡◌, ◌+◌, ◌-◌, ◌^◌, min, not, Bool, true, false, List, [], ◌∷◌, ◌++◌, count_by}
use Rattle.std.proofs.Common.{Option, Some, None, refl, sym, ap, ◌∙◌, arith, append_assoc, append-nil, length-append}
use Rattle.std.proofs.Common.{cond, zero-add}
use Rattle.std.proofs.lemmas.Int.{clamps}
use Rattle.std.proofs.lemmas.List.Sums.{sum_by-append}
use Rattle.satop_packet.specs.declared.Control.{Control}
use Rattle.satop_playout.specs.declared.ArrivalFault.TheVariants.{OtherSize, NotBegun, Late, TooFar, Repeat}
use Rattle.gw_satop.specs.declared.counts.Counts.{Counts}
use Rattle.gw_satop.specs.declared.line.DatagramOutcome.{DatagramOutcome}
use Rattle.gw_satop.specs.declared.line.DatagramOutcome.TheVariants as outcomes
use Rattle.gw_satop.specs.declared.packet.PacketFault.TheVariants as malformed
use Rattle.gw_satop.specs.Counts.{CountsSends, counts_by_bits, counts_by_outcome, counts_by_sending, no_counts}

-- Counts with the same numbers of packets sent and unsent count the same sends.
pub counted-alike : (c c' : Counts) (flags taken : List Bool) → c'.sent ≡ c.sent → c'.unsent ≡ c.unsent
    → CountsSends c flags taken → CountsSends c' flags taken
counted-alike c c' flags taken sent unsent k = record {
  earlier = k.earlier;
  sends = k.sends;
  taken_are = k.taken_are;
  one_each = k.one_each;
  sent_is = sent ∙ k.sent_is;
  unsent_is = unsent ∙ k.unsent_is;
}

-- At first no send is counted.
pub counted-none : (taken : List Bool) → CountsSends no_counts [] taken
counted-none taken = record {
  earlier = taken;
  sends = [];
  taken_are = sym (append-nil taken);
  one_each = refl;
  sent_is = refl;
  unsent_is = refl;
}

-- A datagram that comes is no send.
sent-by-outcome : (c : Counts) (outcome : DatagramOutcome) → ((counts_by_outcome c outcome).sent ≡ c.sent)
    × ((counts_by_outcome c outcome).unsent ≡ c.unsent)
sent-by-outcome c (outcomes.PacketFault malformed.Short) = (refl, refl)
sent-by-outcome c (outcomes.PacketFault malformed.NoRtp) = (refl, refl)
sent-by-outcome c (outcomes.PacketFault malformed.NoControl) = (refl, refl)
sent-by-outcome c (outcomes.PacketFault malformed.OtherLength) = (refl, refl)
sent-by-outcome c (outcomes.PacketFault malformed.OtherSize) = (refl, refl)
sent-by-outcome c outcomes.Accepted = (refl, refl)
sent-by-outcome c (outcomes.Began first) = (refl, refl)
sent-by-outcome c (outcomes.Refused Late) = (refl, refl)
sent-by-outcome c (outcomes.Refused TooFar) = (refl, refl)
sent-by-outcome c (outcomes.Refused Repeat) = (refl, refl)
sent-by-outcome c (outcomes.Refused OtherSize) = (refl, refl)
sent-by-outcome c (outcomes.Refused NotBegun) = (refl, refl)

-- .. nor are its bits L and R.
sent-by-bits : (c : Counts) (control : Option Control) → ((counts_by_bits c control).sent ≡ c.sent)
    × ((counts_by_bits c control).unsent ≡ c.unsent)
sent-by-bits c None = (refl, refl)
sent-by-bits c (Some control) = (refl, refl)

-- So the sends are counted as before it.
pub counted-datagram : (c c' : Counts) (outcome : DatagramOutcome) (control : Option Control)
    (flags taken : List Bool) → c' ≡ counts_by_bits (counts_by_outcome c outcome) control
    → CountsSends c flags taken → CountsSends c' flags taken
counted-datagram c c' outcome control flags taken is k =
    let bits = sent-by-bits (counts_by_outcome c outcome) control in
    let came = sent-by-outcome c outcome in
    counted-alike c c' flags taken (ap (λ (x : Counts). x.sent) is ∙ bits.0 ∙ came.0)
    (ap (λ (x : Counts). x.unsent) is ∙ bits.1 ∙ came.1) k

-- One more of those that pass, or none.
count-more : (p : Bool → Bool) (sends : List Bool) (was : Bool)
    → count_by p (sends ++ was ∷ []) ≡ count_by p sends + cond (p was) 1 0
count-more p sends was = sum_by-append (λ y. cond (p y) 1 0) sends (was ∷ [])
    ∙ ap (λ n. count_by p sends + n) (zero-add (cond (p was) 1 0))

-- One more send is counted.
pub counted-more : (c c' : Counts) (flags flags' taken taken' : List Bool) (flag was : Bool)
    → flags' ≡ flags ++ flag ∷ [] → taken' ≡ taken ++ was ∷ [] → c' ≡ counts_by_sending c was
    → CountsSends c flags taken → CountsSends c' flags' taken'
counted-more c c' flags flags' taken taken' flag was flagged given counted k = record {
  earlier = k.earlier;
  sends = k.sends ++ was ∷ [];
  taken_are = given ∙ rw (k.taken_are) (append_assoc k.earlier k.sends (was ∷ []));
  one_each = rw flagged (length-append k.sends (was ∷ []) ∙ ap (λ n. n + 1) k.one_each
      ∙ sym (length-append flags (flag ∷ [])));
  sent_is = ap (λ (x : Counts). x.sent) counted ∙ sent was k;
  unsent_is = ap (λ (x : Counts). x.unsent) counted ∙ unsent was k;
}
  where
    sent : (was : Bool) (k : CountsSends c flags taken) → (counts_by_sending c was).sent
        ≡ min (count_by (λ t. t) (k.sends ++ was ∷ [])) (2 ^ 64 - 1)
    sent true k = omega (arith, clamps, k.sent_is, count-more (λ t. t) k.sends true)
    sent false k = omega (arith, clamps, k.sent_is, count-more (λ t. t) k.sends false)

    unsent : (was : Bool) (k : CountsSends c flags taken) → (counts_by_sending c was).unsent
        ≡ min (count_by not (k.sends ++ was ∷ [])) (2 ^ 64 - 1)
    unsent true k = omega (arith, clamps, k.unsent_is, count-more not k.sends true)
    unsent false k = omega (arith, clamps, k.unsent_is, count-more not k.sends false)
