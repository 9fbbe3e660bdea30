-- Worked rows: what a start has logged that was to append an octet of the trunk.
use Rattle.std.proofs.Common.{◌≡◌, ◌∷◌, [], true, List, None, Some, inl, inr, refl, flat_map}
use Rattle.gw_switch.specs.Events.{CircuitEvent, Event}
use Rattle.gw_records.specs.Records.{Record, spelled}
use Rattle.gw_log.specs.Calls.{Call}
use Rattle.gw_log.specs.Starts.{HasLogged, HaveLogged, Start}

abbrev octet : Record
octet = Record.Trunk (0x55 ∷ [])

abbrev append_octet : List Call
append_octet = Call.Append (octet ∷ []) ∷ []

-- its log took the octet
took_row : (start : Start) → start.wait ≡ None → start.calls ≡ append_octet
    → start.log.taken ≡ flat_map spelled (octet ∷ []) → HasLogged start (Event.Octet 0x55 ∷ [])
took_row start wait calls took = inr (
  octet ∷ [],
  record {
    took = octet ∷ [];
    took_are = took;
    rest = [];
    all = rw calls refl;
    whole = λ going whole. (refl, refl);
    cut = inl refl;
  },
  rw wait refl,
)

-- it was killed in the append, and the octet is not there
cut_row : (start : Start) → start.wait ≡ Some 50 → start.calls ≡ append_octet → start.log.taken ≡ []
    → start.log.ended ≡ true → HasLogged start (Event.GivenAll (CircuitEvent.Wait 50) ∷ [])
cut_row start wait calls took ended = inr (
  [],
  record {
    took = [];
    took_are = took;
    rest = octet ∷ [];
    all = rw calls refl;
    whole = λ going whole. absurd (cc (ended, going));
    cut = inl refl;
  },
  rw wait refl,
)

-- .. or it is
there_row : (start : Start) → start.wait ≡ Some 50 → start.calls ≡ append_octet → start.log.taken ≡ []
    → start.log.ended ≡ true
    → HasLogged start (Event.GivenAll (CircuitEvent.Wait 50) ∷ Event.Octet 0x55 ∷ [])
there_row start wait calls took ended = inr (
  octet ∷ [],
  record {
    took = [];
    took_are = took;
    rest = octet ∷ [];
    all = rw calls refl;
    whole = λ going whole. absurd (cc (ended, going));
    cut = inr (record {
      before = [];
      last = octet ∷ [];
      after = [];
      calls_are = calls;
      took_are = refl;
      records_are = refl;
    });
  },
  rw wait refl,
)

-- no starts have logged nothing
none_row : HaveLogged [] []
none_row = refl
