-- Worked rows: the records that are in a log behind calls.
use Rattle.std.proofs.Common.{◌≡◌, ◌∷◌, [], List, flat_map, inl, refl}
use Rattle.gw_switch.specs.declared.gateway.Gateway.{Gateway}
use Rattle.gw_records.specs.Records.{Record, spelled}
use Rattle.gw_log.specs.Calls.{AreLogged, Call, HasCutIn, records_in}
use Rattle.gw_log.specs.Logs.{TrunkLogState}

-- a seizure of circuit 1, and an octet of the trunk
abbrev seizure : Record
seizure = Record.Command 1 1

abbrev octet : Record
octet = Record.Trunk (0x55 ∷ [])

-- they were appended, and a gateway was shown between them
abbrev both : Gateway → List Call
both gateway = Call.Append (seizure ∷ []) ∷ Call.Show gateway ∷ Call.Append (octet ∷ []) ∷ []

-- the records of these calls
records_row : (gateway : Gateway) → records_in (both gateway) ≡ seizure ∷ octet ∷ []
records_row gateway = refl

-- a log that took both has both
whole_row : (gateway : Gateway) (log : TrunkLogState) → log.taken ≡ flat_map spelled (seizure ∷ octet ∷ [])
    → AreLogged log (both gateway) (seizure ∷ octet ∷ [])
whole_row gateway log took = record {
  took = seizure ∷ octet ∷ [];
  took_are = took;
  rest = [];
  all = refl;
  whole = λ going whole. (refl, refl);
  cut = inl refl;
}

-- one that was cut in the second append took the first record, and has both
cut_row : (gateway : Gateway) → HasCutIn (both gateway) (seizure ∷ []) (seizure ∷ octet ∷ [])
cut_row gateway = record {
  before = Call.Append (seizure ∷ []) ∷ Call.Show gateway ∷ [];
  last = octet ∷ [];
  after = [];
  calls_are = refl;
  took_are = refl;
  records_are = refl;
}
