-- What was recorded, read back.
use Rattle.gw_session.proofs.Common.{◌≡◌, List, [], ◌++◌, flat_map, refl, sym, ap, ◌∙◌, append_assoc, append-nil}
use Rattle.gw_session.proofs.Common.{AllByRecursion, flat_map-append, Record, IsGood, spelled, Reads, end_of, events}
use Rattle.gw_session.proofs.Common.{events_of, all_kinds, append_cancel_left, RecordingsAreReadBack}
use Rattle.gw_records.specs.declared.records.RecordsEnd.TheVariants as endings
use Rattle.gw_records.proofs.Readings.{one_reading, more_keeps}

-- the octets of good records are read as these
pub reads_all : (records : List Record) → AllByRecursion (IsGood all_kinds) records
    → Reads all_kinds (flat_map spelled records) records endings.End
unfolding end_of
reads_all records good =
    record { rest = []; whole = sym (append-nil (flat_map spelled records)); good = good; ends = refl }

-- a recording that was begun empty is read back
pub read_back : RecordingsAreReadBack
read_back tape tape' happened octets records ending p none known reads =
    let all = reads_all p.records p.good in
    let written : octets ≡ p.took.written = rw (none, known) at p.took.appended in
    let longer : flat_map spelled p.records ≡ octets ++ p.took.rest = rw written p.took.whole in
    let more = more_keeps all_kinds octets p.took.rest records p.records ending endings.End reads (rw longer at all) in
    let input_record = p.events_are ∙ ap (λ (rs : List Record). events rs ++ p.lost) more.1 in
    record {
      lost = events more.0 ++ p.lost;
      first = input_record ∙ rw (flat_map-append events_of records more.0, append_assoc);
      all = λ going.
          let w = p.whole going in
          let same : octets ≡ flat_map spelled p.records = rw (none, known) at w.1 in
          let once = one_reading all_kinds octets records p.records ending endings.End reads (rw (← same) at all) in
          let nothing = append_cancel_left records more.0 [] (sym more.1 ∙ sym once.0 ∙ sym (append-nil records)) in
          (once.1, rw nothing w.0);
    }
