use Rattle.gw_speech.proofs.Common.{◌+◌, ◌-◌, ◌^◌, ◌<◌, inl, inr, [], ◌++◌, refl, ap, ◌∙◌, length-append, arith}
use Rattle.gw_speech.proofs.Common.{nil_from_length, All-nil, same_len_mid, CodecState, Appends-none, Appends-join}
use Rattle.gw_speech.proofs.Common.{GivesOctets-none, GivesOctets-join, GivesOctets-end, FailsAfterPrefix-after}
use Rattle.gw_speech.proofs.Common.{FailsAfterPrefix-more, read_failed, goes_up, word_bits, full_packets}
use Rattle.gw_records.specs.declared.outcome.RunFault.TheVariants as faults
use Rattle.gw_speech.proofs.PacketLemmas.{reads_no_more, coded_way, words_left, window_begins, last_written}
use Rattle.gw_speech.proofs.encode.encode_stream.Goals as goal

pub reading-init : goal.reading-init
reading-init g c = record {
  stage = record {
    given = [];
    sent = [];
    count = 0;
    way = record {
      stands = c.new-codec.ensures;
      words = nil_from_length _ ((c.words_are_counted.ensures _ _).0 []);
      whole = omega arith;
    };
    fit = All-nil (λ w. w < 2 ^ word_bits c.args.spec.now);
    open_packet = omega (arith, c.args.spec.now.ptime_fits.least);
    fits = refl;
    gives = GivesOctets-none _;
    took = Appends-none _;
    no_read = refl;
    no_write = refl;
  };
  kind = ap (λ (a : CodecState). a.kind) c.new-codec.ensures;
  at = c.first_packet-progress.ensures c.args.spec.now refl refl;
  none = c.new-waiting.ensures;
  had = λ some. absurd (omega (arith, some));
  turns = omega arith;
  calls = omega arith;
}

pub write_packets-requires-in-reading-clause-fit : goal.write_packets-requires-in-reading-clause-fit
write_packets-requires-in-reading-clause-fit g c =
    let w = c.reading.invariant in
    let e = c.encode_all.ensures in
    (coded_way _ _ w.stage c.in-Ok.ensures.gives c.in-Ok.ensures.fits (e.words w.stage.given)
    (e.stands w.stage.given) e.len e.fit).1

pub returns-in_default-clause-fault : goal.returns-in_default-clause-fault
returns-in_default-clause-fault g c =
    let w = c.reading.invariant in
    reads_no_more c.words_are_counted.ensures w.stage c.in_default.ensures.none.gives
    (inl (read_failed _ _ _ w.stage.no_read c.requires.reads c.in_default.ensures.counts))

pub returns-clause-fault : goal.returns-clause-fault
returns-clause-fault g c =
    let w = c.reading.invariant in
    reads_no_more c.words_are_counted.ensures w.stage (GivesOctets-none _)
    (inr (omega (arith, w.calls), omega (arith, w.turns)))

pub returns-then-n-eq0-clause-ok : goal.returns-then-n-eq0-clause-ok
returns-then-n-eq0-clause-ok g c =
    let w = c.reading.invariant in
    let came = c.in-Ok.ensures.gives in
    let all = last_written _ c.words_are_counted.ensures w.stage came
    (c.fill_last-end.ensures.filled w.stage.given w.stage.sent w.stage.count) in
    let wrote = c.in_ok-write_packets.ensures.writes w.stage.count w.at in
    record {
      octets = w.stage.given;
      gives = GivesOctets-end _ _ _ w.stage.given came.octets (came.counted ∙ c.if-n-eq0.true) w.stage.gives came.gives;
      ended = came.ended c.if-n-eq0.true;
      took = rw (all.0) (Appends-join _ _ _ _ _ w.stage.took wrote.0);
      totals_are = rw ((c.in_ok-write_packets.ensures.next w.stage.count w.at).counted, all.1) refl;
      no_read = c.in-Ok.ensures.counts ∙ w.stage.no_read;
      no_write = wrote.1 ∙ w.stage.no_write;
    }

pub returns-in_err-write_packets-clause-fault : goal.returns-in_err-write_packets-clause-fault
returns-in_err-write_packets-clause-fault g c =
    let w = c.reading.invariant in
    let came = c.in-Ok.ensures.gives in
    let all = last_written _ c.words_are_counted.ensures w.stage came
    (c.fill_last-end.ensures.filled w.stage.given w.stage.sent w.stage.count) in
    let broken = c.in_err-write_packets.ensures.writes w.stage.count w.at in
    goes_up _ _ faults.Write c.from_residual.ensures.1 broken.0 (record {
      octets = w.stage.given;
      gives = GivesOctets-end _ _ _ w.stage.given came.octets (came.counted ∙ c.if-n-eq0.true) w.stage.gives came.gives;
      breaks = rw (all.0) (FailsAfterPrefix-after _ _ _ _ _ w.stage.took w.stage.no_write broken.1);
      no_read = c.in-Ok.ensures.counts ∙ w.stage.no_read;
    })

pub returns-in_err-left-clause-fault : goal.returns-in_err-left-clause-fault
returns-in_err-left-clause-fault g c =
    let w = c.reading.invariant in
    let came = c.in-Ok.ensures.gives in
    let e = c.encode_all.ensures in
    let way = coded_way _ _ w.stage came c.in-Ok.ensures.fits (e.words w.stage.given)
    (e.stands w.stage.given) e.len e.fit in
    let all = window_begins c.prefixes_come_first.ensures c.words_are_counted.ensures way.0 in
    let broken = c.in_err-left.ensures.writes w.stage.count w.at in
    goes_up _ _ faults.Write c.from_residual-in_err-left.ensures.1 broken.0 (record {
      octets = w.stage.given ++ came.octets;
      gives = GivesOctets-join _ _ _ _ _ w.stage.gives came.gives;
      breaks = rw (all.1) (FailsAfterPrefix-more _ _ _ _
          (FailsAfterPrefix-after _ _ _ _ _ w.stage.took w.stage.no_write broken.1));
      no_read = c.in-Ok.ensures.counts ∙ w.stage.no_read;
    })

pub reading-preserved : goal.reading-preserved
reading-preserved g c =
    let w = c.reading.invariant in
    let came = c.in-Ok.ensures.gives in
    let e = c.encode_all.ensures in
    let way = coded_way _ _ w.stage came c.in-Ok.ensures.fits (e.words w.stage.given)
    (e.stands w.stage.given) e.len e.fit in
    let long = same_len_mid c.reading.held (c.reading.held + c.in-Ok.n - c.reading.held) c.read_behind.new.buffer
    c.encode_all.new.octets e.len in
    let left = words_left _ c.copy_within.new.self _ _ (omega (arith, long, c.in-Ok.ensures.fits)) way.0 way.1
    c.in_ok-left.ensures.left.1 c.copy_within.ensures.after in
    let wrote = c.in_ok-left.ensures.writes w.stage.count w.at in record {
      stage = record {
        given = w.stage.given ++ came.octets;
        sent = left.0.now_sent;
        count = w.stage.count + full_packets c.args.spec.now _;
        way = left.0.way;
        fit = left.1;
        open_packet = c.in_ok-left.ensures.left.0;
        fits = omega (arith, c.copy_within.ensures.len, long, c.in-Ok.ensures.len, w.stage.fits);
        gives = GivesOctets-join _ _ _ _ _ w.stage.gives came.gives;
        took = rw (left.0.records) (Appends-join _ _ _ _ _ w.stage.took wrote.0);
        no_read = c.in-Ok.ensures.counts ∙ w.stage.no_read;
        no_write = wrote.1 ∙ w.stage.no_write;
      };
      kind = e.kind;
      at = c.in_ok-left.ensures.next w.stage.count w.at;
      none = c.in_ok-left.ensures.empty;
      had = λ some. (
        _,
        c.in-Ok.ensures.had_room,
        omega (arith, w.stage.fits, w.stage.open_packet, c.args.spec.now.ptime_fits.most),
      );
      turns = omega (arith, w.turns, c.if-n-eq0.false, came.counted, length-append w.stage.given came.octets);
      calls = omega (arith, w.calls, c.in-Ok.ensures.turns, c.requires.turns);
    }
