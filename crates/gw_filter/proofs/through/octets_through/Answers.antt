use Rattle.std.proofs.Common.{◌++◌, inl, inr, ℕ, [], List, refl, ap, ◌∙◌, subst, length, drop, arith, length-append}
use Rattle.std.proofs.Common.{length-drop}
use Rattle.gw_records.specs.declared.outcome.RunFault.TheVariants as faults
use Rattle.gw_records.specs.declared.outcome.Totals.{Totals}
use Rattle.gw_records.specs.Outcome.{nothing_counted}
use Rattle.gw_records.proofs.Writes.{Appends-none, Appends-join, Appends-same, GivesOctets-none, GivesOctets-join}
use Rattle.gw_records.proofs.Writes.{GivesOctets-end, FailsAfterPrefix-after, read_failed}
use Rattle.gw_records.proofs.Sessions.{goes_up}
use Rattle.gw_filter.proofs.Stages.{came-is, replaced}
use Rattle.gw_filter.proofs.through.octets_through.Goals as goal

pub reading-init : goal.reading-init
reading-init g c = record {
  stage = record {
    given = [];
    returned = [];
    stands = c.requires.begins;
    gives = GivesOctets-none _;
    took = Appends-none _;
    no_read = refl;
    no_write = refl;
  };
  counted = refl;
  room = refl;
  had = λ some. absurd (omega (arith, some));
  turns = omega arith;
  calls = omega arith;
}

pub reading-preserved : goal.reading-preserved
reading-preserved g c =
    let w = c.reading.invariant in
    let came = c.in-Ok.ensures.gives in
    let e = c.filter_buffer.ensures in record {
      stage = record {
        given = w.stage.given ++ came.octets;
        returned = w.stage.returned ++ c.filter_buffer.new.octets;
        stands = subst (λ (xs : List ℕ). g.F.BufferFilter.has_returned c.filter_buffer.new.self
            (w.stage.given ++ xs) (w.stage.returned ++ c.filter_buffer.new.octets))
            (came-is _ _ _ _ came)
            (e.stands w.stage.given w.stage.returned w.stage.stands);
        gives = GivesOctets-join _ _ _ _ _ w.stage.gives came.gives;
        took = Appends-same _ _ _ _
            (ap (λ (xs : List ℕ). w.stage.returned ++ xs) (replaced c.read_behind.new.buffer _ _ _ _ came e.len))
            (Appends-join _ _ _ _ _ w.stage.took c.in_ok-write_all.ensures.ok);
        no_read = c.in-Ok.ensures.counts ∙ w.stage.no_read;
        no_write = c.in_ok-write_all.ensures.no_failure ∙ w.stage.no_write;
      };
      counted = omega (
        arith,
        c.saturating_add-octets.ensures,
        w.counted,
        came.counted,
        length-append w.stage.given came.octets,
      );
      room = omega (
        arith,
        w.room,
        c.in-Ok.ensures.len,
        c.in-Ok.ensures.fits,
        e.len,
        came.counted,
        ap length (came-is _ _ _ _ came),
        length-drop c.in-Ok.n c.read_behind.new.buffer,
        length-append c.filter_buffer.new.octets (drop c.in-Ok.n c.read_behind.new.buffer),
      );
      had = λ some. (_, c.in-Ok.ensures.had_room, omega (arith, w.room));
      turns = omega (arith, w.turns, c.if-n-eq0.false, came.counted, length-append w.stage.given came.octets);
      calls = omega (arith, w.calls, c.in-Ok.ensures.turns, c.requires.streams.turns);
    }

pub returns-in_err-write_all-clause-fault : goal.returns-in_err-write_all-clause-fault
returns-in_err-write_all-clause-fault g c =
    let w = c.reading.invariant in
    let came = c.in-Ok.ensures.gives in
    let e = c.filter_buffer.ensures in
    let broken = c.in_err-write_all.ensures.fault in
    goes_up _ _ faults.Write c.from_residual.ensures.1 broken.0 (record {
      octets = w.stage.given ++ came.octets;
      returned = w.stage.returned ++ c.filter_buffer.new.octets;
      returns = subst (λ (xs : List ℕ). g.F.BufferFilter.has_returned c.filter_buffer.new.self
          (w.stage.given ++ xs) (w.stage.returned ++ c.filter_buffer.new.octets))
          (came-is _ _ _ _ came)
          (e.stands w.stage.given w.stage.returned w.stage.stands);
      gives = GivesOctets-join _ _ _ _ _ w.stage.gives came.gives;
      breaks = rw (← replaced c.read_behind.new.buffer _ _ _ _ came e.len)
          (FailsAfterPrefix-after _ _ _ _ _ w.stage.took w.stage.no_write broken.1);
      no_read = c.in-Ok.ensures.counts ∙ w.stage.no_read;
    })

pub returns-then-n-eq0-clause-ok : goal.returns-then-n-eq0-clause-ok
returns-then-n-eq0-clause-ok g c =
    let w = c.reading.invariant in
    let came = c.in-Ok.ensures.gives in
    let made : ℕ → Totals = λ n. record nothing_counted { octets = n } in
    record {
      octets = w.stage.given;
      returned = w.stage.returned;
      returns = w.stage.stands;
      gives = GivesOctets-end _ _ _ w.stage.given came.octets (came.counted ∙ c.if-n-eq0.true) w.stage.gives came.gives;
      ended = came.ended c.if-n-eq0.true;
      took = w.stage.took;
      totals_are = ap (made) w.counted;
      no_read = c.in-Ok.ensures.counts ∙ w.stage.no_read;
      no_write = w.stage.no_write;
    }

pub returns-in_default-clause-fault : goal.returns-in_default-clause-fault
returns-in_default-clause-fault g c =
    let w = c.reading.invariant in
    record {
      octets = w.stage.given;
      returned = w.stage.returned;
      returns = w.stage.stands;
      gives = GivesOctets-end _ _ _ w.stage.given [] refl w.stage.gives c.in_default.ensures.none.gives;
      took = w.stage.took;
      cause = inl (read_failed _ _ _ w.stage.no_read c.requires.streams.reads c.in_default.ensures.counts);
      no_write = w.stage.no_write;
    }

pub returns-clause-fault : goal.returns-clause-fault
returns-clause-fault g c =
    let w = c.reading.invariant in
    record {
      octets = w.stage.given;
      returned = w.stage.returned;
      returns = w.stage.stands;
      gives = w.stage.gives;
      took = w.stage.took;
      cause = inr (omega (arith, w.calls), omega (arith, w.turns));
      no_write = w.stage.no_write;
    }
