use Rattle.std.proofs.Common.{◌≢◌, ◌%◌, ℕ, arith, None, ◌∙◌}
use Rattle.g704_framing.specs.Restart.{last_of}
use Rattle.g704_framing.proofs.Standings.{place-history, since-more}
use Rattle.g704_align.specs.Loss.{frame_alignment}
use Rattle.g704_align.specs.Placing.{frames}
use Rattle.g704_align.proofs.Standing.{place-aligned, place-signal, place-unless_aligned, place-left}
use Rattle.g704_align.proofs.Steps.{between-signals}
use Rattle.g704_align.proofs.alignment.Aligner.pass.Goals as goal

-- an age that half a frame does not divide is no whole number of frames
not_signal : (age : ℕ) → age % 16 ≢ 0 → age % 32 ≢ 0
not_signal age ne e = ne (omega (arith, e))

pub returns-then-now-ne0-clause-placed : goal.returns-then-now-ne0-clause-placed
returns-then-now-ne0-clause-placed c history octet h =
    let fields = rw c.in-Aligned.is at h.fields in
    let more = between-signals h.since octet _ _ _ fields _
    (not_signal _ c.if-now-ne0.true) c.next_age.ensures in
    c.slot_at.ensures
    ∙ place-aligned (last_of None h.earlier) h.since octet _ _ _ _ _ _ fields more
    ∙ place-history frames history h.earlier h.since octet h.whole h.over

pub returns-then-now-ne0-clause-stands : goal.returns-then-now-ne0-clause-stands
returns-then-now-ne0-clause-stands c history octet h =
    since-more frame_alignment _ history h.earlier h.since octet h.whole h.over
    (between-signals h.since octet _ _ _ (rw c.in-Aligned.is at h.fields) _
    (not_signal _ c.if-now-ne0.true) c.next_age.ensures)

pub returns-else-now-ne0-clause-left : goal.returns-else-now-ne0-clause-left
returns-else-now-ne0-clause-left c history octet h = place-left c.args.self.now.phase history octet h
    (place-signal (last_of None h.earlier) h.since octet _ _ _ (rw c.in-Aligned.is at h.fields) c.if-now-ne0.false)

pub returns-in_default-clause-left : goal.returns-in_default-clause-left
returns-in_default-clause-left c history octet h = place-left c.args.self.now.phase history octet h
    (place-unless_aligned c.args.self.now.phase (last_of None h.earlier) h.since octet h.fields
    c.in_default.not-Aligned)
