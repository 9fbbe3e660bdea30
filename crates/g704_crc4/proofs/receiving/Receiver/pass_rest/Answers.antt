use Rattle.g704_crc4.proofs.Common.{◌≡◌, ◌++◌, ℕ, List, refl, arith, take, length-take-le, times_after}
use Rattle.std.specs.Prelude.{is_some}
use Rattle.g704_crc4.specs.declared.receiving.MultiframeSync.TheVariants as stages
use Rattle.g704_crc4.specs.Receivers.{ReceivesAfter}
use Rattle.g704_crc4.proofs.Quiet.{received-rest}
use Rattle.g704_crc4.proofs.receiving.Receiver.pass_rest.Goals.{After-pass_quiet}
use Rattle.g704_crc4.proofs.receiving.Receiver.pass_rest.Goals as goal

-- The receiver after the octets, by which nothing is learned.
passed : (c : After-pass_quiet) (history : List ℕ) → ReceivesAfter c.args.self.now history
    → ReceivesAfter (record {
      aligner = c.pass_rest-count.new.self;
      stage = stages.SubmultiframeCheck (record c.in-SubmultiframeCheck.following { checker = c.pass_quiet.new.self });
      searched = c.args.self.now.searched;
    }) (history ++ take c.pass_rest-count.result c.args.octets.now)
    × (times_after is_some history (take c.pass_rest-count.result c.args.octets.now) ≡ 0)
passed c history h =
    let octets = take c.pass_rest-count.result c.args.octets.now in
    let long = length-take-le c.pass_rest-count.result c.args.octets.now (omega arith) in
    received-rest c.args.self.now _ c.in-SubmultiframeCheck.following _ history octets h c.in-SubmultiframeCheck.is
    c.if-following-eq0.true (c.pass_rest-count.ensures.stands h.since octets h.fields.aligner long)
    (λ k lt. c.pass_rest-count.ensures.placed h.since octets h.fields.aligner long k (omega (arith, lt, long)))
    (record {
      begun = λ lt. c.quiet_count.ensures.begun (omega (arith, lt, long));
      in_frame = omega (arith, long);
      in_submultiframe = omega (arith, long);
    })
    c.pass_quiet.ensures.others c.pass_quiet.ensures.running

pub returns-in-SubmultiframeCheck-clause-stands : goal.returns-in-SubmultiframeCheck-clause-stands
returns-in-SubmultiframeCheck-clause-stands c history h =
    (passed (goal.at.returns-in-SubmultiframeCheck-clause-stands c).After-pass_quiet history h).0

pub returns-in-SubmultiframeCheck-clause-silent : goal.returns-in-SubmultiframeCheck-clause-silent
returns-in-SubmultiframeCheck-clause-silent c history h =
    (passed (goal.at.returns-in-SubmultiframeCheck-clause-silent c).After-pass_quiet history h).1

pub returns-in_default-clause-silent : goal.returns-in_default-clause-silent
unfolding times_after
returns-in_default-clause-silent c history h = refl

pub returns-in_default-2-clause-silent : goal.returns-in_default-2-clause-silent
unfolding times_after
returns-in_default-2-clause-silent c history h = refl
