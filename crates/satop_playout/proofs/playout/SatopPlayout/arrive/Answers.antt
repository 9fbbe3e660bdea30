use Rattle.std.proofs.Common.{rules, refl, sym}
use Rattle.satop_playout.specs.Plays.{arrival_answer, stream}
use Rattle.satop_playout.specs.Standing.{HasHistory}
use Rattle.satop_playout.proofs.Keeping.{stands-refused, stands-put}
use Rattle.satop_playout.proofs.playout.SatopPlayout.arrive.Goals as goal

pub returns-in_err-place-clause-reply : goal.returns-in_err-place-clause-reply
unfolding HasHistory arrival_answer
returns-in_err-place-clause-reply c = search rules

pub returns-in_err-place-clause-stands : goal.returns-in_err-place-clause-stands
unfolding HasHistory
returns-in_err-place-clause-stands c = λ settings calls k.
    stands-refused c.args.self.now settings calls c.args.sequence c.args.octets.now _ k
    (c.in_err-place.ensures.why settings (stream settings calls) k)

pub returns-clause-reply : goal.returns-clause-reply
unfolding HasHistory arrival_answer
returns-clause-reply c = search rules

pub returns-clause-stands : goal.returns-clause-stands
returns-clause-stands c = λ settings calls k.
    let size = c.in_ok-place.ensures.size in
    stands-put c.args.self.now _ settings calls c.args.sequence c.args.octets.now c.in_ok-place.place
    c.slot_at-slot.result c.put.new.self k (λ s own. c.in_ok-place.ensures.why c.args.self.now.settings s own) refl refl
    refl refl c.max-self.ensures refl refl c.in_ok-place.ensures.near c.slot_at-slot.ensures
    (rw (sym size) c.put.ensures)
