use Rattle.std.proofs.Common.{ap, arith}
use Rattle.g704_slots.proofs.Standing.{stands-passed, history-more}
use Rattle.g704_slots.proofs.mover.SlotMover.take.Goals as goal
use Rattle.g704_slots.proofs.mover.SlotMover.take.Goals.{then-self-gt0, else-self-gt0}

pub returns-clause-stands : goal.returns-clause-stands
returns-clause-stands c first history h = elim c.if-self-gt0.branch [
  | then-self-gt0 w ↦
      history-more c.args.self.now c.if-self-gt0.self first history c.args.octet c.from.result c.next_place-self.result
      h (ap (λ m. m.memory) w.self-is) (ap (λ m. m.at) w.self-is) (ap (λ m. m.place) w.self-is)
      (rw w.self-is (stands-passed c.args.self.now.phase c.args.self.now.pass first history c.args.octet
      w.if-self-gt0.true h.since)) c.from.ensures c.next_place-self.ensures
  | else-self-gt0 w ↦
      history-more c.args.self.now c.if-self-gt0.self first history c.args.octet c.from.result c.next_place-self.result
      h (ap (λ m. m.memory) w.self-is) (ap (λ m. m.at) w.self-is) (ap (λ m. m.place) w.self-is)
      (rw (w.self-is, w.pass_of-self.ensures) (w.phase_after-self.ensures first history h
      (let none = w.if-self-gt0.false in omega arith))) c.from.ensures c.next_place-self.ensures
]
