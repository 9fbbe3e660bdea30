use Rattle.std.proofs.Common.{◌-◌, arith, refl, rules}
use Rattle.std.proofs.lemmas.List.{get_or-set_other}
use Rattle.gw_udp.proofs.Resting.{one-less}
use Rattle.gw_udp.proofs.readiness.Readiness.rests.Goals as goal

pub returns-then-self-at-eq0 : goal.returns-then-self-at-eq0
returns-then-self-at-eq0 c = record {
  looked = c.count.new.self;
  counted = c.count.ensures;
  receives = refl;
  most = refl;
  others = λ k other. refl;
  asks = λ e. (rw (c.from-at.ensures, c.get.ensures.value) at c.if-self-at-eq0.true, refl);
  rested = λ e. cc;
}

pub returns : goal.returns
returns c =
    let rests = c.count.new.self.rests in
    record {
      looked = c.count.new.self;
      counted = c.count.ensures;
      receives = refl;
      most = refl;
      others = rw (c.from-at.ensures, c.get.ensures.value) (λ k other.
          get_or-set_other rests (c.args.circuit - 1) k _ 0 other);
      asks = λ e. cc;
      rested = rw (c.from-at.ensures, c.get.ensures.value) (λ e. one-less rests (c.args.circuit - 1) (search rules)
          (omega (arith, rw (c.from-at.ensures, c.get.ensures.value) at c.if-self-at-eq0.false)));
    }
