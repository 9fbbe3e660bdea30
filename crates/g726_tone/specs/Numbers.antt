-- The variables of the adaptation as natural numbers, since none is negative.
use Rattle.std.specs.Prelude.{pos}
use Rattle.g726_tone.specs.Adaptation.{Adaptation}
use Rattle.g726_tone.specs.declared.adapt.numbers.AdaptNumbers.{AdaptNumbers}

-- the adaptation with these numbers
abbrev pub adaptation_of : AdaptNumbers → Adaptation
adaptation_of n = record {
  yu = pos n.yu;
  yl = pos n.yl;
  dms = pos n.dms;
  dml = pos n.dml;
  ap = pos n.ap;
  td = n.td;
}
