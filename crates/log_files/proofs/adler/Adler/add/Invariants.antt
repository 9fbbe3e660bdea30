use Rattle.std.proofs.Common.{◌≡◌, ◌<◌, ◌++◌, ℕ, List, take}
use Rattle.log_files.specs.Adler.{sums_of}
use Rattle.log_files.proofs.adler.Adler.add.Given as goal

abbrev pub invariant-loop-octet : goal.invariant-loop-octet
invariant-loop-octet l = record {
  sums : (before : List ℕ) → l.fn.self ≡ sums_of before
      → record { s1 = l.self-inside.s1; s2 = l.self-inside.s2 } ≡ sums_of (before ++ take l.octet-index l.octets);
  one : l.self-inside.s1 < 65521;
  two : l.self-inside.s2 < 65521;
}
