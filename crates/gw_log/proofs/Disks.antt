-- What the files of a log hold, and what is read of them.
use Rattle.std.proofs.Common.{◌≡◌, ◌∙◌, ◌++◌, ◌⊎◌, ℕ, List, Option, Some, None, refl, ap}
use Rattle.std.proofs.Common.{inl, inr, append_assoc, arith}
use Rattle.log_files.specs.Area.{HasAreaOf, IsArea, IsBlank, head}
use Rattle.log_files.specs.Loading.{kept_of}
use Rattle.log_files.specs.Pairs.{Contents, Has, HasNothingWhole, IsBefore, IsNewest, Kept, LogState, PairState}
use Rattle.log_files.specs.Pairs.{StandsFor}
use Rattle.log_files.specs.declared.loading.Loaded.{Loaded}
use Rattle.log_files.specs.declared.loading.Loaded.TheVariants.{First, Second}
use Rattle.log_files.proofs.Logs.{blank_before, newest_first, newest_second}
use Rattle.gw_log.specs.Logs.{files_over}
use Rattle.gw_log.specs.Resuming.{IsFoundIn}
use Rattle.gw_log.specs.Starts.{Disk, IsFrontOf, ReadsWhatWasWritten}

-- what has an area at its front has it
area_front : (content octets : List ℕ) (turn : ℕ) (written : List ℕ) → HasAreaOf content octets
    → IsArea octets turn written → IsArea content turn written
area_front content octets turn written f a = record {
  behind = a.behind ++ f.behind;
  content_is = f.content_is ∙ ap (λ (xs : List ℕ). xs ++ f.behind) a.content_is
      ∙ append_assoc (head turn written) (written ++ a.behind) f.behind
      ∙ ap (λ (xs : List ℕ). head turn written ++ xs) (append_assoc written a.behind f.behind);
  turn_fits = a.turn_fits;
  len_fits = a.len_fits;
}

-- what is read of a pair has what the pair has
read_has : {pair octets : Contents} {kept : Kept} → IsFrontOf pair octets → Has pair kept → Has octets kept
read_has {kept = kept} f h = record {
  state = f.state.area kept.turn kept.state h.state;
  records = f.records.area kept.turn kept.records h.records;
}

-- .. and nothing else
has_read : {pair octets : Contents} {kept : Kept} → IsFrontOf pair octets → Has octets kept → Has pair kept
has_read {pair = pair} {octets = octets} {kept = kept} f h = record {
  state = area_front pair.state octets.state kept.turn kept.state f.state h.state;
  records = area_front pair.records octets.records kept.turn kept.records f.records h.records;
}

-- what is newest of what files hold is so of what is read of them
pub read_newest : {disk : Disk} {first second : Contents} {kept : Kept} → ReadsWhatWasWritten disk first second
    → IsNewest disk.first disk.second kept → IsNewest first second kept
read_newest r (inl n) = inl (read_has r.first_is n.0, λ k h. n.1 k (has_read r.second_is h))
read_newest r (inr n) = inr (read_has r.second_is n.0, λ k h. n.1 k (has_read r.first_is h))

-- .. and the other way round
pub newest_read : {disk : Disk} {first second : Contents} {kept : Kept} → ReadsWhatWasWritten disk first second
    → IsNewest first second kept → IsNewest disk.first disk.second kept
newest_read r (inl n) = inl (has_read r.first_is n.0, λ k h. n.1 k (read_has r.second_is h))
newest_read r (inr n) = inr (has_read r.second_is n.0, λ k h. n.1 k (read_has r.first_is h))

-- files of which nothing whole is read have nothing whole
pub none_read : {pair octets : Contents} → IsFrontOf pair octets → HasNothingWhole octets → HasNothingWhole pair
none_read f none kept h = none kept (read_has f h)

-- one thing is newest
pub one_newest : {first second : Contents} {a b : Kept} → IsNewest first second a → IsNewest first second b → a ≡ b
one_newest {b = b} (inl n) m = newest_first n b m
one_newest {b = b} (inr n) m = newest_second n b m

-- nothing is newest of two pairs that have nothing whole
pub none_newest : {first second : Contents} {kept : Kept} → HasNothingWhole first → HasNothingWhole second
    → ¬ IsNewest first second kept
none_newest {kept = kept} none none' (inl n) = none kept n.0
none_newest {kept = kept} none none' (inr n) = none' kept n.0

-- a pair whose state is blank has nothing whole
pub blank_nothing : {pair : Contents} → IsBlank pair.state → HasNothingWhole pair
blank_nothing blank kept h = absurd (omega (arith, blank_before blank 0 kept h))

-- files over what holds this: nothing was ever kept; or the newest stands
abbrev pub IsOver : Disk → LogState → Type 0
IsOver disk files = (HasNothingWhole disk.first × HasNothingWhole disk.second
    × (files.newest.contents ≡ Some disk.second) × (files.other.contents ≡ Some disk.first))
    ⊎ ((kept : Kept) × IsNewest disk.first disk.second kept × StandsFor files kept)

-- so are files that are opened over what was read
pub over_read : (disk : Disk) (first second : Contents) (pair other : PairState) (found : Option Loaded)
    → ReadsWhatWasWritten disk first second → IsFoundIn first second found → pair.contents ≡ Some disk.first
    → other.contents ≡ Some disk.second → IsOver disk (files_over pair other found)
over_read disk first second pair other None r is one two =
    inl (none_read r.first_is is.0, none_read r.second_is is.1, two, one)
over_read disk first second pair other (Some (First k)) r is one two =
    let has : Has disk.first (kept_of k) = has_read r.first_is is.0 in
    let before : IsBefore k.turn disk.second = λ kept h. is.1 kept (read_has r.second_is h) in
    inr (
      kept_of k,
      inl (has, before),
      record { turn = refl; len = refl; sums = refl; newest = rw one has; other = rw two before },
    )
over_read disk first second pair other (Some (Second k)) r is one two =
    let has : Has disk.second (kept_of k) = has_read r.second_is is.0 in
    let before : IsBefore k.turn disk.first = λ kept h. is.1 kept (read_has r.first_is h) in
    inr (
      kept_of k,
      inr (has, before),
      record { turn = refl; len = refl; sums = refl; newest = rw two has; other = rw one before },
    )
