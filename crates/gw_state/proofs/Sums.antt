-- Octets with a checksum.
use Rattle.std.proofs.Common.{◌≡◌, ◌≤◌, ◌++◌, ◌∷◌, [], ◌+◌, ℕ, List, length, take, drop, refl, sym, ap, ◌∙◌, arith}
use Rattle.std.proofs.Common.{Result, Ok, Err, IfOk, IfErr}
use Rattle.std.proofs.Math.Seq.{take-append_seam, drop-append_seam}
use Rattle.std.proofs.lemmas.List.{length-append, take-append-le, take-append-drop}
use Rattle.e1_g711.specs.declared.Law.{Law}
use Rattle.e1_g711.specs.declared.Law.TheVariants.{A, Mu}
use Rattle.sha2.specs.Sha256.{sha256}
use Rattle.sha2.proofs.Facts256.{length-sha256}
use Rattle.gw_switch.specs.declared.GatewayConfig.{GatewayConfig}
use Rattle.gw_switch.specs.Saved.{saved_gateway}
use Rattle.gw_switch.specs.Reconfigured.{RenewalsConfigure, RenewalsAreApart}
use Rattle.gw_state.specs.declared.fault.LoadFault.{LoadFault}
use Rattle.gw_state.specs.declared.fault.LoadFault.TheVariants.{OutOfMemory, Refused}
use Rattle.gw_state.specs.declared.fault.StateKind.TheVariants as kinds
use Rattle.gw_state.specs.declared.loading.Loaded.{Loaded}
use Rattle.gw_state.specs.Layout.{mark, law_octet, summed, saved_config, state_head, state_file}
use Rattle.gw_state.specs.Loaded.{ReadsAs, IsLoaded}
use Rattle.gw_state.specs.Faults.{BeginsWith, IsOutside, IsNotRead, Refuses}

-- octets with their checksum are cut in one place alone
pub summed-once : (front sum other : List ℕ) → length sum ≡ 32 → front ++ sum ≡ summed other
    → (front ≡ other) × (sum ≡ sha256 front)
summed-once front sum other counted e =
    let lengths : length front + length sum ≡ length other + length (sha256 other) =
    sym (length-append front sum) ∙ ap length e ∙ length-append other (sha256 other) in
    let same : length front ≡ length other = omega (arith, lengths, counted, length-sha256 other) in
    let fronts : front ≡ other = sym (take-append_seam front sum) ∙ ap (take (length front)) e
    ∙ ap (λ (n : ℕ). take n (summed other)) same ∙ take-append_seam other (sha256 other) in (
      fronts,
      sym (drop-append_seam front sum) ∙ ap (drop (length front)) e
          ∙ ap (λ (n : ℕ). drop n (summed other)) same ∙ drop-append_seam other (sha256 other) ∙ ap sha256 (sym fronts),
    )

-- the octets before a right checksum begin with the mark and the version
pub inner-of : (octets front : List ℕ) → octets ≡ summed front → BeginsWith (mark ++ 1 ∷ []) octets
    → (5 ≤ length front) × (front ≡ mark ++ 1 ∷ drop 5 front)
inner-of octets front whole begins =
    let counted : length octets ≡ length front + length (sha256 front) =
    ap length whole ∙ length-append front (sha256 front) in
    let long : 5 ≤ length front = omega (arith, begins.long, counted, length-sha256 front) in
    let first : take 5 front ≡ mark ++ 1 ∷ [] = sym (take-append-le 5 front (sha256 front) long)
    ∙ ap (take 5) (sym whole) ∙ begins.front_is in
    (long, sym (take-append-drop 5 front) ∙ ap (λ (os : List ℕ). os ++ drop 5 front) first)

-- what is between the version and the checksum is told by the whole
pub inner-same : (octets inner other : List ℕ) → octets ≡ summed (mark ++ 1 ∷ inner)
    → octets ≡ summed (mark ++ 1 ∷ other) → inner ≡ other
inner-same octets inner other whole whole' =
    ap (drop 5)
    (summed-once (mark ++ 1 ∷ inner) (sha256 (mark ++ 1 ∷ inner)) (mark ++ 1 ∷ other)
    (length-sha256 (mark ++ 1 ∷ inner)) (sym whole ∙ whole')).0

-- the octet of a law tells it
law-of : (law other : Law) → law_octet law ≡ law_octet other → law ≡ other
law-of A A e = refl
law-of Mu Mu e = refl
law-of A Mu e = absurd (omega (arith, e))
law-of Mu A e = absurd (omega (arith, e))

-- the first octet
abbrev first_of : List ℕ → ℕ
first_of [] = 0
first_of (o ∷ octets) = o

-- what was read from the octets of a state is loaded from its file
pub loaded : RenewalsConfigure → RenewalsAreApart → (config : GatewayConfig) (octets inner : List ℕ) (l : Loaded)
    → octets ≡ summed (mark ++ 1 ∷ inner) → ReadsAs config inner l → IsLoaded config octets l
unfolding state_file state_head
loaded configures apart config octets inner l whole read = record {
  saved = read.saved;
  file = whole ∙ ap (λ (os : List ℕ). summed (mark ++ 1 ∷ os)) read.whole;
  more = read.more;
  renewals = read.renewals;
  goes_on = λ first old other events stands fits e.
      let same : inner ≡ saved_config old ++ saved_gateway other =
      inner-same octets inner (saved_config old ++ saved_gateway other) whole e in
      let law : old.law ≡ l.old.law = law-of old.law l.old.law (ap first_of (sym same ∙ read.whole)) in
      let told = read.only old (saved_gateway other) fits (law ∙ read.law) same in
      let configured = rw told.0 at stands.configured in (
        told.0,
        record {
          stands = read.taken first events (read.goes_on first other events (record {
            stands = stands.stands;
            configured = configured;
            fits = stands.fits;
          }) (sym told.1));
          trunk = (apart l.old config events read.more read.renewals).0;
          each = (apart l.old config events read.more read.renewals).1;
          configured = configures first l.old config events read.more read.law configured read.renewals;
        },
      );
}

-- why what is inside is refused is why the file is
pub refused : (config : GatewayConfig) (octets inner : List ℕ) (fault : LoadFault)
    → octets ≡ summed (mark ++ 1 ∷ inner) → IsNotRead config inner fault → Refuses config octets fault
refused config octets inner OutOfMemory whole is = is
refused config octets inner (Refused kinds.Config number) whole is = record { inner = inner; whole = whole; is = is }
refused config octets inner (Refused kinds.Value number) whole is = record { inner = inner; whole = whole; is = is }
refused config octets inner (Refused kinds.Left number) whole is = record { inner = inner; whole = whole; is = is }
refused config octets inner (Refused kinds.Short number) whole is = absurd is.is
refused config octets inner (Refused kinds.NoState number) whole is = absurd is.is
refused config octets inner (Refused kinds.Version number) whole is = absurd is.is
refused config octets inner (Refused kinds.Sum number) whole is = absurd is.is

-- what was read is loaded, and why it was not read is why the file is refused
pub result-of : RenewalsConfigure → RenewalsAreApart → (config : GatewayConfig) (octets inner : List ℕ)
    (r : Result Loaded LoadFault)
    → octets ≡ summed (mark ++ 1 ∷ inner) → IfOk r (ReadsAs config inner) → IfErr r (IsNotRead config inner)
    → IfOk r (IsLoaded config octets) × IfErr r (Refuses config octets)
result-of configures apart config octets inner (Ok l) whole read none =
    (loaded configures apart config octets inner l whole read, tt)
result-of configures apart config octets inner (Err fault) whole read none =
    (tt, refused config octets inner fault whole none)
