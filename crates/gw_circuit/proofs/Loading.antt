-- Speech and circuits as octets, and back.
use Rattle.gw_circuit.proofs.Common.{◌≡◌, ◌<◌, ◌≤◌, ◌*◌, ◌%◌, ◌^◌, ℕ, true, List, [], ◌∷◌, ◌++◌, length, refl, sym, ap}
use Rattle.gw_circuit.proofs.Common.{rules, common_steps, ◌∙◌, append_assoc, Option, Some, None, Bool, false, arith}
use Rattle.gw_circuit.proofs.Common.{nat_lt, Result, Ok, Err, list_all, CodecKind, bits_of, saved_playout, Law, Line}
use Rattle.gw_circuit.proofs.Common.{saved_line, CircuitConfig, Circuit, Speech, CircuitEvent, CodedPacket}
use Rattle.gw_circuit.proofs.Common.{format_after, SpeechHistory, packet_size, saved_coding, saved_packet, saved_speech}
use Rattle.gw_circuit.proofs.Common.{saved_numbers, saved_circuit, HasHistory}
use Rattle.std.proofs.Common.{All, OnOk, is_some, not, IfSome, IfNone, subst}
use mathlib.Core.HLevel.{is_prop→PathP}
use Rattle.std.proofs.Props.{props}
use Rattle.std.proofs.lemmas.Bool.Decides.{nat_tests}
use Rattle.std.proofs.lemmas.List.Elements.{All-head, All-tail}
use Rattle.rtp_playout.specs.Standing.{IsBelow}
use Rattle.q421_line.specs.Line as line
use Rattle.gw_circuit.specs.declared.circuit.saving.Numbers.{Numbers}
use Rattle.gw_circuit.proofs.Spells.{stretch-none}
use Rattle.gw_circuit.proofs.Turns.{keeps-of, with_parts, stands-new}

-- words that are each below a bound pass the test of it
pub words-pass : (bound : ℕ) (words : List ℕ) → All (λ w. w < bound) words → list_all (λ w. nat_lt w bound) words ≡ true
words-pass bound [] each = refl
words-pass bound (w ∷ words) each =
    let less = All-head (λ v. v < bound) w words each in
    let one : nat_lt w bound ≡ true = grind (arith, nat_tests) in
    rw one (words-pass bound words (All-tail (λ v. v < bound) w words each))

-- what two calls append is appended one after the other
pub append-two : {E : Type 0} (result : Result (Unit {0}) E) (out a b one new : List ℕ) → one ≡ out ++ a
    → OnOk result (new ≡ one ++ b) → OnOk result (new ≡ out ++ (a ++ b))
append-two (Err fault) out a b one new e f = tt
append-two (Ok done) out a b one new e f = f ∙ ap (λ (os : List ℕ). os ++ b) e ∙ append_assoc out a b

-- the same of three calls
pub append-three : {E : Type 0} (result : Result (Unit {0}) E) (out a b c one two new : List ℕ) → one ≡ out ++ a
    → two ≡ one ++ b → OnOk result (new ≡ two ++ c) → OnOk result (new ≡ out ++ (a ++ b ++ c))
append-three result out a b c one two new e f g =
    append-two result out (a ++ b) c two new (f ∙ ap (λ (os : List ℕ). os ++ b) e ∙ append_assoc out a b) g

-- three parts, and what is behind them
pub three-parts : (a b c rest : List ℕ) → (a ++ b ++ c) ++ rest ≡ a ++ (b ++ (c ++ rest))
three-parts a b c rest = append_assoc (a ++ b) c rest ∙ append_assoc a b (c ++ rest)

-- three parts are read one after the other
pub read-three : (a b c all one two rest : List ℕ) → all ≡ a ++ one → one ≡ b ++ two → two ≡ c ++ rest
    → all ≡ (a ++ b ++ c) ++ rest
read-three a b c all one two rest e f g =
    e ∙ ap (λ (os : List ℕ). a ++ os) (f ∙ ap (λ (os : List ℕ). b ++ os) g) ∙ sym (three-parts a b c rest)

-- the bound of words of this many bits, made by a shift
pub bound-of : (kind : CodecKind) → 1 * 2 ^ bits_of kind % 65536 ≡ 2 ^ bits_of kind
bound-of kind = search rules

-- the octets of speech begin with its codec; the packet is next, then the playout
pub speech-octets : (s : Speech) (rest : List ℕ) → saved_speech s ++ rest
    ≡ saved_coding s.kind s.payload_type s.coder.codec
    ++ (saved_packet s.coder.packet ++ (saved_playout s.playout ++ rest))
unfolding saved_speech
speech-octets s rest = grind (arith, common_steps)

-- speech by its parts
pub same-speech : (one other : Speech) → one.kind ≡ other.kind → one.payload_type ≡ other.payload_type
    → one.coder.codec ≡ other.coder.codec → one.playout ≡ other.playout → one.coder.packet ≡ other.coder.packet
    → one.size ≡ other.size → one ≡ other
same-speech one other kind type codec playout packet size = λ i. record {
  kind = kind i;
  payload_type = type i;
  coder = record { codec = codec i; packet = packet i };
  playout = playout i;
  size = size i;
  type_fits = is_prop→PathP (λ j. type j < 128) (λ j. Prim.hlevel props) one.type_fits other.type_fits i;
  kind_is = is_prop→PathP (λ j. (codec j).kind ≡ kind j) (λ j. Prim.hlevel props) one.kind_is other.kind_is i;
  most = is_prop→PathP (λ j. size j ≤ 240) (λ j. Prim.hlevel props) one.most other.most i;
  whole = is_prop→PathP (λ j. size j % 8 ≡ 0) (λ j. Prim.hlevel props) one.whole other.whole i;
  room = is_prop→PathP (λ j. length (packet j) < size j) (λ j. Prim.hlevel props) one.room other.room i;
  words = is_prop→PathP (λ j. All (λ w. w < 2 ^ bits_of (kind j)) (packet j)) (λ j. Prim.hlevel props) one.words
      other.words i;
  below = is_prop→PathP (λ j. IsBelow (2 ^ bits_of (kind j)) (playout j)) (λ j. Prim.hlevel props) one.below
      other.below i;
}

-- the octets of a circuit begin with its numbers; the line is next, then the speech
pub circuit-octets : (c : Circuit) (rest : List ℕ) → saved_circuit c ++ rest
    ≡ saved_numbers c ++ (saved_line c.line ++ (saved_speech c.speech ++ rest))
unfolding saved_circuit
circuit-octets c rest = three-parts (saved_numbers c) (saved_line c.line) (saved_speech c.speech) rest

-- the numbers that were read are these
pub numbers-told : (n : Numbers) (clock sequence sent received dropped : ℕ)
    → Some n ≡ Some (record {
      clocks = record { clock = clock; sequence = sequence };
      counts = record { sent = sent; received = received; dropped = dropped };
    }) → (n.clocks.clock ≡ clock) × (n.clocks.sequence ≡ sequence) × (n.counts.sent ≡ sent)
    × (n.counts.received ≡ received) × (n.counts.dropped ≡ dropped)
numbers-told n clock sequence sent received dropped e = grind (arith, common_steps)

-- a circuit by its parts
pub same-circuit : (one other : Circuit) → one.law ≡ other.law → one.config ≡ other.config → one.line ≡ other.line
    → one.speech ≡ other.speech → one.clock ≡ other.clock → one.sequence ≡ other.sequence
    → one.sent_count ≡ other.sent_count → one.received ≡ other.received → one.dropped ≡ other.dropped → one ≡ other
same-circuit one other law config line speech clock sequence sent received dropped = grind (arith, common_steps)

-- a circuit whose coder is the same, and all else
pub same-coder : (one other : Circuit) → one.speech.coder ≡ other.speech.coder
    → record one { speech = other.speech } ≡ other → one.speech.kind ≡ other.speech.kind
    → one.speech.payload_type ≡ other.speech.payload_type → one.speech.playout ≡ other.speech.playout
    → one.speech.size ≡ other.speech.size → one ≡ other
same-coder one other coder rest kind type playout size =
    let speech = same-speech one.speech other.speech kind type (ap (λ (p : CodedPacket). p.codec) coder) playout
    (ap (λ (p : CodedPacket). p.packet) coder) size in
    ap (λ (s : Speech). record one { speech = s }) speech ∙ rest

-- a circuit with a new line, and speech that begins anew, stands before its first item
pub stands-cleared : (c : Circuit) (law : Law) (config : CircuitConfig) (items : List CircuitEvent) (l : Line)
    (s : Speech)
    → HasHistory c law config items → line.HasHistory l c.config.role []
    → SpeechHistory s c.law (record { kind = c.config.codec; payload_type = c.config.payload_type })
    (packet_size c.config)
    c.config.prefill [] [] → c.config.sequence < 2 ^ 16
    → HasHistory (record {
      law = c.law;
      config = c.config;
      line = l;
      speech = s;
      clock = 0;
      sequence = c.config.sequence;
      sent_count = 0;
      received = 0;
      dropped = 0;
    }) law config []
stands-cleared c law config items l s stands at speaks small = search (rules, keeps-of, stands-new)

-- so does a circuit that stands there, with these parts
with-parts : (c : Circuit) (law : Law) (config : CircuitConfig) (l : Line) (s : Speech) → HasHistory c law config []
    → line.HasHistory l config.role []
    → SpeechHistory s law (format_after law config []) (packet_size config) config.prefill [] []
    → HasHistory (with_parts c l s) law config []
unfolding HasHistory
with-parts c law config l s keeps at speaks = grind (arith, stretch-none law config)

-- the same where its line was read already
pub stands-reset : (k c : Circuit) (law : Law) (config : CircuitConfig) (l : Line) (s : Speech)
    → k ≡ record c { line = k.line } → HasHistory c law config [] → line.HasHistory l k.config.role []
    → SpeechHistory s k.law (format_after law config []) (packet_size config) config.prefill [] []
    → HasHistory (with_parts k l s) law config []
stands-reset k c law config l s is stands at speaks =
    let keeps = keeps-of c law config [] stands in
    let law_is : k.law ≡ law = ap (λ (x : Circuit). x.law) is ∙ keeps.law_is in
    let config_is : k.config ≡ config = ap (λ (x : Circuit). x.config) is ∙ keeps.config_is in
    subst (λ (x : Circuit). HasHistory (with_parts x l s) law config []) (sym is)
    (with-parts c law config l s stands (rw config_is at at) (rw law_is at speaks))

-- where a result is tested to be none, what it says of that holds
pub none-says : (result : Option (Unit {0})) (P : Type 0) (b : Bool) → IfNone result P → is_some result ≡ not b
    → b ≡ true → P
none-says result P b p e f = search rules

-- a result that is there is not tested to be none
pub some-is-there : (result : Option (Unit {0})) (b : Bool) → result ≡ Some tt → is_some result ≡ not b → b ≡ true → ⊥
some-is-there result b is e f = none-says result ⊥ b (rw is tt) e f

-- what holds anyway holds where a result is none
pub none-holds : (result : Option (Unit {0})) (P : Type 0) → P → IfNone result P
none-holds None P p = p
none-holds (Some done) P p = tt

-- where a result is not tested to be none, what it says if it is there holds
pub some-says : (result : Option (Unit {0})) (P : Type 0) (b : Bool) → IfSome result (λ done. P)
    → is_some result ≡ not b → b ≡ false → P
some-says result P b p e f = search rules
