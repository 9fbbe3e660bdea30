use Rattle.gw_circuit.proofs.Common.{◌≡◌, ◌++◌, ◌<◌, ◌*◌, ◌%◌, ◌^◌, [], length, refl, ap, sym, ◌∙◌, arith, CodecState}
use Rattle.gw_circuit.proofs.Common.{bits_of, saved_playout, CodedPacket, saved_coding, saved_packet, saved_speech}
use Rattle.rtp_playout.specs.Standing.{IsBelow}
use Rattle.gw_circuit.proofs.Loading.{bound-of, read-three, speech-octets, same-speech}
use Rattle.gw_circuit.proofs.speech.Speech.load.Goals as goal

pub returns-in_err-coded-clause-loaded : goal.returns-in_err-coded-clause-loaded
returns-in_err-coded-clause-loaded c = λ other coding mine size prefill heard before calls asked rest speaks fits stands e.
    let told = c.in_err-coded.ensures.loaded other.kind other.payload_type other.coder.codec
    (saved_packet other.coder.packet ++ (saved_playout other.playout ++ rest)) other.type_fits
    (ap (λ (s : CodecState). s.law) speaks.codec) other.kind_is fits.codec (e ∙ speech-octets other rest) in
    absurd (cc told.0)

pub returns-in_err-packet-clause-loaded : goal.returns-in_err-packet-clause-loaded
returns-in_err-packet-clause-loaded c = λ other coding mine size prefill heard before calls asked rest speaks fits stands e.
    let first = c.in_ok-coded.ensures.loaded other.kind other.payload_type other.coder.codec
    (saved_packet other.coder.packet ++ (saved_playout other.playout ++ rest)) other.type_fits
    (ap (λ (s : CodecState). s.law) speaks.codec) other.kind_is fits.codec (e ∙ speech-octets other rest) in
    let kind : c.in_ok-coded.coded.kind ≡ other.kind = cc first.0 in
    let room : length other.coder.packet < c.reset.new.self.size =
    let size_is = (c.reset.ensures c.args.law mine size prefill before asked stands).size_is in
    let other_is = speaks.size_is in
    let short = other.room in
    omega arith in
    let bits : c.bits.result ≡ bits_of other.kind = c.bits.ensures ∙ ap bits_of kind in
    let told = c.in_err-packet.ensures.loaded other.coder.packet (saved_playout other.playout ++ rest) room
    (rw bits other.words) first.1 in
    absurd (cc told.0)

pub returns-in_err-load-clause-loaded : goal.returns-in_err-load-clause-loaded
returns-in_err-load-clause-loaded c = λ other coding mine size prefill heard before calls asked rest speaks fits stands e.
    let first = c.in_ok-coded.ensures.loaded other.kind other.payload_type other.coder.codec
    (saved_packet other.coder.packet ++ (saved_playout other.playout ++ rest)) other.type_fits
    (ap (λ (s : CodecState). s.law) speaks.codec) other.kind_is fits.codec (e ∙ speech-octets other rest) in
    let kind : c.in_ok-coded.coded.kind ≡ other.kind = cc first.0 in
    let mine_is = c.reset.ensures c.args.law mine size prefill before asked stands in
    let size_is = mine_is.size_is ∙ sym speaks.size_is in
    let room : length other.coder.packet < c.reset.new.self.size = rw size_is other.room in
    let bits : c.bits.result ≡ bits_of other.kind = c.bits.ensures ∙ ap bits_of kind in
    let second = c.in_ok-packet.ensures.loaded other.coder.packet (saved_playout other.playout ++ rest) room
    (rw bits other.words) first.1 in
    let below : IsBelow (1 * 2 ^ c.bits-2.result % 65536) other.playout =
    rw (c.bits-2.ensures, kind, bound-of other.kind) other.below in
    let third = c.in_err-load.ensures.loaded other.playout prefill calls [] rest speaks.playout below fits.stream
    mine_is.playout second.1 in
    absurd (cc third.0)

pub returns-clause-loaded : goal.returns-clause-loaded
returns-clause-loaded c = λ other coding mine size prefill heard before calls asked rest speaks fits stands e.
    let first = c.in_ok-coded.ensures.loaded other.kind other.payload_type other.coder.codec
    (saved_packet other.coder.packet ++ (saved_playout other.playout ++ rest)) other.type_fits
    (ap (λ (s : CodecState). s.law) speaks.codec) other.kind_is fits.codec (e ∙ speech-octets other rest) in
    let kind : c.in_ok-coded.coded.kind ≡ other.kind = cc first.0 in
    let mine_is = c.reset.ensures c.args.law mine size prefill before asked stands in
    let size_is = mine_is.size_is ∙ sym speaks.size_is in
    let room : length other.coder.packet < c.reset.new.self.size = rw size_is other.room in
    let bits : c.bits.result ≡ bits_of other.kind = c.bits.ensures ∙ ap bits_of kind in
    let second = c.in_ok-packet.ensures.loaded other.coder.packet (saved_playout other.playout ++ rest) room
    (rw bits other.words) first.1 in
    let below : IsBelow (1 * 2 ^ c.bits-2.result % 65536) other.playout =
    rw (c.bits-2.ensures, kind, bound-of other.kind) other.below in
    let third = c.in_ok-load.ensures.loaded other.playout prefill calls [] rest speaks.playout below fits.stream
    mine_is.playout second.1 in
    let packet : c.in_ok-packet.packet.items ≡ other.coder.packet = cc second.0 in
    let codec : c.in_ok-coded.coded.codec ≡ other.coder.codec = cc first.0 in
    let made = c.of_words-self.ensures in (
      refl,
      same-speech _ other kind (cc first.0) (ap (λ (p : CodedPacket). p.codec) made ∙ codec) third.1
          (ap (λ (p : CodedPacket). p.packet) made ∙ packet) size_is,
      third.2,
    )

pub returns-clause-read : goal.returns-clause-read
unfolding saved_speech
returns-clause-read c =
    rw c.of_words-self.ensures
    (read-three (saved_coding c.in_ok-coded.coded.kind c.in_ok-coded.coded.payload_type c.in_ok-coded.coded.codec)
    (saved_packet c.in_ok-packet.packet.items) (saved_playout c.load.new.self) _ _ _ _ c.in_ok-coded.ensures.read
    c.in_ok-packet.ensures.read c.in_ok-load.ensures.read)
