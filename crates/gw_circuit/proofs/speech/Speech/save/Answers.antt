use Rattle.gw_circuit.proofs.Common.{saved_coding, saved_packet, saved_speech, saved_playout}
use Rattle.gw_circuit.proofs.Loading.{append-three}
use Rattle.gw_circuit.proofs.speech.Speech.save.Goals as goal

pub returns-clause-octets : goal.returns-clause-octets
unfolding saved_speech
returns-clause-octets c =
    let s = c.args.self.now in
    append-three c.save.result _ (saved_coding s.kind s.payload_type s.coder.codec) (saved_packet s.coder.packet)
    (saved_playout s.playout) _ _ _ (rw c.copy-codec.ensures.codec at c.in_ok-save_coding.ensures.octets)
    (rw c.copy-codec.ensures.words at c.in_ok-save_packet.ensures) c.save.ensures.octets
