use Rattle.gw_speech.proofs.Common.{◌≡◌, ◌-◌, ◌∙◌, ◌<◌, ◌^◌, ℕ, take, drop, replicate, ap, length-take-le, length-drop}
use Rattle.gw_speech.proofs.Common.{arith, rules, between-put_mid, All-append, idle_code, word_bits}
use Rattle.gw_speech.proofs.InPlace.{coded_behind}
use Rattle.gw_speech.proofs.PacketLemmas.{filled_way}
use Rattle.gw_speech.proofs.encode.fill_last.Goals as goal

pub returns : goal.returns
returns c =
    let held = c.args.held in
    let end = c.filled_len-end.result in
    let e = c.filled_len-end.ensures in
    let len = length-take-le (end - held) (drop held c.args.speech.now)
    (omega (arith, length-drop held c.args.speech.now, e.most, c.requires.room)) in
    let quiet = c.fill.ensures.len ∙ len in
    let idle : c.fill.new.self ≡ replicate (c.filled_len-end.result - c.args.held) (idle_code c.args.spec.now.law) =
    c.fill.ensures.after (λ y e. e) ∙ ap (λ (n : ℕ). replicate n c.idle.result) len
    ∙ ap (replicate (end - held)) c.idle.ensures in
    let coded = rw (between-put_mid held (end - held) c.args.speech.now c.fill.new.self end (omega arith) quiet)
    at c.encode_all.ensures in
    record {
      within = search rules;
      fit = rw (coded_behind c.args.speech.now c.fill.new.self c.encode_all.new.octets held end e.least
          (omega (arith, e.most, c.requires.room)) quiet (coded.len ∙ quiet))
          (All-append (λ w. w < 2 ^ word_bits c.args.spec.now) (take held c.args.speech.now) c.encode_all.new.octets
          c.requires.fit coded.fit);
      filled = λ given sent count way. filled_way c.args.speech.now c.encode_all.new.codec end c.fill.new.self
          c.encode_all.new.octets c.words_are_counted.ensures way c.requires.open c.requires.room e.least e.most e.none
          e.one idle (coded.words given way.stands) (coded.stands given way.stands) coded.len;
    }
