use Rattle.g726_codec.proofs.any.Codec.decode.Goals as goal

pub returns-in-G16 : goal.returns-in-G16
returns-in-G16 c =
    let word = (rw c.unwrap.ensures at c.new.ensures).1 in
    let heard = rw word at c.decode.ensures in
    rw c.in-G16.is (record { octet = heard.octet; state = rw heard.state })

pub returns-in-G24 : goal.returns-in-G24
returns-in-G24 c =
    let word = (rw c.unwrap-in-G24.ensures at c.new-in-G24.ensures).1 in
    let heard = rw word at c.decode-in-G24.ensures in
    rw c.in-G24.is (record { octet = heard.octet; state = rw heard.state })

pub returns-in-G32 : goal.returns-in-G32
returns-in-G32 c =
    let word = (rw c.unwrap-in-G32.ensures at c.new-in-G32.ensures).1 in
    let heard = rw word at c.decode-in-G32.ensures in
    rw c.in-G32.is (record { octet = heard.octet; state = rw heard.state })

pub returns-in-G40 : goal.returns-in-G40
returns-in-G40 c =
    let word = (rw c.unwrap-in-G40.ensures at c.new-in-G40.ensures).1 in
    let heard = rw word at c.decode-in-G40.ensures in
    rw c.in-G40.is (record { octet = heard.octet; state = rw heard.state })
