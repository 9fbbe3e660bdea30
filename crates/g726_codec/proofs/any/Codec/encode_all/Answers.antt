use Rattle.g726_codec.proofs.any.Codec.encode_all.Goals as goal

pub returns-in-G16 : goal.returns-in-G16
returns-in-G16 c =
    let coded = c.encode_all.ensures in
    rw c.in-G16.is (record { len = coded.len; fit = coded.fit; words = coded.words; state = rw coded.state })

pub returns-in-G24 : goal.returns-in-G24
returns-in-G24 c =
    let coded = c.encode_all-in-G24.ensures in
    rw c.in-G24.is (record { len = coded.len; fit = coded.fit; words = coded.words; state = rw coded.state })

pub returns-in-G32 : goal.returns-in-G32
returns-in-G32 c =
    let coded = c.encode_all-in-G32.ensures in
    rw c.in-G32.is (record { len = coded.len; fit = coded.fit; words = coded.words; state = rw coded.state })

pub returns-in-G40 : goal.returns-in-G40
returns-in-G40 c =
    let coded = c.encode_all-in-G40.ensures in
    rw c.in-G40.is (record { len = coded.len; fit = coded.fit; words = coded.words; state = rw coded.state })
