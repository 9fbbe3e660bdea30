use Rattle.gw_log.proofs.resuming.replayed.Goals as goal

pub returns-in-Ok-give_all : goal.returns-in-Ok-give_all
returns-in-Ok-give_all c =
    (c.in-Ok.loaded, record { was = c.in-Ok.ensures; given = c.in-Ok-give_all.ensures })
