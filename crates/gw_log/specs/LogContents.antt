-- What the files of a trunk's log have (module `log_contents`).
use Rattle.log_files.specs.Pairs.{Contents}
use Rattle.gw_log.specs.declared.log_contents.PairOctets.{PairOctets}

-- the octets of a pair of files
abbrev pub contents_of : PairOctets → Contents
contents_of pair = record { state = pair.state.items; records = pair.records.items }
