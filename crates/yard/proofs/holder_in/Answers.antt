-- `holder_in`: the whole search is the search from router i on.
use Rattle.format.specs.Sizes.{ipv4_sound}
use Rattle.yard.proofs.Sheets.{count-told, search_start, search_found, search_on, search_none}
use Rattle.yard.proofs.holder_in.Goals as goal

pub loop-i-init : goal.loop-i-init
loop-i-init c = search search_start

pub holder-found-requires : goal.holder-found-requires
holder-found-requires c = record { sound = ipv4_sound; interfaces_value = search count-told }

pub returns-in-Some : goal.returns-in-Some
returns-in-Some c = search search_found

pub loop-i-preserved : goal.loop-i-preserved
loop-i-preserved c = search search_on

pub returns : goal.returns
returns c = search search_none
