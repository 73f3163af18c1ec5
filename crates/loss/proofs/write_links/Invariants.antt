-- `write_links`: the bytes at the end are those now, with the links from here on.
use Rattle.loss.proofs.Linking.{Between}
use Rattle.loss.proofs.write_links.Given as goal

abbrev pub invariant-loop-far : goal.invariant-loop-far
invariant-loop-far l = Between l.first l.second l.fn.links l.links l.near l.other_near l.far-iterator l.at
