-- The laws that the lock owes. There are so few cases that the search finds them all.
use Rattle.std.proofs.Common.{rules}
use Rattle.lock.specs.Meaning.{Lawful}
use Rattle.solo.specs.Meaning.{solo_meaning}

pub lawful : Lawful solo_meaning
lawful = search rules
