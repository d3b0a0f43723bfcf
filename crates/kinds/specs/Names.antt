-- The letter and the words by which a kind of lock is known.
use Rattle.std.specs.Prelude.{◌≡◌, ℕ, List, Ok, Err, Result, ◌≢◌, codes}
use Rattle.kinds.specs.declared.LockKind.{LockKind}
use Rattle.kinds.specs.declared.LockKind.TheVariants.{Fast, OneBit}
use Rattle.kinds.specs.declared.names.NoSuchKind.{NoSuchKind}

-- 'F' and 'B'
abbrev pub kind_letter : LockKind → ℕ
kind_letter Fast = 70
kind_letter OneBit = 66

abbrev pub kind_words : LockKind → List ℕ
kind_words Fast = codes "fast"
kind_words OneBit = codes "one-bit"

-- the letter's kind of lock, or the refusal of a letter of none
abbrev pub KindRead : ℕ → Result LockKind NoSuchKind → Type 0
KindRead letter (Ok k) = letter ≡ kind_letter k
KindRead letter (Err e) = (k : LockKind) → letter ≢ kind_letter k

-- the kind of lock that is told by these words, or the refusal of words of none
abbrev pub KindNamed : List ℕ → Result LockKind NoSuchKind → Type 0
KindNamed text (Ok k) = text ≡ kind_words k
KindNamed text (Err e) = (k : LockKind) → text ≢ kind_words k
