-- Reading and writing entry j + 1 of a board that has its entries in a list.
use Rattle.std.proofs.Common.{◌≡◌, ℕ, suc, ◌<◌, leb, List, get_or, set, ℤ, pos, Some, ap, ◌∙◌, arith}
use Rattle.std.proofs.lemmas.Bool.{cond-true, le-leb}
use Rattle.feed.specs.Board.{entry_position, made, read_at, write_at, read, write}
use Rattle.feed.specs.Job.{most_entries}
use Rattle.feed.specs.declared.board.Register.TheVariants.{Entry}

entry_there : (j : ℕ) → j < most_entries → entry_position (pos (suc j)) ≡ Some (suc (suc (suc j)))
entry_there j h =
    cond-true (leb 1 (suc j)) _ _ (le-leb 1 (suc j) (omega arith)) ∙ cond-true (leb (suc j) 64) _ _ (le-leb (suc j) 64 h) ∙
    ap Some (omega arith)

module _ (a k w : ℕ) (es : List ℤ) (j : ℕ) (h : j < most_entries) where
  pub entry_read : read (made a k w es) (Entry (pos (suc j))) ≡ get_or es j (pos 0)
  entry_read = ap (read_at (made a k w es)) (entry_there j h)

  pub entry-written : (d : ℤ) → write (made a k w es) (Entry (pos (suc j))) d ≡ made a k w (set es j d)
  entry-written d = ap (λ at. write_at (made a k w es) at d) (entry_there j h)
