-- The boards that a trim and an undo leave, by setpoint, depth, signer and entries.
use Rattle.std.proofs.Common.{◌≡◌, ℕ, suc, ◌+◌, ◌-◌, ◌<◌, List, get_or, set, ℤ, pos, ◌+ℤ◌, ◌-ℤ◌, ap, ◌∙◌, arith}
use Rattle.feed.specs.Board.{made, write}
use Rattle.feed.specs.Job.{most_entries}
use Rattle.feed.specs.Whole.{pushed, popped, entry}
use Rattle.feed.specs.declared.board.Board.{Board}
use Rattle.feed.specs.declared.board.Register.TheVariants.{Setpoint, Depth, Signer, Entry}
use Rattle.feed.proofs.Entries.{entry_read, entry-written}

pub pushed-made : (a k w : ℕ) (es : List ℤ) (d : ℤ) (b : ℕ) → k < most_entries → pos a +ℤ d ≡ pos b →
    pushed (made a k w es) d ≡ made b (suc k) 0 (set es k d)
pushed-made a k w es d b h e =
    let unsigned : Board → ℕ → ℤ → Board = λ c x z. write (write (write c Depth (pos x)) Setpoint z) Signer (pos 0) in
    let one : k + 1 ≡ suc k = omega arith in
    ap (λ x. unsigned (write (made a k w es) (Entry (pos x)) d) x (pos a +ℤ d)) one ∙
    ap (λ c. unsigned c (suc k) (pos a +ℤ d)) (entry-written a k w es k h d) ∙
    ap (unsigned (made a k w (set es k d)) (suc k)) e

pub popped-made : (a j w : ℕ) (es : List ℤ) (b : ℕ) → j < most_entries → pos a -ℤ get_or es j (pos 0) ≡ pos b →
    popped (made a (suc j) w es) ≡ made b j 0 es
popped-made a j w es b h e =
    let unsigned : ℕ → ℤ → Board = λ x z. write (write (write (made a (suc j) w es) Depth (pos x)) Setpoint z) Signer (pos 0) in
    let one : suc j - 1 ≡ j = omega arith in
    ap (λ x. unsigned x (pos a -ℤ entry (made a (suc j) w es) (suc j))) one ∙
    ap (λ d. unsigned j (pos a -ℤ d)) (entry_read a (suc j) w es j h) ∙ ap (unsigned j) e
